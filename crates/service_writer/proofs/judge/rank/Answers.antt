use Rattle.service_writer.proofs.Phases
use Rattle.service_writer.proofs.judge.rank.Goals as goal
use Rattle.service_writer.proofs.judge.rank.Goals.{then-l-ne1-via-then-l-ne1, then-l-ne1-via-else-l-ne1+then-s-p-lt1, then-l-ne1-via-else-l-ne1+else-s-p-lt1+then-s-p-gt16}

pub returns-then-l-ne1 : goal.returns-then-l-ne1
returns-then-l-ne1 c = elim c.then-l-ne1.branch [ then-l-ne1-via-then-l-ne1 w ↦ Phases.rank_other _ _ _ w.if-l-ne1.true | then-l-ne1-via-else-l-ne1+then-s-p-lt1 w ↦ Phases.rank_low _ _ _ w.if-l-ne1.false w.if-s-p-lt1.true | then-l-ne1-via-else-l-ne1+else-s-p-lt1+then-s-p-gt16 w ↦ Phases.rank_high _ _ _ w.if-l-ne1.false w.if-s-p-lt1.false w.if-s-p-gt16.true ]

pub returns : goal.returns
returns c = Phases.rank_good _ _ _ c.if-l-ne1.false c.if-s-p-lt1.false c.if-s-p-gt16.false
