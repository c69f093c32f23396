use Rattle.service_writer.proofs.Going
use Rattle.service_writer.proofs.judge.closed.Goals as goal
use Rattle.service_writer.proofs.judge.closed.Goals.{then-q-eq0-via-then-q-eq0, then-q-eq0-via-else-q-eq0+then-n-q}

pub returns-then-q-eq0 : goal.returns-then-q-eq0
returns-then-q-eq0 c = elim c.then-q-eq0.branch [ then-q-eq0-via-then-q-eq0 w ↦ Going.stepped_none _ _ _ c.requires _ _ w.if-q-eq0.true | then-q-eq0-via-else-q-eq0+then-n-q w ↦ Going.stepped_other _ _ _ c.requires _ _ w.if-q-eq0.false w.if-n-q.true ]

pub returns : goal.returns
returns c = Going.stepped_close _ _ _ c.requires _ _ c.if-q-eq0.false _ c.if-n-q.false c.passed.ensures
