use Rattle.std.proofs.Common.{arith, sym}
use Rattle.frames.proofs.Laws.{none, over, within}
use Rattle.frames.proofs.Link.sound.Goals as goal
use Rattle.frames.proofs.Link.sound.Goals.{then-n-eq0-via-then-n-eq0, then-n-eq0-via-else-n-eq0+then-n-gt501}

pub returns-then-n-eq0 : goal.returns-then-n-eq0
returns-then-n-eq0 c =
    rw (c.in-Data.is, ← c.length_of-n.ensures)
    (sym (elim c.then-n-eq0.branch [ then-n-eq0-via-then-n-eq0 w ↦ none _ _ w.if-n-eq0.true | then-n-eq0-via-else-n-eq0+then-n-gt501 w ↦ over _ _ w.if-n-gt501.true ]))

pub returns-else-n-gt501 : goal.returns-else-n-gt501
returns-else-n-gt501 c = rw (c.in-Data.is, ← c.length_of-n.ensures) (sym (within _ _ (omega (arith, c.if-n-eq0.false)) c.if-n-gt501.false))
