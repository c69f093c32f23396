use Rattle.feeding.proofs.Fronts.{Laying}
use Rattle.feeding.proofs.lay_head.Given as goal

abbrev pub invariant-loop-i : goal.invariant-loop-i
invariant-loop-i l = Laying l.fn.area l.piece l.from l.area l.got l.i
