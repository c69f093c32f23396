use Rattle.feeding.proofs.Fronts.{Seeking}
use Rattle.feeding.proofs.seek.Given as goal

abbrev pub invariant-loop-i : goal.invariant-loop-i
invariant-loop-i l = Seeking l.fn.area l.piece l.area l.near l.i
