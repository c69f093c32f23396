use Rattle.rebuild.proofs.Ways.{Passing}
use Rattle.rebuild.proofs.sound.Given as goal

abbrev pub invariant-loop-s : goal.invariant-loop-s
invariant-loop-s l = Passing l.slots l.s
