use Rattle.cutter.proofs.Turns.{Laying}
use Rattle.cutter.proofs.laying.put_all.Given as goal

abbrev pub invariant-loop-k : goal.invariant-loop-k
invariant-loop-k l = Laying l.m l.w l.count l.params l.initial.out l.out l.at l.from l.k
