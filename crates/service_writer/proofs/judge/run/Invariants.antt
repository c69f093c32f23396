use Rattle.std.specs.Prelude.{◌-◌, length}
use Rattle.service_writer.proofs.Going
use Rattle.service_writer.proofs.judge.run.Given as goal

abbrev pub invariant-loop-q : goal.invariant-loop-q
invariant-loop-q l = Going.Sofar l.s l.request l.fn.from l.q

abbrev pub decreases-loop-q : goal.decreases-loop-q
decreases-loop-q l = length l.s - l.q.at
