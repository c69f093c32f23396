use Rattle.std.proofs.Common.{length, ◌-◌}
use Rattle.items.proofs.Read.{Walked}
use Rattle.items.proofs.cycle.+read.Given as goal

abbrev pub decreases-read : goal.decreases-read
decreases-read l = length l.s.now - l.at

abbrev pub invariant-loop-p : goal.invariant-loop-p
invariant-loop-p l = Walked l.group l.s l.at l.depth l.items l.fn.out l.out l.p l.k

abbrev pub decreases-loop-p : goal.decreases-loop-p
decreases-loop-p l = length l.s - l.p
