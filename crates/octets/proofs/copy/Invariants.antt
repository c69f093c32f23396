use Rattle.std.specs.Prelude.{length, ◌≡◌}
use Rattle.std.proofs.Common.{take}
use Rattle.octets.specs.Splice.{splice}
use Rattle.octets.proofs.copy.Given as goal

abbrev pub invariant-loop-i : goal.invariant-loop-i
invariant-loop-i l = (length l.dst ≡ length l.fn.dst) × (l.dst ≡ splice l.fn.dst l.at (take l.i l.src))
