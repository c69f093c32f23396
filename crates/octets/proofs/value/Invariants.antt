use Rattle.std.specs.Prelude.{◌≡◌, ◌<◌, ◌^◌}
use Rattle.octets.specs.Numbers.{value_at}
use Rattle.octets.proofs.value.Given as goal

abbrev pub invariant-loop-i : goal.invariant-loop-i
invariant-loop-i l = (l.v ≡ value_at l.s l.p l.i) × (l.v < 256 ^ l.i)
