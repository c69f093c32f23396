-- What the octets of a signed number mean: two's complement over the width.
use Rattle.std.specs.Prelude.{ℕ, ◌-◌, ◌*◌, ◌^◌, List, ltb}
use Rattle.octets.specs.Choice.{pick}
use Rattle.octets.specs.Numbers.{value_at}

-- a whole number: minus m is that far below 0
pub data Whole : Type 0 where
  plus : ℕ → Whole
  minus : ℕ → Whole

-- the n octets at p: the lower half of what n octets hold is itself, the upper half lies below 0
unfoldable pub signed_value : List ℕ → ℕ → ℕ → Whole
signed_value s p n = pick (ltb (2 * value_at s p n) (256 ^ n)) (plus (value_at s p n)) (minus (256 ^ n - value_at s p n))
