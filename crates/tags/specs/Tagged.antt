-- What the readers of one class are lent: the tag octet b stands at the place, and its bit 3 is c.
use Rattle.std.specs.Prelude.{ℕ, ◌/◌, ◌%◌, ◌<◌, ◌≡◌, List, length}
use Rattle.octets.specs.Reading.{oct}

pub record Tagged (s : List ℕ) (at b c : ℕ) : Type 0 where
  pub there : at < length s
  pub octet : b ≡ oct s at
  pub class : b % 16 / 8 ≡ c
