-- The item's record: its octets one by one.
use Prim.Native.Nat.{◌/◌, ◌%◌}
use mathlib.Core.Path.{◌≡◌}
use mathlib.Core.List.{[], ◌∷◌}
use Rattle.octets.specs.Numbers.{digits_four}
use Rattle.items.specs.Records.{Rec, record_octets}

pub item_octets : (r : Rec) → r.kind ∷ r.number ∷ r.depth ∷ r.value ∷ r.place / 16777216 % 256 ∷ r.place / 65536 % 256 ∷ r.place / 256 % 256 ∷ r.place % 256 ∷ r.len / 16777216 % 256 ∷ r.len / 65536 % 256 ∷ r.len / 256 % 256 ∷ r.len % 256 ∷ [] ≡ record_octets r
unfolding record_octets
item_octets r = rw (digits_four r.place, digits_four r.len)
