-- The octets of a good record's item: one layout for all kinds, in the record's own fields.
use Rattle.std.specs.Prelude.{ℕ, ◌+◌, ◌*◌, List, ◌∷◌, ◌++◌, length, take, drop, eqb}
use Rattle.octets.specs.Choice.{pick}
use Rattle.tags.specs.Layout.{number_octets, length_octets, high_bits, low_bits}
use Rattle.items.specs.Records.{Rec}

-- the low four bits of the tag octet: a boolean's value is in the length bits, and every other record has 0 there
unfoldable pub low_part : Rec → ℕ
low_part r = pick (eqb r.kind 0) (r.value + low_bits r.len) (pick (eqb r.kind 1) (8 + low_bits r.len) (pick (eqb r.kind 2) 14 15))

unfoldable pub tag_octet : Rec → ℕ
tag_octet r = high_bits r.number * 16 + low_part r

-- the octets, and how many they are
unfoldable pub layout : List ℕ → Rec → List ℕ
layout source r = tag_octet r ∷ (number_octets r.number ++ (length_octets r.len ++ take r.len (drop r.place source)))

unfoldable pub size_of : ℕ → ℕ → ℕ
size_of number len = 1 + length (number_octets number) + length (length_octets len) + len
