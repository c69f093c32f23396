-- The items that records name in a source of octets are laid out as octets.
use Prim.Native.Nat.{ℕ}
use mathlib.Core.List.{List, [], ◌∷◌}
use lib.Dec.{eqb, lit<}
use Rattle.octets.specs.Choice.{pick_case}
use Rattle.octets.specs.Reading.{Octets}
use Rattle.octets.specs.Every.{octets_join, octets_part}
use Rattle.tags.specs.Layout.{Thing, encode, contents_of}
use Rattle.tags.proofs.Octets.{encode_octets}
use Rattle.items.specs.Records.{Rec, thing_of, things_of}
use Rattle.items.specs.Grammar.{AllValid, encode_all}

octets_contents : (source : List ℕ) → Octets source → (r : Rec) → Octets (contents_of (thing_of source r))
unfolding thing_of
octets_contents source os r =
    let P : Thing → Type 0 = λ t. Octets (contents_of t) in
    let none : Octets [] = λ i. lit< tt in
    let xs = octets_part source r.place r.len os in
    pick_case P (eqb r.kind 0) (pick_case P (eqb r.number 1) none xs)
    (pick_case P (eqb r.kind 1) xs (pick_case P (eqb r.kind 2) none none))

pub octets_all : (source : List ℕ) → Octets source → (rs : List Rec) → AllValid (things_of source rs) → Octets (encode_all (things_of source rs))
unfolding things_of encode_all
octets_all source os [] v i = lit< tt
octets_all source os (r ∷ rs) v i =
    octets_join (encode (thing_of source r)) (encode_all (things_of source rs)) (encode_octets (thing_of source r) v.0 (octets_contents source os r)) (octets_all source os rs v.1) i
