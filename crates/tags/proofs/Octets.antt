-- An item's octets are octets where its contents are.
use Prim.Native.Nat.{ℕ, ◌+◌, ◌/◌, ◌%◌, ◌≤◌}
use native.Mathlib.Omega.{arith}
use mathlib.Core.List.{[], ◌∷◌, ◌++◌}
use lib.ListN.{length}
use lib.Dec.{ltb}
use borrow.Author.Tests.{ltb-true}
use Rattle.octets.specs.Choice.{pick_cases}
use Rattle.octets.specs.Reading.{Octets}
use Rattle.octets.specs.Every.{octets_none, octets_more, octets_join}
use Rattle.tags.specs.Types.{longest}
use Rattle.tags.specs.Layout.{Thing, number_octets, length_octets, encode, Valid, contents_of}
use Rattle.tags.specs.Layout.Thing.{application, boolean, context, opening, closing}
use Rattle.tags.proofs.Exact.{low_small, high_small, most_longest}

number_octets_lem : (n : ℕ) → n ≤ 254 → Octets (number_octets n)
unfolding number_octets
number_octets_lem n h = pick_cases Octets (ltb n 15) (λ _. octets_none) (λ _. octets_more n [] (omega arith) octets_none)

length_octets_lem : (l : ℕ) → l ≤ longest → Octets (length_octets l)
unfolding length_octets
length_octets_lem l h =
    pick_cases Octets (ltb l 5) (λ _. octets_none) (λ _.
    pick_cases Octets (ltb l 254) (λ e. octets_more l [] (omega (arith, ltb-true)) octets_none) (λ _.
    octets_more 254 (l / 256 ∷ l % 256 ∷ []) (omega arith) (octets_more (l / 256) (l % 256 ∷ []) (omega arith) (octets_more (l % 256) [] (omega arith) octets_none))))

pub encode_octets : (t : Thing) → Valid t → Octets (contents_of t) → Octets (encode t)
unfolding encode
encode_octets (application n xs) ok os =
    octets_more _ (length_octets (length xs) ++ xs) (omega (arith, ok.known, low_small (length xs)))
    (octets_join (length_octets (length xs)) xs (length_octets_lem (length xs) (omega (arith, ok.high, most_longest n))) os)
encode_octets (boolean v) ok os = octets_more (16 + v) [] (omega arith) octets_none
encode_octets (context n xs) ok os =
    octets_more _ (number_octets n ++ (length_octets (length xs) ++ xs)) (omega (arith, high_small n, low_small (length xs)))
    (octets_join (number_octets n) (length_octets (length xs) ++ xs) (number_octets_lem n ok.0) (octets_join (length_octets (length xs)) xs (length_octets_lem (length xs) ok.1) os))
encode_octets (opening n) ok os = octets_more _ (number_octets n) (omega (arith, high_small n)) (number_octets_lem n ok)
encode_octets (closing n) ok os = octets_more _ (number_octets n) (omega (arith, high_small n)) (number_octets_lem n ok)
