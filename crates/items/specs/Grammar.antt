-- Which lists of items there are, and their octets and records, apart from any reading.
use Rattle.std.specs.Prelude.{ℕ, zero, suc, ◌+◌, ◌-◌, ◌≤◌, ◌<◌, ◌≡◌, List, [], ◌∷◌, ◌++◌, length}
use Rattle.tags.specs.Types.{longest}
use Rattle.tags.specs.Layout.{Thing, encode, Valid, tag_length}
use Rattle.tags.specs.Layout.Thing.{application, boolean, context, opening, closing}
use Rattle.items.specs.Records.{Rec, rec, things_of}
use Rattle.items.specs.Reading.{items_of, most_items, deepest}
use Rattle.items.specs.Reading.Out.{good}

unfoldable pub encode_all : List Thing → List ℕ
encode_all [] = []
encode_all (t ∷ ts) = encode t ++ encode_all ts

-- "an opened group holds items, which may be groups, up to its own closing number": from these open groups to none, with at most k items, 16 open at most
abbrev pub Balanced : ℕ → List ℕ → List Thing → Type 0
Balanced k [] [] = Unit {0}
Balanced k (n ∷ groups) [] = ⊥
Balanced zero groups (t ∷ ts) = ⊥
Balanced (suc k) groups (application n xs ∷ ts) = Balanced k groups ts
Balanced (suc k) groups (boolean v ∷ ts) = Balanced k groups ts
Balanced (suc k) groups (context n xs ∷ ts) = Balanced k groups ts
Balanced (suc k) groups (opening n ∷ ts) = (length groups < deepest) × Balanced k (n ∷ groups) ts
Balanced (suc k) [] (closing n ∷ ts) = ⊥
Balanced (suc k) (m ∷ groups) (closing n ∷ ts) = (n ≡ m) × Balanced k groups ts

abbrev pub AllValid : List Thing → Type 0
AllValid [] = Unit {0}
AllValid (t ∷ ts) = Valid t × AllValid ts

pub record Grammar (ts : List Thing) : Type 0 where
  pub valid : AllValid ts
  pub balanced : Balanced most_items [] ts
  pub short : length (encode_all ts) ≤ longest

-- the record of an item at a place and depth; the depth after it; all records from there on
unfoldable pub record_of : ℕ → ℕ → Thing → Rec
record_of at d (application n xs) = rec 0 n d 0 (at + tag_length (application n xs)) (length xs)
record_of at d (boolean v) = rec 0 1 d v (at + tag_length (boolean v)) 0
record_of at d (context n xs) = rec 1 n d 0 (at + tag_length (context n xs)) (length xs)
record_of at d (opening n) = rec 2 n d 0 (at + tag_length (opening n)) 0
record_of at d (closing n) = rec 3 n (d - 1) 0 (at + tag_length (closing n)) 0

abbrev pub depth_after : ℕ → Thing → ℕ
depth_after d (application n xs) = d
depth_after d (boolean v) = d
depth_after d (context n xs) = d
depth_after d (opening n) = d + 1
depth_after d (closing n) = d - 1

unfoldable pub records_from : ℕ → ℕ → List Thing → List Rec
records_from at d [] = []
records_from at d (t ∷ ts) = record_of at d t ∷ records_from (at + length (encode t)) (depth_after d t) ts

-- the reading of the octets accepts, and these are the items that its records name in them
pub record Reads (o : List ℕ) (ts : List Thing) : Type 0 where
  pub records : List Rec
  pub accepted : items_of o ≡ good records (length o)
  pub named : things_of o records ≡ ts
