-- What document 01 says of writing items, with no test and no layout: the records are the reading of some octets.
use Rattle.std.specs.Prelude.{ℕ, ◌+◌, ◌%◌, ◌≤◌, ◌≡◌, ◌⊎◌, List, [], ◌∷◌, length, take, drop}
use Rattle.octets.specs.Reading.{Octets}
use Rattle.items.specs.Records.{Rec}
use Rattle.items.specs.Reading.{items_of}
use Rattle.items.specs.Reading.Out.{good}
use Rattle.item_judge.specs.Judge.{records_in}

-- the contents that a record names
abbrev pub named : List ℕ → Rec → List ℕ
named source r = take r.len (drop r.place source)

-- "records naming contents outside the source"; "the place of a record with length 0 is not looked at"
abbrev pub Inside : List ℕ → Rec → Type 0
Inside source r = (r.len ≡ 0) ⊎ (r.place + r.len ≤ length source)

abbrev pub AllInside : List ℕ → List Rec → Type 0
AllInside source [] = Unit {0}
AllInside source (r ∷ rs) = Inside source r × AllInside source rs

-- "places not compared": all else is the same, and so are the contents that both name
pub record Alike (source o : List ℕ) (r s : Rec) : Type 0 where
  pub kind : r.kind ≡ s.kind
  pub number : r.number ≡ s.number
  pub depth : r.depth ≡ s.depth
  pub value : r.value ≡ s.value
  pub len : r.len ≡ s.len
  pub contents : named source r ≡ named o s

abbrev pub AllAlike : List ℕ → List ℕ → List Rec → List Rec → Type 0
AllAlike source o [] [] = Unit {0}
AllAlike source o [] (s ∷ ss) = ⊥
AllAlike source o (r ∷ rs) [] = ⊥
AllAlike source o (r ∷ rs) (s ∷ ss) = Alike source o r s × AllAlike source o rs ss

-- the records, with their contents in the source, are the reading of the octets o
pub record ReadingOf (source : List ℕ) (rs : List Rec) (o : List ℕ) : Type 0 where
  pub octets : Octets o
  pub records : List Rec
  pub accepted : items_of o ≡ good records (length o)
  pub same : AllAlike source o rs records

-- a record area and a source that writing takes; all others are 62
pub record Writable (area source : List ℕ) : Type 0 where
  pub whole : length area % 12 ≡ 0
  pub inside : AllInside source (records_in area)
  pub result : List ℕ
  pub reading : ReadingOf source (records_in area) result
