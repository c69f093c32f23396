-- Going through the items of a good reading one by one, a whole group at a time.
use Rattle.std.specs.Prelude.{ℕ, ◌≤◌, ◌<◌, ◌≡◌, List, [], ◌∷◌, ◌++◌, length}
use Rattle.items.specs.Records.{Rec, rec}
use Rattle.items.specs.Reading.{walk, item_at, most_items}
use Rattle.items.specs.Reading.Out.{good}

-- the records that are left from a place on where no group is open
pub record Left (s : List ℕ) (at : ℕ) (rs : List Rec) : Type 0 where
  pub room : ℕ
  pub last : ℕ
  pub most : room ≤ most_items
  pub inside : at ≤ length s
  pub reading : walk room s at [] ≡ good rs last

-- every one of them lies in a group
abbrev pub AllDeep : List Rec → Type 0
AllDeep [] = Unit {0}
AllDeep (r ∷ rs) = (0 < r.depth) × AllDeep rs

-- the records that are left inside group n, the outermost: those in it, its closing's, and those behind it
pub record Closes (s : List ℕ) (at n : ℕ) (rs : List Rec) : Type 0 where
  pub inner : List Rec
  pub rest : List Rec
  pub to : ℕ
  pub all : rs ≡ inner ++ (rec 3 n 0 0 to 0 ∷ rest)
  pub deep : AllDeep inner
  pub on : at < to
  pub left : Left s to rest

-- the records that are left where group n opens, its tag ending at p
pub record Opens (s : List ℕ) (at n p : ℕ) (rs : List Rec) : Type 0 where
  pub others : List Rec
  pub own : rs ≡ rec 2 n 0 0 p 0 ∷ others
  pub closes : Closes s p n others
  pub item : item_at s at ≡ good (rec 2 n 0 0 p 0 ∷ (closes.inner ++ (rec 3 n 0 0 closes.to 0 ∷ []))) closes.to
