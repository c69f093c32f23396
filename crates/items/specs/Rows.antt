-- "Given exactly when": the rows 30 to 39 over a run of items, in the page's words and apart from any reading: good items in front, and what is behind them.
use Rattle.std.specs.Prelude.{ℕ, ◌≤◌, ◌<◌, ◌≡◌, List, [], ◌∷◌, ◌++◌, length}
use Rattle.tags.specs.Layout.{Thing, encode, Valid}
use Rattle.tags.specs.Layout.Thing.{application, boolean, context, opening, closing}
use Rattle.tags.specs.Rows.{Given}
use Rattle.items.specs.Grammar.{encode_all, AllValid}

-- "an opened group holds items, which may be groups, up to its own closing number": these items lead from open groups, their numbers innermost first, to
-- those that are open behind them, with never more than 16 open
abbrev pub Leads : List ℕ → List Thing → List ℕ → Type 0
Leads gs [] later = gs ≡ later
Leads gs (application n xs ∷ ts) later = Leads gs ts later
Leads gs (boolean v ∷ ts) later = Leads gs ts later
Leads gs (context n xs ∷ ts) later = Leads gs ts later
Leads gs (opening n ∷ ts) later = (length gs < 16) × Leads (n ∷ gs) ts later
Leads [] (closing n ∷ ts) later = ⊥
Leads (m ∷ gs) (closing n ∷ ts) later = (n ≡ m) × Leads gs ts later

-- this is the number of the innermost open group
abbrev pub Innermost : ℕ → List ℕ → Type 0
Innermost n [] = ⊥
Innermost n (m ∷ outer) = n ≡ m

-- "Octets are judged left to right": good items stand in front, behind them the groups gs are open and the octets r are left
pub record GoodFront (o : List ℕ) (ts : List Thing) (gs r : List ℕ) : Type 0 where
  pub octets : o ≡ encode_all ts ++ r
  pub valid : AllValid ts
  pub leads : Leads [] ts gs
  pub most : length ts ≤ 2048

-- the row that the octets r break behind i good items with the groups gs open. "within one, by row order": where an item begins, 38 comes first; a tag whose
-- own rows are kept is good, so that 35 and 37 stand behind 30 to 32.
pub data Behind (x i : ℕ) (gs r : List ℕ) : Type 0 where
  -- 36: "end with a group open"
  ends_open : x ≡ 36 → r ≡ [] → 0 < length gs → Behind x i gs r
  -- 38: "a 2,049th item begins"
  one_more : x ≡ 38 → i ≡ 2048 → 0 < length r → Behind x i gs r
  -- 35: "closing tag without the same number innermost"
  closes_other : x ≡ 35 → i < 2048 → (n : ℕ) (rest : List ℕ) → Valid (closing n) → r ≡ encode (closing n) ++ rest → (Innermost n gs → ⊥) → Behind x i gs r
  -- 37: "opening with 16 open"
  opens_deeper : x ≡ 37 → i < 2048 → (n : ℕ) (rest : List ℕ) → Valid (opening n) → r ≡ encode (opening n) ++ rest → length gs ≡ 16 → Behind x i gs r
  -- 30 to 34: the rows of one tag, of an item that begins
  breaks : i < 2048 → 0 < length r → Given x r 0 → Behind x i gs r

-- a run of items breaks the row x
pub data Row (x : ℕ) (o : List ℕ) : Type 0 where
  -- 39: "over 16,384 parameter octets (judged first)"
  too_long : x ≡ 39 → 16384 < length o → Row x o
  offends : length o ≤ 16384 → (ts : List Thing) (gs r : List ℕ) → GoodFront o ts gs r → Behind x (length ts) gs r → Row x o
