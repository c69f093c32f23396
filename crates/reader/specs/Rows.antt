-- Why a step is refused: a good front of the one item, and the offence that stands behind it, in the words of the table of numbers; apart from any reading.
use Rattle.std.specs.Prelude.{ℕ, ◌+◌, ◌≤◌, ◌<◌, ◌≡◌, List, [], ◌∷◌, length}
use Rattle.octets.specs.Has.{Has}
use Rattle.tags.specs.Layout.{Thing, encode, Valid}
use Rattle.tags.specs.Layout.Thing.{application, boolean, context, opening, closing}
use Rattle.tags.specs.Rows.{Given}
use Rattle.items.specs.Reading.{most_items, deepest}
use Rattle.items.specs.Grammar.{encode_all, AllValid}

-- these items lead from open groups, their numbers innermost first, to those; the outermost stays open, for with its closing the item is whole
abbrev pub Leads : List ℕ → List Thing → List ℕ → Type 0
Leads gs [] gs' = gs ≡ gs'
Leads gs (application n xs ∷ ts) gs' = Leads gs ts gs'
Leads gs (boolean v ∷ ts) gs' = Leads gs ts gs'
Leads gs (context n xs ∷ ts) gs' = Leads gs ts gs'
Leads gs (opening n ∷ ts) gs' = (length gs < deepest) × Leads (n ∷ gs) ts gs'
Leads [] (closing n ∷ ts) gs' = ⊥
Leads (m ∷ []) (closing n ∷ ts) gs' = ⊥
Leads (m ∷ l ∷ gs) (closing n ∷ ts) gs' = (n ≡ m) × Leads (l ∷ gs) ts gs'

-- nothing, or an opening and items in its group
pub data Front (ts : List Thing) (gs : List ℕ) : Type 0 where
  nothing : ts ≡ [] → gs ≡ [] → Front ts gs
  opened : (n : ℕ) (us : List Thing) → ts ≡ opening n ∷ us → Leads (n ∷ []) us gs → Front ts gs

abbrev pub Innermost : List ℕ → ℕ → Type 0
Innermost [] n = ⊥
Innermost (m ∷ gs) n = n ≡ m

-- what stands at place q, behind i items, with the groups gs open
pub data Offence (s : List ℕ) (q i : ℕ) (gs : List ℕ) (x : ℕ) : Type 0 where
  -- 36: "end with a group open"
  group_open : x ≡ 36 → 0 < length gs → length s ≤ q → Offence s q i gs x
  -- 38: "a 2,049th item begins"
  too_many : x ≡ 38 → q < length s → most_items ≤ i → Offence s q i gs x
  -- 35: "closing tag without the same number innermost"
  other_closing : x ≡ 35 → i < most_items → (n : ℕ) → Valid (closing n) → Has s q (encode (closing n)) → (Innermost gs n → ⊥) → Offence s q i gs x
  -- 37: "opening with 16 open"
  too_deep : x ≡ 37 → i < most_items → (n : ℕ) → Valid (opening n) → Has s q (encode (opening n)) → deepest ≤ length gs → Offence s q i gs x
  -- 30 to 34: the rows of one tag
  tag : i < most_items → q < length s → Given x s q → Offence s q i gs x

-- a step at a place meets it
pub record Row (s : List ℕ) (at x : ℕ) : Type 0 where
  pub front : List Thing
  pub groups : List ℕ
  pub leads : Front front groups
  pub most : length front ≤ most_items
  pub valid : AllValid front
  pub stands : Has s at (encode_all front)
  pub offence : Offence s (at + length (encode_all front)) (length front) groups x
