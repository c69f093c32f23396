-- One whole item, apart from any reading: a single one, or an opening, items that close what they open, and its closing.
use Rattle.std.specs.Prelude.{ℕ, ◌+◌, ◌≡◌, List, [], ◌∷◌, ◌++◌, length}
use Rattle.octets.specs.Has.{Has}
use Rattle.tags.specs.Layout.{Thing}
use Rattle.tags.specs.Layout.Thing.{application, boolean, context, opening, closing}
use Rattle.items.specs.Records.{Rec}
use Rattle.items.specs.Reading.{most_items}
use Rattle.items.specs.Grammar.{encode_all, Balanced, Grammar, records_from}

-- an item that is no opening and no closing
abbrev pub Single : Thing → Type 0
Single (application n xs) = Unit {0}
Single (boolean v) = Unit {0}
Single (context n xs) = Unit {0}
Single (opening n) = ⊥
Single (closing n) = ⊥

-- "an opened group holds items, which may be groups, up to its own closing number": what it holds closes what it opens
pub data OneItem (ts : List Thing) : Type 0 where
  single : (t : Thing) → Single t → ts ≡ t ∷ [] → OneItem ts
  group : (n : ℕ) (inner : List Thing) → Balanced most_items [] inner → ts ≡ opening n ∷ (inner ++ (closing n ∷ [])) → OneItem ts

-- these items stand at a place and are one whole item; they keep the grammar: 2,048 items and 16 open at most. It ends there, with these records
pub record StandsOne (s : List ℕ) (at : ℕ) (ts : List Thing) (rs : List Rec) (end : ℕ) : Type 0 where
  pub one : OneItem ts
  pub grammar : Grammar ts
  pub stands : Has s at (encode_all ts)
  pub ends : end ≡ at + length (encode_all ts)
  pub records : rs ≡ records_from at 0 ts
