-- What stands at the reader's place, apart from any reading: a single item, a whole group, or a closing tag.
use Rattle.std.specs.Prelude.{ℕ, ◌+◌, ◌≡◌, List, [], ◌∷◌, ◌++◌, length}
use Rattle.octets.specs.Has.{Has}
use Rattle.tags.specs.Layout.{Thing, encode, Valid}
use Rattle.tags.specs.Layout.Thing.{opening, closing}
use Rattle.items.specs.Records.{rec}
use Rattle.items.specs.Reading.{most_items}
use Rattle.items.specs.Grammar.{encode_all, Balanced, Grammar, record_of}
use Rattle.items.specs.OneItem.{Single}

-- an item that is no group, with the fields of its record; the next place is behind it
pub record ItemStands (s : List ℕ) (at k n v p l next : ℕ) : Type 0 where
  pub thing : Thing
  pub single : Single thing
  pub valid : Valid thing
  pub stands : Has s at (encode thing)
  pub shown : record_of at 0 thing ≡ rec k n 0 v p l
  pub ends : next ≡ at + length (encode thing)

-- group n with all that it holds, which closes what it opens: 2,048 items and 16 open at most. p is the place in it, the next place is behind its closing
abbrev pub group_of : ℕ → List Thing → List Thing
group_of n inner = opening n ∷ (inner ++ (closing n ∷ []))

pub record GroupStands (s : List ℕ) (at n p next : ℕ) : Type 0 where
  pub inner : List Thing
  pub closed : Balanced most_items [] inner
  pub grammar : Grammar (group_of n inner)
  pub stands : Has s at (encode_all (group_of n inner))
  pub inside : p ≡ at + length (encode (opening n))
  pub ends : next ≡ at + length (encode_all (group_of n inner))

pub record ClosingStands (s : List ℕ) (at : ℕ) : Type 0 where
  pub number : ℕ
  pub valid : Valid (closing number)
  pub stands : Has s at (encode (closing number))
