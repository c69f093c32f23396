-- What a step of the reader answers: "a reader value that carries the parameter octets and its own place, built over the proved item reader".
use Rattle.std.specs.Prelude.{ℕ, List, ltb, length}
use Rattle.octets.specs.Reading.{reach, refuse}
use Rattle.tags.specs.Types.{longest}
use Rattle.tags.specs.Reading.{head_at}
use Rattle.tags.specs.Head.{Tag}
use Rattle.items.specs.Reading.{item_at, end_of}
use Rattle.items.specs.Answers.{One}
use Rattle.reader.specs.Answers.{Step}
use Rattle.reader.specs.Answers.Step.{Item, Group, End, Refused}

-- the tag that stands there, and the place after it with its whole group. 35: "closing tag without the same number innermost", for no group is open
unfoldable pub shown : Tag → ℕ → Step
shown (Tag.Item k n v p l) next = Item k n v p l next
shown (Tag.Opening n p) next = Group n p next
shown (Tag.Closing n p) next = Refused 35
shown (Tag.Refused x) next = Refused x

-- the item reader judges, the item with its whole group
unfoldable pub judged : Tag → One → Step
judged t (One.Next next) = shown t next
judged t (One.Refused x) = Refused x

-- the step at a place. 39: "over 16,384 parameter octets (judged first)"; where no octet stands, at the end or past it, there is no item
unfoldable pub step_of : List ℕ → ℕ → Step
step_of s at = refuse (ltb longest (length s)) (Refused 39) (reach s at End (judged (head_at s at) (end_of (item_at s at))))
