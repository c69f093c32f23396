-- What a step of the reader answers, as the definitions say it: plain data, with document 01's numbers. The code's answers are seen so.
use Rattle.std.specs.Prelude.{ℕ, Result, Ok, Err}
use Rattle.octets.specs.declared.refusal.Refusal.{Refusal}
use Rattle.octets.specs.Refusal.{number_of}
use Rattle.reader.specs.declared.Step as told

-- an item (kind, number, value, place, length, the next place), a whole group (number, place, the next place), the end, or the number of a refusal
pub data Step : Type 0 where
  Item : ℕ → ℕ → ℕ → ℕ → ℕ → ℕ → Step
  Group : ℕ → ℕ → ℕ → Step
  End : Step
  Refused : ℕ → Step

abbrev pub answer_of : Result told.Step Refusal → Step
answer_of (Ok (told.TheVariants.Item k n v p l next)) = Item k n v p l next
answer_of (Ok (told.TheVariants.Group n p next)) = Group n p next
answer_of (Ok told.TheVariants.End) = End
answer_of (Err x) = Refused (number_of x)
