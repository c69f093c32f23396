-- What listing answers and leaves in the lent area: "one 12-octet record an item", 61 with the count needed where it is too small.
use Rattle.std.specs.Prelude.{ℕ, List, ◌≡◌, length, ltb}
use Rattle.std.proofs.Common.{sym, ◌∙◌}
use Rattle.octets.specs.Choice.{pick}
use Rattle.octets.specs.Splice.{splice}
use Rattle.items.specs.Records.{Rec, records_octets}
use Rattle.items.specs.Reading.{Out, items_of}
use Rattle.items.specs.Reading.Out.{good, bad}
use Rattle.items.specs.Answers.{Tally}
use Rattle.items.specs.Answers.Tally.{Items, Small}

-- the page's number of each answer, and the count that comes with it: "the item count", "61 with the count needed", and 0 with a tag's refusal
abbrev pub tally_number : Tally → ℕ
tally_number (Items n) = 0
tally_number (Small n) = 61
tally_number (Tally.Refused x) = x

abbrev pub tally_count : Tally → ℕ
tally_count (Items n) = n
tally_count (Small n) = n
tally_count (Tally.Refused x) = 0

-- the number of a reading's refusal, 0 of what is read
abbrev pub refusal_in : Out → ℕ
refusal_in (good rs end) = 0
refusal_in (bad x) = x

-- a reading of n items; octets that are read as n items
abbrev pub Many : Out → ℕ → Type 0
Many o n = (rs : List Rec) × (end : ℕ) × (o ≡ good rs end) × (length rs ≡ n)

abbrev pub ReadAs : List ℕ → ℕ → Type 0
ReadAs s n = Many (items_of s) n

-- "answers the item count"; in an area of fewer octets than the records have "61 with the count needed"; "tag refusals still come first"
unfoldable pub listed_of : ℕ → Out → Tally
listed_of size (good rs end) = pick (ltb size (length (records_octets rs))) (Small (length rs)) (Items (length rs))
listed_of size (bad x) = Tally.Refused x

-- "writes records if they fit. If they do not, it .. writes nothing"
unfoldable pub listing : List ℕ → Out → List ℕ
listing area (good rs end) = pick (ltb (length area) (length (records_octets rs))) area (splice area 0 (records_octets rs))
listing area (bad x) = area

-- listing's promise
pub record Listed (s area : List ℕ) (r : Tally) (later : List ℕ) : Type 0 where
  pub answer : r ≡ listed_of (length area) (items_of s)
  pub after : later ≡ listing area (items_of s)

-- any two answers that the promise allows are equal
pub listed_one : {s area later later' : List ℕ} {r r' : Tally} → Listed s area r later → Listed s area r' later' → (r ≡ r') × (later ≡ later')
listed_one a b = (a.answer ∙ sym b.answer, a.after ∙ sym b.after)
