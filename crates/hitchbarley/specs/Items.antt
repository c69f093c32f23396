-- The item calls over octets.
use Rattle.std.specs.Prelude.{ℕ, ◌≡◌, Bool, true, false, List, [], length}
use Rattle.items.specs.Records.{rec, record_octets}
use Rattle.items.specs.Reading.{items_of, one_at, end_of}
use Rattle.items.specs.Listing.{tally_number, tally_count, listed_of, listing}
use Rattle.items.specs.Answers.{One}
use Rattle.items.specs.Answers.One.{Next}
use Rattle.reader.specs.Answers.{Step}
use Rattle.reader.specs.Answers.Step.{Item, Group, End}

abbrev pub one_number : One → ℕ
one_number (Next at) = 0
one_number (One.Refused x) = x

abbrev pub one_place : One → ℕ
one_place (Next at) = at
one_place (One.Refused x) = 0

-- the reader's step: whether an item or a group stands there, its number, its record (a group's is its opening's), the place after it
abbrev pub step_good : Step → Bool
step_good (Item k n v p l to) = true
step_good (Group n p to) = true
step_good End = false
step_good (Step.Refused x) = false

abbrev pub step_number : Step → ℕ
step_number (Item k n v p l to) = 0
step_number (Group n p to) = 0
step_number End = 0
step_number (Step.Refused x) = x

abbrev pub step_record : Step → List ℕ
step_record (Item k n v p l to) = record_octets (rec k n 0 v p l)
step_record (Group n p to) = record_octets (rec 2 n 0 0 p 0)
step_record End = []
step_record (Step.Refused x) = []

abbrev pub step_place : Step → ℕ
step_place (Item k n v p l to) = to
step_place (Group n p to) = to
step_place End = 0
step_place (Step.Refused x) = 0

pub record Lists (s area : List ℕ) (r count : ℕ) (later : List ℕ) : Type 0 where
  pub number : r ≡ tally_number (listed_of (length area) (items_of s))
  pub items : count ≡ tally_count (listed_of (length area) (items_of s))
  pub after : later ≡ listing area (items_of s)

pub record Steps (s : List ℕ) (at r next : ℕ) : Type 0 where
  pub number : r ≡ one_number (end_of (one_at s at))
  pub place : next ≡ one_place (end_of (one_at s at))
