-- What reading items answers, as the definitions say it: plain data, with document 01's numbers. The code's answers are seen so.
use Rattle.std.specs.Prelude.{ℕ, Result, Ok, Err}
use Rattle.octets.specs.declared.refusal.Refusal.{Refusal}
use Rattle.octets.specs.Refusal.{number_of}
use Rattle.items.specs.declared.Unlisted as unlisted
use Rattle.items.specs.declared.cycle.Passed as passed

-- of all items: how many there are; 61 with the count needed; or a tag's refusal
pub data Tally : Type 0 where
  Items : ℕ → Tally
  Small : ℕ → Tally
  Refused : ℕ → Tally

-- how an item or a group ends: the next place and the items so far; a closing tag that is somebody else's; or a refusal
pub data Step : Type 0 where
  Next : ℕ → ℕ → Step
  Closed : ℕ → ℕ → ℕ → Step
  Refused : ℕ → Step

-- of one item with its whole group: the place after it, or a refusal
pub data One : Type 0 where
  Next : ℕ → One
  Refused : ℕ → One

abbrev pub run_of : Result ℕ Refusal → Tally
run_of (Ok n) = Tally.Items n
run_of (Err x) = Tally.Refused (number_of x)

abbrev pub tally_of : Result ℕ unlisted.Unlisted → Tally
tally_of (Ok n) = Tally.Items n
tally_of (Err (unlisted.TheVariants.Small n)) = Tally.Small n
tally_of (Err (unlisted.TheVariants.Refused x)) = Tally.Refused (number_of x)

abbrev pub passed_of : Result passed.Passed Refusal → Step
passed_of (Ok p) = Step.Next p.at p.items
passed_of (Err x) = Step.Refused (number_of x)

abbrev pub one_of : Result ℕ Refusal → One
one_of (Ok at) = One.Next at
one_of (Err x) = One.Refused (number_of x)
