-- Going through the parameters step by step.
use Rattle.std.specs.Prelude.{ℕ, ◌≤◌, ◌<◌, ◌≡◌, ◌⊎◌, List, [], ◌∷◌, length, eqb}
use Rattle.octets.specs.Choice.{pick, both, non}
use Rattle.tags.specs.Types.{longest}
use Rattle.items.specs.Records.{Rec, rec}
use Rattle.reader.specs.Answers.{Step}
use Rattle.reader.specs.Answers.Step.{Item, Group, End, Refused}
use Rattle.reader.specs.Reading.{step_of}

-- a step answers an item or a group, here by its record, and where the next step is taken
abbrev pub Meets : Step → Rec → ℕ → Type 0
Meets (Item k n v p l next) r to = (r ≡ rec k n 0 v p l) × (to ≡ next)
Meets (Group n p next) r to = (r ≡ rec 2 n 0 0 p 0) × (to ≡ next)
Meets End r to = ⊥
Meets (Refused x) r to = ⊥

-- steps from a place on, each from where the one before it led, meet these items and groups and then the end; none of them is refused
abbrev pub Walk : List ℕ → ℕ → List Rec → Type 0
Walk s at [] = step_of s at ≡ End
Walk s at (r ∷ rs) = (to : ℕ) × Meets (step_of s at) r to × Walk s to rs

-- of a reading's records, those of the items and groups that stand in no group: of a group, its opening's
unfoldable pub outermost : List Rec → List Rec
outermost [] = []
outermost (r ∷ rs) = pick (both (eqb r.depth 0) (non (eqb r.kind 3))) (r ∷ outermost rs) (outermost rs)

-- the next place lies behind this one and not behind the end; a refusal comes only where an octet stands, or is 39
abbrev pub Onward : List ℕ → ℕ → Step → Type 0
Onward s at (Item k n v p l next) = (at < next) × (next ≤ length s)
Onward s at (Group n p next) = (at < next) × (next ≤ length s)
Onward s at End = length s ≤ at
Onward s at (Refused x) = (at < length s) ⊎ ((x ≡ 39) × (longest < length s))
