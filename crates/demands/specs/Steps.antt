-- One item with its whole group, and the reader's steps through the parameters: what each answers exactly when, and what a walk meets.
use Rattle.std.specs.Prelude.{ℕ, ◌≤◌, ◌<◌, ◌≡◌, ◌↔◌, ◌⊎◌, List, [], ◌∷◌, length}
use Rattle.octets.specs.Reading.{Octets}
use Rattle.octets.specs.Has.{Has}
use Rattle.tags.specs.Types.{longest}
use Rattle.tags.specs.Layout.{Thing, encode, Valid}
use Rattle.tags.specs.Layout.Thing.{opening}
use Rattle.items.specs.Records.{Rec, rec}
use Rattle.items.specs.Reading.{items_of, one_at}
use Rattle.items.specs.Reading.Out.{good, bad}
use Rattle.items.specs.OneItem.{StandsOne}
use Rattle.reader.specs.Reading.{step_of}
use Rattle.reader.specs.Stands.{ItemStands, GroupStands, ClosingStands}
use Rattle.reader.specs.Rows.{Row}
use Rattle.reader.specs.Walking.{Walk, outermost, Onward}
use Rattle.reader.specs.Answers.{Step}

-- "an opened group holds items, which may be groups, up to its own closing number": of at most 16,384 octets one item is read at a place, with these records and
-- this end, exactly when one whole item stands there that keeps the grammar, and these are its records and its end
abbrev pub OneItemExact : Type 0
OneItemExact = (s : List ℕ) → Octets s → (at : ℕ) (rs : List Rec) (end : ℕ) → (one_at s at ≡ good rs end) ↔ ((length s ≤ longest) × (ts : List Thing) × StandsOne s at ts rs end)

-- "a reader value that carries the parameter octets and its own place, built over the proved item reader": of at most 16,384 octets a step answers an item exactly
-- when that item stands at the place, a group exactly when that whole group does, and the end exactly at the end or past it; 35 on a closing tag, and, where no
-- group opens, nowhere else (all other numbers: StepRows)
pub record StepExact (s : List ℕ) (at : ℕ) : Type 0 where
  pub item : (k n v p l next : ℕ) → (step_of s at ≡ Step.Item k n v p l next) ↔ ((length s ≤ longest) × ItemStands s at k n v p l next)
  pub group : (n p next : ℕ) → (step_of s at ≡ Step.Group n p next) ↔ ((length s ≤ longest) × GroupStands s at n p next)
  pub end : (step_of s at ≡ Step.End) ↔ ((length s ≤ longest) × (length s ≤ at))
  pub closing : length s ≤ longest → ClosingStands s at → step_of s at ≡ Step.Refused 35
  pub closing_alone : ((n : ℕ) → Valid (opening n) → Has s at (encode (opening n)) → ⊥) → (step_of s at ≡ Step.Refused 35) ↔ ((length s ≤ longest) × ClosingStands s at)

abbrev pub StepsExact : Type 0
StepsExact = (s : List ℕ) → Octets s → (at : ℕ) → StepExact s at

-- ---- "No. | Given exactly when", of a step and of one item: 39 first; else a good front of the item stands there and behind it what the number's row says.
-- "a missing octet when it is reached": at the end there is no item for a step, and for one item by itself it ends early
abbrev pub StepRows : Type 0
StepRows = (s : List ℕ) → Octets s → (at x : ℕ)
    → (step_of s at ≡ Step.Refused x) ↔ (((x ≡ 39) × (longest < length s)) ⊎ ((length s ≤ longest) × (at < length s) × Row s at x))

abbrev pub OneItemRows : Type 0
OneItemRows = (s : List ℕ) → Octets s → (at x : ℕ)
    → (one_at s at ≡ bad x) ↔ (((x ≡ 39) × (longest < length s)) ⊎ ((length s ≤ longest) × (((x ≡ 30) × (length s ≤ at)) ⊎ ((at < length s) × Row s at x))))

-- octets meet one row at most
abbrev pub StepOneRow : Type 0
StepOneRow = (s : List ℕ) → Octets s → length s ≤ longest → (at : ℕ) → at < length s → (x y : ℕ) → Row s at x → Row s at y → x ≡ y

-- "Last, plant tools get a reader value": where the parameters read as items, steps from the first octet on meet each item and group that stands in no group,
-- in order, and then the end; none is refused
abbrev pub WalkAll : Type 0
WalkAll = (s : List ℕ) (rs : List Rec) (end : ℕ) → items_of s ≡ good rs end → Walk s 0 (outermost rs)

-- and nothing else: two walks from a place meet the same
abbrev pub WalkOne : Type 0
WalkOne = (s : List ℕ) (at : ℕ) (rs qs : List Rec) → Walk s at rs → Walk s at qs → rs ≡ qs

-- "stays in bounds and ends": on any octets a step goes on and stays inside, so that stepping comes to the end or to a refusal; one is given only where an octet
-- stands, or is 39
abbrev pub StepOn : Type 0
StepOn = (s : List ℕ) (at : ℕ) → Onward s at (step_of s at)

-- ---- worked: "`3E 44 42 39 99 9A 3F`", "`11`", "`3E 4F` 35; `3E` 36" step by step, with a step into the group and steps at the end and past it
abbrev pub real : List ℕ
real = 0x3E ∷ 0x44 ∷ 0x42 ∷ 0x39 ∷ 0x99 ∷ 0x9A ∷ 0x3F ∷ []

pub record StepsWorked : Type 0 where
  pub group : step_of real 0 ≡ Step.Group 3 1 7
  pub inside : step_of real 1 ≡ Step.Item 0 4 0 2 4 6
  pub its_closing : step_of real 6 ≡ Step.Refused 35
  pub ends : step_of real 7 ≡ Step.End
  pub past : step_of real 9 ≡ Step.End
  pub boolean : step_of (0x11 ∷ []) 0 ≡ Step.Item 0 1 1 1 0 1
  pub other_number_lem : step_of (0x3E ∷ 0x4F ∷ []) 0 ≡ Step.Refused 35
  pub left_open_lem : step_of (0x3E ∷ []) 0 ≡ Step.Refused 36
  pub one : one_at real 0 ≡ good (rec 2 3 0 0 1 0 ∷ rec 0 4 1 0 2 4 ∷ rec 3 3 0 0 7 0 ∷ []) 7
  pub one_inside : one_at real 1 ≡ good (rec 0 4 0 0 2 4 ∷ []) 6
  pub one_past : one_at real 7 ≡ bad 30
