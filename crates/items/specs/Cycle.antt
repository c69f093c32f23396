-- What the item reader and the group reader promise: they say how any reading that goes item by item while a group is open goes on from here.
use Rattle.std.specs.Prelude.{ℕ, ◌+◌, ◌-◌, ◌*◌, ◌/◌, ◌≤◌, ◌<◌, ◌≡◌, List, [], ◌∷◌, length, leb, Option, Some, None}
use Rattle.octets.specs.Choice.{pick}
use Rattle.octets.specs.Reading.{reach, refuse}
use Rattle.octets.specs.Splice.{splice}
use Rattle.tags.specs.Types.{longest}
use Rattle.tags.specs.Reading.{head_at}
use Rattle.tags.specs.Head.Tag.{Closing}
use Rattle.items.specs.Records.{Rec, record_octets}
use Rattle.items.specs.Reading.{Out, more, step, most_items, deepest, items_of, counted}
use Rattle.items.specs.Reading.Out.{good, bad}
use Rattle.items.specs.Answers.{Tally}
use Rattle.items.specs.Answers.Tally.{Items}
use Rattle.items.specs.Answers.{Step}
use Rattle.items.specs.Answers.Step.{Next, Closed, Refused}

-- a reading: what it gives after so many items, from a place on, with the numbers of these groups open
abbrev pub Rest : Type 0
Rest = ℕ → ℕ → List ℕ → Out

-- an item begins at a place, after i others. 38: "a 2,049th item begins"
unfoldable pub begins : List ℕ → Rest → ℕ → ℕ → List ℕ → Out
begins s rest i at groups = refuse (leb most_items i) (bad 38) (step (rest (i + 1)) (head_at s at) groups)

-- while a group is open, the reading goes on item by item. 36: "end with a group open"
abbrev pub Inside : List ℕ → Rest → Type 0
Inside s rest = (i at n : ℕ) (outer : List ℕ) → rest i at (n ∷ outer) ≡ reach s at (bad 36) (begins s rest i at (n ∷ outer))

-- with d groups open outside, every such reading gives these records between two places, and then what it gives from the second place on
pub record Went (s : List ℕ) (d : ℕ) (from : Rest → List ℕ → Out) (at i to j : ℕ) (rs : List Rec) : Type 0 where
  pub on : at < to
  pub inside : to ≤ length s
  pub count : j ≡ i + length rs
  pub most : j ≤ most_items
  pub same : (rest : Rest) → Inside s rest → (groups : List ℕ) → length groups ≡ d → from rest groups ≡ more rs (rest j to groups)

-- every such reading refuses with x
abbrev pub Stops : List ℕ → ℕ → (Rest → List ℕ → Out) → ℕ → Type 0
Stops s d from x = (rest : Rest) → Inside s rest → (groups : List ℕ) → length groups ≡ d → from rest groups ≡ bad x

-- a closing tag stands at the place, as the next item
pub record Shut (s : List ℕ) (at i n to j : ℕ) : Type 0 where
  pub on : at < to
  pub inside : to ≤ length s
  pub tag : head_at s at ≡ Closing n to
  pub count : j ≡ i + 1
  pub most : j ≤ most_items

-- the i-th record of an area, where it fits; records from the i-th on
unfoldable pub put_record : List ℕ → ℕ → Rec → List ℕ
put_record area i r = pick (leb (length area / 12) i) area (splice area (i * 12) (record_octets r))

unfoldable pub put_records : List ℕ → ℕ → List Rec → List ℕ
put_records area i [] = area
put_records area i (r ∷ rs) = put_records (put_record area i r) (i + 1) rs

-- the item at a place, after i others, with d groups open
abbrev pub from_item : List ℕ → ℕ → ℕ → Rest → List ℕ → Out
from_item s at i rest groups = begins s rest i at groups

abbrev pub ItemSays : List ℕ → ℕ → ℕ → ℕ → List ℕ → List ℕ → Step → Type 0
ItemSays s at d i area later (Next to j) = (rs : List Rec) × Went s d (from_item s at i) at i to j rs × (later ≡ put_records area i rs)
ItemSays s at d i area later (Closed n to j) = Shut s at i n to j × (later ≡ area)
ItemSays s at d i area later (Refused x) = Stops s d (from_item s at i) x

-- the rest of group n from a place on, after i items, with d groups open outside it
abbrev pub from_group : ℕ → ℕ → ℕ → Rest → List ℕ → Out
from_group at n i rest groups = rest i at (n ∷ groups)

abbrev pub GroupSays : List ℕ → ℕ → ℕ → ℕ → ℕ → List ℕ → List ℕ → Step → Type 0
GroupSays s at n d i area later (Next to j) = (rs : List Rec) × Went s d (from_group at n i) at i to j rs × (later ≡ put_records area i rs)
GroupSays s at n d i area later (Closed m to j) = ⊥
GroupSays s at n d i area later (Refused x) = Stops s d (from_group at n i) x

-- what the reading of all items promises: the count, and every record of a good reading put where it fits
pub record Ran (s area : List ℕ) (r : Tally) (later : List ℕ) : Type 0 where
  pub answer : r ≡ counted (items_of s)
  pub laid : (rs : List Rec) (end : ℕ) → items_of s ≡ good rs end → later ≡ put_records area 0 rs

-- ---- one function reads all items, and each group in them: with no group open, or with d open and n the number of the innermost
abbrev pub ReadReady : Option ℕ → List ℕ → ℕ → ℕ → ℕ → Type 0
ReadReady None s at d i = (length s ≤ longest) × (at ≡ 0) × (d ≡ 0) × (i ≡ 0)
ReadReady (Some n) s at d i = (0 < d) × (d ≤ deepest)

abbrev pub RunSays : List ℕ → List ℕ → List ℕ → Step → Type 0
RunSays s area later (Next to j) = Ran s area (Items j) later
RunSays s area later (Closed n to j) = ⊥
RunSays s area later (Refused x) = Ran s area (Tally.Refused x) later

abbrev pub ReadSays : Option ℕ → List ℕ → ℕ → ℕ → ℕ → List ℕ → List ℕ → Step → Type 0
ReadSays None s at d i area later r = RunSays s area later r
ReadSays (Some n) s at d i area later r = GroupSays s at n (d - 1) i area later r
