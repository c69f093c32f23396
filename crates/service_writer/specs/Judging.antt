-- The number that reading a value in its group gives, from where a reading reached: the tags first, then the layout of the records that are left.
use Rattle.std.specs.Prelude.{ℕ, Result, ◌+◌, ◌/◌, ◌%◌, ◌≤◌, ◌<◌, ◌≡◌, Bool, false, List, [], ◌∷◌, ◌++◌, length, ltb, eqb, Ok, Err, IfOk}
use Rattle.octets.specs.Choice.{pick, both}
use Rattle.octets.specs.Reading.{oct, be16}
use Rattle.octets.specs.declared.refusal.Refusal.{Refusal}
use Rattle.octets.specs.Refusal.{number_of, numbered}
use Rattle.tags.specs.Types.{longest}
use Rattle.tags.specs.Reading.{head_at}
use Rattle.tags.specs.Head.{Tag}
use Rattle.tags.specs.Head.Tag.{Item, Opening, Closing}
use Rattle.items.specs.Records.{Rec}
use Rattle.items.specs.Reading.{Out, walk}
use Rattle.items.specs.Reading.Out.{good, bad}
use Rattle.item_judge.specs.Kinds.{stack}
use Rattle.services.specs.Parts.{is, number_rule}
use Rattle.service_writer.specs.declared.judge.Phase.{Phase}
use Rattle.service_writer.specs.declared.judge.Phase.TheVariants.{Inside, Behind, Done}
use Rattle.service_writer.specs.declared.judge.Reached.{Reached}
use Rattle.service_writer.specs.declared.judge.Cut.{Cut}

-- where the layout stands, or the number that it refuses with
abbrev pub Stage : Type 0
Stage = Result Phase ℕ

-- "WriteProperty 15: as the ack, with optional context 4 priority 1 to 16."
unfoldable pub shut_of : Bool → Stage
shut_of request = pick request (Ok Behind) (Ok Done)

unfoldable pub rank_of : ℕ → Stage
rank_of x = pick (ltb 0 x) (Err x) (Ok Done)

-- the layout after one more record
unfoldable pub phase_after : List ℕ → Bool → Stage → Rec → Stage
phase_after s request (Ok Inside) r = pick (both (eqb r.kind 3) (eqb r.depth 0)) (shut_of request) (Ok Inside)
phase_after s request (Ok Behind) r = pick (is 1 4 r) (rank_of (number_rule s 1 16 r)) (Err 42)
phase_after s request (Ok Done) r = Err 42
phase_after s request (Err x) r = Err x

-- the number where no record is left
unfoldable pub phase_fault : Stage → ℕ
phase_fault (Ok Inside) = 40
phase_fault (Ok Behind) = 0
phase_fault (Ok Done) = 0
phase_fault (Err x) = x

-- and where these are
unfoldable pub left_fault : List ℕ → Bool → Stage → List Rec → ℕ
left_fault s request x [] = phase_fault x
left_fault s request x (r ∷ rs) = left_fault s request (phase_after s request x r) rs

-- the tags' number, else the layout's
unfoldable pub out_fault : List ℕ → Bool → Stage → Out → ℕ
out_fault s request x (good rs end) = left_fault s request x rs
out_fault s request x (bad y) = y

-- from where a reading reached
abbrev pub open_of : Reached → List ℕ
open_of q = stack q.numbers q.depth

unfoldable pub reading : List ℕ → Bool → Reached → ℕ
reading s request q = out_fault s request (numbered q.phase) (walk q.left s q.at (open_of q))

-- and from where it was refused
abbrev pub reading_on : List ℕ → Bool → Result Reached Refusal → ℕ
reading_on s request (Ok q) = reading s request q
reading_on s request (Err x) = number_of x

-- the same reading at another place
abbrev pub moved_to : Reached → ℕ → Reached
moved_to q p = record { at = p; left = q.left; numbers = q.numbers; depth = q.depth; phase = q.phase }

-- an octet of the item is missing
abbrev pub is_early : Tag → Bool
is_early (Item k n v p l) = false
is_early (Opening n p) = false
is_early (Closing n p) = false
is_early (Tag.Refused x) = eqb x 30

-- the item whose tag is all there and whose contents are not
abbrev pub cut_as : ℕ → ℕ → ℕ → ℕ → Cut
cut_as k n p l = record { kind = k; number = n; place = p; len = l }

unfoldable pub cut_length : List ℕ → ℕ → ℕ → ℕ → Cut
cut_length s p k n = pick (ltb (oct s p) 254) (cut_as k n (p + 1) (oct s p)) (cut_as k n (p + 3) (be16 s (p + 1)))

unfoldable pub cut_of : List ℕ → ℕ → Cut
cut_of s at = pick (ltb (oct s at / 16) 15) (cut_length s (at + 1) (oct s at % 16 / 8) (oct s at / 16)) (cut_length s (at + 2) (oct s at % 16 / 8) (oct s (at + 1)))

-- what the functions ask for: a reading within the octets, and one that may read an item
abbrev pub Small : List ℕ → Reached → Type 0
Small s q = (length s ≤ longest) × (q.at ≤ length s) × (q.depth ≤ 16)

abbrev pub Ready : Reached → Type 0
Ready q = (0 < q.left) × (q.depth ≤ 16)

abbrev pub FitsOne : List ℕ → ℕ → ℕ → Type 0
FitsOne s p l = l ≡ 1 → p < length s

abbrev pub TagFits : List ℕ → Tag → Type 0
TagFits s (Item k n v p l) = (p + l ≤ longest + longest) × FitsOne s p l
TagFits s (Opening n p) = Unit {0}
TagFits s (Closing n p) = Unit {0}
TagFits s (Tag.Refused x) = Unit {0}

-- where the octets after a tag begin; none begin after a refusal
abbrev pub Ends : Tag → ℕ → Type 0
Ends (Item k n v p l) at = at ≡ p + l
Ends (Opening n p) at = at ≡ p
Ends (Closing n p) at = at ≡ p
Ends (Tag.Refused x) at = ⊥

-- what one tag does, whatever octets follow: where it stands at the place reached, the reading is the same from where it leads
pub record Stepped (s : List ℕ) (request : Bool) (q : Reached) (t : Tag) (x : Result Reached Refusal) : Type 0 where
  pub deep : IfOk x (λ y. y.depth ≤ 16)
  pub ends : IfOk x (λ y. Ends t y.at)
  pub same : (b : List ℕ) → q.at < length (s ++ b) → head_at (s ++ b) q.at ≡ t → reading (s ++ b) request q ≡ reading_on (s ++ b) request x

-- a reading goes as far as the octets say: to their end, or to an item that they do not end
abbrev pub Stopped : List ℕ → Reached → Type 0
Stopped s q = (q.at ≤ length s) × (q.at < length s → (0 < q.left) × (head_at s q.at ≡ Tag.Refused 30))

abbrev pub Halted : List ℕ → Reached → Type 0
Halted s q = Stopped s q × (q.depth ≤ 16)

-- what going on does, whatever octets follow
pub record Ran (s : List ℕ) (request : Bool) (q : Reached) (x : Result Reached Refusal) : Type 0 where
  pub halted : IfOk x (Halted s)
  pub same : (b : List ℕ) → reading (s ++ b) request q ≡ reading_on (s ++ b) request x
