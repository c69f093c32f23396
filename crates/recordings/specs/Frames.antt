-- Frames over rebuilding: what an outcome does to slots and area, and the segments and forget orders that a run is. For any frames and any key.
use Rattle.std.specs.Prelude.{◌≡◌, List, [], ◌∷◌, ◌++◌, ℕ, ◌+◌}
use Rattle.std.proofs.Math.Option.{Option, none, some}
use Rattle.runs.specs.Run.{Run, Trace, ended, Rules, Ends}
use Rattle.runs.specs.Run.Order.{trunk, forget}
use Rattle.messages.specs.Slots.{Keys, Segment, Slot, Box, boxed}
use Rattle.messages.specs.Rows.{Answer, rebuild, forgotten}
use Rattle.messages.specs.Rows.Answer.{completed}
use Rattle.messages.specs.History.{Deed, Log, from_start}
use Rattle.messages.specs.History.Deed.{segment, forgetting}
use Rattle.messages.specs.History.Entry.{said, dropped, stood}

-- how outcomes are read and reported: the segment that one carries, the report of one that carries none, and of one that does, from its answer and the area after it
pub record Frames (O Key R : Type 0) : Type 0 where
  pub segment_of : O → Option (Segment Key)
  pub plain : O → R
  pub answered : O → Answer → List ℕ → R

module _ {O Key R : Type 0} (K : Keys Key) (f : Frames O Key R) where
  abbrev pub act_on : Option (Segment Key) → O → List (Slot Key) → List ℕ → R × List (Slot Key) × List ℕ
  act_on none o s a = (f.plain o, s, a)
  act_on (some g) o s a = let d = rebuild K g (boxed s a) in (f.answered o d.answer d.box.area, d.box.slots, d.box.area)

  -- an outcome acts by what it carries; a forget order frees its slot
  abbrev pub rules : Rules O (List (Slot Key)) (List ℕ) R
  rules = record { act = λ o s a. act_on (f.segment_of o) o s a; free = λ n s. forgotten K n s }

  abbrev pub deed_of : Option (Segment Key) → List (Deed Key)
  deed_of none = []
  deed_of (some g) = segment g ∷ []

  abbrev pub deeds_at : Option O → List (Deed Key)
  deeds_at none = []
  deeds_at (some o) = deed_of (f.segment_of o)

  -- the segments that end on the trunk, and the forget orders, in order: read off the recording
  abbrev pub deeds : {M : Type 0} → Trace O M → ℕ → Run → List (Deed Key)
  deeds t p [] = []
  deeds t p (trunk e ∷ run) = deeds_at (ended p t) ++ deeds t (p + 1) run
  deeds t p (forget n ∷ run) = forgetting n ∷ deeds t p run

  -- the history that a run is, latest first: its segments with their answers, and the slots that were open as it began
  abbrev pub history : {M : Type 0} → Trace O M → ℕ → List (Slot Key) → List ℕ → Run → Log Key
  history t p s a run = (from_start K (boxed s a) (deeds t p run)).log

abbrev pub box_at : {Key M R : Type 0} → Ends M (List (Slot Key)) (List ℕ) R → Box Key
box_at e = boxed e.slots e.area

-- the latest segment of a history completed a message of n octets in slot i, its key being k
abbrev pub Completes : {Key : Type 0} → Log Key → Key → ℕ → ℕ → Type 0
Completes [] k i n = ⊥
Completes (said g w ∷ old) k i n = (g.key ≡ k) × (w ≡ completed i n)
Completes (dropped j ∷ old) k i n = ⊥
Completes (stood j m ∷ old) k i n = ⊥
