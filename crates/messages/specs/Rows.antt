-- What a segment does, by the rows 51, 52, 53, 54, 50 in that order, and what a forget order does.
use Rattle.std.specs.Prelude.{Bool, true, List, ℕ, ◌+◌, ◌*◌, ◌%◌, eqb, ltb, length, set}
use Rattle.std.proofs.Math.Option.{Option, none, some}
use Rattle.octets.specs.Choice.{pick, both, non}
use Rattle.octets.specs.Splice.{splice}
use Rattle.messages.specs.Slots.{room, Keys, Segment, Slot, Box, boxed, lowest, or_else, is_some, empty, slot_at, is_free, slot_of}

-- "Number 0 continues an open key whose next number is 0 .. otherwise it starts or restarts": whether a segment with this number starts or restarts,
-- where its key is open or not and, if it is, next is the number that must come
unfoldable pub starts_at : ℕ → Bool → ℕ → Bool
starts_at number isOpen next = both (eqb number 0) (non (both isOpen (eqb next 0)))

-- "The sequence octet after 255 is 0": the number after a number
unfoldable pub next_number : ℕ → ℕ
next_number n = (n + 1) % 256

-- refused with a number; held so far in a slot, n octets; complete in a slot, n octets
pub data Answer : Type 0 where
  refused : ℕ → Answer
  taken : ℕ → ℕ → Answer
  completed : ℕ → ℕ → Answer

pub record Done (Key : Type 0) : Type 0 where
  pub answer : Answer
  pub box : Box Key

abbrev pub done : {Key : Type 0} → Answer → List (Slot Key) → List ℕ → Done Key
done w s a = record { answer = w; box = boxed s a }

-- "Nothing changes unless said"
abbrev pub kept : {Key : Type 0} → ℕ → Box Key → Done Key
kept n b = done (refused n) b.slots b.area

module _ {Key : Type 0} (K : Keys Key) where
  -- the record of a key's slot, all zero where the key is not open
  abbrev pub record_at : List (Slot Key) → Option ℕ → Slot Key
  record_at s none = empty K
  record_at s (some i) = slot_at K s i

  -- the segment starts or restarts its key's message; o: the slot of the key, if it is open; t: its record
  abbrev pub starts : Segment Key → Option ℕ → Slot Key → Bool
  starts g o t = starts_at g.number (is_some o) t.next

  abbrev pub free_at : Option ℕ → List (Slot Key) → List (Slot Key)
  free_at none s = s
  free_at (some i) s = set s i (empty K)

  -- "frees the slot", where there is one
  abbrev pub lost : ℕ → Option ℕ → Box Key → Done Key
  lost n o b = done (refused n) (free_at o b.slots) b.area

  -- the slot's record while more segments are to come
  abbrev pub awaiting : Segment Key → ℕ → Slot Key
  awaiting g total = record { used = true; key = g.key; next = next_number g.number; choice = g.choice; held = total }

  -- "segments' parameters are laid end to end from its first": in slot i behind n octets; "A segment without MOR completes and frees the slot"
  abbrev pub settle : Segment Key → ℕ → ℕ → Box Key → Done Key
  settle g i n b =
      let total = n + length g.octets in
      let a = splice b.area (room * i + n) g.octets in
      pick g.mor (done (taken i total) (set b.slots i (awaiting g total)) a) (done (completed i total) (set b.slots i (empty K)) a)

  -- 50: no slot
  abbrev pub settled : Segment Key → Option ℕ → ℕ → Box Key → Done Key
  settled g none n b = kept 50 b
  settled g (some i) n b = settle g i n b

  -- octets that stand in the slot before this segment's: none where it starts or restarts
  abbrev pub before : Segment Key → Option ℕ → Slot Key → ℕ
  before g o t = pick (starts g o t) 0 t.held

  -- 54: "would pass 16,384 octets"; then the key's own slot, "otherwise the search stops at the lowest free slot"
  abbrev pub fitted : Segment Key → Option ℕ → ℕ → Box Key → Done Key
  fitted g o n b =
      pick (ltb room (n + length g.octets)) (lost 54 o b)
      (settled g (or_else o (lowest (is_free K) b.slots)) n b)

  -- o: the slot of the key, if it is open; t: its record.
  -- 51: "number not 0 and key not open"; 52: "key open, number not 0 and not the next"; 53: "key open, not starting, choice differs"
  abbrev pub rows : Segment Key → Option ℕ → Slot Key → Box Key → Done Key
  rows g o t b =
      let anew = starts g o t in
      let later = both (is_some o) (non anew) in
      pick (both (non anew) (non (is_some o))) (kept 51 b)
      (pick (both later (non (eqb g.number t.next))) (kept 52 b)
      (pick (both later (non (eqb g.choice t.choice))) (kept 53 b)
      (fitted g o (before g o t) b)))

  -- the same of a segment and the slots as they are
  abbrev pub starts_in : Segment Key → Box Key → Bool
  starts_in g b = starts g (slot_of K g.key b.slots) (record_at b.slots (slot_of K g.key b.slots))

  unfoldable pub rebuild : Segment Key → Box Key → Done Key
  rebuild g b = rows g (slot_of K g.key b.slots) (record_at b.slots (slot_of K g.key b.slots)) b

  -- "Forgetting frees a slot"; 56: "forgetting a slot not open or above 3", which changes nothing
  abbrev pub forget_number : ℕ → List (Slot Key) → ℕ
  forget_number i s = pick (slot_at K s i).used 0 56

  abbrev pub forgotten : ℕ → List (Slot Key) → List (Slot Key)
  forgotten i s = pick (slot_at K s i).used (set s i (empty K)) s

  unfoldable pub forget : ℕ → Box Key → Box Key
  forget i b = boxed (forgotten i b.slots) b.area
