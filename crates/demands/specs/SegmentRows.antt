-- DEMAND 1, the numbers of segments: "Bad input gets the refusal number that document 01 fixes". Each of 51, 52, 53, 54 and 50 exactly when the table says
-- so of the slots that are open.
use Rattle.std.specs.Prelude.{ℕ, ◌<◌, ◌≡◌, ◌↔◌, Bool, true, false, List, [], ◌∷◌, length, replicate}
use Rattle.messages.specs.Slots.{Segment, Slot, Box, boxed, empty, slot_at}
use Rattle.messages.specs.Rows.{Answer, rebuild}
use Rattle.messages.specs.Rows.Answer.{refused, taken, completed}
use Rattle.messages.specs.Table.{Answers}
use Rattle.rebuild.specs.View.{keys, nowhere, view, segment_of}
use Rattle.rebuild.specs.Calls as Rebuild
use Rattle.rebuild.specs.declared.Key.{Key}
use Rattle.rebuild.specs.declared.Slots.{Slots}
use Rattle.rebuild.specs.declared.Segment.{Segment as Head}
use Rattle.rebuild.specs.Calls.{Taken}

-- 59 names "two open slots of one key": there are none. What a slot holds may be over 16,384.
abbrev pub OneSlotEach : List (Slot Key) → Type 0
OneSlotEach s = (i j : ℕ) → i < j → j < length s → (slot_at keys s i).used ≡ true → (slot_at keys s j).used ≡ true → (slot_at keys s i).key ≡ (slot_at keys s j).key → ⊥

-- "No. | Given exactly when", "by row order", and "A segment without MOR completes": w is the answer to a segment exactly when the rows' words give it, where
-- no two open slots have one key. `Answers` (messages/Table) has each row's words
abbrev pub SegmentRows : Type 0
SegmentRows = (g : Segment Key) (b : Box Key) → OneSlotEach b.slots → (w : Answer) → ((rebuild keys g b).answer ≡ w) ↔ Answers keys g b w

-- the same of the call, by its promise, in an area of 65,536 octets
abbrev pub TakeRows : Type 0
TakeRows = (t : Slots) (g : Head) (o area : List ℕ) (r : Taken) (later : List ℕ) → Rebuild.Gives (Rebuild.taking t g o area) r later → length area ≡ 65536
    → OneSlotEach (view t) → (w : Answer) → (r.answer ≡ Rebuild.step_of w) ↔ Answers keys (segment_of g o) (boxed (view t) area) w

-- ---- worked: segments in a row over four slots, each number once
-- the answers to segments, one after another
abbrev pub answers_to : Box Key → List (Segment Key) → List Answer
answers_to b [] = []
answers_to b (g ∷ gs) = (rebuild keys g b).answer ∷ answers_to (rebuild keys g b).box gs

-- a key without network addresses
abbrev pub key_of : ℕ → ℕ → ℕ → ℕ → Key
key_of source destination kind invoke = record { source = source; destination = destination; kind = kind; invoke = invoke; from = nowhere; to = nowhere }

-- a segment with n octets
abbrev pub segment : Key → ℕ → Bool → ℕ → ℕ → Segment Key
segment k number mor choice n = record { key = k; number = number; mor = mor; choice = choice; octets = replicate n 29 }

abbrev pub first : Key
first = key_of 11 12 0 13

abbrev pub second : Key
second = key_of 15 16 3 17

abbrev pub third : Key
third = key_of 22 23 0 24

abbrev pub fourth : Key
fourth = key_of 31 32 3 33

abbrev pub fifth : Key
fifth = key_of 34 35 0 36

abbrev pub sixth : Key
sixth = key_of 37 38 3 39

abbrev pub seventh : Key
seventh = key_of 40 41 0 42

-- slot 0 three octets short of full, slot 2 awaiting 255, the others free
abbrev pub worked_slots : List (Slot Key)
worked_slots =
    record { used = true; key = first; next = 21; choice = 14; held = 16381 } ∷ empty keys ∷ record { used = true; key = second; next = 255; choice = 18; held = 19 } ∷ empty keys ∷ []

abbrev pub worked_segments : List (Segment Key)
worked_segments =
    segment third 25 true 26 10
    ∷ segment first 28 true 14 20
    ∷ segment first 21 true 30 43
    ∷ segment first 21 true 14 3
    ∷ segment first 22 true 14 1
    ∷ segment second 255 true 18 44
    ∷ segment second 0 true 30 5
    ∷ segment second 0 true 18 5
    ∷ segment second 0 true 58 8
    ∷ segment second 1 false 58 2
    ∷ segment third 0 true 26 2
    ∷ segment fourth 0 true 45 6
    ∷ segment fifth 0 true 46 9
    ∷ segment sixth 0 true 47 7
    ∷ segment seventh 0 true 48 49
    ∷ segment third 1 false 26 3
    ∷ segment fourth 0 false 50 4
    ∷ segment seventh 0 true 48 8
    ∷ []

-- not open; not the next number; another choice; 16,384 octets are held and one more is too many; behind 255 number 0 goes on, but not with another choice; the
-- next 0 restarts in the slot, with another choice, and 1 completes; four keys start and a fifth finds no slot; the first of them completes; number 0 restarts the
-- second in its slot, with another choice; the fifth goes to the lowest free slot
abbrev pub SegmentsWorked : Type 0
SegmentsWorked = (area : List ℕ) → answers_to (boxed worked_slots area) worked_segments
    ≡ refused 51 ∷ refused 52 ∷ refused 53 ∷ taken 0 16384 ∷ refused 54 ∷ taken 2 63 ∷ refused 53 ∷ taken 2 68 ∷ taken 2 8 ∷ completed 2 10 ∷ taken 0 2 ∷ taken 1 6 ∷ taken 2 9 ∷ taken 3 7 ∷ refused 50 ∷ completed 0 5 ∷ completed 1 4 ∷ taken 0 8 ∷ []

-- ---- worked: segments that break several rules, "by row order", and some that break none
-- the answers to segments, each from the same slots
abbrev pub answers_each : Box Key → List (Segment Key) → List Answer
answers_each b [] = []
answers_each b (g ∷ gs) = (rebuild keys g b).answer ∷ answers_each b gs

-- every slot open; slot 0 is four octets short of full, slot 1 three, and awaits 0 behind 255
abbrev pub full_slots : List (Slot Key)
full_slots =
    record { used = true; key = first; next = 21; choice = 14; held = 16380 }
    ∷ record { used = true; key = second; next = 0; choice = 18; held = 16381 }
    ∷ record { used = true; key = fourth; next = 51; choice = 52; held = 53 }
    ∷ record { used = true; key = sixth; next = 54; choice = 55; held = 56 }
    ∷ []

abbrev pub rules_meet : List (Segment Key)
rules_meet =
    segment third 255 true 26 16385
    ∷ segment first 28 true 30 1
    ∷ segment first 28 true 14 20
    ∷ segment second 1 true 57 4
    ∷ segment first 21 true 30 43
    ∷ segment second 0 true 57 4
    ∷ segment second 0 true 18 4
    ∷ segment second 0 true 18 3
    ∷ segment first 0 true 30 16384
    ∷ segment third 0 true 26 16385
    ∷ segment third 0 true 26 16384
    ∷ []

-- not open, 51, and too many octets; not the next number, 52, and another choice, or too many octets, or both, also where 0 is the next; another choice, 53, and
-- too many octets, also of a number 0 that goes on; of such a 0 too many octets, 54, where a restart would fit, and none too many; a restart in its slot, with another
-- choice and no slot free; too many octets, 54, and no slot free, which alone is 50
abbrev pub SegmentsInOrder : Type 0
SegmentsInOrder = (area : List ℕ) → answers_each (boxed full_slots area) rules_meet
    ≡ refused 51 ∷ refused 52 ∷ refused 52 ∷ refused 52 ∷ refused 53 ∷ refused 53 ∷ refused 54 ∷ taken 1 16384 ∷ taken 0 16384 ∷ refused 54 ∷ refused 50 ∷ []
