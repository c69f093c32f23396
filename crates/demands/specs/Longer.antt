-- Messages longer than 256 segments. "The sequence octet after 255 is 0, as the standard counts it .. Number 0 continues an open key whose next number is 0, judged by 53
-- and 54; otherwise it starts or restarts as before. A new message that begins just there is joined to the old one: write that down as known."
use Rattle.std.specs.Prelude.{ℕ, ◌+◌, ◌*◌, ◌%◌, ◌≤◌, ◌<◌, ◌≡◌, ◌↔◌, true, false, List, [], ◌∷◌, ◌++◌, length, set}
use Rattle.octets.specs.Splice.{splice}
use Rattle.messages.specs.Slots.{room, part, Segment, Slot, Box, empty, slot_at}
use Rattle.messages.specs.Rows.{Done, done, rebuild}
use Rattle.messages.specs.Rows.Answer.{refused, taken, completed}
use Rattle.messages.specs.Table.{OpenAt, AwaitsZero, Goes}
use Rattle.messages.specs.History.{joined}
use Rattle.rebuild.specs.View.{keys}
use Rattle.rebuild.specs.declared.Key.{Key}
use Rattle.demands.specs.Words.{waits}
use Rattle.demands.specs.SegmentRows.{OneSlotEach}

-- What a segment does that goes to slot i behind n octets of it: 54 where they would pass 16,384, and the slot is freed and nothing laid; else its octets are laid there
-- and nowhere else, and it is held or, without MOR, complete.
pub record LaidBehind (g : Segment Key) (b : Box Key) (i n : ℕ) (d : Done Key) : Type 0 where
  pub over : room < n + length g.octets → d ≡ done (refused 54) (set b.slots i (empty keys)) b.area
  pub more : n + length g.octets ≤ room → g.mor ≡ true
      → d ≡ done (taken i (n + length g.octets)) (set b.slots i (waits g (n + length g.octets))) (splice b.area (room * i + n) g.octets)
  pub last : n + length g.octets ≤ room → g.mor ≡ false
      → d ≡ done (completed i (n + length g.octets)) (set b.slots i (empty keys)) (splice b.area (room * i + n) g.octets)

-- a segment whose key is open in slot i, and in no other; its record
pub record OpenIn (g : Segment Key) (b : Box Key) (i : ℕ) (t : Slot Key) : Type 0 where
  pub one_each : OneSlotEach b.slots
  pub here : OpenAt keys g b i
  pub is : slot_at keys b.slots i ≡ t

-- Number 0 of an open key continues exactly when the slot's next number is 0; else it is laid from the slot's first octet.
pub record ZeroGoesOn : Type 0 where
  -- the next number is 0: with the slot's choice it goes behind what is held; with another it is 53, and any other number is 52, which change nothing
  pub goes_on : (g : Segment Key) (b : Box Key) (i : ℕ) (t : Slot Key) → OpenIn g b i t → g.number ≡ 0 → t.next ≡ 0 → g.choice ≡ t.choice → LaidBehind g b i t.held (rebuild keys g b)
  pub other_choice_lem : (g : Segment Key) (b : Box Key) (i : ℕ) (t : Slot Key) → OpenIn g b i t → g.number ≡ 0 → t.next ≡ 0 → (g.choice ≡ t.choice → ⊥)
      → rebuild keys g b ≡ done (refused 53) b.slots b.area
  pub other_number_lem : (g : Segment Key) (b : Box Key) (i : ℕ) (t : Slot Key) → OpenIn g b i t → (g.number ≡ 0 → ⊥) → t.next ≡ 0 → rebuild keys g b ≡ done (refused 52) b.slots b.area
  -- any other next number: it restarts, whatever its choice
  pub restarts : (g : Segment Key) (b : Box Key) (i : ℕ) (t : Slot Key) → OpenIn g b i t → g.number ≡ 0 → (t.next ≡ 0 → ⊥) → LaidBehind g b i 0 (rebuild keys g b)
  -- where octets are held, the answer tells the one from the other
  pub exactly : (g : Segment Key) (b : Box Key) (i : ℕ) (t : Slot Key) → OpenIn g b i t → g.number ≡ 0 → g.mor ≡ true → g.choice ≡ t.choice
      → 0 < t.held → t.held + length g.octets ≤ room → ((rebuild keys g b).answer ≡ taken i (t.held + length g.octets)) ↔ (t.next ≡ 0)
  -- a slot comes to await 0 behind 255, and nowhere else
  pub awaits : (g : Segment Key) (b : Box Key) (i n : ℕ) → g.number < 256 → (rebuild keys g b).answer ≡ taken i n
      → ((slot_at keys (rebuild keys g b).box.slots i).next ≡ 0) ↔ (g.number ≡ 255)

-- The known fault. From a slot with next number 0 and the same choice a segment 0 that fits is laid behind what is held, whoever sent it: nothing in the segment tells
-- a new message's first from the old one's next. So a new message of two segments that begins just there completes as one message with the old one.
pub record JoinedThere : Type 0 where
  pub laid : (g : Segment Key) (b : Box Key) (i : ℕ) (t : Slot Key) → length b.area ≡ room * length b.slots → OpenIn g b i t → g.number ≡ 0 → t.next ≡ 0 → g.choice ≡ t.choice
      → t.held + length g.octets ≤ room → part (room * i) (t.held + length g.octets) (rebuild keys g b).box.area ≡ part (room * i) t.held b.area ++ g.octets
  pub joined : (g h : Segment Key) (b : Box Key) (i : ℕ) (t : Slot Key) → length b.area ≡ room * length b.slots → OpenIn g b i t → h.key ≡ g.key → t.next ≡ 0
      → g.number ≡ 0 → g.mor ≡ true → g.choice ≡ t.choice → h.number ≡ 1 → h.mor ≡ false → h.choice ≡ t.choice
      → t.held + length g.octets + length h.octets ≤ room
      → (let d = rebuild keys h (rebuild keys g b).box in
      let n = t.held + length g.octets + length h.octets in
      (d.answer ≡ completed i n) × (part (room * i) n d.box.area ≡ part (room * i) t.held b.area ++ (g.octets ++ h.octets)))
  -- and a segment 0 that went on and comes once more restarts: what was held is lost
  pub again : (g : Segment Key) (b : Box Key) (i : ℕ) (t : Slot Key) → OpenIn g b i t → g.number ≡ 0 → t.next ≡ 0 → g.mor ≡ true → g.choice ≡ t.choice
      → t.held + length g.octets ≤ room → LaidBehind g (rebuild keys g b).box i 0 (rebuild keys g (rebuild keys g b).box)

-- ---- A message of any number of segments, "logs run past 256 of them": the octets held bound it, and segments without octets go on counting.
-- its segments but the last, from the n-th on: of one key and one choice, with MOR, their numbers as the standard counts them
abbrev pub Ahead : Key → ℕ → ℕ → List (Segment Key) → Type 0
Ahead k choice n [] = Unit {0}
Ahead k choice n (g ∷ gs) = (g.key ≡ k) × (g.choice ≡ choice) × (g.number ≡ n % 256) × (g.mor ≡ true) × Ahead k choice (n + 1) gs

-- the slots and the area behind segments that come one after another
abbrev pub behind : Box Key → List (Segment Key) → Box Key
behind b [] = b
behind b (g ∷ gs) = behind (rebuild keys g b).box gs

-- a whole message, gs and then h with nothing between them, that comes where its key does not await 0, to its key's slot or else the lowest free one, and that fits
pub record Comes (b : Box Key) (i : ℕ) (gs : List (Segment Key)) (h : Segment Key) : Type 0 where
  pub one_each : OneSlotEach b.slots
  pub area : length b.area ≡ room * length b.slots
  pub anew : AwaitsZero keys h b → ⊥
  pub slot : Goes keys h b i
  pub ahead : Ahead h.key h.choice 0 gs
  pub number : h.number ≡ length gs % 256
  pub last : h.mor ≡ false
  pub fits : length (joined gs) + length h.octets ≤ room

-- it completes in that slot, with all its octets in their order
abbrev pub AnyNumber : Type 0
AnyNumber = (b : Box Key) (i : ℕ) (gs : List (Segment Key)) (h : Segment Key) → Comes b i gs h
    → (let d = rebuild keys h (behind b gs) in
    let n = length (joined gs) + length h.octets in
    (d.answer ≡ completed i n) × (part (room * i) n d.box.area ≡ joined gs ++ h.octets))
