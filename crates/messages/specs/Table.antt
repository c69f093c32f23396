-- The rows 51, 52, 53, 54, 50 of the page's table in its own words, 52 and 53 as messages longer than 256 segments leave them, over the slots that are open, and the answer that they give. Nothing here searches.
use Rattle.std.specs.Prelude.{◌≡◌, true, false, ◌⊎◌, ℕ, ◌+◌, ◌<◌, length}
use Rattle.messages.specs.Slots.{room, Keys, Segment, Box, slot_at}
use Rattle.messages.specs.Rows.{Answer}
use Rattle.messages.specs.Rows.Answer.{refused, taken, completed}

-- "No. | Given exactly when": rows in their order, each a number and its words
pub data Table : Type 1 where
  end : Table
  row : ℕ → Type 0 → Table → Table

-- n is the number of a row whose words hold, and no row before it does
abbrev pub First : Table → ℕ → Type 0
First end n = ⊥
First (row m Words t) n = (Words × (n ≡ m)) ⊎ ((Words → ⊥) × First t n)

-- no row's words hold
abbrev pub NoRow : Table → Type 0
NoRow end = Unit {0}
NoRow (row m Words t) = (Words → ⊥) × NoRow t

module _ {Key : Type 0} (K : Keys Key) (g : Segment Key) (b : Box Key) where
  -- slot i is open and has the segment's key
  pub record OpenAt (i : ℕ) : Type 0 where
    pub slot : i < length b.slots
    pub used : (slot_at K b.slots i).used ≡ true
    pub mine : (slot_at K b.slots i).key ≡ g.key

  -- "key open": some slot is
  abbrev pub Open : Type 0
  Open = (i : ℕ) × OpenAt i

  abbrev pub NotZero : Type 0
  NotZero = g.number ≡ 0 → ⊥

  -- "an open key whose next number is 0"
  abbrev pub AwaitsZero : Type 0
  AwaitsZero = (i : ℕ) × OpenAt i × ((slot_at K b.slots i).next ≡ 0)

  -- "Number 0 continues an open key whose next number is 0 .. otherwise it starts or restarts"
  abbrev pub Starts : Type 0
  Starts = (g.number ≡ 0) × (AwaitsZero → ⊥)

  -- "no slot free"
  abbrev pub Full : Type 0
  Full = (i : ℕ) → i < length b.slots → (slot_at K b.slots i).used ≡ true

  -- "segments' parameters are laid end to end from its first": the octets that stand in front of the segment's, none where it starts
  abbrev pub InFront : ℕ → Type 0
  InFront n = (Starts × (n ≡ 0)) ⊎ ((Starts → ⊥) × ((i : ℕ) × OpenAt i × (n ≡ (slot_at K b.slots i).held)))

  -- and with them
  abbrev pub Total : ℕ → Type 0
  Total n = (m : ℕ) × InFront m × (n ≡ m + length g.octets)

  -- 51: "number not 0 and key not open"
  abbrev pub Words51 : Type 0
  Words51 = NotZero × (Open → ⊥)

  -- 52: "key open, number not 0 and not the next"
  abbrev pub Words52 : Type 0
  Words52 = (i : ℕ) × OpenAt i × NotZero × (g.number ≡ (slot_at K b.slots i).next → ⊥)

  -- 53: "key open, not starting, choice differs"
  abbrev pub Words53 : Type 0
  Words53 = (i : ℕ) × OpenAt i × (Starts → ⊥) × (g.choice ≡ (slot_at K b.slots i).choice → ⊥)

  -- 54: "would pass 16,384 octets"
  abbrev pub Words54 : Type 0
  Words54 = (n : ℕ) × Total n × (room < n)

  -- 50: "number 0, key not open, no slot free"
  abbrev pub Words50 : Type 0
  Words50 = (g.number ≡ 0) × (Open → ⊥) × Full

  abbrev pub table : Table
  table = row 51 Words51 (row 52 Words52 (row 53 Words53 (row 54 Words54 (row 50 Words50 end))))

  -- "otherwise the search stops at the lowest free slot": slot i is free and none below it is
  pub record LowestFree (i : ℕ) : Type 0 where
    pub slot : i < length b.slots
    pub free : (slot_at K b.slots i).used ≡ false
    pub below : (j : ℕ) → j < i → (slot_at K b.slots j).used ≡ true

  -- the slot that the segment goes to: its key's own, if it is open
  abbrev pub Goes : ℕ → Type 0
  Goes i = OpenAt i ⊎ ((Open → ⊥) × LowestFree i)

  -- the answer: the first row's number; else the slot and the octets that it then holds, with MOR taken so far, without it complete
  pub data Answers : Answer → Type 0 where
    refuses : (n : ℕ) → First table n → Answers (refused n)
    takes : (i n : ℕ) → NoRow table → g.mor ≡ true → Goes i → Total n → Answers (taken i n)
    completes : (i n : ℕ) → NoRow table → g.mor ≡ false → Goes i → Total n → Answers (completed i n)
