-- What happened, as a list, and what it says of a key. What is read off it looks at no slot.
use Rattle.std.specs.Prelude.{◌≡◌, Bool, true, false, List, [], ◌∷◌, ◌++◌, ℕ, zero, suc, ◌*◌, ◌%◌, eqb, length}
use Rattle.std.proofs.Math.Option.{Option, none, some}
use Rattle.octets.specs.Choice.{pick, both}
use Rattle.messages.specs.Slots.{room, part, Keys, Segment, Slot, Box, is_some, slot_at}
use Rattle.messages.specs.Rows.{Answer, starts_at, next_number, rebuild, forget}
use Rattle.messages.specs.Rows.Answer.{refused, taken, completed}

-- segments and forget orders as they come
pub data Deed (Key : Type 0) : Type 0 where
  segment : Segment Key → Deed Key
  forgetting : ℕ → Deed Key

-- a segment with its answer; a forget order that freed the slot of a key; a slot that was open when the run began, by its key and the number that must come
pub data Entry (Key : Type 0) : Type 0 where
  said : Segment Key → Answer → Entry Key
  dropped : Key → Entry Key
  stood : Key → ℕ → Entry Key

-- the history, latest first
abbrev pub Log : Type 0 → Type 0
Log Key = List (Entry Key)

abbrev pub accepted : Answer → Bool
accepted (refused n) = false
accepted (taken i n) = true
accepted (completed i n) = true

-- the number that is awaited after a segment's answer: 54 frees the slot, and so does a message's last segment
abbrev pub leaves : ℕ → Answer → Option ℕ → Option ℕ
leaves number (refused n) was = pick (eqb n 54) none was
leaves number (taken i n) was = some (next_number number)
leaves number (completed i n) was = none

abbrev pub or_zero : Option ℕ → ℕ
or_zero none = 0
or_zero (some n) = n

-- the answer names the slot
abbrev pub touches : Answer → ℕ → Bool
touches (refused n) j = false
touches (taken i n) j = eqb i j
touches (completed i n) j = eqb i j

module _ {Key : Type 0} (K : Keys Key) where
  -- an accepted segment of the key
  abbrev pub of : Key → Segment Key → Answer → Bool
  of k g w = both (accepted w) (K.same g.key k)

  -- the number that a key's message awaits after the history, if one is open
  abbrev pub awaited : Key → Log Key → Option ℕ
  awaited k [] = none
  awaited k (said g w ∷ old) = pick (K.same g.key k) (leaves g.number w (awaited k old)) (awaited k old)
  awaited k (dropped j ∷ old) = pick (K.same j k) none (awaited k old)
  awaited k (stood j n ∷ old) = pick (K.same j k) (some n) (awaited k old)

  -- whether a segment starts its key's message after the older history: "starting segment 0", number 0 where that is not the number awaited
  abbrev pub starting : Segment Key → Log Key → Bool
  starting g old = let next = awaited g.key old in starts_at g.number (is_some next) (or_zero next)

  -- a message of the key was begun in the history
  abbrev pub begun : Key → Log Key → Bool
  begun k [] = false
  begun k (said g w ∷ old) = pick (of k g w) (pick (starting g old) true (begun k old)) (begun k old)
  begun k (dropped j ∷ old) = begun k old
  begun k (stood j n ∷ old) = begun k old

  -- the same by what the history is made of: somewhere in it an accepted segment of the key started a message, whatever came behind it
  pub record BeganIn (k : Key) (log : Log Key) : Type 0 where
    pub later : Log Key
    pub first : Segment Key
    pub answer : Answer
    pub older : Log Key
    pub parts : log ≡ later ++ (said first answer ∷ older)
    pub was_accepted : accepted answer ≡ true
    pub mine : first.key ≡ k
    pub starts : starting first older ≡ true

  -- "its key's accepted segments since its latest starting segment 0", in "order of acceptance"
  abbrev pub since : Key → Log Key → List (Segment Key)
  since k [] = []
  since k (said g w ∷ old) = pick (of k g w) (pick (starting g old) (g ∷ []) (since k old ++ (g ∷ []))) (since k old)
  since k (dropped j ∷ old) = since k old
  since k (stood j n ∷ old) = since k old

abbrev pub joined : {Key : Type 0} → List (Segment Key) → List ℕ
joined [] = []
joined (g ∷ gs) = g.octets ++ joined gs

abbrev pub numbers : {Key : Type 0} → List (Segment Key) → List ℕ
numbers [] = []
numbers (g ∷ gs) = g.number ∷ numbers gs

-- the first n of 0, 1, .., 255, 0, 1, ..: each place modulo 256
abbrev pub sequence : ℕ → List ℕ
sequence zero = []
sequence (suc n) = sequence n ++ (n % 256 ∷ [])

-- "Each message .. is its key's accepted segments since its latest starting segment 0, joined in order of acceptance": so are the n octets of slot i, n is their
-- number, and the segments' numbers count 0, 1, .., 255, 0, 1, ..
pub record Rebuilt {Key : Type 0} (K : Keys Key) (k : Key) (log : Log Key) (area : List ℕ) (i n : ℕ) : Type 0 where
  pub octets : part (room * i) n area ≡ joined (since K k log)
  pub total : n ≡ length (joined (since K k log))
  pub order : numbers (since K k log) ≡ sequence (length (since K k log))

-- ---- a run of segments and forget orders
pub record Past (Key : Type 0) : Type 0 where
  pub log : Log Key
  pub box : Box Key

abbrev pub past : {Key : Type 0} → Log Key → Box Key → Past Key
past log b = record { log = log; box = b }

-- a history begins with the slots that are open
abbrev pub standing : {Key : Type 0} → List (Slot Key) → Log Key
standing [] = []
standing (t ∷ ts) = pick t.used (stood t.key t.next ∷ standing ts) (standing ts)

module _ {Key : Type 0} (K : Keys Key) where
  abbrev pub after : Deed Key → Past Key → Past Key
  after (segment g) p = past (said g (rebuild K g p.box).answer ∷ p.log) (rebuild K g p.box).box
  after (forgetting n) p =
      let t = slot_at K p.box.slots n in
      past (pick t.used (dropped t.key ∷ p.log) p.log) (forget K n p.box)

  abbrev pub runs : Past Key → List (Deed Key) → Past Key
  runs p [] = p
  runs p (d ∷ ds) = runs (after d p) ds

  abbrev pub from_start : Box Key → List (Deed Key) → Past Key
  from_start b ds = runs (past (standing b.slots) b) ds
