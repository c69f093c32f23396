-- What 59 and 60 ask of slots and area: as facts, and as the test that a call makes.
use Rattle.std.specs.Prelude.{◌≡◌, Bool, true, false, List, [], ◌∷◌, ℕ, ◌*◌, ◌<◌, ◌≤◌, eqb, leb, length}
use Rattle.octets.specs.Choice.{both, non}
use Rattle.messages.specs.Slots.{room, Keys, Slot, Box, lowest, is_some, slot_at, open_to}

module _ {Key : Type 0} (K : Keys Key) where
  -- no two open slots have one key
  abbrev pub Apart : List (Slot Key) → Type 0
  Apart s = (i j : ℕ) → i < length s → j < length s → (slot_at K s i).used ≡ true → (slot_at K s j).used ≡ true → (slot_at K s i).key ≡ (slot_at K s j).key → i ≡ j

  -- 60: the area has room for every slot; 59: no slot holds over 16,384, no two open slots have one key
  pub record Good (b : Box Key) : Type 0 where
    pub sized : length b.area ≡ room * length b.slots
    pub holds : (i : ℕ) → i < length b.slots → (slot_at K b.slots i).held ≤ room
    pub apart : Apart b.slots

  -- an open slot whose key a later open slot has too
  abbrev pub twice : Slot Key → List (Slot Key) → Bool
  twice t ts = both t.used (is_some (lowest (open_to K t.key) ts))

  -- an open slot whose key no header gives
  abbrev pub strange : Slot Key → Bool
  strange t = both (non (K.given t.key)) t.used

  -- no slot is so
  abbrev pub Known : List (Slot Key) → Type 0
  Known s = (i : ℕ) → i < length s → strange (slot_at K s i) ≡ false

  -- 59: "a slot holding over 16,384, or two open slots of one key", and an open slot whose key no header gives
  abbrev pub sound : List (Slot Key) → Bool
  sound [] = true
  sound (t ∷ ts) = both (leb t.held room) (both (non (strange t)) (both (non (twice t ts)) (sound ts)))

  -- n slots that 59 passes
  abbrev pub passes : ℕ → List (Slot Key) → Bool
  passes n s = both (eqb (length s) n) (sound s)

-- 60: an area for n slots
abbrev pub sized_for : ℕ → List ℕ → Bool
sized_for n a = eqb (length a) (room * n)
