-- The octets that a state is, and where each part stands. A state area has 635:
--     0 - 8    the link
--     9 - 509  the frame store
--   510        the edition
--   511 - 634  the four slots, of 31 octets each
-- The numbers follow from the sizes below; a link's own octets are said in Link, the edition's in Edition and a slot's in Slot.
use Rattle.std.specs.Prelude.{ℕ, ◌+◌, ◌*◌, ◌<◌, ◌≡◌, List, [], ◌∷◌, ◌++◌, length, take, drop}
use Rattle.octets.specs.Reading.{oct, Octets}
use Rattle.apdu.specs.declared.Edition.{Edition}
use Rattle.frames.specs.Step as Frames
use Rattle.rebuild.specs.declared.Slot.{Slot}
use Rattle.rebuild.specs.declared.Slots.{Slots}
use Rattle.collector.specs.Calls.{slot_count}
use Rattle.collector.specs.declared.Collector.{Collector}
use Rattle.state.specs.Link.{link_size, link_octets, PhaseFits}
use Rattle.state.specs.Edition.{edition_size, edition_octet}
use Rattle.state.specs.Slot.{slot_size, slot_octets, SlotFits, SlotShaped}

-- ---- the places
abbrev pub store_place : ℕ
store_place = link_size

-- "a frame store of 501 octets"
abbrev pub store_size : ℕ
store_size = Frames.most

abbrev pub edition_place : ℕ
edition_place = store_place + store_size

abbrev pub slots_place : ℕ
slots_place = edition_place + edition_size

-- slot i, counted from 0
abbrev pub slot_place : ℕ → ℕ
slot_place i = slots_place + slot_size * i

abbrev pub slots_size : ℕ
slots_size = slot_size * slot_count

abbrev pub state_size : ℕ
state_size = slots_place + slots_size

-- the octets that stand at the places
abbrev pub link_part : List ℕ → List ℕ
link_part o = take link_size o

abbrev pub store_part : List ℕ → List ℕ
store_part o = take store_size (drop store_place o)

abbrev pub edition_at : List ℕ → ℕ
edition_at o = oct o edition_place

abbrev pub slot_part : List ℕ → ℕ → List ℕ
slot_part o i = take slot_size (drop (slot_place i) o)

-- ---- the octets
abbrev pub slots_octets : List Slot → List ℕ
slots_octets [] = []
slots_octets (x ∷ xs) = slot_octets x ++ slots_octets xs

-- link, store, and what stands behind the store
abbrev pub behind_octets : Edition → Slots → List ℕ
behind_octets e t = edition_octet e ∷ slots_octets t.slots

unfoldable pub state_octets : Collector → List ℕ
state_octets c = link_octets c.receiver.link ++ (c.receiver.store ++ behind_octets c.edition c.slots)

-- ---- the values that a state's types hold: every octet an octet, every array of its size
abbrev pub SlotsFit : List Slot → Type 0
SlotsFit [] = Unit {0}
SlotsFit (x ∷ xs) = SlotFits x × SlotsFit xs

-- the sizes alone
abbrev pub SlotsShaped : List Slot → Type 0
SlotsShaped [] = Unit {0}
SlotsShaped (x ∷ xs) = SlotShaped x × SlotsShaped xs

pub record Fits (c : Collector) : Type 0 where
  pub phase : PhaseFits c.receiver.link.phase
  pub head : length c.receiver.link.head ≡ 5
  pub head_octets : Octets c.receiver.link.head
  pub first : c.receiver.link.first < 256
  pub store : length c.receiver.store ≡ store_size
  pub store_octets : Octets c.receiver.store
  pub four : length c.slots.slots ≡ slot_count
  pub slots : SlotsFit c.slots.slots
