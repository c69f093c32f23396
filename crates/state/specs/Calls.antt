-- The state that a lent area is, its edition, link and slots lifted, link and slots laid there, and a whole state saved there. "60, then 59": an area of another size is
-- 60, octets that are no state's are 59.
use Rattle.std.specs.Prelude.{ℕ, zero, suc, ◌≡◌, Bool, true, List, [], ◌∷◌, Result, Ok, Err, eqb, length}
use Rattle.std.specs.Borrow.{Bor}
use Rattle.octets.specs.Choice.{pick, both}
use Rattle.octets.specs.Splice.{splice}
use Rattle.octets.specs.Refusal.{number_of}
use Rattle.octets.specs.declared.refusal.Refusal.{Refusal}
use Rattle.octets.specs.declared.refusal.Refusal.TheVariants.{AreaSize}
use Rattle.apdu.specs.declared.Edition.{Edition}
use Rattle.apdu.specs.declared.Edition.TheVariants.{First}
use Rattle.frames.specs.declared.Link.{Link}
use Rattle.rebuild.specs.declared.Slot.{Slot}
use Rattle.rebuild.specs.declared.Slots.{Slots}
use Rattle.collector.specs.declared.Collector.{Collector}
use Rattle.collector.specs.Calls.{fresh_collector, slot_count, sound, slots_of}
use Rattle.state.specs.declared.Lifted as Code
use Rattle.state.specs.Link.{link_size, link_octets, link_good, link_of}
use Rattle.state.specs.Edition.{edition_good, edition_of}
use Rattle.state.specs.Slot.{slot_good, slot_of}
use Rattle.state.specs.Layout.{slots_place, slots_size, state_size, link_part, store_part, edition_at, slot_part, slots_octets, state_octets, SlotsShaped}

-- ---- which octets are no state's: those of a part that is none
unfoldable pub good_at : List ℕ → ℕ → Bool
good_at o i = slot_good (slot_part o i)

-- n slots from number i on
abbrev pub slots_good : List ℕ → ℕ → ℕ → Bool
slots_good o i zero = true
slots_good o i (suc n) = both (good_at o i) (slots_good o (suc i) n)

unfoldable pub state_good : List ℕ → Bool
state_good o = both (link_good (link_part o)) (both (edition_good (edition_at o)) (slots_good o 0 slot_count))

-- ---- the state that the octets are
unfoldable pub slot_at : List ℕ → ℕ → Slot
slot_at o i = slot_of (slot_part o i)

-- n slots from number i on
abbrev pub slots_at : List ℕ → ℕ → ℕ → List Slot
slots_at o i zero = []
slots_at o i (suc n) = slot_at o i ∷ slots_at o (suc i) n

unfoldable pub state_at : List ℕ → Collector
state_at o =
    record {
      edition = edition_of (edition_at o);
      receiver = record { link = link_of (link_part o); store = store_part o };
      slots = record { slots = slots_at o 0 slot_count };
    }

-- what an area is loaded as: 60, 59, or 0 with the state
pub record Loaded : Type 0 where
  pub refused : ℕ
  pub state : Collector

-- with a refusal it is the fresh state of 1995
abbrev pub loaded : ℕ → Collector → Loaded
loaded n c = record { refused = n; state = c }

unfoldable pub load_of : List ℕ → Loaded
load_of o = pick (eqb (length o) state_size) (pick (state_good o) (loaded 0 (state_at o)) (loaded 59 (fresh_collector First))) (loaded 60 (fresh_collector First))

-- the octets are accepted as this state
abbrev pub Loads : List ℕ → Collector → Type 0
Loads o c = load_of o ≡ loaded 0 c

-- ---- judging: 60; 59 for octets that are no state's, and for a state that 59 does not pass; else 0
unfoldable pub fair_of : List ℕ → Bool
fair_of o = both (state_good o) (sound (state_at o).receiver (slots_of (state_at o)))

unfoldable pub judge_of : List ℕ → ℕ
judge_of o = pick (eqb (length o) state_size) (pick (fair_of o) 0 59) 60

-- an area's octets where they are as many as a state's, or 60
abbrev pub OfSize : List ℕ → Result (Bor (List ℕ)) Refusal → Type 0
OfSize o (Ok a) = (a.now ≡ o) × (length o ≡ state_size)
OfSize o (Err r) = (length o ≡ state_size → ⊥) × (r ≡ AreaSize)

-- what a silence wants of a state: 60, 59 or 0 with the link
pub record Silence : Type 0 where
  pub refused : ℕ
  pub link : Link

-- an answer of the code as that; with a refusal it is the link of the fresh state of 1995
abbrev pub silence_of : Result Link Refusal → Silence
silence_of (Ok l) = record { refused = 0; link = l }
silence_of (Err r) = record { refused = number_of r; link = (fresh_collector First).receiver.link }

-- for a silence: that number, and with 0 the link; store and slots stay in their place
pub record Stands (o : List ℕ) (r : Silence) : Type 0 where
  pub number : r.refused ≡ judge_of o
  pub link : judge_of o ≡ 0 → r.link ≡ link_of (link_part o)

-- ---- lifting: edition, link and slots of what the area is loaded as; its frame store stays in its place
pub record Lifted : Type 0 where
  pub refused : ℕ
  pub edition : Edition
  pub link : Link
  pub slots : Slots

abbrev pub lifted_as : Loaded → Lifted
lifted_as l = record { refused = l.refused; edition = l.state.edition; link = l.state.receiver.link; slots = l.state.slots }

unfoldable pub lift_of : List ℕ → Lifted
lift_of o = lifted_as (load_of o)

-- an answer of the code as that
abbrev pub lifted_of : Result Code.Lifted Refusal → Lifted
lifted_of (Ok l) = record { refused = 0; edition = l.edition; link = l.link; slots = l.slots }
lifted_of (Err r) = lifted_as (loaded (number_of r) (fresh_collector First))

-- ---- laying a part of n octets over the one at its place: 0, or 60 and the area is as it was
pub record Lays (at n : ℕ) (xs area : List ℕ) (r : ℕ) (later : List ℕ) : Type 0 where
  pub answer : r ≡ pick (eqb (length area) state_size) 0 60
  pub after : later ≡ pick (eqb (length area) state_size) (splice area at xs) area
  pub long : length xs ≡ n

-- slots: four, their arrays of their sizes
pub record LaysSlots (t : Slots) (area : List ℕ) (r : ℕ) (later : List ℕ) : Type 0 where
  pub lays : Lays slots_place slots_size (slots_octets t.slots) area r later
  pub four : length t.slots ≡ slot_count
  pub shaped : SlotsShaped t.slots

-- a link, and slots over what it left
pub record LaysBoth (l : Link) (t : Slots) (area : List ℕ) (r : ℕ) (later : List ℕ) : Type 0 where
  pub number : ℕ
  pub linked : List ℕ
  pub link : Lays 0 link_size (link_octets l) area number linked
  pub slots : LaysSlots t linked r later

-- ---- saving: 0 and the area is the state's octets, or 60 and it is as it was
pub record Saves (c : Collector) (area : List ℕ) (r : ℕ) (later : List ℕ) : Type 0 where
  pub answer : r ≡ pick (eqb (length area) state_size) 0 60
  pub after : later ≡ pick (eqb (length area) state_size) (state_octets c) area
  pub again : length area ≡ state_size → Loads later c
