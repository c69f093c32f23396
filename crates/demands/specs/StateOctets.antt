-- States, octet by octet: "State to octets and back is .. the same state." In the first no two fields have one value (but the edition and the flags: both open slots
-- are used, one has no network destination and one no network source), so that none can stand at another's place: for that it got more octets than a store has and its
-- addresses are longer than seven octets, a state that 59 names. States are laid and read whatever they hold.
use Rattle.std.specs.Prelude.{ℕ, ◌≡◌, true, false, List, [], ◌∷◌, ◌++◌, length, take, drop, replicate}
use Rattle.octets.specs.Reading.{oct}
use Rattle.apdu.specs.declared.Edition.TheVariants.{First, Later}
use Rattle.frames.specs.declared.Phase.{Phase}
use Rattle.frames.specs.declared.Phase.TheVariants.{Hunting, Preamble, Header, Data}
use Rattle.messages.specs.Slots.{empty}
use Rattle.rebuild.specs.View as View
use Rattle.rebuild.specs.View.{keys, free_slot}
use Rattle.rebuild.specs.declared.Slot.{Slot}
use Rattle.collector.specs.Calls.{fresh_collector}
use Rattle.collector.specs.declared.Collector.{Collector}
use Rattle.state.specs.Slot.{slot_octets}
use Rattle.state.specs.Layout.{state_octets}
use Rattle.state.specs.Calls.{Loads}

-- a frame store, its first and last octet not 0
abbrev pub worked_store : List ℕ
worked_store = 80 ∷ (replicate 499 0 ++ (81 ∷ []))

-- two open slots, one without a network destination and one without a network source; the fields of the absent one are filled too, so that each octet is seen
abbrev pub worked_slot : Slot
worked_slot =
    record {
      used = true;
      key = record {
        source = 20;
        destination = 21;
        kind = 22;
        invoke = 23;
        from = record { present = true; network = 10281; length = 42; octets = 43 ∷ 44 ∷ 45 ∷ 46 ∷ 47 ∷ 48 ∷ 49 ∷ [] };
        to = record { present = false; network = 12851; length = 52; octets = 53 ∷ 54 ∷ 55 ∷ 56 ∷ 57 ∷ 58 ∷ 59 ∷ [] };
      };
      next = 24;
      choice = 25;
      held = 6683;
    }

abbrev pub other_slot : Slot
other_slot =
    record {
      used = true;
      key = record {
        source = 30;
        destination = 31;
        kind = 32;
        invoke = 33;
        from = record { present = false; network = 15421; length = 62; octets = 63 ∷ 64 ∷ 65 ∷ 66 ∷ 67 ∷ 68 ∷ 69 ∷ [] };
        to = record { present = true; network = 17991; length = 72; octets = 73 ∷ 74 ∷ 75 ∷ 76 ∷ 77 ∷ 78 ∷ 79 ∷ [] };
      };
      next = 34;
      choice = 35;
      held = 9253;
    }

-- in a phase, of a frame of type 6 from 11 to 10 with 1,800 octets, of the later edition; the first and the third slot open
abbrev pub worked_in : Phase → Collector
worked_in phase =
    record {
      edition = Later;
      receiver = record { link = record { phase = phase; head = 6 ∷ 10 ∷ 11 ∷ 7 ∷ 8 ∷ []; first = 12 }; store = worked_store };
      slots = record { slots = worked_slot ∷ free_slot ∷ other_slot ∷ free_slot ∷ [] };
    }

-- in data, 1,029 octets got
abbrev pub worked_state : Collector
worked_state = worked_in (Data 1029)

-- octets 0 to 8: phase, octets got (2), type, destination, source, length (2), first check octet
abbrev pub worked_link : List ℕ
worked_link = 3 ∷ 4 ∷ 5 ∷ 6 ∷ 10 ∷ 11 ∷ 7 ∷ 8 ∷ 12 ∷ []

-- octet 510 is the edition's: 0 is 1995, 1 the later one
-- octets 511 to 634, 31 a slot: used, MS/TP source, MS/TP destination, PDU type, invoke ID, next number, service choice, octets held (2); the network source:
-- present, SNET (2), SLEN, SADR (7); the network destination alike
abbrev pub worked_slots : List ℕ
worked_slots =
    (1 ∷ 20 ∷ 21 ∷ 22 ∷ 23 ∷ 24 ∷ 25 ∷ 26 ∷ 27
    ∷ 1 ∷ 40 ∷ 41 ∷ 42 ∷ 43 ∷ 44 ∷ 45 ∷ 46 ∷ 47 ∷ 48 ∷ 49
    ∷ 0 ∷ 50 ∷ 51 ∷ 52 ∷ 53 ∷ 54 ∷ 55 ∷ 56 ∷ 57 ∷ 58 ∷ 59 ∷ [])
    ++ (replicate 31 0
    ++ ((1 ∷ 30 ∷ 31 ∷ 32 ∷ 33 ∷ 34 ∷ 35 ∷ 36 ∷ 37
    ∷ 0 ∷ 60 ∷ 61 ∷ 62 ∷ 63 ∷ 64 ∷ 65 ∷ 66 ∷ 67 ∷ 68 ∷ 69
    ∷ 1 ∷ 70 ∷ 71 ∷ 72 ∷ 73 ∷ 74 ∷ 75 ∷ 76 ∷ 77 ∷ 78 ∷ 79 ∷ [])
    ++ replicate 31 0))

abbrev pub worked_octets : List ℕ
worked_octets = worked_link ++ (worked_store ++ (1 ∷ worked_slots))

-- the state in a phase is these octets, with phase and octets got in front, and they are that state
abbrev pub InPhase : Phase → List ℕ → Type 0
InPhase phase front =
    let o = front ++ ((6 ∷ 10 ∷ 11 ∷ 7 ∷ 8 ∷ 12 ∷ []) ++ (worked_store ++ (1 ∷ worked_slots))) in
    (state_octets (worked_in phase) ≡ o) × Loads o (worked_in phase)

pub record StateOctets : Type 0 where
  -- the state is these 635 octets, store from 9, edition at 510 and slots from 511 on, and they are that state
  pub laid : state_octets worked_state ≡ worked_octets
  pub size : length worked_octets ≡ 635
  pub store : take 501 (drop 9 worked_octets) ≡ worked_store
  pub edition : oct worked_octets 510 ≡ 1
  pub slots : drop 511 worked_octets ≡ worked_slots
  pub back : Loads worked_octets worked_state
  -- the other phases: 0 hunting and 1 preamble, no octets got; 2 header, 9 octets got
  pub hunting : InPhase Hunting (0 ∷ 0 ∷ 0 ∷ [])
  pub preamble : InPhase Preamble (1 ∷ 0 ∷ 0 ∷ [])
  pub header : InPhase (Header 9) (2 ∷ 0 ∷ 9 ∷ [])
  -- a fresh state of 1995 is 635 zeros, and they are that state; a fresh one of the later edition has 1 at 510
  pub fresh : state_octets (fresh_collector First) ≡ replicate 635 0
  pub fresh_back : Loads (replicate 635 0) (fresh_collector First)
  pub fresh_later : state_octets (fresh_collector Later) ≡ replicate 510 0 ++ (1 ∷ replicate 124 0)
  -- "Freeing zeroes a slot's record"
  pub freed : slot_octets (View.back (empty keys)) ≡ replicate 31 0
  pub fresh_later_back : Loads (replicate 510 0 ++ (1 ∷ replicate 124 0)) (fresh_collector Later)
