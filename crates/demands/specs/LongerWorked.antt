-- Messages longer than 256 segments, worked by their octets from states with an open slot: what goes on behind 255, what restarts, what is too long.
use Rattle.std.specs.Prelude.{ℕ, ◌≡◌, true, false, List, [], ◌∷◌, ◌++◌, length}
use Rattle.octets.specs.Splice.{splice}
use Rattle.runs.specs.Run.{octs}
use Rattle.apdu.specs.declared.Edition.{Edition}
use Rattle.messages.specs.Slots.{part, empty}
use Rattle.messages.specs.History.{begun}
use Rattle.rebuild.specs.View.{keys, unview}
use Rattle.collector.specs.Calls.{fresh_collector}
use Rattle.collector.specs.Offering.{End, Called}
use Rattle.collector.specs.declared.Collector.{Collector}
use Rattle.demands.specs.Completed.{worked_key, heard_from}
use Rattle.demands.specs.Keys.{held_in, complete_in}

-- a state with an open slot: slot 0 awaits a number, and so many octets are held
abbrev pub one_open : Edition → ℕ → ℕ → Collector
one_open d next held =
    record {
      edition = d;
      receiver = (fresh_collector d).receiver;
      slots = unview (record { used = true; key = worked_key; next = next; choice = 0x0E; held = held } ∷ empty keys ∷ empty keys ∷ empty keys ∷ []);
    }

-- segments of its key with one octet each: 255 with MOR; 0 with another choice; 1; 0
abbrev pub frame255 : List ℕ
frame255 = 0x55 ∷ 0xFF ∷ 0x06 ∷ 0x21 ∷ 0x43 ∷ 0x00 ∷ 0x08 ∷ 0x49 ∷ 0x01 ∷ 0x00 ∷ 0x3C ∷ 0x57 ∷ 0xFF ∷ 0x04 ∷ 0x0E ∷ 0xA2 ∷ 0xED ∷ 0x0B ∷ []

abbrev pub other_zero : List ℕ
other_zero = 0x55 ∷ 0xFF ∷ 0x06 ∷ 0x21 ∷ 0x43 ∷ 0x00 ∷ 0x08 ∷ 0x49 ∷ 0x01 ∷ 0x00 ∷ 0x38 ∷ 0x57 ∷ 0x00 ∷ 0x04 ∷ 0x0F ∷ 0xB3 ∷ 0x43 ∷ 0xC6 ∷ []

abbrev pub frame1 : List ℕ
frame1 = 0x55 ∷ 0xFF ∷ 0x06 ∷ 0x21 ∷ 0x43 ∷ 0x00 ∷ 0x08 ∷ 0x49 ∷ 0x01 ∷ 0x00 ∷ 0x38 ∷ 0x57 ∷ 0x01 ∷ 0x04 ∷ 0x0E ∷ 0xB4 ∷ 0x9F ∷ 0xB7 ∷ []

abbrev pub frame0 : List ℕ
frame0 = 0x55 ∷ 0xFF ∷ 0x06 ∷ 0x21 ∷ 0x43 ∷ 0x00 ∷ 0x08 ∷ 0x49 ∷ 0x01 ∷ 0x00 ∷ 0x38 ∷ 0x57 ∷ 0x00 ∷ 0x04 ∷ 0x0E ∷ 0xA3 ∷ 0x1A ∷ 0xCF ∷ []

-- 0 with MOR; 0 with a null
abbrev pub zero_more : List ℕ
zero_more = 0x55 ∷ 0xFF ∷ 0x06 ∷ 0x21 ∷ 0x43 ∷ 0x00 ∷ 0x08 ∷ 0x49 ∷ 0x01 ∷ 0x00 ∷ 0x3C ∷ 0x57 ∷ 0x00 ∷ 0x04 ∷ 0x0E ∷ 0x61 ∷ 0xA8 ∷ 0x3A ∷ []

abbrev pub null_zero : List ℕ
null_zero = 0x55 ∷ 0xFF ∷ 0x06 ∷ 0x21 ∷ 0x43 ∷ 0x00 ∷ 0x08 ∷ 0x49 ∷ 0x01 ∷ 0x00 ∷ 0x38 ∷ 0x57 ∷ 0x00 ∷ 0x04 ∷ 0x0E ∷ 0x00 ∷ 0x8B ∷ 0x58 ∷ []

-- the report of a refused one
abbrev pub refused_here : ℕ → List ℕ
refused_here n = 0x06 ∷ n ∷ 0x06 ∷ 0x21 ∷ 0x43 ∷ 0x00 ∷ 0x00 ∷ 0x00 ∷ 0x00 ∷ 0x00 ∷ 0x00 ∷ 0x00 ∷ 0x00 ∷ 0x00 ∷ 0x00 ∷ 0x00 ∷ []

-- however it is offered, to a state of any edition
pub record LongerWorked : Type 0 where
  -- of an octet string of three octets `63 A1` are held and 255 is awaited: 255 is held, 0 with another choice is 53, 1 is 52, and 0 completes the message behind what was
  -- held; it was not begun in the run, and the 0 that went on did not begin it
  pub goes_on : (d : Edition) (area : List ℕ) → length area ≡ 65536 → part 0 2 area ≡ 0x63 ∷ 0xA1 ∷ [] → (e : End)
      → (let run = octs (frame255 ++ (other_zero ++ (frame1 ++ frame0))) in
      Called 0 (one_open d 255 2) area run e
      → (e.reports ≡ (17, held_in 0 3) ∷ (35, refused_here 53) ∷ (53, refused_here 52) ∷ (71, complete_in 0 4) ∷ [])
      × (part 0 4 e.area ≡ 0x63 ∷ 0xA1 ∷ 0xA2 ∷ 0xA3 ∷ []) × (begun keys worked_key (heard_from (one_open d 255 2) run e.reports) ≡ false))
  -- from the same state 0 restarts and 1 completes: that message was begun in the run
  pub restarts : (d : Edition) (area : List ℕ) → length area ≡ 65536 → (e : End)
      → (let run = octs (zero_more ++ frame1) in
      Called 0 (one_open d 255 2) area run e
      → (e.reports ≡ (17, held_in 0 1) ∷ (35, complete_in 0 2) ∷ []) × (part 0 2 e.area ≡ 0x61 ∷ 0xB4 ∷ [])
      × (begun keys worked_key (heard_from (one_open d 255 2) run e.reports) ≡ true))
  -- 0 is awaited and 16,384 octets are held: one more is 54, and the slot is freed; the same segment then starts a message there
  pub too_long_lem : (d : Edition) (area : List ℕ) → length area ≡ 65536 → (e : End)
      → (let run = octs (null_zero ++ null_zero) in
      Called 0 (one_open d 0 16384) area run e
      → (e.reports ≡ (17, refused_here 54) ∷ (35, complete_in 0 1) ∷ []) × (e.area ≡ splice area 0 (0x00 ∷ []))
      × (begun keys worked_key (heard_from (one_open d 0 16384) run e.reports) ≡ true))
