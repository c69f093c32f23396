-- The calls that write traffic over octets: a frame, and a message that is cut, its header being an APDU record with the window in its place.
use Rattle.std.specs.Prelude.{ℕ, ◌≡◌, Bool, true, List, eqb, ltb, length}
use Rattle.octets.specs.Choice.{pick}
use Rattle.octets.specs.Reading.{oct}
use Rattle.octets.specs.Laid.{answer_of}
use Rattle.apdu.specs.Fault.{or_else}
use Rattle.apdu.specs.declared.Edition.{Edition}
use Rattle.cutter.specs.Layout.{segments_of, octets_of}
use Rattle.cutter.specs.Fault.{front_fault, fault_of}
use Rattle.cutter.specs.Calls.{count_in}
use Rattle.cutter.specs.declared.Message.{Message}
use Rattle.cutter.specs.declared.Message.TheVariants.{Request, ComplexAck}
use Rattle.cutter.specs.declared.Way.{Way}
use Rattle.records.specs.Flag.{flag_at}
use Rattle.records.specs.Application.{apdu_size}
use Rattle.hitchbarley.specs.Answers.{Writes}

-- the message that a record of type 0 or 3 is: SEG, MOR and number in it are not looked at
unfoldable pub message_at : List ℕ → Message
message_at o =
    pick (eqb (oct o 0) 0) (Request (record { sa = flag_at o 3; size = oct o 6; invoke = oct o 7; choice = oct o 10; accepts = oct o 12 }))
    (ComplexAck (record { invoke = oct o 7; choice = oct o 10 }))

-- how it is cut: the window stands at its place of the record; any number but 0 is a reply expected
abbrev pub way_at : List ℕ → (reply priority each : ℕ) → Way
way_at o reply priority each = record { reply = ltb 0 reply; priority = priority; window = oct o 9; each = each }

-- the types of the two PDUs that have segments
unfoldable pub segmented : ℕ → Bool
segmented kind = pick (eqb kind 0) true (eqb kind 3)

-- what a record and the rest deserve, n being the number of parameter octets: 60 for another size; then 39, 64 and 12; 21 for a type other than 0 and 3, where the
-- header's first octet is judged; then the message's own numbers and 63
unfoldable pub cut_fault : Edition → List ℕ → Way → ℕ → ℕ
cut_fault e o w n = pick (eqb (length o) apdu_size) (or_else (front_fault w n) (pick (segmented (oct o 0)) (fault_of e (message_at o) w n) 21)) 60

-- what hb_cut promises: as every writer does, and the number of segments beside it
pub record Cuts (e : Edition) (o : List ℕ) (w : Way) (params area : List ℕ) (r wrote segments : ℕ) (later : List ℕ) : Type 0 where
  pub written : Writes (cut_fault e o w (length params)) (octets_of (message_at o) w params) area r wrote later
  pub count : segments ≡ count_in (answer_of (cut_fault e o w (length params)) (octets_of (message_at o) w params) area) (segments_of w.each (length params))
