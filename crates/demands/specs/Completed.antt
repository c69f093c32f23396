-- A completed message as it is reported, over the collector's calls and over the exported ones. "Each message begun and completed in the run is its key's
-- accepted segments since its latest starting segment 0, joined in order of acceptance."
use Rattle.std.specs.Prelude.{ℕ, ◌+◌, ◌/◌, ◌<◌, ◌≡◌, ◌↔◌, Bool, true, false, List, [], ◌∷◌, ◌++◌, eqb, leb, length}
use Rattle.std.proofs.Math.Option.{Option, none, some}
use Rattle.octets.specs.Choice.{pick, both}
use Rattle.octets.specs.Reading.{oct}
use Rattle.octets.specs.Numbers.{value_at}
use Rattle.runs.specs.Run.{Event, Run, wire, octs, Trace, ended, walk}
use Rattle.runs.specs.Run.Event.{octet}
use Rattle.runs.specs.Run.Order.{trunk, forget}
use Rattle.apdu.specs.declared.Edition.{Edition}
use Rattle.trunk.specs.Reading.{Out, held_of, read_from}
use Rattle.items.specs.Reading.{items_of}
use Rattle.items.specs.Reading.Out.{bad}
use Rattle.messages.specs.Slots.{Segment, Slot, boxed, part, slot_at}
use Rattle.messages.specs.Rows.{Answer}
use Rattle.messages.specs.Rows.Answer.{refused, taken, completed}
use Rattle.messages.specs.History.{Log, starting, begun, BeganIn, since, joined, Rebuilt, standing}
use Rattle.messages.specs.History.Entry.{said, dropped, stood}
use Rattle.messages.specs.Table.{Starts}
use Rattle.rebuild.specs.View.{keys, nowhere}
use Rattle.rebuild.specs.declared.Key.{Key}
use Rattle.recordings.specs.Frames.{rules, history}
use Rattle.collector.specs.Frame.{segment_at, bacnet}
use Rattle.collector.specs.Calls.{slots_of, fresh_collector}
use Rattle.collector.specs.Offering.{Passes, End, Called}
use Rattle.collector.specs.declared.Collector.{Collector}
use Rattle.state.specs.Calls.{Loads}
use Rattle.hitchbarley.specs.Offering.{Heard, Linked}

-- ---- what a report says. "0: kind; 1: refusal number or 0; 2 to 4: frame type, destination, source; 5: first APDU octet; 6: invoke ID; 7: slot;
-- 8 to 11: length, high octet first"
abbrev pub kind_in : List ℕ → ℕ
kind_in report = oct report 0

abbrev pub number_in : List ℕ → ℕ
number_in report = oct report 1

abbrev pub slot_in : List ℕ → ℕ
slot_in report = oct report 7

abbrev pub length_in : List ℕ → ℕ
length_in report = value_at report 8 4

-- the key's "MS/TP source, MS/TP destination, PDU type, invoke ID" are in the report, the type in the high four bits of the first APDU octet; its network addresses
-- are not: they are those of the segment that ends there
pub record Names (report : List ℕ) (k : Key) : Type 0 where
  pub source : k.source ≡ oct report 4
  pub destination : k.destination ≡ oct report 3
  pub kind : k.kind ≡ oct report 5 / 16
  pub invoke : k.invoke ≡ oct report 6

abbrev pub tag_number : ℕ → Bool
tag_number n = both (leb 30 n) (leb n 39)

-- what the report of a segment says of it: 4 "segment with MOR taken", 5 "message complete", 6 "refused". "A completed message with bad tags is kind 6 with
-- its tag number", which names no slot and no length.
abbrev pub answer_in : List ℕ → Answer
answer_in report =
    pick (eqb (kind_in report) 4) (taken (slot_in report) (length_in report))
    (pick (eqb (kind_in report) 5) (completed (slot_in report) (length_in report))
    (pick (both (eqb (kind_in report) 6) (tag_number (number_in report))) (completed 0 0) (refused (number_in report))))

-- ---- a run as it is heard
-- the report at a place, if there is one
abbrev pub report_at : {R : Type 0} → ℕ → List (ℕ × R) → Option R
report_at p [] = none
report_at p (x ∷ rs) = pick (eqb x.0 p) (some x.1) (report_at p rs)

-- the segment that ends at a place, if one does, read by an edition
abbrev pub segment_ending : Edition → Option Out → Option (Segment Key)
segment_ending e none = none
segment_ending e (some o) = segment_at e o

abbrev pub heard_entry : Option (Segment Key) → Option (List ℕ) → Log Key → Log Key
heard_entry none report log = log
heard_entry (some g) none log = log
heard_entry (some g) (some report) log = said g (answer_in report) ∷ log

-- The key that a slot is open to, as it is heard: at first as the start state's slots have it, and then by the reports. Kind 4 names the slot; 54 and a message's end,
-- with good tags or bad, free the slot of their key.
abbrev pub open_key : Slot Key → Option Key
open_key t = pick t.used (some t.key) none

abbrev pub without : Key → Option Key → Option Key
without k none = none
without k (some j) = pick (keys.same j k) none (some j)

-- the key in slot i behind an answer to a segment of key k, where x was in it
abbrev pub key_behind : ℕ → Key → Answer → Option Key → Option Key
key_behind i k (refused n) x = pick (eqb n 54) (without k x) x
key_behind i k (taken j n) x = pick (eqb j i) (some k) x
key_behind i k (completed j n) x = without k x

-- s: the slots at the start
abbrev pub heard_key : List (Slot Key) → ℕ → Log Key → Option Key
heard_key s i [] = open_key (slot_at keys s i)
heard_key s i (said g w ∷ old) = key_behind i g.key w (heard_key s i old)
heard_key s i (dropped k ∷ old) = without k (heard_key s i old)
heard_key s i (stood k n ∷ old) = heard_key s i old

-- a forget order of a slot that is open to a key
abbrev pub heard_forget : Option Key → Log Key → Log Key
heard_forget none log = log
heard_forget (some k) log = dropped k ∷ log

-- The history that is heard, latest first: the segments that end on the trunk, read off the recording, each with what the report at its place says of it, and the
-- forget orders, each with the key that its slot was open to. t is the reading of the whole trunk, p the place at which the run begins.
abbrev pub heard_log : {M : Type 0} → Edition → List (Slot Key) → Trace Out M → List (ℕ × List ℕ) → ℕ → Run → Log Key → Log Key
heard_log d s t reports p [] log = log
heard_log d s t reports p (trunk e ∷ run) log = heard_log d s t reports (p + 1) run (heard_entry (segment_ending d (ended p t)) (report_at p reports) log)
heard_log d s t reports p (forget i ∷ run) log = heard_log d s t reports p run (heard_forget (heard_key s i log) log)

-- from the state c, by its edition; it begins with the slots that are open there
abbrev pub heard_from : Collector → Run → List (ℕ × List ℕ) → Log Key
heard_from c run reports =
    heard_log c.edition (slots_of c) (read_from c.receiver (wire run)) reports (length (held_of c.receiver)) run (standing (slots_of c))

-- A run up to a place of the trunk, from the state c: front, and then x at that place; its reports, and the message area behind it.
module _ (c : Collector) (front : Run) (x : Event) where
  abbrev pub up_to : Run
  up_to = front ++ (trunk x ∷ [])

  abbrev pub last_place : ℕ
  last_place = length (held_of c.receiver) + length (wire front)

  module _ (reports : List (ℕ × List ℕ)) (area : List ℕ) where
    -- Of a report of kind 5, where the segment g ends: the octets of the slot that it names, from the slot's first on and as many as it says, are the accepted
    -- segments of g's key since the latest starting segment 0, joined in order of acceptance, where that one was in the run; and the tags of these octets are good.
    abbrev pub Whole : List ℕ → Segment Key → Type 0
    Whole report g =
        let k = g.key in
        let log = heard_from c up_to reports in
        begun keys k log ≡ true
        → (slot_in report < 4) × Rebuilt keys k log area (slot_in report) (length_in report) × ((n : ℕ) → items_of (joined (since keys k log)) ≡ bad n → ⊥)

    -- Of a report of kind 6 with a tag number, where the segment g ends: so are the octets of some slot, and the number is that of their tags.
    abbrev pub WholeButTags : List ℕ → Segment Key → Type 0
    WholeButTags report g =
        let k = g.key in
        let log = heard_from c up_to reports in
        begun keys k log ≡ true
        → (i : ℕ) × (n : ℕ) × (i < 4) × Rebuilt keys k log area i n × (items_of (joined (since keys k log)) ≡ bad (number_in report))

    -- Of a report of kind 4 or 5: a segment ends at its place, its key is the one that the report names, and it has MOR or not.
    abbrev pub OfSegment : List ℕ → Bool → Type 0
    OfSegment report mor =
        (g : Segment Key) × (segment_ending c.edition (ended last_place (read_from c.receiver (wire up_to))) ≡ some g) × Names report g.key × (g.mor ≡ mor)

    pub record AsReported : Type 0 where
      pub with_mor : (report : List ℕ) → report_at last_place reports ≡ some report → kind_in report ≡ 4 → OfSegment report true
      pub without_mor : (report : List ℕ) → report_at last_place reports ≡ some report → kind_in report ≡ 5 → OfSegment report false
      pub complete : (report : List ℕ) → report_at last_place reports ≡ some report → kind_in report ≡ 5
          → (g : Segment Key) → segment_ending c.edition (ended last_place (read_from c.receiver (wire up_to))) ≡ some g → Whole report g
      pub bad_tags : (report : List ℕ) → report_at last_place reports ≡ some report → kind_in report ≡ 6 → tag_number (number_in report) ≡ true
          → (g : Segment Key) → segment_ending c.edition (ended last_place (read_from c.receiver (wire up_to))) ≡ some g → WholeButTags report g

-- ---- demand 3's last sentence, of reports: from a state that 59 passes and an area of 65,536 octets, however the run up to that place is offered
abbrev pub CompletedAsReported : Type 0
CompletedAsReported = (c : Collector) (area : List ℕ) → Passes c → length area ≡ 65536 → (front : Run) (x : Event) (e : End)
    → Called (length (held_of c.receiver)) c area (front ++ (trunk x ∷ [])) e → AsReported c front x e.reports e.area

-- the same of the exported calls
abbrev pub CompletedOverOctets : Type 0
CompletedOverOctets = (state : List ℕ) (c : Collector) (area : List ℕ) → Loads state c → Passes c → length area ≡ 65536 → (front : Run) (x : Event) (h : Heard)
    → Linked (length (held_of c.receiver)) state area (front ++ (trunk x ∷ [])) h → AsReported c front x h.reports h.area

-- ---- "begun in the run", "starting segment 0"
-- A message of a key was begun exactly where somewhere in the history an accepted segment of the key started one, whatever came behind it.
abbrev pub BegunExactly : Type 0
BegunExactly = (k : Key) (log : Log Key) → (begun keys k log ≡ true) ↔ BeganIn keys k log

-- And behind every run a segment starts its key's message, by what is heard, exactly where the table's words say so of the slots as they are then: so no message begun in
-- a run is passed over, also none that restarts a slot which was open before it, and a number 0 that goes on begins none.
abbrev pub StartsHeard : Type 0
StartsHeard = (c : Collector) (area : List ℕ) → Passes c → length area ≡ 65536 → (run : Run) (e : End) → Called (length (held_of c.receiver)) c area run e
    → (g : Segment Key) → (starting keys g (heard_from c run e.reports) ≡ true) ↔ Starts keys g (boxed e.slots e.area)

-- the same by the history that MessagesWhole reads off a recording, behind any part of it
abbrev pub StartsRecorded : Type 0
StartsRecorded = (c : Collector) (area : List ℕ) → Passes c → length area ≡ 65536 → (all run : Run) (g : Segment Key)
    → (let t = read_from c.receiver (wire all) in
    let p = length (held_of c.receiver) in
    let e = walk (rules keys (bacnet c.edition)) t p (slots_of c) area run in
    (starting keys g (history keys (bacnet c.edition) t p (slots_of c) area run) ≡ true) ↔ Starts keys g (boxed e.slots e.area))

-- every run can be offered by the exported calls too, so neither sentence over octets is empty
abbrev pub CanBeLinked : Type 0
CanBeLinked = (state : List ℕ) (c : Collector) (area : List ℕ) → Loads state c → Passes c → length area ≡ 65536 → (run : Run)
    → (h : Heard) × Linked (length (held_of c.receiver)) state area run h

-- ---- One run, worked, in which it is not empty: three frames on a fresh collector of any edition. The first opens slot 0 for a key that differs in the PDU type
-- alone; the other two are a message of two segments, of 4 and 3 octets, which goes to slot 1.
abbrev pub other_frame : List ℕ
other_frame = 0x55 ∷ 0xFF ∷ 0x05 ∷ 0x21 ∷ 0x43 ∷ 0x00 ∷ 0x09 ∷ 0x3E ∷ 0x01 ∷ 0x04 ∷ 0x0C ∷ 0x05 ∷ 0x57 ∷ 0x00 ∷ 0x11 ∷ 0x0F ∷ 0x77 ∷ 0xDE ∷ 0x51 ∷ []

abbrev pub first_frame : List ℕ
first_frame = 0x55 ∷ 0xFF ∷ 0x06 ∷ 0x21 ∷ 0x43 ∷ 0x00 ∷ 0x0B ∷ 0x48 ∷ 0x01 ∷ 0x00 ∷ 0x3C ∷ 0x57 ∷ 0x00 ∷ 0x10 ∷ 0x0E ∷ 0x3E ∷ 0x44 ∷ 0x42 ∷ 0x39 ∷ 0x7B ∷ 0xCD ∷ []

-- the last octet, 1C, stands apart: the report is at its place
abbrev pub second_frame : List ℕ
second_frame = 0x55 ∷ 0xFF ∷ 0x06 ∷ 0x21 ∷ 0x43 ∷ 0x00 ∷ 0x0A ∷ 0xB6 ∷ 0x01 ∷ 0x00 ∷ 0x38 ∷ 0x57 ∷ 0x01 ∷ 0x10 ∷ 0x0E ∷ 0x99 ∷ 0x9A ∷ 0x3F ∷ 0xAB ∷ []

abbrev pub worked_front : Run
worked_front = octs (other_frame ++ (first_frame ++ second_frame))

abbrev pub other_report : List ℕ
other_report = 0x04 ∷ 0x00 ∷ 0x05 ∷ 0x21 ∷ 0x43 ∷ 0x0C ∷ 0x57 ∷ 0x00 ∷ 0x00 ∷ 0x00 ∷ 0x00 ∷ 0x01 ∷ 0x0F ∷ 0 ∷ 0 ∷ 0 ∷ []

abbrev pub first_report : List ℕ
first_report = 0x04 ∷ 0x00 ∷ 0x06 ∷ 0x21 ∷ 0x43 ∷ 0x3C ∷ 0x57 ∷ 0x01 ∷ 0x00 ∷ 0x00 ∷ 0x00 ∷ 0x04 ∷ 0x0E ∷ 0 ∷ 0 ∷ 0 ∷ []

abbrev pub second_report : List ℕ
second_report = 0x05 ∷ 0x00 ∷ 0x06 ∷ 0x21 ∷ 0x43 ∷ 0x38 ∷ 0x57 ∷ 0x01 ∷ 0x00 ∷ 0x00 ∷ 0x00 ∷ 0x07 ∷ 0x0E ∷ 0 ∷ 0 ∷ 0 ∷ []

-- its key: no network addresses stand in its header
abbrev pub worked_key : Key
worked_key = record { source = 0x43; destination = 0x21; kind = 3; invoke = 0x57; from = nowhere; to = nowhere }

-- however it is offered, the reports and their places are these, the message was begun in the run, and the seven octets of slot 1 are its segments' joined
abbrev pub CompletedWorked : Type 0
CompletedWorked = (d : Edition) (area : List ℕ) → length area ≡ 65536 → (e : End) → Called 0 (fresh_collector d) area (worked_front ++ (trunk (octet 0x1C) ∷ [])) e
    → (e.reports ≡ (18, other_report) ∷ (39, first_report) ∷ (59, second_report) ∷ [])
    × (begun keys worked_key (heard_from (fresh_collector d) (worked_front ++ (trunk (octet 0x1C) ∷ [])) e.reports) ≡ true)
    × (part 16384 7 e.area ≡ 0x3E ∷ 0x44 ∷ 0x42 ∷ 0x39 ∷ 0x99 ∷ 0x9A ∷ 0x3F ∷ [])
