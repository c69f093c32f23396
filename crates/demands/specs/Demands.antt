-- What the user demands, in the user's order, as statements over the crates' own definitions. Each is proved in proofs/, under its name in small letters.
use Rattle.std.specs.Prelude.{ℕ, ◌*◌, ◌≤◌, ◌<◌, ◌+◌, ◌≡◌, ◌↔◌, ◌⊎◌, true, false, List, [], ◌∷◌, ◌++◌, length, take, drop, set, Ok, Err}
use Rattle.std.proofs.Math.Option.{some}
use Rattle.std.specs.Borrow.{Bor}
use Rattle.octets.specs.Reading.{Octets}
use Rattle.octets.specs.Exact.{Exactly}
use Rattle.octets.specs.Has.{Has}
use Rattle.octets.specs.Laid.{Laid}
use Rattle.octets.specs.Laid.{Written}
use Rattle.sums.specs.Sums.{header_start, header_left, header_step, header_run, header_check, data_start, data_left, data_step, data_run, data_check, data_sent}
use Rattle.runs.specs.Run.{Event, ended, Run, wire, walk}
use Rattle.runs.specs.Run.Order.{trunk}
use Rattle.frames.specs.Step.{fresh_of, feed_of, silence_of}
use Rattle.frames.specs.declared.Outcome.TheVariants.{Quiet}
use Rattle.frames.specs.declared.Receiver.{Receiver}
use Rattle.frames.specs.Answers.{Fed as ReceiverFed}
use Rattle.frames.specs.Answers.{Fell as ReceiverFell}
use Rattle.trunk.specs.Reading.{Out, held_of, came, read_from}
use Rattle.trunk.specs.Reading.Out.{good}
use Rattle.trunk.specs.Spans.{Bytes, OutcomeAt}
use Rattle.trunk.specs.Demand.{Sound, reading, hurt_by}
use Rattle.frames.specs.Layout.{frame_octets}
use Rattle.frame_writer.specs.Fault as FrameFault
use Rattle.npdu.specs.declared.Npdu.{Npdu}
use Rattle.npdu.specs.Reading.{Reading}
use Rattle.npdu.specs.Reading.{read_npdu, refused_by}
use Rattle.npdu.specs.Layout as Network
use Rattle.npdu.specs.Valid as NetworkRules
use Rattle.npdu.specs.Fault as NetworkFault
use Rattle.npdu.specs.Exact as NetworkRead
use Rattle.apdu.specs.declared.Edition.{Edition}
use Rattle.apdu.specs.declared.Pdu.{Pdu}
use Rattle.apdu.specs.Reading.{read_apdu}
use Rattle.apdu.specs.Fields.{params_at}
use Rattle.apdu.specs.Layout as Header
use Rattle.apdu.specs.Valid as HeaderRules
use Rattle.apdu.specs.Fault as HeaderFault
use Rattle.apdu.specs.Reading as HeaderRead
use Rattle.cutter.specs.Calls as Cutter
use Rattle.cutter.specs.Fault.{front_fault}
use Rattle.cutter.specs.declared.Message.{Message}
use Rattle.cutter.specs.declared.Way.{Way}
use Rattle.cutter.specs.Calls.{Parted}
use Rattle.tags.specs.Types.{longest}
use Rattle.tags.specs.Reading.{head_at}
use Rattle.tags.specs.Layout as Tags
use Rattle.items.specs.Grammar as Items
use Rattle.items.specs.Reading.{Out as ItemsRead, items_of, item_at, one_at, end_of}
use Rattle.items.specs.Records.{Rec, things_of, records_octets}
use Rattle.items.specs.Listing.{tally_number, tally_count, ReadAs, Listed}
use Rattle.items.specs.Answers.{Tally}
use Rattle.items.specs.Answers.{One as OneItem}
use Rattle.item_judge.specs.Judge.{write_fault, records_in}
use Rattle.item_judge.specs.Meaning.{ReadingOf, Writable}
use Rattle.reader.specs.Reading.{step_of}
use Rattle.reader.specs.declared.Reader.{Reader}
use Rattle.reader.specs.Answers.{Step as ReaderStep}
use Rattle.services.specs.Reading.{read_service}
use Rattle.services.specs.Shows as Services
use Rattle.services.specs.Layout as ServiceLayout
use Rattle.services.specs.Parts as ServiceAnswer
use Rattle.services.specs.declared.Service.{Service}
use Rattle.services.specs.declared.Service.TheVariants.{WriteProperty}
use Rattle.services.specs.declared.Target.{Target}
use Rattle.service_writer.specs.Layout as ServiceWriter
use Rattle.service_writer.specs.Fault as ServiceFault
use Rattle.messages.specs.Slots.{Segment, Box, part, room, boxed, empty, slot_at}
use Rattle.messages.specs.Rows.{rebuild}
use Rattle.messages.specs.History.{begun, Rebuilt, touches}
use Rattle.rebuild.specs.View.{keys, view, segment_of}
use Rattle.rebuild.specs.Calls as Rebuild
use Rattle.rebuild.specs.declared.Key.{Key}
use Rattle.rebuild.specs.declared.Slots.{Slots}
use Rattle.rebuild.specs.declared.Segment.{Segment as Head}
use Rattle.rebuild.specs.Calls.{Step as Took}
use Rattle.rebuild.specs.Calls.{Taken}
use Rattle.rebuild.specs.Calls.{Forgot as Freed}
use Rattle.recordings.specs.Frames.{rules, history, Completes}
use Rattle.reports.specs.Layout.{report_size}
use Rattle.collector.specs.Frame.{bacnet, segment_at, damage_octets}
use Rattle.collector.specs.Calls.{passing, slots_of, fresh_collector, written, said_so, Feeds, Stills, Forgets}
use Rattle.collector.specs.Offering.{Passes, End, in_edition, Called}
use Rattle.collector.specs.declared.Collector.{Collector}
use Rattle.collector.specs.Answers.{Fed}
use Rattle.collector.specs.Answers.{Fell}
use Rattle.collector.specs.Answers.{Forgot}
use Rattle.playback.specs.Calls.{Plays}
use Rattle.playback.specs.Answers.{Played}
use Rattle.state.specs.Layout.{state_octets, Fits}
use Rattle.state.specs.Calls.{Loads}
use Rattle.hitchbarley.specs.Trunk.{state_by}
use Rattle.hitchbarley.specs.Offering.{Heard, Linked}
use Rattle.demands.specs.Words.{One, Between, SixtyThenFiftyNine, BrokenReceiver, Broken, Four, WritesBy, ListNumbered, SegmentChanges, unfed_by, quiet_by, FeedChanges, shown_service, KeptService, AcceptedBack, WholeBack}

-- ---- DEMAND 1. "Every call, on any octets, records, slot numbers or areas, stays in bounds and ends. Bad input gets the refusal number that document 01
-- fixes, and the call changes only what that page then lets it."
-- That each call stays in bounds, ends and keeps its promise on every input is what the proof of its crate says: no public call has a `requires`.
-- Here: each call by its name and its promise, the numbers that it gives, and what it changes.

-- ---- 1a. "Every public call promises its full answer and the later contents of everything lent, refusals included; any two answers it allows are shown
-- equal." A field for each call of docs/CALLS.md's table; the answer stands with what the call leaves in the areas that it was lent.
pub record OneAnswer : Type 0 where
  pub header_step_lem : (reg octet : ℕ) → One ℕ (λ r. r ≡ header_step reg octet)
  pub header_run_lem : (reg : ℕ) (s : List ℕ) → One ℕ (λ r. r ≡ header_run reg s)
  pub header_check_lem : (s : List ℕ) → One ℕ (λ r. r ≡ header_check s)
  pub data_step_lem : (reg octet : ℕ) → One ℕ (λ r. r ≡ data_step reg octet)
  pub data_run_lem : (reg : ℕ) (s : List ℕ) → One ℕ (λ r. r ≡ data_run reg s)
  pub data_check_lem : (s : List ℕ) → One ℕ (λ r. r ≡ data_sent s)
  pub receiver_fresh : One Receiver (λ r. r ≡ fresh_of)
  pub receiver_feed : (m : Receiver) (piece : List ℕ) → One ReceiverFed (λ r. r ≡ feed_of m piece)
  pub receiver_silence : (m : Receiver) → One ReceiverFell (λ r. r ≡ silence_of m)
  pub frames_write : (kind to from : ℕ) (d out : List ℕ) → One (Written × List ℕ) (λ x. Laid (FrameFault.fault_of d) (frame_octets kind to from d) out x.0 x.1)
  pub npdu_read : (s : List ℕ) → One Reading (λ r. r ≡ read_npdu s)
  pub npdu_write : (h : Npdu) (out : List ℕ) → One (Written × List ℕ) (λ x. Laid (NetworkFault.fault_of h) (Network.encode h) out x.0 x.1)
  pub apdu_read : (e : Edition) (s : List ℕ) → One HeaderRead.Answer (λ r. r ≡ read_apdu e s)
  pub apdu_write : (e : Edition) (p : Pdu) (out : List ℕ) → One (Written × List ℕ) (λ x. Laid (HeaderFault.fault_of e p) (Header.header p) out x.0 x.1)
  pub apdu_fault_lem : (e : Edition) (p : Pdu) → One ℕ (λ r. r ≡ HeaderFault.fault_of e p)
  pub cut : (e : Edition) (m : Message) (w : Way) (params out : List ℕ) → One (Parted × List ℕ) (λ x. Cutter.Cuts e m w params out x.0 x.1)
  pub cut_front : (w : Way) (n : ℕ) → One ℕ (λ r. r ≡ front_fault w n)
  pub items_list : (s out : List ℕ) → One (Tally × List ℕ) (λ x. Listed s out x.0 x.1)
  pub items_item_at : (s : List ℕ) (at : ℕ) → One OneItem (λ r. r ≡ end_of (one_at s at))
  pub items_whole_at : (s : List ℕ) (at : ℕ) → One OneItem (λ r. r ≡ end_of (item_at s at))
  pub items_write : (records source out : List ℕ)
      → One (Written × List ℕ) (λ x. Laid (write_fault records source) (Items.encode_all (things_of source (records_in records))) out x.0 x.1)
  pub services_read : (kind choice : ℕ) (s : List ℕ) → One ServiceAnswer.Answer (λ r. r ≡ read_service kind choice s)
  pub services_write : (v : Service) (value out : List ℕ)
      → One (Written × List ℕ) (λ x. Laid (ServiceFault.fault_of v value) (ServiceWriter.octets_of v value) out x.0 x.1)
  pub reader_new : (s : Bor (List ℕ)) → One Reader (λ r. (r.params ≡ s) × (r.at ≡ 0))
  pub reader_next : (q : Reader) → One ReaderStep (λ r. r ≡ step_of q.params.now q.at)
  pub reader_moved : (q : Reader) (at : ℕ) → One Reader (λ r. (r.params ≡ q.params) × (r.at ≡ at))
  pub reader_first : (s : List ℕ) → One ReaderStep (λ r. r ≡ step_of s 0)
  pub rebuild_take : (t : Slots) (g : Head) (o area : List ℕ) → One (Taken × List ℕ) (λ x. Rebuild.Gives (Rebuild.taking t g o area) x.0 x.1)
  pub rebuild_forget : (t : Slots) (s : ℕ) → One Freed (λ r. Rebuild.Forgets t s r)
  pub collector_fresh : (e : Edition) → One Collector (λ r. r ≡ fresh_collector e)
  pub collector_feed : (c : Collector) (piece report area : List ℕ) → One (Fed × List ℕ × List ℕ) (λ x. Feeds c report area piece x.0 x.1 x.2)
  pub collector_silence : (c : Collector) (report : List ℕ) → One (Fell × List ℕ) (λ x. Stills c report x.0 x.1)
  pub collector_forget : (c : Collector) (s : ℕ) → One Forgot (λ r. Forgets c s r)
  pub replay : (c : Collector) (records report area : List ℕ) → One (Played × List ℕ × List ℕ) (λ x. Plays c report area records x.0 x.1 x.2)

-- ---- 1b. "Bad input gets the refusal number that document 01 fixes": which numbers each call can give, and exactly when for those of areas and states.

-- the network header's reader: a header, or one of 10 to 14 with every other field 0
abbrev pub NetworkNumbers : Type 0
NetworkNumbers = (s : List ℕ) → ((read_npdu s).refused ≡ 0) ⊎ (Between 10 14 (read_npdu s).refused × (read_npdu s ≡ refused_by (read_npdu s).refused))

-- the APDU headers' reader: 20 to 24
abbrev pub HeaderNumbers : Type 0
HeaderNumbers = (e : Edition) (s : List ℕ) (n : ℕ) → read_apdu e s ≡ Err n → Between 20 24 n

-- listing: 30 to 39 with the count 0, 39 first of all; 61 exactly where the tags are good and the records do not fit, with their number (Words: ListNumbered)
abbrev pub ListNumbers : Type 0
ListNumbers = (s area later : List ℕ) (r : Tally) → Listed s area r later → ListNumbered s area (tally_number r) (tally_count r)

-- "offers an area for zero records and takes 61 as good; for no items that answer is plain success": in an area of fewer than 12 octets success is given
-- exactly for no items, which is no octets, 61 exactly for one item or more with good tags, and a tag's number exactly where the reading refuses. So who offers
-- no room for a record has the octets judged, and loses no refusal
abbrev pub CheckedByNoRecords : Type 0
CheckedByNoRecords = (s area later : List ℕ) (r : Tally) → length area < 12 → Listed s area r later
    → ((tally_number r ≡ 0) ↔ ReadAs s 0) × (ReadAs s 0 ↔ (s ≡ []))
    × ((k : ℕ) → ((tally_number r ≡ 61) × (tally_count r ≡ k)) ↔ (ReadAs s k × (0 < k)))
    × ((x : ℕ) → ((tally_number r ≡ x) × Between 30 39 x) ↔ (items_of s ≡ ItemsRead.bad x)) × (later ≡ area)

-- one item with its whole group, read by itself or by the reader value: the same
abbrev pub ItemNumbers : Type 0
ItemNumbers = (s : List ℕ) (at : ℕ)
    → ((n : ℕ) → end_of (one_at s at) ≡ OneItem.Refused n → Between 30 39 n) × ((end_of (one_at s at) ≡ OneItem.Refused 39) ↔ (longest < length s))
    × ((n : ℕ) → step_of s at ≡ ReaderStep.Refused n → Between 30 39 n) × ((step_of s at ≡ ReaderStep.Refused 39) ↔ (longest < length s))

-- services: "Tag refusals 30 to 39 come before 43 and 40 to 42"; 43 exactly for a "choice not above for that PDU"
abbrev pub ServiceNumbers : Type 0
ServiceNumbers = (kind choice : ℕ) (s : List ℕ)
    → ((n : ℕ) → items_of s ≡ ItemsRead.bad n → read_service kind choice s ≡ Err n)
    × ((k : ℕ) → ReadAs s k
    → ((n : ℕ) → read_service kind choice s ≡ Err n → Between 40 43 n)
    × ((read_service kind choice s ≡ Err 43) ↔ ((m : ServiceLayout.Message) → Services.For kind choice m → ⊥)))

-- every writer refuses its fields first and a small area last, and changes nothing where it refuses; "nothing past a result is written"
abbrev pub WritersRefuse : Type 0
WritersRefuse = (f : ℕ) (o area later : List ℕ) (r : Written) → Laid f o area r later → WritesBy f o area r later

-- the numbers of their fields: "Header writers refuse the first field in octet order that breaks a rule, with its number"; items 62; services "41 for a field
-- too wide for its layout, else the number that reading their output would give". None is 61, so 61 is given exactly when nothing else is wrong and the area is
-- too short.
abbrev pub NetworkWriterNumbers : Type 0
NetworkWriterNumbers = (h : Npdu) → (NetworkFault.fault_of h ≡ 0) ⊎ Between 12 14 (NetworkFault.fault_of h)

abbrev pub HeaderWriterNumbers : Type 0
HeaderWriterNumbers = (e : Edition) (p : Pdu) → (HeaderFault.fault_of e p ≡ 0) ⊎ Between 22 23 (HeaderFault.fault_of e p)

-- each exactly when: ServiceWriterRows (specs/WriterRows)
abbrev pub ServiceWriterNumbers : Type 0
ServiceWriterNumbers = (v : Service) (value : List ℕ) → (ServiceFault.fault_of v value ≡ 0) ⊎ Between 30 42 (ServiceFault.fault_of v value)

-- 62 is given exactly when no octets read as the records
abbrev pub SixtyTwo : Type 0
SixtyTwo = (records source : List ℕ) → Octets source
    → ((write_fault records source ≡ 0) ⊎ (write_fault records source ≡ 62))
    × (write_fault records source ≡ 62 → Writable records source → ⊥) × ((Writable records source → ⊥) → write_fault records source ≡ 62)

abbrev pub SixtyOne : Type 0
SixtyOne = (f : ℕ) (o area later : List ℕ) (r : Written) → (f ≡ 61 → ⊥) → Laid f o area r later → (r ≡ Err 61) ↔ ((f ≡ 0) × (length area < length o))

-- listing: a tag's number, and the area as it was; 61 with the count needed where 12 octets an item do not fit, and the area as it was; else the count, the items'
-- records in front, and the rest of the area as it was
abbrev pub ListingRefuses : Type 0
ListingRefuses = (s area later : List ℕ) (r : Tally) → Listed s area r later
    → ((n : ℕ) → items_of s ≡ ItemsRead.bad n → (r ≡ Tally.Refused n) × (later ≡ area))
    × ((rs : List Rec) (end : ℕ) → items_of s ≡ ItemsRead.good rs end
    → (length area < 12 * length rs → (r ≡ Tally.Small (length rs)) × (later ≡ area))
    × (12 * length rs ≤ length area → (r ≡ Tally.Items (length rs)) × (later ≡ records_octets rs ++ drop (12 * length rs) area) × (length later ≡ length area)))

-- a report: "One record of 16 octets"
abbrev pub ReportSize : Type 0
ReportSize = report_size ≡ 16

-- 59 and 60 in full: "60: report area not 16 octets or message area not 65,536", "59: a state .." (Words: Broken)
abbrev pub ReceiverFeedNumbers : Type 0
ReceiverFeedNumbers = (m : Receiver) (piece : List ℕ) → SixtyThenFiftyNine (feed_of m piece).refused Unit (BrokenReceiver m)

abbrev pub ReceiverSilenceNumbers : Type 0
ReceiverSilenceNumbers = (m : Receiver) → SixtyThenFiftyNine (silence_of m).refused Unit (BrokenReceiver m)

abbrev pub FeedNumbers : Type 0
FeedNumbers = (c : Collector) (piece report area : List ℕ) (r : Fed) (report' area' : List ℕ) → Four c → Feeds c report area piece r report' area'
    → SixtyThenFiftyNine r.refused ((length report ≡ report_size) × (length area ≡ 65536)) (Broken c)

abbrev pub SilenceNumbers : Type 0
SilenceNumbers = (c : Collector) (report : List ℕ) (r : Fell) (report' : List ℕ) → Four c → Stills c report r report'
    → SixtyThenFiftyNine r.refused (length report ≡ report_size) (Broken c)

-- "Forgetting frees a slot, answers 0, 59 or 56": 56 for "a slot not open or above 3"
abbrev pub ForgetNumbers : Type 0
ForgetNumbers = (c : Collector) (s : ℕ) (r : Forgot) → Four c → Forgets c s r
    → ((r.number ≡ 59) ↔ Broken c)
    × ((r.number ≡ 56) ↔ ((Broken c → ⊥) × (((slot_at keys (slots_of c) s).used ≡ false) ⊎ (3 < s))))
    × ((r.number ≡ 0) ↔ ((Broken c → ⊥) × ((slot_at keys (slots_of c) s).used ≡ true)))

-- ---- 1c. "the call changes only what that page then lets it": "Nothing changes unless said."

-- a call of the receiver that is refused, or is given no octets, eats nothing and changes nothing
abbrev pub ReceiverKeeps : Type 0
ReceiverKeeps = (m : Receiver) (piece : List ℕ)
    → (((feed_of m piece).refused ≡ 0 → ⊥) → ((feed_of m piece).eaten ≡ 0) × ((feed_of m piece).outcome ≡ Quiet) × ((feed_of m piece).receiver ≡ m))
    × ((feed_of m []).eaten ≡ 0) × ((feed_of m []).outcome ≡ Quiet) × ((feed_of m []).receiver ≡ m)
    × (((silence_of m).refused ≡ 0 → ⊥) → ((silence_of m).outcome ≡ Quiet) × ((silence_of m).receiver ≡ m))

-- "Feeding eats a piece's octets through the first that causes a report, else all": no more than are lent, all where nothing is reported, and some where there are some
abbrev pub ReceiverEats : Type 0
ReceiverEats = (m : Receiver) (piece : List ℕ) → (feed_of m piece).refused ≡ 0
    → ((feed_of m piece).eaten ≤ length piece) × ((feed_of m piece).outcome ≡ Quiet → (feed_of m piece).eaten ≡ length piece) × (0 < length piece → 0 < (feed_of m piece).eaten)

-- the collector's three calls, refused: state, report area and message area stay, and nothing is eaten
abbrev pub FeedRefused : Type 0
FeedRefused = (c : Collector) (piece report area : List ℕ) (r : Fed) (report' area' : List ℕ) → Feeds c report area piece r report' area' → (r.refused ≡ 0 → ⊥)
    → (r ≡ unfed_by r.refused c) × (report' ≡ report) × (area' ≡ area)

abbrev pub SilenceRefused : Type 0
SilenceRefused = (c : Collector) (report : List ℕ) (r : Fell) (report' : List ℕ) → Stills c report r report' → (r.refused ≡ 0 → ⊥)
    → (r ≡ quiet_by r.refused c) × (report' ≡ report)

abbrev pub ForgetRefused : Type 0
ForgetRefused = (c : Collector) (s : ℕ) (r : Forgot) → Forgets c s r → (r.number ≡ 0 → ⊥) → r.state ≡ c

-- a piece that is not refused: "Feeding eats a piece's octets through the first that causes a report, else all .. without a report that area is unchanged." A report
-- is 16 octets; damage and a good frame without a segment leave slots and message area; a segment changes them as SegmentDoes says
abbrev pub FeedDoes : Type 0
FeedDoes = (c : Collector) (piece report area : List ℕ) (r : Fed) (report' area' : List ℕ) → Feeds c report area piece r report' area' → r.refused ≡ 0
    → FeedChanges c report area (feed_of c.receiver piece) r report' area'

-- a segment: 50 to 53 change nothing, 54 alone frees its key's slot and lays nothing, an accepted one lays its octets at its place of its slot and nowhere else
abbrev pub SegmentDoes : Type 0
SegmentDoes = (g : Segment Key) (b : Box Key) → let d = rebuild keys g b in SegmentChanges g b d.answer d.box.slots d.box.area

-- rebuild::take does just that in an area of 65,536 octets; 60 exactly in any other, and nothing changes
abbrev pub TakeDoes : Type 0
TakeDoes = (t : Slots) (g : Head) (o area : List ℕ) (r : Taken) (later : List ℕ) → Rebuild.Gives (Rebuild.taking t g o area) r later
    → ((r.answer ≡ Took.Refused 60) ↔ (length area ≡ 65536 → ⊥))
    × (r.answer ≡ Took.Refused 60 → (r.slots ≡ t) × (later ≡ area))
    × (length area ≡ 65536 → Rebuild.Gives (rebuild keys (segment_of g o) (boxed (view t) area)) r later)

-- a silence that is not refused: damage 4 is reported or nothing; slots stay
abbrev pub SilenceDoes : Type 0
SilenceDoes = (c : Collector) (report : List ℕ) (r : Fell) (report' : List ℕ) → Stills c report r report' → r.refused ≡ 0
    → (let x = hurt_by damage_octets (silence_of c.receiver).outcome in
    (r.reported ≡ said_so x) × (report' ≡ written x report) × (r.state.receiver ≡ (silence_of c.receiver).receiver) × (r.state.slots ≡ c.slots))

-- forgetting, the collector's and rebuild's own, frees that slot and leaves all else
abbrev pub ForgetDoes : Type 0
ForgetDoes = (c : Collector) (s : ℕ) (r : Forgot) → Forgets c s r → r.number ≡ 0
    → (r.state.receiver ≡ c.receiver) × (slots_of r.state ≡ set (slots_of c) s (empty keys))

abbrev pub FreeDoes : Type 0
FreeDoes = (t : Slots) (s : ℕ) (r : Freed) → Rebuild.Forgets t s r
    → ((slot_at keys (view t) s).used ≡ true → (r.number ≡ 0) × (view r.slots ≡ set (view t) s (empty keys)))
    × ((slot_at keys (view t) s).used ≡ false → (r.number ≡ 56) × (r.slots ≡ t))

-- a segment changes no octet of another slot
abbrev pub OthersStay : Type 0
OthersStay = (c : Collector) (area : List ℕ) → Passes c → length area ≡ 65536 → (g : Segment Key) (j : ℕ) → j < 4
    → (let d = rebuild keys g (boxed (slots_of c) area) in touches d.answer j ≡ false → part (room * j) room d.box.area ≡ part (room * j) room area)

-- ---- DEMAND 2. "Frames, headers, tags and parameters are accepted exactly when ASHRAE 135, as document 01 condenses it, accepts them. Headers, tags and
-- parameters that were read write back to the same octets; what was written reads back as the same items."

-- ---- frames: a check octet is taken exactly when it is the one sent
abbrev pub HeaderCheckExact : Type 0
HeaderCheckExact = (xs : List ℕ) (c : ℕ) → c < 256 → (header_run header_start (xs ++ (c ∷ [])) ≡ header_left) ↔ (c ≡ header_check xs)

abbrev pub DataCheckExact : Type 0
DataCheckExact = (xs : List ℕ) → Octets xs → (a b : ℕ) → a < 256 → b < 256 → (data_run data_start (xs ++ (a ∷ b ∷ [])) ≡ data_left) ↔ (a ∷ b ∷ [] ≡ data_check xs)

-- a good frame ends at a place of a recording exactly when its layout stands there, up to that place, with no frame open where it begins (`Damage` has
-- the same of every outcome)
abbrev pub FramesExact : Type 0
FramesExact = (r : Receiver) → Sound r → (es : List Event) → Bytes (came (held_of r) ++ es) → (q : ℕ) (h d : List ℕ)
    → (ended q (read_from r es) ≡ some (good h d)) ↔ OutcomeAt (came (held_of r) ++ es) q (good h d)

-- ---- the network header: read with what follows it exactly when its rules hold and its layout stands in front
abbrev pub NetworkExact : Type 0
NetworkExact = Exactly NetworkRead.Reads NetworkRead.ValidFirst NetworkRead.encode_all

-- a header that was read is written, in an area that is long enough, as the octets that it was read from
abbrev pub NetworkWritesBack : Type 0
NetworkWritesBack = (s area later : List ℕ) (r : Written) → Octets s → (read_npdu s).refused ≡ 0 → (read_npdu s).next ≤ length area
    → Laid (NetworkFault.fault_of (read_npdu s).head) (Network.encode (read_npdu s).head) area r later
    → (r ≡ Ok (read_npdu s).next) × (later ≡ take (read_npdu s).next s ++ drop (read_npdu s).next area)

-- what the writer wrote reads back, absent parts shown as 0
abbrev pub NetworkReadsBack : Type 0
NetworkReadsBack = (h : Npdu) (n : ℕ) (area later : List ℕ) → NetworkRules.Kept h → Laid (NetworkFault.fault_of h) (Network.encode h) area (Ok n) later
    → read_npdu later ≡ NetworkRead.accepted n (Network.shown h)

-- ---- the eight APDU headers, each with its parameters, in every edition
abbrev pub HeadersExact : Type 0
HeadersExact = (e : Edition) → Exactly (HeaderRead.Reads e) (HeaderRules.Valid e) Header.encode

abbrev pub HeadersWriteBack : Type 0
HeadersWriteBack = (e : Edition) (s area later : List ℕ) (p : Pdu) (r : Written) → read_apdu e s ≡ Ok p → params_at p ≤ length area
    → Laid (HeaderFault.fault_of e p) (Header.header p) area r later → (r ≡ Ok (params_at p)) × (later ≡ take (params_at p) s ++ drop (params_at p) area)

abbrev pub HeadersReadBack : Type 0
HeadersReadBack = (e : Edition) (p : Pdu) (n : ℕ) (area later t : List ℕ) → Laid (HeaderFault.fault_of e p) (Header.header p) area (Ok n) later → HeaderRules.Follows p t
    → read_apdu e (take n later ++ t) ≡ Ok (HeaderFault.shown p)

-- ---- tags: one tag with its contents is read at a place exactly when an item that keeps the rules stands there
abbrev pub TagsExact : Type 0
TagsExact = (s : List ℕ) → Octets s → (at : ℕ)
    → (Tags.Good (head_at s at) → Tags.Stands s at (head_at s at)) × ((t : Tags.Thing) → Tags.Valid t → Has s at (Tags.encode t) → head_at s at ≡ Tags.tag_of at t)

-- tag items: octets are read as these items exactly when the items keep the grammar and the octets are their encoding
abbrev pub ItemsExact : Type 0
ItemsExact = Exactly Items.Reads Items.Grammar Items.encode_all

-- what listing listed, with the octets as the source, is written as the same octets
abbrev pub ItemsWriteBack : Type 0
ItemsWriteBack = (o lent listed area later : List ℕ) (n : ℕ) (r : Written) → Octets o → Listed o lent (Tally.Items n) listed → length o ≤ length area
    → (let records = take (12 * n) listed in Laid (write_fault records o) (Items.encode_all (things_of o (records_in records))) area r later
    → (r ≡ Ok (length o)) × (later ≡ o ++ drop (length o) area))

-- what was written reads back as the same items, places apart
abbrev pub ItemsReadBack : Type 0
ItemsReadBack = (records source area : List ℕ) (n : ℕ) (later : List ℕ) → Octets source
    → Laid (write_fault records source) (Items.encode_all (things_of source (records_in records))) area (Ok n) later → ReadingOf source (records_in records) (take n later)

-- ---- the services: for every kind of PDU and choice, octets are read as a service that shows this message exactly when the message is of that kind and choice,
-- keeps its rules, and the octets are its layout
abbrev pub ServicesExact : Type 0
ServicesExact = (kind choice : ℕ) → Exactly (Services.Shows kind choice) (Services.ValidFor kind choice) ServiceLayout.encode

-- a service that was read is written, with the octets of its value, as the octets that it was read from
abbrev pub ServicesWriteBack : Type 0
ServicesWriteBack = (kind choice : ℕ) (o area later : List ℕ) (v : Service) (r : Written) → Octets o → read_service kind choice o ≡ Ok v → length o ≤ length area
    → (let value = ServiceWriter.value_in o v in Laid (ServiceFault.fault_of v value) (ServiceWriter.octets_of v value) area r later
    → (r ≡ Ok (length o)) × (later ≡ o ++ drop (length o) area))

-- what keeps the rules, absent parts taken as 0, is written wherever the area is long enough, and reads back as the same message
abbrev pub ServicesAreWritten : Type 0
ServicesAreWritten = (v : Service) (ts : List Tags.Thing) (area later : List ℕ) (r : Written)
    → (let value = Items.encode_all ts in
    let m = Services.message_of (shown_service v) ts in
    Services.ValidFor (ServiceWriter.kind_of v) (ServiceWriter.choice_of v) m → length (ServiceWriter.octets_of v value) ≤ length area
    → Laid (ServiceFault.fault_of v value) (ServiceWriter.octets_of v value) area r later
    → (n : ℕ) × (r ≡ Ok n) × Services.Shows (ServiceWriter.kind_of v) (ServiceWriter.choice_of v) (take n later) m)

-- what was written reads back: whatever the value's octets are, the output is accepted, since the writer gives "the number that reading their output would give";
-- where the value is whole items by itself, as the message that was written
abbrev pub ServicesReadBack : Type 0
ServicesReadBack = (v : Service) (value area later : List ℕ) (n : ℕ) → Octets later
    → Laid (ServiceFault.fault_of v value) (ServiceWriter.octets_of v value) area (Ok n) later
    → AcceptedBack v (take n later) × (KeptService v → WholeBack v value (take n later))

-- the exception: a value that is not. With `0A` as value and 63 as priority, `3E 0A 3F 49 3F` is written; the item's contents are the group's closing and the
-- priority's tag, the priority's octet closes the group, and what is read is the value `0A 3F 49` without a priority
abbrev pub ServicesSwallow : Type 0
ServicesSwallow =
    (let target : Target = record { object = 0; instance = 5; property = 85; indexed = false; index = 0 } in
    let v : Service = WriteProperty (record { target = target; value = record { at = 0; len = 0 }; ranked = true; priority = 63 }) in
    let w : Service = WriteProperty (record { target = target; value = record { at = 8; len = 3 }; ranked = false; priority = 0 }) in
    let o = ServiceWriter.octets_of v (0x0A ∷ []) in
    (ServiceFault.fault_of v (0x0A ∷ []) ≡ 0) × (read_service 0 15 o ≡ Ok w) × (ServiceWriter.value_in o w ≡ 0x0A ∷ 0x3F ∷ 0x49 ∷ []))

-- ---- DEMAND 3. "From one state that refusal 59 passes and one message area, fix one run of trunk octets with silences and forget orders at fixed places. Cut the
-- octets anywhere, offer the rest again after each report, lend areas of the right sizes that nobody else writes. Then reports, final state and message area are
-- those that a reading of the whole recording by position gives. Each message begun and completed in the run is its key's accepted segments since its latest
-- starting segment 0, joined in order of acceptance."

-- the first sentence: from a state that 59 passes and an area of 65,536 octets, however the run is offered, each call giving any answer that its promise
-- allows, the reports with their places, the last state and the message area are the reading's by the rules of the start state's edition, and the last state is of
-- that edition
abbrev pub ReadByPosition : Type 0
ReadByPosition = (c : Collector) (area : List ℕ) → Passes c → length area ≡ 65536 → (run : Run) (e : End)
    → Called (length (held_of c.receiver)) c area run e → e ≡ in_edition c.edition (reading (rules keys (bacnet c.edition)) c.receiver (slots_of c) area run)

-- every run can be offered by these calls, so the sentence is not empty; a fresh collector of each edition passes 59, and so does every state that a run reaches
abbrev pub CanBeOffered : Type 0
CanBeOffered = (c : Collector) (area : List ℕ) → Passes c → length area ≡ 65536 → (run : Run) → (e : End) × Called (length (held_of c.receiver)) c area run e

abbrev pub FreshPasses : Type 0
FreshPasses = (e : Edition) → Passes (fresh_collector e)

abbrev pub ReachedPasses : Type 0
ReachedPasses = (c : Collector) (area : List ℕ) → Passes c → length area ≡ 65536 → (p : ℕ) (run : Run) (e : End) → Called p c area run e
    → Sound e.state.1 × (passing e.slots ≡ true) × (length e.area ≡ 65536)

-- the second sentence, at the place where a message's last segment ends: its slot's octets are the accepted segments of its key since the latest starting segment
-- 0, in the order in which they were accepted, their numbers 0, 1, .., 255, 0, 1, .., and the length is theirs. The history is read off the recording; a completed
-- message with bad tags is completed too. StartsRecorded says which segment starts, BegunExactly when a message was begun.
abbrev pub MessagesWhole : Type 0
MessagesWhole = (c : Collector) (area : List ℕ) → Passes c → length area ≡ 65536 → (all front : Run) (e : Event) (o : Out) (g : Segment Key)
    → (let t = read_from c.receiver (wire all) in
    let p = length (held_of c.receiver) in
    let run = front ++ (trunk e ∷ []) in
    ended (p + length (wire front)) t ≡ some o → segment_at c.edition o ≡ some g → (k : Key) (i n : ℕ)
    → (let log = history keys (bacnet c.edition) t p (slots_of c) area run in
    Completes log k i n → begun keys k log ≡ true → Rebuilt keys k log (walk (rules keys (bacnet c.edition)) t p (slots_of c) area run).area i n))

-- ---- THE SAME OVER OCTETS, for the calls that C and Rust link. "State to octets and back is .. the same state, so every promise carries over."

-- octets are loaded as a state exactly when its fields fit and the octets are its layout
abbrev pub StatesExact : Type 0
StatesExact = Exactly Loads Fits state_octets

-- demand 3's first sentence of the exported calls: from a state area that holds a state which 59 passes, however the run is offered by them, reports and message
-- area are the reading's by the rules of its edition, and the state area is then the octets of the state that the reading ends in, of that edition, and holds it
abbrev pub ReadOverOctets : Type 0
ReadOverOctets = (state : List ℕ) (c : Collector) (area : List ℕ) → Octets state → Loads state c → Passes c → length area ≡ 65536 → (run : Run) (h : Heard)
    → Linked (length (held_of c.receiver)) state area run h
    → (let e = reading (rules keys (bacnet c.edition)) c.receiver (slots_of c) area run in
    let last = state_by c.edition e.state e.slots in
    (h.reports ≡ e.reports) × (h.area ≡ e.area) × (h.state ≡ state_octets last) × Loads h.state last)
