-- The words in which the demands are said: one answer, the numbers of a call, what 59 names, what a call changes.
use Rattle.std.specs.Prelude.{ℕ, ◌+◌, ◌*◌, ◌%◌, ◌≤◌, ◌<◌, ◌≡◌, ◌↔◌, ◌⊎◌, Bool, true, false, List, ◌++◌, length, drop, set, replicate, Ok, Err}
use Rattle.std.proofs.Math.Option.{Option, none, some}
use Rattle.octets.specs.Choice.{pick, given}
use Rattle.octets.specs.Splice.{splice}
use Rattle.octets.specs.Laid.{Written}
use Rattle.frames.specs.Step.{most, length_of}
use Rattle.frames.specs.Answers as Receiver
use Rattle.frames.specs.declared.Phase.TheVariants.{Header, Data}
use Rattle.frames.specs.declared.Receiver.{Receiver}
use Rattle.npdu.specs.Address.{AddressFits}
use Rattle.npdu.specs.Valid.{Valid, HeaderFits}
use Rattle.npdu.specs.declared.Address.{Address}
use Rattle.npdu.specs.declared.Npdu.{Npdu}
use Rattle.trunk.specs.Reading.{Out}
use Rattle.trunk.specs.Demand.{out_of}
use Rattle.messages.specs.Slots.{Segment, Slot, Box, boxed, room, empty, slot_at, slot_of}
use Rattle.messages.specs.Rows.{Answer, before, free_at, rebuild}
use Rattle.messages.specs.Rows.Answer.{refused, taken, completed}
use Rattle.rebuild.specs.View.{keys}
use Rattle.rebuild.specs.declared.Key.{Key}
use Rattle.tags.specs.Layout.{Thing}
use Rattle.items.specs.Reading.{Out as ItemsRead, items_of}
use Rattle.items.specs.Grammar.{encode_all, Grammar}
use Rattle.items.specs.Listing.{ReadAs}
use Rattle.services.specs.Parts.{any_number}
use Rattle.services.specs.Reading.{read_service}
use Rattle.services.specs.Shows.{message_of, Shows}
use Rattle.services.specs.declared.Service.{Service}
use Rattle.services.specs.declared.Service.TheVariants.{ReadProperty, ReadPropertyAck, WriteProperty, WhoIs, IAm, Error}
use Rattle.services.specs.declared.Target.{Target}
use Rattle.service_writer.specs.Layout.{kind_of, choice_of, octets_of, value_in}
use Rattle.reports.specs.Layout.{report_size}
use Rattle.collector.specs.Calls.{slots_of}
use Rattle.collector.specs.Frame.{segment_at, plain_at, answered_at}
use Rattle.collector.specs.declared.Collector.{Collector}
use Rattle.collector.specs.Answers.{Fed}
use Rattle.collector.specs.Answers.{Fell}

-- ---- "any two answers it allows are shown equal": an answer with all that a call leaves in what it was lent. There is one that the promise P allows,
-- so that it asks nothing impossible, and no other.
pub record One (A : Type 0) (P : A → Type 0) : Type 0 where
  pub answer : A
  pub allowed : P answer
  pub same : (r r' : A) → P r → P r' → r ≡ r'

-- ---- numbers
abbrev pub Between : ℕ → ℕ → ℕ → Type 0
Between low high n = (low ≤ n) × (n ≤ high)

-- "60, then 59 .. come before all else": n, the number that a call gives, where Sized says that what it was lent has its size and Broken that
-- 59 names its state
pub record SixtyThenFiftyNine (n : ℕ) (Sized Broken : Type 0) : Type 0 where
  pub sixty : (n ≡ 60) ↔ (Sized → ⊥)
  pub fifty_nine : (n ≡ 59) ↔ (Sized × Broken)
  pub none : (n ≡ 0) ↔ (Sized × (Broken → ⊥))

-- ---- 59: "a state in header or data with nothing left to come, in data with a length of 0 or above 501"
pub data BrokenReceiver (r : Receiver) : Type 0 where
  header_over : (got : ℕ) → r.link.phase ≡ Header got → 6 ≤ got → BrokenReceiver r
  data_over : (got : ℕ) → r.link.phase ≡ Data got → length_of r.link.head + 2 ≤ got → BrokenReceiver r
  no_length : (got : ℕ) → r.link.phase ≡ Data got → length_of r.link.head ≡ 0 → BrokenReceiver r
  long_length : (got : ℕ) → r.link.phase ≡ Data got → most < length_of r.link.head → BrokenReceiver r

-- an address of a network header: there as a whole or not, and where it is not all its fields are 0
abbrev pub address_in : Bool → (net len : ℕ) → List ℕ → Address
address_in here net len adr =
    given here (record { present = true; network = net; length = len; octets = adr }) (record { present = false; network = 0; length = 0; octets = replicate 7 0 })

-- a network header that keeps the rules has the two addresses of a key
pub record Headed (k : Key) : Type 0 where
  pub head : Npdu
  pub valid : Valid head
  pub fits : HeaderFits head
  pub source : address_in head.source head.snet head.slen head.sadr ≡ k.from
  pub destination : address_in head.dest head.dnet head.dlen head.dadr ≡ k.to

-- "a slot holding over 16,384, or two open slots of one key", and "an open slot whose addresses no network header gives": no header that keeps the rules has them
pub data BrokenSlots (s : List (Slot Key)) : Type 0 where
  holds_over : (i : ℕ) → i < length s → room < (slot_at keys s i).held → BrokenSlots s
  one_key : (i j : ℕ) → i < j → j < length s → (slot_at keys s i).used ≡ true → (slot_at keys s j).used ≡ true → (slot_at keys s i).key ≡ (slot_at keys s j).key → BrokenSlots s
  no_header : (i : ℕ) → i < length s → (slot_at keys s i).used ≡ true → (Headed (slot_at keys s i).key → ⊥) → BrokenSlots s

abbrev pub Broken : Collector → Type 0
Broken c = BrokenReceiver c.receiver ⊎ BrokenSlots (slots_of c)

-- four slots, the addresses of each in their octets, as the type of a collector says
pub record Four (c : Collector) : Type 0 where
  pub count : length (slots_of c) ≡ 4
  pub addresses : (i : ℕ) → i < 4 → AddressFits (slot_at keys (slots_of c) i).key.from × AddressFits (slot_at keys (slots_of c) i).key.to

-- ---- what a writer does: f is the number that its fields deserve, 0 for none, and o its result. "61 last"; "Nothing changes unless said, and
-- nothing past a result is written."
pub record WritesBy (f : ℕ) (o area : List ℕ) (r : Written) (later : List ℕ) : Type 0 where
  pub faulty : (f ≡ 0 → ⊥) → (r ≡ Err f) × (later ≡ area)
  pub short : f ≡ 0 → length area < length o → (r ≡ Err 61) × (later ≡ area)
  pub fine : f ≡ 0 → length o ≤ length area → (r ≡ Ok (length o)) × (later ≡ o ++ drop (length o) area)

-- ---- listing items in an area: n, the page's number of its answer, and the count that comes with it. "one operation that answers the item count and writes
-- records if they fit. If they do not, it answers 61 with the count needed ..; tag refusals still come first"
pub record ListNumbered (s area : List ℕ) (n count : ℕ) : Type 0 where
  -- success exactly for k items whose records, 12 octets each, fit: so for no items whatever the area
  pub fits : (k : ℕ) → ((n ≡ 0) × (count ≡ k)) ↔ (ReadAs s k × (12 * k ≤ length area))
  -- 61 exactly for k items whose records do not fit, with k
  pub small : (k : ℕ) → ((n ≡ 61) × (count ≡ k)) ↔ (ReadAs s k × (length area < 12 * k))
  -- a tag's number, 30 to 39, exactly where the reading refuses with it, whatever the area, and the count 0
  pub tags : (x : ℕ) → ((n ≡ x) × (count ≡ 0) × Between 30 39 x) ↔ (items_of s ≡ ItemsRead.bad x)
  -- 39 "over 16,384 parameter octets (judged first)"
  pub over : (n ≡ 39) ↔ (16384 < length s)
  -- no other number; the count is "at most 2,048"
  pub only : (n ≡ 0) ⊎ ((n ≡ 61) ⊎ Between 30 39 n)
  pub most : count ≤ 2048

-- ---- what a segment changes, by its answer: from the slots and the area of b to these
-- 50 to 53 change nothing; 54 alone frees the key's slot, where it has one, and leaves the area
abbrev pub SegmentRefused : Segment Key → Box Key → ℕ → List (Slot Key) → List ℕ → Type 0
SegmentRefused g b n slots area =
    (area ≡ b.area) × ((Between 50 53 n × (slots ≡ b.slots)) ⊎ ((n ≡ 54) × (slots ≡ free_at keys (slot_of keys g.key b.slots) b.slots)))

-- "segments' parameters are laid end to end from its first": the octets in front of a segment's in slot i, none where it starts or restarts a message
abbrev pub in_front : Segment Key → Box Key → ℕ → ℕ
in_front g b i = before keys g (slot_of keys g.key b.slots) (slot_at keys b.slots i)

-- an accepted one lays its octets in slot i behind those, up to n, and nowhere else, and sets that slot's record
pub record SegmentLaid (g : Segment Key) (b : Box Key) (i n : ℕ) (record' : Slot Key) (slots : List (Slot Key)) (area : List ℕ) : Type 0 where
  pub slot : i < length b.slots
  pub total : n ≡ in_front g b i + length g.octets
  pub fits : n ≤ room
  pub laid : area ≡ splice b.area (room * i + in_front g b i) g.octets
  pub records : slots ≡ set b.slots i record'

-- the record while more segments are to come: n octets are held, and the next number is the one after this segment's, 0 after 255
abbrev pub waits : Segment Key → ℕ → Slot Key
waits g n = record { used = true; key = g.key; next = (g.number + 1) % 256; choice = g.choice; held = n }

abbrev pub SegmentChanges : Segment Key → Box Key → Answer → List (Slot Key) → List ℕ → Type 0
SegmentChanges g b (refused n) slots area = SegmentRefused g b n slots area
SegmentChanges g b (taken i n) slots area = SegmentLaid g b i n (waits g n) slots area
SegmentChanges g b (completed i n) slots area = SegmentLaid g b i n (empty keys) slots area

-- ---- a refused piece: nothing eaten, nothing changed; a refused silence
abbrev pub unfed_by : ℕ → Collector → Fed
unfed_by n c = record { refused = n; eaten = 0; reported = false; state = c }

abbrev pub quiet_by : ℕ → Collector → Fell
quiet_by n c = record { refused = n; reported = false; state = c }

-- ---- what a piece that is not refused changes: by what the receiver's answer f ended, and by the segment that a good frame carries, read by the state's edition
abbrev pub BySegment : Collector → List ℕ → Out → Option (Segment Key) → List ℕ → List (Slot Key) → List ℕ → Type 0
BySegment c area o none report' slots area' = (report' ≡ plain_at c.edition o) × (slots ≡ slots_of c) × (area' ≡ area)
BySegment c area o (some g) report' slots area' =
    let d = rebuild keys g (boxed (slots_of c) area) in
    (report' ≡ answered_at c.edition o d.answer d.box.area) × (slots ≡ d.box.slots) × (area' ≡ d.box.area)

abbrev pub ByOutcome : Collector → List ℕ → List ℕ → Option Out → Bool → List ℕ → List (Slot Key) → List ℕ → Type 0
ByOutcome c report area none reported report' slots area' = (reported ≡ false) × (report' ≡ report) × (slots ≡ slots_of c) × (area' ≡ area)
ByOutcome c report area (some o) reported report' slots area' = (reported ≡ true) × (length report' ≡ report_size) × BySegment c area o (segment_at c.edition o) report' slots area'

pub record FeedChanges (c : Collector) (report area : List ℕ) (f : Receiver.Fed) (r : Fed) (report' area' : List ℕ) : Type 0 where
  pub eaten : r.eaten ≡ f.eaten
  pub receiver : r.state.receiver ≡ f.receiver
  pub rest : ByOutcome c report area (out_of f.outcome f.receiver) r.reported report' (slots_of r.state) area'

-- ---- "Fields of an absent part .. aren't looked at and are read as 0", of a service
abbrev pub shown_target : Target → Target
shown_target t = record { object = t.object; instance = t.instance; property = t.property; indexed = t.indexed; index = pick t.indexed t.index 0 }

abbrev pub shown_service : Service → Service
shown_service (ReadProperty t) = ReadProperty (shown_target t)
shown_service (ReadPropertyAck a) = ReadPropertyAck (record { target = shown_target a.target; value = a.value })
shown_service (WriteProperty w) = WriteProperty (record { target = shown_target w.target; value = w.value; ranked = w.ranked; priority = pick w.ranked w.priority 0 })
shown_service (WhoIs w) = WhoIs (record { limited = w.limited; low = pick w.limited w.low 0; high = pick w.limited w.high 0 })
shown_service (IAm i) = IAm i
shown_service (Error f) = Error f

-- the numbers that the types of a service's fields hold; object and instance, which the layout may not hold, are judged by the writer
abbrev pub KeptTarget : Target → Type 0
KeptTarget t = (t.property ≤ any_number) × (t.index ≤ any_number)

abbrev pub KeptService : Service → Type 0
KeptService (ReadProperty t) = KeptTarget t
KeptService (ReadPropertyAck a) = KeptTarget a.target
KeptService (WriteProperty w) = KeptTarget w.target × (w.priority ≤ 255)
KeptService (WhoIs w) = (w.low ≤ any_number) × (w.high ≤ any_number)
KeptService (IAm i) = (i.longest ≤ any_number) × (i.segmentation ≤ 255) × (i.vendor ≤ 65535)
KeptService (Error f) = (f.class ≤ any_number) × (f.code ≤ any_number)

-- ---- octets o, written of a service v with a value's octets, read back: they are accepted for its kind and choice, as a service that is written as the same octets
abbrev pub AcceptedBack : Service → List ℕ → Type 0
AcceptedBack v o = (w : Service) × (read_service (kind_of v) (choice_of v) o ≡ Ok w) × (octets_of w (value_in o w) ≡ o)

-- and where the value is whole items by itself, they are the message that was written, absent parts shown as 0
abbrev pub WholeBack : Service → List ℕ → List ℕ → Type 0
WholeBack v value o = (ts : List Thing) → Grammar ts → value ≡ encode_all ts → Shows (kind_of v) (choice_of v) o (message_of (shown_service v) ts)
