-- "any two answers it allows are shown equal", of the code's own answers. The page speaks of answers in document 01's numbers: `numbered` and the other views
-- say how each answer of the code is seen so, and `Contracts` says what is seen. Here: no two answers are seen alike, so any two answers of the code that a
-- contract allows, with all that they leave in the areas that were lent, are equal themselves; and each contract allows one of the code's own answers, so that it
-- asks nothing impossible of the code. Each statement is proved in proofs/Apart, the last two in proofs/OneOfEach, under its name in small letters.
use Rattle.std.specs.Prelude.{ℕ, ◌≡◌, List, Result, ⊤}
use Rattle.octets.specs.Laid.{Laid}
use Rattle.octets.specs.Refusal.{number_of, numbered, fault_of}
use Rattle.octets.specs.declared.refusal.Refusal.{Refusal}
use Rattle.frames.specs.Step.{feed_of, silence_of}
use Rattle.frames.specs.Answers.{fed_by, fell_by}
use Rattle.frames.specs.Layout.{frame_octets}
use Rattle.frames.specs.declared.Receiver.{Receiver}
use Rattle.frames.specs.declared.Fed as Piece
use Rattle.frames.specs.declared.Fell as Silence
use Rattle.frame_writer.specs.Fault as FrameFault
use Rattle.npdu.specs.Reading.{read_npdu, reading_of}
use Rattle.npdu.specs.Layout as Network
use Rattle.npdu.specs.Fault as NetworkFault
use Rattle.npdu.specs.declared.Npdu.{Npdu}
use Rattle.npdu.specs.declared.Header.{Header as NetworkHeader}
use Rattle.apdu.specs.Reading.{read_apdu}
use Rattle.apdu.specs.Layout as Header
use Rattle.apdu.specs.Fault as HeaderFault
use Rattle.apdu.specs.declared.Edition.{Edition}
use Rattle.apdu.specs.declared.Pdu.{Pdu}
use Rattle.cutter.specs.Calls as Cutter
use Rattle.cutter.specs.Calls.{parted_of}
use Rattle.cutter.specs.Fault.{front_fault}
use Rattle.cutter.specs.declared.Extent.{Extent}
use Rattle.cutter.specs.declared.Message.{Message}
use Rattle.cutter.specs.declared.Way.{Way}
use Rattle.items.specs.Answers.{tally_of, one_of}
use Rattle.items.specs.Grammar as Items
use Rattle.items.specs.Listing.{Listed}
use Rattle.items.specs.Reading.{item_at, one_at, end_of}
use Rattle.items.specs.Records.{things_of}
use Rattle.items.specs.declared.Unlisted.{Unlisted}
use Rattle.item_judge.specs.Judge.{write_fault, records_in}
use Rattle.services.specs.Reading.{read_service}
use Rattle.services.specs.declared.Service.{Service}
use Rattle.service_writer.specs.Layout as ServiceWriter
use Rattle.service_writer.specs.Fault as ServiceFault
use Rattle.reader.specs.Reading.{step_of}
use Rattle.reader.specs.Answers.{answer_of}
use Rattle.reader.specs.declared.Reader.{Reader}
use Rattle.reader.specs.declared.Step.{Step as ReaderStep}
use Rattle.rebuild.specs.Calls as Rebuild
use Rattle.rebuild.specs.Calls.{taken_of, forgot_of}
use Rattle.rebuild.specs.declared.Segment.{Segment as Head}
use Rattle.rebuild.specs.declared.Slots.{Slots}
use Rattle.rebuild.specs.declared.Taken.{Taken}
use Rattle.collector.specs.Answers as Collected
use Rattle.collector.specs.Calls.{Feeds, Stills, Forgets}
use Rattle.collector.specs.declared.Collector.{Collector}
use Rattle.collector.specs.declared.Fed as Eaten
use Rattle.collector.specs.declared.Fell as Stilled
use Rattle.demands.specs.Words.{One}
use Rattle.playback.specs.Answers.{played_of}
use Rattle.playback.specs.Calls.{Plays}
use Rattle.playback.specs.declared.Played.{Played}

-- no two are seen alike
abbrev pub Faithful : {C A : Type 0} → (C → A) → Type 0
Faithful {C} view = (r r' : C) → view r ≡ view r' → r ≡ r'

pub record AnswersApart : Type 0 where
  -- no two refusals have one number
  pub refusals : Faithful number_of
  -- writers, which give a length or a refusal; judges, which give nothing or a refusal
  pub written : Faithful (numbered {A = ℕ})
  pub judges : Faithful (fault_of {A = ⊤})
  pub npdu_read : Faithful reading_of
  pub apdu_read : Faithful (numbered {A = Pdu})
  pub cut : Faithful parted_of
  pub items_list : Faithful tally_of
  pub items_one : Faithful one_of
  pub services_read : Faithful (numbered {A = Service})
  pub reader_step : Faithful answer_of
  -- m, t and c: the receiver, the slots and the collector that a refused call leaves as they were
  pub receiver_feed : (m : Receiver) → Faithful (fed_by m)
  pub receiver_silence : (m : Receiver) → Faithful (fell_by m)
  pub rebuild_take : Faithful taken_of
  pub rebuild_forget : (t : Slots) → Faithful (forgot_of t)
  pub collector_feed : (c : Collector) → Faithful (Collected.fed_of c)
  pub collector_silence : (c : Collector) → Faithful (Collected.fell_of c)
  pub collector_forget : (c : Collector) → Faithful (Collected.forgot_of c)
  pub replay : Faithful played_of

-- P is what the page says of an answer and of what is left in the areas, L: where `OneAnswer` has one such answer, the code has no two. That it has one is
-- `OneOfEach`
abbrev pub OneOfTheCode : Type 1
OneOfTheCode = (C A L : Type 0) (view : C → A) → Faithful view → (P : A × L → Type 0) → One (A × L) P → (x x' : C × L) → P (view x.0, x.1) → P (view x'.0, x'.1) → x ≡ x'

-- each call whose answer the code gives as a Result, or as a struct with one in it: an answer of the code's own type, with what the call leaves in the areas that
-- it was lent, that the call's contract allows, and no other. A field for each such call of `OneAnswer`, which has the others of the code's own types as they are
pub record OneOfEach : Type 0 where
  pub receiver_feed : (m : Receiver) (piece : List ℕ) → One (Result Piece.Fed Refusal) (λ r. fed_by m r ≡ feed_of m piece)
  pub receiver_silence : (m : Receiver) → One (Result Silence.Fell Refusal) (λ r. fell_by m r ≡ silence_of m)
  pub frames_write : (kind to from : ℕ) (d out : List ℕ)
      → One (Result ℕ Refusal × List ℕ) (λ x. Laid (FrameFault.fault_of d) (frame_octets kind to from d) out (numbered x.0) x.1)
  pub npdu_read : (s : List ℕ) → One (Result NetworkHeader Refusal) (λ r. reading_of r ≡ read_npdu s)
  pub npdu_write : (h : Npdu) (out : List ℕ) → One (Result ℕ Refusal × List ℕ) (λ x. Laid (NetworkFault.fault_of h) (Network.encode h) out (numbered x.0) x.1)
  pub apdu_read : (e : Edition) (s : List ℕ) → One (Result Pdu Refusal) (λ r. numbered r ≡ read_apdu e s)
  pub apdu_write : (e : Edition) (p : Pdu) (out : List ℕ)
      → One (Result ℕ Refusal × List ℕ) (λ x. Laid (HeaderFault.fault_of e p) (Header.header p) out (numbered x.0) x.1)
  pub apdu_fault_lem : (e : Edition) (p : Pdu) → One (Result ⊤ Refusal) (λ r. fault_of r ≡ HeaderFault.fault_of e p)
  pub cut : (e : Edition) (m : Message) (w : Way) (params out : List ℕ)
      → One (Result Extent Refusal × List ℕ) (λ x. Cutter.Cuts e m w params out (parted_of x.0) x.1)
  pub cut_front : (w : Way) (n : ℕ) → One (Result ⊤ Refusal) (λ r. fault_of r ≡ front_fault w n)
  pub items_list : (s out : List ℕ) → One (Result ℕ Unlisted × List ℕ) (λ x. Listed s out (tally_of x.0) x.1)
  pub items_item_at : (s : List ℕ) (at : ℕ) → One (Result ℕ Refusal) (λ r. one_of r ≡ end_of (one_at s at))
  pub items_whole_at : (s : List ℕ) (at : ℕ) → One (Result ℕ Refusal) (λ r. one_of r ≡ end_of (item_at s at))
  pub items_write : (records source out : List ℕ)
      → One (Result ℕ Refusal × List ℕ) (λ x. Laid (write_fault records source) (Items.encode_all (things_of source (records_in records))) out (numbered x.0) x.1)
  pub services_read : (kind choice : ℕ) (s : List ℕ) → One (Result Service Refusal) (λ r. numbered r ≡ read_service kind choice s)
  pub services_write : (v : Service) (value out : List ℕ)
      → One (Result ℕ Refusal × List ℕ) (λ x. Laid (ServiceFault.fault_of v value) (ServiceWriter.octets_of v value) out (numbered x.0) x.1)
  pub reader_next : (q : Reader) → One (Result ReaderStep Refusal) (λ r. answer_of r ≡ step_of q.params.now q.at)
  pub reader_first : (s : List ℕ) → One (Result ReaderStep Refusal) (λ r. answer_of r ≡ step_of s 0)
  pub rebuild_take : (t : Slots) (g : Head) (o area : List ℕ) → One (Taken × List ℕ) (λ x. Rebuild.Gives (Rebuild.taking t g o area) (taken_of x.0) x.1)
  pub rebuild_forget : (t : Slots) (s : ℕ) → One (Result Slots Refusal) (λ r. Rebuild.Forgets t s (forgot_of t r))
  pub collector_feed : (c : Collector) (piece report area : List ℕ)
      → One (Result Eaten.Fed Refusal × List ℕ × List ℕ) (λ x. Feeds c report area piece (Collected.fed_of c x.0) x.1 x.2)
  pub collector_silence : (c : Collector) (report : List ℕ) → One (Result Stilled.Fell Refusal × List ℕ) (λ x. Stills c report (Collected.fell_of c x.0) x.1)
  pub collector_forget : (c : Collector) (s : ℕ) → One (Result Collector Refusal) (λ r. Forgets c s (Collected.forgot_of c r))
  pub replay : (c : Collector) (records report area : List ℕ) → One (Played × List ℕ × List ℕ) (λ x. Plays c report area records (played_of x.0) x.1 x.2)

-- X is what the code answers with all that it leaves, Y the same in the page's numbers, and seen how the one is seen as the other: as (view x.0, x.1) above. Where
-- `OneAnswer` has one such Y and `OneOfEach` one such X, each answer that the page allows is seen of one of the code's. So wherever `CanBeOffered`, `Replaying` (of
-- `ReplayCanBeOffered`) or `CanBeCutAndFed` has a plain answer that a call's promise allows, the call has one of the code's own that is seen so: what they say is
-- there is there by the code's own answers too
abbrev pub SeenOfTheCode : Type 1
SeenOfTheCode = (X Y : Type 0) (seen : X → Y) (P : Y → Type 0) → One Y P → One X (λ x. P (seen x)) → (y : Y) → P y → (x : X) × (seen x ≡ y)
