-- "What is cut and framed as type 5 or 6, all with one destination and one source, fed in order to a fresh collector of its edition without silence, must report kind 5
-- with exactly the parameters given, if their tags are good." Over the calls by value and over the exported ones. Proved in proofs/CutAndFed, CutOverOctets and CanBeCut,
-- each statement under its name in small letters.
use Rattle.std.specs.Prelude.{ℕ, zero, suc, ◌+◌, ◌-◌, ◌*◌, ◌<◌, ◌≡◌, ◌⊎◌, true, false, List, [], ◌∷◌, ◌++◌, length, take, drop, Ok}
use Rattle.octets.specs.Reading.{Octets}
use Rattle.runs.specs.Run.{octs}
use Rattle.apdu.specs.declared.Edition.{Edition}
use Rattle.frames.specs.Layout.{frame_octets}
use Rattle.frames.specs.declared.Phase.TheVariants.{Hunting}
use Rattle.frame_writer.specs.Calls as FrameWriter
use Rattle.frame_writer.specs.Fault as FrameFault
use Rattle.cutter.specs.Calls as Cutter
use Rattle.cutter.specs.declared.Message.{Message}
use Rattle.cutter.specs.declared.Message.TheVariants.{Request, ComplexAck}
use Rattle.cutter.specs.declared.Way.{Way}
use Rattle.cutter.specs.Calls.{Parted}
use Rattle.items.specs.Reading.{items_of}
use Rattle.items.specs.Reading.Out.{bad}
use Rattle.items.specs.Listing.{ReadAs}
use Rattle.messages.specs.Table.{NoRow}
use Rattle.collector.specs.Calls.{slots_of, fresh_collector}
use Rattle.collector.specs.Offering.{End, Called}
use Rattle.collector.specs.declared.Collector.{Collector}
use Rattle.state.specs.Edition.{edition_of}
use Rattle.state.specs.Calls.{Loads, Saves}
use Rattle.hitchbarley.specs.Answers.{Writes}
use Rattle.hitchbarley.specs.Writers as Exported
use Rattle.hitchbarley.specs.Offering.{Heard, Linked}
use Rattle.traffic.specs.Heard.{invoke_of, choice_of, first_octet_of}
use Rattle.demands.specs.Reported.{kind4, kind5, kind6}
use Rattle.demands.specs.Cutting.{cut_rows, header_size, npdus_in}
use Rattle.demands.specs.ExportedWriting.{RecordIs, way_in, cut_call_rows}

-- ---- "cut and framed": the octets fed
-- each of these data framed by the frame writer in some area that holds the frame, "all with one destination and one source"; kind gives the type of each, the first
-- being the k-th. What it wrote, end to end
pub data Framed (kind : ℕ → ℕ) (to from : ℕ) : (k : ℕ) → List (List ℕ) → List ℕ → Type 0 where
  none : {k : ℕ} → Framed kind to from k [] []
  next : {k : ℕ} (d area : List ℕ) (n : ℕ) (later : List ℕ) {ds : List (List ℕ)} {fed : List ℕ} → FrameWriter.Writes (kind k) to from d area (Ok n) later
      → Framed kind to from (k + 1) ds fed → Framed kind to from k (d ∷ ds) (take n later ++ fed)

-- a message that was cut in some area that holds the result, each of its NPDUs framed
pub record CutAndFramed (e : Edition) (m : Message) (w : Way) (params : List ℕ) (kind : ℕ → ℕ) (to from count : ℕ) (fed : List ℕ) : Type 0 where
  pub area : List ℕ
  pub later : List ℕ
  pub answer : Parted
  pub cut : Cutter.Cuts e m w params area answer later
  pub wrote : ℕ
  pub written : answer.answer ≡ Ok wrote
  pub segments : answer.segments ≡ count
  pub framed : Framed kind to from 0 (npdus_in (header_size m + w.each) count (take wrote later)) fed

-- a message's own fields are octets, as their types say
abbrev pub InOctets : Message → Type 0
InOctets (Request q) = (q.size < 256) × (q.invoke < 256) × (q.choice < 256) × (q.accepts < 256)
InOctets (ComplexAck q) = (q.invoke < 256) × (q.choice < 256)

-- what is given are octets, and each frame is of type 5 or 6
pub record Given (m : Message) (params : List ℕ) (kind : ℕ → ℕ) (to from : ℕ) : Type 0 where
  pub parameters : Octets params
  pub message : InOctets m
  pub type : (k : ℕ) → (kind k ≡ 5) ⊎ (kind k ≡ 6)
  pub destination : to < 256
  pub source : from < 256

-- ---- what is reported: "first APDU octet", "invoke ID" and "service choice" of a segment are those of traffic/Heard
module _ (m : Message) (w : Way) where
  -- the octets of every frame but the last: eight in front of its data, the NPDU, two behind it
  abbrev pub frame_length : ℕ
  frame_length = 8 + (header_size m + w.each) + 2

  -- the reports of the first n frames: kind 4 in slot 0, each at its frame's last octet, with what is held so far
  abbrev pub held_reports : (kind : ℕ → ℕ) (to from : ℕ) → ℕ → List (ℕ × List ℕ)
  held_reports kind to from zero = []
  held_reports kind to from (suc i) =
      held_reports kind to from i ++ (((i + 1) * frame_length - 1, kind4 (kind i ∷ to ∷ from ∷ []) (first_octet_of m true) (invoke_of m) (choice_of m) 0 ((i + 1) * w.each)) ∷ [])

-- The reports of a message in count frames of that many octets in all: kind 4 for each frame but the last and then, at the very last octet, kind 5 with slot 0 and the
-- total where the tags are good, else kind 6 with their number. The message area has the parameters from its first octet on, and is otherwise as it was.
pub record Delivered (m : Message) (w : Way) (params : List ℕ) (kind : ℕ → ℕ) (to from count octets : ℕ) (area : List ℕ) (reports : List (ℕ × List ℕ)) (area' : List ℕ) : Type 0 where
  pub good : (n : ℕ) → ReadAs params n
      → reports ≡ held_reports m w kind to from (count - 1)
      ++ ((octets - 1, kind5 (kind (count - 1) ∷ to ∷ from ∷ []) (first_octet_of m false) (invoke_of m) (choice_of m) 0 (length params)) ∷ [])
  pub bad_tags : (x : ℕ) → items_of params ≡ bad x
      → reports ≡ held_reports m w kind to from (count - 1) ++ ((octets - 1, kind6 (kind (count - 1) ∷ to ∷ from ∷ []) x) ∷ [])
  pub parameters : take (length params) area' ≡ params
  pub else : drop (length params) area' ≡ drop (length params) area

-- ---- however the frames' octets are offered to a fresh collector of the edition, cut anywhere; and then the slots are free, no frame is open, and the edition is the same
abbrev pub CutAndFed : Type 0
CutAndFed = (e : Edition) (m : Message) (w : Way) (params : List ℕ) (kind : ℕ → ℕ) (to from count : ℕ) (fed : List ℕ) → Given m params kind to from
    → CutAndFramed e m w params kind to from count fed → (area : List ℕ) → length area ≡ 65536 → (x : End) → Called 0 (fresh_collector e) area (octs fed) x
    → Delivered m w params kind to from count (length fed) area x.reports x.area
    × (x.slots ≡ slots_of (fresh_collector e)) × (x.state.0 ≡ e) × (x.state.1.link.phase ≡ Hunting)

-- every message that the cutter does not refuse can be cut and framed, by whatever types, and its frames offered, so the sentence is not empty
abbrev pub CanBeCutAndFed : Type 0
CanBeCutAndFed = (e : Edition) (m : Message) (w : Way) (params : List ℕ) (kind : ℕ → ℕ) (to from : ℕ) → NoRow (cut_rows e m w params)
    → (count : ℕ) × (fed : List ℕ) × CutAndFramed e m w params kind to from count fed
    × ((area : List ℕ) → length area ≡ 65536 → (x : End) × Called 0 (fresh_collector e) area (octs fed) x)

-- ---- the same of hb_fresh, hb_cut and hb_frame_write, through hb_feed and hb_replay (Linked)
-- each framed by hb_frame_write, which answered 0
pub data FramedOver (kind : ℕ → ℕ) (to from : ℕ) : (k : ℕ) → List (List ℕ) → List ℕ → Type 0 where
  none : {k : ℕ} → FramedOver kind to from k [] []
  next : {k : ℕ} (d area : List ℕ) (wrote : ℕ) (later : List ℕ) {ds : List (List ℕ)} {fed : List ℕ}
      → Writes (FrameFault.fault_of d) (frame_octets (kind k) to from d) area 0 wrote later → FramedOver kind to from (k + 1) ds fed
      → FramedOver kind to from k (d ∷ ds) (take wrote later ++ fed)

-- cut by hb_cut, which answered 0
pub record CutOver (later : ℕ) (fields : List ℕ) (reply priority each : ℕ) (m : Message) (params : List ℕ) (kind : ℕ → ℕ) (to from count : ℕ) (fed : List ℕ) : Type 0 where
  pub area : List ℕ
  pub after : List ℕ
  pub wrote : ℕ
  pub cut : Exported.Cuts (edition_of later) fields (Exported.way_at fields reply priority each) params area 0 wrote count after
  pub framed : FramedOver kind to from 0 (npdus_in (header_size m + each) count (take wrote after)) fed

-- the state that a state area holds at the end: free slots, no frame open, the edition
pub record Rested (e : Edition) (state : List ℕ) : Type 0 where
  pub held : Collector
  pub loads : Loads state held
  pub slots : slots_of held ≡ slots_of (fresh_collector e)
  pub edition : held.edition ≡ e
  pub hunting : held.receiver.link.phase ≡ Hunting

-- from the state area that hb_fresh made
abbrev pub CutAndFedOverOctets : Type 0
CutAndFedOverOctets = (later : ℕ) (fields : List ℕ) (reply priority each window : ℕ) (m : Message) (params : List ℕ) (kind : ℕ → ℕ) (to from count : ℕ) (fed : List ℕ)
    → RecordIs fields window m → Given m params kind to from → CutOver later fields reply priority each m params kind to from count fed
    → (lent state : List ℕ) → Saves (fresh_collector (edition_of later)) lent 0 state
    → (area : List ℕ) → length area ≡ 65536 → (x : Heard) → Linked 0 state area (octs fed) x
    → Delivered m (way_in reply priority each window) params kind to from count (length fed) area x.reports x.area × Rested (edition_of later) x.state

-- every record and parameters that hb_cut does not refuse can be cut and framed by these calls, and the frames offered
abbrev pub CanBeCutOver : Type 0
CanBeCutOver = (later : ℕ) (fields : List ℕ) (reply priority each window : ℕ) (m : Message) (params : List ℕ) (kind : ℕ → ℕ) (to from : ℕ) → RecordIs fields window m
    → NoRow (cut_call_rows (edition_of later) fields priority each params)
    → (count : ℕ) × (fed : List ℕ) × CutOver later fields reply priority each m params kind to from count fed
    × ((lent state : List ℕ) → Saves (fresh_collector (edition_of later)) lent 0 state → (area : List ℕ) → length area ≡ 65536 → (x : Heard) × Linked 0 state area (octs fed) x)
