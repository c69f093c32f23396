-- hb_frame_write and hb_cut as their users read them: each number exactly when, what a refusal leaves, and what is done otherwise, by the statements of the calls
-- below. Each statement is proved in proofs/ExportedWriting, under its name in small letters.
use Rattle.std.specs.Prelude.{ℕ, ◌*◌, ◌≤◌, ◌<◌, ◌≡◌, ◌↔◌, ◌⊎◌, List, [], ◌∷◌, ltb, length, Ok}
use Rattle.octets.specs.Reading.{oct}
use Rattle.apdu.specs.Editions.{most}
use Rattle.apdu.specs.declared.Edition.{Edition}
use Rattle.frames.specs.Layout.{frame_octets}
use Rattle.frame_writer.specs.Fault as FrameFault
use Rattle.frame_writer.specs.Calls as FrameWriter
use Rattle.cutter.specs.Calls as Cutter
use Rattle.cutter.specs.declared.Message.{Message}
use Rattle.cutter.specs.declared.Message.TheVariants.{Request, ComplexAck}
use Rattle.cutter.specs.declared.Way.{Way}
use Rattle.messages.specs.Table.{Table, First, NoRow}
use Rattle.messages.specs.Table.Table.{end, row}
use Rattle.hitchbarley.specs.Answers.{Writes}
use Rattle.hitchbarley.specs.Writers as Exported
use Rattle.demands.specs.FrameWriting.{frame_size}
use Rattle.demands.specs.Cutting.{OutOfRange, ResultHas}

-- ---- hb_frame_write: 64 exactly for more than 501 data octets, 61 exactly for an area shorter than the frame, else 0. With a refusal `wrote` is 0 and the area as it
-- was; else the frame was written, as the call below promises, and nothing past it
pub record FrameWrite (kind to from : ℕ) (d area : List ℕ) (r wrote : ℕ) (later : List ℕ) : Type 0 where
  pub range : (r ≡ 64) ↔ (501 < length d)
  pub short : (r ≡ 61) ↔ ((length d ≤ 501) × (length area < frame_size d))
  pub fine : (r ≡ 0) ↔ ((length d ≤ 501) × (frame_size d ≤ length area))
  pub only : (r ≡ 0) ⊎ ((r ≡ 64) ⊎ (r ≡ 61))
  pub refused : (r ≡ 0 → ⊥) → (wrote ≡ 0) × (later ≡ area)
  pub done : r ≡ 0 → FrameWriter.Writes kind to from d area (Ok wrote) later

abbrev pub ExportedFrameWrite : Type 0
ExportedFrameWrite = (kind to from : ℕ) (d area : List ℕ) (r wrote : ℕ) (later : List ℕ) → Writes (FrameFault.fault_of d) (frame_octets kind to from d) area r wrote later
    → FrameWrite kind to from d area r wrote later

-- ---- hb_cut. The message of a record of 13 octets, as its layout has it: type 0 or 3; of a confirmed request SA, size code, invoke ID, service choice and the code of
-- segments accepted, of a complex ack invoke ID and service choice. All else but the window, SEG, MOR and number among it, is not looked at
pub data RecordIs : List ℕ → (window : ℕ) → Message → Type 0 where
  request : (seg mor sa nak srv size invoke number window choice reason accepts : ℕ)
      → RecordIs (0 ∷ seg ∷ mor ∷ sa ∷ nak ∷ srv ∷ size ∷ invoke ∷ number ∷ window ∷ choice ∷ reason ∷ accepts ∷ []) window
      (Request (record { sa = ltb 0 sa; size = size; invoke = invoke; choice = choice; accepts = accepts }))
  complex_ack : (seg mor sa nak srv size invoke number window choice reason accepts : ℕ)
      → RecordIs (3 ∷ seg ∷ mor ∷ sa ∷ nak ∷ srv ∷ size ∷ invoke ∷ number ∷ window ∷ choice ∷ reason ∷ accepts ∷ []) window
      (ComplexAck (record { invoke = invoke; choice = choice }))

-- how it is cut: any number but 0 is a reply expected; the window stands at its place of the record
abbrev pub way_in : (reply priority each window : ℕ) → Way
way_in reply priority each window = record { reply = ltb 0 reply; priority = priority; window = window; each = each }

-- its numbers in their order: 60 for a record of another size before all else; 21 for a type other than 0 and 3 where the header's first octet is judged, behind the
-- network header's 12 and before 22. The record has the type at 0, the size code at 6, the window at 9 and the code of segments accepted at 12
abbrev pub cut_call_rows : Edition → (fields : List ℕ) → (priority each : ℕ) → (params : List ℕ) → Table
cut_call_rows e fields priority each params =
    row 60 (length fields ≡ 13 → ⊥) (row 39 (16384 < length params) (row 64 (OutOfRange each (oct fields 9)) (row 12 (3 < priority)
    (row 21 ((oct fields 0 ≡ 0 → ⊥) × (oct fields 0 ≡ 3 → ⊥))
    (row 22 ((oct fields 0 ≡ 0) × (most e < oct fields 12)) (row 23 ((oct fields 0 ≡ 0) × (5 < oct fields 6)) (row 63 (256 * each < length params) end)))))))

-- a refusal is the first row's number, or 61 for an area shorter than the result; with it `wrote` and `segments` are 0 and the area as it was. Else the
-- record's message was cut, as the call below promises
pub record CutCall (e : Edition) (fields : List ℕ) (reply priority each : ℕ) (params area : List ℕ) (r wrote segments : ℕ) (later : List ℕ) : Type 0 where
  pub numbers : (n : ℕ) → (n ≡ 0 → ⊥)
      → (r ≡ n) ↔ (First (cut_call_rows e fields priority each params) n
      ⊎ (NoRow (cut_call_rows e fields priority each params) × (n ≡ 61)
      × ((m : Message) × (size : ℕ) × RecordIs fields (oct fields 9) m × ResultHas m (way_in reply priority each (oct fields 9)) params size × (length area < size))))
  pub refused : (r ≡ 0 → ⊥) → (wrote ≡ 0) × (segments ≡ 0) × (later ≡ area)
  pub done : r ≡ 0
      → (m : Message) × RecordIs fields (oct fields 9) m
      × Cutter.Cuts e m (way_in reply priority each (oct fields 9)) params area (record { answer = Ok wrote; segments = segments }) later

abbrev pub ExportedCut : Type 0
ExportedCut = (e : Edition) (fields : List ℕ) (reply priority each : ℕ) (params area : List ℕ) (r wrote segments : ℕ) (later : List ℕ)
    → Exported.Cuts e fields (Exported.way_at fields reply priority each) params area r wrote segments later
    → CutCall e fields reply priority each params area r wrote segments later
