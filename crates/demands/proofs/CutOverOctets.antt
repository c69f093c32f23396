-- The same over octets: hb_fresh, hb_cut and hb_frame_write, through hb_feed and hb_replay.
use Prim.Native.Nat.{ℕ}
use mathlib.Core.Path.{◌≡◌, refl, ap}
use mathlib.Core.List.{List}
use Rattle.std.specs.Prelude.{Ok}
use Rattle.octets.specs.Reading.{oct}
use Rattle.runs.specs.Run.{octs}
use Rattle.apdu.specs.declared.Edition.{Edition}
use Rattle.frames.specs.Layout.{frame_octets}
use Rattle.frame_writer.specs.Fault as FrameFault
use Rattle.cutter.specs.Calls as Cutter
use Rattle.cutter.specs.declared.Message.{Message}
use Rattle.cutter.specs.declared.Way.{Way}
use Rattle.messages.specs.Slots.{Slot}
use Rattle.rebuild.specs.View.{view, unview}
use Rattle.rebuild.specs.declared.Key.{Key}
use Rattle.collector.specs.Calls.{fresh_collector}
use Rattle.state.specs.Edition.{edition_of}
use Rattle.hitchbarley.specs.Writers as Exported
use Rattle.hitchbarley.proofs.Demand.{octets_demand3}
use Rattle.demands.specs.ExportedWriting.{RecordIs, way_in}
use Rattle.demands.specs.ExportedWriting.RecordIs.{request, complex_ack}
use Rattle.demands.specs.CutAndFed.{Framed, CutAndFramed, FramedOver, CutOver, CutAndFedOverOctets}
use Rattle.demands.specs.CutAndFed.Framed.{none, next}
use Rattle.demands.specs.CutAndFed.FramedOver.{none as none_over, next as next-over}
use Rattle.demands.proofs.Three.{fresh_passes}
use Rattle.demands.proofs.Exported.{exported_fresh, wrote_laid}
use Rattle.demands.proofs.ExportedWriting.{exported_cut, record_one}
use Rattle.demands.proofs.CutAndFed.{read_whole}

-- the window of a record
record_window : {fields : List ℕ} {window : ℕ} {m : Message} → RecordIs fields window m → oct fields 9 ≡ window
record_window (request seg mor sa nak srv size invoke number window choice reason accepts) = refl
record_window (complex_ack seg mor sa nak srv size invoke number window choice reason accepts) = refl

-- frames written by hb_frame_write are written by the frame writer
pub framed_below : {kind : ℕ → ℕ} {to from k : ℕ} {ds : List (List ℕ)} {fed : List ℕ} → FramedOver kind to from k ds fed → Framed kind to from k ds fed
framed_below none_over = none
framed_below {kind} {to} {from} {k} (next-over d area wrote later w f) =
    next d area wrote later (wrote_laid (FrameFault.fault_of d) (frame_octets (kind k) to from d) area wrote later w).1 (framed_below f)

module _ (later : ℕ) (fields : List ℕ) (reply priority each window : ℕ) (m : Message) (params : List ℕ) (is : RecordIs fields window m) where
  abbrev e : Edition
  e = edition_of later

  abbrev w : Way
  w = way_in reply priority each window

  -- what hb_cut cut, the cutter cut
  pub cut_by : {area after : List ℕ} {wrote count : ℕ} → Exported.Cuts e fields (Exported.way_at fields reply priority each) params area 0 wrote count after
      → Cutter.Cuts e m w params area (record { answer = Ok wrote; segments = count }) after
  cut_by {area} {after} {wrote} {count} c =
      let done = (exported_cut e fields reply priority each params area 0 wrote count after c).done refl in
      rw (← record_window is, record_one is, ← record_one done.1) done.2

  cut_below : {kind : ℕ → ℕ} {to from count : ℕ} {fed : List ℕ} → CutOver later fields reply priority each m params kind to from count fed → CutAndFramed e m w params kind to from count fed
  cut_below {count = count} c =
      record {
        area = c.area;
        later = c.after;
        answer = record { answer = Ok c.wrote; segments = count };
        cut = cut_by c.cut;
        wrote = c.wrote;
        written = refl;
        segments = refl;
        framed = framed_below c.framed;
      }

pub cut_and_fed_over_octets : CutAndFedOverOctets
cut_and_fed_over_octets later fields reply priority each window m params kind to from count fed is g c lent state saves area sized x o =
    let e = edition_of later in
    let below = cut_below later fields reply priority each window m params is c in
    let r = read_whole e m (way_in reply priority each window) params kind to from count fed g below area sized in
    let loads = ((exported_fresh lent later 0 state saves).3 refl).1 in
    let q = octets_demand3 state (fresh_collector e) area loads (fresh_passes e) sized (octs fed) x o in (
      rw (q.0, q.1) r.delivered,
      record { held = _; loads = q.2; slots = ap (λ (s : List (Slot Key)). view (unview s)) r.slots; edition = refl; hunting = r.hunting },
    )
