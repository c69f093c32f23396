-- Whatever is not refused can be cut, framed and offered: by the exported calls, and by those below them.
use Prim.Native.Nat.{ℕ, zero, suc, ◌+◌}
use native.Mathlib.Omega.{arith}
use mathlib.Core.Path.{◌≡◌, refl, ap}
use mathlib.Core.List.{List, [], ◌++◌}
use lib.ListN.{length, take}
use lib.Seq.{take_all}
use Rattle.std.specs.Prelude.{Ok}
use Rattle.octets.specs.Splice.{splice, splice_whole}
use Rattle.octets.specs.Laid.{Laid, laid_over}
use Rattle.octets.specs.Laid.{Written}
use Rattle.runs.specs.Run.{octs}
use Rattle.apdu.specs.declared.Edition.{Edition}
use Rattle.frames.specs.Layout.{frame_octets}
use Rattle.frame_writer.specs.Fault as FrameFault
use Rattle.frame_writer.proofs.Frames.{no_fault}
use Rattle.cutter.specs.Layout.{segments_of, npdu_at, octets_of}
use Rattle.cutter.specs.Fault.{fault_of}
use Rattle.cutter.specs.Calls.{count_in}
use Rattle.cutter.specs.declared.Message.{Message}
use Rattle.cutter.specs.declared.Way.{Way}
use Rattle.cutter.proofs.Fine.{Fine, fine}
use Rattle.collector.specs.Calls.{fresh_collector}
use Rattle.traffic.specs.Framed.{npdus_from}
use Rattle.state.specs.Edition.{edition_of}
use Rattle.hitchbarley.specs.Answers.{Writes}
use Rattle.hitchbarley.specs.Writers as Exported
use Rattle.hitchbarley.proofs.Answered.{writes}
use Rattle.demands.specs.Cutting.{cut_rows}
use Rattle.demands.specs.ExportedWriting.{way_in, cut_call_rows}
use Rattle.demands.specs.CutAndFed.{FramedOver, CanBeCutAndFed, CanBeCutOver}
use Rattle.demands.specs.CutAndFed.FramedOver.{none, next}
use Rattle.demands.proofs.Three.{fresh_passes, can_be_offered}
use Rattle.demands.proofs.Completed.{can_be_linked}
use Rattle.demands.proofs.Exported.{exported_fresh}
use Rattle.demands.proofs.Rowed.{judged_clear}
use Rattle.demands.proofs.CutRows.{cut_judged}
use Rattle.demands.proofs.Cutting.{frame_fits, in_result, written}
use Rattle.demands.proofs.ExportedWriting.{cut_call_judged}
use Rattle.demands.proofs.CutOverOctets.{framed_below, cut_by}

-- a writer without a fault, in an area that is as long as its result
laid_all : (f : ℕ) (o : List ℕ) → f ≡ 0 → Laid f o o (Ok (length o)) (splice o 0 o)
laid_all f o z = laid_over f (length o) o o (splice o 0 o) z refl (omega arith) refl

wrote_all : (f : ℕ) (o : List ℕ) → f ≡ 0 → Writes f o o 0 (length o) (splice o 0 o)
wrote_all f o z = writes (laid_all f o z) (refl, refl)

-- every NPDU fits in a frame
framed_all : (e : Edition) (m : Message) (w : Way) (params : List ℕ) → Fine e m w (length params) → (kind : ℕ → ℕ) (to from n k : ℕ)
    → (fed : List ℕ) × FramedOver kind to from k (npdus_from m w (segments_of w.each (length params)) params k n) fed
framed_all e m w params ok kind to from zero k = ([], none)
framed_all e m w params ok kind to from (suc n) k =
    let d = npdu_at m w (segments_of w.each (length params)) params k in
    let o = frame_octets (kind k) to from d in
    let rest = framed_all e m w params ok kind to from n (k + 1) in
    (take (length o) (splice o 0 o) ++ rest.0, next d o (length o) (splice o 0 o) (wrote_all (FrameFault.fault_of d) o (no_fault d (frame_fits e m w params ok k))) rest.1)

pub can_be_cut_and_fed : CanBeCutAndFed
can_be_cut_and_fed e m w params kind to from clear =
    let zero-fault = judged_clear (cut_rows e m w params) (fault_of e m w (length params)) (cut_judged e w m params) clear in
    let ok = fine e m w (length params) zero-fault in
    let o = octets_of m w params in
    let n = segments_of w.each (length params) in
    let all = framed_all e m w params ok kind to from n 0 in
    let octets : take (length o) (splice o 0 o) ≡ o = rw (splice_whole o o refl) (take_all (length o) o (omega arith)) in (
      n,
      all.0,
      record {
        area = o;
        later = splice o 0 o;
        answer = record { answer = Ok (length o); segments = n };
        cut = record { laid = laid_all (fault_of e m w (length params)) o zero-fault; segments = refl };
        wrote = length o;
        written = refl;
        segments = refl;
        framed = rw (octets, in_result e m w params ok) (framed_below all.1);
      },
      λ area sized. can_be_offered (fresh_collector e) area (fresh_passes e) sized (octs all.0),
    )

pub can_be_cut_over : CanBeCutOver
can_be_cut_over later fields reply priority each window m params kind to from is clear =
    let e = edition_of later in
    let w = way_in reply priority each window in
    let v = Exported.way_at fields reply priority each in
    let f = Exported.cut_fault e fields v (length params) in
    let o = octets_of (Exported.message_at fields) v params in
    let n = segments_of each (length params) in
    let zero-fault : f ≡ 0 = judged_clear (cut_call_rows e fields priority each params) f (cut_call_judged e fields reply priority each params) clear in
    let cut : Exported.Cuts e fields v params o 0 (length o) n (splice o 0 o) =
    record { written = wrote_all f o zero-fault; count = ap (λ (x : Written). count_in x n) (laid_all f o zero-fault).answer } in
    let y = written (cut_by later fields reply priority each window m params is cut) (length o) refl in
    let all = framed_all e m w params y.ok kind to from n 0 in (
      n,
      all.0,
      record { area = o; after = splice o 0 o; wrote = length o; cut = cut; framed = rw (y.octets, in_result e m w params y.ok) all.1 },
      λ lent state saves area sized. can_be_linked state (fresh_collector e) area ((exported_fresh lent later 0 state saves).3 refl).1 (fresh_passes e) sized (octs all.0),
    )
