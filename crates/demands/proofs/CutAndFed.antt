-- What is cut and framed, fed to a fresh collector however its octets are offered, is reported whole.
use Prim.Native.Nat.{ℕ, zero, suc, ◌+◌, ◌-◌, ◌*◌, ◌≤◌, ◌<◌}
use native.Mathlib.Omega.{arith}
use native.Mathlib.Nat.{mul-le-mul_right}
use mathlib.Core.Path.{◌≡◌, refl, sym, ap, ap₂, subst, ◌∙◌}
use mathlib.Core.Logic.{◌⊎◌, inl, inr}
use mathlib.Core.Bool.{true, false}
use mathlib.Core.List.{List, [], ◌∷◌, ◌++◌}
use lib.Dec.{eqb}
use lib.ListN.{length, take, drop}
use lib.Seq.{take_at, drop_at}
use borrow.Author.Tests.{eqb-true, eqb-false}
use Rattle.octets.specs.Choice.{by_test}
use Rattle.octets.specs.Reading.{Octets}
use Rattle.octets.specs.Splice.{splice_front}
use Rattle.runs.specs.Run.{octs}
use Rattle.apdu.specs.declared.Edition.{Edition}
use Rattle.frames.specs.Layout.{frame_octets}
use Rattle.frames.specs.Step.{fresh_of}
use Rattle.frames.specs.declared.Phase.TheVariants.{Hunting}
use Rattle.cutter.specs.Layout.{segments_of, npdu_at}
use Rattle.cutter.specs.declared.Message.{Message}
use Rattle.cutter.specs.declared.Way.{Way}
use Rattle.cutter.proofs.Counts.{segments_least}
use Rattle.cutter.specs.Fault.{fault_of}
use Rattle.cutter.proofs.Fine.{Fine}
use Rattle.messages.specs.Table.{NoRow}
use Rattle.items.specs.Reading.{items_of}
use Rattle.items.specs.Reading.Out.{bad}
use Rattle.items.specs.Listing.{ReadAs}
use Rattle.collector.specs.Calls.{slots_of, fresh_collector}
use Rattle.collector.specs.Offering.{BoxEnd}
use Rattle.collector.specs.Frame.{bacnet}
use Rattle.recordings.specs.Frames.{rules}
use Rattle.rebuild.specs.View.{keys}
use Rattle.trunk.specs.Demand.{reading}
use Rattle.traffic.specs.Framed.{frames_octets, typed, npdus_from}
use Rattle.traffic.specs.Heard.{invoke_of, choice_of, first_octet_of}
use Rattle.traffic.proofs.Frames.{Framable}
use Rattle.traffic.proofs.Fed.{held_at, last_at}
use Rattle.traffic.proofs.Places.{held_to, fed as whole}
use Rattle.demands.specs.Reported.{kind4, kind5, kind6}
use Rattle.demands.specs.FrameWriting.{frame_size}
use Rattle.demands.specs.Cutting.{cut_rows, header_size, npdus_in}
use Rattle.demands.specs.CutAndFed.{Framed, CutAndFramed, InOctets, Given, frame_length, held_reports, Delivered, CutAndFed}
use Rattle.demands.specs.CutAndFed.Framed.{none, next}
use Rattle.demands.proofs.Three.{read_by_position, fresh_passes}
use Rattle.demands.proofs.FrameReports.{report_laid}
use Rattle.demands.proofs.FrameWriting.{size_is, wrote_frame}
use Rattle.demands.proofs.Rowed.{clear_judged}
use Rattle.demands.proofs.CutRows.{cut_judged}
use Rattle.demands.proofs.CutOctets.{npdu_octets}
use Rattle.demands.proofs.Cutting.{even_size, frame_fits, in_result, written}

-- ---- what was framed: each frame is its layout
framed_is : {kind : ℕ → ℕ} {to from k : ℕ} {ds : List (List ℕ)} {fed : List ℕ} → Framed kind to from k ds fed → fed ≡ frames_octets to from (typed kind k ds)
framed_is none = refl
framed_is {kind} {to} {from} {k} (next d area n later w f) = ap₂ (λ (x y : List ℕ). x ++ y) (wrote_frame (kind k) to from d area n later w).1 (framed_is f)

-- ---- the segments that the parameters need
module _ (each n : ℕ) (least : 0 < each) where
  abbrev count : ℕ
  count = segments_of each n

  within : (k : ℕ) → k + 1 < count → (k + 1) * each ≤ n
  within k l =
      let s = segments_least each n least in
      let some : 0 < n = by_test (eqb n 0) (λ e. omega (arith, l, s.empty (eqb-true n 0 e))) (λ e. omega (arith, eqb-false n 0 e)) in
      omega (arith, s.needed some, mul-le-mul_right {m = k + 1} {n = count - 1} each (omega arith))

  lastly : (k : ℕ) → k + 1 ≡ count → (k * each ≤ n) × (n ≤ (k + 1) * each)
  lastly k c =
      let s = segments_least each n least in
      let z : count - 1 ≡ k = omega arith in (
        by_test (eqb n 0)
            (λ e. let o = s.empty (eqb-true n 0 e) in let k0 : k ≡ 0 = omega arith in rw k0 (omega arith))
            (λ e. omega (arith, rw z at (s.needed (omega (arith, eqb-false n 0 e))))),
        rw c s.holds,
      )

-- ---- the page's words for a report
module _ (e : Edition) (m : Message) (w : Way) (params : List ℕ) (n : ℕ) (kind : ℕ → ℕ) (to from : ℕ) (area : List ℕ) where
  abbrev h : ℕ → List ℕ
  h k = kind k ∷ to ∷ from ∷ []

  held_is : (k : ℕ) → held_at e m w params n kind to from area k ≡ kind4 (h k) (first_octet_of m true) (invoke_of m) (choice_of m) 0 ((k + 1) * w.each)
  held_is k = report_laid _

  held_are : (k : ℕ) → held_to e m w params n kind to from area (frame_length m w) k ≡ held_reports m w kind to from k
  held_are zero = refl
  held_are (suc k) = ap₂ (λ (x : List (ℕ × List ℕ)) (y : List ℕ). x ++ (((k + 1) * frame_length m w - 1, y) ∷ [])) (held_are k) (held_is k)

  good_is : (k i : ℕ) → ReadAs params i → last_at e m w params n kind to from area k ≡ kind5 (h k) (first_octet_of m false) (invoke_of m) (choice_of m) 0 (length params)
  good_is k i (rs, end, q, _) = rw q (report_laid _)

  bad_is : (k x : ℕ) → items_of params ≡ bad x → last_at e m w params n kind to from area k ≡ kind6 (h k) x
  bad_is k x q = rw q (report_laid _)

-- ---- the NPDUs can be framed
framable : (e : Edition) (m : Message) (w : Way) (params : List ℕ) → Fine e m w (length params) → NoRow (cut_rows e m w params) → InOctets m → Octets params
    → (kind : ℕ → ℕ) → ((k : ℕ) → kind k < 256) → (n k : ℕ) → k + n ≤ segments_of w.each (length params)
    → Framable (typed kind k (npdus_from m w (segments_of w.each (length params)) params k n))
framable e m w params ok clear os ps kind types zero k l = tt
framable e m w params ok clear os ps kind types (suc n) k l =
    let few = ok.bounded in (
      (types k, frame_fits e m w params ok k, npdu_octets e m w params (segments_of w.each (length params)) k clear os ps (omega arith)),
      framable e m w params ok clear os ps kind types n (k + 1) (omega arith),
    )

-- 5 and 6 are octets
an_octet : (kind : ℕ) → (kind ≡ 5) ⊎ (kind ≡ 6) → kind < 256
an_octet kind (inl e) = omega arith
an_octet kind (inr e) = omega arith

-- all but the last frame have one size
some_size : (d : List ℕ) → 0 < length d → frame_size d ≡ 8 + length d + 2
some_size [] l = absurd (omega arith)
some_size (x ∷ d) l = refl

even_frame : (e : Edition) (m : Message) (w : Way) (params : List ℕ) → Fine e m w (length params) → (kind to from k : ℕ) → k + 1 < segments_of w.each (length params)
    → length (frame_octets kind to from (npdu_at m w (segments_of w.each (length params)) params k)) ≡ frame_length m w
even_frame e m w params ok kind to from k l =
    let d = npdu_at m w (segments_of w.each (length params)) params k in
    let size : length d ≡ header_size m + w.each = even_size e m w params ok k l in
    size_is kind to from d ∙ some_size d (omega (arith, size, ok.range.some)) ∙ rw size

-- ---- the reading of what was cut and framed
module _ (e : Edition) (m : Message) (w : Way) (params : List ℕ) (kind : ℕ → ℕ) (to from count : ℕ) (fed : List ℕ) (g : Given m params kind to from)
    (c : CutAndFramed e m w params kind to from count fed) (area : List ℕ) (sized : length area ≡ 65536) where
  abbrev result : BoxEnd
  result = reading (rules keys (bacnet e)) fresh_of (slots_of (fresh_collector e)) area (octs fed)

  -- the reports, the slots, the phase and the area
  pub record Read (r : BoxEnd) : Type 0 where
    pub delivered : Delivered m w params kind to from count (length fed) area r.reports r.area
    pub slots : r.slots ≡ slots_of (fresh_collector e)
    pub hunting : r.state.link.phase ≡ Hunting

  pub read_whole : Read result
  read_whole =
      let y = written c.cut c.wrote c.written in
      let ok = y.ok in
      let n = segments_of w.each (length params) in
      let least : 0 < w.each = ok.range.some in
      let many : count ≡ n = sym c.segments ∙ y.count in
      let ds = npdus_from m w n params 0 n in
      let clear = clear_judged (cut_rows e m w params) (fault_of e m w (length params)) (cut_judged e w m params) ok.none in
      let found : npdus_in (header_size m + w.each) count (take c.wrote c.later) ≡ ds = rw (many, y.octets) (in_result e m w params ok) in
      let octets : fed ≡ frames_octets to from (typed kind 0 ds) = framed_is (subst (λ (z : List (List ℕ)). Framed kind to from 0 z fed) found c.framed) in
      let th = whole e m w params n kind to from area (frame_length m w) (λ k l. even_frame e m w params ok (kind k) to from k l) g.type g.destination g.source ok.range.network (ok.header false 0)
      sized ok.range.few (segments_least w.each (length params) least).some ok.bounded (within w.each (length params) least) (lastly w.each (length params) least)
      (framable e m w params ok clear g.message g.parameters kind (λ k. an_octet (kind k) (g.type k)) n 0 (omega arith)) in
      let all = ap (λ (z : List ℕ). reading (rules keys (bacnet e)) fresh_of (slots_of (fresh_collector e)) area (octs z)) octets ∙ th.1 in
      let told : (last : List ℕ) → last_at e m w params n kind to from area (n - 1) ≡ last → result.reports ≡ held_reports m w kind to from (count - 1) ++ ((length fed - 1, last) ∷ []) =
      λ last q. ap (λ (z : BoxEnd). z.reports) all ∙ rw (many, octets, held_are e m w params n kind to from area (n - 1), q) refl in
      let left : result.area ≡ params ++ drop (length params) area = ap (λ (z : BoxEnd). z.area) all ∙ splice_front area params in
      record {
        delivered = record {
          good = λ k r. told _ (good_is e m w params n kind to from area (n - 1) k r ∙ rw many refl);
          bad_tags = λ y r. told _ (bad_is e m w params n kind to from area (n - 1) y r ∙ rw many refl);
          parameters = rw left (take_at params (drop (length params) area) (length params) refl);
          else = rw left (drop_at params (drop (length params) area) (length params) refl);
        };
        slots = ap (λ (z : BoxEnd). z.slots) all;
        hunting = ap (λ (z : BoxEnd). z.state.link.phase) all;
      }

pub cut_and_fed : CutAndFed
cut_and_fed e m w params kind to from count fed g c area sized x o =
    let r = read_whole e m w params kind to from count fed g c area sized in
    rw (read_by_position (fresh_collector e) area (fresh_passes e) sized (octs fed) x o) (r.delivered, r.slots, refl, r.hunting)
