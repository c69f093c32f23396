-- What is reported of every frame, by the rules and by the calls.
use Prim.Native.Nat.{ℕ}
use mathlib.Core.Path.{◌≡◌, refl, sym, ◌∙◌}
use mathlib.Core.Bool.{Bool}
use mathlib.Core.List.{List}
use mathlib.Core.Option.{Option, none, some}
use Rattle.apdu.specs.declared.Edition.{Edition}
use Rattle.frames.specs.Step.{feed_of}
use Rattle.trunk.specs.Reading.{Out}
use Rattle.trunk.specs.Reading.Out.{good, damage}
use Rattle.trunk.specs.Demand.{out_of}
use Rattle.messages.specs.Slots.{Segment, Slot, boxed}
use Rattle.messages.specs.Rows.{rebuild}
use Rattle.rebuild.specs.View.{keys}
use Rattle.rebuild.specs.declared.Key.{Key}
use Rattle.recordings.specs.Frames.{act_on, rules}
use Rattle.reports.specs.Kinds.{damaged}
use Rattle.collector.specs.Frame.{segment_at, bacnet}
use Rattle.collector.specs.Calls.{slots_of}
use Rattle.collector.specs.declared.Collector.{Collector}
use Rattle.demands.specs.Words.{BySegment, ByOutcome}
use Rattle.demands.specs.Reported.{Reported, GoodFrameReported, DamageReported, FeedReports, SilenceReports}
use Rattle.demands.proofs.Changes.{feed_does, silence_does}
use Rattle.demands.proofs.FrameReports.{report_laid, frame_reports}
use Rattle.demands.proofs.SegmentReports.{carried_is, segment_is, segment_reported}

-- ---- every good frame, by the segment that it carries
module _ (edition : Edition) (h d : List ℕ) (s : List (Slot Key)) (area : List ℕ) where
  acted : {o : List ℕ} (y : Option (Segment Key)) → segment_at edition (good h d) ≡ y → (act_on keys (bacnet edition) y (good h d) s area).0 ≡ o → Reported edition h d s area o
  acted {o} none e q = Reported.plain ((frame_reports edition h d o).0 (e, q))
  acted {o} (some g) e q =
      let c = (segment_is edition h d g).0 e in
      let x = rebuild keys g (boxed s area) in
      Reported.segment c.0 g c.1 ((segment_reported edition h d c.0 g c.1 x.answer x.box.area o).0 q)

  acting : {y : Option (Segment Key)} {o : List ℕ} → segment_at edition (good h d) ≡ y → (act_on keys (bacnet edition) y (good h d) s area).0 ≡ o → ((rules keys (bacnet edition)).act (good h d) s area).0 ≡ o
  acting e q = rw e q

  reported_is : {o : List ℕ} → Reported edition h d s area o → ((rules keys (bacnet edition)).act (good h d) s area).0 ≡ o
  reported_is {o} (Reported.plain r) = let k = (frame_reports edition h d o).1 r in acting k.0 k.1
  reported_is {o} (Reported.segment a g c r) =
      let x = rebuild keys g (boxed s area) in acting (carried_is edition h d c) ((segment_reported edition h d a g c x.answer x.box.area o).1 r)

pub good_frame_reported : GoodFrameReported
good_frame_reported edition h d s area o = (λ q. acted edition h d s area (segment_at edition (good h d)) refl q, λ r. reported_is edition h d s area r)

pub damage_reported : DamageReported
damage_reported edition n s area = report_laid (damaged n)

-- ---- the call that ends a frame: what it leaves in the report area is what the rules say
module _ (c : Collector) (report area : List ℕ) (said : Bool) (report' : List ℕ) (slots : List (Slot Key)) (area' : List ℕ) where
  by_segment : (o : Out) (y : Option (Segment Key)) → BySegment c area o y report' slots area' → report' ≡ (act_on keys (bacnet c.edition) y o (slots_of c) area).0
  by_segment o none k = k.0
  by_segment o (some g) k = k.0

  by_outcome : (x : Option Out) (o : Out) → x ≡ some o → ByOutcome c report area x said report' slots area' → report' ≡ ((rules keys (bacnet c.edition)).act o (slots_of c) area).0
  by_outcome x o e k = let k : ByOutcome c report area (some o) said report' slots area' = rw e at k in by_segment o (segment_at c.edition o) k.2

pub feed_reports : FeedReports
feed_reports c piece report area r report' area' h z =
    let f = feed_of c.receiver piece in
    let k = (feed_does c piece report area r report' area' h z).rest in
    let told = by_outcome c report area r.reported report' (slots_of r.state) area' (out_of f.outcome f.receiver) in (
      λ head d e o. let q = told (good head d) e k in let w = good_frame_reported c.edition head d (slots_of c) area o in (λ p. w.0 (sym q ∙ p), λ p. q ∙ w.1 p),
      λ n e. told (damage n) e k ∙ damage_reported c.edition n (slots_of c) area,
    )

pub silence_reports : SilenceReports
silence_reports c report r report' h z n e = let k = silence_does c report r report' h z in (k.0 ∙ rw e, k.1 ∙ rw e (report_laid (damaged n)))
