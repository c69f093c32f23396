-- The ways in which a function comes to do what a frame's content does.
use Prim.Native.Nat.{ℕ}
use mathlib.Core.Path.{◌≡◌, refl, sym, ap, subst, ◌∙◌}
use mathlib.Core.Bool.{Bool, true, false}
use mathlib.Core.List.{List}
use mathlib.Core.Option.{Option, none, some}
use native.Mathlib.Omega.{arith}
use lib.Dec.{T, eqb}
use lib.ListN.{length}
use borrow.Author.Tests.{eqb-false}
use Rattle.octets.specs.Choice.{given_true, given_false, by_test, impossible}
use Rattle.octets.specs.Reading.{oct}
use Rattle.apdu.specs.declared.Edition.{Edition}
use Rattle.trunk.specs.Reading.Out.{good as whole}
use Rattle.messages.specs.Slots as Messages
use Rattle.messages.specs.Slots.{boxed}
use Rattle.messages.specs.Rows as Rows
use Rattle.messages.specs.Sound.{passes}
use Rattle.rebuild.specs.View as View
use Rattle.rebuild.specs.View.{keys, view}
use Rattle.rebuild.specs.Calls.{Step, Taken, Gives, taking}
use Rattle.rebuild.specs.Calls.Step.{Refused, Held, Complete}
use Rattle.rebuild.specs.declared.Key.{Key}
use Rattle.rebuild.specs.declared.Slots.{Slots}
use Rattle.rebuild.specs.declared.Segment.{Segment}
use Rattle.rebuild.proofs.Giving.{gives_by, taking_on}
use Rattle.rebuild.proofs.Page.{take_sized, take_complete}
use Rattle.recordings.specs.Frames.{act_on, rules}
use Rattle.reports.specs.Layout.{report_octets}
use Rattle.reports.specs.Kinds.{other_frame}
use Rattle.reports.specs.declared.Report.{Report}
use Rattle.collector.specs.Heard.{frame_of, heard_of, Route}
use Rattle.collector.specs.Frame.{Content, segment_from, segment_in, plain_report, step_report, content_of, contents, bacnet}
use Rattle.collector.specs.Frame.Content.{other, message}
use Rattle.collector.specs.Acting.{acting, carrying, Acted, ActedAlone, Kept, Lent, Named, Seated, Takes}
use Rattle.collector.specs.declared.heard.Heard.{Heard}
use Rattle.collector.specs.declared.heard.Parts.{Parts}
use Rattle.collector.proofs.Content.{content_other}

-- the same content under another name
pub acted_as : (w : Heard) {x y : Content} (s : List (Messages.Slot Key)) {t : Slots} {report : List ℕ} (area : List ℕ) {area' : List ℕ} → x ≡ y → Acted (acting w y s area) t report area'
    → Acted (acting w x s area) t report area'
acted_as w s area e h = rw e h

-- the same frame under another name
pub acted_heard : {w : Heard} (v : Heard) (x : Content) (s : List (Messages.Slot Key)) {t : Slots} {report : List ℕ} (area : List ℕ) {area' : List ℕ} → w ≡ v → Acted (acting w x s area) t report area'
    → Acted (acting v x s area) t report area'
acted_heard v x s area e h = rw e at h

-- a content that carries no segment changes neither slots nor area
pub acted_plain : (w : Heard) (x : Content) (t : Slots) {report : List ℕ} (area : List ℕ) → segment_in w x ≡ none → report ≡ report_octets (plain_report w x)
    → Acted (acting w x (view t) area) t report area
unfolding acting
acted_plain w x t area e h = rw e (record { said = h; slots = refl; left = refl })

-- slots that may have moved can be any
pub moved_slots : {t u : Slots} → Kept true t u
moved_slots e = absurd (subst (λ (b : Bool). T b) e tt)

-- an APDU, segment or not
module _ (w : Heard) (v : Route) (m : Parts) (a : List ℕ) where
  pub no_segment : m.segment.seg ≡ false → segment_in w (message v m a) ≡ none
  no_segment e = given_false m.segment.seg (some (segment_from w v m a)) none e

  pub acts_segment : (s : List (Messages.Slot Key)) (area : List ℕ) → m.segment.seg ≡ true
      → acting w (message v m a) s area ≡ act_on keys (contents w) (some (segment_from w v m a)) (message v m a) s area
  unfolding acting
  acts_segment s area e =
      ap (λ (y : Option (Messages.Segment Key)). act_on keys (contents w) y (message v m a) s area) (given_true m.segment.seg (some (segment_from w v m a)) none e)

-- ---- a segment: what rebuilding gives, and a completed message lies in the area
module _ (t : Slots) (g : Segment) (o area : List ℕ) (z : length area ≡ 65536) {r : Taken} {later : List ℕ} (h : Gives (taking t g o area) r later) where
  named_by : passes keys 4 (view t) ≡ true → (w : Step) → r.answer ≡ w → Named w later
  named_by f (Refused n) e = tt
  named_by f (Held i n) e = tt
  named_by f (Complete i n) e =
      let b = take_complete t area f z g o h i n e in
      let l = take_sized t area f z g o h in
      omega arith

  pub segment_taken_lem : passes keys 4 (view t) ≡ true → (w : Heard) (v : Route) (m : Parts) (a : List ℕ) → View.segment_of g o ≡ segment_from w v m a → Takes w v m a t area r later
  segment_taken_lem f w v m a e =
      record {
        named = named_by f r.answer refl;
        gives = gives_by (sym (taking_on t g o area z ∙ ap (λ (x : Messages.Segment Key). Rows.rebuild keys x (boxed (view t) area)) e)) h;
      }

-- what a frame's function is lent is enough for rebuilding alone
pub lent_seated : {report : List ℕ} {t : Slots} {area : List ℕ} → Lent report t area → Seated t area
lent_seated l = record { fair = l.fair; sized = l.sized }

-- a segment taken, and its answer reported: all that the frame does
pub takes_acted : {w : Heard} {v : Route} {m : Parts} {a : List ℕ} {t : Slots} {area : List ℕ} {r : Taken} {later report : List ℕ} → m.segment.seg ≡ true → Takes w v m a t area r later
    → report ≡ report_octets (step_report w m r.answer later) → Acted (acting w (message v m a) (view t) area) r.slots report later
takes_acted {w} {v} {m} {a} {t} {area} is h q =
    let k = h.gives in
    rw (acts_segment w v m a (view t) area is) (record { said = q ∙ rw (k.answer, k.area); slots = k.slots; left = k.area })

-- ---- a good frame of another type than 5 and 6; by what the code asks, one that carries no network header
frame_other : (w : Heard) (payload : List ℕ) (t : Slots) (area : List ℕ) {report : List ℕ} → (w.frame.kind ≡ 5 → ⊥) → (w.frame.kind ≡ 6 → ⊥)
    → {r : Report} → r ≡ other_frame w.frame (length payload) → report ≡ report_octets r → Acted (acting w (content_of w payload) (view t) area) t report area
frame_other w payload t area n5 n6 q h = acted_as w (view t) area (content_other w payload n5 n6) (acted_plain w (other (length payload)) t area refl (h ∙ ap report_octets q))

pub frame_uncarried : (head payload : List ℕ) {report : List ℕ} → carrying (oct head 0) ≡ false → {r : Report} → r ≡ other_frame (frame_of head) (length payload) → report ≡ report_octets r
    → ActedAlone head payload report
frame_uncarried head payload k q h e t area =
    by_test (eqb (oct head 0) 5)
    (λ a. impossible (let z : true ≡ false = rw a at k in cc))
    (λ a. frame_other (heard_of e head) payload t area (eqb-false (oct head 0) 5 a) (eqb-false (oct head 0) 6 (rw a at k)) q h)

-- ---- the rules that demand 3 is stated over
pub acts_frame : (edition : Edition) (head payload : List ℕ) (s : List (Messages.Slot Key)) (area : List ℕ)
    → (rules keys (bacnet edition)).act (whole head payload) s area ≡ acting (heard_of edition head) (content_of (heard_of edition head) payload) s area
unfolding acting
acts_frame edition head payload s area = by_segment (segment_in (heard_of edition head) (content_of (heard_of edition head) payload))
  where
    by_segment : (y : Option (Messages.Segment Key)) → act_on keys (bacnet edition) y (whole head payload) s area ≡ act_on keys (contents (heard_of edition head)) y (content_of (heard_of edition head) payload) s area
    by_segment none = refl
    by_segment (some g) = refl
