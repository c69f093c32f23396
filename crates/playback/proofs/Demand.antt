-- Demand 3 of the replay: every way of replaying a run is a way of making the collector's calls for it, with the same end; and every run can be replayed.
use Prim.Native.Nat.{ℕ, ◌+◌}
use native.Mathlib.Omega.{arith}
use mathlib.Core.Path.{◌≡◌, refl, sym, ap, subst, ◌∙◌}
use mathlib.Core.List.{List, [], ◌∷◌, ◌++◌}
use mathlib.Core.Option.{Option, none, some}
use lib.Dec.{eqb}
use lib.ListN.{length}
use borrow.Author.Tests.{eqb-true, eq-eqb}
use Rattle.octets.specs.Choice.{by_test}
use Rattle.runs.specs.Run.{Run, Order, ends}
use Rattle.runs.specs.Run.Event.{octet, silence}
use Rattle.runs.specs.Run.Order.{trunk, forget}
use Rattle.runs.specs.Offered.{Offer, Made, Offered, places, answer, box_calls}
use Rattle.runs.specs.Offered.Offer.{over, call}
use Rattle.runs.proofs.Carrying.{carry}
use Rattle.apdu.specs.declared.Edition.{Edition}
use Rattle.trunk.specs.Reading.{held_of}
use Rattle.trunk.specs.Demand.{reading}
use Rattle.rebuild.specs.View.{keys}
use Rattle.rebuild.proofs.Seen.{view_unview}
use Rattle.recordings.specs.Frames.{rules}
use Rattle.collector.specs.Frame.{bacnet}
use Rattle.collector.specs.Calls.{box, written, slots_of, Answered, feed_refusal}
use Rattle.collector.specs.Offering.{Passes, BoxEnd, End, in_edition, WithArea, Called}
use Rattle.collector.specs.declared.Collector.{Collector}
use Rattle.collector.proofs.Alike.{Boxed, seen, SeenIn, told_said, state_of, blank, sixteen, called_by}
use Rattle.collector.proofs.Demand.{demand3}
use Rattle.playback.specs.Layout.{record_octets}
use Rattle.playback.specs.Valid.Behind.{less}
use Rattle.playback.specs.Reading.{Records, read_records}
use Rattle.playback.specs.Calls.{one, then_go, play, Course, course, by_front, course_of, play_refusal, playing, Ready}
use Rattle.playback.specs.Offering.{Replaying, replaying, Replayed}
use Rattle.playback.proofs.Records.{read_behind, front_behind}
use Rattle.playback.proofs.Readiness.{one_ready}
use Rattle.playback.proofs.Judging.{ready_by}
use Rattle.playback.proofs.Alike.{played_by, comes}
use Rattle.playback.proofs.Chains.{at_box, GoesBox, goes_none, play_goes}

abbrev pub ReadySeen : WithArea → Type 0
ReadySeen s = Ready s.0.receiver (slots_of s.0) s.1

-- a call that is not refused meets a state and areas that pass
pub ready_of : (c : Collector) (report area o : List ℕ) → play_refusal c report area o ≡ 0 → ReadySeen (c, area)
unfolding play_refusal feed_refusal
ready_of c report area o e =
    by_test (eqb (feed_refusal c report area) 0)
    (λ z. (ready_by c.receiver.link c.slots c.receiver.store report area (eqb-true (feed_refusal c report area) 0 z)).1)
    (λ z. (ready_by c.receiver.link c.slots c.receiver.store report area (rw z at e)).1)

-- ---- one call is calls of the box
module _ (s : WithArea) (lent : Run) (behind report : List ℕ) (h : (read_records (record_octets lent ++ behind)).front ≡ lent) where
  abbrev came : Course
  came = playing s.0 report s.1 (record_octets lent ++ behind)

  goes_course : GoesBox s.0.edition (seen s) lent came.left.eaten came.left.said (at_box came.left)
  unfolding playing course_of
  goes_course =
      let c = s.0 in
      let o = record_octets lent ++ behind in
      let n = play_refusal c report s.1 o in
      by_test (eqb n 0)
      (λ z.
      let R = ready_of c report s.1 o (eqb-true n 0 z) in
      let d = play c.edition c.receiver (slots_of c) s.1 in
      rw z (subst (λ (run : Run). GoesBox c.edition (seen s) lent (d run).eaten (d run).said (at_box (d run))) (sym h) (play_goes c.edition lent R)))
      (λ z. rw z (goes_none (Made (box_calls (box c.edition))) (seen s) lent))

pub step : (edition : Edition) (s t : WithArea) (u : Boxed) (lent : Run) (n : ℕ) (said : Option (List ℕ)) → SeenIn edition s u → Replaying s lent n said t
    → (v : Boxed) × GoesBox edition u lent n said v × SeenIn edition t v
step edition s t u lent n said a c =
    let w = came s lent c.behind c.report (front_behind lent c.behind c.ends) in
    let g = goes_course s lent c.behind c.report (front_behind lent c.behind c.ends) in
    let P = c.promise in
    let e : n ≡ w.left.eaten = c.ate ∙ P.eaten in
    let f : said ≡ w.left.said = rw (c.says, P.reported, P.report_after) (told_said w.left.said c.report) in
    let q : at_box w.left ≡ seen t = rw (c.leaves, P.receiver, P.slots, P.area_after) in
    (at_box w.left, rw (← a.0, a.1, e, f) g, (ap (λ (c : Collector). c.edition) c.leaves ∙ P.edition ∙ a.0, q))

-- ---- demand 3
pub replay_as_called : {p : ℕ} {c : Collector} {area : List ℕ} {run : Run} {e : End} → Replayed p c area run e → Called p c area run e
replay_as_called {p} {c} {area} {run} {e} o =
    let w = carry replaying (Made (box_calls (box c.edition))) (SeenIn c.edition) (step c.edition) {u = seen (c, area)} (refl, refl) o.1 in
    let x : BoxEnd = ends e.reports e.state.1 e.slots e.area in
    let offered : Offered (box c.edition) p c.receiver (slots_of c) area run x =
    subst (λ (y : Boxed). Offer (Made (box_calls (box c.edition))) p (seen (c, area)) run e.reports y) (rw (w.2.1, o.3, o.4)) w.1 in
    subst (λ (d : Edition). Called p c area run (in_edition d x)) (sym w.2.0 ∙ o.2) (called_by offered)

pub replay_by_position : (c : Collector) (area : List ℕ) → Passes c → length area ≡ 65536 → {run : Run} {e : End}
    → Replayed (length (held_of c.receiver)) c area run e → e ≡ in_edition c.edition (reading (rules keys (bacnet c.edition)) c.receiver (slots_of c) area run)
replay_by_position c area P z o = demand3 c area P z (replay_as_called o)

-- ---- every run can be replayed, a record a call
record_length : (y : Order) → length (record_octets (y ∷ []) ++ []) ≡ 4
record_length (trunk (octet x)) = refl
record_length (trunk silence) = refl
record_length (forget i) = refl

alone : (x : Option (List ℕ)) (d : Answered) → by_front (then_go x d (answer 0 none d.state d.slots d.area)) 0 ≡ course 0 (answer 1 x d.state d.slots d.area)
alone none d = refl
alone (some r) d = refl

module _ (s : WithArea) (R : ReadySeen s) (y : Order) where
  abbrev did : Answered
  did = one s.0.edition y s.0.receiver (slots_of s.0) s.1

  abbrev alone_left : Answered
  alone_left = answer 1 did.said did.state did.slots did.area

  abbrev after : WithArea
  after = (state_of s.0.edition alone_left, did.area)

  passed : play_refusal s.0 blank s.1 (record_octets (y ∷ []) ++ []) ≡ 0
  unfolding play_refusal feed_refusal
  passed = rw (eq-eqb (length blank) 16 sixteen, R.fits, R.receiver, R.slots, record_length y)

  goes_alone : playing s.0 blank s.1 (record_octets (y ∷ []) ++ []) ≡ course 0 alone_left
  unfolding playing course_of
  goes_alone =
      rw passed
      (ap (λ (w : Records). by_front (play s.0.edition s.0.receiver (slots_of s.0) s.1 w.front) w.stop) (read_behind (y ∷ []) []) ∙ alone did.said did)

  replays_one : Replaying s (y ∷ []) 1 did.said after
  replays_one =
      record {
        behind = [];
        report = blank;
        report' = written did.said blank;
        answer = played_by s.0.edition (course 0 alone_left);
        ends = less {o = []} (omega arith);
        sixteen = sixteen;
        promise = rw goes_alone (comes s.0.edition (course 0 alone_left) blank);
        ate = refl;
        says = sym (told_said did.said blank);
        leaves = refl;
      }

  ready_after : ReadySeen after
  ready_after = rw (view_unview did.slots) (one_ready s.0.edition R y)

some_way : (run : Run) (p : ℕ) (s : WithArea) → ReadySeen s → (rs : List (ℕ × List ℕ)) × (t : WithArea) × Offer replaying p s run rs t
some_way [] p s R = ([], s, over)
some_way (y ∷ run) p s R =
    let w = some_way run (p + places 1 (y ∷ [])) (after s R y) (ready_after s R y) in
    (_, w.1, call (y ∷ []) run (replays_one s R y) w.2)

pub can_be_replayed : (c : Collector) (area : List ℕ) → Passes c → length area ≡ 65536 → (run : Run) → (e : End) × Replayed (length (held_of c.receiver)) c area run e
can_be_replayed c area P z run =
    let w = some_way run (length (held_of c.receiver)) (c, area) (record { receiver = P.receiver.left; slots = P.slots; fits = eq-eqb (length area) 65536 z }) in
    (ends w.0 (w.1.0.edition, w.1.0.receiver) (slots_of w.1.0) w.1.1, (w.1.0, w.2, refl, refl, refl))
