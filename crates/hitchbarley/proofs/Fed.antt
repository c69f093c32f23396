-- How feeding where the octets stand comes to what it promises: what judging says of the state area, then one law for each outcome of the piece.
use Rattle.std.specs.Prelude.{Result, Ok, Err, Option, Some, None}
use Prim.Native.Nat.{ℕ, zero, suc, ◌+◌, ◌-◌, ◌≤◌}
use mathlib.Core.Path.{◌≡◌, refl, sym, ap, subst, ◌∙◌}
use mathlib.Core.Bool.{Bool, true, false, not}
use mathlib.Core.Logic.{inl, inr, ⊎_elim}
use mathlib.Core.List.{List, [], ◌∷◌}
use lib.Dec.{eqb}
use lib.ListN.{length, take, drop, length-drop}
use lib.Seq.{take-take, length-take-le, drop-drop}
use native.Mathlib.Omega.{arith}
use borrow.Author.Tests.{eqb-true}
use Rattle.octets.specs.Choice.{pick, both, both_true, both_left, pick_so, by_test, not_so}
use Rattle.octets.specs.Reading.{oct, Octets}
use Rattle.octets.specs.Refusal.{number_of, fault_of}
use Rattle.octets.specs.declared.refusal.Refusal.{Refusal}
use Rattle.octets.specs.declared.refusal.Refusal.TheVariants.{UnfitState}
use Rattle.apdu.specs.declared.Edition.{Edition}
use Rattle.frames.specs.declared.Outcome.TheVariants.{Quiet, Frame, Damage}
use Rattle.frames.specs.declared.Ran.{Ran}
use Rattle.frames.specs.Answers as Links
use Rattle.frames.specs.Step as Frames
use Rattle.frames.specs.Step.{length_of, sound_of, feed_of}
use Rattle.rebuild.specs.View.{view}
use Rattle.rebuild.specs.declared.Slots.{Slots}
use Rattle.rebuild.specs.Calls.{Taken}
use Rattle.reports.specs.Layout.{report_size, report_octets}
use Rattle.collector.specs.Heard.{heard_of}
use Rattle.collector.specs.Frame.{Content, content_of, step_report, damage_octets}
use Rattle.collector.specs.Frame.Content.{message}
use Rattle.collector.specs.Acting.{acting, carrying, Acted, ActedAlone, Carries, Seated, Segmented, Takes, Hears}
use Rattle.collector.specs.Calls.{passing, slots_of}
use Rattle.collector.specs.Lent.{over}
use Rattle.collector.specs.declared.Collector.{Collector}
use Rattle.collector.specs.declared.heard.Heard.{Heard}
use Rattle.collector.specs.declared.heard.Told.{Told}
use Rattle.collector.proofs.Actions.{lent_seated, takes_acted}
use Rattle.collector.proofs.Answers.{data_fits, payload_fits}
use Rattle.collector.proofs.Eaten.{eats_slots, eats_left, eats_quiet, eats_damage, eats_carried}
use Rattle.collector.proofs.Hearing.{heard_line, heard_inside, heard_alone}
use Rattle.state.specs.Link.{link_of}
use Rattle.state.specs.Edition.{edition_of}
use Rattle.state.specs.Layout.{state_size, link_part, store_part, edition_at}
use Rattle.state.specs.Calls.{state_good, state_at, load_of, lift_of, fair_of, judge_of, LaysSlots}
use Rattle.state.specs.Calls.{Lifted}
use Rattle.state.proofs.Exact.{lifts_good}
use Rattle.state.proofs.Places.{Holds, holds_at, receiver_over, slots_over}
use Rattle.feeding.specs.declared.Ate.{Ate}
use Rattle.feeding.specs.Stages.{Ready, EatsAt}
use Rattle.hitchbarley.specs.Feeding.{Judged, head_of, data_of, Framed, FrameActs, Heeded, SegmentActs}
use Rattle.hitchbarley.specs.Trunk.{Feeds}
use Rattle.hitchbarley.proofs.Passed.{refused_some, lifted_holds, feeds_not, feeds_on}

-- ---- what judging says of the octets that it passes
module _ (o : List ℕ) (e : judge_of o ≡ 0) where
  abbrev number : ℕ
  number = pick (fair_of o) 0 59

  sixty_not : (eqb (length o) state_size ≡ true) × (number ≡ 0)
  unfolding judge_of
  sixty_not = pick_so {A = ℕ} (eqb (length o) state_size) number 60 0 (λ z. omega arith) e

  pub judged_size : length o ≡ state_size
  judged_size = eqb-true (length o) state_size sixty_not.0

  pub judged : (state_good o ≡ true) × ((sound_of (state_at o).receiver ≡ true) × (passing (slots_of (state_at o)) ≡ true))
  unfolding fair_of
  judged =
      let t = (pick_so {A = ℕ} (fair_of o) 0 59 0 (λ z. omega arith) sixty_not.1).0 in
      let a = both_true (state_good o) (both (sound_of (state_at o).receiver) (passing (slots_of (state_at o)))) t in
      (a.0, both_true (sound_of (state_at o).receiver) (passing (slots_of (state_at o))) a.1)

  -- a piece can be eaten there
  pub judged_ready : Ready o
  unfolding state_good state_at
  judged_ready = record { long = judged_size; good = both_left _ _ judged.0; sound = judged.1.0 }

pub area_ready : (state report area : List ℕ) → Judged state report area → Ready state
area_ready state report area j = judged_ready state j.fair

-- ---- octets that are a state's, by their parts
module _ (state : List ℕ) (os : Octets state) (size : length state ≡ state_size) (good : state_good state ≡ true) where
  abbrev pub w : Lifted
  w = record { refused = 0; edition = edition_of (edition_at state); link = link_of (link_part state); slots = (state_at state).slots }

  pub lifted : w ≡ lift_of state
  lifted = lifts_good state size (state_good state) refl _ _ _ good refl refl refl

  pub held : Holds state (over w.edition w.link w.slots (store_part state))
  held = lifted_holds state os lifted refl

  -- a state that 59 does not pass: its slots, or its link
  module _ (report area piece : List ℕ) (k : length report ≡ report_size) (m : length area ≡ 65536) where
    abbrev Unfed : Type 0
    Unfed = Feeds state report area piece 59 0 0 state report area

    fed_slots_not : passing (view w.slots) ≡ false → Unfed
    fed_slots_not f =
        feeds_on state report area piece k m w lifted refl
        (eats_slots w.edition w.link w.slots (store_part state) report area piece k m refl (ap not f) refl) refl held

    fed_link_not : passing (view w.slots) ≡ true → sound_of (state_at state).receiver ≡ false → Unfed
    unfolding feed_of state_at
    fed_link_not t f =
        feeds_on state report area piece k m w lifted refl
        (eats_left w.edition w.link w.slots (store_part state) report area piece k m refl (ap not t) (store_part state) (Err UnfitState) (rw f refl) refl) refl held

    fed_unfair : fair_of state ≡ false → Unfed
    unfolding fair_of
    fed_unfair u =
        by_test (passing (view w.slots))
        (λ t. by_test (sound_of (state_at state).receiver) (λ s. let z : true ≡ false = rw (good, s, t) at u in absurd (not_so (sym z))) (fed_link_not t))
        fed_slots_not

-- ---- a state area that judging refuses, whatever the number
module _ (state report area piece : List ℕ) (os : Octets state) (k : length report ≡ report_size) (m : length area ≡ 65536) where
  barred_as : (n : ℕ) → (load_of state).refused ≡ n → (n ≡ 0 → ⊥) → Feeds state report area piece n 0 0 state report area
  unfolding lift_of
  barred_as n e h = subst (λ (x : ℕ). Feeds state report area piece x 0 0 state report area) e (feeds_not state report area piece k m (lift_of state) refl (λ z. h (sym e ∙ z)))

  pub fed_not : {n : ℕ} → n ≡ judge_of state → (n ≡ 0 → ⊥) → Feeds state report area piece n 0 0 state report area
  unfolding judge_of fair_of load_of
  fed_not {n} e h =
      by_test (eqb (length state) state_size)
      (λ t. by_test (state_good state)
      (λ g. by_test (fair_of state) (λ f. absurd (h (rw (t, f) at e)))
      (λ f. let z : n ≡ 59 = rw (t, f) at e in rw z (fed_unfair state os (eqb-true (length state) state_size t) g report area piece k m f)))
      (λ g. let z : n ≡ 59 = rw (t, g) at e in rw z (barred_as 59 (rw (t, g)) (λ y. omega arith))))
      (λ t. let z : n ≡ 60 = rw t at e in rw z (barred_as 60 (rw t) (λ y. omega arith)))

  -- the code's judgement
  pub fed_refused : {A : Type 0} {x : Result A Refusal} {r : Refusal} {n : ℕ} → fault_of x ≡ judge_of state → x ≡ Err r → n ≡ number_of r → Feeds state report area piece n 0 0 state report area
  fed_refused {r = r} j q z = fed_not (z ∙ rw q at j) (refused_some r z)

-- ---- a judged state area
module _ (state report area piece : List ℕ) (os : Octets state) (j : Judged state report area) where
  size : length state ≡ state_size
  size = judged_size state j.fair

  good : state_good state ≡ true
  good = (judged state j.fair).0

  abbrev w' : Lifted
  w' = w state os size good

  passed : passing (view w'.slots) ≡ true
  passed = (judged state j.fair).1.1

  fair : not (passing (view w'.slots)) ≡ false
  fair = ap not passed

  -- the piece eaten there: the link's own answer
  module _ {r : Ate} {o : List ℕ} (y : EatsAt state piece r o) (os' : Octets o) where
    abbrev f : Ran
    f = record { eaten = r.eaten; outcome = r.outcome; link = link_of (link_part o) }

    answered : Links.fed_over w'.link (Ok f) (store_part o) ≡ feed_of (Frames.over w'.link (store_part state)) piece
    answered = y.fed

    held' : Holds o (over w'.edition f.link w'.slots (store_part o))
    held' = receiver_over (held state os size good) os' y.leaves.ready.long y.leaves.ready.good y.leaves.behind

    same_slots : (state_at o).slots ≡ w'.slots
    same_slots = ap (λ (c : Collector). c.slots) (holds_at held').0

    same_edition : edition_of (edition_at o) ≡ w'.edition
    unfolding state_at
    same_edition = ap (λ (c : Collector). c.edition) (holds_at held').0

    pub fed_quiet : r.outcome ≡ Quiet → Feeds state report area piece 0 r.eaten 0 o report area
    fed_quiet q =
        feeds_on state report area piece j.line j.sized w' (lifted state os size good) refl
        (eats_quiet w'.edition w'.link w'.slots (store_part state) report area piece j.line j.sized refl fair (store_part o) (Ok f) answered refl q) refl held'

    pub fed_damage : {d : ℕ} {report' : List ℕ} → r.outcome ≡ Damage d → report' ≡ damage_octets d → Feeds state report area piece 0 r.eaten 1 o report' area
    fed_damage q h =
        feeds_on state report area piece j.line j.sized w' (lifted state os size good) refl
        (eats_damage w'.edition w'.link w'.slots (store_part state) report area piece j.line j.sized refl fair (store_part o) (Ok f) answered refl q h) refl held'

    -- a good frame stands there
    pub framed : r.outcome ≡ Frame → Framed o report area
    framed q =
        record {
          long = y.leaves.ready.long;
          fits = data_fits (Frames.over w'.link (store_part state)) piece answered q refl;
          lent = record { line = j.line; fair = rw same_slots passed; sized = j.sized };
        }

    pub fed_frame : r.outcome ≡ Frame → {o' report' area' : List ℕ} → FrameActs o area o' report' area' → Feeds state report area piece 0 r.eaten 1 o' report' area'
    fed_frame q {o'} {report'} {area'} x =
        let a = rw (same_edition, same_slots) at x.acted in
        feeds_on state report area piece j.line j.sized w' (lifted state os size good) refl
        (eats_carried w'.edition w'.link w'.slots (store_part state) report area piece j.line j.sized refl fair (store_part o) (Ok f) answered refl x.slots q refl a) refl
        (⊎_elim (λ s. left_as s) (λ s. slots_over held' s.1) x.after)
      where
        left_as : (x.slots ≡ (state_at o).slots) × (o' ≡ o) → Holds o' (over w'.edition f.link x.slots (store_part o))
        left_as s = rw (s.1, s.0, same_slots) held'

-- what follows a place of a part
drop_take : (k n : ℕ) (l : List ℕ) → drop k (take (k + n) l) ≡ take n (drop k l)
drop_take zero n l = let z : 0 + n ≡ n = omega arith in ap (λ (k : ℕ). take k l) z
drop_take (suc k) n [] = let z : suc k + n ≡ suc (k + n) = omega arith in rw z (nothing n)
  where
    nothing : (n : ℕ) → drop (suc k) (take {A = ℕ} (suc (k + n)) []) ≡ take n (drop {A = ℕ} (suc k) [])
    nothing zero = refl
    nothing (suc n) = refl
drop_take (suc k) n (x ∷ l) = let z : suc k + n ≡ suc (k + n) = omega arith in rw z (drop_take k n l)

-- ---- a good frame that stands in a state area: h its head, m the length of its data
module _ (o report area : List ℕ) (p : Framed o report area) {h : List ℕ} {m : ℕ} (e : h ≡ head_of o) (q : m ≡ length_of h) where
  short : m ≤ 501
  short = rw (q, e) p.fits

  pub frame_inside : 9 + m ≤ length o
  frame_inside = let n = p.long in let s = short in omega arith

  -- its data, as they are cut out of the area
  abbrev cut_out : List ℕ
  cut_out = take (9 + m - 9) (drop 9 o)

  cut : cut_out ≡ take (length_of (head_of o)) (store_part o)
  cut =
      let n : 9 + m - 9 ≡ m = omega arith in
      let k : m ≡ length_of (head_of o) = q ∙ ap length_of e in
      rw (n, ← k) (sym (take-take m 501 (drop 9 o) short))

  cut_long : length cut_out ≡ m
  cut_long =
      let n = p.long in
      let s = short in
      length-take-le (9 + m - 9) (drop 9 o) (rw length-drop (omega arith)) ∙ omega arith

  data_short : length cut_out ≤ 501
  data_short = payload_fits (9 + m - 9) (drop 9 o) (let s = short in omega arith)

  pub frame_carries : {b c : Bool} → b ≡ carrying (oct h 0) → b ≡ c → Carries c h cut_out
  frame_carries d t = record { carries = sym d ∙ t; short = data_short }

  -- of type 5 or 6, and heard: u is what it told
  module _ {x : Edition} (d : x ≡ edition_of (edition_at o)) {u : Option Told} {report' : List ℕ} (y : Hears (heard_of x h) cut_out report u report') where
    -- it is no segment: the slots are those that were there
    pub told_whole : u ≡ None → FrameActs o area o report' area
    told_whole s =
        record { slots = (state_at o).slots; acted = rw (d, e, cut) at (heard_alone (heard_of x h) cut_out report y s (state_at o).slots area); after = inl (refl, refl) }

    -- it is a segment, which is heeded
    module _ {t : Told} (s : u ≡ Some t) where
      pub told_part : Heeded o report' area t
      told_part =
          let i = heard_inside (heard_of x h) cut_out report y s in
          let n = cut_long in
          let k : m ≡ length_of (head_of o) = q ∙ ap length_of e in
          record {
            framed = record { long = p.long; fits = p.fits; lent = record { line = heard_line (heard_of x h) cut_out report y s p.lent.line; fair = p.lent.fair; sized = p.lent.sized } };
            inside = omega arith;
            segmented = rw cut at (y.part t s).segmented;
          }

      pub told_acts : {o' report'' area' : List ℕ} → SegmentActs o area t o' report'' area' → FrameActs o area o' report'' area'
      told_acts {o'} {report''} {area'} a =
          let c : content_of (heard_of (edition_of (edition_at o)) (head_of o)) (data_of o) ≡ message t.route t.parts (drop t.at (data_of o)) = rw (d, e, cut) at (y.part t s).content in
          record {
            slots = a.slots;
            acted = subst (λ (z : Content). Acted (acting (heard_of (edition_of (edition_at o)) (head_of o)) z (view (state_at o).slots) area) a.slots report'' area') (sym c) a.acted;
            after = inr (a.number, a.laid);
          }

  -- of another type: they are those that were there
  pub frame_alone : {report' : List ℕ} → ActedAlone h cut_out report' → FrameActs o area o report' area
  frame_alone a = record { slots = (state_at o).slots; acted = rw (e, cut) at (a (edition_of (edition_at o)) (state_at o).slots area); after = inl (refl, refl) }

-- ---- a segment that was heard there
module _ (o report area : List ℕ) {t : Told} (p : Heeded o report area t) {h : List ℕ} {m : ℕ} (e : h ≡ head_of o) (q : m ≡ length_of h) where
  pub part_inside : 9 + t.at ≤ 9 + m
  part_inside = let i = p.inside in let k : m ≡ length_of (head_of o) = q ∙ ap length_of e in omega arith

  pub part_end : 9 + m ≤ length o
  part_end = frame_inside o report area p.framed e q

  -- its APDU, as it is cut out of the area
  abbrev rest : List ℕ
  rest = take (9 + m - (9 + t.at)) (drop (9 + t.at) o)

  same_rest : drop t.at (data_of o) ≡ rest
  same_rest =
      let i = part_inside in
      let n = 9 + m - (9 + t.at) in
      let k : m ≡ t.at + n = omega arith in
      sym (ap (drop t.at) (cut o report area p.framed e q))
      ∙ (let z : 9 + m - 9 ≡ t.at + n = omega arith in ap (λ (j : ℕ). drop t.at (take j (drop 9 o))) z)
      ∙ drop_take t.at n (drop 9 o) ∙ ap (take n) (drop-drop t.at 9 o)

  pub part_segmented : Segmented t.parts rest
  part_segmented = subst (Segmented t.parts) same_rest p.segmented

  pub part_seated : {u : Slots} → u ≡ (state_at o).slots → Seated u area
  part_seated f = rw f (lent_seated p.framed.lent)

  -- w is what the frame hands down, and k what rebuilding gave
  pub part_acts : {x : Edition} {w : Heard} {u : Slots} {k : Taken} {r : ℕ} {o' report' area' : List ℕ} → x ≡ edition_of (edition_at o) → w ≡ heard_of x h → u ≡ (state_at o).slots
      → Takes w t.route t.parts rest u area k area' → LaysSlots k.slots o r o' → report' ≡ report_octets (step_report w t.parts k.answer area')
      → SegmentActs o area t o' report' area'
  part_acts {k = k} {r = r} d z f y l q = record { slots = k.slots; acted = rw (z, d, f, e, ← same_rest) at (takes_acted p.segmented.seg y q); number = r; laid = l }
