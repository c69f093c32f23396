-- 60 and 59 by the code's tests, and what they leave: a refused call, or areas and a state that pass.
use Prim.Native.Nat.{ℕ, ◌%◌}
use mathlib.Core.Path.{◌≡◌, refl, sym, ◌∙◌}
use mathlib.Core.Bool.{Bool, true, false, not}
use mathlib.Core.List.{List}
use lib.Dec.{eqb}
use lib.ListN.{length}
use borrow.Author.Tests.{eqb-true, eq-eqb, ne_eqb, not-true, not-false}
use Rattle.octets.specs.Choice.{pick, both, both_false, by_test, impossible}
use Rattle.apdu.specs.declared.Edition.{Edition}
use Rattle.frames.specs.declared.Link.{Link}
use Rattle.frames.specs.Step as Frames
use Rattle.frames.specs.Step.{sound_in}
use Rattle.rebuild.specs.View.{view}
use Rattle.rebuild.specs.declared.Slots.{Slots}
use Rattle.reports.specs.Layout.{report_size}
use Rattle.collector.specs.Calls.{passing, feed_refusal}
use Rattle.collector.specs.Lent.{over}
use Rattle.playback.specs.Answers.{Went}
use Rattle.playback.specs.Layout.{record_size}
use Rattle.playback.specs.Calls.{barred, play_refusal, playing, Comes, Ready}
use Rattle.playback.specs.Lent.{judged, Judges, LendsWhole, Runs, stayed, went_over, Replays}

-- ---- the tests, one after the other
module _ (l : Link) (t : Slots) (s : List ℕ) (report area : ℕ) where
  pub judge_line : (report ≡ report_size → ⊥) → 60 ≡ judged l t s report area
  judge_line h = rw (ne_eqb report report_size h)

  module _ (k : report ≡ report_size) where
    pub judge_area : (area ≡ 65536 → ⊥) → 60 ≡ judged l t s report area
    judge_area h = rw (eq-eqb report report_size k, ne_eqb area 65536 h)

    module _ (z : area ≡ 65536) {b : Bool} (e : b ≡ passing (view t)) where
      judge_on : judged l t s report area ≡ pick (both (sound_in l.phase l.head) b) 0 59
      judge_on = rw (eq-eqb report report_size k, eq-eqb area 65536 z, e)

      pub judge_slots : not b ≡ true → 59 ≡ judged l t s report area
      judge_slots n = sym (judge_on ∙ rw (not-true b n, both_false (sound_in l.phase l.head)))

      module _ (n : not b ≡ false) {d : Bool} (f : d ≡ sound_in l.phase l.head) where
        pub judge_link : not d ≡ true → 59 ≡ judged l t s report area
        judge_link m = sym (judge_on ∙ rw (← f, not-true d m))

        pub judge_none : not d ≡ false → 0 ≡ judged l t s report area
        judge_none m = sym (judge_on ∙ rw (← f, not-false d m, not-false b n))

-- ---- what the number leaves
-- nothing is refused exactly where all three pass
pub ready_by : (l : Link) (t : Slots) (store report area : List ℕ) → judged l t store (length report) (length area) ≡ 0
    → (length report ≡ report_size) × Ready (Frames.over l store) (view t) area
ready_by l t store report area e =
    by_test (eqb (length report) report_size)
    (λ k. by_test (eqb (length area) 65536)
    (λ z. by_test (sound_in l.phase l.head)
    (λ d. by_test (passing (view t))
    (λ p. (eqb_is k, record { receiver = d; slots = p; fits = z }))
    (λ p. impossible (let q : ◌≡◌ {A = ℕ} 59 0 = rw (k, z, d, p) at e in cc)))
    (λ d. impossible (let q : ◌≡◌ {A = ℕ} 59 0 = rw (k, z, d) at e in cc)))
    (λ z. impossible (let q : ◌≡◌ {A = ℕ} 60 0 = rw (k, z) at e in cc)))
    (λ k. impossible (let q : ◌≡◌ {A = ℕ} 60 0 = rw k at e in cc))
  where
    eqb_is : eqb (length report) report_size ≡ true → length report ≡ report_size
    eqb_is k = eqb-true (length report) report_size k

pub lends_whole : (l : Link) (t : Slots) (store report area o : List ℕ) {n : ℕ} → Judges l t (length report) (length area) n → n ≡ 0 → length o % record_size ≡ 0 → length store ≡ 501
    → LendsWhole l t store report area o
lends_whole l t store report area o J z w s =
    let p = ready_by l t store report area (sym (J store) ∙ z) in
    record { lends = record { ready = p.1; stored = s; line = p.0 }; whole = w }

module _ (edition : Edition) (l : Link) (t : Slots) (store report area o : List ℕ) {n : ℕ} (J : Judges l t (length report) (length area) n) where
  judged_is : n ≡ feed_refusal (over edition l t store) report area
  unfolding feed_refusal
  judged_is = J store

  comes_not : (m : ℕ) → Comes edition (barred m (over edition l t store) area) report (went_over edition (stayed m l t) store) report area
  comes_not m = record { refused = refl; eaten = refl; reported = refl; edition = refl; receiver = refl; slots = refl; report_after = refl; area_after = refl }

  stays : (m : ℕ) → (m ≡ 0 → ⊥) → play_refusal (over edition l t store) report area o ≡ m → {r : Went} → r ≡ stayed m l t → Replays edition l t store report area o r store report area
  unfolding playing
  stays m h q u = rw u (record { plays = rw (q, ne_eqb m 0 h) (comes_not m); kept = λ x. refl })

  -- 60 and 59
  pub stays_barred : (n ≡ 0 → ⊥) → {r : Went} → r ≡ stayed n l t → Replays edition l t store report area o r store report area
  unfolding play_refusal
  stays_barred h u = stays n h (rw (← judged_is, ne_eqb n 0 h)) u

  module _ (z : n ≡ 0) where
    -- 68
    pub stays_odd : (length o % record_size ≡ 0 → ⊥) → {r : Went} → r ≡ stayed 68 l t → Replays edition l t store report area o r store report area
    unfolding play_refusal
    stays_odd h u = stays 68 (λ e. impossible (cc)) (rw (← judged_is, z, ne_eqb (length o % record_size) 0 h)) u

    module _ (w : length o % record_size ≡ 0) where
      none_refused : play_refusal (over edition l t store) report area o ≡ 0
      unfolding play_refusal
      none_refused = rw (← judged_is, z, eq-eqb (length o % record_size) 0 w)

      pub replays : {r : Went} {store' report' area' : List ℕ} → Runs edition l t store report area o r store' report' area' → Replays edition l t store report area o r store' report' area'
      unfolding playing
      replays R = record { plays = rw none_refused R.comes; kept = R.kept }
