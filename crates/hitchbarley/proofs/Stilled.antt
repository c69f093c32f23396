-- How a silence comes to what it promises: what judging says of the state area, then the link's own answer, laid back.
use Rattle.std.specs.Prelude.{Result, Ok, Err}
use Prim.Native.Nat.{ℕ}
use mathlib.Core.Path.{◌≡◌, refl, sym, ap, subst, ◌∙◌}
use mathlib.Core.Bool.{true, false, not}
use mathlib.Core.List.{List}
use lib.Dec.{eqb}
use lib.ListN.{length}
use native.Mathlib.Omega.{arith}
use borrow.Author.Tests.{eqb-true}
use Rattle.octets.specs.Choice.{by_test, not_so}
use Rattle.octets.specs.Reading.{Octets}
use Rattle.octets.specs.Refusal.{number_of}
use Rattle.octets.specs.declared.refusal.Refusal.{Refusal}
use Rattle.octets.specs.declared.refusal.Refusal.TheVariants.{UnfitState}
use Rattle.frames.specs.declared.Link.{Link}
use Rattle.frames.specs.Step.{sound_of, stilled_of}
use Rattle.rebuild.specs.View.{view}
use Rattle.reports.specs.Layout.{report_size}
use Rattle.collector.specs.Calls.{passing}
use Rattle.collector.specs.Lent.{over, Hushes, HushesBeside}
use Rattle.collector.specs.Answers.{Hushed, quiet_by, hushed_of}
use Rattle.collector.specs.declared.lent.Hushed as Code
use Rattle.collector.proofs.Hushed.{hush_slots, hush_left}
use Rattle.state.specs.Link.{link_size, link_octets, link_of}
use Rattle.state.specs.Layout.{state_size, link_part, store_part}
use Rattle.state.specs.Calls.{state_good, state_at, load_of, lift_of, fair_of, judge_of, silence_of, Silence, Lays, Stands}
use Rattle.state.proofs.Places.{Holds, link_over}
use Rattle.records.specs.Flag.{flag}
use Rattle.hitchbarley.specs.Trunk.{Stills}
use Rattle.hitchbarley.proofs.Passed.{refused_some, stills_not, stills_on}
use Rattle.hitchbarley.proofs.Fed.{judged, judged_size, w, lifted, held}

module _ (state report : List ℕ) (os : Octets state) (k : length report ≡ report_size) where
  -- a state that 59 does not pass: its slots, or its link
  module _ (size : length state ≡ state_size) (good : state_good state ≡ true) where
    unstilled : Hushes (link_of (link_part state)) (state_at state).slots report (quiet_by 59 (link_of (link_part state))) report → Stills state report 59 0 state report
    unstilled y = stills_on state report k (w state os size good) (lifted state os size good) refl y (held state os size good)

    still_unfair : fair_of state ≡ false → Stills state report 59 0 state report
    unfolding fair_of stilled_of state_at
    still_unfair u =
        let l = link_of (link_part state) in
        let t = (state_at state).slots in
        by_test (passing (view t))
        (λ p. by_test (sound_of (state_at state).receiver)
        (λ s. let z : true ≡ false = rw (good, s, p) at u in absurd (not_so (sym z)))
        (λ s. unstilled (λ e x. hush_left e l t report x k p (Err UnfitState) (rw s refl) refl)))
        (λ p. unstilled (λ e x. hush_slots e l t report x k refl (ap not p) refl))

  -- a state area that judging refuses, whatever the number
  barred_as : (n : ℕ) → (load_of state).refused ≡ n → (n ≡ 0 → ⊥) → Stills state report n 0 state report
  unfolding lift_of
  barred_as n e h = subst (λ (x : ℕ). Stills state report x 0 state report) e (stills_not state report k (lift_of state) refl (λ z. h (sym e ∙ z)))

  judged_not : {n : ℕ} → n ≡ judge_of state → (n ≡ 0 → ⊥) → Stills state report n 0 state report
  unfolding judge_of fair_of load_of
  judged_not {n} e h =
      by_test (eqb (length state) state_size)
      (λ t. by_test (state_good state)
      (λ g. by_test (fair_of state) (λ f. absurd (h (rw (t, f) at e)))
      (λ f. let z : n ≡ 59 = rw (t, f) at e in rw z (still_unfair (eqb-true (length state) state_size t) g f)))
      (λ g. let z : n ≡ 59 = rw (t, g) at e in rw z (barred_as 59 (rw (t, g)) (λ y. omega arith))))
      (λ t. let z : n ≡ 60 = rw t at e in rw z (barred_as 60 (rw t) (λ y. omega arith)))

  pub still_not : {r : Silence} → Stands state r → (r.refused ≡ 0 → ⊥) → Stills state report r.refused 0 state report
  still_not y h = judged_not y.number h

  module _ {x : Result Link Refusal} (y : Stands state (silence_of x)) where
    pub still_refused : {r : Refusal} {n : ℕ} → x ≡ Err r → n ≡ number_of r → Stills state report n 0 state report
    still_refused {r} q z = let e : number_of r ≡ judge_of state = rw q at y.number in judged_not (z ∙ e) (refused_some r z)

    -- one that it passes: the link's answer, laid back where it is no refusal
    module _ {l : Link} (q : x ≡ Ok l) where
      passes : judge_of state ≡ 0
      passes = sym (rw q at y.number)

      size : length state ≡ state_size
      size = judged_size state passes

      good : state_good state ≡ true
      good = (judged state passes).0

      link : l ≡ link_of (link_part state)
      link = rw q at (y.link passes)

      still_on : {f : Hushed} {state' report' : List ℕ} → HushesBeside l report f report' → Holds state' (over (w state os size good).edition f.link (state_at state).slots (store_part state))
          → Stills state report f.refused (flag f.reported) state' report'
      still_on b h =
          let b' = rw link at b in
          stills_on state report k (w state os size good) (lifted state os size good) refl (b' (state_at state).slots (judged state passes).1.1) h

      module _ {f : Result Code.Hushed Refusal} {report' : List ℕ} (b : HushesBeside l report (hushed_of l f) report') where
        pub still_stayed : {r : Refusal} {n : ℕ} → f ≡ Err r → n ≡ number_of r → Stills state report n 0 state report'
        still_stayed p z = rw z (still_on (rw p at b) (rw link (held state os size good)))

        pub still_laid : {h : Code.Hushed} {n m : ℕ} {state' : List ℕ} → f ≡ Ok h → Lays 0 link_size (link_octets h.link) state n state' → m ≡ flag h.reported → Stills state report 0 m state' report'
        still_laid p d z = rw z (still_on (rw p at b) (link_over (held state os size good) d))
