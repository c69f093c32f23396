-- The ways in which a silence over a lent store comes to what it promises, from what the calls below it promise: b is the slots' soundness, f the link's answer.
use Rattle.std.specs.Prelude.{Result, Ok, Err}
use Prim.Native.Nat.{ℕ}
use mathlib.Core.Path.{◌≡◌, refl, sym, ap, ◌∙◌}
use mathlib.Core.Bool.{Bool, true, false, not}
use mathlib.Core.List.{List, []}
use lib.ListN.{length}
use borrow.Author.Tests.{not-true, not-false}
use Rattle.apdu.specs.declared.Edition.{Edition}
use Rattle.frames.specs.declared.Outcome.TheVariants.{Quiet, Frame, Damage}
use Rattle.frames.specs.declared.Link.{Link}
use Rattle.frames.specs.declared.Moved.{Moved}
use Rattle.frames.specs.Answers as Links
use Rattle.frames.specs.Step as Frames
use Rattle.frames.specs.Step.{stilled_of, silence_of}
use Rattle.frames.proofs.Calls.{silence_over}
use Rattle.trunk.specs.Demand.{stilled}
use Rattle.octets.specs.Refusal.{number_of}
use Rattle.octets.specs.declared.refusal.Refusal.{Refusal}
use Rattle.rebuild.specs.View.{view}
use Rattle.rebuild.specs.declared.Slots.{Slots}
use Rattle.reports.specs.Layout.{report_size}
use Rattle.collector.specs.Frame.{damage_octets}
use Rattle.collector.specs.Calls.{passing, Falls, Stills}
use Rattle.collector.specs.Lent.{over, fell_over, Hushes, HushesBeside}
use Rattle.collector.specs.Answers.{Fell, Hushed, quiet_by}
use Rattle.collector.proofs.Answers.{stills_line, stills_slots, stills_on, falls_quiet, falls_frame, falls_damage}

module _ (edition : Edition) (l : Link) (t : Slots) (report s : List ℕ) where
  pub hush_line : {r : Hushed} → (length report ≡ report_size → ⊥) → r ≡ quiet_by 60 l → Stills (over edition l t s) report (fell_over edition r t s) report
  hush_line h u = rw u (stills_line (over edition l t s) report h)

  module _ (k : length report ≡ report_size) {b : Bool} (e : b ≡ passing (view t)) where
    pub hush_slots : {r : Hushed} → not b ≡ true → r ≡ quiet_by 59 l → Stills (over edition l t s) report (fell_over edition r t s) report
    hush_slots n u = rw u (stills_slots (over edition l t s) report k (sym e ∙ not-true b n))

  -- slots that 59 passes; x is the link's answer
  module _ (k : length report ≡ report_size) (p : passing (view t) ≡ true) (x : Result Moved Refusal) (g : Links.stilled_by l x ≡ stilled_of l) where
    stills : {f : Links.Stilled} → Links.stilled_by l x ≡ f
        → {r : Fell} {report' : List ℕ} → Falls edition f.refused (stilled damage_octets (view t) [] (Links.fell_over f s)) report r report' → Stills (over edition l t s) report r report'
    stills {f} e h =
        let ended : Links.fell_over f s ≡ silence_of (Frames.over l s) = ap (λ (y : Links.Stilled). Links.fell_over y s) (sym e ∙ g) ∙ silence_over l s in
        stills_on (over edition l t s) report k p {f = Links.fell_over f s} ended h

    -- one that the link refuses
    pub hush_left : {y : Refusal} → x ≡ Err y → Stills (over edition l t s) report (fell_over edition (quiet_by (number_of y) l) t s) report
    hush_left {y} q =
        let f = Links.stilled_by l (Err y) in
        stills {f = f} (ap (Links.stilled_by l) q) (falls_quiet edition (Links.fell_over f s) t report refl)

    module _ {m : Moved} (q : x ≡ Ok m) where
      abbrev f : Links.Stilled
      f = Links.stilled_by l (Ok m)

      pub hush_quiet : m.outcome ≡ Quiet → Stills (over edition l t s) report (fell_over edition (quiet_by 0 m.link) t s) report
      hush_quiet o = stills {f = f} (ap (Links.stilled_by l) q) (falls_quiet edition (Links.fell_over f s) t report o)

      pub hush_frame : m.outcome ≡ Frame → Stills (over edition l t s) report (fell_over edition (quiet_by 0 m.link) t s) report
      hush_frame o = stills {f = f} (ap (Links.stilled_by l) q) (falls_frame edition (Links.fell_over f s) t report o)

      pub hush_damage : {d : ℕ} {report' : List ℕ} → m.outcome ≡ Damage d → report' ≡ damage_octets d
          → Stills (over edition l t s) report (fell_over edition (record { refused = 0; reported = true; link = m.link }) t s) report'
      hush_damage {d} o h = stills {f = f} (ap (Links.stilled_by l) q) (falls_damage edition (Links.fell_over f s) t report d o h)

-- slots that were judged sound
pub hush_beside : (l : Link) (t : Slots) (report : List ℕ) {b : Bool} {r : Hushed} {report' : List ℕ} → b ≡ passing (view t) → not b ≡ false → HushesBeside l report r report' → Hushes l t report r report'
hush_beside l t report {b} e n h = h t (sym e ∙ not-false b n)
