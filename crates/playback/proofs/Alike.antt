-- Any two answers that the call's promise allows are equal, and there is one.
use Prim.Native.Nat.{ℕ}
use mathlib.Core.Path.{◌≡◌, refl, sym, ◌∙◌}
use mathlib.Core.List.{List}
use Rattle.apdu.specs.declared.Edition.{Edition}
use Rattle.rebuild.proofs.Seen.{view_one, view_unview}
use Rattle.collector.specs.Calls.{written, said_so}
use Rattle.collector.specs.declared.Collector.{Collector}
use Rattle.collector.proofs.Alike.{state_of}
use Rattle.playback.specs.Answers.{Played}
use Rattle.playback.specs.Calls.{Course, Comes, Plays}

pub plays_one : (c : Collector) (report area o : List ℕ) {report₁ area₁ report₂ area₂ : List ℕ} {r₁ r₂ : Played} → Plays c report area o r₁ report₁ area₁ → Plays c report area o r₂ report₂ area₂
    → (r₁ ≡ r₂) × (report₁ ≡ report₂) × (area₁ ≡ area₂)
plays_one c report area o {r₁ = r₁} {r₂ = r₂} a b =
    let n = a.refused ∙ sym b.refused in
    let k = a.eaten ∙ sym b.eaten in
    let f = a.reported ∙ sym b.reported in
    let d = a.edition ∙ sym b.edition in
    let v = a.receiver ∙ sym b.receiver in
    let s = view_one r₁.state.slots r₂.state.slots (a.slots ∙ sym b.slots) in
    (λ i. record { refused = n i; eaten = k i; reported = f i; state = record { edition = d i; receiver = v i; slots = s i } }, a.report_after ∙ sym b.report_after, a.area_after ∙ sym b.area_after)

abbrev pub played_by : Edition → Course → Played
played_by edition w = record { refused = w.number; eaten = w.left.eaten; reported = said_so w.left.said; state = state_of edition w.left }

pub comes : (edition : Edition) (w : Course) (report : List ℕ) → Comes edition w report (played_by edition w) (written w.left.said report) w.left.area
comes edition w report = record { refused = refl; eaten = refl; reported = refl; edition = refl; receiver = refl; slots = view_unview w.left.slots; report_after = refl; area_after = refl }
