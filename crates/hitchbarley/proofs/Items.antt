-- The reader's step, of the case p: the record and the place that it fills in.
use Prim.Native.Nat.{ℕ}
use mathlib.Core.Path.{◌≡◌, refl}
use mathlib.Core.Bool.{true}
use mathlib.Core.List.{List}
use lib.ListN.{length}
use Rattle.reader.specs.Answers.{Step}
use Rattle.reader.specs.Reading.{step_of}
use Rattle.hitchbarley.specs.Answers.{FillsTo}
use Rattle.hitchbarley.specs.Items.{step_good, step_number, step_record, step_place}
use Rattle.hitchbarley.proofs.Answered.{fills_to_good}

abbrev pub StepFills : Step → List ℕ → ℕ → ℕ → List ℕ → Type 0
StepFills p area r next later = FillsTo 12 (step_good p) (step_number p) (step_record p) (step_place p) area r next later

module _ (s : List ℕ) (at : ℕ) (area : List ℕ) (q : Step) (e : q ≡ step_of s at) (k : length area ≡ 12) (p : Step) (d : q ≡ p) where
  pub step_good_lem : step_good p ≡ true → {later : List ℕ} → later ≡ step_record p → StepFills (step_of s at) area (step_number p) (step_place p) later
  step_good_lem g l = rw (← e, d) (fills_to_good 12 _ _ _ _ area k g l)
