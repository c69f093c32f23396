-- The ways in which the data stages come to what eating them promises: i is the place behind the data octets, j the one behind the first check octet.
use Prim.Native.Nat.{ℕ, ◌+◌}
use native.Mathlib.Omega.{arith}
use mathlib.Core.Path.{◌≡◌, sym, ◌∙◌}
use mathlib.Core.List.{List}
use lib.ListN.{length}
use Rattle.octets.specs.Reading.{oct}
use Rattle.frames.specs.declared.Outcome.{Outcome}
use Rattle.frames.specs.declared.Outcome.TheVariants.{Quiet}
use Rattle.frames.proofs.Laws.{report, end}
use Rattle.feeding.specs.declared.Ate.{Ate}
use Rattle.feeding.specs.Stages.{receiver_at, got_at, length_at, Onward, DataLaid, FirstLaid, DataEnds, Ends}
use Rattle.feeding.proofs.Fronts.{leaves_then}

-- one stage after another
onward_then : {o o₁ o₂ piece : List ℕ} {from i j : ℕ} → Onward o piece from i o₁ → Onward o₁ piece i j o₂ → Onward o piece from j o₂
onward_then a b =
    record {
      on = b.on ∙ a.on;
      within = b.within;
      leaves = leaves_then a.leaves b.leaves;
    }

module _ (o piece : List ℕ) (from i j : ℕ) {o₁ o₂ : List ℕ} (d : DataLaid o piece from i o₁) (f : FirstLaid o₁ piece i j o₂) where
  -- the piece ends there
  pub data_quiet : {r : Ate} → j ≡ length piece → r ≡ record { eaten = j; outcome = Quiet } → Ends o piece from r o₂
  data_quiet {r} k q =
      let w = onward_then d.onward f.onward in
      rw q (record { ends = sym (end (receiver_at o₂) j piece (omega arith)) ∙ w.on; leaves = w.leaves })

  -- the second check octet is there
  pub data_reported : {o₃ : List ℕ} {r : Outcome} → (j ≡ length piece → ⊥) → DataEnds o₂ (oct piece j) r o₃ → Ends o piece from (record { eaten = j + 1; outcome = r }) o₃
  data_reported {o₃} {r} k e =
      let w = onward_then d.onward f.onward in
      let h = w.within in
      let v = report (receiver_at o₂) (record { outcome = r; receiver = receiver_at o₃ }) j piece (omega arith) e.steps.step e.ends in
      record { ends = v ∙ w.on; leaves = leaves_then w.leaves e.steps.leaves }

-- the data and the first check octet are there
pub first_whole : (o piece : List ℕ) (from to : ℕ) {o' : List ℕ} → FirstLaid o piece from to o' → (to ≡ length piece → ⊥) → got_at o' ≡ length_at o' + 1
first_whole o piece from to f h = f.whole h
