-- How the writing calls come to what they promise: by the promise of the call below, or by a refusal before it; and what a reader fills in.
use Prim.Native.Nat.{ℕ}
use native.Mathlib.Omega.{arith}
use mathlib.Core.Path.{◌≡◌, refl, sym, ap, ◌∙◌}
use mathlib.Core.Bool.{Bool, true}
use mathlib.Core.List.{List}
use lib.ListN.{length}
use borrow.Author.Tests.{eq-eqb}
use Rattle.octets.specs.Laid.{written_count, Laid, laid_fault, laid_as}
use Rattle.octets.specs.Laid.{Written}
use Rattle.octets.specs.Refusal.{number_of, number_some}
use Rattle.octets.specs.declared.refusal.Refusal.{Refusal}
use Rattle.hitchbarley.specs.Answers.{written_number, Writes, Fills, FillsTo}

pub writes : {f : ℕ} {o area later : List ℕ} {w : Written} {r wrote : ℕ} → Laid f o area w later → (r ≡ written_number w) × (wrote ≡ written_count w) → Writes f o area r wrote later
writes l a = record { number = a.0 ∙ ap written_number l.answer; count = a.1 ∙ ap written_count l.answer; after = l.after }

-- a value that a record gave, written: f is what the record deserves
pub writes_value : {A : Type 0} (fault : A → ℕ) (octets : A → List ℕ) {x y : A} {f : ℕ} {area later : List ℕ} {w : Written} {r wrote : ℕ}
    → x ≡ y → f ≡ fault y → Laid (fault x) (octets x) area w later → (r ≡ written_number w) × (wrote ≡ written_count w) → Writes f (octets y) area r wrote later
writes_value fault octets e d l a = writes (laid_as (ap fault e ∙ sym d) (ap octets e) l) a

-- a refusal before anything is written
pub writes_not : (x : Refusal) (o area : List ℕ) {f r : ℕ} → f ≡ number_of x → r ≡ number_of x → Writes f o area r 0 area
writes_not x o area e h = rw (e, h) (writes (laid_fault (number_of x) o area (λ z. omega (arith, number_some x))) (refl, refl))

-- ---- readers into a record area
module _ (size : ℕ) (good : Bool) (f : ℕ) (o area : List ℕ) (k : length area ≡ size) where
  pub fills_good : good ≡ true → {later : List ℕ} → later ≡ o → Fills size good f o area f later
  fills_good g d = let e = eq-eqb (length area) size k in record { number = rw e; after = rw (e, g) d }

-- the same, with the place after what was read
module _ (size : ℕ) (good : Bool) (f : ℕ) (o : List ℕ) (place : ℕ) (area : List ℕ) (k : length area ≡ size) where
  pub fills_to_good : good ≡ true → {later : List ℕ} → later ≡ o → FillsTo size good f o place area f place later
  fills_to_good g d = record { filled = fills_good size good f o area k g d; reached = rw (eq-eqb (length area) size k, g) }
