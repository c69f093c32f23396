-- A refusal by an earlier field is the first one, and where there is none the later fields decide; a refused writer changes nothing.
use Rattle.std.specs.Prelude.{ℕ, ◌≡◌, List, Err}
use Rattle.std.proofs.Common.{arith, sym, ne_eqb}
use Rattle.octets.specs.Laid.{Laid, laid_fault}
use Rattle.octets.specs.Refusal.{number_of, number_some}
use Rattle.octets.specs.declared.refusal.Refusal.{Refusal}
use Rattle.apdu.specs.Fault.{or_else}

pub earlier_refused : (r : Refusal) (m n : ℕ) → number_of r ≡ m → number_of r ≡ or_else m n
earlier_refused r m n e =
    let h = number_some r in
    rw (ne_eqb m 0 (λ z. omega arith)) e

pub later_judged : (m n f : ℕ) → 0 ≡ m → f ≡ n → f ≡ or_else m n
later_judged m n f e d = rw (sym e) d

pub ruleset judged = (earlier_refused, later_judged)

pub laid_refused : (r : Refusal) (f : ℕ) (o area : List ℕ) → number_of r ≡ f → Laid f o area (Err (number_of r)) area
laid_refused r f o area e = let h = number_some r in rw (sym e) (laid_fault (number_of r) o area (λ z. omega arith))
