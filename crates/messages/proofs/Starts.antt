-- What is asked of the number that starts a message and of the number after a number: no other law looks into the two.
use mathlib.Core.Path.{◌≡◌, refl, sym, ap, ◌∙◌}
use mathlib.Core.Bool.{Bool, true, false}
use Prim.Native.Nat.{ℕ, ◌+◌, ◌%◌}
use native.Mathlib.Omega.{arith}
use lib.Dec.{eqb}
use borrow.Author.Tests.{eqb-true, eq-eqb}
use Rattle.octets.specs.Choice.{both, by_test, both_left, both_false, not_so}
use Rattle.messages.specs.Rows.{starts_at, next_number}

both_so : (a : Bool) → both a true ≡ a
both_so true = refl
both_so false = refl

module _ (n : ℕ) where
  -- only number 0 starts
  pub starts_zero : (isOpen : Bool) (next : ℕ) → starts_at n isOpen next ≡ true → n ≡ 0
  unfolding starts_at
  starts_zero isOpen next e = eqb-true n 0 (both_left (eqb n 0) _ e)

  pub starts_other : (isOpen : Bool) (next : ℕ) → eqb n 0 ≡ false → starts_at n isOpen next ≡ false
  unfolding starts_at
  starts_other isOpen next e = rw e

  -- it starts every key that is not open
  pub starts_new : (next : ℕ) → starts_at n false next ≡ eqb n 0
  unfolding starts_at
  starts_new next = both_so (eqb n 0)

  -- an open key it restarts, but where 0 is the next number: there it continues
  pub starts_open : (next : ℕ) → eqb next 0 ≡ false → starts_at n true next ≡ eqb n 0
  unfolding starts_at
  starts_open next e = rw e (both_so (eqb n 0))

  pub starts_awaited : (next : ℕ) → eqb next 0 ≡ true → starts_at n true next ≡ false
  unfolding starts_at
  starts_awaited next e = rw e (both_false (eqb n 0))

  -- so the next number goes on, 0 too
  pub starts_next : (next : ℕ) → n ≡ next → starts_at n true next ≡ false
  starts_next next e =
      by_test (eqb next 0) (λ t. starts_awaited next t) (λ t. starts_other true next (ap (λ (m : ℕ). eqb m 0) e ∙ t))

  -- and 0 is not the next number where a segment restarts, and is it where number 0 does not
  pub restarts_other : (next : ℕ) → starts_at n true next ≡ true → next ≡ 0 → ⊥
  restarts_other next s e = not_so (sym (starts_awaited next (eq-eqb next 0 e)) ∙ s)

  pub goes_on_awaited : (next : ℕ) → starts_at n true next ≡ false → n ≡ 0 → next ≡ 0
  goes_on_awaited next s e = by_test (eqb next 0) (λ t. eqb-true next 0 t) (λ t. not_so (sym s ∙ starts_open next t ∙ eq-eqb n 0 e))

  -- the number after a number: it is another one
  pub next_is : next_number n ≡ (n + 1) % 256
  unfolding next_number
  next_is = refl

  pub next_other : n ≡ next_number n → ⊥
  unfolding next_number
  next_other e = omega arith

  -- after n numbers comes n modulo 256, and then the number after it
  pub next_counts : (m : ℕ) → m ≡ n % 256 → next_number m ≡ (n + 1) % 256
  unfolding next_number
  next_counts m e = omega arith
