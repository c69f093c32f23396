-- The lowest place of a list where a test holds.
use mathlib.Core.Path.{◌≡◌, refl, ap}
use mathlib.Core.Bool.{Bool, true, false}
use mathlib.Core.List.{List, [], ◌∷◌}
use mathlib.Core.Option.{Option, none, some}
use Prim.Native.Nat.{ℕ, zero, suc, ◌<◌}
use native.Mathlib.Nat.{not-suc-le-zero, le_of_suc-le-suc}
use native.Mathlib.Omega.{arith}
use lib.ListN.{length, get_or, set}
use Rattle.octets.specs.Choice.{pick, by_test, impossible}
use Rattle.messages.specs.Slots.{above, lowest}

above_some : (o : Option ℕ) (i : ℕ) → above o ≡ some i → (j : ℕ) × (o ≡ some j) × (i ≡ suc j)
above_some none i e = impossible (cc)
above_some (some j) i e = (j, refl, cc)

above_none : (o : Option ℕ) → above o ≡ none → o ≡ none
above_none none e = refl
above_none (some j) e = cc

module _ {X : Type 0} (f : X → Bool) (d : X) where
  pub lowest_some : (xs : List X) (i : ℕ) → lowest f xs ≡ some i → (i < length xs) × (f (get_or xs i d) ≡ true)
  lowest_some [] i e = impossible (cc)
  lowest_some (x ∷ xs) i e =
      by_test (f x)
      (λ t.
      let s : some zero ≡ some i = rw t at e in
      let z : i ≡ zero = cc in
      rw z (omega arith, t))
      (λ t.
      let s : above (lowest f xs) ≡ some i = rw t at e in
      let h = above_some (lowest f xs) i s in
      let ih = lowest_some xs h.0 h.1 in
      rw h.2 (omega arith, ih.1))

  pub lowest_none : (xs : List X) (i : ℕ) → lowest f xs ≡ none → i < length xs → f (get_or xs i d) ≡ false
  lowest_none [] i e l = absurd (not-suc-le-zero l)
  lowest_none (x ∷ xs) zero e l =
      by_test (f x) (λ t. let s : some zero ≡ none = rw t at e in cc) (λ t. t)
  lowest_none (x ∷ xs) (suc i) e l =
      by_test (f x)
      (λ t. let s : some zero ≡ none = rw t at e in cc)
      (λ t. lowest_none xs i (above_none (lowest f xs) (rw t at e)) (le_of_suc-le-suc l))

  -- none below it
  pub lowest_least : (xs : List X) (i : ℕ) → lowest f xs ≡ some i → (j : ℕ) → j < i → f (get_or xs j d) ≡ false
  lowest_least [] i e j l = impossible (cc)
  lowest_least (x ∷ xs) i e zero l =
      by_test (f x) (λ t. let s : some zero ≡ some i = rw t at e in let z : i ≡ zero = cc in absurd (omega arith)) (λ t. t)
  lowest_least (x ∷ xs) i e (suc j) l =
      by_test (f x)
      (λ t. let s : some zero ≡ some i = rw t at e in let z : i ≡ zero = cc in absurd (omega arith))
      (λ t.
      let s : above (lowest f xs) ≡ some i = rw t at e in
      let h = above_some (lowest f xs) i s in
      let q = h.2 in
      lowest_least xs h.0 h.1 j (omega arith))

  -- the list changed at one place
  pub lowest_set : (xs : List X) (i : ℕ) (t : X) → i < length xs → f (get_or xs i d) ≡ false → f t ≡ false → lowest f (set xs i t) ≡ lowest f xs
  lowest_set [] i t l e h = refl
  lowest_set (x ∷ xs) zero t l e h = rw (e, h)
  lowest_set (x ∷ xs) (suc i) t l e h = ap (λ (o : Option ℕ). pick (f x) (some zero) (above o)) (lowest_set xs i t (le_of_suc-le-suc l) e h)

  pub lowest_sole : (xs : List X) (i : ℕ) → i < length xs → f (get_or xs i d) ≡ true → ((j : ℕ) → j < length xs → f (get_or xs j d) ≡ true → j ≡ i) → lowest f xs ≡ some i
  lowest_sole [] i l e h = absurd (not-suc-le-zero l)
  lowest_sole (x ∷ xs) zero l e h = rw e
  lowest_sole (x ∷ xs) (suc i) l e h =
      let ih = lowest_sole xs i (le_of_suc-le-suc l) e (λ j m q. let r : suc j ≡ suc i = h (suc j) (omega arith) q in omega arith) in
      by_test (f x)
      (λ t. absurd (let z : zero ≡ suc i = h zero (omega arith) t in omega arith))
      (λ t. rw (t, ih))

  -- the first place where the test holds
  pub lowest_first : (xs : List X) (i : ℕ) → i < length xs → f (get_or xs i d) ≡ true → ((j : ℕ) → j < i → f (get_or xs j d) ≡ false) → lowest f xs ≡ some i
  lowest_first [] i l e h = absurd (not-suc-le-zero l)
  lowest_first (x ∷ xs) zero l e h = rw e
  lowest_first (x ∷ xs) (suc i) l e h =
      let ih = lowest_first xs i (le_of_suc-le-suc l) e (λ j m. h (suc j) (omega arith)) in
      rw (h zero (omega arith), ih)

  pub lowest_no : (xs : List X) → ((j : ℕ) → j < length xs → f (get_or xs j d) ≡ true → ⊥) → lowest f xs ≡ none
  lowest_no [] h = refl
  lowest_no (x ∷ xs) h =
      let ih = lowest_no xs (λ j m q. h (suc j) (omega arith) q) in
      by_test (f x) (λ t. absurd (h zero (omega arith) t)) (λ t. rw (t, ih))
