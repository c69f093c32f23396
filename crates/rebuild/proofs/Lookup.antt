-- A turn of a search's loop, and its two ends, for any test.
use Rattle.std.proofs.Common.{◌≡◌, ℕ, suc, ◌+◌, ◌<◌, ◌≤◌, Bool, true, false, List, [], ◌∷◌, length, get_or, drop, sym, refl, ap, ◌∙◌, add-zero, add-one, arith, drop_of_length-le, drop-cons, map, nat_lt, cond, lt-ltb, le-ltb}
use Rattle.std.specs.Prelude.{Option as Found, Some, None}
use mathlib.Core.Option.{Option, none, some}
use borrow.Author.Tests.{ltb-true, ltb-false}
use Rattle.std.specs.List.{position, position_or_len, list_any}
use Rattle.octets.specs.Choice.{impossible, by_test}
use Rattle.messages.specs.Slots.{above, lowest, is_some}
use Rattle.rebuild.specs.View.{found}

one_on : (i : ℕ) (o : Option ℕ) → found i (above o) ≡ found (i + 1) o
one_on i none = refl
one_on i (some k) = let e : i + suc k ≡ i + 1 + k = omega arith in ap Some e

module _ {X : Type 0} (f : X → Bool) (d : X) (xs : List X) (i : ℕ) where
  pub turn : i < length xs → f (get_or xs i d) ≡ false → found i (lowest f (drop i xs)) ≡ found (i + 1) (lowest f (drop (i + 1) xs))
  turn h e = rw (drop-cons xs i d h, e) (one_on i (lowest f (drop (suc i) xs)) ∙ ap (λ (n : ℕ). found (i + 1) (lowest f (drop n xs))) (sym (add-one i)))

  pub meets : i < length xs → f (get_or xs i d) ≡ true → found i (lowest f (drop i xs)) ≡ Some i
  meets h e = rw (drop-cons xs i d h, e, add-zero i)

  pub ends : length xs ≤ i → found i (lowest f (drop i xs)) ≡ None
  ends h = rw (drop_of_length-le xs h)

-- what was found
pub found_at : (o : Option ℕ) (i : ℕ) → found 0 o ≡ Some i → o ≡ some i
found_at none i e = impossible (cc)
found_at (some k) i e = let z : 0 + k ≡ i = cc in let q : k ≡ i = omega arith in ap some q

pub found_none : (start : ℕ) (o : Option ℕ) → found start o ≡ None → o ≡ none
found_none start none e = refl
found_none start (some k) e = impossible (cc)

pub found_some : (start i : ℕ) (o : Option ℕ) → found start o ≡ Some i → is_some o ≡ true
found_some start i none e = impossible (cc)
found_some start i (some k) e = refl

-- ---- the library's searches are those of the rules, over elements as the rules see them
place_on : (p n : ℕ) (o : Option ℕ) → cond (nat_lt p n) (Some p) None ≡ found 0 o → cond (nat_lt (1 + p) (suc n)) (Some (1 + p)) None ≡ found 0 (above o)
place_on p n none e =
    by_test (nat_lt p n)
    (λ t. impossible (let z : ◌≡◌ {A = Found ℕ} (Some p) None = rw t at e in cc))
    (λ t. let h : n ≤ p = ltb-false p n t in rw (le-ltb (1 + p) (suc n) (omega arith)))
place_on p n (some k) e =
    by_test (nat_lt p n)
    (λ t. let h : p < n = ltb-true p n t in
    let z : ◌≡◌ {A = Found ℕ} (Some p) (Some (0 + k)) = rw t at e in
    let q : p ≡ 0 + k = cc in
    let s : 1 + p ≡ 0 + suc k = omega arith in
    rw (lt-ltb (1 + p) (suc n) (omega arith)) (ap Some s))
    (λ t. impossible (let z : ◌≡◌ {A = Found ℕ} None (Some (0 + k)) = rw t at e in cc))

some_on : (o : Option ℕ) → is_some o ≡ is_some (above o)
some_on none = refl
some_on (some k) = refl

module _ {X Y : Type 0} (see : X → Y) (f : X → Bool) (q : Y → Bool) (e : (x : X) → f x ≡ q (see x)) where
  pub placed : (xs : List X) → position f xs ≡ found 0 (lowest q (map see xs))
  placed [] = refl
  placed (x ∷ xs) =
      by_test (f x)
      (λ h. let k : q (see x) ≡ true = sym (e x) ∙ h in rw (h, k) (ap (λ (b : Bool). cond b (Some 0) None) (lt-ltb 0 (suc (length xs)) (omega arith))))
      (λ h. let k : q (see x) ≡ false = sym (e x) ∙ h in rw (h, k) (place_on (position_or_len f xs) (length xs) (lowest q (map see xs)) (placed xs)))

  pub some_place : (xs : List X) → list_any f xs ≡ is_some (lowest q (map see xs))
  some_place [] = refl
  some_place (x ∷ xs) =
      by_test (f x)
      (λ h. let k : q (see x) ≡ true = sym (e x) ∙ h in rw (h, k))
      (λ h. let k : q (see x) ≡ false = sym (e x) ∙ h in rw (h, k) (some_place xs ∙ some_on (lowest q (map see xs))))
