-- "Only the shortest form is good": the contents rules of integers say exactly that, proved once over the width.
use Prim.Native.Nat.{ℕ, zero, suc, ◌+◌, ◌-◌, ◌*◌, ◌^◌, ◌≤◌, ◌<◌}
use native.Mathlib.Omega.{arith}
use native.Mathlib.Nat.{pow-suc, pow-le-pow_right, mul-le-mul_right}
use mathlib.Core.Path.{◌≡◌, sym, ap, ◌∙◌}
use mathlib.Core.List.{List, [], ◌∷◌}
use mathlib.Core.Bool.{true, false}
use lib.ListN.{length, get_or}
use lib.Seq.{ext_get_or}
use lib.Dec.{lit<, ltb, leb, eqb}
use borrow.Author.Tests.{ltb-true, ltb-false, leb-true, leb-false, eqb-true, eqb-false, lt-ltb, le-ltb}
use Rattle.octets.specs.Choice.{pick_cases, by_test, non, non_true, impossible}
use Rattle.octets.specs.Reading.{oct, Octets}
use Rattle.octets.specs.Numbers.{value_at, width_of, long_form, value_below, value_same, short_form, long_form_lem}
use Rattle.tags.specs.Reading.{sign_bad}
use Rattle.tags.specs.Layout.{short_unsigned, short_signed}
use Rattle.tags.specs.Signed.{Whole, signed_value}
use Rattle.tags.specs.Signed.Whole.{plus, minus}
use Rattle.tags.proofs.Rule.{sign_exact}

-- the rule "first not 00 if more than one" is that of the shortest form
short_unsigned_lem : (x : ℕ) (xs : List ℕ) → short_unsigned (x ∷ xs) ≡ non (long_form x (suc (length xs)))
unfolding long_form
short_unsigned_lem x [] = by_test (eqb x 0) (λ e. rw e) (λ e. rw e)
short_unsigned_lem x (y ∷ xs) = by_test (eqb x 0) (λ e. rw (e, lt-ltb 1 (suc (suc (length xs))) (omega arith))) (λ e. rw e)

-- one to four octets keep it exactly when no fewer octets hold their value
pub unsigned_shortest : (xs : List ℕ) → Octets xs → length xs ≤ 4 → short_unsigned xs ≡ true → width_of (value_at xs 0 (length xs)) ≡ length xs
unsigned_shortest [] os h e = impossible (cc)
unsigned_shortest (x ∷ xs) os h e = short_form (x ∷ xs) os 0 (suc (length xs)) (omega arith) h (non_true (long_form x (suc (length xs))) (sym (short_unsigned_lem x xs) ∙ e))

pub shortest_unsigned : (xs : List ℕ) → Octets xs → 1 ≤ length xs → width_of (value_at xs 0 (length xs)) ≡ length xs → short_unsigned xs ≡ true
shortest_unsigned [] os h e = absurd (omega arith)
shortest_unsigned (x ∷ xs) os h e = let f : long_form x (suc (length xs)) ≡ false = long_form_lem (x ∷ xs) os 0 (suc (length xs)) h e in short_unsigned_lem x xs ∙ rw f

-- the first octet weighs most
value_first : (s : List ℕ) (p n : ℕ) → value_at s p (suc n) ≡ oct s p * 256 ^ n + value_at s (p + 1) n
unfolding value_at
value_first s p zero = let e : p + 0 ≡ p = omega arith in rw e (omega arith)
value_first s p (suc n) =
    let e : p + suc n ≡ p + 1 + n = omega arith in
    let i = value_first s p n in
    rw (e, pow-suc 256 n) (omega arith)

-- n octets hold a number that lies in their halves
abbrev pub Holds : ℕ → Whole → Type 0
Holds n (plus v) = 2 * v < 256 ^ n
Holds n (minus m) = (0 < m) × (2 * m ≤ 256 ^ n)

pub signed_holds : (s : List ℕ) → Octets s → (p n : ℕ) → Holds n (signed_value s p n)
unfolding signed_value
signed_holds s os p n =
    pick_cases (Holds n) (ltb (2 * value_at s p n) (256 ^ n)) (λ h. ltb-true (2 * value_at s p n) (256 ^ n) h) (λ h.
    let b = value_below s os p n in
    (omega arith, omega (arith, ltb-false (2 * value_at s p n) (256 ^ n) h)))

-- two octets and more, a and b the first of them: v is the value of all, u of all but the first
module _ (s : List ℕ) (os : Octets s) (p k : ℕ) where
  abbrev a : ℕ
  a = oct s p

  abbrev b : ℕ
  b = oct s (p + 1)

  abbrev v : ℕ
  v = value_at s p (suc (suc k))

  abbrev u : ℕ
  u = value_at s (p + 1) (suc k)

  -- the first octet weighs a, the second halves what is left
  weight : (x : ℕ) → a ≡ x → v ≡ x * 256 ^ suc k + u
  weight x e = rw (← e) (value_first s p (suc k))

  lower : b < 128 → 2 * u < 256 ^ suc k
  lower h = omega (arith, value_first s (p + 1) k, value_below s os (p + 1 + 1) k, mul-le-mul_right (256 ^ k) h)

  upper : 128 ≤ b → 256 ^ suc k ≤ 2 * u
  upper h = omega (arith, value_first s (p + 1) k, mul-le-mul_right (256 ^ k) h)

  -- a first octet 00 before one below 80 hex, or FF before one from there on, adds nothing
  pub signed_longer : sign_bad a b ≡ true → signed_value s p (suc (suc k)) ≡ signed_value s (p + 1) (suc k)
  unfolding sign_bad signed_value
  signed_longer e =
      by_test (eqb a 0)
      (λ d.
      let same = weight 0 (eqb-true a 0 d) in
      let half = lower (ltb-true b 128 (rw d at e)) in
      rw (lt-ltb (2 * v) (256 ^ suc (suc k)) (omega arith), lt-ltb (2 * u) (256 ^ suc k) half) (ap plus (omega arith)))
      (λ d. by_test (eqb a 255)
      (λ c.
      let same = weight 255 (eqb-true a 255 c) in
      let half = upper (leb-true 128 b (rw (d, c) at e)) in
      rw (le-ltb (2 * v) (256 ^ suc (suc k)) (omega arith), le-ltb (2 * u) (256 ^ suc k) half) (ap minus (omega arith)))
      (λ c. let z : false ≡ true = rw (d, c) at e in impossible (cc)))

  -- any other first octet is needed: one octet less does not hold the value
  pub signed_needs : sign_bad a b ≡ false → Holds (suc k) (signed_value s p (suc (suc k))) → ⊥
  unfolding sign_bad signed_value
  signed_needs e =
      pick_cases (λ (z : Whole). Holds (suc k) z → ⊥) (ltb (2 * v) (256 ^ suc (suc k)))
      (λ h. by_test (eqb a 0)
      (λ d w. omega (arith, weight 0 (eqb-true a 0 d), upper (ltb-false b 128 (rw d at e))))
      (λ d w. omega (arith, value_first s p (suc k), mul-le-mul_right (256 ^ suc k) (first d))))
      (λ h. by_test (eqb a 255)
      (λ d w.
      let c : leb 128 b ≡ false = rw (eqb-true a 255 d) at e in
      omega (arith, weight 255 (eqb-true a 255 d), lower (leb-false 128 b c), ltb-false (2 * v) (256 ^ suc (suc k)) h))
      (λ d w. omega (arith, value_first s p (suc k), value_below s os (p + 1) (suc k), mul-le-mul_right (256 ^ suc k) (last d))))
    where
      first : eqb a 0 ≡ false → 1 ≤ a
      first d = omega (arith, eqb-false a 0 d)

      last : eqb a 255 ≡ false → a ≤ 254
      last d = omega (arith, eqb-false a 255 d, os p)

-- more octets hold what fewer do
holds_more : (n m : ℕ) → n ≤ m → (z : Whole) → Holds n z → Holds m z
holds_more n m h (plus x) w = let g : 256 ^ n ≤ 256 ^ m = pow-le-pow_right (lit< tt) h in omega arith
holds_more n m h (minus x) w = let g : 256 ^ n ≤ 256 ^ m = pow-le-pow_right (lit< tt) h in omega arith

-- "3 signed, .. two's complement, shortest": contents that keep the rule are as short as their value allows
pub signed_shortest : (xs : List ℕ) → Octets xs → short_signed xs ≡ true → (n : ℕ) → 1 ≤ n → Holds n (signed_value xs 0 (length xs)) → length xs ≤ n
signed_shortest [] os e n h w = impossible (cc)
signed_shortest (x ∷ []) os e n h w = h
signed_shortest (x ∷ y ∷ rest) os e n h w =
    by_test (leb (suc (suc (length rest))) n) (λ d. leb-true (suc (suc (length rest))) n d) (λ d.
    let bad : sign_bad x y ≡ false = non_true (sign_bad x y) (sign_exact x y ∙ e) in
    absurd (signed_needs (x ∷ y ∷ rest) os 0 (length rest) bad (holds_more n (suc (length rest)) (omega (arith, leb-false (suc (suc (length rest))) n d)) (signed_value (x ∷ y ∷ rest) 0 (suc (suc (length rest)))) w)))

-- at one width one value has one spelling
pub signed_same : (s t : List ℕ) → Octets s → Octets t → (p q n : ℕ) → signed_value s p n ≡ signed_value t q n → value_at s p n ≡ value_at t q n
unfolding signed_value
signed_same s t os ot p q n e =
    let i = value_below s os p n in
    let j = value_below t ot q n in
    by_test (ltb (2 * value_at s p n) (256 ^ n))
    (λ h. by_test (ltb (2 * value_at t q n) (256 ^ n))
    (λ k. let f : plus (value_at s p n) ≡ plus (value_at t q n) = rw (h, k) at e in cc)
    (λ k. let f : plus (value_at s p n) ≡ minus (256 ^ n - value_at t q n) = rw (h, k) at e in cc))
    (λ h. by_test (ltb (2 * value_at t q n) (256 ^ n))
    (λ k. let f : minus (256 ^ n - value_at s p n) ≡ plus (value_at t q n) = rw (h, k) at e in cc)
    (λ k. let f : minus (256 ^ n - value_at s p n) ≡ minus (256 ^ n - value_at t q n) = rw (h, k) at e in let g : 256 ^ n - value_at s p n ≡ 256 ^ n - value_at t q n = cc in omega arith))

-- one value has one shortest form
same_octets_lem : (xs ys : List ℕ) → Octets xs → Octets ys → length xs ≡ length ys → value_at xs 0 (length xs) ≡ value_at ys 0 (length xs) → xs ≡ ys
same_octets_lem xs ys os ot l e =
    ext_get_or 0 xs ys l (λ i w. let z : 0 + i ≡ i = omega arith in let g : get_or xs (0 + i) 0 ≡ get_or ys (0 + i) 0 = value_same xs ys os ot 0 0 (length xs) e i w in rw z at g)

some_signed : (xs : List ℕ) → short_signed xs ≡ true → 1 ≤ length xs
some_signed [] e = impossible (cc)
some_signed (x ∷ xs) e = omega arith

pub unsigned_unique : (xs ys : List ℕ) → Octets xs → Octets ys → length xs ≤ 4 → length ys ≤ 4 → short_unsigned xs ≡ true → short_unsigned ys ≡ true
    → value_at xs 0 (length xs) ≡ value_at ys 0 (length ys) → xs ≡ ys
unsigned_unique xs ys os ot h k e d f =
    let l : length xs ≡ length ys = sym (unsigned_shortest xs os h e) ∙ ap width_of f ∙ unsigned_shortest ys ot k d in
    same_octets_lem xs ys os ot l (rw (← l) at f)

pub signed_unique : (xs ys : List ℕ) → Octets xs → Octets ys → short_signed xs ≡ true → short_signed ys ≡ true → signed_value xs 0 (length xs) ≡ signed_value ys 0 (length ys) → xs ≡ ys
signed_unique xs ys os ot e d f =
    let i : length xs ≤ length ys = signed_shortest xs os e (length ys) (some_signed ys d) (rw f (signed_holds ys ot 0 (length ys))) in
    let j : length ys ≤ length xs = signed_shortest ys ot d (length xs) (some_signed xs e) (rw (← f) (signed_holds xs os 0 (length xs))) in
    let l : length xs ≡ length ys = omega arith in
    same_octets_lem xs ys os ot l (signed_same xs ys os ot 0 0 (length xs) (rw (← l) at f))
