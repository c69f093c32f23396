-- How many segments there are: as few as hold the parameters, and at least one.
use Prim.Native.Nat.{ℕ, zero, suc, ◌+◌, ◌-◌, ◌*◌, ◌/◌, ◌%◌, ◌≤◌, ◌<◌, min, max}
use native.Mathlib.Omega.{arith}
use native.Mathlib.Nat.{suc-mul, add-mul, one-mul, mul-le-mul, mul-le-mul_right, div-mul-le_self, lt-div-mul-add, le-div_iff_mul-le}
use mathlib.Core.Path.{◌≡◌, refl, sym}
use mathlib.Core.List.{List, ◌++◌}
use Rattle.std.proofs.lemmas.Grind.{div_ceil_times}
use lib.Dec.{eqb, ltb}
use lib.ListN.{length, take, drop, length-drop}
use lib.Seq.{length-take-le, take-add}
use borrow.Author.Tests.{eqb-true, eqb-false, ltb-true, ltb-false}
use Rattle.octets.specs.Choice.{by_test}
use Rattle.cutter.specs.Layout.{segments_of, part_of}

-- c segments of each octets hold n, and fewer do not
pub record Least (each n c : ℕ) : Type 0 where
  pub some : 1 ≤ c
  pub holds : n ≤ c * each
  pub needed : 0 < n → (c - 1) * each < n
  pub empty : n ≡ 0 → c ≡ 1

-- one segment less
less : (c each : ℕ) → 1 ≤ c → (c - 1) * each + each ≡ c * each
less zero each h = absurd (omega arith)
less (suc c) each h = let z : suc c - 1 ≡ c = omega arith in rw (z, suc-mul c each)

quotient : (each n : ℕ) → 0 < each → 0 < n → Least each n ((n + each - 1) / each)
quotient each n h p =
    let q = (n + each - 1) / each in
    let one : 1 ≤ q = (le-div_iff_mul-le h).1 (rw one-mul (omega arith)) in
    let low = div-mul-le_self (n + each - 1) each in
    let high = lt-div-mul-add {a = n + each - 1} {b = each} h in
    let l = less q each one in
    record { some = one; holds = omega arith; needed = λ _. omega arith; empty = λ e. omega arith }

pub segments_least : (each n : ℕ) → 0 < each → Least each n (segments_of each n)
unfolding segments_of
segments_least each n h =
    by_test (eqb n 0)
    (λ e. let z = eqb-true n 0 e in rw e (record { some = omega arith; holds = omega arith; needed = λ p. omega arith; empty = λ _. refl }))
    (λ e. rw e (quotient each n h (omega (arith, eqb-false n 0 e))))

-- where there are two segments there are octets
some_octets_lem : {each n c : ℕ} → Least each n c → 1 < c → 0 < n
some_octets_lem {each} {n} {c} l h = by_test (eqb n 0) (λ e. omega (arith, l.empty (eqb-true n 0 e))) (λ e. omega (arith, eqb-false n 0 e))

-- the headers of as many segments as may be
pub headers_small : (c h : ℕ) → c ≤ 256 → h ≤ 6 → c * (2 + h) ≤ 2048
headers_small c h p q = mul-le-mul {n₁ = c} {m₁ = 2 + h} {n₂ = 256} {m₂ = 8} p (omega arith)

-- more segments than 256 where the parameters are more than 256 of them hold, and only there
pub many_octets : (each n : ℕ) → 0 < each → 256 < segments_of each n → 256 * each < n
many_octets each n h m =
    let l = segments_least each n h in
    omega (arith, l.needed (some_octets_lem l (omega arith)), mul-le-mul_right {m = 256} {n = segments_of each n - 1} each (omega arith))

pub octets_many : (each n : ℕ) → 0 < each → 256 * each < n → 256 < segments_of each n
octets_many each n h m =
    by_test (ltb 256 (segments_of each n)) (λ e. ltb-true _ _ e)
    (λ e. absurd (omega (arith, (segments_least each n h).holds, mul-le-mul_right {m = segments_of each n} {n = 256} each (ltb-false 256 (segments_of each n) e))))

-- every part but the last is whole
pub part_length : (each k : ℕ) (params : List ℕ) → 0 < each → k + 1 < segments_of each (length params) → length (part_of each k params) ≡ each
part_length each k params h m =
    let n = length params in
    let c = segments_of each n in
    let l = segments_least each n h in
    let a : (k + 1) * each ≤ (c - 1) * each = mul-le-mul_right each (omega arith) in
    let b : (k + 1) * each ≡ k * each + 1 * each = add-mul k 1 each in
    length-take-le each (drop (k * each) params) (rw length-drop (omega (arith, l.needed (some_octets_lem l (omega arith)))))

-- the parts before the k-th, and the k-th
pub parts_join : (each k : ℕ) (params : List ℕ) → take (k * each) params ++ part_of each k params ≡ take ((k + 1) * each) params
parts_join each k params = rw (add-mul k 1 each, one-mul) (sym (take-add (k * each) each params))

-- rounded up by the library, and at least one
pub segments_ceil : (each n : ℕ) → 0 < each → max (n / each + min 1 (n % each)) 1 ≡ segments_of each n
unfolding segments_of
segments_ceil each n h =
    let c = n / each + min 1 (n % each) in
    let t = div_ceil_times n each h in
    let q = (n + each - 1) / each in
    let one = less c each in
    by_test (eqb n 0)
    (λ e. rw e (by_test (ltb 0 c)
    (λ p. absurd (omega (arith, eqb-true n 0 e, t.1, one (ltb-true 0 c p))))
    (λ p. omega (arith, ltb-false 0 c p))))
    (λ e.
    let some : 1 ≤ q = (le-div_iff_mul-le h).1 (rw one-mul (omega (arith, eqb-false n 0 e))) in
    let low : c ≤ q = (le-div_iff_mul-le h).1 (omega (arith, t.1)) in
    let high : q ≤ c = by_test (ltb c q)
    (λ p. let m : suc c * each ≤ n + each - 1 = (le-div_iff_mul-le h).0 (omega (arith, ltb-true c q p)) in absurd (omega (arith, m, suc-mul c each, t.0)))
    (λ p. ltb-false c q p) in
    rw e (omega arith))

-- a part begins within the parameters
pub part_starts : (each n k : ℕ) → 0 < each → k < segments_of each n → k * each ≤ n
part_starts each n k h m =
    let c = segments_of each n in
    let l = segments_least each n h in
    let a : k * each ≤ (c - 1) * each = mul-le-mul_right each (omega arith) in
    by_test (eqb n 0)
    (λ e. let z : k ≡ 0 = omega (arith, l.empty (eqb-true n 0 e)) in rw z (omega arith))
    (λ e. omega (arith, l.needed (omega (arith, eqb-false n 0 e))))
