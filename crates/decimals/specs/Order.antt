-- Which of two big numbers is larger: the first limb from above that differs decides.
use Rattle.std.specs.Prelude.{ℕ, zero, suc, ◌+◌, ◌*◌, ◌^◌, ◌≤◌, ◌<◌, ◌≡◌, List, length, get_or, set, eqb}
use Rattle.std.proofs.Common.{arith, pow-suc, add-mul, mul-le-mul_right, eq-or-lt_of_le, ⊎_elim, get_or-set_same, get_or-set_other, eqb-true}
use Rattle.std.proofs.lemmas.Bool.{eqb-false}
use Rattle.octets.specs.Choice.{by_test}
use Rattle.decimals.specs.Worth.{worth}

-- every limb is below 2^32
abbrev pub Limbs : List ℕ → Type 0
Limbs a = (j : ℕ) → get_or a j 0 < 4294967296

pub limbs_set : (a : List ℕ) (i v : ℕ) → i < length a → v < 4294967296 → Limbs a → Limbs (set a i v)
limbs_set a i v l h k j =
    by_test (eqb j i)
    (λ e. rw (eqb-true j i e, get_or-set_same a i v 0 l) h)
    (λ e. rw (get_or-set_other a i j v 0 (eqb-false j i e)) (k j))

-- n limbs hold less than 2^32 to the n
pub worth_below : (a : List ℕ) → Limbs a → (n : ℕ) → worth a n < 4294967296 ^ n
unfolding worth
worth_below a la zero = omega arith
worth_below a la (suc n) =
    let l = la n in
    let d : get_or a n 0 + 1 ≤ 4294967296 = omega arith in
    let p : (get_or a n 0 + 1) * 4294967296 ^ n ≤ 4294967296 * 4294967296 ^ n = mul-le-mul_right (4294967296 ^ n) d in
    omega (arith, worth_below a la n, pow-suc 4294967296 n, add-mul (get_or a n 0) 1 (4294967296 ^ n))

-- equal above limb k, and smaller there
pub worth_first : (a b : List ℕ) → Limbs a → (k n : ℕ) → k < n → ((j : ℕ) → k < j → j < n → get_or a j 0 ≡ get_or b j 0) → get_or a k 0 < get_or b k 0 → worth a n < worth b n
unfolding worth
worth_first a b la k zero h same less = absurd (omega arith)
worth_first a b la k (suc m) h same less =
    let at_most : k ≤ m = omega arith in
    ⊎_elim
    (λ e. let l : get_or a m 0 < get_or b m 0 = rw e at less in
    let d : get_or a m 0 + 1 ≤ get_or b m 0 = omega arith in
    let p : (get_or a m 0 + 1) * 4294967296 ^ m ≤ get_or b m 0 * 4294967296 ^ m = mul-le-mul_right (4294967296 ^ m) d in
    omega (arith, worth_below a la m, add-mul (get_or a m 0) 1 (4294967296 ^ m)))
    (λ l. let q = worth_first a b la k m l (λ j w z. same j w (omega arith)) less in
    let e : get_or a m 0 ≡ get_or b m 0 = same m l (omega arith) in
    rw e (omega arith))
    (eq-or-lt_of_le at_most)
