-- What a big number is worth: low limb first, each limb 2^32 times the one before it.
use Rattle.std.specs.Prelude.{ℕ, zero, suc, ◌+◌, ◌*◌, ◌^◌, ◌≤◌, ◌<◌, ◌≡◌, refl, List, length, get_or, set}
use Rattle.std.proofs.Common.{arith, add-one, pow-suc, mul_comm, mul_assoc, add-mul, mul-add, sym, ap, ◌∙◌, get_or-set_same, get_or-set_other}

-- the first n limbs as one number
unfoldable pub worth : List ℕ → ℕ → ℕ
worth a zero = 0
worth a (suc i) = worth a i + get_or a i 0 * 4294967296 ^ i

-- from limb i on the two are the same
abbrev pub Above : ℕ → List ℕ → List ℕ → Type 0
Above i a b = (j : ℕ) → i ≤ j → get_or a j 0 ≡ get_or b j 0

pub worth_none : (a : List ℕ) → worth a 0 ≡ 0
unfolding worth
worth_none a = refl

pub worth_more : (a : List ℕ) (i : ℕ) → worth a (i + 1) ≡ worth a i + get_or a i 0 * 4294967296 ^ i
unfolding worth
worth_more a i = rw (add-one i)

-- the worth looks at its own limbs alone
pub worth_same : (a b : List ℕ) (n : ℕ) → ((j : ℕ) → j < n → get_or a j 0 ≡ get_or b j 0) → worth a n ≡ worth b n
unfolding worth
worth_same a b zero h = refl
worth_same a b (suc n) h = rw (worth_same a b n (λ j w. h j (omega arith)), h n (omega arith))

-- a limb that is stored counts, and those below it count as before
pub worth_store : (a : List ℕ) (i v : ℕ) → i < length a → worth (set a i v) (i + 1) ≡ worth a i + v * 4294967296 ^ i
worth_store a i v h =
    let e : worth (set a i v) i ≡ worth a i = worth_same (set a i v) a i (λ j w. get_or-set_other a i j v 0 (λ z. omega arith)) in
    rw (worth_more (set a i v) i, e, get_or-set_same a i v 0 h)

pub above_set : (a b : List ℕ) (i v : ℕ) → Above i a b → Above (i + 1) (set a i v) b
above_set a b i v h j w = get_or-set_other a i j v 0 (λ z. omega arith) ∙ h j (omega arith)

pow_more : (i : ℕ) → 4294967296 ^ (i + 1) ≡ 4294967296 ^ i * 4294967296
pow_more i = rw (add-one i) (pow-suc 4294967296 i)

-- the place of what a column carries
carried : (h p : ℕ) → h * 4294967296 * p ≡ h * (p * 4294967296)
carried h p = rw (mul_assoc h 4294967296 p, mul_comm 4294967296 p)

total : (w l h v c z k : ℕ) → w + c ≡ z → l + k ≡ v + c → k ≡ h → w + l + h ≡ z + v
total w l h v c z k p q r = omega arith

-- a column of weight p with the total v and what came in: its limb and what it carries
column : (p w c z lo hi v : ℕ) → w + c * p ≡ z → lo + hi * 4294967296 ≡ v + c → w + lo * p + hi * (p * 4294967296) ≡ z + v * p
column p w c z lo hi v h e =
    let f : (lo + hi * 4294967296) * p ≡ (v + c) * p = ap (λ (x : ℕ). x * p) e in
    let g : lo * p + hi * 4294967296 * p ≡ v * p + c * p = sym (add-mul lo (hi * 4294967296) p) ∙ f ∙ add-mul v c p in
    total w (lo * p) (hi * (p * 4294967296)) (v * p) (c * p) z (hi * 4294967296 * p) h g (carried hi p)

-- one limb of a product
pub scaled : (a b : List ℕ) (i by c lo hi : ℕ) → i < length a → Above i a b → worth a i + c * 4294967296 ^ i ≡ by * worth b i → lo + hi * 4294967296 ≡ get_or a i 0 * by + c → worth (set a i lo) (i + 1) + hi * 4294967296 ^ (i + 1) ≡ by * worth b (i + 1)
scaled a b i by c lo hi l k h e =
    let x : get_or b i 0 ≡ get_or a i 0 = sym (k i (omega arith)) in
    let m : by * (worth b i + get_or b i 0 * 4294967296 ^ i) ≡ by * worth b i + get_or a i 0 * by * 4294967296 ^ i =
    rw (x, mul-add by (worth b i) (get_or a i 0 * 4294967296 ^ i), ← mul_assoc by (get_or a i 0) (4294967296 ^ i), mul_comm by (get_or a i 0)) in
    rw (worth_store a i lo l, worth_more b i, pow_more i) (column (4294967296 ^ i) (worth a i) c (by * worth b i) lo hi (get_or a i 0 * by) h e ∙ sym m)

swap : (a b c d : ℕ) → a + b + (c + d) ≡ a + c + (b + d)
swap a b c d = omega arith

-- one limb of a sum
pub added : (a b d : List ℕ) (i c lo hi : ℕ) → i < length a → Above i a b → worth a i + c * 4294967296 ^ i ≡ worth b i + worth d i → lo + hi * 4294967296 ≡ get_or a i 0 + get_or d i 0 + c → worth (set a i lo) (i + 1) + hi * 4294967296 ^ (i + 1) ≡ worth b (i + 1) + worth d (i + 1)
added a b d i c lo hi l k h e =
    let x : get_or b i 0 ≡ get_or a i 0 = sym (k i (omega arith)) in
    let m : worth b i + worth d i + (get_or a i 0 + get_or d i 0) * 4294967296 ^ i ≡ worth b i + get_or b i 0 * 4294967296 ^ i + (worth d i + get_or d i 0 * 4294967296 ^ i) =
    rw (x, add-mul (get_or a i 0) (get_or d i 0) (4294967296 ^ i)) (swap (worth b i) (worth d i) (get_or a i 0 * 4294967296 ^ i) (get_or d i 0 * 4294967296 ^ i)) in
    rw (worth_store a i lo l, worth_more b i, worth_more d i, pow_more i) (column (4294967296 ^ i) (worth a i) c (worth b i + worth d i) lo hi (get_or a i 0 + get_or d i 0) h e ∙ m)

rest : (w z b c l y x d : ℕ) → w + z ≡ b + c → l + y + c ≡ x + d → w + l + (z + y) ≡ b + x + d
rest w z b c l y x d p q = omega arith

-- one limb of a difference
pub taken : (a b d : List ℕ) (i c lo hi : ℕ) → i < length a → Above i a b → worth a i + worth d i ≡ worth b i + c * 4294967296 ^ i → lo + get_or d i 0 + c ≡ get_or a i 0 + hi * 4294967296 → worth (set a i lo) (i + 1) + worth d (i + 1) ≡ worth b (i + 1) + hi * 4294967296 ^ (i + 1)
taken a b d i c lo hi l k h e =
    let x : get_or b i 0 ≡ get_or a i 0 = sym (k i (omega arith)) in
    let f : (lo + get_or d i 0 + c) * 4294967296 ^ i ≡ (get_or a i 0 + hi * 4294967296) * 4294967296 ^ i = ap (λ (x : ℕ). x * 4294967296 ^ i) e in
    let g : lo * 4294967296 ^ i + get_or d i 0 * 4294967296 ^ i + c * 4294967296 ^ i ≡ get_or a i 0 * 4294967296 ^ i + hi * (4294967296 ^ i * 4294967296) =
    rw (← carried hi (4294967296 ^ i), ← add-mul lo (get_or d i 0) (4294967296 ^ i), ← add-mul (lo + get_or d i 0) c (4294967296 ^ i), ← add-mul (get_or a i 0) (hi * 4294967296) (4294967296 ^ i)) f in
    rw (worth_store a i lo l, worth_more b i, worth_more d i, pow_more i, x)
    (rest (worth a i) (worth d i) (worth b i) (c * 4294967296 ^ i) (lo * 4294967296 ^ i) (get_or d i 0 * 4294967296 ^ i) (get_or a i 0 * 4294967296 ^ i) (hi * (4294967296 ^ i * 4294967296)) h g)
