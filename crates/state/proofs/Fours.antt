-- Octets taken four at a time as one number, and numbers one over the other: what it says of the octets that such a number is 0, or two of them the same.
use Prim.Native.Nat.{ℕ, ◌+◌, ◌≤◌, ◌<◌}
use native.Mathlib.Omega.{arith}
use mathlib.Core.Path.{◌≡◌, sym, ◌∙◌}
use mathlib.Core.List.{List}
use lib.Bits.{bit_or, or_add_and, and_le_l, and_le_r}
use lib.Dec.{eqb, ltb, lit<}
use borrow.Author.Tests.{ltb-true, ltb-false, eqb-true, eqb-false}
use Rattle.octets.specs.Choice.{by_test}
use Rattle.octets.specs.Reading.{oct}
use Rattle.state.specs.Judging.{four_at, NoAddress}

-- ---- of numbers one over the other none is above the outcome, and with 0 each is 0
pub or_left : (a b : ℕ) → a ≤ bit_or a b
or_left a b = let e = or_add_and a b in let h = and_le_r a b in omega arith

pub or_right : (a b : ℕ) → b ≤ bit_or a b
or_right a b = let e = or_add_and a b in let h = and_le_l a b in omega arith

or_within : (a b r : ℕ) → bit_or a b ≤ r → (a ≤ r) × (b ≤ r)
or_within a b r h = (omega (arith, or_left a b), omega (arith, or_right a b))

pub or_three : (a b c r : ℕ) → bit_or (bit_or a b) c ≤ r → (a ≤ r) × (b ≤ r) × (c ≤ r)
or_three a b c r h = let x = or_within (bit_or a b) c r h in let y = or_within a b r x.0 in (y.0, y.1, x.1)

pub or_zero_lem : (a b : ℕ) → bit_or a b ≡ 0 → (a ≡ 0) × (b ≡ 0)
or_zero_lem a b e = let h = or_within a b 0 (omega arith) in let l = h.0 in let r = h.1 in (omega arith, omega arith)

-- ---- four octets as one number: with 0 each is 0; octets that are the same are one number
pub four_zeros : (o : List ℕ) (at : ℕ) → four_at o at ≡ 0 → (k : ℕ) → at ≤ k → k < at + 4 → oct o k ≡ 0
unfolding four_at
four_zeros o at e k l h =
    by_test (eqb k at) (λ t. rw (eqb-true k at t) (omega arith)) (λ f₀.
    by_test (eqb k (at + 1)) (λ t. rw (eqb-true k (at + 1) t) (omega arith)) (λ f₁.
    by_test (eqb k (at + 2)) (λ t. rw (eqb-true k (at + 2) t) (omega arith)) (λ f₂.
    let n₀ = eqb-false k at f₀ in
    let n₁ = eqb-false k (at + 1) f₁ in
    let n₂ = eqb-false k (at + 2) f₂ in
    let z : k ≡ at + 3 = omega arith in
    rw z (omega arith))))

pub four_same : (o : List ℕ) (a b : ℕ) → ((k : ℕ) → k < 4 → oct o (a + k) ≡ oct o (b + k)) → four_at o a ≡ four_at o b
unfolding four_at
four_same o a b e =
    let za : a + 0 ≡ a = omega arith in
    let zb : b + 0 ≡ b = omega arith in
    let e₀ : oct o a ≡ oct o b = rw (za, zb) at (e 0 (lit< tt)) in
    rw (e₀, e 1 (lit< tt), e 2 (lit< tt), e 3 (lit< tt))

-- ---- the addresses of a slot at a place, in six numbers of which the last two overlap
pub addressed_none : (o : List ℕ) (at a b c d e f : ℕ) → a ≡ four_at o (at + 9) → b ≡ four_at o (at + 13) → c ≡ four_at o (at + 17) → d ≡ four_at o (at + 21)
    → e ≡ four_at o (at + 25) → f ≡ four_at o (at + 27) → bit_or (bit_or (bit_or (bit_or (bit_or a b) c) d) e) f ≡ 0 → NoAddress o at
addressed_none o at a b c d e f ea eb ec ed ee ef z k l h =
    let s₅ = or_zero_lem _ _ z in
    let s₄ = or_zero_lem _ _ s₅.0 in
    let s₃ = or_zero_lem _ _ s₄.0 in
    let s₂ = or_zero_lem _ _ s₃.0 in
    let s₁ = or_zero_lem _ _ s₂.0 in
    by_test (ltb k 13) (λ t. let m = ltb-true k 13 t in four_zeros o (at + 9) (sym ea ∙ s₁.0) (at + k) (omega arith) (omega arith)) (λ f₁. let n₁ = ltb-false k 13 f₁ in
    by_test (ltb k 17) (λ t. let m = ltb-true k 17 t in four_zeros o (at + 13) (sym eb ∙ s₁.1) (at + k) (omega arith) (omega arith)) (λ f₂. let n₂ = ltb-false k 17 f₂ in
    by_test (ltb k 21) (λ t. let m = ltb-true k 21 t in four_zeros o (at + 17) (sym ec ∙ s₂.1) (at + k) (omega arith) (omega arith)) (λ f₃. let n₃ = ltb-false k 21 f₃ in
    by_test (ltb k 25) (λ t. let m = ltb-true k 25 t in four_zeros o (at + 21) (sym ed ∙ s₃.1) (at + k) (omega arith) (omega arith)) (λ f₄. let n₄ = ltb-false k 25 f₄ in
    by_test (ltb k 29) (λ t. let m = ltb-true k 29 t in four_zeros o (at + 25) (sym ee ∙ s₄.1) (at + k) (omega arith) (omega arith)) (λ f₅. let n₅ = ltb-false k 29 f₅ in
    four_zeros o (at + 27) (sym ef ∙ s₅.1) (at + k) (omega arith) (omega arith))))))
