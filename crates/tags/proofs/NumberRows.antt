-- The tag octet by itself and the number: what they say, by the words of the rows.
use Prim.Native.Nat.{ℕ, ◌+◌, ◌/◌, ◌%◌, ◌≤◌, ◌<◌}
use native.Mathlib.Omega.{arith}
use mathlib.Core.Path.{◌≡◌, refl}
use mathlib.Core.Logic.{◌⊎◌, inl, inr}
use mathlib.Core.List.{List}
use lib.ListN.{length}
use lib.Dec.{ltb, leb, eqb}
use borrow.Author.Tests.{ltb-true, ltb-false, leb-true, leb-false, eqb-true, eqb-false, lt-ltb, le-ltb, lt-leb, le-leb, ne_eqb}
use Rattle.octets.specs.Choice.{pick_cases, by_test}
use Rattle.octets.specs.Reading.{oct, Octets}
use Rattle.tags.specs.Reading.{number_at, first_rule}
use Rattle.tags.specs.Rows.{number_bits, length_bits, IsContext, IsApplication, NumberTo}
use Rattle.tags.specs.Rows.NumberTo.{number_inside, number_next}
use Rattle.tags.specs.Head.{Field}
use Rattle.tags.specs.Head.Field.{Is, Bad}

-- ---- the tag octet by itself
-- an application tag that it does not refuse
pub record Plain (b : ℕ) : Type 0 where
  pub class : IsApplication b
  pub bits : length_bits b ≤ 5
  pub number : (number_bits b ≡ 15) ⊎ (number_bits b ≤ 12)
  pub boolean : number_bits b ≡ 1 → length_bits b ≤ 1

abbrev pub Fine : ℕ → Type 0
Fine b = IsContext b ⊎ Plain b

pub data FirstSays (b x : ℕ) : Type 0 where
  first_fine : x ≡ 0 → Fine b → FirstSays b x
  first_type : x ≡ 31 → IsApplication b → 12 < number_bits b → number_bits b < 15 → FirstSays b x
  first_six : x ≡ 32 → IsApplication b → (number_bits b ≤ 12) ⊎ (number_bits b ≡ 15) → 6 ≤ length_bits b → FirstSays b x
  first_boolean : x ≡ 32 → IsApplication b → number_bits b ≡ 1 → 2 ≤ length_bits b → length_bits b ≤ 5 → FirstSays b x

pub first_says : (b : ℕ) → b < 256 → FirstSays b (first_rule b)
unfolding first_rule
first_says b small =
    pick_cases F (eqb (b % 16 / 8) 1) (λ e. first_fine refl (inl (eqb-true (b % 16 / 8) 1 e))) (λ e0.
    let app : b % 16 / 8 ≡ 0 = omega (arith, eqb-false (b % 16 / 8) 1 e0) in
    pick_cases F (eqb (b / 16) 15)
    (λ e. let n : b / 16 ≡ 15 = eqb-true (b / 16) 15 e in
    pick_cases F (ltb (b % 8) 6)
    (λ l. first_fine refl (inr (record { class = app; bits = omega (arith, ltb-true (b % 8) 6 l); number = inl n; boolean = λ one. absurd (omega arith) })))
    (λ l. first_six refl app (inr n) (ltb-false (b % 8) 6 l))) (λ e1.
    pick_cases F (ltb 12 (b / 16)) (λ e. first_type refl app (ltb-true 12 (b / 16) e) (omega (arith, eqb-false (b / 16) 15 e1))) (λ e2.
    let known : b / 16 ≤ 12 = ltb-false 12 (b / 16) e2 in
    pick_cases F (ltb 5 (b % 8)) (λ e. first_six refl app (inl known) (ltb-true 5 (b % 8) e)) (λ e3.
    let five : b % 8 ≤ 5 = ltb-false 5 (b % 8) e3 in
    pick_cases F (eqb (b / 16) 1)
    (λ e. let one : b / 16 ≡ 1 = eqb-true (b / 16) 1 e in
    pick_cases F (ltb 1 (b % 8)) (λ l. first_boolean refl app one (ltb-true 1 (b % 8) l) five)
    (λ l. first_fine refl (inr (record { class = app; bits = five; number = inr known; boolean = λ _. ltb-false 1 (b % 8) l }))))
    (λ e. first_fine refl (inr (record { class = app; bits = five; number = inr known; boolean = λ one. absurd (eqb-false (b / 16) 1 e one) })))))))
  where
    F : ℕ → Type 0
    F = FirstSays b

pub first_none : (b : ℕ) → Fine b → first_rule b ≡ 0
unfolding first_rule
first_none b (inl c) = rw c
first_none b (inr a) = by a.number
  where
    by : (number_bits b ≡ 15) ⊎ (number_bits b ≤ 12) → first_rule b ≡ 0
    by (inl n) = rw (a.class, n, lt-ltb (b % 8) 6 (omega arith))
    by (inr n) =
        by_test (eqb (b / 16) 1)
        (λ e. let one : b / 16 ≡ 1 = eqb-true (b / 16) 1 e in rw (a.class, one, le-ltb 5 (b % 8) a.bits, le-ltb 1 (b % 8) (a.boolean one)))
        (λ e. rw (a.class, ne_eqb (b / 16) 15 (omega arith), le-ltb 12 (b / 16) n, le-ltb 5 (b % 8) a.bits, e))

-- ---- the number
pub data NumberBad (s : List ℕ) (at x : ℕ) : Type 0 where
  number_missing : x ≡ 30 → number_bits (oct s at) ≡ 15 → at + 1 ≡ length s → NumberBad s at x
  number_wrong : x ≡ 31 → number_bits (oct s at) ≡ 15 → at + 1 < length s → (oct s (at + 1) < 15) ⊎ (oct s (at + 1) ≡ 255) → NumberBad s at x

abbrev pub NumberSays : List ℕ → ℕ → Field → Type 0
NumberSays s at (Is n p) = NumberTo s at n p
NumberSays s at (Bad x) = NumberBad s at x

pub number_says : (s : List ℕ) → Octets s → (at : ℕ) → at < length s → NumberSays s at (number_at s at)
unfolding number_at
number_says s os at here =
    pick_cases P (leb (length s) at) (λ h. absurd (omega (arith, leb-true (length s) at h))) (λ _.
    pick_cases P (ltb (oct s at / 16) 15) (λ h. number_inside (omega (arith, ltb-true (oct s at / 16) 15 h)) refl refl) (λ h1.
    let n : oct s at / 16 ≡ 15 = omega (arith, ltb-false (oct s at / 16) 15 h1, os at) in
    pick_cases P (leb (length s) (at + 1)) (λ h. number_missing refl n (omega (arith, leb-true (length s) (at + 1) h))) (λ h2.
    let next : at + 1 < length s = leb-false (length s) (at + 1) h2 in
    pick_cases P (ltb (oct s (at + 1)) 15) (λ h. number_wrong refl n next (inl (ltb-true (oct s (at + 1)) 15 h))) (λ h3.
    pick_cases P (ltb 254 (oct s (at + 1))) (λ h. number_wrong refl n next (inr (omega (arith, ltb-true 254 (oct s (at + 1)) h, os (at + 1)))))
    (λ h4. number_next n next (ltb-false (oct s (at + 1)) 15 h3) (ltb-false 254 (oct s (at + 1)) h4) refl refl)))))
  where
    P : Field → Type 0
    P = NumberSays s at

pub number_is : (s : List ℕ) (at n p : ℕ) → at < length s → NumberTo s at n p → number_at s at ≡ Is n p
unfolding number_at
number_is s at n p here (number_inside low e d) = rw (e, d, lt-leb (length s) at here, lt-ltb (oct s at / 16) 15 (omega arith))
number_is s at n p here (number_next f next low high e d) =
    rw (e, d, lt-leb (length s) at here, f, lt-leb (length s) (at + 1) next, le-ltb (oct s (at + 1)) 15 low, le-ltb 254 (oct s (at + 1)) high)

pub number_bad : (s : List ℕ) (at x : ℕ) → at < length s → NumberBad s at x → number_at s at ≡ Bad x
unfolding number_at
number_bad s at x here (number_missing e f end) = rw (e, lt-leb (length s) at here, f, le-leb (length s) (at + 1) (omega arith))
number_bad s at x here (number_wrong e f next (inl low)) = rw (e, lt-leb (length s) at here, f, lt-leb (length s) (at + 1) next, lt-ltb (oct s (at + 1)) 15 low)
number_bad s at x here (number_wrong e f next (inr high)) = rw (e, lt-leb (length s) at here, f, lt-leb (length s) (at + 1) next, high)

pub number_within : (s : List ℕ) (at n p : ℕ) → at < length s → NumberTo s at n p → p ≤ length s
number_within s at n p here (number_inside low e d) = omega arith
number_within s at n p here (number_next f next low high e d) = omega arith
