-- A good head lies within the octets: its contents begin after the tag and end before the octets do, and its values are small.
use Prim.Native.Nat.{ℕ, ◌+◌, ◌-◌, ◌/◌, ◌%◌, ◌≤◌, ◌<◌}
use native.Mathlib.Omega.{arith}
use mathlib.Core.Path.{◌≡◌, refl, ◌∙◌}
use mathlib.Core.List.{List}
use mathlib.Core.Bool.{false}
use lib.ListN.{length}
use lib.Dec.{ltb, leb, eqb}
use borrow.Author.Tests.{ltb-true, ltb-false, leb-false, eqb-true, eqb-false, ne_eqb, le-ltb}
use Rattle.octets.specs.Choice.{pick_cases, by_test}
use Rattle.octets.specs.Reading.{oct, be16}
use Rattle.tags.specs.Types.{longest, least, most}
use Rattle.tags.specs.Reading.{and_then, number_at, two_at, four_at, length_at, first_rule, first_content, contents_at, whole_at, sign_bad, signed_at, context_at, application_at, head_at}
use Rattle.tags.specs.Head.{Field}
use Rattle.tags.specs.Head.Field.{Is, Bad}
use Rattle.tags.specs.Head.{Tag}
use Rattle.tags.specs.Head.Tag.{Item, Opening, Closing, Refused}

pub record ItemIn (s : List ℕ) (at k n v p l : ℕ) : Type 0 where
  pub class : k ≤ 1
  pub number : n ≤ 254
  pub value : v ≤ 1
  pub on : at < p
  pub within : p + l ≤ length s

pub record GroupIn (s : List ℕ) (at n p : ℕ) : Type 0 where
  pub number : n ≤ 254
  pub on : at < p
  pub within : p ≤ length s

abbrev pub TagIn : List ℕ → ℕ → Tag → Type 0
TagIn s at (Item k n v p l) = ItemIn s at k n v p l
TagIn s at (Opening n p) = GroupIn s at n p
TagIn s at (Closing n p) = GroupIn s at n p
TagIn s at (Refused x) = Unit {0}

-- a number up to 254 that ends after its octet; one below 15 is in the tag octet
abbrev pub NumberIn : List ℕ → ℕ → Field → Type 0
NumberIn s at (Is v q) = (v ≤ 254) × (at < q) × (q ≤ length s) × (v < 15 → oct s at / 16 ≡ v)
NumberIn s at (Bad x) = Unit {0}

-- a length up to the longest that ends at the place or after it
abbrev pub LengthIn : List ℕ → ℕ → Field → Type 0
LengthIn s at (Is v q) = (v ≤ longest) × (at ≤ q) × (q ≤ length s)
LengthIn s at (Bad x) = Unit {0}

-- what follows a field, by what is known of it
pub and_then_lem : (P : Tag → Type 0) (Q : Field → Type 0) (f : Field) {k : ℕ → ℕ → Tag} → Q f → ((v p : ℕ) → Q (Is v p) → P (k v p)) → ((x : ℕ) → Q (Bad x) → P (Refused x)) → P (and_then f k)
and_then_lem P Q (Is v p) q f g = f v p q
and_then_lem P Q (Bad x) q f g = g x q

pub number_in : (s : List ℕ) (at : ℕ) → NumberIn s at (number_at s at)
unfolding number_at
number_in s at =
    pick_cases P (leb (length s) at) (λ _. tt) (λ h.
    pick_cases P (ltb (oct s at / 16) 15) (λ h1. (omega (arith, ltb-true), omega arith, omega (arith, leb-false), λ _. refl)) (λ _.
    pick_cases P (leb (length s) (at + 1)) (λ _. tt) (λ h2.
    pick_cases P (ltb (oct s (at + 1)) 15) (λ _. tt) (λ h3.
    pick_cases P (ltb 254 (oct s (at + 1))) (λ _. tt) (λ h4. (omega (arith, ltb-false), omega arith, omega (arith, leb-false), λ w. omega (arith, ltb-false)))))))
  where
    P : Field → Type 0
    P = NumberIn s at

two_in : (s : List ℕ) (at : ℕ) → LengthIn s at (two_at s (at + 1))
unfolding two_at
two_in s at =
    pick_cases P (leb (length s) (at + 1)) (λ _. tt) (λ h.
    pick_cases P (leb (length s) (at + 1 + 1)) (λ _. tt) (λ h2.
    pick_cases P (ltb (be16 s (at + 1)) 254) (λ _. tt) (λ _.
    pick_cases P (ltb longest (be16 s (at + 1))) (λ _. tt) (λ h3. omega (arith, leb-false, ltb-false)))))
  where
    P : Field → Type 0
    P = LengthIn s at

four_in : (s : List ℕ) (at : ℕ) → LengthIn s at (four_at s (at + 1))
unfolding four_at
four_in s at =
    pick_cases P (leb (length s) (at + 1)) (λ _. tt) (λ h.
    pick_cases P (ltb (length s - (at + 1)) 4) (λ _. tt) (λ h2.
    pick_cases P (eqb (be16 s (at + 1)) 0) (λ _. tt) (λ _. tt)))
  where
    P : Field → Type 0
    P = LengthIn s at

pub length_in_lem : (s : List ℕ) (at l : ℕ) → at ≤ length s → LengthIn s at (length_at s at l)
unfolding length_at
length_in_lem s at l w =
    pick_cases P (ltb l 5) (λ h. omega (arith, ltb-true)) (λ h.
    pick_cases P (leb (length s) at) (λ _. tt) (λ h2.
    pick_cases P (ltb (oct s at) 5) (λ _. tt) (λ _.
    pick_cases P (ltb (oct s at) 254) (λ h3. omega (arith, leb-false, ltb-true)) (λ _.
    pick_cases P (eqb (oct s at) 254) (λ _. two_in s at) (λ _. four_in s at)))))
  where
    P : Field → Type 0
    P = LengthIn s at

-- contents that are not refused are all there
module _ (s : List ℕ) (p l : ℕ) (in-s : p ≤ length s) where
  abbrev Inside : ℕ → Type 0
  Inside x = ltb 0 x ≡ false → p + l ≤ length s

  whole_in : Inside (whole_at s p l)
  unfolding whole_at
  whole_in = pick_cases Inside (ltb (length s - p) l) (λ h e. omega (arith, ltb-false 0 30 e)) (λ h e. omega (arith, ltb-false))

  signed_in : Inside (signed_at s p l)
  unfolding signed_at
  signed_in =
      pick_cases Inside (ltb l 2) (λ h. whole_in) (λ h.
      pick_cases Inside (leb (length s) (p + 1)) (λ h2 e. omega (arith, ltb-false 0 30 e)) (λ h2.
      pick_cases Inside (sign_bad (oct s p) (oct s (p + 1))) (λ h3 e. omega (arith, ltb-false 0 34 e)) (λ h3. whole_in)))

  pub contents_in : (n : ℕ) → ltb 0 (contents_at s p n l) ≡ false → p + l ≤ length s
  unfolding contents_at
  contents_in n =
      pick_cases Inside (eqb l 0) (λ h _. omega (arith, eqb-true)) (λ h.
      pick_cases Inside (leb (length s) p) (λ h2 e. omega (arith, ltb-false 0 30 e)) (λ h2.
      pick_cases Inside (ltb 0 (first_content n l (oct s p))) (λ h3 e. omega (arith, ltb-false, ltb-true)) (λ h3.
      pick_cases Inside (eqb n 3) (λ _. signed_in) (λ _. whole_in))))

module _ (s : List ℕ) (at l n p : ℕ) (small : n ≤ 254) (on : at < p) (in-s : p ≤ length s) where
  pub context_in : TagIn s at (context_at s l n p)
  unfolding context_at
  context_in =
      pick_cases (TagIn s at) (eqb l 6) (λ _. record { number = small; on = on; within = in-s }) (λ _.
      pick_cases (TagIn s at) (eqb l 7) (λ _. record { number = small; on = on; within = in-s }) (λ _.
      and_then_lem (TagIn s at) (LengthIn s p) (length_at s p l) (length_in_lem s p l in-s) (λ v q h.
      pick_cases (TagIn s at) (ltb (length s) q) (λ _. tt) (λ h1.
      pick_cases (TagIn s at) (ltb (length s - q) v) (λ _. tt) (λ h2.
      record { class = omega arith; number = small; value = omega arith; on = omega arith; within = omega (arith, ltb-false) }))) (λ _ _. tt)))

  pub application_in : (n ≡ 1 → l ≤ 1) → TagIn s at (application_at s l n p)
  unfolding application_at
  application_in bit =
      pick_cases (TagIn s at) (ltb 12 n) (λ _. tt) (λ _.
      pick_cases (TagIn s at) (eqb n 1) (λ e. record { class = omega arith; number = omega arith; value = bit (eqb-true n 1 e); on = on; within = omega arith }) (λ _.
      and_then_lem (TagIn s at) (LengthIn s p) (length_at s p l) (length_in_lem s p l in-s) (λ v q h.
      pick_cases (TagIn s at) (ltb v (least n)) (λ _. tt) (λ h1.
      pick_cases (TagIn s at) (ltb (most n) v) (λ _. tt) (λ h2.
      pick_cases (TagIn s at) (ltb 0 (contents_at s q n v)) (λ _. tt) (λ h3.
      record { class = omega arith; number = small; value = omega arith; on = omega arith; within = contents_in s q v h.2 n h3 })))) (λ _ _. tt)))

-- what the tag octet alone rules out: length bits over 5 of a type up to 12, and over 1 of a boolean
pub first_bits : (b : ℕ) → (b % 16 / 8 ≡ 1 → ⊥) → b / 16 ≤ 12 → ltb 0 (first_rule b) ≡ false → b % 8 ≤ 5
unfolding first_rule
first_bits b c e w =
    by_test (ltb 5 (b % 8))
    (λ h. let f : ltb 0 32 ≡ false = rw (ne_eqb (b % 16 / 8) 1 c, ne_eqb (b / 16) 15 (omega arith), le-ltb 12 (b / 16) e, h) at w in absurd (omega (arith, ltb-false 0 32 f)))
    (λ h. ltb-false 5 (b % 8) h)

pub boolean_bits : (b : ℕ) → (b % 16 / 8 ≡ 1 → ⊥) → b / 16 ≡ 1 → ltb 0 (first_rule b) ≡ false → b % 8 ≤ 1
unfolding first_rule
boolean_bits b c e w =
    let five = first_bits b c (omega arith) w in
    by_test (ltb 1 (b % 8))
    (λ h. let f : ltb 0 32 ≡ false = rw (ne_eqb (b % 16 / 8) 1 c, e, le-ltb 5 (b % 8) five, h) at w in absurd (omega (arith, ltb-false 0 32 f)))
    (λ h. ltb-false 1 (b % 8) h)

pub head_in : (s : List ℕ) (at : ℕ) → TagIn s at (head_at s at)
unfolding head_at
head_in s at =
    pick_cases P (leb (length s) at) (λ _. tt) (λ _.
    pick_cases P (ltb 0 (first_rule (oct s at))) (λ _. tt) (λ w.
    and_then_lem P (NumberIn s at) (number_at s at) (number_in s at) (λ n p h.
    pick_cases P (eqb (oct s at % 16 / 8) 1)
    (λ _. context_in s at (oct s at % 8) n p h.0 h.1 h.2)
    (λ c. application_in s at (oct s at % 8) n p h.0 h.1 h.2
    (λ one. boolean_bits (oct s at) (eqb-false (oct s at % 16 / 8) 1 c) (h.3 (omega arith) ∙ one) w))) (λ _ _. tt)))
  where
    P : Tag → Type 0
    P = TagIn s at

-- a number fits an octet
pub number_fits : (s : List ℕ) (at v q : ℕ) → number_at s at ≡ Is v q → v < 256
number_fits s at v q e = omega (arith, rw e at (number_in s at))
