-- The numbers of a head are 30 to 34: what holds of each of these holds of every refusal.
use Prim.Native.Nat.{ℕ, ◌+◌, ◌-◌, ◌/◌, ◌%◌, ◌≤◌, ◌<◌}
use native.Mathlib.Omega.{arith}
use mathlib.Core.Path.{◌≡◌, refl}
use mathlib.Core.Logic.{◌⊎◌, inl, inr}
use mathlib.Core.List.{List}
use lib.ListN.{length}
use lib.Dec.{ltb, leb, eqb}
use borrow.Author.Tests.{ltb-true}
use Rattle.octets.specs.Choice.{pick, pick_case, pick_cases}
use Rattle.octets.specs.Reading.{oct, be16}
use Rattle.tags.specs.Types.{longest, least, most}
use Rattle.tags.specs.Reading.{and_then, number_at, two_at, four_at, length_at, first_rule, first_content, whole_at, sign_bad, signed_at, contents_at, context_at, application_at, head_at}
use Rattle.tags.specs.Head.{Field}
use Rattle.tags.specs.Head.Field.{Is, Bad}
use Rattle.tags.specs.Head.{Tag}
use Rattle.tags.specs.Head.Tag.{Item, Opening, Closing, Refused}

-- a refusal's number has the property; what is good has no number
abbrev FieldHas : (ℕ → Type 0) → Field → Type 0
FieldHas P (Is v p) = Unit {0}
FieldHas P (Bad x) = P x

abbrev pub TagHas : (ℕ → Type 0) → Tag → Type 0
TagHas P (Item k n v p l) = Unit {0}
TagHas P (Opening n p) = Unit {0}
TagHas P (Closing n p) = Unit {0}
TagHas P (Refused x) = P x

-- what the tag octet alone breaks is 31 or 32, and what the first contents octet breaks 34
pub first_rule_lem : (P : ℕ → Type 0) → P 0 → P 31 → P 32 → (b : ℕ) → P (first_rule b)
unfolding first_rule
first_rule_lem P none p31 p32 b =
    pick_case P (eqb (b % 16 / 8) 1) none
    (pick_case P (eqb (b / 16) 15) (pick_case P (ltb (b % 8) 6) none p32)
    (pick_case P (ltb 12 (b / 16)) p31
    (pick_case P (ltb 5 (b % 8)) p32
    (pick_case P (eqb (b / 16) 1) (pick_case P (ltb 1 (b % 8)) p32 none) none))))

pub first_content_lem : (P : ℕ → Type 0) → P 0 → P 34 → (n len a : ℕ) → P (first_content n len a)
unfolding first_content
first_content_lem P none p34 n len a =
    pick_case P (eqb n 7) (pick_case P (ltb 5 a) p34 none)
    (pick_case P (eqb n 8) (pick_case P (ltb 7 a) p34 (pick_case P (eqb len 1) (pick_case P (ltb 0 a) p34 none) none))
    (pick_case P (eqb a 0) (pick_case P (ltb 1 len) (pick_case P (eqb n 2) p34 (pick_case P (eqb n 9) p34 none)) none) none))

module _ (P : ℕ → Type 0) (all : (n : ℕ) → 30 ≤ n → n ≤ 34 → P n) where
  -- none, or a number that has it
  abbrev Zero : ℕ → Type 0
  Zero n = (n ≡ 0) ⊎ P n

  abbrev Of : Field → Type 0
  Of = FieldHas P

  abbrev Has : Tag → Type 0
  Has = TagHas P

  p30 : P 30
  p30 = all 30 (omega arith) (omega arith)

  p31 : P 31
  p31 = all 31 (omega arith) (omega arith)

  p32 : P 32
  p32 = all 32 (omega arith) (omega arith)

  p33 : P 33
  p33 = all 33 (omega arith) (omega arith)

  p34 : P 34
  p34 = all 34 (omega arith) (omega arith)

  number_has : (s : List ℕ) (at : ℕ) → Of (number_at s at)
  unfolding number_at
  number_has s at =
      pick_case Of (leb (length s) at) p30
      (pick_case Of (ltb (oct s at / 16) 15) tt
      (pick_case Of (leb (length s) (at + 1)) p30
      (pick_case Of (ltb (oct s (at + 1)) 15) p31 (pick_case Of (ltb 254 (oct s (at + 1))) p31 tt))))

  two_has : (s : List ℕ) (at : ℕ) → Of (two_at s at)
  unfolding two_at
  two_has s at =
      pick_case Of (leb (length s) at) p30
      (pick_case Of (leb (length s) (at + 1)) p30
      (pick_case Of (ltb (be16 s at) 254) p32 (pick_case Of (ltb longest (be16 s at)) p33 tt)))

  four_has : (s : List ℕ) (at : ℕ) → Of (four_at s at)
  unfolding four_at
  four_has s at = pick_case Of (leb (length s) at) p30 (pick_case Of (ltb (length s - at) 4) p30 (pick_case Of (eqb (be16 s at) 0) p32 p33))

  length_has : (s : List ℕ) (at l : ℕ) → Of (length_at s at l)
  unfolding length_at
  length_has s at l =
      pick_case Of (ltb l 5) tt
      (pick_case Of (leb (length s) at) p30
      (pick_case Of (ltb (oct s at) 5) p32
      (pick_case Of (ltb (oct s at) 254) tt (pick_case Of (eqb (oct s at) 254) (two_has s (at + 1)) (four_has s (at + 1))))))

  then_has : (f : Field) (k : ℕ → ℕ → Tag) → Of f → ((v p : ℕ) → Has (k v p)) → Has (and_then f k)
  then_has (Is v p) k h g = g v p
  then_has (Bad x) k h g = h

  whole_has : (s : List ℕ) (p len : ℕ) → Zero (whole_at s p len)
  unfolding whole_at
  whole_has s p len = pick_case Zero (ltb (length s - p) len) (inr p30) (inl refl)

  signed_has : (s : List ℕ) (p len : ℕ) → Zero (signed_at s p len)
  unfolding signed_at
  signed_has s p len =
      pick_case Zero (ltb len 2) (whole_has s p len)
      (pick_case Zero (leb (length s) (p + 1)) (inr p30)
      (pick_case Zero (sign_bad (oct s p) (oct s (p + 1))) (inr p34) (whole_has s p len)))

  contents_has : (s : List ℕ) (p n len : ℕ) → Zero (contents_at s p n len)
  unfolding contents_at
  contents_has s p n len =
      pick_case Zero (eqb len 0) (inl refl)
      (pick_case Zero (leb (length s) p) (inr p30)
      (pick_case Zero (ltb 0 (first_content n len (oct s p))) (first_content_lem Zero (inl refl) (inr p34) n len (oct s p))
      (pick_case Zero (eqb n 3) (signed_has s p len) (whole_has s p len))))

  -- a refusal by a number that was tested
  tested : (x : ℕ) (t : Tag) → Zero x → Has t → Has (pick (ltb 0 x) (Refused x) t)
  tested x t z h = pick_cases Has (ltb 0 x) (λ e. some (ltb-true 0 x e) z) (λ _. h)
    where
      some : 0 < x → Zero x → P x
      some l (inl e) = absurd (omega arith)
      some l (inr r) = r

  context_has : (s : List ℕ) (l n p : ℕ) → Has (context_at s l n p)
  unfolding context_at
  context_has s l n p =
      pick_case Has (eqb l 6) tt
      (pick_case Has (eqb l 7) tt
      (then_has (length_at s p l) _ (length_has s p l) (λ v q. pick_case Has (ltb (length s) q) p30 (pick_case Has (ltb (length s - q) v) p30 tt))))

  application_has : (s : List ℕ) (l n p : ℕ) → Has (application_at s l n p)
  unfolding application_at
  application_has s l n p =
      pick_case Has (ltb 12 n) p31
      (pick_case Has (eqb n 1) tt
      (then_has (length_at s p l) _ (length_has s p l) (λ v q.
      pick_case Has (ltb v (least n)) p33 (pick_case Has (ltb (most n) v) p33 (tested (contents_at s q n v) (Item 0 n 0 q v) (contents_has s q n v) tt)))))

  pub refusals_have : (s : List ℕ) (at : ℕ) → TagHas P (head_at s at)
  unfolding head_at
  refusals_have s at =
      pick_case Has (leb (length s) at) p30
      (tested (first_rule (oct s at)) _ (first_rule_lem Zero (inl refl) (inr p31) (inr p32) (oct s at))
      (then_has (number_at s at) _ (number_has s at) (λ n p. pick_case Has (eqb (oct s at % 16 / 8) 1) (context_has s (oct s at % 8) n p) (application_has s (oct s at % 8) n p))))
