-- The length: what its bits and octets say, by the words of the rows.
use Prim.Native.Nat.{ℕ, ◌+◌, ◌-◌, ◌*◌, ◌≤◌, ◌<◌}
use native.Mathlib.Omega.{arith}
use mathlib.Core.Path.{◌≡◌, refl, sym}
use mathlib.Core.List.{List}
use lib.ListN.{length}
use lib.Dec.{ltb, leb, eqb}
use borrow.Author.Tests.{ltb-true, ltb-false, leb-true, leb-false, eqb-true, eqb-false, lt-ltb, le-ltb, lt-leb, le-leb, eq-eqb, ne_eqb}
use Rattle.octets.specs.Choice.{pick, pick_cases, by_test}
use Rattle.octets.specs.Reading.{oct, be16, Octets}
use Rattle.octets.specs.Numbers.{value_at}
use Rattle.tags.specs.Types.{longest}
use Rattle.tags.specs.Reading.{two_at, four_at, length_at}
use Rattle.tags.specs.Rows.{Spelled, LengthCut, LengthTo}
use Rattle.tags.specs.Rows.Spelled.{one_octet, two_octets, four_octets}
use Rattle.tags.specs.Rows.LengthCut.{cut_first, cut_two, cut_four}
use Rattle.tags.specs.Rows.LengthTo.{length_inside, length_next}
use Rattle.tags.specs.Head.{Field}
use Rattle.tags.specs.Head.Field.{Is, Bad}

-- ---- numbers of two and of four octets
value_two : (s : List ℕ) (p : ℕ) → value_at s p 2 ≡ be16 s p
unfolding value_at
value_two s p = let e : p + 0 ≡ p = omega arith in rw e (omega arith)

value_four : (s : List ℕ) (p : ℕ) → value_at s p 4 ≡ be16 s p * 65536 + oct s (p + 2) * 256 + oct s (p + 3)
unfolding value_at
value_four s p = let e : p + 0 ≡ p = omega arith in rw e (omega arith)

-- ---- the length
pub data LengthBad (s : List ℕ) (l p x : ℕ) : Type 0 where
  length_missing : x ≡ 30 → l ≡ 5 → LengthCut s p → LengthBad s l p x
  length_longer : x ≡ 32 → l ≡ 5 → (v low q : ℕ) → Spelled s p v low q → v < low → LengthBad s l p x
  length_over : x ≡ 33 → (v q : ℕ) → LengthTo s l p v q → longest < v → LengthBad s l p x

abbrev pub LengthSays : List ℕ → ℕ → ℕ → Field → Type 0
LengthSays s l p (Is v q) = LengthTo s l p v q × (v ≤ longest) × (q ≤ length s)
LengthSays s l p (Bad x) = LengthBad s l p x

module _ (s : List ℕ) (os : Octets s) (p : ℕ) (here : p < length s) where
  abbrev L : Field → Type 0
  L = LengthSays s 5 p

  two_says : oct s p ≡ 254 → L (two_at s (p + 1))
  unfolding two_at
  two_says f =
      pick_cases L (leb (length s) (p + 1)) (λ h. length_missing refl refl (cut_two here f (omega (arith, leb-true (length s) (p + 1) h)))) (λ h1.
      pick_cases L (leb (length s) (p + 1 + 1)) (λ h. length_missing refl refl (cut_two here f (omega (arith, leb-true (length s) (p + 1 + 1) h)))) (λ h2.
      let room : p + 2 < length s = omega (arith, leb-false (length s) (p + 1 + 1) h2) in
      let sp : Spelled s p (be16 s (p + 1)) 254 (p + 1 + 2) = two_octets room f (sym (value_two s (p + 1))) refl (omega arith) in
      pick_cases L (ltb (be16 s (p + 1)) 254) (λ h. length_longer refl refl (be16 s (p + 1)) 254 (p + 1 + 2) sp (ltb-true (be16 s (p + 1)) 254 h)) (λ h3.
      let to : LengthTo s 5 p (be16 s (p + 1)) (p + 1 + 2) = length_next refl 254 sp (ltb-false (be16 s (p + 1)) 254 h3) in
      pick_cases L (ltb longest (be16 s (p + 1))) (λ h. length_over refl (be16 s (p + 1)) (p + 1 + 2) to (ltb-true longest (be16 s (p + 1)) h))
      (λ h4. (to, ltb-false longest (be16 s (p + 1)) h4, omega arith)))))

  four_says : oct s p ≡ 255 → L (four_at s (p + 1))
  unfolding four_at
  four_says f =
      pick_cases L (leb (length s) (p + 1)) (λ h. length_missing refl refl (cut_four here f (omega (arith, leb-true (length s) (p + 1) h)))) (λ h1.
      pick_cases L (ltb (length s - (p + 1)) 4) (λ h. length_missing refl refl (cut_four here f (omega (arith, ltb-true (length s - (p + 1)) 4 h)))) (λ h2.
      let room : p + 4 < length s = omega (arith, ltb-false (length s - (p + 1)) 4 h2, leb-false (length s) (p + 1) h1) in
      let sp : Spelled s p (value_at s (p + 1) 4) 65536 (p + 5) = four_octets room f refl refl refl in
      pick_cases L (eqb (be16 s (p + 1)) 0)
      (λ h. length_longer refl refl (value_at s (p + 1) 4) 65536 (p + 5) sp
      (omega (arith, eqb-true (be16 s (p + 1)) 0 h, value_four s (p + 1), os (p + 1 + 2), os (p + 1 + 3))))
      (λ h. let low : 65536 ≤ value_at s (p + 1) 4 = omega (arith, eqb-false (be16 s (p + 1)) 0 h, value_four s (p + 1)) in
      length_over refl (value_at s (p + 1) 4) (p + 5) (length_next refl 65536 sp low) (omega arith))))

pub length_says : (s : List ℕ) → Octets s → (l p : ℕ) → p ≤ length s → l ≤ 5 → LengthSays s l p (length_at s p l)
unfolding length_at
length_says s os l p within five =
    by_test (ltb l 5)
    (λ h. rw h (length_inside (omega (arith, ltb-true l 5 h)) refl refl, omega (arith, ltb-true l 5 h), within)) (λ h.
    let e : l ≡ 5 = omega (arith, ltb-false l 5 h) in rw e extended)
  where
    P : Field → Type 0
    P = LengthSays s 5 p

    extended : P (length_at s p 5)
    extended =
        pick_cases P (leb (length s) p) (λ h. length_missing refl refl (cut_first (leb-true (length s) p h))) (λ h0.
        let here : p < length s = leb-false (length s) p h0 in
        pick_cases P (ltb (oct s p) 5)
        (λ h. let low : oct s p < 5 = ltb-true (oct s p) 5 h in length_longer refl refl (oct s p) 5 (p + 1) (one_octet here (omega arith) refl refl refl) low) (λ h1.
        pick_cases P (ltb (oct s p) 254)
        (λ h. let top : oct s p < 254 = ltb-true (oct s p) 254 h in (length_next refl 5 (one_octet here (omega arith) refl refl refl) (ltb-false (oct s p) 5 h1), omega arith, omega arith)) (λ h2.
        pick_cases P (eqb (oct s p) 254) (λ h. two_says s os p here (eqb-true (oct s p) 254 h))
        (λ h. four_says s os p here (omega (arith, os p, ltb-false (oct s p) 254 h2, eqb-false (oct s p) 254 h))))))

-- the length octets, where they are all there, and where not
two_is : (s : List ℕ) (p : ℕ) (f : Field) → p + 2 < length s → oct s p ≡ 254
    → pick (ltb (be16 s (p + 1)) 254) (Bad 32) (pick (ltb longest (be16 s (p + 1))) (Bad 33) (Is (be16 s (p + 1)) (p + 1 + 2))) ≡ f → length_at s p 5 ≡ f
unfolding length_at two_at
two_is s p f room e d = rw (lt-leb (length s) p (omega arith), e, lt-leb (length s) (p + 1) (omega arith), lt-leb (length s) (p + 1 + 1) (omega arith)) d

four_is : (s : List ℕ) (p : ℕ) (f : Field) → p + 4 < length s → oct s p ≡ 255
    → pick (eqb (be16 s (p + 1)) 0) (Bad 32) (Bad 33) ≡ f → length_at s p 5 ≡ f
unfolding length_at four_at
four_is s p f room e d = rw (lt-leb (length s) p (omega arith), e, lt-leb (length s) (p + 1) (omega arith), le-ltb (length s - (p + 1)) 4 (omega arith)) d

pub length_is : (s : List ℕ) (l p v q : ℕ) → LengthTo s l p v q → v ≤ longest → length_at s p l ≡ Is v q
unfolding length_at
length_is s l p v q (length_inside low e d) small = rw (e, d, lt-ltb l 5 (omega arith))
length_is s l p v q (length_next five low (one_octet here top e m d) more) small =
    rw (five, e, d, lt-leb (length s) p here, le-ltb (oct s p) 5 (omega arith), lt-ltb (oct s p) 254 (omega arith))
length_is s l p v q (length_next five low (two_octets room f e m d) more) small =
    let b : be16 s (p + 1) ≡ v = omega (arith, value_two s (p + 1)) in
    let z : p + 1 + 2 ≡ q = omega arith in
    rw five (two_is s p (Is v q) room f (rw (b, z, le-ltb v 254 (omega arith), le-ltb longest v small)))
length_is s l p v q (length_next five low (four_octets room f e m d) more) small = absurd (omega arith)

pub length_bad : (s : List ℕ) → Octets s → (l p x : ℕ) → LengthBad s l p x → length_at s p l ≡ Bad x
unfolding length_at two_at four_at
length_bad s os l p x (length_missing e five (cut_first h)) = rw (five, e, le-leb (length s) p h)
length_bad s os l p x (length_missing e five (cut_two here f h)) =
    by_test (leb (length s) (p + 1)) (λ k. rw (five, e, lt-leb (length s) p here, f, k))
    (λ k. rw (five, e, lt-leb (length s) p here, f, k, le-leb (length s) (p + 1 + 1) (omega arith)))
length_bad s os l p x (length_missing e five (cut_four here f h)) =
    by_test (leb (length s) (p + 1)) (λ k. rw (five, e, lt-leb (length s) p here, f, k))
    (λ k. rw (five, e, lt-leb (length s) p here, f, k, lt-ltb (length s - (p + 1)) 4 (omega arith)))
length_bad s os l p x (length_longer e five v low q (one_octet here top d m z) less) = rw (five, e, lt-leb (length s) p here, lt-ltb (oct s p) 5 (omega arith))
length_bad s os l p x (length_longer e five v low q (two_octets room f d m z) less) =
    rw (five, e) (two_is s p (Bad 32) room f (rw (lt-ltb (be16 s (p + 1)) 254 (omega (arith, value_two s (p + 1))))))
length_bad s os l p x (length_longer e five v low q (four_octets room f d m z) less) =
    rw (five, e) (four_is s p (Bad 32) room f (rw (eq-eqb (be16 s (p + 1)) 0 (omega (arith, value_four s (p + 1))))))
length_bad s os l p x (length_over e v q (length_inside low d z) more) = absurd (omega arith)
length_bad s os l p x (length_over e v q (length_next five low (one_octet here top d m z) k) more) = absurd (omega arith)
length_bad s os l p x (length_over e v q (length_next five low (two_octets room f d m z) k) more) =
    let b = value_two s (p + 1) in
    rw (five, e) (two_is s p (Bad 33) room f (rw (le-ltb (be16 s (p + 1)) 254 (omega arith), lt-ltb longest (be16 s (p + 1)) (omega arith))))
length_bad s os l p x (length_over e v q (length_next five low (four_octets room f d m z) k) more) =
    rw (five, e) (four_is s p (Bad 33) room f (rw (ne_eqb (be16 s (p + 1)) 0 (λ y. omega (arith, value_four s (p + 1), os (p + 1 + 2), os (p + 1 + 3))))))

-- a length that is all there lies within the octets
pub length_within : (s : List ℕ) (l p v q : ℕ) → p ≤ length s → LengthTo s l p v q → q ≤ length s
length_within s l p v q within (length_inside low e d) = omega arith
length_within s l p v q within (length_next five low (one_octet here top e m d) more) = omega arith
length_within s l p v q within (length_next five low (two_octets room f e m d) more) = omega arith
length_within s l p v q within (length_next five low (four_octets room f e m d) more) = omega arith
