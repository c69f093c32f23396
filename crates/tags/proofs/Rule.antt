-- The contents rule that the reader judges octet by octet is the one that the layout states of the whole contents.
use Prim.Native.Nat.{ℕ, suc, ◌+◌, ◌-◌, ◌≤◌}
use native.Mathlib.Omega.{arith}
use mathlib.Core.Path.{◌≡◌, refl, sym, ◌∙◌}
use mathlib.Core.List.{List, [], ◌∷◌}
use mathlib.Core.Bool.{Bool, true, false}
use lib.ListN.{length}
use lib.Dec.{ltb, leb, eqb}
use borrow.Author.Tests.{ltb-true, ltb-false, eqb-true, eqb-false, lt-ltb, le-ltb, le-leb, lt-leb, ne_eqb}
use Rattle.octets.specs.Choice.{pick, pick_same, by_test, both, non}
use Rattle.octets.specs.Has.{Has, has_bound}
use Rattle.tags.specs.Types.{least}
use Rattle.tags.specs.Reading.{first_content, whole_at, sign_bad, signed_at, contents_at}
use Rattle.tags.specs.Layout.{good_contents}

-- contents that stand there are all there
whole_none : (s : List ℕ) (p : ℕ) (xs : List ℕ) → Has s p xs → whole_at s p (length xs) ≡ 0
unfolding whole_at
whole_none s p xs h = let b = has_bound s p xs h in rw (le-ltb (length s - p) (length xs) (omega arith))

judged_none : (s : List ℕ) (p n : ℕ) → contents_at s p n 0 ≡ 0
unfolding contents_at
judged_none s p n = refl

-- what the reader judges of one octet, and of two and more, that stand there
judged_one : (s : List ℕ) (p n x : ℕ) → Has s p (x ∷ []) → contents_at s p n 1 ≡ first_content n 1 x
unfolding contents_at signed_at
judged_one s p n x h =
    by_test (ltb 0 (first_content n 1 x))
    (λ e. rw (lt-leb (length s) p h.0, h.1, e))
    (λ e. rw (lt-leb (length s) p h.0, h.1, e, whole_none s p (x ∷ []) h, pick_same {A = ℕ} (eqb n 3) 0) (omega (arith, ltb-false 0 (first_content n 1 x) e)))

abbrev judged : ℕ → ℕ → ℕ → ℕ → ℕ
judged n len x y = pick (ltb 0 (first_content n len x)) (first_content n len x) (pick (eqb n 3) (pick (sign_bad x y) 34 0) 0)

judged_more : (s : List ℕ) (p n x y : ℕ) (rest : List ℕ) → Has s p (x ∷ y ∷ rest) → contents_at s p n (length (x ∷ y ∷ rest)) ≡ judged n (length (x ∷ y ∷ rest)) x y
unfolding contents_at signed_at
judged_more s p n x y rest h =
    let l : ℕ = suc (suc (length rest)) in
    rw (lt-leb (length s) p h.0, h.1, lt-leb (length s) (p + 1) h.2.0, h.2.1, whole_none s p (x ∷ y ∷ rest) h, ne_eqb l 0 (omega arith), le-ltb l 2 (omega arith))

-- no refusal of a test, as a test
none_of : (b : Bool) → eqb (pick b 34 0) 0 ≡ non b
none_of true = refl
none_of false = refl

not_above : (x m : ℕ) → non (ltb m x) ≡ leb x m
not_above x m = by_test (ltb m x) (λ e. rw (e, lt-leb x m (ltb-true m x e))) (λ e. rw (e, le-leb x m (ltb-false m x e)))

-- the rule of one octet, by type
one_exact : (n x : ℕ) → eqb (first_content n 1 x) 0 ≡ good_contents n (x ∷ [])
unfolding first_content good_contents
one_exact n x =
    by_test (eqb n 7) (λ e. rw (eqb-true n 7 e) (none_of (ltb 5 x) ∙ not_above x 5)) (λ e7.
    by_test (eqb n 8) (λ e. rw (eqb-true n 8 e) alone) (λ e8.
    rw (e7, e8, pick_same {A = ℕ} (eqb x 0) 0, pick_same {A = Bool} (eqb n 3) true, pick_same {A = Bool} (eqb n 9) true, pick_same {A = Bool} (eqb n 2) true)))
  where
    alone : eqb (pick (ltb 7 x) 34 (pick (ltb 0 x) 34 0)) 0 ≡ eqb x 0
    alone =
        by_test (eqb x 0) (λ e. rw (eqb-true x 0 e)) (λ e.
        rw (lt-ltb 0 x (omega (arith, eqb-false x 0 e)), pick_same {A = ℕ} (ltb 7 x) 34, e))

-- the sign rule of two octets
pub sign_exact : (x y : ℕ) → non (sign_bad x y) ≡ both (non (both (eqb x 0) (ltb y 128))) (non (both (eqb x 255) (leb 128 y)))
unfolding sign_bad
sign_exact x y =
    by_test (eqb x 0) (λ e. rw (eqb-true x 0 e) (by_test (ltb y 128) (λ d. rw d) (λ d. rw d))) (λ e.
    by_test (eqb x 255) (λ d. rw (e, d)) (λ d. rw (e, d)))

first_only : (x : ℕ) → pick (ltb 0 x) x 0 ≡ x
first_only x = by_test (ltb 0 x) (λ e. rw e) (λ e. rw e (omega (arith, ltb-false 0 x e)))

-- the rule of two octets and more, by type
more_exact : (n x y : ℕ) (rest : List ℕ) → eqb (judged n (length (x ∷ y ∷ rest)) x y) 0 ≡ good_contents n (x ∷ y ∷ rest)
unfolding first_content good_contents
more_exact n x y rest =
    let l : ℕ = suc (suc (length rest)) in
    let one : ltb 1 l ≡ true = lt-ltb 1 l (omega arith) in
    let two : eqb l 1 ≡ false = ne_eqb l 1 (omega arith) in
    by_test (eqb n 7) (λ e. rw (eqb-true n 7 e, first_only (pick (ltb 5 x) 34 0)) (none_of (ltb 5 x) ∙ not_above x 5)) (λ e7.
    by_test (eqb n 8) (λ e. rw (eqb-true n 8 e, two, first_only (pick (ltb 7 x) 34 0)) (none_of (ltb 7 x) ∙ not_above x 7)) (λ e8.
    by_test (eqb n 2) (λ e. rw (eqb-true n 2 e, one, first_only (pick (eqb x 0) 34 0)) (none_of (eqb x 0))) (λ e2.
    by_test (eqb n 9) (λ e. rw (eqb-true n 9 e, one, first_only (pick (eqb x 0) 34 0)) (none_of (eqb x 0))) (λ e9.
    by_test (eqb n 3) (λ e. rw (eqb-true n 3 e, one, pick_same {A = ℕ} (eqb x 0) 0) (none_of (sign_bad x y) ∙ sign_exact x y)) (λ e3.
    rw (e7, e8, e2, e9, e3, one, pick_same {A = ℕ} (eqb x 0) 0))))))

-- no contents: only of types that may have none
none_exact : (n : ℕ) → least n ≤ 0 → good_contents n [] ≡ true
unfolding least good_contents
none_exact n h =
    by_test (eqb n 2) (λ e. absurd (omega (arith, rw (eqb-true n 2 e) at h))) (λ e2.
    by_test (eqb n 9) (λ e. absurd (omega (arith, rw (eqb-true n 9 e) at h))) (λ e9.
    by_test (eqb n 3) (λ e. absurd (omega (arith, rw (eqb-true n 3 e) at h))) (λ e3.
    by_test (eqb n 7) (λ e. absurd (omega (arith, rw (eqb-true n 7 e) at h))) (λ e7.
    by_test (eqb n 8) (λ e. absurd (omega (arith, rw (eqb-true n 8 e) at h))) (λ e8. rw (e2, e9, e3, e7, e8))))))

-- the reader refuses contents that stand there exactly where they break the rule of their type
pub contents_exact : (s : List ℕ) (p n : ℕ) (xs : List ℕ) → Has s p xs → least n ≤ length xs → eqb (contents_at s p n (length xs)) 0 ≡ good_contents n xs
contents_exact s p n [] h low = rw (judged_none s p n) (sym (none_exact n low))
contents_exact s p n (x ∷ []) h low = rw (judged_one s p n x h) (one_exact n x)
contents_exact s p n (x ∷ y ∷ rest) h low = rw (judged_more s p n x y rest h) (more_exact n x y rest)
