-- The contents rule of the item reader, judged in the source, is the one that the layout states of the contents.
use Prim.Native.Nat.{ℕ, ◌+◌, ◌-◌, ◌≤◌, ◌<◌}
use native.Mathlib.Omega.{arith}
use mathlib.Core.Path.{◌≡◌, refl, sym, ◌∙◌}
use mathlib.Core.List.{List, []}
use mathlib.Core.Bool.{true, false}
use lib.ListN.{length, take, drop, length-take, length-drop}
use lib.Dec.{leb, eqb}
use borrow.Author.Tests.{le-leb, leb-true, leb-false, eqb-true, eqb-false, ne_eqb}
use Rattle.std.specs.Prelude.{Result, Ok, Err, is_ok}
use Rattle.octets.specs.Choice.{by_test, both_true}
use Rattle.octets.specs.declared.refusal.Refusal.{Refusal}
use Rattle.octets.specs.Refusal.{number_of, fault_of, number_some}
use Rattle.octets.specs.Has.{has_take}
use Rattle.tags.specs.Types.{least, most, right_length}
use Rattle.tags.specs.Reading.{contents_at}
use Rattle.tags.specs.Layout.{good_contents}
use Rattle.tags.proofs.Bounds.{contents_in}
use Rattle.tags.proofs.Rule.{contents_exact}
use Rattle.item_judge.specs.Kinds.{inside_test, contents_rule, type_rule}

module _ (s : List ℕ) (n p len : ℕ) (low : least n ≤ len) where
  -- contents that lie in the source
  inside_test_lem : p + len ≤ length s → eqb (contents_at s p n len) 0 ≡ good_contents n (take len (drop p s))
  inside_test_lem h =
      let l : length (take len (drop p s)) ≡ len = simp (length-take, length-drop) (omega arith) in
      rw l at (contents_exact s p n (take len (drop p s)) (has_take s p len h) (rw l low))

  -- contents that do not are refused
  outside_test : (len ≡ 0 → ⊥) → length s < p + len → eqb (contents_at s p n len) 0 ≡ false
  unfolding contents_at
  outside_test some h =
      by_test (leb (length s) p)
      (λ e. rw (ne_eqb len 0 some, e))
      (λ e. ne_eqb (contents_at s p n len) 0 (λ w. omega (arith, contents_in s p len (omega (arith, leb-false (length s) p e)) n (rw w))))

  -- where there are none the place is not looked at
  none_test : len ≡ 0 → eqb (contents_at s p n len) 0 ≡ good_contents n []
  unfolding contents_at
  none_test e = rw e (contents_exact [] 0 n [] (omega arith) (omega arith))

  contents_test : eqb (contents_at s p n len) 0 ≡ contents_rule s n p len
  unfolding contents_rule inside_test
  contents_test =
      by_test (eqb len 0)
      (λ z. let e : len ≡ 0 = eqb-true len 0 z in none_test e ∙ rw e)
      (λ z. by_test (leb p (length s))
      (λ a. by_test (leb len (length s - p))
      (λ b. rw (z, a, b) (inside_test_lem (omega (arith, leb-true p (length s) a, leb-true len (length s - p) b))))
      (λ b. rw (z, a, b) (outside_test (eqb-false len 0 z) (omega (arith, leb-true p (length s) a, leb-false len (length s - p) b)))))
      (λ a. rw (z, a) (outside_test (eqb-false len 0 z) (omega (arith, leb-false p (length s) a)))))

  pub type_test : len ≤ most n → eqb (contents_at s p n len) 0 ≡ type_rule s n p len
  unfolding type_rule
  type_test high = rw (le-leb (least n) len low, le-leb len (most n) high) contents_test

-- by the test of both lengths
pub type_fits : (s : List ℕ) (n p len : ℕ) → right_length n len ≡ true → eqb (contents_at s p n len) 0 ≡ type_rule s n p len
unfolding right_length
type_fits s n p len e =
    let a = both_true (leb (least n) len) (leb len (most n)) e in
    type_test s n p len (leb-true _ _ a.0) (leb-true _ _ a.1)

pub type_other : (s : List ℕ) (n p len : ℕ) → right_length n len ≡ false → false ≡ type_rule s n p len
unfolding right_length type_rule
type_other s n p len e =
    by_test (leb (least n) len)
    (λ a. let b : leb len (most n) ≡ false = rw a at e in rw (a, b))
    (λ a. rw a)

-- an answer is good exactly where it refuses with no number
pub ok_test : (r : Result Unit Refusal) → is_ok r ≡ eqb (fault_of r) 0
ok_test (Ok u) = refl
ok_test (Err x) = sym (ne_eqb (number_of x) 0 (λ e. omega (arith, number_some x)))
