-- A number that keeps its rule is spelled in its shortest form, and a number in its shortest form keeps the rule.
use Prim.Native.Nat.{ℕ, ◌+◌, ◌^◌, ◌≤◌, ◌<◌}
use native.Mathlib.Omega.{arith}
use native.Mathlib.Nat.{zero-add}
use mathlib.Core.Path.{◌≡◌, sym, ap, ◌∙◌}
use mathlib.Core.List.{List}
use mathlib.Core.Bool.{false}
use lib.ListN.{length}
use lib.Dec.{eqb}
use borrow.Author.Tests.{le-ltb, ne_eqb, eqb-true}
use Rattle.octets.specs.Choice.{pick_so}
use Rattle.octets.specs.Reading.{oct, Octets}
use Rattle.octets.specs.Has.{Has, has_at, has_bound, has_cut}
use Rattle.octets.specs.Numbers.{value_at, digits, width_of, long_form, value_shift, value_digits, digits_value, length_digits, octets_digits, width_holds, width_range, short_form, long_form_lem}
use Rattle.items.specs.Records.{Rec, rec}
use Rattle.services.specs.Parts.{any_number, number_rule, object_rule}
use Rattle.services.specs.Layout.{shortest}
use Rattle.services.proofs.Places.{Kept}

-- octets that stand somewhere are one number there and by themselves
pub stands_value : (o : List ℕ) (p : ℕ) (xs : List ℕ) → Has o p xs → value_at o p (length xs) ≡ value_at xs 0 (length xs)
stands_value o p xs h = value_shift o xs p 0 (length xs) (λ j w. rw zero-add (has_at o p xs h j w))

-- n octets that stand somewhere are the digits of their number
pub stands_digits : (o : List ℕ) → Octets o → (p : ℕ) (xs : List ℕ) → Has o p xs → xs ≡ digits (length xs) (value_at o p (length xs))
stands_digits o os p xs h = sym (digits_value o os p (length xs) (has_bound o p xs h) ∙ has_cut o p xs h)

pub digits_stand : (o : List ℕ) (p n v : ℕ) → v < 256 ^ n → Has o p (digits n v) → value_at o p (length (digits n v)) ≡ v
digits_stand o p n v b h =
    let l = length_digits n v in
    stands_value o p (digits n v) h ∙ rw l (value_digits n v b)

-- read: in its shortest form
pub spelled : (o : List ℕ) → Octets o → (low high p : ℕ) (xs : List ℕ) → Has o p xs → Kept o low high p (length xs) → xs ≡ shortest (value_at o p (length xs))
spelled o os low high p xs h k = stands_digits o os p xs h ∙ ap (λ (n : ℕ). digits n (value_at o p (length xs))) (sym (short_form o os p (length xs) k.some k.four k.short))

-- written: the number and the rule
module _ (o : List ℕ) (p x : ℕ) (any : x ≤ any_number) (h : Has o p (shortest x)) where
  wide : length (shortest x) ≡ width_of x
  wide = length_digits (width_of x) x

  pub shortest_value : value_at o p (length (shortest x)) ≡ x
  shortest_value = digits_stand o p (width_of x) x (width_holds x (omega arith)) h

  first_octet_lem : oct o p ≡ oct (shortest x) 0
  first_octet_lem = let e : p + 0 ≡ p = omega arith in rw e at (has_at o p (shortest x) h 0 (omega (arith, wide, width_range x)))

  not_long : long_form (oct o p) (length (shortest x)) ≡ false
  not_long =
      let w = width_range x in
      let v : value_at (shortest x) 0 (width_of x) ≡ x = value_digits (width_of x) x (width_holds x (omega arith)) in
      rw (first_octet_lem, wide) (long_form_lem (shortest x) (octets_digits (width_of x) x) 0 (width_of x) w.0 (ap width_of v))

  pub shortest_keeps : (low high k n d v : ℕ) → low ≤ x → x ≤ high → number_rule o low high (rec k n d v p (length (shortest x))) ≡ 0
  unfolding number_rule
  shortest_keeps low high k n d v a b =
      let w = width_range x in
      let q = wide in
      rw (ne_eqb (length (shortest x)) 0 (omega arith), le-ltb 4 (length (shortest x)) (omega arith), not_long, shortest_value, le-ltb x low a, le-ltb high x b)

-- an object's octets are four
pub object_kept : (r : Rec) → object_rule r ≡ 0 → r.len ≡ 4
unfolding object_rule
object_kept r e = eqb-true r.len 4 (pick_so (eqb r.len 4) 0 41 0 (λ d. omega arith) e).0

pub object_keeps : (k n d v p v0 : ℕ) → object_rule (rec k n d v p (length (digits 4 v0))) ≡ 0
unfolding object_rule
object_keeps k n d v p v0 = rw (length_digits 4 v0)
