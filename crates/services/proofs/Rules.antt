-- The rules of the parts as they are read: a rule's number is 0 where the contents keep the page's rule and 41 where they break it.
use Prim.Native.Nat.{ℕ, ◌+◌, ◌/◌, ◌≤◌, ◌<◌}
use native.Mathlib.Omega.{arith}
use mathlib.Core.Path.{◌≡◌, refl, sym, ap, ◌∙◌}
use mathlib.Core.Logic.{◌⊎◌, inl, inr}
use mathlib.Core.List.{List}
use mathlib.Core.Bool.{true, false}
use lib.ListN.{length}
use lib.Dec.{ltb, eqb}
use borrow.Author.Tests.{lt-ltb, eq-eqb, ltb-true, ltb-false, eqb-true, eqb-false}
use Rattle.octets.specs.Choice.{pick_cases, pick_so, not_so}
use Rattle.octets.specs.Reading.{oct}
use Rattle.octets.specs.Has.{Has, has_at}
use Rattle.octets.specs.Numbers.{value_at, long_form}
use Rattle.items.specs.Records.{rec}
use Rattle.services.specs.Parts.{number_rule, object_rule, type_of}
use Rattle.services.specs.Reading.{device_rule}
use Rattle.services.specs.Rows.{Rule, number_in, Breaks, Keeps}
use Rattle.services.specs.Rows.Rule.{number, object, object_of}
use Rattle.services.specs.Rows.Breaks.{wrong_length, longer_form, out_of_range}
use Rattle.services.proofs.Spelling.{stands_value}

-- a number that a rule gives to these contents
abbrev pub Judges : Rule → List ℕ → ℕ → Type 0
Judges r xs n = ((n ≡ 0) × Keeps r xs) ⊎ ((n ≡ 41) × Breaks r xs)

module _ (o : List ℕ) (p : ℕ) (xs : List ℕ) (h : Has o p xs) where
  first_octet_lem : 1 ≤ length xs → oct o p ≡ oct xs 0
  first_octet_lem some = let e : p + 0 ≡ p = omega arith in rw e at (has_at o p xs h 0 (omega arith))

  -- "first not 00 if more than one"
  long_is : 1 ≤ length xs → long_form (oct o p) (length xs) ≡ true → (1 < length xs) × (oct xs 0 ≡ 0)
  unfolding long_form
  long_is some e =
      let w = pick_so (eqb (oct o p) 0) (ltb 1 (length xs)) false true (λ d. not_so d) e in
      (ltb-true 1 (length xs) w.1, sym (first_octet_lem some) ∙ eqb-true (oct o p) 0 w.0)

  is_long : (1 < length xs) × (oct xs 0 ≡ 0) → long_form (oct o p) (length xs) ≡ true
  unfolding long_form
  is_long (two, zero) = rw (eq-eqb (oct o p) 0 (first_octet_lem (omega arith) ∙ zero), lt-ltb 1 (length xs) two)

  kept_number : (low high : ℕ) → (length xs ≡ 0 → ⊥) → length xs ≤ 4 → long_form (oct o p) (length xs) ≡ false → low ≤ number_in xs → number_in xs ≤ high → Keeps (number low high) xs
  kept_number low high some four short least most (wrong_length (inl z)) = some z
  kept_number low high some four short least most (wrong_length (inr z)) = omega arith
  kept_number low high some four short least most (longer_form z) = not_so (sym short ∙ is_long z)
  kept_number low high some four short least most (out_of_range (inl z)) = omega arith
  kept_number low high some four short least most (out_of_range (inr z)) = omega arith

  pub number_judges : (low high k n d v : ℕ) → Judges (number low high) xs (number_rule o low high (rec k n d v p (length xs)))
  unfolding number_rule
  number_judges low high k n d v =
      let e : value_at o p (length xs) ≡ number_in xs = stands_value o p xs h in
      pick_cases P (eqb (length xs) 0) (λ a. inr (refl, wrong_length (inl (eqb-true (length xs) 0 a)))) (λ a.
      pick_cases P (ltb 4 (length xs)) (λ b. inr (refl, wrong_length (inr (ltb-true 4 (length xs) b)))) (λ b.
      pick_cases P (long_form (oct o p) (length xs)) (λ c. inr (refl, longer_form (long_is (omega (arith, eqb-false (length xs) 0 a)) c))) (λ c.
      pick_cases P (ltb (value_at o p (length xs)) low) (λ f. inr (refl, out_of_range (inl (omega (arith, ltb-true (value_at o p (length xs)) low f))))) (λ f.
      pick_cases P (ltb high (value_at o p (length xs))) (λ g. inr (refl, out_of_range (inr (omega (arith, ltb-true high (value_at o p (length xs)) g))))) (λ g.
      inl (refl, kept_number low high (eqb-false (length xs) 0 a) (ltb-false 4 (length xs) b) c (omega (arith, ltb-false (value_at o p (length xs)) low f)) (omega (arith, ltb-false high (value_at o p (length xs)) g))))))))
    where
      P : ℕ → Type 0
      P = Judges (number low high) xs

  pub object_judges : (k n d v : ℕ) → Judges object xs (object_rule (rec k n d v p (length xs)))
  unfolding object_rule
  object_judges k n d v = pick_cases (Judges object xs) (eqb (length xs) 4) (λ a. inl (refl, kept (eqb-true (length xs) 4 a))) (λ a. inr (refl, wrong_length (eqb-false (length xs) 4 a)))
    where
      kept : length xs ≡ 4 → Keeps object xs
      kept four (wrong_length z) = z four
      kept four (longer_form z) = z
      kept four (out_of_range z) = z

  -- an application object has its four octets already: "12 object, 4"
  pub device_judges : (k n d v : ℕ) → length xs ≡ 4 → Judges (object_of 8) xs (device_rule o (rec k n d v p (length xs)))
  unfolding device_rule
  device_judges k n d v four =
      let e : value_at o p (length xs) / 4194304 ≡ number_in xs / 4194304 = ap type_of (stands_value o p xs h) in
      pick_cases (Judges (object_of 8) xs) (eqb (type_of (value_at o p (length xs))) 8) (λ a. inl (refl, kept (sym e ∙ eqb-true _ 8 a))) (λ a. inr (refl, out_of_range (λ z. eqb-false _ 8 a (e ∙ z))))
    where
      kept : number_in xs / 4194304 ≡ 8 → Keeps (object_of 8) xs
      kept eight (wrong_length z) = z four
      kept eight (longer_form z) = z
      kept eight (out_of_range z) = z eight
