-- Laws of the first octet: its parts are what it was made of, and it is made of its parts.
use Prim.Native.Nat.{ℕ, zero, suc, ◌/◌, ◌%◌, ◌≤◌, ◌<◌}
use native.Mathlib.Omega.{arith}
use mathlib.Core.Path.{◌≡◌, refl}
use mathlib.Core.Bool.{Bool, true, false}
use lib.Dec.{eqb}
use borrow.Author.Tests.{eq-eqb, ne_eqb, eqb-true, eqb-false}
use Rattle.octets.specs.Choice.{given}
use Rattle.apdu.specs.Reading.{bit3, bit2, bit1, bit0, mor_without_seg}
use Rattle.apdu.specs.Layout.{flag, first_octet}

-- the type and the low bits 3 to 0 of an octet
pub record Parts (x k : ℕ) (b3 b2 b1 b0 : Bool) : Type 0 where
  pub kind : x / 16 ≡ k
  pub third : bit3 x ≡ b3
  pub second : bit2 x ≡ b2
  pub first : bit1 x ≡ b1
  pub last : bit0 x ≡ b0

pub flag_small : (b : Bool) → flag b ≤ 1
unfolding flag given
flag_small true = omega arith
flag_small false = omega arith

flag_test : (n : ℕ) (b : Bool) → n ≡ flag b → eqb n 1 ≡ b
unfolding flag given
flag_test n true e = rw e
flag_test n false e = rw e

test_flag : (n : ℕ) → n < 2 → flag (eqb n 1) ≡ n
unfolding flag given
test_flag zero h = refl
test_flag (suc zero) h = refl
test_flag (suc (suc n)) h = absurd (omega arith)

-- bits that are zero, both ways
module _ (x : ℕ) where
  pub clear3 : x % 16 < 8 → bit3 x ≡ false
  clear3 h = ne_eqb (x % 16 / 8) 1 (λ e. omega arith)

  pub clear2 : x % 8 < 4 → bit2 x ≡ false
  clear2 h = ne_eqb (x % 8 / 4) 1 (λ e. omega arith)

  pub clear1 : x % 4 < 2 → bit1 x ≡ false
  clear1 h = ne_eqb (x % 4 / 2) 1 (λ e. omega arith)

  pub clear0 : x % 2 < 1 → bit0 x ≡ false
  clear0 h = ne_eqb (x % 2) 1 (λ e. omega arith)

  pub below3 : bit3 x ≡ false → x % 16 < 8
  below3 e = omega (arith, eqb-false (x % 16 / 8) 1 e)

  pub below2 : bit2 x ≡ false → x % 8 < 4
  below2 e = omega (arith, eqb-false (x % 8 / 4) 1 e)

  pub below1 : bit1 x ≡ false → x % 4 < 2
  below1 e = omega (arith, eqb-false (x % 4 / 2) 1 e)

  pub below0 : bit0 x ≡ false → x % 2 < 1
  below0 e = omega (arith, eqb-false (x % 2) 1 e)

  -- "MOR needs SEG", both ways
  pub needs_seg : mor_without_seg x ≡ false → bit2 x ≡ true → bit3 x ≡ true
  needs_seg e m = eq-eqb (x % 16 / 8) 1 (omega (arith, eqb-false (x % 16 / 4) 1 e, eqb-true (x % 8 / 4) 1 m))

  pub mor_with_seg : (bit2 x ≡ true → bit3 x ≡ true) → mor_without_seg x ≡ false
  mor_with_seg f =
      ne_eqb (x % 16 / 4) 1
      (λ e. let m : x % 8 / 4 ≡ 1 = omega arith in omega (arith, eqb-true (x % 16 / 8) 1 (f (eq-eqb (x % 8 / 4) 1 m))))

module _ (k : ℕ) (b3 b2 b1 b0 : Bool) where
  pub parts_of_lem : Parts (first_octet k b3 b2 b1 b0) k b3 b2 b1 b0
  unfolding first_octet
  parts_of_lem =
      let h3 = flag_small b3 in
      let h2 = flag_small b2 in
      let h1 = flag_small b1 in
      let h0 = flag_small b0 in
      let x : ℕ = first_octet k b3 b2 b1 b0 in
      record {
        kind = omega arith;
        third = flag_test (x % 16 / 8) b3 (omega arith);
        second = flag_test (x % 8 / 4) b2 (omega arith);
        first = flag_test (x % 4 / 2) b1 (omega arith);
        last = flag_test (x % 2) b0 (omega arith);
      }

  pub made_of : (x : ℕ) → Parts x k b3 b2 b1 b0 → x ≡ first_octet k b3 b2 b1 b0
  unfolding first_octet
  made_of x p =
      rw (← p.kind, ← p.third, ← p.second, ← p.first, ← p.last)
      (rw (test_flag (x % 16 / 8) (omega arith), test_flag (x % 8 / 4) (omega arith), test_flag (x % 4 / 2) (omega arith), test_flag (x % 2) (omega arith)) (omega arith))

-- "Other low bits are zero", where all are
pub no_bits : (k x : ℕ) → x / 16 ≡ k → x % 16 ≤ 0 → x ≡ first_octet k false false false false
unfolding first_octet flag given
no_bits k x e h = omega arith
