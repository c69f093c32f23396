-- The bits of a first octet, by the page's table and by the tests of the reading, both ways.
use Prim.Native.Nat.{ℕ, zero, suc, ◌/◌, ◌%◌, ◌≤◌, ◌<◌}
use native.Mathlib.Omega.{arith}
use mathlib.Core.Path.{◌≡◌}
use mathlib.Core.Logic.{◌⊎◌}
use mathlib.Core.Bool.{true, false}
use lib.Dec.{leb, ltb, eqb}
use borrow.Author.Tests.{leb-true, leb-false, ltb-true, ltb-false, eq-eqb, eqb-true}
use Rattle.octets.specs.Choice.{pick, by_test, impossible}
use Rattle.apdu.specs.Reading.{bit3, bit2, mor_without_seg}
use Rattle.apdu.specs.Rows.{Bit, ZeroBit, BadFirst}

module _ (x : ℕ) where
  -- a bit by its weight within the low bits
  bit_three : x % 16 / 8 ≡ 1 → Bit x 3
  bit_three q = omega arith

  bit_two : x % 8 / 4 ≡ 1 → Bit x 2
  bit_two q = omega arith

  bit_one : x % 4 / 2 ≡ 1 → Bit x 1
  bit_one q = omega arith

  bit_zero : x % 2 ≡ 1 → Bit x 0
  bit_zero q = omega arith

  -- SEG, MOR, and MOR without SEG
  pub seg_bit : bit3 x ≡ true → Bit x 3
  seg_bit e = bit_three (eqb-true (x % 16 / 8) 1 e)

  pub bit_seg : Bit x 3 → bit3 x ≡ true
  bit_seg b = eq-eqb (x % 16 / 8) 1 (omega arith)

  pub mor_bit : bit2 x ≡ true → Bit x 2
  mor_bit e = bit_two (eqb-true (x % 8 / 4) 1 e)

  pub lone_bits : mor_without_seg x ≡ true → Bit x 2 × (Bit x 3 → ⊥)
  lone_bits e = let q = eqb-true (x % 16 / 4) 1 e in (omega arith, λ b. omega arith)

  pub bits_lone : Bit x 2 → (Bit x 3 → ⊥) → mor_without_seg x ≡ true
  bits_lone b f =
      by_test (bit3 x)
      (λ e. absurd (f (seg_bit e)))
      (λ e. by_test (leb 8 (x % 16))
      (λ d. let v = leb-true 8 (x % 16) d in let q : bit3 x ≡ true = eq-eqb (x % 16 / 8) 1 (omega arith) in impossible (cc))
      (λ d. let v = leb-false 8 (x % 16) d in eq-eqb (x % 16 / 4) 1 (omega arith)))

  -- a number of the low bits that is too great has a bit set among those that it should not have
  pub bit_32 : {P : Type 0} → 3 < x % 16 → ((i : ℕ) → 2 ≤ i → i ≤ 3 → Bit x i → P) → P
  bit_32 h f =
      by_test (leb 8 (x % 16))
      (λ e. let v = leb-true 8 (x % 16) e in f 3 (omega arith) (omega arith) (bit_three (omega arith)))
      (λ e. let v = leb-false 8 (x % 16) e in f 2 (omega arith) (omega arith) (bit_two (omega arith)))

  pub bit_31 : {P : Type 0} → 1 < x % 16 → ((i : ℕ) → 1 ≤ i → i ≤ 3 → Bit x i → P) → P
  bit_31 h f =
      by_test (ltb 3 (x % 16))
      (λ e. bit_32 (ltb-true 3 (x % 16) e) (λ i l k b. f i (omega arith) k b))
      (λ e. let v = ltb-false 3 (x % 16) e in f 1 (omega arith) (omega arith) (bit_one (omega arith)))

  pub bit_30 : {P : Type 0} → 0 < x % 16 → ((i : ℕ) → i ≤ 3 → Bit x i → P) → P
  bit_30 h f =
      by_test (ltb 1 (x % 16))
      (λ e. bit_31 (ltb-true 1 (x % 16) e) (λ i l k b. f i k b))
      (λ e. let v = ltb-false 1 (x % 16) e in f 0 (omega arith) (bit_zero (omega arith)))

  pub bit_10 : {P : Type 0} → 0 < x % 4 → ((i : ℕ) → i ≤ 1 → Bit x i → P) → P
  bit_10 h f =
      by_test (ltb 1 (x % 4))
      (λ e. let v = ltb-true 1 (x % 4) e in f 1 (omega arith) (bit_one (omega arith)))
      (λ e. let v = ltb-false 1 (x % 4) e in f 0 (omega arith) (bit_zero (omega arith)))

  -- a first octet is bad by a number of its low bits, or by MOR without SEG
  pub bad_request : x / 16 ≡ 0 → 0 < x % 2 → BadFirst x
  bad_request k h = BadFirst.zero_bit {i = 0} (rw k ZeroBit.request) (bit_zero (omega arith))

  pub bad_complex_ack : x / 16 ≡ 3 → 0 < x % 4 → BadFirst x
  bad_complex_ack k h = bit_10 h (λ i l b. BadFirst.zero_bit {i = i} (rw k (ZeroBit.complex_ack l)) b)

  pub bad_segment_ack : x / 16 ≡ 4 → 3 < x % 16 → BadFirst x
  bad_segment_ack k h = bit_32 h (λ i m l b. BadFirst.zero_bit {i = i} (rw k (ZeroBit.segment_ack m l)) b)

  pub bad_abort : x / 16 ≡ 7 → 1 < x % 16 → BadFirst x
  bad_abort k h = bit_31 h (λ i m l b. BadFirst.zero_bit {i = i} (rw k (ZeroBit.abort m l)) b)

  pub bad_unconfirmed : x / 16 ≡ 1 → 0 < x % 16 → BadFirst x
  bad_unconfirmed k h = bit_30 h (λ i l b. BadFirst.zero_bit {i = i} (rw k (ZeroBit.unconfirmed l)) b)

  pub bad_simple_ack : x / 16 ≡ 2 → 0 < x % 16 → BadFirst x
  bad_simple_ack k h = bit_30 h (λ i l b. BadFirst.zero_bit {i = i} (rw k (ZeroBit.simple_ack l)) b)

  pub bad_error : x / 16 ≡ 5 → 0 < x % 16 → BadFirst x
  bad_error k h = bit_30 h (λ i l b. BadFirst.zero_bit {i = i} (rw k (ZeroBit.error l)) b)

  pub bad_reject : x / 16 ≡ 6 → 0 < x % 16 → BadFirst x
  bad_reject k h = bit_30 h (λ i l b. BadFirst.zero_bit {i = i} (rw k (ZeroBit.reject l)) b)

  pub bad_more : (x / 16 ≡ 0) ⊎ (x / 16 ≡ 3) → mor_without_seg x ≡ true → BadFirst x
  bad_more k e = let b = lone_bits e in BadFirst.lone_more k b.0 b.1

-- a bit that is set makes the number so great
pub set_30 : (x i : ℕ) → i ≤ 3 → Bit x i → 0 < x % 16
set_30 x zero k b = omega arith
set_30 x (suc zero) k b = omega arith
set_30 x (suc (suc zero)) k b = omega arith
set_30 x (suc (suc (suc zero))) k b = omega arith
set_30 x (suc (suc (suc (suc i)))) k b = absurd (omega arith)

pub set_31 : (x i : ℕ) → 1 ≤ i → i ≤ 3 → Bit x i → 1 < x % 16
set_31 x zero l k b = absurd (omega arith)
set_31 x (suc zero) l k b = omega arith
set_31 x (suc (suc zero)) l k b = omega arith
set_31 x (suc (suc (suc zero))) l k b = omega arith
set_31 x (suc (suc (suc (suc i)))) l k b = absurd (omega arith)

pub set_32 : (x i : ℕ) → 2 ≤ i → i ≤ 3 → Bit x i → 3 < x % 16
set_32 x zero l k b = absurd (omega arith)
set_32 x (suc zero) l k b = absurd (omega arith)
set_32 x (suc (suc zero)) l k b = omega arith
set_32 x (suc (suc (suc zero))) l k b = omega arith
set_32 x (suc (suc (suc (suc i)))) l k b = absurd (omega arith)

pub set_10 : (x i : ℕ) → i ≤ 1 → Bit x i → 0 < x % 4
set_10 x zero k b = omega arith
set_10 x (suc zero) k b = omega arith
set_10 x (suc (suc i)) k b = absurd (omega arith)

-- by the type: the low bits that hold a zero bit, and the most that they may be
abbrev within : ℕ → ℕ
within k = pick (eqb k 0) 2 (pick (eqb k 3) 4 16)

abbrev most : ℕ → ℕ
most k = pick (eqb k 4) 3 (pick (eqb k 7) 1 0)

set_zero : {k i : ℕ} → ZeroBit k i → (x : ℕ) → Bit x i → most k < x % within k
set_zero ZeroBit.request x b = omega arith
set_zero (ZeroBit.unconfirmed l) x b = set_30 x _ l b
set_zero (ZeroBit.simple_ack l) x b = set_30 x _ l b
set_zero (ZeroBit.complex_ack l) x b = set_10 x _ l b
set_zero (ZeroBit.segment_ack m l) x b = set_32 x _ m l b
set_zero (ZeroBit.error l) x b = set_30 x _ l b
set_zero (ZeroBit.reject l) x b = set_30 x _ l b
set_zero (ZeroBit.abort m l) x b = set_31 x _ m l b

-- so a first octet that passes the tests of its type is not bad
pub good_first : (k x : ℕ) → x / 16 ≡ k → x % within k ≤ most k → ((x / 16 ≡ 0) ⊎ (x / 16 ≡ 3) → mor_without_seg x ≡ false) → BadFirst x → ⊥
good_first k x e h f (BadFirst.zero_bit z b) = let v = set_zero z x b in let w : most k < x % within k = rw e at v in omega arith
good_first k x e h f (BadFirst.lone_more s b g) = let v = bits_lone x b g in let w = f s in impossible (cc)
