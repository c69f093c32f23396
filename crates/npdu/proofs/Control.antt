-- The control octet and its bits.
use Prim.Native.Nat.{ℕ, zero, suc, ◌+◌, ◌*◌, ◌/◌, ◌%◌, ◌≤◌, ◌<◌}
use native.Mathlib.Omega.{arith}
use mathlib.Core.Bool.{Bool, true, false}
use mathlib.Core.Path.{◌≡◌, refl}
use lib.Dec.{eqb}
use borrow.Author.Tests.{eqb-false}
use Rattle.octets.specs.Choice.{given}
use Rattle.npdu.specs.Layout.{bit_of, control_of}
use Rattle.npdu.specs.declared.Npdu.{Npdu}

-- a flag is a digit: 1 where it is set
bit_small : (b : Bool) → bit_of b 1 ≤ 1
unfolding bit_of given
bit_small true = omega arith
bit_small false = omega arith

bit_wide : (b : Bool) (w : ℕ) → bit_of b w ≡ w * bit_of b 1
unfolding bit_of given
bit_wide true w = omega arith
bit_wide false w = omega arith

bit_flag : (b : Bool) → eqb (bit_of b 1) 1 ≡ b
unfolding bit_of given
bit_flag true = refl
bit_flag false = refl

bit_back : (x w : ℕ) → x < 2 → bit_of (eqb x 1) w ≡ w * x
unfolding bit_of given
bit_back zero w h = omega arith
bit_back (suc zero) w h = omega arith
bit_back (suc (suc x)) w h = absurd (omega arith)

-- the bits of a control octet that was put together
pub record Bits (c : ℕ) (h : Npdu) : Type 0 where
  pub seven : eqb (c / 128) 1 ≡ h.message
  pub six : eqb (c % 128 / 64) 1 ≡ false
  pub five : eqb (c % 64 / 32) 1 ≡ h.dest
  pub four : eqb (c % 32 / 16) 1 ≡ false
  pub three : eqb (c % 16 / 8) 1 ≡ h.source
  pub two : eqb (c % 8 / 4) 1 ≡ h.reply
  pub low : c % 4 ≡ h.priority

digits_of : (c m d s r p : ℕ) → m ≤ 1 → d ≤ 1 → s ≤ 1 → r ≤ 1 → p ≤ 3 → c ≡ 128 * m + 32 * d + 8 * s + 4 * r + p
    → (c / 128 ≡ m) × (c % 128 / 64 ≡ 0) × (c % 64 / 32 ≡ d) × (c % 32 / 16 ≡ 0) × (c % 16 / 8 ≡ s) × (c % 8 / 4 ≡ r) × (c % 4 ≡ p)
digits_of c m d s r p hm hd hs hr hp e = omega arith

pub control_bits : (h : Npdu) → h.priority ≤ 3 → Bits (control_of h) h
unfolding control_of
control_bits h p =
    let m = bit_of h.message 1 in
    let d = bit_of h.dest 1 in
    let s = bit_of h.source 1 in
    let r = bit_of h.reply 1 in
    let e : control_of h ≡ 128 * m + 32 * d + 8 * s + 4 * r + h.priority = rw (bit_wide h.message 128, bit_wide h.dest 32, bit_wide h.source 8, bit_wide h.reply 4) in
    let g = digits_of (control_of h) m d s r h.priority (bit_small h.message) (bit_small h.dest) (bit_small h.source) (bit_small h.reply) p e in
    record {
      seven = rw g.0 (bit_flag h.message);
      six = rw g.1;
      five = rw g.2 (bit_flag h.dest);
      four = rw g.3;
      three = rw g.4 (bit_flag h.source);
      two = rw g.5 (bit_flag h.reply);
      low = g.6;
    }

-- an octet with bits 6 and 4 zero is put together again from its bits
summed : (c e f g i j k l m d s r p : ℕ) → c ≡ 128 * m + e → e ≡ 64 * k + f → k ≡ 0 → f ≡ 32 * d + g → g ≡ 16 * j + i → j ≡ 0 → i ≡ 8 * s + l → l ≡ 4 * r + p
    → 128 * m + 32 * d + 8 * s + 4 * r + p ≡ c
summed c e f g i j k l m d s r p h7 h6 z6 h5 h4 z4 h3 h2 = omega arith

pub control_back : (c : ℕ) → c < 256 → eqb (c % 128 / 64) 1 ≡ false → eqb (c % 32 / 16) 1 ≡ false
    → bit_of (eqb (c / 128) 1) 128 + bit_of (eqb (c % 64 / 32) 1) 32 + bit_of (eqb (c % 16 / 8) 1) 8 + bit_of (eqb (c % 8 / 4) 1) 4 + c % 4 ≡ c
control_back c h six four =
    rw (bit_back (c / 128) 128 (omega arith), bit_back (c % 64 / 32) 32 (omega arith), bit_back (c % 16 / 8) 8 (omega arith), bit_back (c % 8 / 4) 4 (omega arith))
    (summed c (c % 128) (c % 64) (c % 32) (c % 16) (c % 32 / 16) (c % 128 / 64) (c % 8) (c / 128) (c % 64 / 32) (c % 16 / 8) (c % 8 / 4) (c % 4)
    (omega arith) (omega arith) (omega (arith, eqb-false (c % 128 / 64) 1 six)) (omega arith) (omega arith) (omega (arith, eqb-false (c % 32 / 16) 1 four)) (omega arith) (omega arith))
