-- What is said of a PDU of a known kind, for who goes by its kind; and a flag as an octet: that it is the layout's bit, and how large it is.
use Prim.Native.Nat.{ℕ, ◌≤◌}
use native.Mathlib.Omega.{arith}
use mathlib.Core.Path.{◌≡◌, refl}
use mathlib.Core.Bool.{Bool, true, false}
use mathlib.Core.List.{List}
use lib.ListN.{length}
use Rattle.std.specs.Int.{from_bool}
use Rattle.octets.specs.Choice.{given}
use Rattle.octets.specs.Splice.{splice}
use Rattle.apdu.specs.declared.Pdu.{Pdu}
use Rattle.apdu.specs.Layout.{flag, header}
use Rattle.apdu.specs.Rows.{Fits}

-- an area that holds the header holds that of its kind, and as many octets as that one has
pub kind_holds : (p q : Pdu) (n : ℕ) → p ≡ q → (length (header p) ≤ n) × Fits p → (length (header q) ≤ n) × Fits q
kind_holds p q n e h = rw e at h

pub kind_fits : (p q : Pdu) (k n : ℕ) → p ≡ q → length (header q) ≡ k → (length (header p) ≤ n) × Fits p → k ≤ n
kind_fits p q k n e d h = rw (← d, ← e) h.0

-- and octets laid that are the header of its kind are its header
pub kind_laid : (p q : Pdu) (o area later : List ℕ) → p ≡ q → later ≡ splice area 0 o → o ≡ header q → later ≡ splice area 0 (header p)
kind_laid p q o area later e h d = rw (e, ← d) h

-- a flag as the octet that `u8::from` makes of it, and how large it is
pub flag_bit : (b : Bool) → from_bool b ≡ flag b
unfolding flag given
flag_bit true = refl
flag_bit false = refl

pub bit_small : (b : Bool) → from_bool b ≤ 1
bit_small true = omega arith
bit_small false = omega arith

pub ruleset bits = (flag_bit, bit_small)
