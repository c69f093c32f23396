-- A slot's octets are that slot, and octets that are a slot are its octets.
use Prim.Native.Nat.{ℕ, ◌+◌, ◌≤◌}
use native.Mathlib.Omega.{arith}
use mathlib.Core.Path.{◌≡◌, refl, sym}
use mathlib.Core.Bool.{true}
use mathlib.Core.List.{List, [], ◌++◌, append_assoc, append-nil}
use lib.Dec.{leb}
use lib.ListN.{length, length-append}
use Rattle.octets.specs.Choice.{both, both_true, true_both}
use Rattle.octets.specs.Reading.{oct, Octets}
use Rattle.octets.specs.Splice.{splice}
use Rattle.rebuild.specs.declared.Slot.{Slot}
use Rattle.records.proofs.Areas.{three_laid}
use Rattle.records.proofs.Networks.{two_back}
use Rattle.state.specs.Slot.{address_octets, address_at, slot_size, front_octets, slot_octets, SlotFits, SlotShaped, slot_good, slot_of}
use Rattle.state.proofs.Parts.{run_all, high_octet, low_octet, pair_below}
use Rattle.state.proofs.Address.{flag_back, flag_stands, address_size_lem, address_back, address_good, address_stands, address_fits}

pub fits_sized : {x : Slot} → SlotFits x → SlotShaped x
fits_sized f = record { from = f.from.seven; to = f.to.seven }

pub slot_size_lem : (x : Slot) → SlotShaped x → length (slot_octets x) ≡ slot_size
unfolding slot_octets
slot_size_lem x f = simp (length-append, address_size_lem x.key.from f.from, address_size_lem x.key.to f.to)

-- ---- the octets of a slot are that slot
module _ (x : Slot) (f : SlotShaped x) where
  abbrev from : List ℕ
  from = address_octets x.key.from

  abbrev to : List ℕ
  to = address_octets x.key.to

  -- its last address has nothing behind it
  to_last : slot_octets x ≡ (front_octets x ++ from) ++ (to ++ [])
  unfolding slot_octets
  to_last = rw (append-nil to) (sym (append_assoc (front_octets x) from to))

  to_place : length (front_octets x ++ from) ≡ 20
  to_place = rw (length-append, address_size_lem x.key.from f.from)

  from_back : address_at (slot_octets x) 9 ≡ x.key.from
  unfolding slot_octets
  from_back = address_back (front_octets x) x.key.from to 9 refl f.from

  to_back : address_at (slot_octets x) 20 ≡ x.key.to
  to_back = rw to_last (address_back (front_octets x ++ from) x.key.to [] 20 to_place f.to)

  from_good : leb (oct (slot_octets x) 9) 1 ≡ true
  unfolding slot_octets
  from_good = address_good (front_octets x) x.key.from to 9 refl

  to_good : leb (oct (slot_octets x) 20) 1 ≡ true
  to_good = rw to_last (address_good (front_octets x ++ from) x.key.to [] 20 to_place)

  slot_is : slot_of (slot_octets x) ≡ x
  unfolding slot_octets slot_of
  slot_is = rw (from_back, to_back, two_back x.held, (flag_back x.used).0)

  slot_is_good : slot_good (slot_octets x) ≡ true
  unfolding slot_octets slot_good
  slot_is_good = true_both _ _ (flag_back x.used).1 (true_both _ _ from_good to_good)

  pub slot_back : (slot_of (slot_octets x) ≡ x) × (slot_good (slot_octets x) ≡ true)
  slot_back = (slot_is, slot_is_good)

-- ---- octets that are a slot are its octets, and it fits them
module _ (s : List ℕ) (os : Octets s) (size : length s ≡ slot_size) where
  pub slot_stands : slot_good s ≡ true → slot_octets (slot_of s) ≡ s
  unfolding slot_octets slot_of slot_good
  slot_stands g =
      let a = both_true (leb (oct s 0) 1) (both (leb (oct s 9) 1) (leb (oct s 20) 1)) g in
      let b = both_true (leb (oct s 9) 1) (leb (oct s 20) 1) a.1 in
      rw (
        high_octet s os,
        low_octet s os,
        flag_stands (oct s 0) a.0,
        address_stands s os 9 (omega arith) b.0,
        address_stands s os 20 (omega arith) b.1,
      )
      (run_all s slot_size size)

  pub slot_fits : SlotFits (slot_of s)
  unfolding slot_of
  slot_fits =
      record {
        source = os 1;
        destination = os 2;
        kind = os 3;
        invoke = os 4;
        from = address_fits s os 9 (omega arith);
        to = address_fits s os 20 (omega arith);
        next = os 5;
        choice = os 6;
        held = pair_below s os 7 8;
      }

-- ---- its parts, laid one after the other
pub slot_laid : (area o : List ℕ) (x : Slot) (at : ℕ) {l₁ l₂ l₃ : List ℕ} → at + slot_size ≤ length area → SlotShaped x → o ≡ front_octets x
    → l₁ ≡ splice area at o → l₂ ≡ splice l₁ (at + 9) (address_octets x.key.from) → l₃ ≡ splice l₂ (at + 20) (address_octets x.key.to)
    → l₃ ≡ splice area at (slot_octets x)
unfolding slot_octets
slot_laid area o x at h f q e₁ e₂ e₃ =
    let m = address_size_lem x.key.from f.from in
    let n = address_size_lem x.key.to f.to in
    three_laid area at (at + 9) (at + 20) (front_octets x) (address_octets x.key.from) (address_octets x.key.to) (rw q at e₁) e₂ e₃
    refl (omega arith) (omega arith)
