-- What is known where nothing is refused.
use Prim.Native.Nat.{ℕ, ◌≤◌, ◌<◌}
use native.Mathlib.Omega.{arith}
use mathlib.Core.Path.{◌≡◌, refl}
use mathlib.Core.Bool.{Bool, false}
use lib.Dec.{ltb, eqb}
use borrow.Author.Tests.{lt-ltb, le-ltb, ltb-false, eqb-true, eqb-false, ne_eqb}
use Rattle.octets.specs.Choice.{pick, given, pick_not, by_test}
use Rattle.npdu.specs.Fault as Network
use Rattle.apdu.specs.Fault as Header
use Rattle.apdu.specs.Fault.{mor_fault, segment_fault, or_else}
use Rattle.apdu.specs.declared.Edition.{Edition}
use Rattle.cutter.specs.declared.Message.{Message}
use Rattle.cutter.specs.declared.Message.TheVariants.{Request, ComplexAck}
use Rattle.cutter.specs.declared.Way.{Way}
use Rattle.cutter.specs.Layout.{network_head, pdu_of, segments_of}
use Rattle.cutter.specs.Fault.{front_fault, count_fault, fault_of}

-- the numbers of a way in their ranges
pub record InRange (w : Way) (n : ℕ) : Type 0 where
  pub few : n ≤ 16384
  pub some : 1 ≤ w.each
  pub short : w.each ≤ 474
  pub network : Network.fault_of (network_head w) ≡ 0

past : (b : Bool) (f y : ℕ) → 1 ≤ f → pick b f y ≡ 0 → (b ≡ false) × (y ≡ 0)
past b f y h e = pick_not b f y 0 (λ d. omega arith) e

pub in_range : (w : Way) (n : ℕ) → front_fault w n ≡ 0 → InRange w n
unfolding front_fault
in_range w n z =
    let a = past (ltb 16384 n) 39 _ (omega arith) z in
    let b = past (eqb w.each 0) 64 _ (omega arith) a.1 in
    let c = past (ltb 474 w.each) 64 _ (omega arith) b.1 in
    let d = past (eqb w.window 0) 64 _ (omega arith) c.1 in
    let e = past (ltb 127 w.window) 64 _ (omega arith) d.1 in
    record {
      few = ltb-false 16384 n a.0;
      some = omega (arith, eqb-false w.each 0 b.0);
      short = ltb-false 474 w.each c.0;
      network = e.1;
    }

-- the header's fault is the same for every segment
pub every_header : (e : Edition) (m : Message) (window : ℕ) (more : Bool) (number : ℕ) → Header.fault_of e (pdu_of m window more number) ≡ Header.fault_of e (pdu_of m window false 0)
unfolding mor_fault segment_fault given
every_header e (Request q) window more number = refl
every_header e (ComplexAck q) window more number = refl

pub record Fine (e : Edition) (m : Message) (w : Way) (n : ℕ) : Type 0 where
  pub none : fault_of e m w n ≡ 0
  pub range : InRange w n
  pub header : (more : Bool) (number : ℕ) → Header.fault_of e (pdu_of m w.window more number) ≡ 0
  pub bounded : segments_of w.each n ≤ 256

neither : (a b : ℕ) → or_else a b ≡ 0 → (a ≡ 0) × (b ≡ 0)
neither a b e = by_test (eqb a 0) (λ z. (eqb-true a 0 z, rw z at e)) (λ z. let v : a ≡ 0 = rw z at e in absurd (eqb-false a 0 z v))

pub fine : (e : Edition) (m : Message) (w : Way) (n : ℕ) → fault_of e m w n ≡ 0 → Fine e m w n
unfolding fault_of count_fault
fine e m w n z =
    let a = neither (front_fault w n) _ z in
    let b = neither (Header.fault_of e (pdu_of m w.window false 0)) _ a.1 in
    record {
      none = z;
      range = in_range w n a.0;
      header = λ more number. rw (every_header e m w.window more number) b.0;
      bounded = ltb-false 256 (segments_of w.each n) (past (ltb 256 (segments_of w.each n)) 63 0 (omega arith) b.1).0;
    }

-- ---- what is refused, in order
module _ (e : Edition) (m : Message) (w : Way) (n : ℕ) where
  pub front_refused : (x : ℕ) → x ≡ front_fault w n → 1 ≤ x → x ≡ fault_of e m w n
  unfolding fault_of
  front_refused x h s = rw (← h, ne_eqb x 0 (λ z. omega arith))

  module _ (front : 0 ≡ front_fault w n) where
    pub header_refused : (x : ℕ) → x ≡ Header.fault_of e (pdu_of m w.window false 0) → 1 ≤ x → x ≡ fault_of e m w n
    unfolding fault_of
    header_refused x h s = rw (← front, ← h, ne_eqb x 0 (λ z. omega arith))

    module _ (header : 0 ≡ Header.fault_of e (pdu_of m w.window false 0)) where
      pub many_refused : 256 < segments_of w.each n → 63 ≡ fault_of e m w n
      unfolding fault_of count_fault
      many_refused h = rw (← front, ← header, lt-ltb 256 (segments_of w.each n) h)

      pub none_refused : segments_of w.each n ≤ 256 → fault_of e m w n ≡ 0
      unfolding fault_of count_fault
      none_refused h = rw (← front, ← header, le-ltb 256 (segments_of w.each n) h)
