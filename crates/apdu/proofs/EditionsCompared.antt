-- The two editions compared. What two editions say alike, and what an edition says of a code above its own, is said over any edition.
use Rattle.std.specs.Prelude.{Ok, Err}
use Prim.Native.Nat.{ℕ, zero, suc, ◌+◌, ◌*◌, ◌/◌, ◌%◌, ◌≤◌, ◌<◌}
use native.Mathlib.Omega.{arith}
use mathlib.Core.Path.{◌≡◌, refl, sym, ap, ◌∙◌}
use mathlib.Core.Logic.{◌⊎◌, inl, inr, ⊎_elim}
use mathlib.Core.Bool.{false}
use mathlib.Core.List.{List}
use lib.ListN.{length}
use lib.Dec.{ltb, leb, eqb}
use borrow.Author.Tests.{lt-ltb, le-ltb, le-leb, lt-leb, ltb-true, ltb-false, leb-true, leb-false, eqb-true, eqb-false}
use Rattle.octets.specs.Choice.{by_test, impossible, pick_same}
use Rattle.octets.specs.Reading.{oct}
use Rattle.apdu.specs.declared.Edition.{Edition}
use Rattle.apdu.specs.declared.Edition.TheVariants.{First, Later}
use Rattle.apdu.specs.declared.Pdu.{Pdu}
use Rattle.apdu.specs.declared.Pdu.TheVariants.{Request, Unconfirmed, SimpleAck, ComplexAck, SegmentAck, Error, Reject, Abort}
use Rattle.apdu.specs.Editions.{most, code_of}
use Rattle.apdu.specs.Reading.{Answer, read_apdu, read_request, mor_without_seg}
use Rattle.apdu.specs.Fault.{fault_of}
use Rattle.apdu.specs.Rows.{Bit, UpperZero}
use Rattle.apdu.specs.EditionsCompared.{UpperSet, ReadingsCompared, FaultsCompared, UpperBits}
use Rattle.apdu.proofs.Typed.{as_request}
use Rattle.apdu.proofs.Exact.{read_writes_back, kind_read}
use Rattle.apdu.proofs.Shown.{code_fine}
use Rattle.apdu.proofs.FirstFault.{fault_22, fault_none}

-- ---- any two editions: alike of another kind, of a request without octet 2, and of one whose code both have
module _ (e d : Edition) (s : List ℕ) where
  other_kind : eqb (oct s 0 / 16) 0 ≡ false → read_apdu e s ≡ read_apdu d s
  unfolding read_apdu
  other_kind f = rw f

  short : length s ≤ 1 → read_apdu e s ≡ read_apdu d s
  unfolding read_apdu read_request
  short h = rw (le-leb (length s) 1 h)

  both_have : oct s 1 / 16 ≤ most e → oct s 1 / 16 ≤ most d → read_apdu e s ≡ read_apdu d s
  unfolding read_apdu read_request
  both_have h k = rw (le-ltb (most e) (oct s 1 / 16) h, le-ltb (most d) (oct s 1 / 16) k)

-- ---- any edition: a request with a code above its own is 22, whatever the first octet; what it writes has a code of its own
module _ (e : Edition) where
  above : (s : List ℕ) → 1 < length s → oct s 0 / 16 ≡ 0 → most e < oct s 1 / 16 → read_apdu e s ≡ Err 22
  unfolding read_request
  above s l k h =
      as_request e s (omega arith) k
      ∙ rw (lt-leb (length s) 1 l, lt-ltb (most e) (oct s 1 / 16) h, pick_same {A = Answer} (mor_without_seg (oct s 0)) (Err 22)) (pick_same {A = Answer} (ltb 0 (oct s 0 % 2)) (Err 22))

  code_has : (p : Pdu) → fault_of e p ≡ 0 → code_of p ≤ most e
  code_has p f =
      by_test (ltb (most e) (code_of p))
      (λ u. absurd (((fault_none e p).0 f).0 (inr (ltb-true (most e) (code_of p) u))))
      (λ u. ltb-false (most e) (code_of p) u)

  -- and where the upper four bits of octet 2 are set, the code that is read is not 0
  code_read : (s : List ℕ) (p : Pdu) → read_apdu e s ≡ Ok p → UpperSet s → 0 < code_of p
  code_read s (Request p) g u =
      let b = read_writes_back e s (Request p) g in
      let o : oct s 1 ≡ p.accepts * 16 + p.size = ap (λ (l : List ℕ). oct l 1) (sym b.1) in
      let v = u.set in
      by_test (ltb 5 p.size)
      (λ h. absurd (((fault_none e (Request p)).0 b.0).1 (inl (ltb-true 5 p.size h))))
      (λ h. let w = ltb-false 5 p.size h in omega arith)
  code_read s (Unconfirmed p) g u = absurd (omega (arith, u.request, kind_read e s (Unconfirmed p) g))
  code_read s (SimpleAck p) g u = absurd (omega (arith, u.request, kind_read e s (SimpleAck p) g))
  code_read s (ComplexAck p) g u = absurd (omega (arith, u.request, kind_read e s (ComplexAck p) g))
  code_read s (SegmentAck p) g u = absurd (omega (arith, u.request, kind_read e s (SegmentAck p) g))
  code_read s (Error p) g u = absurd (omega (arith, u.request, kind_read e s (Error p) g))
  code_read s (Reject p) g u = absurd (omega (arith, u.request, kind_read e s (Reject p) g))
  code_read s (Abort p) g u = absurd (omega (arith, u.request, kind_read e s (Abort p) g))

-- ---- reading under the two
module _ (s : List ℕ) where
  refused_set : UpperSet s → read_apdu First s ≡ Err 22
  refused_set u = above First s u.second u.request u.set

  upper_test : UpperSet s ⊎ ((UpperSet s → ⊥) × (read_apdu First s ≡ read_apdu Later s))
  upper_test =
      by_test (eqb (oct s 0 / 16) 0)
      (λ k. by_test (leb (length s) 1)
      (λ l. let h = leb-true (length s) 1 l in inr ((λ u. omega (arith, u.second)), short First Later s h))
      (λ l. by_test (ltb 0 (oct s 1 / 16))
      (λ v. inl (record { second = leb-false (length s) 1 l; request = eqb-true (oct s 0 / 16) 0 k; set = ltb-true 0 (oct s 1 / 16) v }))
      (λ v. let h = ltb-false 0 (oct s 1 / 16) v in inr ((λ u. omega (arith, u.set)), both_have First Later s h (omega arith)))))
      (λ k. inr ((λ u. absurd (eqb-false (oct s 0 / 16) 0 k u.request)), other_kind First Later s k))

  same_clear : (UpperSet s → ⊥) → read_apdu First s ≡ read_apdu Later s
  same_clear n = ⊎_elim (λ u. absurd (n u)) (λ c. c.1) upper_test

  accepted_alike : (p : Pdu) → read_apdu First s ≡ Ok p → (read_apdu Later s ≡ Ok p) × (code_of p ≡ 0)
  accepted_alike p g =
      let z = code_has First p (read_writes_back First s p g).0 in
      (sym (same_clear (λ u. let r = refused_set u in impossible (cc))) ∙ g, omega arith)

  plain_alike : (p : Pdu) → read_apdu Later s ≡ Ok p → code_of p ≡ 0 → read_apdu First s ≡ Ok p
  plain_alike p g z = same_clear (λ u. omega (arith, code_read Later s p g u)) ∙ g

  coded_refused : (p : Pdu) → read_apdu Later s ≡ Ok p → 0 < code_of p → read_apdu First s ≡ Err 22
  coded_refused p g h = ⊎_elim refused_set (λ c. absurd (omega (arith, (accepted_alike p (c.1 ∙ g)).1))) upper_test

  refused_too : (n : ℕ) → read_apdu Later s ≡ Err n → (read_apdu First s ≡ Err n) ⊎ (UpperSet s × (read_apdu First s ≡ Err 22))
  refused_too n r = ⊎_elim (λ u. inr (u, refused_set u)) (λ c. inl (c.1 ∙ r)) upper_test

pub readings_compared : ReadingsCompared
readings_compared =
    record {
      set = refused_set;
      clear = same_clear;
      accepted = accepted_alike;
      plain = plain_alike;
      coded = coded_refused;
      refused = refused_too;
    }

-- ---- writing under the two
plain_same : (p : Pdu) → code_of p ≡ 0 → fault_of First p ≡ fault_of Later p
plain_same (Request p) z = rw (code_fine First p.accepts (omega arith), code_fine Later p.accepts (omega arith))
plain_same (Unconfirmed p) z = refl
plain_same (SimpleAck p) z = refl
plain_same (ComplexAck p) z = refl
plain_same (SegmentAck p) z = refl
plain_same (Error p) z = refl
plain_same (Reject p) z = refl
plain_same (Abort p) z = refl

none_too : (p : Pdu) → fault_of First p ≡ 0 → (fault_of Later p ≡ 0) × (code_of p ≡ 0)
none_too p f = let z : code_of p ≡ 0 = omega (arith, code_has First p f) in (sym (plain_same p z) ∙ f, z)

pub faults_compared : FaultsCompared
faults_compared = record { coded = λ p h. (fault_22 First p).1 (inr h); plain = plain_same; none = none_too }

-- ---- the zero bits of octet 2 by the page, and the greatest code
bit_above : {e : Edition} (x : ℕ) {i : ℕ} → UpperZero e i → Bit x i → most e < x / 16
bit_above x (UpperZero.upper {i} l h) b = set_47 i l h b
  where
    set_47 : (i : ℕ) → 4 ≤ i → i ≤ 7 → Bit x i → 0 < x / 16
    set_47 zero l h b = absurd (omega arith)
    set_47 (suc zero) l h b = absurd (omega arith)
    set_47 (suc (suc zero)) l h b = absurd (omega arith)
    set_47 (suc (suc (suc zero))) l h b = absurd (omega arith)
    set_47 (suc (suc (suc (suc zero)))) l h b = omega arith
    set_47 (suc (suc (suc (suc (suc zero))))) l h b = omega arith
    set_47 (suc (suc (suc (suc (suc (suc zero)))))) l h b = omega arith
    set_47 (suc (suc (suc (suc (suc (suc (suc zero))))))) l h b = omega arith
    set_47 (suc (suc (suc (suc (suc (suc (suc (suc i)))))))) l h b = absurd (omega arith)
bit_above x UpperZero.seventh b = omega arith

above_bit : (e : Edition) (x : ℕ) → x < 256 → most e < x / 16 → (i : ℕ) × UpperZero e i × Bit x i
above_bit First x l h =
    by_test (leb 128 x) (λ a. let v = leb-true 128 x a in (7, UpperZero.upper (omega arith) (omega arith), omega arith)) (λ a.
    by_test (leb 64 x) (λ b. let v = leb-false 128 x a in let w = leb-true 64 x b in (6, UpperZero.upper (omega arith) (omega arith), omega arith)) (λ b.
    by_test (leb 32 x) (λ c. let v = leb-false 64 x b in let w = leb-true 32 x c in (5, UpperZero.upper (omega arith) (omega arith), omega arith)) (λ c.
    let v = leb-false 32 x c in (4, UpperZero.upper (omega arith) (omega arith), omega arith))))
above_bit Later x l h = (7, UpperZero.seventh, omega arith)

pub upper_bits : UpperBits
upper_bits e x l = (above_bit e x l, λ w. bit_above x w.1 w.2)
