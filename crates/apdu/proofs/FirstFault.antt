-- The writer's number is that of the first field in octet order that breaks a rule, and the number that reading such octets gives.
use Rattle.std.specs.Prelude.{Err}
use Prim.Native.Nat.{ℕ, ◌≤◌, ◌<◌}
use native.Mathlib.Omega.{arith}
use mathlib.Core.Path.{◌≡◌, refl, sym, ◌∙◌}
use mathlib.Core.Logic.{◌↔◌, ◌⊎◌, inl, inr, ⊎_elim}
use mathlib.Core.Bool.{true, false}
use mathlib.Core.List.{List, [], ◌∷◌, ◌++◌}
use lib.Dec.{ltb, eqb}
use borrow.Author.Tests.{lt-ltb, ltb-true, ltb-false, eqb-true, eqb-false}
use Rattle.octets.specs.Choice.{given_true, given_false, by_test, impossible}
use Rattle.apdu.specs.declared.Edition.{Edition}
use Rattle.apdu.specs.declared.Segment.{Segment}
use Rattle.apdu.specs.declared.RequestPdu.{RequestPdu}
use Rattle.apdu.specs.declared.ComplexAckPdu.{ComplexAckPdu}
use Rattle.apdu.specs.declared.SegmentAckPdu.{SegmentAckPdu}
use Rattle.apdu.specs.declared.Pdu.{Pdu}
use Rattle.apdu.specs.declared.Pdu.TheVariants.{Request, Unconfirmed, SimpleAck, ComplexAck, SegmentAck, Error, Reject, Abort}
use Rattle.apdu.specs.Editions.{most, code_of}
use Rattle.apdu.specs.Fields.{segment_of}
use Rattle.apdu.specs.Reading.{read_apdu, bit2, bit3}
use Rattle.apdu.specs.Layout.{first_octet, tail, header}
use Rattle.apdu.specs.Valid.{Window}
use Rattle.apdu.specs.Fault.{mor_fault, window_fault, segment_fault, code_fault, size_fault, fault_of}
use Rattle.apdu.specs.Rows.{Off, BadFirst, ZeroBitSet, WindowAt, SizeOrWindow, LoneMore, ZeroField, OffField, Fits}
use Rattle.apdu.proofs.FirstOctet.{Parts, parts_of_lem, below3, below2, below1, below0, mor_with_seg}
use Rattle.apdu.proofs.Bits.{seg_bit, bit_seg, mor_bit, good_first}
use Rattle.apdu.proofs.Shown.{window_fine, code_fine, size_fine}
use Rattle.apdu.proofs.Offences.{off_window, zero_bit_refused, size_window_refused}

-- ---- the parts of the writer's number
abbrev Lone : Segment → Type 0
Lone g = (g.seg ≡ false) × (g.mor ≡ true)

module _ (g : Segment) where
  lone_fault : Lone g → mor_fault g ≡ 22
  unfolding mor_fault
  lone_fault l = given_false _ _ _ l.0 ∙ given_true _ _ _ l.1

  lone_test : Lone g ⊎ ((Lone g → ⊥) × (mor_fault g ≡ 0))
  unfolding mor_fault
  lone_test =
      by_test g.seg
      (λ e. inr ((λ l. let z = l.0 in impossible (cc)), given_true _ _ _ e))
      (λ e. by_test g.mor
      (λ d. inl (e, d))
      (λ d. inr ((λ l. let z = l.1 in impossible (cc)), given_false _ _ _ e ∙ given_false _ _ _ d)))

off_test : (w : ℕ) → Off w ⊎ Window w
off_test w =
    by_test (eqb w 0) (λ e. inl (inl (eqb-true w 0 e))) (λ e.
    by_test (ltb 127 w) (λ v. inl (inr (ltb-true 127 w v))) (λ v. inr (omega (arith, eqb-false w 0 e), ltb-false 127 w v)))

off_not : (w : ℕ) → Window w → Off w → ⊥
off_not w h (inl z) = omega arith
off_not w h (inr v) = omega arith

off_fault : (w : ℕ) → Off w → window_fault w ≡ 23
unfolding window_fault
off_fault w o = off_window w 23 0 o

size_fault_lem : (x : ℕ) → 5 < x → size_fault x ≡ 23
unfolding size_fault
size_fault_lem x h = simp (lt-ltb 5 x h)

code_fault_lem : (e : Edition) (x : ℕ) → most e < x → code_fault e x ≡ 22
unfolding code_fault
code_fault_lem e x h = simp (lt-ltb (most e) x h)

segment_test : (g : Segment) → (((g.seg ≡ true) × Off g.window) × (segment_fault g ≡ 23)) ⊎ (((g.seg ≡ true) × Off g.window → ⊥) × (segment_fault g ≡ 0))
unfolding segment_fault
segment_test g =
    by_test g.seg
    (λ e. ⊎_elim
    (λ o. inl ((e, o), given_true _ _ _ e ∙ off_fault g.window o))
    (λ w. inr ((λ o. off_not g.window w o.1), given_true _ _ _ e ∙ window_fine g.window w))
    (off_test g.window))
    (λ e. inr ((λ o. let z = o.0 in impossible (cc)), given_false _ _ _ e))

-- ---- what the number says of the fields
data Verdict (e : Edition) (p : Pdu) : ℕ → Type 0 where
  zeros : ZeroField e p → Verdict e p 22
  off : (ZeroField e p → ⊥) → OffField p → Verdict e p 23
  fine : (ZeroField e p → ⊥) → (OffField p → ⊥) → Verdict e p 0

module _ (edition : Edition) where
  -- no MOR without SEG, and a code of the edition
  no_zeros : (p : Pdu) → (LoneMore p → ⊥) → code_of p ≤ most edition → ZeroField edition p → ⊥
  no_zeros p n c (inl l) = n l
  no_zeros p n c (inr h) = omega arith

  -- as in a kind without MOR and without a code
  none_there : (p : Pdu) → (segment_of p).mor ≡ false → code_of p ≡ 0 → ZeroField edition p → ⊥
  none_there p m c = no_zeros p (λ l. let z = l.1 in impossible (cc)) (omega arith)

  verdict : (p : Pdu) → Verdict edition p (fault_of edition p)
  verdict (Request p) =
      let g = p.segment in
      ⊎_elim (λ l. rw (lone_fault g l) (zeros (inl l))) (λ m.
      by_test (ltb (most edition) p.accepts)
      (λ u. let h = ltb-true (most edition) p.accepts u in rw (m.1, code_fault_lem edition p.accepts h) (zeros (inr h)))
      (λ u. let c = ltb-false (most edition) p.accepts u in
      let n = no_zeros (Request p) m.0 c in
      let d = code_fine edition p.accepts c in
      by_test (ltb 5 p.size)
      (λ v. let h = ltb-true 5 p.size v in rw (m.1, d, size_fault_lem p.size h) (off n (inl h)))
      (λ v. let h = ltb-false 5 p.size v in
      ⊎_elim
      (λ o. rw (m.1, d, size_fine p.size h, o.1) (off n (inr o.0)))
      (λ w. rw (m.1, d, size_fine p.size h, w.1) (fine n (λ o. ⊎_elim (λ z. omega arith) w.0 o)))
      (segment_test g))))
      (lone_test g)
  verdict (Unconfirmed p) = fine (none_there (Unconfirmed p) refl refl) (λ o. o)
  verdict (SimpleAck p) = fine (none_there (SimpleAck p) refl refl) (λ o. o)
  verdict (ComplexAck p) =
      let g = p.segment in
      ⊎_elim (λ l. rw (lone_fault g l) (zeros (inl l))) (λ m.
      let n = no_zeros (ComplexAck p) m.0 (omega arith) in
      ⊎_elim (λ o. rw (m.1, o.1) (off n o.0)) (λ w. rw (m.1, w.1) (fine n w.0)) (segment_test g))
      (lone_test g)
  verdict (SegmentAck p) =
      let n = none_there (SegmentAck p) refl refl in
      ⊎_elim
      (λ o. rw (off_fault p.window o) (off n o))
      (λ w. rw (window_fine p.window w) (fine n (off_not p.window w)))
      (off_test p.window)
  verdict (Error p) = fine (none_there (Error p) refl refl) (λ o. o)
  verdict (Reject p) = fine (none_there (Reject p) refl refl) (λ o. o)
  verdict (Abort p) = fine (none_there (Abort p) refl refl) (λ o. o)

module _ {edition : Edition} {p : Pdu} where
  is_22 : {n : ℕ} → Verdict edition p n → (n ≡ 22) ↔ ZeroField edition p
  is_22 (zeros l) = ((λ e. l), (λ _. refl))
  is_22 (off f o) = ((λ e. absurd (omega arith)), (λ l. absurd (f l)))
  is_22 (fine f o) = ((λ e. absurd (omega arith)), (λ l. absurd (f l)))

  is_23 : {n : ℕ} → Verdict edition p n → (n ≡ 23) ↔ ((ZeroField edition p → ⊥) × OffField p)
  is_23 (zeros l) = ((λ e. absurd (omega arith)), (λ o. absurd (o.0 l)))
  is_23 (off f o) = ((λ e. (f, o)), (λ _. refl))
  is_23 (fine f o) = ((λ e. absurd (omega arith)), (λ h. absurd (o h.1)))

  is_0 : {n : ℕ} → Verdict edition p n → (n ≡ 0) ↔ ((ZeroField edition p → ⊥) × (OffField p → ⊥))
  is_0 (zeros l) = ((λ e. absurd (omega arith)), (λ o. absurd (o.0 l)))
  is_0 (off f o) = ((λ e. absurd (omega arith)), (λ h. absurd (h.1 o)))
  is_0 (fine f o) = ((λ e. (f, o)), (λ _. refl))

module _ (edition : Edition) (p : Pdu) where
  pub fault_22 : (fault_of edition p ≡ 22) ↔ ZeroField edition p
  fault_22 = is_22 (verdict edition p)

  pub fault_23 : (fault_of edition p ≡ 23) ↔ ((ZeroField edition p → ⊥) × OffField p)
  fault_23 = is_23 (verdict edition p)

  pub fault_none : (fault_of edition p ≡ 0) ↔ ((ZeroField edition p → ⊥) × (OffField p → ⊥))
  fault_none = is_0 (verdict edition p)

  pub fault_range : (fault_of edition p ≡ 0) ⊎ ((22 ≤ fault_of edition p) × (fault_of edition p ≤ 23))
  fault_range = number (verdict edition p)
    where
      number : {n : ℕ} → Verdict edition p n → (n ≡ 0) ⊎ ((22 ≤ n) × (n ≤ 23))
      number (zeros z) = inr (omega arith, omega arith)
      number (off f o) = inr (omega arith, omega arith)
      number (fine f o) = inl refl

-- ---- octets with such a field are refused with that number
tail_segmented : (g : Segment) (choice : ℕ) → g.seg ≡ true → tail g choice ≡ g.number ∷ g.window ∷ choice ∷ []
unfolding tail
tail_segmented g choice e = given_true _ _ _ e

-- a first octet of these parts has MOR without SEG exactly where the segment has
module _ (g : Segment) {x k : ℕ} {b1 b0 : _} (f : Parts x k g.seg g.mor b1 b0) where
  lone_first : (k ≡ 0) ⊎ (k ≡ 3) → Lone g → BadFirst x
  lone_first w l =
      BadFirst.lone_more (⊎_elim (λ e. inl (f.kind ∙ e)) (λ e. inr (f.kind ∙ e)) w) (mor_bit x (f.second ∙ l.1))
      (λ b. let z = bit_seg x b in let y = f.third in let v = l.0 in impossible (cc))

  not_lone : (Lone g → ⊥) → bit2 x ≡ true → bit3 x ≡ true
  not_lone n m = by_test g.seg (λ e. f.third ∙ e) (λ e. absurd (n (e, sym f.second ∙ m)))

-- the first octet of a request and of a complex ack, good where MOR does not stand alone
module _ (p : RequestPdu) where
  abbrev request_first : ℕ
  request_first = first_octet 0 p.segment.seg p.segment.mor p.sa false

  request_parts : Parts request_first 0 p.segment.seg p.segment.mor p.sa false
  request_parts = parts_of_lem 0 p.segment.seg p.segment.mor p.sa false

  request_good : (Lone p.segment → ⊥) → BadFirst request_first → ⊥
  request_good n =
      let f = request_parts in
      let x = request_first in
      good_first 0 x f.kind (omega (arith, below0 x f.last)) (λ _. mor_with_seg x (not_lone p.segment f n))

module _ (p : ComplexAckPdu) where
  abbrev ack_first : ℕ
  ack_first = first_octet 3 p.segment.seg p.segment.mor false false

  ack_parts : Parts ack_first 3 p.segment.seg p.segment.mor false false
  ack_parts = parts_of_lem 3 p.segment.seg p.segment.mor false false

  ack_good : (Lone p.segment → ⊥) → BadFirst ack_first → ⊥
  ack_good n =
      let f = ack_parts in
      let x = ack_first in
      good_first 3 x f.kind (omega (arith, below1 x f.first, below0 x f.last)) (λ _. mor_with_seg x (not_lone p.segment f n))

module _ (edition : Edition) (p : RequestPdu) (t : List ℕ) (fits : p.size ≤ 15) where
  lone_zeros : Lone p.segment → read_apdu edition (header (Request p) ++ t) ≡ Err 22
  lone_zeros l = zero_bit_refused edition _ (ZeroBitSet.in_first (omega arith) (lone_first p.segment (request_parts p) (inl refl) l))

  request_zeros : ZeroField edition (Request p) → read_apdu edition (header (Request p) ++ t) ≡ Err 22
  request_zeros (inl l) = lone_zeros l
  request_zeros (inr h) =
      ⊎_elim lone_zeros
      (λ m. zero_bit_refused edition _ (ZeroBitSet.in_second (omega arith) (request_parts p).kind (request_good p m.0) (omega arith)))
      (lone_test p.segment)

  module _ (n : ZeroField edition (Request p) → ⊥) where
    code_within : p.accepts ≤ most edition
    code_within = by_test (ltb (most edition) p.accepts) (λ u. absurd (n (inr (ltb-true _ _ u)))) (λ u. ltb-false _ _ u)

    first_good : BadFirst (request_first p) → ⊥
    first_good = request_good p (λ l. n (inl l))

    size_off : 5 < p.size → read_apdu edition (header (Request p) ++ t) ≡ Err 23
    size_off h =
        let c = code_within in
        size_window_refused edition _ (SizeOrWindow.of_size (omega arith) (request_parts p).kind first_good (omega arith) (omega arith))

    request_off : OffField (Request p) → read_apdu edition (header (Request p) ++ t) ≡ Err 23
    request_off (inl h) = size_off h
    request_off (inr o) =
        by_test (ltb 5 p.size) (λ v. size_off (ltb-true 5 p.size v)) (λ v.
        let c = code_within in
        let h = ltb-false 5 p.size v in
        rw (tail_segmented p.segment p.choice o.0) (size_window_refused edition _ (SizeOrWindow.of_window {at = 4} (omega arith)
        (WindowAt.of_request (request_parts p).kind (seg_bit (request_first p) ((request_parts p).third ∙ o.0)) (omega arith) (omega arith)) first_good o.1)))

module _ (edition : Edition) where
  ack_off : (p : ComplexAckPdu) (t : List ℕ) → (Lone p.segment → ⊥) → OffField (ComplexAck p) → read_apdu edition (header (ComplexAck p) ++ t) ≡ Err 23
  ack_off p t n o =
      rw (tail_segmented p.segment p.choice o.0) (size_window_refused edition _ (SizeOrWindow.of_window {at = 3} (omega arith)
      (WindowAt.of_complex_ack (ack_parts p).kind (seg_bit (ack_first p) ((ack_parts p).third ∙ o.0))) (ack_good p n) o.1))

  segment_ack_off : (p : SegmentAckPdu) (t : List ℕ) → Off p.window → read_apdu edition (header (SegmentAck p) ++ t) ≡ Err 23
  segment_ack_off p t o =
      let f = parts_of_lem 4 false false p.nak p.srv in
      let x = first_octet 4 false false p.nak p.srv in
      size_window_refused edition _ (SizeOrWindow.of_window {at = 3} (omega arith) (WindowAt.of_segment_ack f.kind)
      (good_first 4 x f.kind (omega (arith, below3 x f.third, below2 x f.second)) (λ w. mor_with_seg x (λ m. let z = f.second in impossible (cc)))) o)

  off_read : (p : Pdu) (t : List ℕ) → Fits p → (ZeroField edition p → ⊥) → OffField p → read_apdu edition (header p ++ t) ≡ Err 23
  off_read (Request p) t fits n o = request_off edition p t fits.1 n o
  off_read (Unconfirmed p) t fits n o = absurd o
  off_read (SimpleAck p) t fits n o = absurd o
  off_read (ComplexAck p) t fits n o = ack_off p t (λ l. n (inl l)) o
  off_read (SegmentAck p) t fits n o = segment_ack_off p t o
  off_read (Error p) t fits n o = absurd o
  off_read (Reject p) t fits n o = absurd o
  off_read (Abort p) t fits n o = absurd o

  zeros_read : (p : Pdu) (t : List ℕ) → Fits p → ZeroField edition p → read_apdu edition (header p ++ t) ≡ Err 22
  zeros_read (Request p) t fits z = request_zeros edition p t fits.1 z
  zeros_read (Unconfirmed p) t fits z = absurd (none_there edition (Unconfirmed p) refl refl z)
  zeros_read (SimpleAck p) t fits z = absurd (none_there edition (SimpleAck p) refl refl z)
  zeros_read (ComplexAck p) t fits (inl l) = zero_bit_refused edition _ (ZeroBitSet.in_first (omega arith) (lone_first p.segment (ack_parts p) (inr refl) l))
  zeros_read (ComplexAck p) t fits (inr h) = absurd (omega arith)
  zeros_read (SegmentAck p) t fits z = absurd (none_there edition (SegmentAck p) refl refl z)
  zeros_read (Error p) t fits z = absurd (none_there edition (Error p) refl refl z)
  zeros_read (Reject p) t fits z = absurd (none_there edition (Reject p) refl refl z)
  zeros_read (Abort p) t fits z = absurd (none_there edition (Abort p) refl refl z)

  verdict_read : {p : Pdu} {n : ℕ} (t : List ℕ) → Fits p → Verdict edition p n → (n ≡ 0 → ⊥) → read_apdu edition (header p ++ t) ≡ Err n
  verdict_read {p} t fits (zeros z) f = zeros_read p t fits z
  verdict_read {p} t fits (off n o) f = off_read p t fits n o
  verdict_read {p} t fits (fine n o) f = absurd (f refl)

  pub fault_read : (p : Pdu) (t : List ℕ) → Fits p → (fault_of edition p ≡ 0 → ⊥) → read_apdu edition (header p ++ t) ≡ Err (fault_of edition p)
  fault_read p t fits f = verdict_read t fits (verdict edition p) f
