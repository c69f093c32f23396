-- A header that keeps the rules is read as itself, whatever parameters follow.
use Rattle.std.specs.Prelude.{Ok}
use Prim.Native.Nat.{ℕ, ◌+◌, ◌*◌, ◌/◌, ◌%◌, ◌<◌}
use native.Mathlib.Omega.{arith}
use mathlib.Core.Path.{◌≡◌, refl, sym, ◌∙◌}
use mathlib.Core.Bool.{Bool, true, false}
use mathlib.Core.List.{List, [], ◌∷◌, ◌++◌}
use lib.ListN.{length, length-append}
use lib.Dec.{leb}
use native.Mathlib.Nat.{zero-add}
use borrow.Author.Tests.{le-ltb, lt-leb, ne_eqb}
use Rattle.octets.specs.Choice.{given}
use Rattle.octets.specs.Reading.{oct}
use Rattle.octets.specs.Has.{Has, all_has, has_left, has_right}
use Rattle.apdu.specs.declared.Edition.{Edition}
use Rattle.apdu.specs.declared.Segment.{Segment}
use Rattle.apdu.specs.declared.RequestPdu.{RequestPdu}
use Rattle.apdu.specs.declared.ComplexAckPdu.{ComplexAckPdu}
use Rattle.apdu.specs.declared.SegmentAckPdu.{SegmentAckPdu}
use Rattle.apdu.specs.declared.AbortPdu.{AbortPdu}
use Rattle.apdu.specs.declared.UnconfirmedPdu.{UnconfirmedPdu}
use Rattle.apdu.specs.declared.SimpleAckPdu.{SimpleAckPdu}
use Rattle.apdu.specs.declared.ErrorPdu.{ErrorPdu}
use Rattle.apdu.specs.declared.RejectPdu.{RejectPdu}
use Rattle.apdu.specs.declared.Pdu.{Pdu}
use Rattle.apdu.specs.declared.Pdu.TheVariants.{Request, Unconfirmed, SimpleAck, ComplexAck, SegmentAck, Error, Reject, Abort}
use Rattle.apdu.specs.Editions.{most}
use Rattle.apdu.specs.Reading.{read_apdu, read_tail, read_request, read_unconfirmed, read_simple_ack, read_complex_ack, read_segment_ack, read_error, read_reject, read_abort, bit3, bit2}
use Rattle.apdu.specs.Layout.{segment, flag, first_octet, size_octet, tail, header}
use Rattle.apdu.specs.Valid.{SegmentRules, Rules, Follows}
use Rattle.apdu.proofs.FirstOctet.{parts_of_lem, below3, below2, below1, below0, mor_with_seg}

-- the octets of o are there, whatever follows
there : (o t : List ℕ) (k : ℕ) → k < length o → leb (length (o ++ t)) k ≡ false
there o t k h = lt-leb (length (o ++ t)) k (simp length-append (omega arith))

-- what stands after the first octets
after : (a b t : List ℕ) → Has (a ++ (b ++ t)) (length a) b
after a b t =
    let s : List ℕ = a ++ (b ++ t) in
    let h : Has s (0 + length a) (b ++ t) = has_right s 0 a (b ++ t) (all_has s) in
    let k : Has s (length a) (b ++ t) = rw zero-add at h in
    has_left s (length a) b t (rw length-append (omega arith)) k

tail_at : (s : List ℕ) (at : ℕ) (seg mor : Bool) (number window choice : ℕ) → SegmentRules (segment seg mor number window) → bit3 (oct s 0) ≡ seg → bit2 (oct s 0) ≡ mor
    → Has s at (tail (segment seg mor number window) choice) → read_tail s at ≡ Ok (segment seg mor number window, choice)
unfolding read_tail tail given
tail_at s at true mor number window choice r e d h =
    let w = r.window refl in
    let two : at + 1 + 1 ≡ at + 2 = omega arith in
    let last : oct s (at + 2) ≡ choice = rw two at h.2.2.1 in
    simp (e, d, h.1, h.2.1, last, lt-leb (length s) (at + 1) h.2.0, lt-leb (length s) (at + 2) (omega arith), ne_eqb window 0 (λ z. omega arith), le-ltb 127 window w.1)
tail_at s at false mor number window choice r e d h =
    simp (e, d, h.1, (r.absent refl).0, (r.absent refl).1, lt-leb (length s) at h.0)

tail_back : (s : List ℕ) (at : ℕ) (g : Segment) (choice : ℕ) → SegmentRules g → bit3 (oct s 0) ≡ g.seg → bit2 (oct s 0) ≡ g.mor → Has s at (tail g choice) → read_tail s at ≡ Ok (g, choice)
tail_back s at g choice = tail_at s at g.seg g.mor g.number g.window choice

module _ (edition : Edition) where
  request : (p : RequestPdu) (t : List ℕ) → Rules edition (Request p) → read_apdu edition (header (Request p) ++ t) ≡ Ok (Request p)
  unfolding read_apdu read_request
  request p t r =
      let g = p.segment in
      let f = parts_of_lem 0 g.seg g.mor p.sa false in
      let x = first_octet 0 g.seg g.mor p.sa false in
      let front : List ℕ = x ∷ size_octet p ∷ p.invoke ∷ [] in
      let s : List ℕ = header (Request p) ++ t in
      let code : (p.accepts * 16 + p.size) / 16 ≡ p.accepts = omega (arith, r.1) in
      let size : (p.accepts * 16 + p.size) % 16 ≡ p.size = omega (arith, r.1) in
      simp (
        there front (tail g p.choice ++ t) 0 (omega arith),
        there front (tail g p.choice ++ t) 1 (omega arith),
        there front (tail g p.choice ++ t) 2 (omega arith),
        f.kind,
        le-ltb 0 (x % 2) (omega (arith, below0 x f.last)),
        mor_with_seg x (λ m. f.third ∙ r.2.more (sym f.second ∙ m)),
        code,
        size,
        le-ltb (most edition) p.accepts r.0,
        le-ltb 5 p.size r.1,
        f.first,
        tail_back s 3 g p.choice r.2 f.third f.second (after front (tail g p.choice) t),
      )

  unconfirmed : (p : UnconfirmedPdu) (t : List ℕ) → read_apdu edition (header (Unconfirmed p) ++ t) ≡ Ok (Unconfirmed p)
  unfolding read_apdu read_unconfirmed first_octet flag given
  unconfirmed p t = let o = header (Unconfirmed p) in simp (there o t 0 (omega arith), there o t 1 (omega arith))

  simple_ack_lem : (p : SimpleAckPdu) → read_apdu edition (header (SimpleAck p)) ≡ Ok (SimpleAck p)
  unfolding read_apdu read_simple_ack first_octet flag given
  simple_ack_lem p = refl

  complex_ack_lem : (p : ComplexAckPdu) (t : List ℕ) → Rules edition (ComplexAck p) → read_apdu edition (header (ComplexAck p) ++ t) ≡ Ok (ComplexAck p)
  unfolding read_apdu read_complex_ack
  complex_ack_lem p t r =
      let g = p.segment in
      let f = parts_of_lem 3 g.seg g.mor false false in
      let x = first_octet 3 g.seg g.mor false false in
      let front : List ℕ = x ∷ p.invoke ∷ [] in
      let s : List ℕ = header (ComplexAck p) ++ t in
      simp (
        there front (tail g p.choice ++ t) 0 (omega arith),
        there front (tail g p.choice ++ t) 1 (omega arith),
        f.kind,
        le-ltb 0 (x % 4) (omega (arith, below1 x f.first, below0 x f.last)),
        mor_with_seg x (λ m. f.third ∙ r.more (sym f.second ∙ m)),
        tail_back s 2 g p.choice r f.third f.second (after front (tail g p.choice) t),
      )

  segment_ack_lem : (p : SegmentAckPdu) → Rules edition (SegmentAck p) → read_apdu edition (header (SegmentAck p)) ≡ Ok (SegmentAck p)
  unfolding read_apdu read_segment_ack
  segment_ack_lem p w =
      let f = parts_of_lem 4 false false p.nak p.srv in
      let x = first_octet 4 false false p.nak p.srv in
      simp (
        f.kind,
        le-ltb 3 (x % 16) (omega (arith, below3 x f.third, below2 x f.second)),
        f.first,
        f.last,
        ne_eqb p.window 0 (λ e. omega arith),
        le-ltb 127 p.window w.1,
      )

  error : (p : ErrorPdu) (t : List ℕ) → read_apdu edition (header (Error p) ++ t) ≡ Ok (Error p)
  unfolding read_apdu read_error first_octet flag given
  error p t = let o = header (Error p) in simp (there o t 0 (omega arith), there o t 2 (omega arith))

  reject : (p : RejectPdu) → read_apdu edition (header (Reject p)) ≡ Ok (Reject p)
  unfolding read_apdu read_reject first_octet flag given
  reject p = refl

  abort : (p : AbortPdu) → read_apdu edition (header (Abort p)) ≡ Ok (Abort p)
  unfolding read_apdu read_abort
  abort p =
      let f = parts_of_lem 7 false false false p.srv in
      let x = first_octet 7 false false false p.srv in
      simp (f.kind, le-ltb 1 (x % 16) (omega (arith, below3 x f.third, below2 x f.second, below1 x f.first)), f.last)

  -- all eight
  pub reads_back : (p : Pdu) (t : List ℕ) → Rules edition p → Follows p t → read_apdu edition (header p ++ t) ≡ Ok p
  reads_back (Request p) t r e = request p t r
  reads_back (Unconfirmed p) t r e = unconfirmed p t
  reads_back (SimpleAck p) t r e = rw e (simple_ack_lem p)
  reads_back (ComplexAck p) t r e = complex_ack_lem p t r
  reads_back (SegmentAck p) t r e = rw e (segment_ack_lem p r)
  reads_back (Error p) t r e = error p t
  reads_back (Reject p) t r e = rw e (reject p)
  reads_back (Abort p) t r e = rw e (abort p)
