-- Octets that have a row's reason are refused with its number: rows 21 to 24.
use Rattle.std.specs.Prelude.{Err}
use Prim.Native.Nat.{ℕ, ◌+◌, ◌/◌, ◌%◌, ◌<◌}
use native.Mathlib.Omega.{arith}
use mathlib.Core.Path.{◌≡◌, refl, ◌∙◌}
use mathlib.Core.Logic.{◌⊎◌, inl, inr}
use mathlib.Core.Bool.{false}
use mathlib.Core.List.{List, ◌∷◌, ◌++◌}
use lib.ListN.{length}
use lib.Dec.{ltb}
use borrow.Author.Tests.{lt-ltb, le-ltb, lt-leb, eq-eqb, ne_eqb, ltb-true}
use Rattle.octets.specs.Choice.{pick_same, by_test}
use Rattle.octets.specs.Reading.{oct}
use Rattle.apdu.specs.declared.Edition.{Edition}
use Rattle.apdu.specs.declared.Pdu.{Pdu}
use Rattle.apdu.specs.declared.Pdu.TheVariants.{Request, Unconfirmed, SimpleAck, ComplexAck, SegmentAck, Error, Reject, Abort}
use Rattle.apdu.specs.Editions.{most}
use Rattle.apdu.specs.Reading.{read_apdu, read_tail, read_request, read_unconfirmed, read_simple_ack, read_complex_ack, read_segment_ack, read_error, read_reject, read_abort, judge_window, mor_without_seg}
use Rattle.apdu.specs.Layout.{first_octet, header}
use Rattle.apdu.specs.Valid.{Rules}
use Rattle.apdu.specs.Rows.{Off, Bit, ZeroBit, BadFirst, HighType, ZeroBitSet, WindowAt, SizeOrWindow, Alone, LeftOver}
use Rattle.apdu.proofs.FirstOctet.{parts_of_lem, below3, below2, below1, below0}
use Rattle.apdu.proofs.Bits.{bit_seg, bits_lone, bad_request, bad_complex_ack, bad_segment_ack, bad_more, set_30, set_31, set_32, set_10}
use Rattle.apdu.proofs.Typed.{as_request, as_unconfirmed, as_simple_ack, as_complex_ack, as_segment_ack, as_error, as_reject, as_abort, as_none}

-- a first octet that is not bad passes the tests of its type
module _ (x : ℕ) (fine : BadFirst x → ⊥) where
  clear_request : x / 16 ≡ 0 → ltb 0 (x % 2) ≡ false
  clear_request k = by_test (ltb 0 (x % 2)) (λ e. absurd (fine (bad_request x k (ltb-true 0 (x % 2) e)))) (λ e. e)

  clear_complex_ack : x / 16 ≡ 3 → ltb 0 (x % 4) ≡ false
  clear_complex_ack k = by_test (ltb 0 (x % 4)) (λ e. absurd (fine (bad_complex_ack x k (ltb-true 0 (x % 4) e)))) (λ e. e)

  clear_segment_ack : x / 16 ≡ 4 → ltb 3 (x % 16) ≡ false
  clear_segment_ack k = by_test (ltb 3 (x % 16)) (λ e. absurd (fine (bad_segment_ack x k (ltb-true 3 (x % 16) e)))) (λ e. e)

  clear_more : (x / 16 ≡ 0) ⊎ (x / 16 ≡ 3) → mor_without_seg x ≡ false
  clear_more k = by_test (mor_without_seg x) (λ e. absurd (fine (bad_more x k e))) (λ e. e)

-- a window that is off breaks its octets
pub off_window : {A : Type 0} (w : ℕ) (x y : A) → Off w → judge_window w x y ≡ x
off_window w x y (inl z) = simp (eq-eqb w 0 z)
off_window w x y (inr v) = simp (ne_eqb w 0 (λ z. omega arith), lt-ltb 127 w v)

tail_off : (s : List ℕ) (at : ℕ) → Bit (oct s 0) 3 → at + 1 < length s → Off (oct s (at + 1)) → read_tail s at ≡ Err 23
unfolding read_tail
tail_off s at b l o = rw (bit_seg (oct s 0) b, lt-leb (length s) (at + 1) l) (off_window (oct s (at + 1)) (Err 23) _ o)

module _ (edition : Edition) where
  -- ---- 21
  pub high_refused : (s : List ℕ) → HighType s → read_apdu edition s ≡ Err 21
  high_refused s h = as_none edition s h.some h.low

  -- ---- 22
  zero_refused : {k i : ℕ} → ZeroBit k i → (s : List ℕ) → 0 < length s → oct s 0 / 16 ≡ k → Bit (oct s 0) i → read_apdu edition s ≡ Err 22
  unfolding read_request read_unconfirmed read_simple_ack read_complex_ack read_segment_ack read_error read_reject read_abort
  zero_refused ZeroBit.request s l e b = as_request edition s l e ∙ simp (lt-ltb 0 (oct s 0 % 2) (omega arith))
  zero_refused (ZeroBit.unconfirmed h) s l e b = as_unconfirmed edition s l e ∙ simp (lt-ltb 0 (oct s 0 % 16) (set_30 (oct s 0) _ h b))
  zero_refused (ZeroBit.simple_ack h) s l e b = as_simple_ack edition s l e ∙ simp (lt-ltb 0 (oct s 0 % 16) (set_30 (oct s 0) _ h b))
  zero_refused (ZeroBit.complex_ack h) s l e b = as_complex_ack edition s l e ∙ simp (lt-ltb 0 (oct s 0 % 4) (set_10 (oct s 0) _ h b))
  zero_refused (ZeroBit.segment_ack m h) s l e b = as_segment_ack edition s l e ∙ simp (lt-ltb 3 (oct s 0 % 16) (set_32 (oct s 0) _ m h b))
  zero_refused (ZeroBit.error h) s l e b = as_error edition s l e ∙ simp (lt-ltb 0 (oct s 0 % 16) (set_30 (oct s 0) _ h b))
  zero_refused (ZeroBit.reject h) s l e b = as_reject edition s l e ∙ simp (lt-ltb 0 (oct s 0 % 16) (set_30 (oct s 0) _ h b))
  zero_refused (ZeroBit.abort m h) s l e b = as_abort edition s l e ∙ simp (lt-ltb 1 (oct s 0 % 16) (set_31 (oct s 0) _ m h b))

  first_refused : (s : List ℕ) → 0 < length s → BadFirst (oct s 0) → read_apdu edition s ≡ Err 22
  unfolding read_request read_complex_ack
  first_refused s l (BadFirst.zero_bit z b) = zero_refused z s l refl b
  first_refused s l (BadFirst.lone_more (inl k) b f) = as_request edition s l k ∙ rw (bits_lone (oct s 0) b f) (pick_same (ltb 0 (oct s 0 % 2)) (Err 22))
  first_refused s l (BadFirst.lone_more (inr k) b f) = as_complex_ack edition s l k ∙ rw (bits_lone (oct s 0) b f) (pick_same (ltb 0 (oct s 0 % 4)) (Err 22))

  pub zero_bit_refused : (s : List ℕ) → ZeroBitSet edition s → read_apdu edition s ≡ Err 22
  unfolding read_request
  zero_bit_refused s (ZeroBitSet.in_first l b) = first_refused s l b
  zero_bit_refused s (ZeroBitSet.in_second l k fine h) =
      as_request edition s (omega arith) k
      ∙ simp (clear_request (oct s 0) fine k, clear_more (oct s 0) fine (inl k), lt-leb (length s) 1 l, lt-ltb (most edition) (oct s 1 / 16) h)

  -- ---- 23
  window_refused : (s : List ℕ) {at : ℕ} → at < length s → WindowAt edition s at → (BadFirst (oct s 0) → ⊥) → Off (oct s at) → read_apdu edition s ≡ Err 23
  unfolding read_request read_complex_ack read_segment_ack
  window_refused s l (WindowAt.of_request k b c h) fine o =
      as_request edition s (omega arith) k ∙ simp (
        clear_request (oct s 0) fine k,
        clear_more (oct s 0) fine (inl k),
        lt-leb (length s) 1 (omega arith),
        le-ltb (most edition) (oct s 1 / 16) c,
        le-ltb 5 (oct s 1 % 16) h,
        lt-leb (length s) 2 (omega arith),
        tail_off s 3 b l o,
      )
  window_refused s l (WindowAt.of_complex_ack k b) fine o =
      as_complex_ack edition s (omega arith) k
      ∙ simp (clear_complex_ack (oct s 0) fine k, clear_more (oct s 0) fine (inr k), lt-leb (length s) 1 (omega arith), tail_off s 2 b l o)
  window_refused s l (WindowAt.of_segment_ack k) fine o =
      as_segment_ack edition s (omega arith) k ∙ rw (clear_segment_ack (oct s 0) fine k, lt-leb (length s) 3 l) (off_window (oct s 3) (Err 23) _ o)

  pub size_window_refused : (s : List ℕ) → SizeOrWindow edition s → read_apdu edition s ≡ Err 23
  unfolding read_request
  size_window_refused s (SizeOrWindow.of_size l k fine c h) =
      as_request edition s (omega arith) k ∙ simp (
        clear_request (oct s 0) fine k,
        clear_more (oct s 0) fine (inl k),
        lt-leb (length s) 1 l,
        le-ltb (most edition) (oct s 1 / 16) c,
        lt-ltb 5 (oct s 1 % 16) h,
      )
  size_window_refused s (SizeOrWindow.of_window l w fine o) = window_refused s l w fine o

  -- ---- 24
  over_refused : (p : Pdu) → Alone p → Rules edition p → (x : ℕ) (t : List ℕ) → read_apdu edition (header p ++ (x ∷ t)) ≡ Err 24
  unfolding read_simple_ack read_segment_ack read_reject read_abort
  over_refused (Request p) a r x t = absurd a
  over_refused (Unconfirmed p) a r x t = absurd a
  over_refused (SimpleAck p) a r x t =
      let s : List ℕ = header (SimpleAck p) ++ (x ∷ t) in
      let f = parts_of_lem 2 false false false false in
      let h = first_octet 2 false false false false in
      as_simple_ack edition s (omega arith) f.kind ∙ simp (
        le-ltb 0 (h % 16) (omega (arith, below3 h f.third, below2 h f.second, below1 h f.first, below0 h f.last)),
        lt-leb (length s) 2 (omega arith),
        lt-ltb 3 (length s) (omega arith),
      )
  over_refused (ComplexAck p) a r x t = absurd a
  over_refused (SegmentAck p) a w x t =
      let s : List ℕ = header (SegmentAck p) ++ (x ∷ t) in
      let f = parts_of_lem 4 false false p.nak p.srv in
      let h = first_octet 4 false false p.nak p.srv in
      as_segment_ack edition s (omega arith) f.kind ∙ simp (
        le-ltb 3 (h % 16) (omega (arith, below3 h f.third, below2 h f.second)),
        lt-leb (length s) 3 (omega arith),
        ne_eqb p.window 0 (λ e. omega arith),
        le-ltb 127 p.window w.1,
        lt-ltb 4 (length s) (omega arith),
      )
  over_refused (Error p) a r x t = absurd a
  over_refused (Reject p) a r x t =
      let s : List ℕ = header (Reject p) ++ (x ∷ t) in
      let f = parts_of_lem 6 false false false false in
      let h = first_octet 6 false false false false in
      as_reject edition s (omega arith) f.kind ∙ simp (
        le-ltb 0 (h % 16) (omega (arith, below3 h f.third, below2 h f.second, below1 h f.first, below0 h f.last)),
        lt-leb (length s) 2 (omega arith),
        lt-ltb 3 (length s) (omega arith),
      )
  over_refused (Abort p) a r x t =
      let s : List ℕ = header (Abort p) ++ (x ∷ t) in
      let f = parts_of_lem 7 false false false p.srv in
      let h = first_octet 7 false false false p.srv in
      as_abort edition s (omega arith) f.kind ∙ simp (
        le-ltb 1 (h % 16) (omega (arith, below3 h f.third, below2 h f.second, below1 h f.first)),
        lt-leb (length s) 2 (omega arith),
        lt-ltb 3 (length s) (omega arith),
      )

  pub left_over_refused : (s : List ℕ) → LeftOver edition s → read_apdu edition s ≡ Err 24
  left_over_refused s o = rw o.octets (over_refused o.pdu o.alone o.rules o.next o.rest)
