-- How long the NPDUs are, and all of them together.
use Prim.Native.Nat.{ℕ, zero, suc, ◌+◌, ◌*◌, ◌≤◌, ◌<◌}
use native.Mathlib.Omega.{arith}
use native.Mathlib.Nat.{suc-mul}
use native.Mathlib.Numerals.{add-one}
use mathlib.Core.Path.{◌≡◌, refl, ap, sym, ◌∙◌}
use mathlib.Core.Bool.{Bool}
use mathlib.Core.List.{List}
use lib.Dec.{ltb, eqb}
use borrow.Author.Tests.{eqb-true, eqb-false}
use lib.ListN.{length, take, length-append}
use lib.Seq.{take_all}
use Rattle.octets.specs.Choice.{given, by_test}
use Rattle.npdu.specs.Layout.{encode, parts_octets, tail_octets, part_octets, hop_octets, message_octets}
use Rattle.apdu.specs.Layout.{header, tail}
use Rattle.cutter.specs.declared.Message.{Message}
use Rattle.cutter.specs.declared.Message.TheVariants.{Request, ComplexAck}
use Rattle.cutter.specs.declared.Way.{Way}
use Rattle.cutter.specs.Layout.{network_head, pdu_of, segments_of, part_of, npdu_at, first_of, octets_of}
use Rattle.cutter.specs.Laying.{header_length}
use Rattle.cutter.proofs.Counts.{segments_least, parts_join}

-- a network header without addresses
pub network_length : (w : Way) → length (encode (network_head w)) ≡ 2
unfolding encode parts_octets tail_octets part_octets hop_octets message_octets given
network_length w = refl

-- the header of a segment
pub pdu_length : (m : Message) (window : ℕ) (more : Bool) (number : ℕ) → length (header (pdu_of m window more number)) ≡ header_length m
unfolding tail given
pdu_length (Request q) window more number = refl
pdu_length (ComplexAck q) window more number = refl

module _ (m : Message) (w : Way) where
  pub npdu_length_lem : (count : ℕ) (params : List ℕ) (k : ℕ)
      → length (npdu_at m w count params k) ≡ 2 + length (header (pdu_of m w.window (ltb (k + 1) count) k)) + length (part_of w.each k params)
  unfolding npdu_at
  npdu_length_lem count params k = rw (length-append, length-append, network_length) (omega arith)

  -- the first k
  pub first_length : (count : ℕ) (params : List ℕ) (k : ℕ) → length (first_of m w count params k) ≡ k * (2 + header_length m) + length (take (k * w.each) params)
  first_length count params zero = let z : 0 * w.each ≡ 0 = omega arith in rw z (omega arith)
  first_length count params (suc k) =
      let i = first_length count params k in
      let n = npdu_length_lem count params k in
      let h = pdu_length m w.window (ltb (k + 1) count) k in
      let j = simp (length-append, add-one) at (ap length (parts_join w.each k params)) in
      let s = suc-mul k (2 + header_length m) in
      rw length-append (omega arith)

  pub octets_length : (params : List ℕ) → 0 < w.each → length (octets_of m w params) ≡ segments_of w.each (length params) * (2 + header_length m) + length params
  unfolding octets_of
  octets_length params h =
      let count = segments_of w.each (length params) in
      first_length count params count ∙ rw (take_all (count * w.each) params (segments_least w.each (length params) h).holds)

  -- worked out by its parts
  pub size_all : (params : List ℕ) {count size : ℕ} → 0 < w.each → count ≡ segments_of w.each (length params) → size ≡ count * (2 + header_length m) + length params → size ≡ length (octets_of m w params)
  size_all params h c s = s ∙ rw c (sym (octets_length params h))

  -- fewer of them are no longer
  pub first_within : (count : ℕ) (params : List ℕ) (k n : ℕ) → k ≤ n → length (first_of m w count params k) ≤ length (first_of m w count params n)
  first_within count params k zero h = let z : k ≡ 0 = omega arith in rw z (omega arith)
  first_within count params k (suc n) h =
      by_test (eqb k (suc n))
      (λ e. rw (eqb-true k (suc n) e) (omega arith))
      (λ e. rw length-append (omega (arith, first_within count params k n (omega (arith, eqb-false k (suc n) e)))))
