-- One NPDU after another: what is laid, and what is left to lay.
use Prim.Native.Nat.{ℕ, suc, ◌+◌, ◌-◌, ◌*◌, ◌≤◌, ◌<◌, min}
use native.Mathlib.Omega.{arith}
use native.Mathlib.Numerals.{add-one}
use mathlib.Core.Path.{◌≡◌, refl, sym, ◌∙◌}
use mathlib.Core.List.{List, ◌++◌}
use lib.Dec.{ltb}
use lib.ListN.{length, take, drop, length-append}
use Rattle.octets.specs.Splice.{splice, splice_nil, splice_then, splice_length, Put}
use Rattle.npdu.specs.Layout.{encode}
use Rattle.npdu.specs.declared.Npdu.{Npdu}
use Rattle.apdu.specs.Layout.{header}
use Rattle.apdu.specs.declared.Pdu.{Pdu}
use Rattle.apdu.specs.declared.Edition.{Edition}
use Rattle.cutter.specs.declared.Message.{Message}
use Rattle.cutter.specs.declared.Way.{Way}
use Rattle.cutter.specs.Layout.{network_head, pdu_of, part_of, npdu_at, first_of, octets_of}
use Rattle.cutter.specs.Laying.{Ready}
use Rattle.cutter.proofs.Counts.{part_starts}
use Rattle.cutter.proofs.Fine.{fine}
use Rattle.cutter.proofs.Lengths.{first_within}
use Rattle.cutter.proofs.Pieces.{end_range, end_part, end_rest}

-- k NPDUs are laid, up to a place of the area; the parameters from a place on are those of the k-th part on
pub record Laying (m : Message) (w : Way) (count : ℕ) (params out₀ out : List ℕ) (at from k : ℕ) : Type 0 where
  pub within : k ≤ count
  pub inside : from ≤ length params
  pub rest : drop from params ≡ drop (k * w.each) params
  pub place : at ≡ length (first_of m w count params k)
  pub laid : out ≡ splice out₀ 0 (first_of m w count params k)
  pub same : length out ≡ length out₀

module _ (m : Message) (w : Way) (count : ℕ) (params out₀ : List ℕ) where
  pub laying_start : Laying m w count params out₀ out₀ 0 0 0
  laying_start =
      record {
        within = omega arith;
        inside = omega arith;
        rest = let z : 0 * w.each ≡ 0 = omega arith in rw z;
        place = refl;
        laid = sym (splice_nil out₀ 0);
        same = refl;
      }

module _ {m : Message} {w : Way} {count : ℕ} {params out₀ out : List ℕ} {at from k : ℕ} (l : Laying m w count params out₀ out at from k) where
  -- the k-th NPDU from its pieces
  pub laying_npdu : (h : Npdu) (p : Pdu) (number : ℕ) (part : List ℕ) → h ≡ network_head w → p ≡ pdu_of m w.window (ltb (k + 1) count) number → number ≡ k → part ≡ part_of w.each k params
      → encode h ++ (header p ++ part) ≡ npdu_at m w count params k
  unfolding npdu_at
  laying_npdu h p number part eh ep en et = rw (eh, ep, en, et)

  -- its part of the parameters
  pub laying_part : {to : ℕ} → to ≡ from + min (length params - from) w.each → take (to - from) (drop from params) ≡ part_of w.each k params
  laying_part {to} e = end_part w.each from to params l.inside e ∙ rw l.rest

  -- its part begins within the parameters
  pub laying_starts : {e : Edition} → Ready e m w count params out₀ → k < count → (k * w.each ≤ length params) × (length params ≤ 16384)
  laying_starts r h = let f = fine _ _ _ _ r.fine in (part_starts w.each (length params) k f.range.some (omega (arith, r.all)), f.range.few)

  -- there is room for it
  pub laying_room : {e : Edition} → Ready e m w count params out₀ → k < count → at + length (npdu_at m w count params k) ≤ length out
  unfolding octets_of
  laying_room r h =
      let all = rw (← r.all) at r.room in
      omega (arith, all, l.place, l.same, length-append (first_of m w count params k) (npdu_at m w count params k), first_within m w count params (suc k) count (omega arith))

  pub laying_next : {e : Edition} {to next : ℕ} {later : List ℕ} → Ready e m w count params out₀ → k < count → to ≡ from + min (length params - from) w.each → Put out at (npdu_at m w count params k) next later
      → Laying m w count params out₀ later next to (k + 1)
  laying_next {to = to} {later = later} r h et p =
      let room = laying_room r h in
      let start : at ≡ 0 + length (first_of m w count params k) = omega (arith, l.place) in
      let area : later ≡ splice out₀ 0 (first_of m w count params (suc k)) =
      splice_then out₀ 0 (first_of m w count params k) (npdu_at m w count params k) (omega (arith, l.place, l.same)) l.laid (rw start at p.area) in
      record {
        within = omega arith;
        inside = (end_range w.each from to params l.inside et).1;
        rest = end_rest w.each from to params l.inside et k l.rest;
        place = rw (add-one, length-append) (omega (arith, p.after, l.place));
        laid = rw add-one area;
        same = rw p.area (splice_length out at (npdu_at m w count params k) room ∙ l.same);
      }

  pub laying_end : {e : Edition} → Ready e m w count params out₀ → count ≤ k → out ≡ splice out₀ 0 (octets_of m w params)
  unfolding octets_of
  laying_end r h = let z : k ≡ count = omega (arith, l.within) in rw (← r.all) (rw z at l.laid)
