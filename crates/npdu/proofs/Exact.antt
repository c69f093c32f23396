-- "Headers .. that were read write back to the same octets": the header is accepted exactly when it is valid and its octets stand at the front.
use Prim.Native.Nat.{ℕ, ◌+◌, ◌≤◌, ◌<◌}
use native.Mathlib.Omega.{arith}
use mathlib.Core.Bool.{false}
use mathlib.Core.List.{List, [], ◌∷◌, ◌++◌}
use mathlib.Core.Path.{◌≡◌, refl, sym, ap, ◌∙◌}
use lib.Dec.{leb, eqb}
use lib.ListN.{length, get_or, drop, length-append, take-append-drop}
use lib.Seq.{drop_at}
use borrow.Author.Tests.{lt-leb, leb-false, eqb-true}
use Rattle.octets.specs.Choice.{pick_cases, by_test}
use Rattle.octets.specs.Exact.{Exactly}
use Rattle.octets.specs.Has.{Has, has_append, has_left, has_right, has_cut, has_bound, all_has}
use Rattle.octets.specs.Reading.{oct, Octets}
use Rattle.npdu.specs.Exact.{Followed, Reads, ValidFirst, encode_all, accepted}
use Rattle.npdu.specs.Layout.{version, control_of, part_octets, hop_octets, message_octets, parts_octets, tail_octets, encode, shown}
use Rattle.npdu.specs.Valid.{Ruled, Kept}
use Rattle.npdu.specs.Reading.{Reading, Part, Tail, message_bit, dest_bit, source_bit, sixth_bit, fourth_bit, part_if, tail_at, ended, joined, after_tail, after_source, after_dest, after_version, read_npdu}
use Rattle.npdu.specs.declared.Npdu.{Npdu}
use Rattle.npdu.proofs.Control.{control_bits, control_back}
use Rattle.npdu.proofs.Refusing.{Read, refused_not, past}
use Rattle.npdu.proofs.Parts.{shown_part, part_if_reads, PartStands, part_if_sound}
use Rattle.npdu.proofs.Tails.{shown_tail, tail_reads, tail_sound}

-- ---- a header that stands at the front is read

module _ (o : List ℕ) (h : Npdu) (r : Ruled h) (k : Kept h) where
  abbrev dest_part : List ℕ
  dest_part = part_octets h.dest h.dnet h.dlen h.dadr

  abbrev source_part : List ℕ
  source_part = part_octets h.source h.snet h.slen h.sadr

  encode_length : length (encode h) ≡ 2 + length dest_part + length source_part + length (tail_octets h)
  unfolding encode parts_octets
  encode_length = simp length-append (omega arith)

  pub head_reads : Has o 0 (encode h) → read_npdu o ≡ accepted (length (encode h)) (shown h)
  unfolding read_npdu after_version after_dest after_source after_tail joined shown accepted shown_part shown_tail ended encode parts_octets tail_octets
  head_reads w =
      let f : Has o 0 ((version ∷ control_of h ∷ []) ++ parts_octets h) = has_left o 0 ((version ∷ control_of h ∷ []) ++ parts_octets h) (tail_octets h) (omega arith) w in
      let b : 1 < length o = f.2.0 in
      let t : Has o (0 + length ((version ∷ control_of h ∷ []) ++ parts_octets h)) (tail_octets h) = has_right o 0 ((version ∷ control_of h ∷ []) ++ parts_octets h) (tail_octets h) w in
      let d = part_if_reads o 2 h.dest h.dnet h.dlen 0 65535 h.dadr r.destination k.dest_kept (has_left o 2 dest_part source_part (omega arith) f.2.2) in
      let q = part_if_reads o (2 + length dest_part) h.source h.snet h.slen 1 65534 h.sadr r.origin k.source_kept (has_right o 2 dest_part source_part f.2.2) in
      let p : 0 + length ((version ∷ control_of h ∷ []) ++ parts_octets h) ≡ 2 + length dest_part + length source_part = simp length-append (omega arith) in
      let e = tail_reads o (2 + length dest_part + length source_part) h.dest h.message h.hops h.kind h.vendor (rw p at t) in
      let c = control_bits h r.urgency in
      rw (lt-leb (length o) 0 f.0, f.1, lt-leb (length o) 1 b, f.2.1, c.six, c.four, c.five, d)
      (rw (c.three, q) (rw (c.seven, e) (rw (c.two, c.low, encode_length))))

-- ---- a header that is read stands at the front

pub record Stands (o : List ℕ) (r : Reading) : Type 0 where
  pub stands : Has o 0 (encode r.head)
  pub ruled : Ruled r.head
  pub kept : Kept r.head

module _ (o : List ℕ) (os : Octets o) where
  abbrev Sound : Reading → Type 0
  Sound = Read (Stands o)

  module _ (c : ℕ) (b : 1 < length o) (v : get_or o 0 0 ≡ version) (w : get_or o 1 0 ≡ c) (six : sixth_bit c ≡ false) (four : fourth_bit c ≡ false) where
    joined_sound : (d q : Part) (t : Tail) → PartStands o 2 (dest_bit c) 0 65535 d → PartStands o d.next (source_bit c) 1 65534 q
        → Has o q.next (hop_octets (dest_bit c) t.hops ++ message_octets (message_bit c) t.kind t.vendor) → Stands o (joined c d q t)
    unfolding joined encode control_of parts_octets tail_octets
    joined_sound d q t dw qw tw =
        let D = part_octets (dest_bit c) d.net d.len d.adr in
        let S = part_octets (source_bit c) q.net q.len q.adr in
        let x = control_back c (rw w at (os 1)) six four in
        let f : List ℕ = (version ∷ control_of (joined c d q t).head ∷ []) ++ (D ++ S) in
        let p : q.next ≡ 0 + length f = simp length-append (omega (arith, dw.ends, qw.ends)) in
        let g : Has o 0 f = (omega arith, v, (b, w ∙ sym x, has_append o 2 D S dw.stands (rw dw.ends at qw.stands))) in
        record {
          stands = has_append o 0 f _ g (rw p at tw);
          ruled = record { urgency = omega arith; destination = dw.fine; origin = qw.fine };
          kept = record { dest_kept = dw.kept; source_kept = qw.kept };
        }

    source_sound : (d q : Part) → PartStands o 2 (dest_bit c) 0 65535 d → (q.refused ≡ 0 → PartStands o d.next (source_bit c) 1 65534 q) → Sound (after_source o c d q)
    unfolding after_source after_tail
    source_sound d q dw f =
        past (Stands o) q.refused _ (λ z.
        let qw = f z in
        let a : q.next ≤ length o = omega (arith, qw.ends, has_bound o d.next (part_octets (source_bit c) q.net q.len q.adr) qw.stands) in
        let t = tail_at o q.next (dest_bit c) (message_bit c) in
        past (Stands o) t.refused _ (λ y _. joined_sound d q t dw qw (tail_sound o os (dest_bit c) (message_bit c) q.next a y)))

    dest_sound : (d : Part) → (d.refused ≡ 0 → PartStands o 2 (dest_bit c) 0 65535 d) → Sound (after_dest o c d)
    unfolding after_dest
    dest_sound d f =
        past (Stands o) d.refused _ (λ z.
        let dw = f z in
        let a : d.next ≤ length o = omega (arith, dw.ends, has_bound o 2 (part_octets (dest_bit c) d.net d.len d.adr) dw.stands) in
        source_sound d (part_if o d.next (source_bit c) 1 65534) dw (part_if_sound o os d.next 1 65534 (source_bit c) a))

  version_sound : (c : ℕ) → 1 < length o → get_or o 0 0 ≡ version → get_or o 1 0 ≡ c → Sound (after_version o c)
  unfolding after_version
  version_sound c b v w =
      pick_cases Sound (sixth_bit c) (λ _. refused_not (Stands o) 12 (omega arith)) (λ six.
      pick_cases Sound (fourth_bit c) (λ _. refused_not (Stands o) 12 (omega arith)) (λ four.
      dest_sound c b v w six four (part_if o 2 (dest_bit c) 0 65535) (part_if_sound o os 2 0 65535 (dest_bit c) (omega arith))))

  pub head_sound : Sound (read_npdu o)
  unfolding read_npdu
  head_sound =
      pick_cases Sound (leb (length o) 0) (λ _. refused_not (Stands o) 10 (omega arith)) (λ _.
      by_test (eqb (oct o 0) version)
      (λ v. rw v (pick_cases Sound (leb (length o) 1) (λ _. refused_not (Stands o) 10 (omega arith)) (λ e. version_sound (oct o 1) (leb-false (length o) 1 e) (eqb-true (oct o 0) version v) refl)))
      (λ v. rw v (refused_not (Stands o) 11 (omega arith))))

-- ---- accepted exactly when

-- octets that stand at the front, and the rest
pub split : (o x : List ℕ) → Has o 0 x → o ≡ x ++ drop (length x) o
split o x h = sym (take-append-drop (length x) o) ∙ rw (has_cut o 0 x h)

front : (x t : List ℕ) → Has (x ++ t) 0 x
front x t = has_left (x ++ t) 0 x t (omega arith) (all_has (x ++ t))

-- what was written reads back, whatever the fields of absent parts held
pub reads_written : (h : Npdu) (t : List ℕ) → Ruled h → Kept h → read_npdu (encode h ++ t) ≡ accepted (length (encode h)) (shown h)
reads_written h t r k = head_reads (encode h ++ t) h r k (front (encode h) t)

-- what was read is what stands there
pub reads_shown : (o : List ℕ) → Octets o → (read_npdu o).refused ≡ 0 → read_npdu o ≡ accepted (length (encode (read_npdu o).head)) (shown (read_npdu o).head)
reads_shown o os z = let w = head_sound o os z in head_reads o (read_npdu o).head w.ruled w.kept w.stands

pub npdu_exactly : Exactly Reads ValidFirst encode_all
unfolding accepted
npdu_exactly = record { sound = sound; complete = complete }
  where
    sound : (o : List ℕ) (v : Followed) → Octets o → Reads o v → ValidFirst v × (o ≡ encode_all v)
    sound o v os a =
        let w = head_sound o os a.accepted in
        let e = reads_shown o os a.accepted in
        let n : (read_npdu o).next ≡ length (encode (read_npdu o).head) = ap (λ (r : Reading). r.next) e in (
          rw (← a.header) (record { ruled = w.ruled; kept = w.kept; settled = sym (ap (λ (r : Reading). r.head) e) }),
          split o (encode (read_npdu o).head) w.stands ∙ rw (← n, a.header, a.left),
        )

    complete : (v : Followed) → ValidFirst v → Reads (encode_all v) v
    complete v h =
        let e = reads_written v.head v.rest h.ruled h.kept in
        record {
          accepted = ap (λ (r : Reading). r.refused) e;
          header = ap (λ (r : Reading). r.head) e ∙ h.settled;
          left = rw (ap (λ (r : Reading). r.next) e) (drop_at (encode v.head) v.rest (length (encode v.head)) refl);
        }
