-- "Octets are judged left to right": an answer other than "ends early" is settled by the octets judged so far, whatever follows them.
use Prim.Native.Nat.{ℕ, ◌+◌, ◌≤◌}
use native.Mathlib.Omega.{arith}
use mathlib.Core.Bool.{Bool, true, false}
use mathlib.Core.List.{List, ◌++◌}
use mathlib.Core.Logic.{inl, inr, ⊎_elim}
use mathlib.Core.Path.{◌≡◌}
use lib.Dec.{ltb, eqb}
use lib.ListN.{length, drop, length-drop}
use lib.Seq.{take-append-le, drop-append-le}
use Rattle.octets.specs.Choice.{given, non}
use Rattle.octets.specs.Front.{Front, front_same, front_pick, front_octet, front_reach}
use Rattle.octets.specs.Reading.{oct, be16}
use Rattle.npdu.specs.Layout.{version, cut}
use Rattle.npdu.specs.Reading.{Reading, Part, Tail, message_bit, dest_bit, source_bit, sixth_bit, fourth_bit, no_part, address_of, part_len, part_net, part_of, part_if, ended, vendor_at, message_at, tail_at, refused_by, after_tail, after_source, after_dest, after_version, read_npdu}

module _ (s t : List ℕ) where
  abbrev FrontPart : Part → Part → Type 0
  FrontPart p p' = Front (no_part 10 0) p p'

  address_on : (at len : ℕ) → at + len ≤ length s → address_of (s ++ t) at len ≡ address_of s at len
  unfolding address_of cut
  address_on at len h = rw (drop-append-le at s t (omega arith), take-append-le len (drop at s) t (rw length-drop (omega arith)))

  len_on : (at net len low : ℕ) → FrontPart (part_len s at net len low) (part_len (s ++ t) at net len low)
  unfolding part_len
  len_on at net len low =
      front_pick (ltb len low) front_same
      (front_pick (ltb 7 len) front_same
      (front_reach s t (at + 2 + len) _ _ _ (λ b. inr (rw (address_on (at + 3) len (omega arith))))))

  net_on : (at net low top : ℕ) → FrontPart (part_net s at net low top) (part_net (s ++ t) at net low top)
  unfolding part_net
  net_on at net low top =
      front_pick (eqb net 0) front_same
      (front_pick (ltb top net) front_same
      (front_reach s t (at + 2) _ _ _ (λ b. rw (front_octet s t (at + 2) b) (len_on at net (oct s (at + 2)) low))))

  part_on : (at low top : ℕ) → FrontPart (part_of s at low top) (part_of (s ++ t) at low top)
  unfolding part_of
  part_on at low top =
      front_reach s t at _ _ _ (λ a.
      front_reach s t (at + 1) _ _ _ (λ b. rw (front_octet s t at a, front_octet s t (at + 1) b) (net_on at (be16 s at) low top)))

  part_if_on : (at : ℕ) (here : Bool) (low top : ℕ) → FrontPart (part_if s at here low top) (part_if (s ++ t) at here low top)
  unfolding part_if given
  part_if_on at true low top = part_on at low top
  part_if_on at false low top = front_same

  abbrev FrontTail : Tail → Tail → Type 0
  FrontTail r r' = Front (ended 10 0 0 0 0) r r'

  vendor_on : (at hops kind : ℕ) → FrontTail (vendor_at s at hops kind) (vendor_at (s ++ t) at hops kind)
  unfolding vendor_at
  vendor_on at hops kind =
      front_pick (ltb kind 128) front_same
      (front_reach s t at _ _ _ (λ a. front_reach s t (at + 1) _ _ _ (λ b. inr (rw (front_octet s t at a, front_octet s t (at + 1) b)))))

  message_on : (at hops : ℕ) (here : Bool) → FrontTail (message_at s at hops here) (message_at (s ++ t) at hops here)
  unfolding message_at given
  message_on at hops true = front_reach s t at _ _ _ (λ a. rw (front_octet s t at a) (vendor_on (at + 1) hops (oct s at)))
  message_on at hops false = front_same

  tail_on : (at : ℕ) (dest here : Bool) → FrontTail (tail_at s at dest here) (tail_at (s ++ t) at dest here)
  unfolding tail_at given
  tail_on at true here = front_reach s t at _ _ _ (λ a. rw (front_octet s t at a) (message_on (at + 1) (oct s at) here))
  tail_on at false here = message_on at 0 here

  abbrev FrontHead : Reading → Reading → Type 0
  FrontHead r r' = Front (refused_by 10) r r'

  -- a part that ends early is a header that ends early
  source_on : (c : ℕ) (d q : Part) → FrontHead (after_source s c d q) (after_source (s ++ t) c d q)
  unfolding after_source after_tail ended
  source_on c d q =
      front_pick (non (eqb q.refused 0)) front_same (⊎_elim (λ e. inl (rw e)) (λ e. inr (rw e)) (tail_on q.next (dest_bit c) (message_bit c)))

  dest_on : (c : ℕ) (d : Part) → FrontHead (after_dest s c d) (after_dest (s ++ t) c d)
  unfolding after_dest after_source no_part
  dest_on c d =
      front_pick (non (eqb d.refused 0)) front_same
      (⊎_elim (λ e. inl (rw e)) (λ e. rw e (source_on c d (part_if s d.next (source_bit c) 1 65534))) (part_if_on d.next (source_bit c) 1 65534))

  version_on : (c : ℕ) → FrontHead (after_version s c) (after_version (s ++ t) c)
  unfolding after_version after_dest no_part
  version_on c =
      front_pick (sixth_bit c) front_same
      (front_pick (fourth_bit c) front_same
      (⊎_elim (λ e. inl (rw e)) (λ e. rw e (dest_on c (part_if s 2 (dest_bit c) 0 65535))) (part_if_on 2 (dest_bit c) 0 65535)))

  -- octets after those that settle the answer do not change it
  pub judged : FrontHead (read_npdu s) (read_npdu (s ++ t))
  unfolding read_npdu
  judged =
      front_reach s t 0 _ _ _ (λ a. rw (front_octet s t 0 a)
      (front_pick (non (eqb (oct s 0) version)) front_same (front_reach s t 1 _ _ _ (λ b. rw (front_octet s t 1 b) (version_on (oct s 1))))))
