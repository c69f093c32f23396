-- The addresses of a network header that was read are addresses that a header gives, in seven octets each, whatever the octets.
use Prim.Native.Nat.{ℕ, ◌+◌, ◌-◌, ◌≤◌}
use native.Mathlib.Omega.{arith}
use mathlib.Core.Path.{◌≡◌, refl, ap}
use mathlib.Core.Bool.{Bool, true, false}
use mathlib.Core.List.{List, ◌++◌}
use lib.Dec.{ltb, leb, eqb}
use lib.ListN.{length, drop, length-drop}
use borrow.Author.Tests.{leb-false, ltb-false, eqb-false}
use Rattle.octets.specs.Choice.{non, pick_case, pick_cases, given, not_so}
use Rattle.octets.specs.Reading.{oct, be16}
use Rattle.npdu.specs.Address.{absent, part_address, source_of, destination_of, gives, gives_source, gives_destination}
use Rattle.npdu.specs.Layout.{version, zeros, cut}
use Rattle.npdu.specs.Reading.{message_bit, dest_bit, source_bit, sixth_bit, fourth_bit, no_part, address_of, part_len, part_net, part_of, part_if, tail_at, joined, after_tail, after_source, after_dest, after_version, read_npdu, Part, Tail, Reading}
use Rattle.npdu.proofs.AddressLaws.{part_gives}
use Rattle.npdu.proofs.Parts.{take_cut, length_cut}
use Rattle.npdu.proofs.Refusing.{Read, refused_not, past}
use Rattle.collector.specs.Heard.{Route, route_of}

-- both addresses of a route are given, and in seven octets each
pub record GivenRoute (v : Route) : Type 0 where
  pub source : gives_source v.source ≡ true
  pub destination : gives_destination v.destination ≡ true
  pub source_seven : length v.source.octets ≡ 7
  pub destination_seven : length v.destination.octets ≡ 7

-- an address that was cut is as it is shown
cut_twice : (len : ℕ) (x : List ℕ) → len ≤ length x → cut len (cut len x) ≡ cut len x
unfolding cut
cut_twice len x h = ap (λ (y : List ℕ). y ++ zeros (7 - len)) (take_cut len x h)

-- ---- a part, with the least length and the greatest network number
module _ (s : List ℕ) (at low top : ℕ) where
  abbrev Given : Bool → Part → Type 0
  Given here p = (gives low top (part_address here p.net p.len p.adr) ≡ true) × (length (part_address here p.net p.len p.adr).octets ≡ 7)

  abbrev Fine : Bool → Part → Type 0
  Fine here p = p.refused ≡ 0 → Given here p

  turned : (n : ℕ) → 1 ≤ n → Fine true (no_part n 0)
  unfolding no_part
  turned n h e = absurd (omega arith)

  len_fine : (net len : ℕ) → 1 ≤ net → net ≤ top → Fine true (part_len s at net len low)
  unfolding part_len address_of given part_address
  len_fine net len least most =
      pick_cases (Fine true) (ltb len low) (λ _. turned 13 (omega arith)) (λ l.
      pick_cases (Fine true) (ltb 7 len) (λ _. turned 13 (omega arith)) (λ m.
      pick_cases (Fine true) (leb (length s) (at + 2 + len)) (λ _. turned 10 (omega arith)) (λ e _.
      let a = leb-false (length s) (at + 2 + len) e in
      let h : len ≤ length (drop (at + 3) s) = rw length-drop (omega arith) in
      let v = part_gives low top true net len (cut len (drop (at + 3) s))
      (λ _. record { some_net = least; net_range = most; len_least = ltb-false len low l; len_range = ltb-false 7 len m })
      (cut_twice len (drop (at + 3) s) h) in
      (v, length_cut len (drop (at + 3) s) (ltb-false 7 len m) h))))

  net_fine : (net : ℕ) → Fine true (part_net s at net low top)
  unfolding part_net
  net_fine net =
      pick_cases (Fine true) (eqb net 0) (λ _. turned 14 (omega arith)) (λ z.
      pick_cases (Fine true) (ltb top net) (λ _. turned 14 (omega arith)) (λ t.
      pick_case (Fine true) (leb (length s) (at + 2)) (turned 10 (omega arith)) (len_fine net (oct s (at + 2)) (omega (arith, eqb-false net 0 z)) (ltb-false top net t))))

  part_fine : Fine true (part_of s at low top)
  unfolding part_of
  part_fine =
      pick_case (Fine true) (leb (length s) at) (turned 10 (omega arith))
      (pick_case (Fine true) (leb (length s) (at + 1)) (turned 10 (omega arith)) (net_fine (be16 s at)))

  if_fine : (here : Bool) → Fine here (part_if s at here low top)
  unfolding part_if given no_part part_address absent
  if_fine true = part_fine
  if_fine false = λ _. (part_gives low top false 0 0 (zeros 7) (λ z. not_so z) refl, refl)

-- ---- the header
module _ (s : List ℕ) where
  abbrev Routed : Reading → Type 0
  Routed r = GivenRoute (route_of r.head)

  abbrev Sound : Reading → Type 0
  Sound = Read Routed

  joined_sound : (c at : ℕ) (d q : Part) (t : Tail) → Given s 2 0 65535 (dest_bit c) d → Given s at 1 65534 (source_bit c) q → Sound (joined c d q t)
  unfolding joined source_of destination_of gives_source gives_destination
  joined_sound c at d q t dw qw _ = record { source = qw.0; destination = dw.0; source_seven = qw.1; destination_seven = dw.1 }

  dest_sound : (c : ℕ) (d : Part) → Fine s 2 0 65535 (dest_bit c) d → Sound (after_dest s c d)
  unfolding after_dest after_source after_tail
  dest_sound c d f =
      past Routed d.refused _ (λ z.
      let q = part_if s d.next (source_bit c) 1 65534 in
      past Routed q.refused _ (λ y.
      let t = tail_at s q.next (dest_bit c) (message_bit c) in
      past Routed t.refused _ (λ _. joined_sound c d.next d q t (f z) (if_fine s d.next 1 65534 (source_bit c) y))))

  version_sound : (c : ℕ) → Sound (after_version s c)
  unfolding after_version
  version_sound c =
      pick_case Sound (sixth_bit c) (refused_not Routed 12 (omega arith))
      (pick_case Sound (fourth_bit c) (refused_not Routed 12 (omega arith))
      (dest_sound c (part_if s 2 (dest_bit c) 0 65535) (if_fine s 2 0 65535 (dest_bit c))))

  pub read_given : Sound (read_npdu s)
  unfolding read_npdu
  read_given =
      pick_case Sound (leb (length s) 0) (refused_not Routed 10 (omega arith))
      (pick_case Sound (non (eqb (oct s 0) version)) (refused_not Routed 11 (omega arith))
      (pick_case Sound (leb (length s) 1) (refused_not Routed 10 (omega arith)) (version_sound (oct s 1))))
