-- Where a reading was settled: each octet that is reached, judged or missing, with the number that it gives.
use Prim.Native.Nat.{ℕ, ◌+◌, ◌≤◌, ◌<◌}
use native.Mathlib.Omega.{arith}
use mathlib.Core.Bool.{Bool, true, false}
use mathlib.Core.List.{List, [], ◌∷◌}
use mathlib.Core.Logic.{◌⊎◌, inl, inr}
use mathlib.Core.Path.{◌≡◌, refl, sym}
use lib.Dec.{ltb, leb, eqb}
use lib.ListN.{length, length-append}
use borrow.Author.Tests.{leb-true, leb-false, ltb-true, ltb-false, eqb-true, eqb-false}
use Rattle.octets.specs.Choice.{given, non, given_cases, pick_cases, by_test}
use Rattle.octets.specs.Has.{Has, has_append, has_bound}
use Rattle.octets.specs.Reading.{oct, be16, refuse, Octets}
use Rattle.npdu.specs.Layout.{version, control_of, part_octets}
use Rattle.npdu.specs.Reading.{Reading, Part, Tail, message_bit, dest_bit, source_bit, sixth_bit, fourth_bit, no_part, part_len, part_net, part_of, part_if, ended, vendor_at, message_at, tail_at, refused_by, joined, after_tail, after_source, after_dest, after_version, read_npdu}
use Rattle.npdu.specs.Rows.{Which, before, least, greatest, Reached}
use Rattle.npdu.specs.Rows.Which.{destination, source}
use Rattle.npdu.specs.Size.{part_size}
use Rattle.npdu.specs.Valid.{Kept}
use Rattle.npdu.specs.declared.Npdu.{Npdu}
use Rattle.npdu.proofs.Control.{control_back}
use Rattle.npdu.proofs.Parts.{PartStands, part_if_sound}
use Rattle.npdu.proofs.Sizes.{part_length}

-- ---- a part

abbrev pub NetIn : ℕ → ℕ → Type 0
NetIn top n = (1 ≤ n) × (n ≤ top)

abbrev pub LenIn : ℕ → ℕ → Type 0
LenIn low n = (low ≤ n) × (n ≤ 7)

-- n is the number that the part at a place gives, 0 for none
pub data PartView (s : List ℕ) (at low top n : ℕ) : Type 0 where
  no_net : length s ≤ at + 1 → n ≡ 10 → PartView s at low top n
  net_out : at + 1 < length s → (NetIn top (be16 s at) → ⊥) → n ≡ 14 → PartView s at low top n
  no_len : length s ≤ at + 2 → NetIn top (be16 s at) → n ≡ 10 → PartView s at low top n
  len_out : at + 2 < length s → NetIn top (be16 s at) → (LenIn low (oct s (at + 2)) → ⊥) → n ≡ 13 → PartView s at low top n
  no_adr : length s ≤ at + 2 + oct s (at + 2) → NetIn top (be16 s at) → LenIn low (oct s (at + 2)) → n ≡ 10 → PartView s at low top n
  part_whole : NetIn top (be16 s at) → LenIn low (oct s (at + 2)) → n ≡ 0 → PartView s at low top n

module _ (s : List ℕ) (at low top : ℕ) where
  abbrev PartSeen : Part → Type 0
  PartSeen p = PartView s at low top p.refused

  len_view : (net len : ℕ) → net ≡ be16 s at → len ≡ oct s (at + 2) → at + 2 < length s → NetIn top net → PartSeen (part_len s at net len low)
  unfolding part_len no_part
  len_view net len n l b i =
      let j : NetIn top (be16 s at) = rw n at i in
      pick_cases PartSeen (ltb len low) (λ e. len_out b j (λ h. omega (arith, ltb-true len low e)) refl) (λ e0.
      pick_cases PartSeen (ltb 7 len) (λ e. len_out b j (λ h. omega (arith, ltb-true 7 len e)) refl) (λ e1.
      let k : LenIn low (oct s (at + 2)) = (omega (arith, ltb-false len low e0), omega (arith, ltb-false 7 len e1)) in
      pick_cases PartSeen (leb (length s) (at + 2 + len)) (λ e. no_adr (omega (arith, leb-true (length s) (at + 2 + len) e)) j k refl) (λ _.
      part_whole j k refl)))

  net_view : (net : ℕ) → net ≡ be16 s at → at + 1 < length s → PartSeen (part_net s at net low top)
  unfolding part_net no_part
  net_view net n b =
      pick_cases PartSeen (eqb net 0) (λ e. net_out b (λ h. omega (arith, eqb-true net 0 e)) refl) (λ e0.
      pick_cases PartSeen (ltb top net) (λ e. net_out b (λ h. omega (arith, ltb-true top net e)) refl) (λ e1.
      let i : NetIn top net = (omega (arith, eqb-false net 0 e0), ltb-false top net e1) in
      pick_cases PartSeen (leb (length s) (at + 2)) (λ e. no_len (leb-true (length s) (at + 2) e) (rw n at i) refl) (λ e2.
      len_view net (oct s (at + 2)) n refl (leb-false (length s) (at + 2) e2) i)))

  pub part_view : PartSeen (part_of s at low top)
  unfolding part_of no_part
  part_view =
      pick_cases PartSeen (leb (length s) at) (λ e. no_net (omega (arith, leb-true (length s) at e)) refl) (λ _.
      pick_cases PartSeen (leb (length s) (at + 1)) (λ e. no_net (leb-true (length s) (at + 1) e) refl) (λ e1.
      net_view (be16 s at) refl (leb-false (length s) (at + 1) e1)))

-- what each number of a part says
module _ {s : List ℕ} {at low top n : ℕ} where
  pub says_14 : PartView s at low top n → n ≡ 14 → (at + 1 < length s) × (NetIn top (be16 s at) → ⊥)
  says_14 (no_net l e) z = absurd (omega arith)
  says_14 (net_out l o e) z = (l, o)
  says_14 (no_len l i e) z = absurd (omega arith)
  says_14 (len_out l i o e) z = absurd (omega arith)
  says_14 (no_adr l i j e) z = absurd (omega arith)
  says_14 (part_whole i j e) z = absurd (omega arith)

  pub says_13 : PartView s at low top n → n ≡ 13 → (at + 2 < length s) × NetIn top (be16 s at) × (LenIn low (oct s (at + 2)) → ⊥)
  says_13 (no_net l e) z = absurd (omega arith)
  says_13 (net_out l o e) z = absurd (omega arith)
  says_13 (no_len l i e) z = absurd (omega arith)
  says_13 (len_out l i o e) z = (l, i, o)
  says_13 (no_adr l i j e) z = absurd (omega arith)
  says_13 (part_whole i j e) z = absurd (omega arith)

  pub says_10 : PartView s at low top n → n ≡ 10 → length s ≤ at + 9
  says_10 (no_net l e) z = omega arith
  says_10 (net_out l o e) z = absurd (omega arith)
  says_10 (no_len l i e) z = omega arith
  says_10 (len_out l i o e) z = absurd (omega arith)
  says_10 (no_adr l i j e) z = omega (arith, j.1)
  says_10 (part_whole i j e) z = absurd (omega arith)

  -- and no part gives 11 or 12
  pub says_not : PartView s at low top n → 11 ≤ n → n ≤ 12 → ⊥
  says_not (no_net l e) a b = omega arith
  says_not (net_out l o e) a b = omega arith
  says_not (no_len l i e) a b = omega arith
  says_not (len_out l i o e) a b = omega arith
  says_not (no_adr l i j e) a b = omega arith
  says_not (part_whole i j e) a b = omega arith

  -- and the other way
  pub gives_14 : PartView s at low top n → at + 1 < length s → (NetIn top (be16 s at) → ⊥) → n ≡ 14
  gives_14 (no_net l e) b o = absurd (omega arith)
  gives_14 (net_out l i e) b o = e
  gives_14 (no_len l i e) b o = absurd (o i)
  gives_14 (len_out l i j e) b o = absurd (o i)
  gives_14 (no_adr l i j e) b o = absurd (o i)
  gives_14 (part_whole i j e) b o = absurd (o i)

  pub gives_13 : PartView s at low top n → at + 2 < length s → NetIn top (be16 s at) → (LenIn low (oct s (at + 2)) → ⊥) → n ≡ 13
  gives_13 (no_net l e) b i o = absurd (omega arith)
  gives_13 (net_out l k e) b i o = absurd (k i)
  gives_13 (no_len l k e) b i o = absurd (omega arith)
  gives_13 (len_out l k j e) b i o = e
  gives_13 (no_adr l k j e) b i o = absurd (o j)
  gives_13 (part_whole k j e) b i o = absurd (o j)

-- a part that stands takes ten octets at most
stands_short : (s : List ℕ) (at : ℕ) (here : Bool) (low top : ℕ) (p : Part) → PartStands s at here low top p → p.next ≤ at + 10
unfolding part_size given
stands_short s at true low top p w =
    let r = w.fine refl in omega (arith, w.ends, part_length true p.net p.len p.adr (λ _. r.len_range) w.kept, r.len_range)
stands_short s at false low top p w = omega (arith, w.ends, part_length false p.net p.len p.adr (λ e. (w.fine e).len_range) w.kept)

-- ---- the end: nothing is judged there, so that it can but be missing
module _ (s : List ℕ) where
  abbrev Ending : ℕ → Tail → Type 0
  Ending m t = (t.refused ≡ 0) ⊎ ((t.refused ≡ 10) × (length s ≤ m))

  vendor_view : (at hops kind m : ℕ) → at + 1 ≤ m → Ending m (vendor_at s at hops kind)
  unfolding vendor_at ended
  vendor_view at hops kind m h =
      pick_cases (Ending m) (ltb kind 128) (λ _. inl refl) (λ _.
      pick_cases (Ending m) (leb (length s) at) (λ e. inr (refl, omega (arith, leb-true (length s) at e))) (λ _.
      pick_cases (Ending m) (leb (length s) (at + 1)) (λ e. inr (refl, omega (arith, leb-true (length s) (at + 1) e))) (λ _. inl refl)))

  message_view : (at hops : ℕ) (here : Bool) (m : ℕ) → at + 2 ≤ m → Ending m (message_at s at hops here)
  unfolding message_at ended
  message_view at hops here m h =
      given_cases (Ending m) here _ _
      (λ _. pick_cases (Ending m) (leb (length s) at) (λ e. inr (refl, omega (arith, leb-true (length s) at e))) (λ _.
      vendor_view (at + 1) hops (oct s at) m (omega arith)))
      (λ _. inl refl)

  pub tail_view : (at : ℕ) (dest here : Bool) (m : ℕ) → at + 3 ≤ m → Ending m (tail_at s at dest here)
  unfolding tail_at ended
  tail_view at dest here m h =
      given_cases (Ending m) dest _ _
      (λ _. pick_cases (Ending m) (leb (length s) at) (λ e. inr (refl, omega (arith, leb-true (length s) at e))) (λ _.
      message_view (at + 1) (oct s at) here m (omega arith)))
      (λ _. message_view at 0 here m (omega arith))

-- ---- the whole header

-- version and control octet are there and good
pub record FrontStands (s : List ℕ) : Type 0 where
  pub two : 1 < length s
  pub first : oct s 0 ≡ version
  pub six : sixth_bit (oct s 1) ≡ false
  pub four : fourth_bit (oct s 1) ≡ false

-- a header that is good up to a part stands, with at the part's place
pub record UpTo (s : List ℕ) (w : Which) (h : Npdu) (at : ℕ) : Type 0 where
  pub kept : Kept h
  pub reached : Reached w h
  pub stands : Has s 0 (before w h)
  pub place : at ≡ length (before w h)
  pub short : at ≤ 12

-- n is the number that the header gives, 0 for none
pub data HeadView (s : List ℕ) (n : ℕ) : Type 0 where
  no_version : length s ≤ 0 → n ≡ 10 → HeadView s n
  other_version_lem : 0 < length s → (oct s 0 ≡ version → ⊥) → n ≡ 11 → HeadView s n
  no_control : length s ≤ 1 → oct s 0 ≡ version → n ≡ 10 → HeadView s n
  bit_set : 1 < length s → oct s 0 ≡ version → (sixth_bit (oct s 1) ≡ true) ⊎ (fourth_bit (oct s 1) ≡ true) → n ≡ 12 → HeadView s n
  in_part : FrontStands s → (w : Which) (h : Npdu) (at : ℕ) → UpTo s w h at → PartView s at (least w) (greatest w) n → HeadView s n
  in_tail : FrontStands s → length s ≤ 25 → n ≡ 10 → HeadView s n
  head_whole : FrontStands s → n ≡ 0 → HeadView s n

module _ (s : List ℕ) (os : Octets s) where
  abbrev Seen : Reading → Type 0
  Seen r = HeadView s r.refused

  -- a part that was refused refuses the header, by its number
  past : (f : ℕ) (r : Reading) → (f ≡ 0 → Seen r) → ((f ≡ 0 → ⊥) → HeadView s f) → Seen (refuse (non (eqb f 0)) (refused_by f) r)
  unfolding refused_by
  past f r g h = by_test (eqb f 0) (λ e. rw e (g (eqb-true f 0 e))) (λ e. rw e (h (eqb-false f 0 e)))

  -- a part that was refused is there
  refused_here_lem : (at : ℕ) (here : Bool) (low top : ℕ) → ((part_if s at here low top).refused ≡ 0 → ⊥)
      → (here ≡ true) × PartView s at low top (part_if s at here low top).refused
  unfolding part_if no_part given
  refused_here_lem at true low top n = (refl, part_view s at low top)
  refused_here_lem at false low top n = absurd (n refl)

  module _ (f : FrontStands s) where
    abbrev c : ℕ
    c = oct s 1

    -- a header of the control octet and this destination
    abbrev head_with : Part → Npdu
    head_with d = (joined c d (no_part 0 0) (ended 0 0 0 0 0)).head

    two_stand : (d : Part) → Has s 0 (version ∷ control_of (head_with d) ∷ [])
    unfolding joined control_of
    two_stand d = (omega (arith, f.two), f.first, (f.two, sym (control_back c (os 1) f.six f.four), omega (arith, f.two)))

    source_view : (d : Part) → PartStands s 2 (dest_bit c) 0 65535 d → Seen (after_source s c d (part_if s d.next (source_bit c) 1 65534))
    unfolding after_source after_tail joined no_part
    source_view d w =
        let q = part_if s d.next (source_bit c) 1 65534 in
        let D = part_octets (dest_bit c) d.net d.len d.adr in
        let k = stands_short s 2 (dest_bit c) 0 65535 d w in
        let b : d.next ≤ length s = omega (arith, w.ends, has_bound s 2 D w.stands) in
        past q.refused _
        (λ z.
        let m = stands_short s d.next (source_bit c) 1 65534 q (part_if_sound s os d.next 1 65534 (source_bit c) b z) in
        let t = tail_at s q.next (dest_bit c) (message_bit c) in
        past t.refused _ (λ _. head_whole f refl) (λ n. late t.refused n (tail_view s q.next (dest_bit c) (message_bit c) 25 (omega arith))))
        (λ n.
        let v = refused_here_lem d.next (source_bit c) 1 65534 n in
        in_part f source (head_with d) d.next
        (record {
          kept = record { dest_kept = w.kept; source_kept = refl };
          reached = record { urgency = omega arith; here = v.0; good = w.fine };
          stands = has_append s 0 (version ∷ control_of (head_with d) ∷ []) D (two_stand d) w.stands;
          place = simp length-append (omega (arith, w.ends));
          short = k;
        })
        v.1)
      where
        late : (n : ℕ) → (n ≡ 0 → ⊥) → (n ≡ 0) ⊎ ((n ≡ 10) × (length s ≤ 25)) → HeadView s n
        late n z (inl e) = absurd (z e)
        late n z (inr e) = in_tail f e.1 e.0

    dest_view : Seen (after_dest s c (part_if s 2 (dest_bit c) 0 65535))
    unfolding after_dest joined no_part
    dest_view =
        let d = part_if s 2 (dest_bit c) 0 65535 in
        past d.refused _
        (λ z. source_view d (part_if_sound s os 2 0 65535 (dest_bit c) (omega (arith, f.two)) z))
        (λ n.
        let v = refused_here_lem 2 (dest_bit c) 0 65535 n in
        in_part f destination (head_with (no_part 0 0)) 2
        (record {
          kept = record { dest_kept = refl; source_kept = refl };
          reached = record { urgency = omega arith; here = v.0; good = tt };
          stands = two_stand (no_part 0 0);
          place = refl;
          short = omega arith;
        })
        v.1)

  version_view : 1 < length s → oct s 0 ≡ version → Seen (after_version s (oct s 1))
  unfolding after_version refused_by
  version_view b v =
      pick_cases Seen (sixth_bit (oct s 1)) (λ e. bit_set b v (inl e) refl) (λ six.
      pick_cases Seen (fourth_bit (oct s 1)) (λ e. bit_set b v (inr e) refl) (λ four.
      dest_view (record { two = b; first = v; six = six; four = four })))

  pub head_view : Seen (read_npdu s)
  unfolding read_npdu refused_by
  head_view =
      pick_cases Seen (leb (length s) 0) (λ e. no_version (leb-true (length s) 0 e) refl) (λ e0.
      by_test (eqb (oct s 0) version)
      (λ v. rw v (pick_cases Seen (leb (length s) 1) (λ e. no_control (leb-true (length s) 1 e) (eqb-true (oct s 0) version v) refl) (λ e1.
      version_view (leb-false (length s) 1 e1) (eqb-true (oct s 0) version v))))
      (λ v. rw v (other_version_lem (leb-false (length s) 0 e0) (eqb-false (oct s 0) version v) refl)))
