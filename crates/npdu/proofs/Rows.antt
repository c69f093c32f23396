-- Rows 10 to 14, "NPDU: ends early; version; bits 6 or 4; DLEN/SLEN; DNET/SNET": each number is given exactly when what its row names is so.
use Prim.Native.Nat.{ℕ, zero, suc, ◌+◌, ◌-◌, ◌*◌, ◌/◌, ◌%◌, ◌≤◌, ◌<◌}
use native.Mathlib.Omega.{arith}
use mathlib.Core.Bool.{Bool, true, false}
use mathlib.Core.List.{List, [], ◌∷◌, ◌++◌, append_assoc}
use mathlib.Core.Logic.{◌⊎◌, inl, inr, ◌↔◌, ⊎_elim}
use mathlib.Core.Path.{◌≡◌, refl, sym, ap, subst, ◌∙◌}
use lib.Dec.{leb, eqb, lit<}
use lib.ListN.{length, get_or, take, drop, replicate, length-append, get_or-replicate, take-append-drop}
use lib.Seq.{drop-cons, take-append-le, take-append_seam, get_or-append-add, get_or_at}
use borrow.Author.Tests.{lt-leb, leb-true, leb-false, ne_eqb, eqb-true, eqb-false}
use Rattle.octets.specs.Choice.{given_true, by_test}
use Rattle.octets.specs.Every.{octets_none, octets_more, octets_join}
use Rattle.octets.specs.Has.{Has, has_append, has_left, has_right, all_has}
use Rattle.octets.specs.Reading.{oct, Octets}
use Rattle.npdu.specs.Exact.{accepted}
use Rattle.npdu.specs.Layout.{version, control_of, part_octets}
use Rattle.npdu.specs.Reading.{Reading, Part, sixth_bit, fourth_bit, part_of, part_if, refused_by, after_source, after_dest, after_version, read_npdu}
use Rattle.npdu.specs.Rows.{Begins, EndsEarly, OtherVersion, BitSet, Which, before, least, greatest, NetworkIn, LengthIn, Reached, NetworkOut, LengthOut}
use Rattle.npdu.specs.Rows.Which.{destination, source}
use Rattle.npdu.specs.Valid.{Kept}
use Rattle.npdu.specs.declared.Npdu.{Npdu}
use Rattle.npdu.proofs.Control.{control_bits}
use Rattle.npdu.proofs.Exact.{npdu_exactly, reads_written, split}
use Rattle.npdu.proofs.Judged.{judged}
use Rattle.npdu.proofs.Outcome.{outcome, Refusal}
use Rattle.npdu.proofs.Parts.{shown_part, part_if_reads}
use Rattle.npdu.proofs.Views.{part_view, says_14, says_13, says_10, says_not, gives_14, gives_13, HeadView, head_view}
use Rattle.npdu.proofs.Views.HeadView.{no_version, other_version_lem, no_control, bit_set, in_part, in_tail, head_whole}

abbrev number : List ℕ → ℕ
number s = (read_npdu s).refused

-- ---- accepted

begins_zero : (s : List ℕ) → Begins s → number s ≡ 0
unfolding accepted
begins_zero s b = rw b.laid (ap (λ (r : Reading). r.refused) (reads_written b.head b.rest b.valid.ruled b.valid.kept))

zero_begins : (s : List ℕ) → Octets s → number s ≡ 0 → Begins s
zero_begins s os z =
    let r = read_npdu s in
    let v = npdu_exactly.sound s (record { head = r.head; rest = drop r.next s }) os (record { accepted = z; header = refl; left = refl }) in
    record { head = r.head; rest = drop r.next s; valid = v.0; laid = v.1 }

pub row_0 : (s : List ℕ) → Octets s → (number s ≡ 0) ↔ Begins s
row_0 s os = (zero_begins s os, begins_zero s)

-- ---- 11: the version

says_version : (s : List ℕ) (n : ℕ) → HeadView s n → n ≡ 11 → OtherVersion s
says_version s n (no_version l e) z = absurd (omega arith)
says_version s n (other_version_lem l v e) z = record { first = oct s 0; rest = drop 1 s; other = v; laid = drop-cons s 0 0 l }
says_version s n (no_control l v e) z = absurd (omega arith)
says_version s n (bit_set l v b e) z = absurd (omega arith)
says_version s n (in_part f w h at u v) z = absurd (says_not v (omega arith) (omega arith))
says_version s n (in_tail f l e) z = absurd (omega arith)
says_version s n (head_whole f e) z = absurd (omega arith)

not_first : (s : List ℕ) → OtherVersion s → oct s 0 ≡ version → ⊥
not_first s o e = o.other (sym (ap (λ (x : List ℕ). oct x 0) o.laid) ∙ e)

gives_version : (s : List ℕ) (n : ℕ) → HeadView s n → OtherVersion s → n ≡ 11
gives_version s n (no_version l e) o = absurd (omega (arith, ap length o.laid))
gives_version s n (other_version_lem l v e) o = e
gives_version s n (no_control l v e) o = absurd (not_first s o v)
gives_version s n (bit_set l v b e) o = absurd (not_first s o v)
gives_version s n (in_part f w h at u v) o = absurd (not_first s o f.first)
gives_version s n (in_tail f l e) o = absurd (not_first s o f.first)
gives_version s n (head_whole f e) o = absurd (not_first s o f.first)

pub row_11 : (s : List ℕ) → Octets s → (number s ≡ 11) ↔ OtherVersion s
row_11 s os = (says_version s (number s) (head_view s os), gives_version s (number s) (head_view s os))

-- ---- 12: bits 6 or 4

bits_set : (c : ℕ) → (sixth_bit c ≡ true) ⊎ (fourth_bit c ≡ true) → (64 ≤ c % 128) ⊎ (16 ≤ c % 32)
bits_set c (inl e) = inl (omega (arith, eqb-true (c % 128 / 64) 1 e))
bits_set c (inr e) = inr (omega (arith, eqb-true (c % 32 / 16) 1 e))

bits_clear : (c : ℕ) → sixth_bit c ≡ false → fourth_bit c ≡ false → (64 ≤ c % 128) ⊎ (16 ≤ c % 32) → ⊥
bits_clear c a b (inl h) = eqb-false (c % 128 / 64) 1 a (omega arith)
bits_clear c a b (inr h) = eqb-false (c % 32 / 16) 1 b (omega arith)

says_bits : (s : List ℕ) (n : ℕ) → HeadView s n → n ≡ 12 → BitSet s
says_bits s n (no_version l e) z = absurd (omega arith)
says_bits s n (other_version_lem l v e) z = absurd (omega arith)
says_bits s n (no_control l v e) z = absurd (omega arith)
says_bits s n (bit_set l v b e) z =
    record { control = oct s 1; rest = drop 2 s; set = bits_set (oct s 1) b; laid = split s (version ∷ oct s 1 ∷ []) (omega arith, v, (l, refl, omega arith)) }
says_bits s n (in_part f w h at u v) z = absurd (says_not v (omega arith) (omega arith))
says_bits s n (in_tail f l e) z = absurd (omega arith)
says_bits s n (head_whole f e) z = absurd (omega arith)

not_clear : (s : List ℕ) → BitSet s → sixth_bit (oct s 1) ≡ false → fourth_bit (oct s 1) ≡ false → ⊥
not_clear s b six four =
    let e : b.control ≡ oct s 1 = sym (ap (λ (x : List ℕ). oct x 1) b.laid) in
    bits_clear b.control (rw e six) (rw e four) b.set

gives_bits : (s : List ℕ) (n : ℕ) → HeadView s n → BitSet s → n ≡ 12
gives_bits s n (no_version l e) b = absurd (omega (arith, ap length b.laid))
gives_bits s n (other_version_lem l v e) b = absurd (v (ap (λ (x : List ℕ). oct x 0) b.laid))
gives_bits s n (no_control l v e) b = absurd (omega (arith, ap length b.laid))
gives_bits s n (bit_set l v c e) b = e
gives_bits s n (in_part f w h at u v) b = absurd (not_clear s b f.six f.four)
gives_bits s n (in_tail f l e) b = absurd (not_clear s b f.six f.four)
gives_bits s n (head_whole f e) b = absurd (not_clear s b f.six f.four)

pub row_12 : (s : List ℕ) → Octets s → (number s ≡ 12) ↔ BitSet s
row_12 s os = (says_bits s (number s) (head_view s os), gives_bits s (number s) (head_view s os))

-- ---- 14 and 13: a part's network number, its length

-- octets that stand one behind the other in front
laid_two : (s x y : List ℕ) (at : ℕ) → Has s 0 x → at ≡ length x → Has s at y → s ≡ x ++ (y ++ drop (length (x ++ y)) s)
laid_two s x y at h e w =
    let p : at ≡ 0 + length x = omega arith in
    split s (x ++ y) (has_append s 0 x y h (subst (λ (k : ℕ). Has s k y) p w)) ∙ append_assoc x y (drop (length (x ++ y)) s)

says_network : (s : List ℕ) (n : ℕ) → HeadView s n → n ≡ 14 → NetworkOut s
says_network s n (no_version l e) z = absurd (omega arith)
says_network s n (other_version_lem l v e) z = absurd (omega arith)
says_network s n (no_control l v e) z = absurd (omega arith)
says_network s n (bit_set l v b e) z = absurd (omega arith)
says_network s n (in_part f w h at u v) z =
    let q = says_14 v z in
    let y : List ℕ = oct s at ∷ oct s (at + 1) ∷ [] in
    record {
      which = w;
      head = h;
      high = oct s at;
      low = oct s (at + 1);
      rest = drop (length (before w h ++ y)) s;
      kept = u.kept;
      reached = u.reached;
      out = q.1;
      laid = laid_two s (before w h) y at u.stands u.place (omega (arith, q.0), refl, (q.0, refl, omega (arith, q.0)));
    }
says_network s n (in_tail f l e) z = absurd (omega arith)
says_network s n (head_whole f e) z = absurd (omega arith)

says_length : (s : List ℕ) (n : ℕ) → HeadView s n → n ≡ 13 → LengthOut s
says_length s n (no_version l e) z = absurd (omega arith)
says_length s n (other_version_lem l v e) z = absurd (omega arith)
says_length s n (no_control l v e) z = absurd (omega arith)
says_length s n (bit_set l v b e) z = absurd (omega arith)
says_length s n (in_part f w h at u v) z =
    let q = says_13 v z in
    let y : List ℕ = oct s at ∷ oct s (at + 1) ∷ oct s (at + 2) ∷ [] in
    let p : at + 1 + 1 ≡ at + 2 = omega arith in
    record {
      which = w;
      head = h;
      high = oct s at;
      low = oct s (at + 1);
      len = oct s (at + 2);
      rest = drop (length (before w h ++ y)) s;
      kept = u.kept;
      reached = u.reached;
      network = q.1;
      out = q.2;
      laid = laid_two s (before w h) y at u.stands u.place
          (omega (arith, q.0), refl, (omega (arith, q.0), refl, (omega (arith, q.0), rw p, omega (arith, q.0))));
    }
says_length s n (in_tail f l e) z = absurd (omega arith)
says_length s n (head_whole f e) z = absurd (omega arith)

-- what refuses a part refuses the header
dest_refuses : (s : List ℕ) (c : ℕ) (d : Part) (n : ℕ) → 1 ≤ n → d.refused ≡ n → (after_dest s c d).refused ≡ n
unfolding after_dest refused_by
dest_refuses s c d n h z = rw (ne_eqb d.refused 0 (λ e. omega arith)) z

source_refuses : (s : List ℕ) (c : ℕ) (d q : Part) (n : ℕ) → 1 ≤ n → q.refused ≡ n → (after_source s c d q).refused ≡ n
unfolding after_source refused_by
source_refuses s c d q n h z = rw (ne_eqb q.refused 0 (λ e. omega arith)) z

-- a good version and control octet lead to the destination, and a good destination to the source
head_goes : (s : List ℕ) (h : Npdu) → h.priority ≤ 3 → Has s 0 (version ∷ control_of h ∷ [])
    → read_npdu s ≡ after_dest s (control_of h) (part_if s 2 h.dest 0 65535)
unfolding read_npdu after_version
head_goes s h p w =
    let c = control_bits h p in
    rw (lt-leb (length s) 0 w.0, w.1, lt-leb (length s) 1 w.2.0, w.2.1, c.six, c.four, c.five)

dest_goes : (s : List ℕ) (h : Npdu) → h.priority ≤ 3 → (d : Part) → d.refused ≡ 0
    → after_dest s (control_of h) d ≡ after_source s (control_of h) d (part_if s d.next h.source 1 65534)
unfolding after_dest
dest_goes s h p d z = rw (z, (control_bits h p).three)

part_here : (s : List ℕ) (at : ℕ) (here : Bool) (low top : ℕ) → here ≡ true → part_if s at here low top ≡ part_of s at low top
unfolding part_if
part_here s at here low top e = given_true here _ _ e

source_goes : (s : List ℕ) (h : Npdu) → h.priority ≤ 3 → h.source ≡ true → (d : Part) (next n : ℕ) → d.refused ≡ 0 → d.next ≡ next → 1 ≤ n
    → (part_of s next 1 65534).refused ≡ n → (after_dest s (control_of h) d).refused ≡ n
source_goes s h p here d next n o e i z =
    let y : (part_of s d.next 1 65534).refused ≡ n = rw e z in
    rw (dest_goes s h p d o, part_here s d.next h.source 1 65534 here) (source_refuses s (control_of h) d (part_of s d.next 1 65534) n i y)

reached_part : (s : List ℕ) (w : Which) (h : Npdu) (at : ℕ) → Kept h → Reached w h → Has s 0 (before w h) → at ≡ length (before w h)
    → (n : ℕ) → 1 ≤ n → (part_of s at (least w) (greatest w)).refused ≡ n → number s ≡ n
unfolding shown_part
reached_part s destination h at k r b p n i z =
    let e : at ≡ 2 = p in
    let y : (part_of s 2 0 65535).refused ≡ n = rw e at z in
    ap (λ (x : Reading). x.refused) (head_goes s h r.urgency b)
    ∙ rw (part_here s 2 h.dest 0 65535 r.here) (dest_refuses s (control_of h) (part_of s 2 0 65535) n i y)
reached_part s source h at k r b p n i z =
    let D = part_octets h.dest h.dnet h.dlen h.dadr in
    let f : Has s 0 (version ∷ control_of h ∷ []) = has_left s 0 (version ∷ control_of h ∷ []) D (omega arith) b in
    let q = part_if_reads s 2 h.dest h.dnet h.dlen 0 65535 h.dadr r.good k.dest_kept b.2.2 in
    let e : at ≡ 2 + length D = omega (arith, p, length-append (version ∷ control_of h ∷ []) D) in
    ap (λ (x : Reading). x.refused) (head_goes s h r.urgency f) ∙ rw q (source_goes s h r.urgency r.here _ (2 + length D) n refl refl i (rw e at z))

pub gives_network : (s : List ℕ) → NetworkOut s → number s ≡ 14
gives_network s o =
    let w = o.which in
    let B = before w o.head in
    let a : Has s 0 (B ++ (o.high ∷ o.low ∷ o.rest)) = subst (λ (x : List ℕ). Has s 0 x) o.laid (all_has s) in
    let r = has_right s 0 B (o.high ∷ o.low ∷ o.rest) a in
    let at = 0 + length B in
    reached_part s w o.head at o.kept o.reached (has_left s 0 B (o.high ∷ o.low ∷ o.rest) (omega arith) a) (omega arith) 14 (omega arith)
    (gives_14 (part_view s at (least w) (greatest w)) r.2.0 (λ i. o.out (rw (r.1, r.2.1) at i)))

pub gives_length : (s : List ℕ) → LengthOut s → number s ≡ 13
gives_length s o =
    let w = o.which in
    let B = before w o.head in
    let y : List ℕ = o.high ∷ o.low ∷ o.len ∷ o.rest in
    let a : Has s 0 (B ++ y) = subst (λ (x : List ℕ). Has s 0 x) o.laid (all_has s) in
    let r = has_right s 0 B y a in
    let at = 0 + length B in
    let p : at + 1 + 1 ≡ at + 2 = omega arith in
    let l : get_or s (at + 2) 0 ≡ o.len = rw p at r.2.2.1 in
    reached_part s w o.head at o.kept o.reached (has_left s 0 B y (omega arith) a) (omega arith) 13 (omega arith)
    (gives_13 (part_view s at (least w) (greatest w)) (omega (arith, r.2.2.0)) (rw (r.1, r.2.1) o.network) (λ i. o.out (rw l at i)))

pub row_14 : (s : List ℕ) → Octets s → (number s ≡ 14) ↔ NetworkOut s
row_14 s os = (says_network s (number s) (head_view s os), gives_network s)

pub row_13 : (s : List ℕ) → Octets s → (number s ≡ 13) ↔ LengthOut s
row_13 s os = (says_length s (number s) (head_view s os), gives_length s)

-- ---- 10: octets that end early can be completed, and by ones: 01 is a good octet at every place

-- more octets than a header can miss
abbrev ones : List ℕ
ones = replicate 26 1

octets_same : (n : ℕ) → Octets (replicate n 1)
octets_same zero = octets_none
octets_same (suc n) = octets_more 1 (replicate n 1) (lit< tt) (octets_same n)

says_early : (s : List ℕ) (n : ℕ) → HeadView s n → n ≡ 10 → length s ≤ 25
says_early s n (no_version l e) z = omega arith
says_early s n (other_version_lem l v e) z = absurd (omega arith)
says_early s n (no_control l v e) z = omega arith
says_early s n (bit_set l v b e) z = absurd (omega arith)
says_early s n (in_part f w h at u v) z = omega (arith, says_10 v z, u.short)
says_early s n (in_tail f l e) z = l
says_early s n (head_whole f e) z = absurd (omega arith)

-- an octet that settles the octets with the ones behind is a one, or stands before them
module _ (s x : List ℕ) (b : ℕ) (rest : List ℕ) (e : s ++ ones ≡ (x ++ (b ∷ [])) ++ rest) where
  in_front_lem : length (x ++ (b ∷ [])) ≤ length s → s ≡ (x ++ (b ∷ [])) ++ drop (length (x ++ (b ∷ []))) s
  in_front_lem h =
      let y : List ℕ = x ++ (b ∷ []) in
      let k : take (length y) s ≡ y = sym (take-append-le (length y) s ones h) ∙ ap (take (length y)) e ∙ take-append_seam y rest in
      sym (take-append-drop (length y) s) ∙ ap (λ (l : List ℕ). l ++ drop (length y) s) k

  a_one : length s < length (x ++ (b ∷ [])) → b ≡ 1
  a_one h =
      let j = length x - length s in
      let m : length (x ++ (b ∷ [])) ≡ length x + 1 = length-append x (b ∷ []) in
      let total : length s + 26 ≡ length (x ++ (b ∷ [])) + length rest = sym (length-append s ones) ∙ ap length e ∙ length-append (x ++ (b ∷ [])) rest in
      let p : length s + j ≡ length x = omega arith in
      let f : get_or (s ++ ones) (length s + j) 0 ≡ 1 = get_or-append-add s ones j 0 ∙ get_or-replicate 26 j 1 0 (omega arith) in
      let g : get_or ((x ++ (b ∷ [])) ++ rest) (length x) 0 ≡ b = rw (append_assoc x (b ∷ []) rest) (get_or_at x b rest 0 (length x) refl) in
      sym g ∙ ap (λ (l : List ℕ). get_or l (length x) 0) (sym e) ∙ rw p at f

  settling : (b ≡ 1) ⊎ ((t : List ℕ) × (s ≡ (x ++ (b ∷ [])) ++ t))
  settling =
      by_test (leb (length (x ++ (b ∷ []))) (length s))
      (λ h. inr (drop (length (x ++ (b ∷ []))) s, in_front_lem (leb-true _ _ h)))
      (λ h. inl (a_one (leb-false _ _ h)))

-- one octet apart, and a one in its place
joins : (x : List ℕ) (a b : ℕ) (t : List ℕ) → x ++ (a ∷ b ∷ t) ≡ ((x ++ (a ∷ [])) ++ (b ∷ [])) ++ t
joins x a b t = simp append_assoc

joins_two : (x : List ℕ) (a b c : ℕ) (t : List ℕ) → x ++ (a ∷ b ∷ c ∷ t) ≡ ((x ++ (a ∷ b ∷ [])) ++ (c ∷ [])) ++ t
joins_two x a b c t = simp append_assoc

network_one : (w : Which) (high low : ℕ) → high < 256 → low ≡ 1 → NetworkIn w (high * 256 + low)
network_one destination high low h e = (omega arith, omega arith)
network_one source high low h e = (omega arith, omega arith)

length_one : (w : Which) (len : ℕ) → len ≡ 1 → LengthIn w len
length_one destination len e = (omega arith, omega arith)
length_one source len e = (omega arith, omega arith)

module _ (s : List ℕ) (os : Octets s) (z : number s ≡ 10) where
  not_11 : OtherVersion (s ++ ones) → ⊥
  not_11 o =
      ⊎_elim o.other
      (λ (t : (t : List ℕ) × (s ≡ o.first ∷ t)). omega (arith, (row_11 s os).1 (record { first = o.first; rest = t.0; other = o.other; laid = t.1 })))
      (settling s [] o.first o.rest o.laid)

  one_clear : (c : ℕ) → c ≡ 1 → (64 ≤ c % 128) ⊎ (16 ≤ c % 32) → ⊥
  one_clear c e (inl h) = omega arith
  one_clear c e (inr h) = omega arith

  not_12 : BitSet (s ++ ones) → ⊥
  not_12 o =
      ⊎_elim (λ e. one_clear o.control e o.set)
      (λ (t : (t : List ℕ) × (s ≡ version ∷ o.control ∷ t)).
      omega (arith, (row_12 s os).1 (record { control = o.control; rest = t.0; set = o.set; laid = t.1 })))
      (settling s (version ∷ []) o.control o.rest o.laid)

  high_small : (B : List ℕ) (high : ℕ) (t : List ℕ) → s ++ ones ≡ B ++ (high ∷ t) → high < 256
  high_small B high t e =
      let f : get_or (s ++ ones) (length B) 0 ≡ high = rw e (get_or_at B high t 0 (length B) refl) in
      rw f at (octets_join s ones os (octets_same 26) (length B))

  not_14 : NetworkOut (s ++ ones) → ⊥
  not_14 o =
      let B = before o.which o.head in
      ⊎_elim (λ e. o.out (network_one o.which o.high o.low (high_small B o.high (o.low ∷ o.rest) o.laid) e))
      (λ (t : (t : List ℕ) × (s ≡ ((B ++ (o.high ∷ [])) ++ (o.low ∷ [])) ++ t)).
      omega (
        arith,
        gives_network s (record {
          which = o.which;
          head = o.head;
          high = o.high;
          low = o.low;
          rest = t.0;
          kept = o.kept;
          reached = o.reached;
          out = o.out;
          laid = t.1 ∙ sym (joins B o.high o.low t.0);
        }),
      ))
      (settling s (B ++ (o.high ∷ [])) o.low o.rest (o.laid ∙ joins B o.high o.low o.rest))

  not_13 : LengthOut (s ++ ones) → ⊥
  not_13 o =
      let B = before o.which o.head in
      ⊎_elim (λ e. o.out (length_one o.which o.len e))
      (λ (t : (t : List ℕ) × (s ≡ ((B ++ (o.high ∷ o.low ∷ [])) ++ (o.len ∷ [])) ++ t)).
      omega (
        arith,
        gives_length s (record {
          which = o.which;
          head = o.head;
          high = o.high;
          low = o.low;
          len = o.len;
          rest = t.0;
          kept = o.kept;
          reached = o.reached;
          network = o.network;
          out = o.out;
          laid = t.1 ∙ sym (joins_two B o.high o.low o.len t.0);
        }),
      ))
      (settling s (B ++ (o.high ∷ o.low ∷ [])) o.len o.rest (o.laid ∙ joins_two B o.high o.low o.len o.rest))

  completes : Begins (s ++ ones)
  completes =
      let w = s ++ ones in
      let ow = octets_join s ones os (octets_same 26) in
      let n = number w in
      let m : length w ≡ length s + 26 = length-append s ones in
      ⊎_elim (zero_begins w ow) (λ (r : Refusal (read_npdu w)).
      by_test (eqb n 10) (λ e. absurd (omega (arith, says_early w n (head_view w ow) (eqb-true n 10 e)))) (λ e0.
      by_test (eqb n 11) (λ e. absurd (not_11 ((row_11 w ow).0 (eqb-true n 11 e)))) (λ e1.
      by_test (eqb n 12) (λ e. absurd (not_12 ((row_12 w ow).0 (eqb-true n 12 e)))) (λ e2.
      by_test (eqb n 13) (λ e. absurd (not_13 ((row_13 w ow).0 (eqb-true n 13 e)))) (λ e3.
      let e : n ≡ 14 = omega (arith, r.number.0, r.number.1, eqb-false n 10 e0, eqb-false n 11 e1, eqb-false n 12 e2, eqb-false n 13 e3) in
      absurd (not_14 ((row_14 w ow).0 e))))))) (outcome w).either

early_ends : (s : List ℕ) → Octets s → EndsEarly s → number s ≡ 10
unfolding refused_by
early_ends s os e =
    ⊎_elim (λ q. ap (λ (r : Reading). r.refused) q)
    (λ q. absurd (e.none (zero_begins s os (sym (ap (λ (r : Reading). r.refused) q) ∙ begins_zero (s ++ e.more) e.whole))))
    (judged s e.more)

ends_early : (s : List ℕ) → Octets s → number s ≡ 10 → EndsEarly s
ends_early s os z = record { none = λ b. omega (arith, begins_zero s b); more = ones; octets = octets_same 26; whole = completes s os z }

pub row_10 : (s : List ℕ) → Octets s → (number s ≡ 10) ↔ EndsEarly s
row_10 s os = (ends_early s os, early_ends s os)
