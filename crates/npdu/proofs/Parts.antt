-- A part is read exactly where its octets stand.
use Prim.Native.Nat.{ℕ, ◌+◌, ◌*◌, ◌-◌, ◌≤◌, ◌<◌}
use native.Mathlib.Omega.{arith}
use mathlib.Core.Bool.{Bool, true, false, false≢true}
use mathlib.Core.List.{List}
use mathlib.Core.Path.{◌≡◌, refl, ap}
use lib.Dec.{ltb, leb, eqb}
use lib.ListN.{length, get_or, take, drop, length-append, length-drop, length-replicate}
use lib.Seq.{length-take-le, take_at}
use borrow.Author.Tests.{lt-leb, le-ltb, ne_eqb, leb-false, ltb-false, eqb-false}
use Rattle.octets.specs.Choice.{given, pick_cases, pick_case}
use Rattle.octets.specs.Has.{Has, has_take, has_cut, has_bound}
use Rattle.octets.specs.Reading.{oct, be16, Octets}
use Rattle.npdu.specs.Layout.{zeros, cut, part_laid, part_octets}
use Rattle.npdu.specs.Valid.{PartValid}
use Rattle.npdu.specs.Reading.{Part, no_part, address_of, part_len, part_net, part_of, part_if}

-- an address cut to its length
pub take_cut : (len : ℕ) (x : List ℕ) → len ≤ length x → take len (cut len x) ≡ take len x
unfolding cut
take_cut len x h = take_at (take len x) (zeros (7 - len)) len (length-take-le len x h)

pub length_cut : (len : ℕ) (x : List ℕ) → len ≤ 7 → len ≤ length x → length (cut len x) ≡ 7
unfolding cut
length_cut len x k h = let l = length-take-le len x h in rw (length-append, l, length-replicate) (omega arith)

-- what a part is read as
unfoldable pub shown_part : Bool → ℕ → ℕ → ℕ → List ℕ → Part
shown_part here next net len adr =
    record { refused = 0; next = next; net = given here net 0; len = given here len 0; adr = given here (cut len adr) (zeros 7) }

-- ---- octets that stand there are read

module _ (s : List ℕ) (at net len low top : ℕ) (adr : List ℕ) (v : PartValid net len low top) (k : length adr ≡ 7) where
  len_reads : Has s (at + 3) (take len adr) → part_len s at net len low ≡ shown_part true (at + 3 + len) net len adr
  unfolding part_len address_of cut shown_part given
  len_reads h =
      let b = v.len_range in
      let l : length (take len adr) ≡ len = length-take-le len adr (omega arith) in
      let e : at + 3 + length (take len adr) ≤ length s = has_bound s (at + 3) (take len adr) h in
      let a : take len (drop (at + 3) s) ≡ take len adr = rw l at (has_cut s (at + 3) (take len adr) h) in
      rw (le-ltb len low v.len_least, le-ltb 7 len b, lt-leb (length s) (at + 2 + len) (omega arith), a)

  part_reads : Has s at (part_laid net len adr) → part_of s at low top ≡ shown_part true (at + 3 + len) net len adr
  unfolding part_of part_net part_laid
  part_reads h =
      let p : at + 1 + 1 ≡ at + 2 = omega arith in
      let q : at + 1 + 1 + 1 ≡ at + 3 = omega arith in
      let n : get_or s at 0 * 256 + get_or s (at + 1) 0 ≡ net = omega (arith, h.1, h.2.1) in
      let g : get_or s (at + 2) 0 ≡ len = rw p at h.2.2.1 in
      let a : Has s (at + 3) (take len adr) = rw q at h.2.2.2 in
      rw (lt-leb (length s) at h.0, lt-leb (length s) (at + 1) h.2.0, n, ne_eqb net 0 (λ z. omega (arith, v.some_net)), le-ltb top net v.net_range)
      (rw (lt-leb (length s) (at + 2) (omega (arith, h.2.2.0)), g) (len_reads a))

pub part_if_reads : (s : List ℕ) (at : ℕ) (here : Bool) (net len low top : ℕ) (adr : List ℕ) → (here ≡ true → PartValid net len low top) → length adr ≡ 7
    → Has s at (part_octets here net len adr)
    → part_if s at here low top ≡ shown_part here (at + length (part_octets here net len adr)) net len adr
unfolding part_if part_octets part_laid no_part shown_part given
part_if_reads s at true net len low top adr v k h =
    let l = length-take-le len adr (omega (arith, (v refl).len_range)) in
    let e : at + 3 + len ≡ at + length (part_laid net len adr) = omega arith in
    rw (← e) (part_reads s at net len low top adr (v refl) k h)
part_if_reads s at false net len low top adr v k h = let e : at ≡ at + 0 = omega arith in ap (λ n. shown_part false n net len adr) e

-- ---- what is read stands there

pub record PartStands (s : List ℕ) (at : ℕ) (here : Bool) (low top : ℕ) (p : Part) : Type 0 where
  pub stands : Has s at (part_octets here p.net p.len p.adr)
  pub ends : p.next ≡ at + length (part_octets here p.net p.len p.adr)
  pub fine : here ≡ true → PartValid p.net p.len low top
  pub kept : length p.adr ≡ 7

module _ (s : List ℕ) (os : Octets s) (at low top : ℕ) where
  abbrev Sound : Bool → Part → Type 0
  Sound here p = p.refused ≡ 0 → PartStands s at here low top p

  refused_not : (n : ℕ) → 1 ≤ n → Sound true (no_part n 0)
  unfolding no_part
  refused_not n h e = absurd (omega arith)

  laid_there : (len : ℕ) → at + 2 + len < length s → Has s (at + 1 + 1 + 1) (take len (address_of s (at + 3) len))
  unfolding address_of
  laid_there len h =
      let q : at + 1 + 1 + 1 ≡ at + 3 = omega arith in
      let l : len ≤ length (drop (at + 3) s) = rw length-drop (omega arith) in
      rw (q, take_cut len (drop (at + 3) s) l) (has_take s (at + 3) len (omega arith))

  len_sound : (net len : ℕ) → net ≡ be16 s at → len ≡ oct s (at + 2) → at + 2 < length s → 1 ≤ net → net ≤ top → Sound true (part_len s at net len low)
  unfolding part_len part_octets part_laid address_of given
  len_sound net len n k b low-net top-net =
      pick_cases (Sound true) (ltb len low) (λ _. refused_not 13 (omega arith)) (λ l.
      pick_cases (Sound true) (ltb 7 len) (λ _. refused_not 13 (omega arith)) (λ m.
      pick_cases (Sound true) (leb (length s) (at + 2 + len)) (λ _. refused_not 10 (omega arith)) (λ e _.
      let a = leb-false (length s) (at + 2 + len) e in
      let o = os (at + 1) in
      let p : at + 1 + 1 ≡ at + 2 = omega arith in
      let c : length (address_of s (at + 3) len) ≡ 7 = length_cut len (drop (at + 3) s) (ltb-false 7 len m) (rw length-drop (omega arith)) in
      record {
        stands = (omega arith, omega arith, (omega arith, omega arith, (omega arith, rw (p, k), laid_there len a)));
        ends = omega (arith, length-take-le len (address_of s (at + 3) len) (rw c (ltb-false 7 len m)));
        fine = λ _. record { some_net = low-net; net_range = top-net; len_least = ltb-false len low l; len_range = ltb-false 7 len m };
        kept = c;
      })))

  net_sound : (net : ℕ) → net ≡ be16 s at → Sound true (part_net s at net low top)
  unfolding part_net
  net_sound net n =
      pick_cases (Sound true) (eqb net 0) (λ _. refused_not 14 (omega arith)) (λ z.
      pick_cases (Sound true) (ltb top net) (λ _. refused_not 14 (omega arith)) (λ t.
      pick_cases (Sound true) (leb (length s) (at + 2)) (λ _. refused_not 10 (omega arith)) (λ e.
      len_sound net (oct s (at + 2)) n refl (leb-false (length s) (at + 2) e) (omega (arith, eqb-false net 0 z)) (ltb-false top net t))))

  part_sound : Sound true (part_of s at low top)
  unfolding part_of
  part_sound =
      pick_case (Sound true) (leb (length s) at) (refused_not 10 (omega arith))
      (pick_case (Sound true) (leb (length s) (at + 1)) (refused_not 10 (omega arith)) (net_sound (be16 s at) refl))

  pub part_if_sound : (here : Bool) → at ≤ length s → Sound here (part_if s at here low top)
  unfolding part_if part_octets no_part given
  part_if_sound true h = part_sound
  part_if_sound false h = λ _. record { stands = h; ends = omega arith; fine = λ f. absurd (false≢true f); kept = refl }
