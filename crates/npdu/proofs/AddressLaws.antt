-- The addresses of headers: when two are the same, and which of them a header that keeps the rules gives.
use Prim.Native.Nat.{ℕ, zero, suc, ◌+◌, ◌≤◌, ◌<◌}
use native.Mathlib.Numerals.{add-one}
use native.Mathlib.Omega.{arith}
use mathlib.Core.Bool.{Bool, true, false, ◌&&◌, beq}
use mathlib.Core.List.{List, [], ◌∷◌}
use mathlib.Core.Logic.{◌↔◌}
use mathlib.Core.Path.{◌≡◌, refl, ap}
use lib.Dec.{eqb, lit<}
use Rattle.std.specs.Cmp.Lexicographic.{pointwise}
use Rattle.std.specs.Prelude.{nat_eq}
use lib.ListN.{length, get_or, drop, drop_of_length-le}
use lib.Seq.{drop-cons}
use borrow.Author.Tests.{eqb-true, eq-eqb, ne_eqb}
use Rattle.octets.specs.Choice.{pick, given, pick_so, not_so}
use Rattle.octets.specs.Every.{octets_none, octets_more}
use Rattle.octets.specs.Reading.{Octets}
use Rattle.npdu.specs.Address.{absent, part_address, source_of, destination_of, same_octets, same_fields, same_address, shown_address, settled, gives, gives_source, gives_destination, AddressFits, Giver}
use Rattle.npdu.specs.Fault.{part_fault}
use Rattle.npdu.specs.Layout.{zeros, cut, shown}
use Rattle.npdu.specs.Valid.{PartValid}
use Rattle.npdu.specs.declared.Address.{Address}
use Rattle.npdu.specs.declared.Npdu.{Npdu}
use Rattle.npdu.specs.declared.TheConstants.Address.{NONE}
use Rattle.npdu.proofs.Sizes.{fault_here}
use Rattle.npdu.proofs.Trips.{rules_fine}

-- ---- the same octets, and the turns of the loop that compares them

same_refl : (x : List ℕ) → same_octets x x ≡ true
unfolding same_octets
same_refl [] = refl
same_refl (x ∷ xs) = rw (eq-eqb x x refl) (same_refl xs)

same_octets_lem : (x y : List ℕ) → same_octets x y ≡ true → x ≡ y
unfolding same_octets
same_octets_lem [] [] e = refl
same_octets_lem [] (y ∷ ys) e = not_so e
same_octets_lem (x ∷ xs) [] e = not_so e
same_octets_lem (x ∷ xs) (y ∷ ys) e =
    let p = pick_so (eqb x y) (same_octets xs ys) false true (λ z. not_so z) e in
    let a : x ≡ y = eqb-true x y p.0 in
    let b : xs ≡ ys = same_octets_lem xs ys p.1 in
    cc

module _ (a b : List ℕ) (i : ℕ) (here : i < length a) (there : i < length b) where
  pub same_on : get_or a i 0 ≡ get_or b i 0 → same_octets (drop i a) (drop i b) ≡ same_octets (drop (i + 1) a) (drop (i + 1) b)
  unfolding same_octets
  same_on e = rw (add-one i, drop-cons a i 0 here, drop-cons b i 0 there, eq-eqb (get_or a i 0) (get_or b i 0) e)

  pub same_not : (get_or a i 0 ≡ get_or b i 0 → ⊥) → same_octets (drop i a) (drop i b) ≡ false
  unfolding same_octets
  same_not n = rw (drop-cons a i 0 here, drop-cons b i 0 there, ne_eqb (get_or a i 0) (get_or b i 0) n)

pub same_end : (a b : List ℕ) (i : ℕ) → length a ≤ i → length b ≤ i → same_octets (drop i a) (drop i b) ≡ true
unfolding same_octets
same_end a b i here there = rw (drop_of_length-le a here, drop_of_length-le b there)

-- ---- two addresses are the same exactly when they are equal

abbrev made : Bool → ℕ → ℕ → List ℕ → Address
made here net len adr = record { present = here; network = net; length = len; octets = adr }

made_same : (p q : Bool) (n m l k : ℕ) (x y : List ℕ) → p ≡ q → n ≡ m → l ≡ k → x ≡ y → made p n l x ≡ made q m k y
made_same p q n m l k x y e f g h = rw (e, f, g, h)

by_flags : (p q x : Bool) → given p (given q x false) (given q false x) ≡ true → (p ≡ q) × (x ≡ true)
unfolding given
by_flags true true x e = (refl, e)
by_flags true false x e = not_so e
by_flags false true x e = not_so e
by_flags false false x e = (refl, e)

flags_same : (p x : Bool) → x ≡ true → given p (given p x false) (given p false x) ≡ true
unfolding given
flags_same true x e = e
flags_same false x e = e

same_whole : (a b : Address) → same_address a b ≡ true → a ≡ b
unfolding same_address same_fields
same_whole a b e =
    let f = by_flags a.present b.present (same_fields a b) e in
    let n = pick_so (eqb a.network b.network) _ false true (λ z. not_so z) f.1 in
    let l = pick_so (eqb a.length b.length) _ false true (λ z. not_so z) n.1 in
    made_same a.present b.present a.network b.network a.length b.length a.octets b.octets
    f.0 (eqb-true _ _ n.0) (eqb-true _ _ l.0) (same_octets_lem _ _ l.1)

same_self : (a : Address) → same_address a a ≡ true
unfolding same_address same_fields
same_self a = flags_same a.present (same_fields a a) (rw (eq-eqb a.network a.network refl, eq-eqb a.length a.length refl) (same_refl a.octets))

pub same_exactly : (a b : Address) → (same_address a b ≡ true) ↔ (a ≡ b)
same_exactly a b = (same_whole a b, λ e. rw e (same_self b))

-- ---- what the test of an address says

settled_shown : (here : Bool) (net len : ℕ) (adr : List ℕ) → settled (made here net len adr) ≡ true → shown_address (made here net len adr) ≡ made here net len adr
unfolding settled shown_address part_address given
settled_shown true net len adr e = ap (λ (x : List ℕ). made true net len x) (same_octets_lem (cut len adr) adr e)
settled_shown false net len adr e = same_whole absent (made false net len adr) e

pub gives_part : (low top : ℕ) (a : Address) → gives low top a ≡ true → (a.present ≡ true → PartValid a.network a.length low top) × (shown_address a ≡ a)
unfolding gives
gives_part low top a e =
    let f = part_fault a.present a.network a.length low top in
    let p = pick_so (eqb f 0) (settled a) false true (λ z. not_so z) e in
    (fault_here a.present a.network a.length low top (eqb-true f 0 p.0), settled_shown a.present a.network a.length a.octets p.1)

pub part_gives : (low top : ℕ) (here : Bool) (net len : ℕ) (adr : List ℕ) → (here ≡ true → PartValid net len low top) → given here (cut len adr) (zeros 7) ≡ adr
    → gives low top (part_address here net len adr) ≡ true
unfolding gives settled part_address absent given
part_gives low top true net len adr v e = rw (rules_fine true net len low top v, e) (same_refl adr)
part_gives low top false net len adr v e = rw (rules_fine false 0 0 low top (λ z. not_so z)) (same_self absent)

-- what an address that is as it is shown says field by field
shown_fields : (here : Bool) (net len : ℕ) (adr : List ℕ) → shown_address (made here net len adr) ≡ made here net len adr
    → (given here net 0 ≡ net) × (given here len 0 ≡ len) × (given here (cut len adr) (zeros 7) ≡ adr) × (part_address here net len adr ≡ made here net len adr)
unfolding shown_address part_address absent given
shown_fields true net len adr e = (refl, refl, ap (λ (a : Address). a.octets) e, refl)
shown_fields false net len adr e = (ap (λ (a : Address). a.network) e, ap (λ (a : Address). a.length) e, ap (λ (a : Address). a.octets) e, e)

-- ---- the test holds exactly when some header that keeps the rules has that address

octets_zeros : (n : ℕ) → Octets (zeros n)
octets_zeros zero = octets_none
octets_zeros (suc n) = octets_more 0 (zeros n) (lit< tt) (octets_zeros n)

given_same : (b : Bool) → ◌≡◌ {A = ℕ} (given b 0 0) 0
unfolding given
given_same true = refl
given_same false = refl

-- a header with this source and nothing else, and one with this destination
abbrev with_source : Address → Npdu
with_source a =
    record {
      message = false;
      dest = false;
      source = a.present;
      reply = false;
      priority = 0;
      dnet = 0;
      dlen = 0;
      dadr = zeros 7;
      snet = a.network;
      slen = a.length;
      sadr = a.octets;
      hops = 0;
      kind = 0;
      vendor = 0;
    }

abbrev with_destination : Address → Npdu
with_destination a =
    record {
      message = false;
      dest = a.present;
      source = false;
      reply = false;
      priority = 0;
      dnet = a.network;
      dlen = a.length;
      dadr = a.octets;
      snet = 0;
      slen = 0;
      sadr = zeros 7;
      hops = 0;
      kind = 0;
      vendor = 0;
    }

module _ (a : Address) (f : AddressFits a) where
  source_giver : gives_source a ≡ true → Giver source_of a
  unfolding gives_source source_of shown given
  source_giver e =
      let g = gives_part 1 65534 a e in
      let s = shown_fields a.present a.network a.length a.octets g.1 in
      record {
        head = with_source a;
        valid = record {
          ruled = record { urgency = omega arith; destination = λ z. not_so z; origin = g.0 };
          kept = record { dest_kept = refl; source_kept = f.seven };
          settled = rw (s.0, s.1, s.2);
        };
        fits = record {
          dnet_fits = omega arith;
          dlen_fits = omega arith;
          dadr_fits = octets_zeros 7;
          snet_fits = f.network_fits;
          slen_fits = f.length_fits;
          sadr_fits = f.octets_fit;
          hops_fit = omega arith;
          kind_fits = omega arith;
          vendor_fits = omega arith;
        };
        address = s.3;
      }

  destination_giver : gives_destination a ≡ true → Giver destination_of a
  unfolding gives_destination destination_of shown given
  destination_giver e =
      let g = gives_part 0 65535 a e in
      let s = shown_fields a.present a.network a.length a.octets g.1 in
      record {
        head = with_destination a;
        valid = record {
          ruled = record { urgency = omega arith; destination = g.0; origin = λ z. not_so z };
          kept = record { dest_kept = f.seven; source_kept = refl };
          settled = rw (s.0, s.1, s.2, given_same a.present);
        };
        fits = record {
          dnet_fits = f.network_fits;
          dlen_fits = f.length_fits;
          dadr_fits = f.octets_fit;
          snet_fits = omega arith;
          slen_fits = omega arith;
          sadr_fits = octets_zeros 7;
          hops_fit = omega arith;
          kind_fits = omega arith;
          vendor_fits = omega arith;
        };
        address = s.3;
      }

source_given : (a : Address) → Giver source_of a → gives_source a ≡ true
unfolding gives_source source_of shown given
source_given a g =
    let h = g.head in
    rw (← g.address) (part_gives 1 65534 h.source h.snet h.slen h.sadr g.valid.ruled.origin (ap (λ (x : Npdu). x.sadr) g.valid.settled))

destination_given : (a : Address) → Giver destination_of a → gives_destination a ≡ true
unfolding gives_destination destination_of shown given
destination_given a g =
    let h = g.head in
    rw (← g.address) (part_gives 0 65535 h.dest h.dnet h.dlen h.dadr g.valid.ruled.destination (ap (λ (x : Npdu). x.dadr) g.valid.settled))

pub source_exactly : (a : Address) → AddressFits a → (gives_source a ≡ true) ↔ Giver source_of a
source_exactly a f = (source_giver a f, source_given a)

pub destination_exactly : (a : Address) → AddressFits a → (gives_destination a ≡ true) ↔ Giver destination_of a
destination_exactly a f = (destination_giver a f, destination_given a)

-- ---- the tests are the library's equality

and_pick : (p q : Bool) → (p && q) ≡ pick p q false
and_pick true q = refl
and_pick false q = refl

pub same_octets_is : (x y : List ℕ) → pointwise nat_eq x y ≡ same_octets x y
unfolding same_octets
same_octets_is [] [] = refl
same_octets_is [] (y ∷ ys) = refl
same_octets_is (x ∷ xs) [] = refl
same_octets_is (x ∷ xs) (y ∷ ys) = rw (same_octets_is xs ys) (and_pick (eqb x y) (same_octets xs ys))

same_flags : (p q x : Bool) → (beq p q && x) ≡ given p (given q x false) (given q false x)
unfolding given
same_flags true true x = refl
same_flags true false x = refl
same_flags false true x = refl
same_flags false false x = refl

pub same_address_is : (a b : Address) → (beq a.present b.present && (eqb a.network b.network && (eqb a.length b.length && pointwise nat_eq a.octets b.octets))) ≡ same_address a b
unfolding same_address same_fields
same_address_is a b =
    let o = same_octets a.octets b.octets in
    rw (same_octets_is a.octets b.octets, and_pick (eqb a.length b.length) o, and_pick (eqb a.network b.network) (pick (eqb a.length b.length) o false)) (same_flags a.present b.present _)

-- no address, as the code names it
pub none_absent : NONE ≡ absent
unfolding absent
none_absent = refl
