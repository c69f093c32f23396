-- How many octets are laid, and what a header without a fault keeps to.
use Prim.Native.Nat.{ℕ, ◌≤◌, ◌<◌, ◌/◌, ◌%◌}
use native.Mathlib.Omega.{arith}
use mathlib.Core.Bool.{Bool, true, false}
use mathlib.Core.List.{List, [], ◌∷◌}
use mathlib.Core.Path.{◌≡◌, refl}
use lib.Dec.{ltb, eqb}
use lib.ListN.{length, length-append}
use lib.Seq.{length-take-le}
use borrow.Author.Tests.{ltb-false, eqb-false, eqb-true}
use Rattle.octets.specs.Choice.{pick, given, pick_not, pick_cases, by_test}
use Rattle.npdu.specs.Fault.{part_rules, part_fault, sooner, fault_of}
use Rattle.npdu.specs.Layout.{part_laid, part_octets, hop_octets, message_laid, message_octets, parts_octets, tail_octets, encode}
use Rattle.npdu.specs.Valid.{PartValid, Ruled, Kept}
use Rattle.npdu.specs.Size.{part_size, hop_size, kind_size, message_size, parts_size, tail_size, size_of}
use Rattle.npdu.specs.declared.Npdu.{Npdu}

-- a part without a fault
none_here : (b : Bool) (f y : ℕ) → 1 ≤ f → pick b f y ≡ 0 → (b ≡ false) × (y ≡ 0)
none_here b f y h e = pick_not b f y 0 (λ d. omega arith) e

rules_none : (net len low top : ℕ) → part_rules net len low top ≡ 0 → PartValid net len low top
unfolding part_rules
rules_none net len low top e =
    let a = none_here (eqb net 0) 14 _ (omega arith) e in
    let b = none_here (ltb top net) 14 _ (omega arith) a.1 in
    let c = none_here (ltb len low) 13 _ (omega arith) b.1 in
    let d = none_here (ltb 7 len) 13 _ (omega arith) c.1 in
    record {
      some_net = omega (arith, eqb-false net 0 a.0);
      net_range = ltb-false top net b.0;
      len_least = ltb-false len low c.0;
      len_range = ltb-false 7 len d.0;
    }

pub fault_here : (here : Bool) (net len low top : ℕ) → part_fault here net len low top ≡ 0 → here ≡ true → PartValid net len low top
unfolding part_fault given
fault_here here net len low top e h = rules_none net len low top (rw h at e)

-- a header without a fault keeps to the rules
pub fault_none : (h : Npdu) → fault_of h ≡ 0 → Ruled h
unfolding fault_of sooner
fault_none h e =
    let a = none_here (ltb 3 h.priority) 12 _ (omega arith) e in
    let f = part_fault h.dest h.dnet h.dlen 0 65535 in
    let d : f ≡ 0 = pick_cases (λ x. x ≡ 0 → f ≡ 0) (eqb f 0) (λ t _. omega (arith, eqb-true)) (λ _ z. z) a.1 in
    record {
      urgency = ltb-false 3 h.priority a.0;
      destination = fault_here h.dest h.dnet h.dlen 0 65535 d;
      origin = fault_here h.source h.snet h.slen 1 65534 (rw d at a.1);
    }

pub part_length : (here : Bool) (net len : ℕ) (adr : List ℕ) → (here ≡ true → len ≤ 7) → length adr ≡ 7 → length (part_octets here net len adr) ≡ part_size here len
unfolding part_octets part_laid part_size given
part_length true net len adr h e = let k = h refl in let l = length-take-le len adr (omega arith) in omega (arith, l)
part_length false net len adr h e = refl

pub hop_length : (here : Bool) (hops : ℕ) → length (hop_octets here hops) ≡ hop_size here
unfolding hop_octets hop_size given
hop_length true hops = refl
hop_length false hops = refl

pub kind_length : (kind vendor : ℕ) → length (message_laid kind vendor) ≡ kind_size kind
unfolding message_laid kind_size
kind_length kind vendor = by_test (ltb kind 128) (λ e. rw e) (λ e. rw e)

pub message_length : (here : Bool) (kind vendor : ℕ) → length (message_octets here kind vendor) ≡ message_size here kind
unfolding message_octets message_size given
message_length true kind vendor = kind_length kind vendor
message_length false kind vendor = refl

pub parts_length : (h : Npdu) → Ruled h → Kept h → length (parts_octets h) ≡ parts_size h
unfolding parts_octets parts_size
parts_length h r k =
    let a = part_length h.dest h.dnet h.dlen h.dadr (λ t. (r.destination t).len_range) k.dest_kept in
    let b = part_length h.source h.snet h.slen h.sadr (λ t. (r.origin t).len_range) k.source_kept in
    rw (length-append, a, b)

pub tail_length : (h : Npdu) → length (tail_octets h) ≡ tail_size h
unfolding tail_octets tail_size
tail_length h = rw (length-append, hop_length, message_length)

pub head_length : (h : Npdu) → Ruled h → Kept h → length (encode h) ≡ size_of h
unfolding encode size_of
head_length h r k = let a = parts_length h r k in let b = tail_length h in simp length-append (omega (arith, a, b))

-- a number of two octets, as the library lays it and as a layout says it
pub two_octets : (n : ℕ) → n < 65536 → n / 256 % 256 ∷ n % 256 ∷ [] ≡ n / 256 ∷ n % 256 ∷ []
two_octets n h = let e : n / 256 % 256 ≡ n / 256 = omega arith in rw e
