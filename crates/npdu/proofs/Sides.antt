-- A header's source and destination as addresses: they have the faults, the sizes and the octets of the parts that they are.
use Prim.Native.Nat.{ℕ, ◌≤◌}
use native.Mathlib.Omega.{arith}
use mathlib.Core.Bool.{Bool, true, false}
use mathlib.Core.List.{List}
use mathlib.Core.Path.{◌≡◌, refl, ◌∙◌}
use borrow.Author.Tests.{le-ltb, ne_eqb}
use Rattle.octets.specs.Choice.{given}
use Rattle.npdu.specs.Address.{absent, part_address, source_of, destination_of}
use Rattle.npdu.specs.Fault.{part_fault, sooner, fault_of}
use Rattle.npdu.specs.Layout.{part_octets}
use Rattle.npdu.specs.Size.{part_size}
use Rattle.npdu.specs.declared.Address.{Address}
use Rattle.npdu.specs.declared.Npdu.{Npdu}
use Rattle.npdu.proofs.Sizes.{fault_none, fault_here}
use Rattle.npdu.proofs.Trips.{rules_fine}

size_same : (here : Bool) (net len : ℕ) (adr : List ℕ) → part_size (part_address here net len adr).present (part_address here net len adr).length ≡ part_size here len
unfolding part_address absent given part_size
size_same true net len adr = refl
size_same false net len adr = refl

fault_same : (here : Bool) (net len : ℕ) (adr : List ℕ) (low top : ℕ)
    → part_fault (part_address here net len adr).present (part_address here net len adr).network (part_address here net len adr).length low top ≡ part_fault here net len low top
unfolding part_address absent given part_fault
fault_same true net len adr low top = refl
fault_same false net len adr low top = refl

octets_same : (here : Bool) (net len : ℕ) (adr : List ℕ)
    → part_octets (part_address here net len adr).present (part_address here net len adr).network (part_address here net len adr).length (part_address here net len adr).octets
    ≡ part_octets here net len adr
unfolding part_address absent given part_octets
octets_same true net len adr = refl
octets_same false net len adr = refl

module _ (a : Address) (h : Npdu) where
  module _ (e : a ≡ destination_of h) where
    pub dest_size : part_size a.present a.length ≡ part_size h.dest h.dlen
    unfolding destination_of
    dest_size = rw e (size_same h.dest h.dnet h.dlen h.dadr)

    pub dest_fault : part_fault a.present a.network a.length 0 65535 ≡ part_fault h.dest h.dnet h.dlen 0 65535
    unfolding destination_of
    dest_fault = rw e (fault_same h.dest h.dnet h.dlen h.dadr 0 65535)

    pub dest_octets : part_octets a.present a.network a.length a.octets ≡ part_octets h.dest h.dnet h.dlen h.dadr
    unfolding destination_of
    dest_octets = rw e (octets_same h.dest h.dnet h.dlen h.dadr)

    pub dest_length : fault_of h ≡ 0 → a.present ≡ true → a.length ≤ 7
    dest_length z t =
        (fault_here a.present a.network a.length 0 65535 (dest_fault ∙ rules_fine h.dest h.dnet h.dlen 0 65535 (fault_none h z).destination) t).len_range

  module _ (e : a ≡ source_of h) where
    pub source_size : part_size a.present a.length ≡ part_size h.source h.slen
    unfolding source_of
    source_size = rw e (size_same h.source h.snet h.slen h.sadr)

    pub source_fault : part_fault a.present a.network a.length 1 65534 ≡ part_fault h.source h.snet h.slen 1 65534
    unfolding source_of
    source_fault = rw e (fault_same h.source h.snet h.slen h.sadr 1 65534)

    pub source_octets : part_octets a.present a.network a.length a.octets ≡ part_octets h.source h.snet h.slen h.sadr
    unfolding source_of
    source_octets = rw e (octets_same h.source h.snet h.slen h.sadr)

    pub source_length : fault_of h ≡ 0 → a.present ≡ true → a.length ≤ 7
    source_length z t =
        (fault_here a.present a.network a.length 1 65534 (source_fault ∙ rules_fine h.source h.snet h.slen 1 65534 (fault_none h z).origin) t).len_range

-- the destination is judged first
module _ (h : Npdu) (low : h.priority ≤ 3) where
  pub first_fault : (x : ℕ) → x ≡ part_fault h.dest h.dnet h.dlen 0 65535 → 1 ≤ x → x ≡ fault_of h
  unfolding fault_of sooner
  first_fault x e s = rw (le-ltb 3 h.priority low, ← e, ne_eqb x 0 (λ z. omega arith))

  pub second_fault : 0 ≡ part_fault h.dest h.dnet h.dlen 0 65535 → part_fault h.source h.snet h.slen 1 65534 ≡ fault_of h
  unfolding fault_of sooner
  second_fault e = rw (le-ltb 3 h.priority low, ← e)
