-- A header's source and its destination as values: which part gives which, when two are the same, and the test "a header that keeps the rules gives it".
use Rattle.std.specs.Prelude.{ℕ, ◌<◌, Bool, true, false, List, [], ◌∷◌, ◌≡◌, eqb, length}
use Rattle.octets.specs.Choice.{pick, given}
use Rattle.octets.specs.Reading.{Octets}
use Rattle.npdu.specs.Fault.{part_fault}
use Rattle.npdu.specs.Layout.{zeros, cut}
use Rattle.npdu.specs.Valid.{HeaderFits, Valid}
use Rattle.npdu.specs.declared.Address.{Address}
use Rattle.npdu.specs.declared.Npdu.{Npdu}

-- no address: "Fields of an absent part .. are read as 0"
unfoldable pub absent : Address
absent = record { present = false; network = 0; length = 0; octets = zeros 7 }

-- "Then, each if present: DNET (2), DLEN, DADR; SNET (2), SLEN, SADR"
unfoldable pub part_address : Bool → ℕ → ℕ → List ℕ → Address
part_address here net len adr = given here (record { present = true; network = net; length = len; octets = adr }) absent

unfoldable pub source_of : Npdu → Address
source_of h = part_address h.source h.snet h.slen h.sadr

unfoldable pub destination_of : Npdu → Address
destination_of h = part_address h.dest h.dnet h.dlen h.dadr

-- ---- the same address: field by field, and none is the same as none alone
unfoldable pub same_octets : List ℕ → List ℕ → Bool
same_octets [] [] = true
same_octets [] (y ∷ ys) = false
same_octets (x ∷ xs) [] = false
same_octets (x ∷ xs) (y ∷ ys) = pick (eqb x y) (same_octets xs ys) false

unfoldable pub same_fields : Address → Address → Bool
same_fields a b =
    pick (eqb a.network b.network)
    (pick (eqb a.length b.length) (same_octets a.octets b.octets) false)
    false

unfoldable pub same_address : Address → Address → Bool
same_address a b = given a.present (given b.present (same_fields a b) false) (given b.present false (same_fields a b))

-- ---- "a header that keeps the rules gives it"

-- "Fields of an absent part, and address octets past the length, .. are read as 0"
unfoldable pub shown_address : Address → Address
shown_address a = part_address a.present a.network a.length (cut a.length a.octets)

unfoldable pub settled : Address → Bool
settled a = given a.present (same_octets (cut a.length a.octets) a.octets) (same_address absent a)

-- a part with this least length and this greatest network number gives it: it keeps the part's rules and is as a reading shows it
unfoldable pub gives : ℕ → ℕ → Address → Bool
gives low top a = pick (eqb (part_fault a.present a.network a.length low top) 0) (settled a) false

-- "SNET 1 to 65534", "SLEN 1 to 7"
unfoldable pub gives_source : Address → Bool
gives_source a = gives 1 65534 a

-- "DNET is 1 to 65535", "DLEN 0 to 7"
unfoldable pub gives_destination : Address → Bool
gives_destination a = gives 0 65535 a

-- ---- what the tests mean

-- the fields fit their octets, as their types say
pub record AddressFits (a : Address) : Type 0 where
  pub network_fits : a.network < 65536
  pub length_fits : a.length < 256
  pub octets_fit : Octets a.octets
  pub seven : length a.octets ≡ 7

-- a header that keeps the rules, its fields in their octets, of which this is the address
pub record Giver (address_of : Npdu → Address) (a : Address) : Type 0 where
  pub head : Npdu
  pub valid : Valid head
  pub fits : HeaderFits head
  pub address : address_of head ≡ a
