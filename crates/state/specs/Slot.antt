-- A slot's octets:
--     0        used (0 or 1)
--     1 - 4    the key's first four parts: MS/TP source, MS/TP destination, PDU type, invoke ID
--     5 - 8    next number, service choice, octets held (2, high octet first)
--     9 - 19   the key's network source: present (0 or 1), SNET (2, high octet first), SLEN, SADR (7)
--    20 - 30   its network destination: present, DNET, DLEN, DADR
use Rattle.std.specs.Prelude.{ℕ, ◌+◌, ◌*◌, ◌/◌, ◌%◌, ◌<◌, ◌≡◌, Bool, List, [], ◌∷◌, ◌++◌, leb, length, take, drop}
use Rattle.octets.specs.Choice.{both}
use Rattle.octets.specs.Reading.{oct}
use Rattle.npdu.specs.Address.{AddressFits}
use Rattle.npdu.specs.declared.Address.{Address}
use Rattle.records.specs.Flag.{flag, flag_at}
use Rattle.rebuild.specs.declared.Slot.{Slot}

-- ---- an address
abbrev pub address_size : ℕ
address_size = 11

-- whether it is there, its network number and its length
abbrev pub number_octets : Address → List ℕ
number_octets a = flag a.present ∷ a.network / 256 ∷ a.network % 256 ∷ a.length ∷ []

unfoldable pub address_octets : Address → List ℕ
address_octets a = number_octets a ++ a.octets

-- the address whose octets begin at a place
unfoldable pub address_at : List ℕ → ℕ → Address
address_at s at =
    record { present = flag_at s at; network = oct s (at + 1) * 256 + oct s (at + 2); length = oct s (at + 3); octets = take 7 (drop (at + 4) s) }

-- ---- a slot
abbrev pub front_size : ℕ
front_size = 9

abbrev pub slot_size : ℕ
slot_size = front_size + address_size * 2

abbrev pub front_octets : Slot → List ℕ
front_octets x =
    flag x.used ∷ x.key.source ∷ x.key.destination ∷ x.key.kind ∷ x.key.invoke ∷ x.next ∷ x.choice ∷ x.held / 256 ∷ x.held % 256 ∷ []

unfoldable pub slot_octets : Slot → List ℕ
slot_octets x = front_octets x ++ (address_octets x.key.from ++ address_octets x.key.to)

-- the values that a slot's types hold
pub record SlotFits (x : Slot) : Type 0 where
  pub source : x.key.source < 256
  pub destination : x.key.destination < 256
  pub kind : x.key.kind < 256
  pub invoke : x.key.invoke < 256
  pub from : AddressFits x.key.from
  pub to : AddressFits x.key.to
  pub next : x.next < 256
  pub choice : x.choice < 256
  pub held : x.held < 65536

-- the sizes that its arrays' types say
pub record SlotShaped (x : Slot) : Type 0 where
  pub from : length x.key.from.octets ≡ 7
  pub to : length x.key.to.octets ≡ 7

-- which octets are no slot's: the first, or whether an address is there, above 1
unfoldable pub slot_good : List ℕ → Bool
slot_good s = both (leb (oct s 0) 1) (both (leb (oct s 9) 1) (leb (oct s 20) 1))

-- the slot that the octets are
unfoldable pub slot_of : List ℕ → Slot
slot_of s =
    record {
      used = flag_at s 0;
      key = record { source = oct s 1; destination = oct s 2; kind = oct s 3; invoke = oct s 4; from = address_at s 9; to = address_at s 20 };
      next = oct s 5;
      choice = oct s 6;
      held = oct s 7 * 256 + oct s 8;
    }
