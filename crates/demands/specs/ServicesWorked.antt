-- The six services worked out, read and written: octets by hand from document 01's layouts, every field spelled, no two fields of a service with one value.
use Rattle.std.specs.Prelude.{ℕ, ◌≡◌, true, false, List, [], ◌∷◌, ◌++◌, Ok}
use Rattle.services.specs.Reading.{read_service}
use Rattle.services.specs.declared.Service.{Service}
use Rattle.services.specs.declared.Service.TheVariants.{ReadProperty, ReadPropertyAck, WriteProperty, WhoIs, IAm, Error}
use Rattle.services.specs.declared.Target.{Target}
use Rattle.service_writer.specs.Layout.{octets_of}
use Rattle.service_writer.specs.Fault.{fault_of}

-- octets are read, for a kind of PDU and a choice, as this service, and written of it with these octets as its value
pub record BothWays (kind choice : ℕ) (o : List ℕ) (v : Service) (value : List ℕ) : Type 0 where
  pub read : read_service kind choice o ≡ Ok v
  pub fine : fault_of v value ≡ 0
  pub written : octets_of v value ≡ o

-- "context 0 object (10-bit type, 22-bit instance), 1 property, optional 2 index": type 5 and instance 030405 are 0000000101 0000110000010000000101, `01 43 04 05`
abbrev pub pointed : List ℕ
pointed = 0x0C ∷ 0x01 ∷ 0x43 ∷ 0x04 ∷ 0x05 ∷ 0x1A ∷ 0x06 ∷ 0x07 ∷ []

abbrev pub indexed : List ℕ
indexed = pointed ++ (0x29 ∷ 0x08 ∷ [])

abbrev pub target : Target
target = record { object = 5; instance = 0x030405; property = 0x0607; indexed = true; index = 8 }

abbrev pub unindexed : Target
unindexed = record { object = 5; instance = 0x030405; property = 0x0607; indexed = false; index = 0 }

-- unsigned 9, as a value: behind the index and the group's tag it begins at octet 11
abbrev pub nine : List ℕ
nine = 0x21 ∷ 0x09 ∷ []

abbrev pub grouped : List ℕ
grouped = 0x3E ∷ 0x21 ∷ 0x09 ∷ 0x3F ∷ []

pub record ServicesWorked : Type 0 where
  -- "ReadProperty 12, request"; without an index, which is read as 0
  pub read : BothWays 0 12 indexed (ReadProperty target) []
  pub read_unindexed : BothWays 0 12 pointed (ReadProperty unindexed) []
  -- "Its ack adds a group 3, the value, possibly empty."
  pub ack : BothWays 3 12 (indexed ++ grouped) (ReadPropertyAck (record { target = target; value = record { at = 11; len = 2 } })) nine
  pub ack_empty : BothWays 3 12 (pointed ++ (0x3E ∷ 0x3F ∷ [])) (ReadPropertyAck (record { target = unindexed; value = record { at = 9; len = 0 } })) []
  -- "WriteProperty 15: as the ack, with optional context 4 priority 1 to 16."; without one
  pub write : BothWays 0 15 (indexed ++ (grouped ++ (0x49 ∷ 0x0A ∷ [])))
      (WriteProperty (record { target = target; value = record { at = 11; len = 2 }; ranked = true; priority = 10 })) nine
  pub write_unranked : BothWays 0 15 (indexed ++ grouped)
      (WriteProperty (record { target = target; value = record { at = 11; len = 2 }; ranked = false; priority = 0 })) nine
  -- "Who-Is 8: none, or context 0 and 1"
  pub who_is_lem : BothWays 1 8 (0x09 ∷ 0x03 ∷ 0x1A ∷ 0x01 ∷ 0x02 ∷ []) (WhoIs (record { limited = true; low = 3; high = 0x0102 })) []
  pub who_is_all : BothWays 1 8 [] (WhoIs (record { limited = false; low = 0; high = 0 })) []
  -- "I-Am 0: application object of type 8, unsigned, enumerated 0 to 3, unsigned to 65535.": APDUs to 480 octets, no segmentation, vendor 555
  pub i_am_lem : BothWays 1 0 (0xC4 ∷ 0x02 ∷ 0x03 ∷ 0x04 ∷ 0x05 ∷ 0x22 ∷ 0x01 ∷ 0xE0 ∷ 0x91 ∷ 0x03 ∷ 0x22 ∷ 0x02 ∷ 0x2B ∷ [])
      (IAm (record { instance = 0x030405; longest = 480; segmentation = 3; vendor = 555 })) []
  -- "Error for 12 or 15: two application enumerated."
  pub error_read : BothWays 5 12 (0x91 ∷ 0x02 ∷ 0x91 ∷ 0x20 ∷ []) (Error (record { class = 2; code = 32 })) []
  pub error_write : BothWays 5 15 (0x91 ∷ 0x02 ∷ 0x91 ∷ 0x20 ∷ []) (Error (record { class = 2; code = 32 })) []
