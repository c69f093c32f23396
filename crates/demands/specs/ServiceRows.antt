-- The services' rows, 40 to 43, each "given exactly when", in document 01's words over the parts that a layout wants (services/specs/Rows), not over the
-- reading that follows the code; and octets on either side of every rule of every service, worked out by hand from the page.
use Rattle.std.specs.Prelude.{ℕ, ◌≡◌, ◌↔◌, ◌⊎◌, List, [], ◌∷◌, ◌++◌, Ok, Err}
use Rattle.octets.specs.Reading.{Octets}
use Rattle.tags.specs.Layout.{Thing}
use Rattle.items.specs.Grammar.{encode_all, Grammar, Reads}
use Rattle.services.specs.Reading.{read_service}
use Rattle.services.specs.Layout.{Message, things_of_message}
use Rattle.services.specs.Shows.{ValidFor}
use Rattle.services.specs.Rows.{Given}
use Rattle.services.specs.declared.Service.{Service}
use Rattle.demands.specs.Words.{One}

-- ---- "No. | Given exactly when": octets that are these items are refused, for a kind of PDU and a choice, with a number exactly when the row of that number
-- says so: 43 where the kind and choice have no layout, else the offence (40, 41, 42) of the item behind a front of parts that is good so far.
-- Octets that are no items get their tag's number before (ServiceNumbers).
abbrev pub ServiceRows : Type 0
ServiceRows = (kind choice : ℕ) (o : List ℕ) → Octets o → (ts : List Thing) → Reads o ts → (x : ℕ) → (read_service kind choice o ≡ Err x) ↔ Given x kind choice ts

-- ---- items are, for a kind and choice, exactly one thing: a message that keeps the rules (0), or what one row says. The reading is not named here.
abbrev pub ServiceVerdict : ℕ → ℕ → List Thing → ℕ → Type 0
ServiceVerdict kind choice ts x = ((x ≡ 0) × ((m : Message) × ValidFor kind choice m × (ts ≡ things_of_message m))) ⊎ Given x kind choice ts

abbrev pub ServicesOneRow : Type 0
ServicesOneRow = (kind choice : ℕ) (ts : List Thing) → Grammar ts → Octets (encode_all ts) → One ℕ (ServiceVerdict kind choice ts)

-- ---- worked out
abbrev pub Refuses : ℕ → ℕ → List ℕ → ℕ → Type 0
Refuses kind choice o x = read_service kind choice o ≡ Err x

abbrev pub Accepts : ℕ → ℕ → List ℕ → Type 0
Accepts kind choice o = (v : Service) × (read_service kind choice o ≡ Ok v)

-- analog input 5, property 85, index 3; an empty value
abbrev pub object : List ℕ
object = 0x0C ∷ 0x00 ∷ 0x00 ∷ 0x00 ∷ 0x05 ∷ []

-- the last object: type 1023, instance 4194303
abbrev pub last_object : List ℕ
last_object = 0x0C ∷ 0xFF ∷ 0xFF ∷ 0xFF ∷ 0xFF ∷ []

abbrev pub target : List ℕ
target = object ++ (0x19 ∷ 0x55 ∷ [])

abbrev pub indexed : List ℕ
indexed = target ++ (0x29 ∷ 0x03 ∷ [])

abbrev pub valued : List ℕ
valued = target ++ (0x3E ∷ 0x3F ∷ [])

-- device 3, APDUs to 480 octets, no segmentation
abbrev pub device : List ℕ
device = 0xC4 ∷ 0x02 ∷ 0x00 ∷ 0x00 ∷ 0x03 ∷ []

abbrev pub longest : List ℕ
longest = device ++ (0x22 ∷ 0x01 ∷ 0xE0 ∷ [])

abbrev pub segmented : List ℕ
segmented = longest ++ (0x91 ∷ 0x03 ∷ [])

-- "context 0 object (10-bit type, 22-bit instance), 1 property, optional 2 index": the same of ReadProperty, its ack and WriteProperty, before what each adds
pub record TargetRefused (kind choice : ℕ) : Type 0 where
  -- 40: no item; number 1; an application object; a group 0
  pub object_40 : Refuses kind choice [] 40 × Refuses kind choice (0x19 ∷ 0x55 ∷ []) 40 × Refuses kind choice (0xC4 ∷ 0x00 ∷ 0x00 ∷ 0x00 ∷ 0x05 ∷ []) 40
      × Refuses kind choice (0x0E ∷ 0x0F ∷ []) 40
  -- 41: none, three and five octets, whatever follows
  pub object_41 : Refuses kind choice (0x08 ∷ []) 41 × Refuses kind choice (0x0B ∷ 0x00 ∷ 0x00 ∷ 0x05 ∷ []) 41
      × Refuses kind choice (0x0D ∷ 0x05 ∷ 0x00 ∷ 0x00 ∷ 0x00 ∷ 0x00 ∷ 0x05 ∷ 0x19 ∷ 0x55 ∷ []) 41
  -- 40: no item; number 0 again; number 2, the index; an application unsigned; a group 1
  pub property_40 : Refuses kind choice object 40 × Refuses kind choice (object ++ object) 40 × Refuses kind choice (object ++ (0x29 ∷ 0x03 ∷ [])) 40
      × Refuses kind choice (object ++ (0x21 ∷ 0x55 ∷ [])) 40 × Refuses kind choice (object ++ (0x1E ∷ 0x1F ∷ [])) 40
  -- 41: no octet; five; a longer form than needed
  pub property_41 : Refuses kind choice (object ++ (0x18 ∷ [])) 41 × Refuses kind choice (object ++ (0x1D ∷ 0x05 ∷ 0x01 ∷ 0x00 ∷ 0x00 ∷ 0x00 ∷ 0x00 ∷ [])) 41
      × Refuses kind choice (object ++ (0x1A ∷ 0x00 ∷ 0x55 ∷ [])) 41
  -- 41: the same of the index
  pub index_41 : Refuses kind choice (target ++ (0x28 ∷ [])) 41 × Refuses kind choice (target ++ (0x2D ∷ 0x05 ∷ 0x01 ∷ 0x00 ∷ 0x00 ∷ 0x00 ∷ 0x00 ∷ [])) 41
      × Refuses kind choice (target ++ (0x2A ∷ 0x00 ∷ 0x03 ∷ [])) 41

-- "a group 3, the value, possibly empty": of the ack and of WriteProperty
pub record ValueRefused (kind choice : ℕ) : Type 0 where
  pub empty : Accepts kind choice valued × Accepts kind choice (indexed ++ (0x3E ∷ 0x3F ∷ [])) × Accepts kind choice (target ++ (0x3E ∷ 0x21 ∷ 0x05 ∷ 0x3F ∷ []))
      × Accepts kind choice (last_object ++ (0x19 ∷ 0x55 ∷ 0x3E ∷ 0x3F ∷ []))
  -- 40: no item, without an index and with one; the index again; a context item of number 3; a group 4; a group 2, which is no index
  pub value_40 : Refuses kind choice target 40 × Refuses kind choice indexed 40 × Refuses kind choice (indexed ++ (0x29 ∷ 0x03 ∷ [])) 40
      × Refuses kind choice (target ++ (0x39 ∷ 0x05 ∷ [])) 40 × Refuses kind choice (target ++ (0x4E ∷ 0x4F ∷ [])) 40 × Refuses kind choice (target ++ (0x2E ∷ 0x2F ∷ [])) 40
  -- 42: a second value
  pub value_42 : Refuses kind choice (valued ++ (0x3E ∷ 0x3F ∷ [])) 42

pub record ServicesRefused : Type 0 where
  -- ---- "ReadProperty 12, request"
  pub property_target : TargetRefused 0 12
  pub property_good : Accepts 0 12 target × Accepts 0 12 indexed × Accepts 0 12 (object ++ (0x19 ∷ 0x00 ∷ [])) × Accepts 0 12 (object ++ (0x1C ∷ 0xFF ∷ 0xFF ∷ 0xFF ∷ 0xFF ∷ []))
      × Accepts 0 12 (target ++ (0x2C ∷ 0xFF ∷ 0xFF ∷ 0xFF ∷ 0xFF ∷ [])) × Accepts 0 12 (last_object ++ (0x19 ∷ 0x55 ∷ []))
  -- 42: a number 3 and a group 2, so that the index is absent; an item after the index; a value
  pub property_42 : Refuses 0 12 (target ++ (0x39 ∷ 0x03 ∷ [])) 42 × Refuses 0 12 (target ++ (0x2E ∷ 0x2F ∷ [])) 42 × Refuses 0 12 (indexed ++ (0x29 ∷ 0x03 ∷ [])) 42
      × Refuses 0 12 valued 42
  -- ---- "Its ack adds a group 3, the value, possibly empty."
  pub ack_target : TargetRefused 3 12
  pub ack_value : ValueRefused 3 12
  -- 42: a priority
  pub ack_42 : Refuses 3 12 (valued ++ (0x49 ∷ 0x08 ∷ [])) 42
  -- ---- "WriteProperty 15: as the ack, with optional context 4 priority 1 to 16."
  pub write_target : TargetRefused 0 15
  pub write_value : ValueRefused 0 15
  -- 1 and 16; 0 and 17; no octet; a longer form; five octets
  pub priority_good : Accepts 0 15 (valued ++ (0x49 ∷ 0x01 ∷ [])) × Accepts 0 15 (valued ++ (0x49 ∷ 0x10 ∷ []))
  pub priority_41 : Refuses 0 15 (valued ++ (0x49 ∷ 0x00 ∷ [])) 41 × Refuses 0 15 (valued ++ (0x49 ∷ 0x11 ∷ [])) 41 × Refuses 0 15 (valued ++ (0x48 ∷ [])) 41
      × Refuses 0 15 (valued ++ (0x4A ∷ 0x00 ∷ 0x08 ∷ [])) 41 × Refuses 0 15 (valued ++ (0x4D ∷ 0x05 ∷ 0x01 ∷ 0x00 ∷ 0x00 ∷ 0x00 ∷ 0x00 ∷ [])) 41
  -- 42: a number 5 and a group 4, so that the priority is absent; an item after it
  pub write_42 : Refuses 0 15 (valued ++ (0x59 ∷ 0x08 ∷ [])) 42 × Refuses 0 15 (valued ++ (0x4E ∷ 0x4F ∷ [])) 42 × Refuses 0 15 (valued ++ (0x49 ∷ 0x08 ∷ 0x49 ∷ 0x08 ∷ [])) 42
  -- ---- "Who-Is 8: none, or context 0 and 1, both 0 to 4194303, low not above high"
  pub limits_good : Accepts 1 8 [] × Accepts 1 8 (0x09 ∷ 0x03 ∷ 0x19 ∷ 0x03 ∷ []) × Accepts 1 8 (0x09 ∷ 0x00 ∷ 0x1B ∷ 0x3F ∷ 0xFF ∷ 0xFF ∷ [])
      × Accepts 1 8 (0x0B ∷ 0x3F ∷ 0xFF ∷ 0xFF ∷ 0x1B ∷ 0x3F ∷ 0xFF ∷ 0xFF ∷ [])
  -- 42: only a high limit; an application unsigned; a group 0: the limits are absent
  pub limits_42 : Refuses 1 8 (0x19 ∷ 0x03 ∷ []) 42 × Refuses 1 8 (0x21 ∷ 0x03 ∷ []) 42 × Refuses 1 8 (0x0E ∷ 0x0F ∷ []) 42
  -- 41: no octet, 4194304, a longer form and five octets, before a missing high limit
  pub low_41 : Refuses 1 8 (0x08 ∷ []) 41 × Refuses 1 8 (0x0B ∷ 0x40 ∷ 0x00 ∷ 0x00 ∷ []) 41 × Refuses 1 8 (0x0A ∷ 0x00 ∷ 0x03 ∷ []) 41
      × Refuses 1 8 (0x0D ∷ 0x05 ∷ 0x01 ∷ 0x00 ∷ 0x00 ∷ 0x00 ∷ 0x00 ∷ []) 41
  -- 40: no item; a second low limit; a number 2; a group 1
  pub high_40 : Refuses 1 8 (0x09 ∷ 0x03 ∷ []) 40 × Refuses 1 8 (0x09 ∷ 0x03 ∷ 0x09 ∷ 0x03 ∷ []) 40 × Refuses 1 8 (0x09 ∷ 0x03 ∷ 0x29 ∷ 0x03 ∷ []) 40
      × Refuses 1 8 (0x09 ∷ 0x03 ∷ 0x1E ∷ 0x1F ∷ []) 40
  -- 41: "low above high is judged at high"; 4194304; no octet; a longer form; five octets
  pub high_41 : Refuses 1 8 (0x09 ∷ 0x04 ∷ 0x19 ∷ 0x03 ∷ []) 41 × Refuses 1 8 (0x09 ∷ 0x03 ∷ 0x1B ∷ 0x40 ∷ 0x00 ∷ 0x00 ∷ []) 41 × Refuses 1 8 (0x09 ∷ 0x03 ∷ 0x18 ∷ []) 41
      × Refuses 1 8 (0x09 ∷ 0x03 ∷ 0x1A ∷ 0x00 ∷ 0x03 ∷ []) 41 × Refuses 1 8 (0x09 ∷ 0x03 ∷ 0x1D ∷ 0x05 ∷ 0x01 ∷ 0x00 ∷ 0x00 ∷ 0x00 ∷ 0x00 ∷ []) 41
  -- 42: an item after the high limit
  pub high_42 : Refuses 1 8 (0x09 ∷ 0x03 ∷ 0x19 ∷ 0x03 ∷ 0x29 ∷ 0x03 ∷ []) 42
  -- ---- "I-Am 0: application object of type 8, unsigned, enumerated 0 to 3, unsigned to 65535."
  pub am_good : Accepts 1 0 (segmented ++ (0x22 ∷ 0xFF ∷ 0xFF ∷ [])) × Accepts 1 0 (longest ++ (0x91 ∷ 0x00 ∷ 0x21 ∷ 0x00 ∷ []))
      × Accepts 1 0 (0xC4 ∷ 0x02 ∷ 0x3F ∷ 0xFF ∷ 0xFF ∷ 0x24 ∷ 0xFF ∷ 0xFF ∷ 0xFF ∷ 0xFF ∷ 0x91 ∷ 0x00 ∷ 0x21 ∷ 0x00 ∷ [])
  -- 40: no item; a context object; an unsigned
  pub device_40 : Refuses 1 0 [] 40 × Refuses 1 0 (0x0C ∷ 0x02 ∷ 0x00 ∷ 0x00 ∷ 0x03 ∷ []) 40 × Refuses 1 0 (0x21 ∷ 0x03 ∷ []) 40
  -- 41: objects of type 0, 7 and 9
  pub device_41 : Refuses 1 0 (0xC4 ∷ 0x00 ∷ 0x00 ∷ 0x00 ∷ 0x03 ∷ []) 41 × Refuses 1 0 (0xC4 ∷ 0x01 ∷ 0xFF ∷ 0xFF ∷ 0xFF ∷ []) 41
      × Refuses 1 0 (0xC4 ∷ 0x02 ∷ 0x40 ∷ 0x00 ∷ 0x00 ∷ []) 41
  -- 40: no item; an enumerated; a context item of number 2. A longer form is its tag's 34: no 41 is left
  pub longest_40 : Refuses 1 0 device 40 × Refuses 1 0 (device ++ (0x91 ∷ 0x03 ∷ [])) 40 × Refuses 1 0 (device ++ (0x29 ∷ 0x03 ∷ [])) 40
      × Refuses 1 0 (device ++ (0x22 ∷ 0x00 ∷ 0x03 ∷ [])) 34
  -- 40: no item; an unsigned
  pub segmentation_40 : Refuses 1 0 longest 40 × Refuses 1 0 (longest ++ (0x21 ∷ 0x03 ∷ [])) 40
  -- 41: 4, and 256
  pub segmentation_41 : Refuses 1 0 (longest ++ (0x91 ∷ 0x04 ∷ [])) 41 × Refuses 1 0 (longest ++ (0x92 ∷ 0x01 ∷ 0x00 ∷ [])) 41
  -- 40: no item; an enumerated
  pub vendor_40 : Refuses 1 0 segmented 40 × Refuses 1 0 (segmented ++ (0x91 ∷ 0x03 ∷ [])) 40
  -- 41: 65536
  pub vendor_41 : Refuses 1 0 (segmented ++ (0x23 ∷ 0x01 ∷ 0x00 ∷ 0x00 ∷ [])) 41
  -- 42: an item after the vendor
  pub am_42 : Refuses 1 0 (segmented ++ (0x21 ∷ 0x05 ∷ 0x21 ∷ 0x05 ∷ [])) 42
  -- ---- "Error for 12 or 15: two application enumerated.": any numbers, so that no 41 is left
  pub error_good : Accepts 5 12 (0x91 ∷ 0x02 ∷ 0x91 ∷ 0x20 ∷ []) × Accepts 5 15 (0x91 ∷ 0x00 ∷ 0x94 ∷ 0xFF ∷ 0xFF ∷ 0xFF ∷ 0xFF ∷ [])
  pub class_40 : Refuses 5 12 [] 40 × Refuses 5 12 (0x21 ∷ 0x02 ∷ []) 40 × Refuses 5 15 (0x99 ∷ 0x02 ∷ []) 40
  pub code_40 : Refuses 5 12 (0x91 ∷ 0x02 ∷ []) 40 × Refuses 5 12 (0x91 ∷ 0x02 ∷ 0x21 ∷ 0x20 ∷ []) 40 × Refuses 5 15 (0x91 ∷ 0x02 ∷ 0x99 ∷ 0x20 ∷ []) 40
  pub error_42 : Refuses 5 12 (0x91 ∷ 0x02 ∷ 0x91 ∷ 0x20 ∷ 0x91 ∷ 0x00 ∷ []) 42 × Refuses 5 15 (0x91 ∷ 0x02 ∷ 0x91 ∷ 0x20 ∷ 0x0E ∷ 0x0F ∷ []) 42
  -- ---- 43: "choice not above for that PDU", whatever the items are; tag numbers come before it
  pub no_choice : Refuses 0 8 [] 43 × Refuses 0 14 target 43 × Refuses 1 12 target 43 × Refuses 1 15 valued 43 × Refuses 2 15 [] 43 × Refuses 3 15 valued 43 × Refuses 3 0 [] 43
      × Refuses 5 8 [] 43 × Refuses 6 12 [] 43 × Refuses 0 14 (0x3E ∷ []) 36
