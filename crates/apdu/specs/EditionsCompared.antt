-- The two editions side by side: they differ in bits 6 to 4 of a confirmed request's second octet, and nowhere else.
use Rattle.std.specs.Prelude.{ℕ, ◌/◌, ◌<◌, ◌≡◌, ◌↔◌, ◌⊎◌, List, length, Ok, Err}
use Rattle.octets.specs.Reading.{oct}
use Rattle.apdu.specs.declared.Edition.{Edition}
use Rattle.apdu.specs.declared.Edition.TheVariants.{First, Later}
use Rattle.apdu.specs.declared.Pdu.{Pdu}
use Rattle.apdu.specs.Editions.{most, code_of}
use Rattle.apdu.specs.Reading.{read_apdu}
use Rattle.apdu.specs.Fault.{fault_of}
use Rattle.apdu.specs.Rows.{Bit, UpperZero}

-- a confirmed request with its second octet, and that one's upper four bits not all zero
pub record UpperSet (s : List ℕ) : Type 0 where
  pub second : 1 < length s
  pub request : oct s 0 / 16 ≡ 0
  pub set : 0 < oct s 1 / 16

-- "Under the 1995 edition refusal 22 for those bits remains"
pub record ReadingsCompared : Type 0 where
  -- of any octets 1995 says 22 where those bits are set, and else what the later edition says
  pub set : (s : List ℕ) → UpperSet s → read_apdu First s ≡ Err 22
  pub clear : (s : List ℕ) → (UpperSet s → ⊥) → read_apdu First s ≡ read_apdu Later s
  -- what 1995 accepts, the later edition accepts as the same PDU, and its code is 0
  pub accepted : (s : List ℕ) (p : Pdu) → read_apdu First s ≡ Ok p → (read_apdu Later s ≡ Ok p) × (code_of p ≡ 0)
  -- what the later edition accepts, 1995 accepts alike where the code is 0, and refuses with 22 where it is not
  pub plain : (s : List ℕ) (p : Pdu) → read_apdu Later s ≡ Ok p → code_of p ≡ 0 → read_apdu First s ≡ Ok p
  pub coded : (s : List ℕ) (p : Pdu) → read_apdu Later s ≡ Ok p → 0 < code_of p → read_apdu First s ≡ Err 22
  -- what the later edition refuses, 1995 refuses with the same number, or with 22 where those bits are set
  pub refused : (s : List ℕ) (n : ℕ) → read_apdu Later s ≡ Err n → (read_apdu First s ≡ Err n) ⊎ (UpperSet s × (read_apdu First s ≡ Err 22))

-- the writer's numbers alike
pub record FaultsCompared : Type 0 where
  -- 1995 says 22 of a code that is not 0, and else what the later edition says
  pub coded : (p : Pdu) → 0 < code_of p → fault_of First p ≡ 22
  pub plain : (p : Pdu) → code_of p ≡ 0 → fault_of First p ≡ fault_of Later p
  -- what 1995 writes, the later edition writes, and its code is 0
  pub none : (p : Pdu) → fault_of First p ≡ 0 → (fault_of Later p ≡ 0) × (code_of p ≡ 0)

-- the upper four bits of an octet are above the edition's greatest code exactly where one of its zero bits is set
abbrev pub UpperBits : Type 0
UpperBits = (e : Edition) (x : ℕ) → x < 256 → (most e < x / 16) ↔ ((i : ℕ) × UpperZero e i × Bit x i)
