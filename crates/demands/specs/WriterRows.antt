-- The number that the service writer gives, each "given exactly when", by cases over the six services with the page's own numbers.
use Rattle.std.specs.Prelude.{ℕ, ◌<◌, ◌≡◌, ◌↔◌, ◌⊎◌, List, Ok, Err}
use Rattle.services.specs.Reading.{read_service}
use Rattle.services.specs.Parts.{Answer}
use Rattle.services.specs.declared.Service.{Service}
use Rattle.services.specs.declared.Service.TheVariants.{ReadProperty, ReadPropertyAck, WriteProperty, WhoIs, IAm, Error}
use Rattle.services.specs.declared.Target.{Target}
use Rattle.service_writer.specs.Layout.{kind_of, choice_of, octets_of}
use Rattle.service_writer.specs.Fault.{fault_of}

-- "object (10-bit type, 22-bit instance)": a field too wide for its layout
abbrev pub WideTarget : Target → Type 0
WideTarget t = (1023 < t.object) ⊎ (4194303 < t.instance)

-- every other field has a layout for all that it holds; whether it is in range is what the reading says
abbrev pub TooWide : Service → Type 0
TooWide (ReadProperty t) = WideTarget t
TooWide (ReadPropertyAck a) = WideTarget a.target
TooWide (WriteProperty w) = WideTarget w.target
TooWide (WhoIs w) = ⊥
TooWide (IAm i) = 4194303 < i.instance
TooWide (Error f) = ⊥

-- the number that a reading gives: its refusal's, 0 where it accepts
abbrev pub Gives : Answer → ℕ → Type 0
Gives a x = (a ≡ Err x) ⊎ ((x ≡ 0) × ((v : Service) × (a ≡ Ok v)))

-- octets read as the service that they were written for: "ReadProperty 12, request", "Its ack", "WriteProperty 15", "Who-Is 8", "I-Am 0", "Error for 12 or 15"
abbrev pub ReadingGives : Service → List ℕ → ℕ → Type 0
ReadingGives (ReadProperty t) o x = Gives (read_service 0 12 o) x
ReadingGives (ReadPropertyAck a) o x = Gives (read_service 3 12 o) x
ReadingGives (WriteProperty w) o x = Gives (read_service 0 15 o) x
ReadingGives (WhoIs w) o x = Gives (read_service 1 8 o) x
ReadingGives (IAm i) o x = Gives (read_service 1 0 o) x
ReadingGives (Error f) o x = Gives (read_service 5 12 o) x × Gives (read_service 5 15 o) x

-- "Service writers take a value as octets and give 41 for a field too wide for its layout, else the number that reading their output would give."
abbrev pub ServiceWriterRows : Type 0
ServiceWriterRows = (v : Service) (value : List ℕ) (x : ℕ)
    → (fault_of v value ≡ x) ↔ (((x ≡ 41) × TooWide v) ⊎ ((TooWide v → ⊥) × ReadingGives v (octets_of v value) x))

-- the kind of PDU and the choice for which an output is read back in ServicesReadBack: Error's are written as for 12
abbrev pub Named : Service → ℕ → ℕ → Type 0
Named (ReadProperty t) kind choice = (kind ≡ 0) × (choice ≡ 12)
Named (ReadPropertyAck a) kind choice = (kind ≡ 3) × (choice ≡ 12)
Named (WriteProperty w) kind choice = (kind ≡ 0) × (choice ≡ 15)
Named (WhoIs w) kind choice = (kind ≡ 1) × (choice ≡ 8)
Named (IAm i) kind choice = (kind ≡ 1) × (choice ≡ 0)
Named (Error f) kind choice = (kind ≡ 5) × (choice ≡ 12)

abbrev pub ServiceKinds : Type 0
ServiceKinds = (v : Service) → Named v (kind_of v) (choice_of v)
