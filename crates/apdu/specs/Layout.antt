-- What an APDU header is, apart from any reading: its layout (clause 20.1).
use Rattle.std.specs.Prelude.{ℕ, ◌+◌, ◌*◌, Bool, false, List, [], ◌∷◌, ◌++◌}
use Rattle.octets.specs.Choice.{given}
use Rattle.apdu.specs.declared.Segment.{Segment}
use Rattle.apdu.specs.declared.RequestPdu.{RequestPdu}
use Rattle.apdu.specs.declared.Pdu.{Pdu}
use Rattle.apdu.specs.declared.Pdu.TheVariants.{Request, Unconfirmed, SimpleAck, ComplexAck, SegmentAck, Error, Reject, Abort}

-- a segment by its fields
abbrev pub segment : Bool → Bool → ℕ → ℕ → Segment
segment seg mor number window = record { seg = seg; mor = mor; number = number; window = window }

-- a bit as a number
unfoldable pub flag : Bool → ℕ
flag b = given b 1 0

-- "High four bits of the first octet are the type", then bits 3 to 0
unfoldable pub first_octet : ℕ → Bool → Bool → Bool → Bool → ℕ
first_octet kind b3 b2 b1 b0 = kind * 16 + flag b3 * 8 + flag b2 * 4 + flag b1 * 2 + flag b0

-- octet 2 of a confirmed request: "the size code .. keeps bits 3 to 0", the code of segments accepted above it
abbrev pub size_octet : RequestPdu → ℕ
size_octet p = p.accepts * 16 + p.size

-- "if SEG, number and window; choice"
unfoldable pub tail : Segment → ℕ → List ℕ
tail g choice = given g.seg (g.number ∷ g.window ∷ choice ∷ []) (choice ∷ [])

-- The layout of each kind. "Other low bits are zero".
abbrev pub header : Pdu → List ℕ
header (Request p) = first_octet 0 p.segment.seg p.segment.mor p.sa false ∷ size_octet p ∷ p.invoke ∷ tail p.segment p.choice
header (Unconfirmed p) = first_octet 1 false false false false ∷ p.choice ∷ []
header (SimpleAck p) = first_octet 2 false false false false ∷ p.invoke ∷ p.choice ∷ []
header (ComplexAck p) = first_octet 3 p.segment.seg p.segment.mor false false ∷ p.invoke ∷ tail p.segment p.choice
header (SegmentAck p) = first_octet 4 false false p.nak p.srv ∷ p.invoke ∷ p.number ∷ p.window ∷ []
header (Error p) = first_octet 5 false false false false ∷ p.invoke ∷ p.choice ∷ []
header (Reject p) = first_octet 6 false false false false ∷ p.invoke ∷ p.reason ∷ []
header (Abort p) = first_octet 7 false false false p.srv ∷ p.invoke ∷ p.reason ∷ []

-- An APDU: a PDU with its parameters.
pub record Apdu : Type 0 where
  pub pdu : Pdu
  pub parameters : List ℕ

abbrev pub encode : Apdu → List ℕ
encode a = header a.pdu ++ a.parameters
