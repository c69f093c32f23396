-- Which APDU headers are good, apart from any reading: the rules of their fields, and what may follow them.
use Rattle.std.specs.Prelude.{ℕ, ◌≤◌, ◌≡◌, true, false, List, []}
use Rattle.apdu.specs.declared.Edition.{Edition}
use Rattle.apdu.specs.declared.Segment.{Segment}
use Rattle.apdu.specs.declared.Pdu.{Pdu}
use Rattle.apdu.specs.declared.Pdu.TheVariants.{Request, Unconfirmed, SimpleAck, ComplexAck, SegmentAck, Error, Reject, Abort}
use Rattle.apdu.specs.Editions.{most}
use Rattle.apdu.specs.Layout.{Apdu, encode}

-- "windows are 1 to 127"
abbrev pub Window : ℕ → Type 0
Window w = (1 ≤ w) × (w ≤ 127)

-- "MOR needs SEG; windows are 1 to 127", "fields of an absent part are read as 0"
pub record SegmentRules (g : Segment) : Type 0 where
  pub more : g.mor ≡ true → g.seg ≡ true
  pub window : g.seg ≡ true → Window g.window
  pub absent : g.seg ≡ false → (g.number ≡ 0) × (g.window ≡ 0)

-- "the size code 0 to 5"
abbrev pub Size : ℕ → Type 0
Size x = x ≤ 5

-- the code of segments accepted, 0 to the edition's greatest
abbrev pub Code : Edition → ℕ → Type 0
Code e x = x ≤ most e

-- The rules of each kind: those of the code and the size code, of segments and windows.
abbrev pub Rules : Edition → Pdu → Type 0
Rules e (Request p) = Code e p.accepts × Size p.size × SegmentRules p.segment
Rules e (Unconfirmed p) = Unit {0}
Rules e (SimpleAck p) = Unit {0}
Rules e (ComplexAck p) = SegmentRules p.segment
Rules e (SegmentAck p) = Window p.window
Rules e (Error p) = Unit {0}
Rules e (Reject p) = Unit {0}
Rules e (Abort p) = Unit {0}

-- What may follow the header: parameters, or for types 2, 4, 6 and 7 nothing.
abbrev pub Follows : Pdu → List ℕ → Type 0
Follows (Request p) t = Unit {0}
Follows (Unconfirmed p) t = Unit {0}
Follows (SimpleAck p) t = t ≡ []
Follows (ComplexAck p) t = Unit {0}
Follows (SegmentAck p) t = t ≡ []
Follows (Error p) t = Unit {0}
Follows (Reject p) t = t ≡ []
Follows (Abort p) t = t ≡ []

abbrev pub Valid : Edition → Apdu → Type 0
Valid e a = Rules e a.pdu × Follows a.pdu a.parameters

-- Octets are accepted where they are the header of a good APDU with its parameters after it.
abbrev pub Accepted : Edition → List ℕ → Type 0
Accepted e s = (a : Apdu) × Valid e a × (s ≡ encode a)
