-- Rows 20 to 24 in the page's own words: what the octets have to be, by layouts and acceptance alone, apart from any reading.
use Rattle.std.specs.Prelude.{ℕ, ◌/◌, ◌%◌, ◌^◌, ◌≤◌, ◌<◌, ◌≡◌, ◌⊎◌, true, false, List, ◌∷◌, ◌++◌, length}
use Rattle.octets.specs.Reading.{oct, Octets}
use Rattle.apdu.specs.declared.Edition.{Edition}
use Rattle.apdu.specs.declared.Edition.TheVariants.{First, Later}
use Rattle.apdu.specs.declared.Pdu.{Pdu}
use Rattle.apdu.specs.declared.Pdu.TheVariants.{Request, Unconfirmed, SimpleAck, ComplexAck, SegmentAck, Error, Reject, Abort}
use Rattle.apdu.specs.Editions.{most, code_of}
use Rattle.apdu.specs.Fields.{segment_of}
use Rattle.apdu.specs.Layout.{header}
use Rattle.apdu.specs.Valid.{Rules, Accepted}

-- bit i of an octet is set
abbrev pub Bit : ℕ → ℕ → Type 0
Bit x i = x / 2 ^ i % 2 ≡ 1

-- "Other low bits are zero": of bits 3 to 0, those that the layout of the type, 0 to 7, does not name
pub data ZeroBit : ℕ → ℕ → Type 0 where
  request : ZeroBit 0 0
  unconfirmed : {i : ℕ} → i ≤ 3 → ZeroBit 1 i
  simple_ack : {i : ℕ} → i ≤ 3 → ZeroBit 2 i
  complex_ack : {i : ℕ} → i ≤ 1 → ZeroBit 3 i
  segment_ack : {i : ℕ} → 2 ≤ i → i ≤ 3 → ZeroBit 4 i
  error : {i : ℕ} → i ≤ 3 → ZeroBit 5 i
  reject : {i : ℕ} → i ≤ 3 → ZeroBit 6 i
  abort : {i : ℕ} → 1 ≤ i → i ≤ 3 → ZeroBit 7 i

-- a first octet with "zero bit set or MOR without SEG": bits 3 SEG, 2 MOR, of types 0 and 3
pub data BadFirst (x : ℕ) : Type 0 where
  zero_bit : {i : ℕ} → ZeroBit (x / 16) i → Bit x i → BadFirst x
  lone_more : (x / 16 ≡ 0) ⊎ (x / 16 ≡ 3) → Bit x 2 → (Bit x 3 → ⊥) → BadFirst x

-- 20 "ends early": not accepted, and some octets more would make it accepted
pub record EndsEarly (e : Edition) (s : List ℕ) : Type 0 where
  pub unfinished : Accepted e s → ⊥
  pub rest : List ℕ
  pub octets : Octets rest
  pub finished : Accepted e (s ++ rest)

-- 21 "type 8-15": "High four bits of the first octet are the type"
pub record HighType (s : List ℕ) : Type 0 where
  pub some : 0 < length s
  pub low : 8 ≤ oct s 0 / 16
  pub high : oct s 0 / 16 ≤ 15

-- the zero bits of octet 2 of a request: "upper four bits zero" in 1995, "Bit 7 stays zero" in the later edition
pub data UpperZero : Edition → ℕ → Type 0 where
  upper : {i : ℕ} → 4 ≤ i → i ≤ 7 → UpperZero First i
  seventh : UpperZero Later 7

-- 22 "zero bit set or MOR without SEG": in the first octet, or in octet 2 of a request, whose upper four bits are above the edition's greatest code
-- exactly where one of its zero bits is set (proofs/EditionsCompared: `upper_bits`)
pub data ZeroBitSet (e : Edition) (s : List ℕ) : Type 0 where
  in_first : 0 < length s → BadFirst (oct s 0) → ZeroBitSet e s
  in_second : 1 < length s → oct s 0 / 16 ≡ 0 → (BadFirst (oct s 0) → ⊥) → most e < oct s 1 / 16 → ZeroBitSet e s

-- the place of a window: "octet 2 the size code 0 to 5 ..; invoke; if SEG, number and window", "invoke; if SEG, number and window", "invoke, number, window"
pub data WindowAt (e : Edition) (s : List ℕ) : ℕ → Type 0 where
  of_request : oct s 0 / 16 ≡ 0 → Bit (oct s 0) 3 → oct s 1 / 16 ≤ most e → oct s 1 % 16 ≤ 5 → WindowAt e s 4
  of_complex_ack : oct s 0 / 16 ≡ 3 → Bit (oct s 0) 3 → WindowAt e s 3
  of_segment_ack : oct s 0 / 16 ≡ 4 → WindowAt e s 3

-- a window against its rule, "1 to 127"
abbrev pub Off : ℕ → Type 0
Off w = (w ≡ 0) ⊎ (127 < w)

-- 23 "size code or window", behind a good first octet: a size code above 5, or a window that is 0 or above 127
pub data SizeOrWindow (e : Edition) (s : List ℕ) : Type 0 where
  of_size : 1 < length s → oct s 0 / 16 ≡ 0 → (BadFirst (oct s 0) → ⊥) → oct s 1 / 16 ≤ most e → 5 < oct s 1 % 16 → SizeOrWindow e s
  of_window : {at : ℕ} → at < length s → WindowAt e s at → (BadFirst (oct s 0) → ⊥) → Off (oct s at) → SizeOrWindow e s

-- the kinds without parameters, types 2, 4, 6 and 7
abbrev pub Alone : Pdu → Type 0
Alone (Request p) = ⊥
Alone (Unconfirmed p) = ⊥
Alone (SimpleAck p) = Unit {0}
Alone (ComplexAck p) = ⊥
Alone (SegmentAck p) = Unit {0}
Alone (Error p) = ⊥
Alone (Reject p) = Unit {0}
Alone (Abort p) = Unit {0}

-- 24 "octets left over": a good header of such a kind, and at least one octet more
pub record LeftOver (e : Edition) (s : List ℕ) : Type 0 where
  pub pdu : Pdu
  pub alone : Alone pdu
  pub rules : Rules e pdu
  pub next : ℕ
  pub rest : List ℕ
  pub octets : s ≡ header pdu ++ (next ∷ rest)

-- what can be said of octets: they are accepted, for which we write 0, or a row's number is given
pub data Outcome (e : Edition) (s : List ℕ) : ℕ → Type 0 where
  accepted : Accepted e s → Outcome e s 0
  early : EndsEarly e s → Outcome e s 20
  typed : HighType s → Outcome e s 21
  zeros : ZeroBitSet e s → Outcome e s 22
  sized : SizeOrWindow e s → Outcome e s 23
  over : LeftOver e s → Outcome e s 24

-- ---- the writer: "Header writers refuse the first field in octet order that breaks a rule, with its number below"

-- in the first octet: MOR without SEG
abbrev pub LoneMore : Pdu → Type 0
LoneMore p = ((segment_of p).seg ≡ false) × ((segment_of p).mor ≡ true)

-- 22: that, or behind it a code of segments accepted above the edition's greatest
abbrev pub ZeroField : Edition → Pdu → Type 0
ZeroField e p = LoneMore p ⊎ (most e < code_of p)

-- 23, behind them: a size code above 5, and a window that is there and is 0 or above 127
abbrev pub OffField : Pdu → Type 0
OffField (Request p) = (5 < p.size) ⊎ ((p.segment.seg ≡ true) × Off p.segment.window)
OffField (Unconfirmed p) = ⊥
OffField (SimpleAck p) = ⊥
OffField (ComplexAck p) = (p.segment.seg ≡ true) × Off p.segment.window
OffField (SegmentAck p) = Off p.window
OffField (Error p) = ⊥
OffField (Reject p) = ⊥
OffField (Abort p) = ⊥

-- codes that fit their places in octet 2: that of segments accepted the upper four bits, the size code the lower four
abbrev pub Fits : Pdu → Type 0
Fits (Request p) = (p.accepts ≤ 15) × (p.size ≤ 15)
Fits (Unconfirmed p) = Unit {0}
Fits (SimpleAck p) = Unit {0}
Fits (ComplexAck p) = Unit {0}
Fits (SegmentAck p) = Unit {0}
Fits (Error p) = Unit {0}
Fits (Reject p) = Unit {0}
Fits (Abort p) = Unit {0}
