-- What rows 10 to 14 of "Numbers given back" name, "NPDU: ends early; version; bits 6 or 4; DLEN/SLEN; DNET/SNET": said of layouts and of what is
-- accepted, not of a reading.
use Rattle.std.specs.Prelude.{ℕ, ◌+◌, ◌*◌, ◌%◌, ◌≤◌, Bool, true, List, [], ◌∷◌, ◌++◌, ◌⊎◌, ◌≡◌}
use Rattle.octets.specs.Reading.{Octets}
use Rattle.npdu.specs.Layout.{version, control_of, part_octets, encode}
use Rattle.npdu.specs.Valid.{PartValid, Kept, Valid}
use Rattle.npdu.specs.declared.Npdu.{Npdu}

-- accepted: a header that keeps the rules stands in front
pub record Begins (s : List ℕ) : Type 0 where
  pub head : Npdu
  pub rest : List ℕ
  pub valid : Valid head
  pub laid : s ≡ encode head ++ rest

-- "ends early": no header stands in front, and one does once more octets come
pub record EndsEarly (s : List ℕ) : Type 0 where
  pub none : Begins s → ⊥
  pub more : List ℕ
  pub octets : Octets more
  pub whole : Begins (s ++ more)

-- "version": there is a first octet, and it is not 01
pub record OtherVersion (s : List ℕ) : Type 0 where
  pub first : ℕ
  pub rest : List ℕ
  pub other : first ≡ version → ⊥
  pub laid : s ≡ first ∷ rest

-- "bits 6 or 4": the version is good, there is a second octet, and one of the two bits is set in it
pub record BitSet (s : List ℕ) : Type 0 where
  pub control : ℕ
  pub rest : List ℕ
  pub set : (64 ≤ control % 128) ⊎ (16 ≤ control % 32)
  pub laid : s ≡ version ∷ control ∷ rest

-- ---- "DLEN/SLEN", "DNET/SNET": the two parts of a header
pub data Which : Type 0 where
  destination : Which
  source : Which

-- "5 destination present", "3 source present"
abbrev pub present_at : Which → Npdu → Bool
present_at destination h = h.dest
present_at source h = h.source

abbrev pub network_at : Which → Npdu → ℕ
network_at destination h = h.dnet
network_at source h = h.snet

abbrev pub length_at : Which → Npdu → ℕ
length_at destination h = h.dlen
length_at source h = h.slen

-- "DNET is 1 to 65535, SNET 1 to 65534, DLEN 0 to 7, SLEN 1 to 7"
abbrev pub greatest : Which → ℕ
greatest destination = 65535
greatest source = 65534

abbrev pub least : Which → ℕ
least destination = 0
least source = 1

abbrev pub NetworkIn : Which → ℕ → Type 0
NetworkIn w n = (1 ≤ n) × (n ≤ greatest w)

abbrev pub LengthIn : Which → ℕ → Type 0
LengthIn w n = (least w ≤ n) × (n ≤ 7)

-- "Version 01; control octet .. Then, each if present: DNET (2), DLEN, DADR; SNET (2), SLEN, SADR": the octets in front of a part
abbrev pub before : Which → Npdu → List ℕ
before destination h = version ∷ control_of h ∷ []
before source h = (version ∷ control_of h ∷ []) ++ part_octets h.dest h.dnet h.dlen h.dadr

-- the part in front of a part keeps the rules
abbrev pub GoodBefore : Which → Npdu → Type 0
GoodBefore destination h = Unit {0}
GoodBefore source h = h.dest ≡ true → PartValid h.dnet h.dlen 0 65535

-- a header that is good up to a part, and has that part
pub record Reached (w : Which) (h : Npdu) : Type 0 where
  pub urgency : h.priority ≤ 3
  pub here : present_at w h ≡ true
  pub good : GoodBefore w h

-- "DNET/SNET": good up to a part, whose network number, both octets there, is out of its range
pub record NetworkOut (s : List ℕ) : Type 0 where
  pub which : Which
  pub head : Npdu
  pub high : ℕ
  pub low : ℕ
  pub rest : List ℕ
  pub kept : Kept head
  pub reached : Reached which head
  pub out : NetworkIn which (high * 256 + low) → ⊥
  pub laid : s ≡ before which head ++ (high ∷ low ∷ rest)

-- "DLEN/SLEN": good through a part's network number, and its length is out of its range
pub record LengthOut (s : List ℕ) : Type 0 where
  pub which : Which
  pub head : Npdu
  pub high : ℕ
  pub low : ℕ
  pub len : ℕ
  pub rest : List ℕ
  pub kept : Kept head
  pub reached : Reached which head
  pub network : NetworkIn which (high * 256 + low)
  pub out : LengthIn which len → ⊥
  pub laid : s ≡ before which head ++ (high ∷ low ∷ len ∷ rest)

-- ---- of a header to be written, "the first field in octet order that breaks a rule": its network number, its length
pub record NetworkBroken (h : Npdu) : Type 0 where
  pub which : Which
  pub reached : Reached which h
  pub out : NetworkIn which (network_at which h) → ⊥

pub record LengthBroken (h : Npdu) : Type 0 where
  pub which : Which
  pub reached : Reached which h
  pub network : NetworkIn which (network_at which h)
  pub out : LengthIn which (length_at which h) → ⊥
