-- Rows 10 to 14 of "Numbers given back", "NPDU: ends early; version; bits 6 or 4; DLEN/SLEN; DNET/SNET", each "given exactly when", of the network header's
-- reader and writer. What each row names is said of layouts in npdu/specs/Rows.
use Rattle.std.specs.Prelude.{ℕ, ◌≤◌, ◌<◌, Bool, true, false, List, [], ◌∷◌, ◌++◌, ◌↔◌, ◌≡◌, length}
use Rattle.octets.specs.Reading.{Octets}
use Rattle.npdu.specs.Exact.{accepted}
use Rattle.npdu.specs.Fault.{fault_of}
use Rattle.npdu.specs.Layout.{encode, zeros}
use Rattle.npdu.specs.Reading.{read_npdu}
use Rattle.npdu.specs.Rows.{Begins, EndsEarly, OtherVersion, BitSet, LengthOut, NetworkOut, LengthBroken, NetworkBroken}
use Rattle.npdu.specs.Valid.{Ruled, Kept}
use Rattle.npdu.specs.declared.Npdu.{Npdu}

-- ---- the reader

-- what the number n says of the octets s
pub data NetworkRow (s : List ℕ) (n : ℕ) : Type 0 where
  good : n ≡ 0 → Begins s → NetworkRow s n
  early : n ≡ 10 → EndsEarly s → NetworkRow s n
  version : n ≡ 11 → OtherVersion s → NetworkRow s n
  bits : n ≡ 12 → BitSet s → NetworkRow s n
  lengths : n ≡ 13 → LengthOut s → NetworkRow s n
  networks : n ≡ 14 → NetworkOut s → NetworkRow s n

-- a number is given exactly when its row says so of the octets
abbrev pub NetworkRows : Type 0
NetworkRows = (s : List ℕ) → Octets s → (n : ℕ) → ((read_npdu s).refused ≡ n) ↔ NetworkRow s n

-- so that for all octets exactly one is so: a header that keeps the rules stands in front, or one of the five rows
abbrev pub NetworkOneRow : Type 0
NetworkOneRow = (s : List ℕ) → Octets s → (n : ℕ) × NetworkRow s n × ((m : ℕ) → NetworkRow s m → m ≡ n)

-- "Octets are judged left to right": what is not said to end early is answered alike, whatever follows
abbrev pub NetworkLeftToRight : Type 0
NetworkLeftToRight = (s t : List ℕ) → ((read_npdu s).refused ≡ 10 → ⊥) → read_npdu (s ++ t) ≡ read_npdu s

-- ---- the writer: "Header writers refuse the first field in octet order that breaks a rule, with its number below; a priority above 3 is 12."
pub data NetworkWriterRow (h : Npdu) (n : ℕ) : Type 0 where
  ruled : n ≡ 0 → Ruled h → NetworkWriterRow h n
  priority : n ≡ 12 → 3 < h.priority → NetworkWriterRow h n
  lengths : n ≡ 13 → LengthBroken h → NetworkWriterRow h n
  networks : n ≡ 14 → NetworkBroken h → NetworkWriterRow h n

abbrev pub NetworkWriterRows : Type 0
NetworkWriterRows = (h : Npdu) (n : ℕ) → (fault_of h ≡ n) ↔ NetworkWriterRow h n

-- and that is the number that reading the header's octets gives, where the priority fits its two bits
abbrev pub NetworkWriterReads : Type 0
NetworkWriterReads = (h : Npdu) → Kept h → h.priority ≤ 3 → (read_npdu (encode h)).refused ≡ fault_of h

-- ---- worked out: headers with their octets, read and written
abbrev pub Spells : Npdu → List ℕ → Type 0
Spells h o = (read_npdu o ≡ accepted (length o) h) × (fault_of h ≡ 0) × (encode h ≡ o)

-- every part present, no two numbers alike: 01 AA 0506 03 1F2021 0708 04 292A2B2C 09 8A 0B0C
abbrev pub every_part : Npdu
every_part =
    record {
      message = true;
      dest = true;
      source = true;
      reply = false;
      priority = 2;
      dnet = 1286;
      dlen = 3;
      dadr = 31 ∷ 32 ∷ 33 ∷ zeros 4;
      snet = 1800;
      slen = 4;
      sadr = 41 ∷ 42 ∷ 43 ∷ 44 ∷ zeros 3;
      hops = 9;
      kind = 138;
      vendor = 2828;
    }

abbrev pub every_part_octets : List ℕ
every_part_octets = 1 ∷ 170 ∷ 5 ∷ 6 ∷ 3 ∷ 31 ∷ 32 ∷ 33 ∷ 7 ∷ 8 ∷ 4 ∷ 41 ∷ 42 ∷ 43 ∷ 44 ∷ 9 ∷ 138 ∷ 11 ∷ 12 ∷ []

-- a network message of a vendor, a reply expected: 01 87 C8 0104
abbrev pub of_vendor : Npdu
of_vendor =
    record {
      message = true;
      dest = false;
      source = false;
      reply = true;
      priority = 3;
      dnet = 0;
      dlen = 0;
      dadr = zeros 7;
      snet = 0;
      slen = 0;
      sadr = zeros 7;
      hops = 0;
      kind = 200;
      vendor = 260;
    }

abbrev pub of_vendor_octets : List ℕ
of_vendor_octets = 1 ∷ 135 ∷ 200 ∷ 1 ∷ 4 ∷ []

-- a destination alone, and the greatest type without a vendor; a reply expected: 01 A5 0D0E 02 3334 0F 7F
abbrev pub no_vendor : Npdu
no_vendor =
    record {
      message = true;
      dest = true;
      source = false;
      reply = true;
      priority = 1;
      dnet = 3342;
      dlen = 2;
      dadr = 51 ∷ 52 ∷ zeros 5;
      snet = 0;
      slen = 0;
      sadr = zeros 7;
      hops = 15;
      kind = 127;
      vendor = 0;
    }

abbrev pub no_vendor_octets : List ℕ
no_vendor_octets = 1 ∷ 165 ∷ 13 ∷ 14 ∷ 2 ∷ 51 ∷ 52 ∷ 15 ∷ 127 ∷ []

-- a source alone, so no hop count, and no network message: 01 0A 1011 05 3D3E3F4041
abbrev pub no_hops : Npdu
no_hops =
    record {
      message = false;
      dest = false;
      source = true;
      reply = false;
      priority = 2;
      dnet = 0;
      dlen = 0;
      dadr = zeros 7;
      snet = 4113;
      slen = 5;
      sadr = 61 ∷ 62 ∷ 63 ∷ 64 ∷ 65 ∷ zeros 2;
      hops = 0;
      kind = 0;
      vendor = 0;
    }

abbrev pub no_hops_octets : List ℕ
no_hops_octets = 1 ∷ 10 ∷ 16 ∷ 17 ∷ 5 ∷ 61 ∷ 62 ∷ 63 ∷ 64 ∷ 65 ∷ []

-- a source alone, and the least type with a vendor: 01 88 1213 06 4748494A4B4C 80 1415
abbrev pub least_vendor : Npdu
least_vendor =
    record {
      message = true;
      dest = false;
      source = true;
      reply = false;
      priority = 0;
      dnet = 0;
      dlen = 0;
      dadr = zeros 7;
      snet = 4627;
      slen = 6;
      sadr = 71 ∷ 72 ∷ 73 ∷ 74 ∷ 75 ∷ 76 ∷ zeros 1;
      hops = 0;
      kind = 128;
      vendor = 5141;
    }

abbrev pub least_vendor_octets : List ℕ
least_vendor_octets = 1 ∷ 136 ∷ 18 ∷ 19 ∷ 6 ∷ 71 ∷ 72 ∷ 73 ∷ 74 ∷ 75 ∷ 76 ∷ 128 ∷ 20 ∷ 21 ∷ []

abbrev pub NetworkWorked : Type 0
NetworkWorked =
    Spells every_part every_part_octets
    × Spells of_vendor of_vendor_octets
    × Spells no_vendor no_vendor_octets
    × Spells no_hops no_hops_octets
    × Spells least_vendor least_vendor_octets

-- ---- worked out: both sides of each limit, and which of two faults is named
abbrev pub Passes : List ℕ → Type 0
Passes o = ((read_npdu o).refused ≡ 0) × ((read_npdu o).next ≡ length o)

abbrev pub Refuses : List ℕ → ℕ → Type 0
Refuses o n = (read_npdu o).refused ≡ n

-- a header to be written, by its parts' presence, priority, DNET, DLEN, SNET, SLEN
abbrev pub headed : Bool → Bool → ℕ → ℕ → ℕ → ℕ → ℕ → Npdu
headed dest source urgency dnet dlen snet slen =
    record {
      message = false;
      dest = dest;
      source = source;
      reply = false;
      priority = urgency;
      dnet = dnet;
      dlen = dlen;
      dadr = 81 ∷ 82 ∷ 83 ∷ 84 ∷ 85 ∷ 86 ∷ 87 ∷ [];
      snet = snet;
      slen = slen;
      sadr = 91 ∷ 92 ∷ 93 ∷ 94 ∷ 95 ∷ 96 ∷ 97 ∷ [];
      hops = 9;
      kind = 0;
      vendor = 0;
    }

-- with a destination alone, a source alone: the other part breaks its rules and is not looked at
abbrev pub Toward : ℕ → ℕ → ℕ → Type 0
Toward dnet dlen n = fault_of (headed true false 0 dnet dlen 0 8) ≡ n

abbrev pub From : ℕ → ℕ → ℕ → Type 0
From snet slen n = fault_of (headed false true 0 0 8 snet slen) ≡ n

pub record NetworkRefused : Type 0 where
  -- "DLEN 0 to 7": 13 above
  -- 01 20 01 02 00 09; 01 20 01 02 07 51 52 53 54 55 56 57 09; 01 20 01 02 08; 01 20 01 02 FF
  pub dlen : Passes (1 ∷ 32 ∷ 1 ∷ 2 ∷ 0 ∷ 9 ∷ []) × Passes (1 ∷ 32 ∷ 1 ∷ 2 ∷ 7 ∷ 81 ∷ 82 ∷ 83 ∷ 84 ∷ 85 ∷ 86 ∷ 87 ∷ 9 ∷ [])
      × Refuses (1 ∷ 32 ∷ 1 ∷ 2 ∷ 8 ∷ []) 13 × Refuses (1 ∷ 32 ∷ 1 ∷ 2 ∷ 255 ∷ []) 13 × Toward 258 0 0 × Toward 258 7 0 × Toward 258 8 13
  -- "SLEN 1 to 7": 13 below and above
  -- 01 08 01 02 00; 01 08 01 02 01 5B; 01 08 01 02 07 5B 5C 5D 5E 5F 60 61; 01 08 01 02 08
  pub slen : Refuses (1 ∷ 8 ∷ 1 ∷ 2 ∷ 0 ∷ []) 13 × Passes (1 ∷ 8 ∷ 1 ∷ 2 ∷ 1 ∷ 91 ∷ [])
      × Passes (1 ∷ 8 ∷ 1 ∷ 2 ∷ 7 ∷ 91 ∷ 92 ∷ 93 ∷ 94 ∷ 95 ∷ 96 ∷ 97 ∷ []) × Refuses (1 ∷ 8 ∷ 1 ∷ 2 ∷ 8 ∷ []) 13 × From 258 0 13 × From 258 1 0
      × From 258 7 0 × From 258 8 13
  -- "DNET is 1 to 65535": 14 below
  -- 01 20 00 00; 01 20 00 01 00 09; 01 20 01 00 00 09; 01 20 FF FF 00 09
  pub dnet : Refuses (1 ∷ 32 ∷ 0 ∷ 0 ∷ []) 14 × Passes (1 ∷ 32 ∷ 0 ∷ 1 ∷ 0 ∷ 9 ∷ []) × Passes (1 ∷ 32 ∷ 1 ∷ 0 ∷ 0 ∷ 9 ∷ [])
      × Passes (1 ∷ 32 ∷ 255 ∷ 255 ∷ 0 ∷ 9 ∷ []) × Toward 0 1 14 × Toward 1 1 0 × Toward 65535 1 0
  -- "SNET 1 to 65534": 14 below and above
  -- 01 08 00 00; 01 08 00 01 01 5B; 01 08 01 00 01 5B; 01 08 FF FE 01 5B; 01 08 FF FF
  pub snet : Refuses (1 ∷ 8 ∷ 0 ∷ 0 ∷ []) 14 × Passes (1 ∷ 8 ∷ 0 ∷ 1 ∷ 1 ∷ 91 ∷ []) × Passes (1 ∷ 8 ∷ 1 ∷ 0 ∷ 1 ∷ 91 ∷ [])
      × Passes (1 ∷ 8 ∷ 255 ∷ 254 ∷ 1 ∷ 91 ∷ []) × Refuses (1 ∷ 8 ∷ 255 ∷ 255 ∷ []) 14 × From 0 1 14 × From 1 1 0 × From 65534 1 0 × From 65535 1 14
  -- "version" 11, "bits 6 or 4" 12: the first octet, then the second; every other bit of the second can be set
  -- 00; 02 50; 01 40; 01 10; 01 50; 01 0F FF FE 01 5B; 01 A0 FF FF 00 09 7F
  pub version : Refuses (0 ∷ []) 11 × Refuses (2 ∷ 80 ∷ []) 11 × Refuses (1 ∷ 64 ∷ []) 12 × Refuses (1 ∷ 16 ∷ []) 12 × Refuses (1 ∷ 80 ∷ []) 12
      × Passes (1 ∷ 15 ∷ 255 ∷ 254 ∷ 1 ∷ 91 ∷ []) × Passes (1 ∷ 160 ∷ 255 ∷ 255 ∷ 0 ∷ 9 ∷ 127 ∷ [])
  -- "a priority above 3 is 12", before the parts
  pub priority : (fault_of (headed false false 3 0 8 0 8) ≡ 0) × (fault_of (headed false false 4 0 8 0 8) ≡ 12) × (fault_of (headed true true 4 0 8 0 8) ≡ 12)
  -- octets left to right: bit 6 and DNET 0; DNET 0 and DLEN 8; SNET 65535 and SLEN 0; DLEN 8 and SNET 0 behind it; behind a good destination, SNET 0 and
  -- SLEN 0, and SLEN 0 alone
  -- 01 60 00 00; 01 20 00 00 08; 01 08 FF FF 00; 01 28 00 01 08 00 00 00; 01 28 00 01 00 00 00 00; 01 28 00 01 00 00 01 00
  pub two_faults : Refuses (1 ∷ 96 ∷ 0 ∷ 0 ∷ []) 12 × Refuses (1 ∷ 32 ∷ 0 ∷ 0 ∷ 8 ∷ []) 14 × Refuses (1 ∷ 8 ∷ 255 ∷ 255 ∷ 0 ∷ []) 14
      × Refuses (1 ∷ 40 ∷ 0 ∷ 1 ∷ 8 ∷ 0 ∷ 0 ∷ 0 ∷ []) 13 × Refuses (1 ∷ 40 ∷ 0 ∷ 1 ∷ 0 ∷ 0 ∷ 0 ∷ 0 ∷ []) 14
      × Refuses (1 ∷ 40 ∷ 0 ∷ 1 ∷ 0 ∷ 0 ∷ 1 ∷ 0 ∷ []) 13 × Toward 0 8 14 × From 65535 0 14 × (fault_of (headed true true 3 1 8 0 1) ≡ 13)
      × (fault_of (headed true true 3 1 0 0 0) ≡ 14) × (fault_of (headed true true 3 1 0 1 0) ≡ 13)
  -- "a missing octet when it is reached": 10, at each octet
  -- no octet; 01; 01 20; 01 20 00; 01 20 00 01; 01 20 00 01 02 51; 01 20 00 01 00; 01 08 FF; 01 80; 01 80 80; 01 80 80 01
  pub early : Refuses [] 10 × Refuses (1 ∷ []) 10 × Refuses (1 ∷ 32 ∷ []) 10 × Refuses (1 ∷ 32 ∷ 0 ∷ []) 10 × Refuses (1 ∷ 32 ∷ 0 ∷ 1 ∷ []) 10
      × Refuses (1 ∷ 32 ∷ 0 ∷ 1 ∷ 2 ∷ 81 ∷ []) 10 × Refuses (1 ∷ 32 ∷ 0 ∷ 1 ∷ 0 ∷ []) 10 × Refuses (1 ∷ 8 ∷ 255 ∷ []) 10 × Refuses (1 ∷ 128 ∷ []) 10
      × Refuses (1 ∷ 128 ∷ 128 ∷ []) 10 × Refuses (1 ∷ 128 ∷ 128 ∷ 1 ∷ []) 10
