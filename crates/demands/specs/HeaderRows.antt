-- The APDU headers' rows, 20 to 24, each number exactly when and in every edition, in the page's words over layouts and acceptance (apdu's Rows), not over the
-- reading that follows the code; the writer's number exactly; and a header of each kind worked out by hand from the page's layouts.
use Rattle.std.specs.Prelude.{ℕ, ◌≡◌, ◌↔◌, true, false, List, [], ◌∷◌, ◌++◌, length, Ok, Err}
use Rattle.octets.specs.Reading.{Octets}
use Rattle.apdu.specs.declared.Edition.{Edition}
use Rattle.apdu.specs.declared.Segment.{Segment}
use Rattle.apdu.specs.declared.Pdu.{Pdu}
use Rattle.apdu.specs.declared.Pdu.TheVariants.{Request, Unconfirmed, SimpleAck, ComplexAck, SegmentAck, Error, Reject, Abort}
use Rattle.apdu.specs.Reading.{read_apdu}
use Rattle.apdu.specs.Fields.{params_at}
use Rattle.apdu.specs.Layout.{segment, header}
use Rattle.apdu.specs.Fault.{fault_of}
use Rattle.apdu.specs.Rows.{EndsEarly, HighType, ZeroBitSet, SizeOrWindow, LeftOver, Outcome, ZeroField, OffField, Fits}

-- "Octets are judged left to right and a missing octet when it is reached": what is refused with another number than 20 is so whatever follows
abbrev pub HeaderLeftToRight : Type 0
HeaderLeftToRight = (e : Edition) (s t : List ℕ) (n : ℕ) → read_apdu e s ≡ Err n → (n ≡ 20 → ⊥) → read_apdu e (s ++ t) ≡ Err n

-- 20 "ends early": not accepted, and accepted with some octets more
abbrev pub HeaderEndsEarly : Type 0
HeaderEndsEarly = (e : Edition) (s : List ℕ) → (read_apdu e s ≡ Err 20) ↔ EndsEarly e s

-- 21 "type 8-15": "High four bits of the first octet are the type"
abbrev pub HeaderHighType : Type 0
HeaderHighType = (e : Edition) (s : List ℕ) → Octets s → (read_apdu e s ≡ Err 21) ↔ HighType s

-- 22 "zero bit set or MOR without SEG": "Other low bits are zero; MOR needs SEG", "upper four bits zero", in the later edition "Bit 7 stays zero" (specs/Editions)
abbrev pub HeaderZeroBitSet : Type 0
HeaderZeroBitSet = (e : Edition) (s : List ℕ) → (read_apdu e s ≡ Err 22) ↔ ZeroBitSet e s

-- 23 "size code or window": "the size code 0 to 5", "windows are 1 to 127"
abbrev pub HeaderSizeOrWindow : Type 0
HeaderSizeOrWindow = (e : Edition) (s : List ℕ) → (read_apdu e s ≡ Err 23) ↔ SizeOrWindow e s

-- 24 "octets left over": a good header of type 2, 4, 6 or 7 and at least one octet more
abbrev pub HeaderLeftOver : Type 0
HeaderLeftOver = (e : Edition) (s : List ℕ) → (read_apdu e s ≡ Err 24) ↔ LeftOver e s

-- of accepted (0), 20, 21, 22, 23 and 24, by these words, exactly one holds
abbrev pub HeaderOneOutcome : Type 0
HeaderOneOutcome = (e : Edition) (s : List ℕ) → Octets s → (n : ℕ) × Outcome e s n × ((m : ℕ) → Outcome e s m → m ≡ n)

-- "Header writers refuse the first field in octet order that breaks a rule, with its number below": MOR stands in the first octet, then the code of the
-- segments accepted and the size code, then the window
abbrev pub HeaderWriterExact : Type 0
HeaderWriterExact = (e : Edition) (p : Pdu)
    → ((fault_of e p ≡ 22) ↔ ZeroField e p)
    × ((fault_of e p ≡ 23) ↔ ((ZeroField e p → ⊥) × OffField p))
    × ((fault_of e p ≡ 0) ↔ ((ZeroField e p → ⊥) × (OffField p → ⊥)))

-- and where both codes fit their four bits it is the number that reading such octets gives, whatever follows them
abbrev pub HeaderWriterAsRead : Type 0
HeaderWriterAsRead = (e : Edition) (p : Pdu) (t : List ℕ) → Fits p → (fault_of e p ≡ 0 → ⊥) → read_apdu e (header p ++ t) ≡ Err (fault_of e p)

-- in an edition o, with parameters t after it, is read as p with the parameters' place behind o; p is written as o
pub record Whole (e : Edition) (o t : List ℕ) (p : Pdu) : Type 0 where
  pub read : read_apdu e (o ++ t) ≡ Ok p
  pub place : params_at p ≡ length o
  pub fine : fault_of e p ≡ 0
  pub laid : header p ≡ o

-- "0 confirmed request: bits 3 SEG, 2 MOR, 1 SA; octet 2 the size code ..; invoke; if SEG, number and window; choice; parameters", and so on to 7: the same in
-- every edition
pub record WorkedIn (e : Edition) : Type 0 where
  pub request_more : Whole e (12 ∷ 3 ∷ 17 ∷ 5 ∷ 9 ∷ 14 ∷ []) (99 ∷ []) (Request (record { segment = segment true true 5 9; sa = false; size = 3; invoke = 17; choice = 14; accepts = 0 }))
  pub request_last : Whole e (10 ∷ 1 ∷ 18 ∷ 6 ∷ 8 ∷ 15 ∷ []) (99 ∷ []) (Request (record { segment = segment true false 6 8; sa = true; size = 1; invoke = 18; choice = 15; accepts = 0 }))
  pub request_whole : Whole e (2 ∷ 4 ∷ 19 ∷ 12 ∷ []) (99 ∷ []) (Request (record { segment = segment false false 0 0; sa = true; size = 4; invoke = 19; choice = 12; accepts = 0 }))
  pub unconfirmed : Whole e (16 ∷ 8 ∷ []) (99 ∷ []) (Unconfirmed (record { choice = 8 }))
  pub simple_ack_lem : Whole e (32 ∷ 21 ∷ 15 ∷ []) [] (SimpleAck (record { invoke = 21; choice = 15 }))
  pub complex_ack_more : Whole e (60 ∷ 22 ∷ 7 ∷ 11 ∷ 12 ∷ []) (99 ∷ []) (ComplexAck (record { segment = segment true true 7 11; invoke = 22; choice = 12 }))
  pub complex_ack_last : Whole e (56 ∷ 23 ∷ 6 ∷ 10 ∷ 13 ∷ []) (99 ∷ []) (ComplexAck (record { segment = segment true false 6 10; invoke = 23; choice = 13 }))
  pub complex_ack_whole : Whole e (48 ∷ 24 ∷ 14 ∷ []) (99 ∷ []) (ComplexAck (record { segment = segment false false 0 0; invoke = 24; choice = 14 }))
  pub segment_ack_nak : Whole e (66 ∷ 25 ∷ 9 ∷ 4 ∷ []) [] (SegmentAck (record { nak = true; srv = false; invoke = 25; number = 9; window = 4 }))
  pub segment_ack_srv : Whole e (65 ∷ 26 ∷ 10 ∷ 3 ∷ []) [] (SegmentAck (record { nak = false; srv = true; invoke = 26; number = 10; window = 3 }))
  pub error : Whole e (80 ∷ 27 ∷ 12 ∷ []) (99 ∷ []) (Error (record { invoke = 27; choice = 12 }))
  pub reject : Whole e (96 ∷ 28 ∷ 5 ∷ []) [] (Reject (record { invoke = 28; reason = 5 }))
  pub abort_srv : Whole e (113 ∷ 29 ∷ 4 ∷ []) [] (Abort (record { srv = true; invoke = 29; reason = 4 }))
  pub abort : Whole e (112 ∷ 30 ∷ 2 ∷ []) [] (Abort (record { srv = false; invoke = 30; reason = 2 }))

abbrev pub HeadersWorked : Type 0
HeadersWorked = (e : Edition) → WorkedIn e

-- ---- worked out, the same in every edition (where they differ: specs/Editions): both sides of each limit, and which of two faults is named
abbrev pub Reads : Edition → List ℕ → Pdu → Type 0
Reads e o p = read_apdu e o ≡ Ok p

abbrev pub Refuses : Edition → List ℕ → ℕ → Type 0
Refuses e o n = read_apdu e o ≡ Err n

abbrev pub request_of : Segment → ℕ → Pdu
request_of g size = Request (record { segment = g; sa = false; size = size; invoke = 17; choice = 14; accepts = 0 })

abbrev pub complex_ack_of : Segment → Pdu
complex_ack_of g = ComplexAck (record { segment = g; invoke = 22; choice = 12 })

abbrev pub segment_ack_of : ℕ → Pdu
segment_ack_of window = SegmentAck (record { nak = false; srv = false; invoke = 25; number = 9; window = window })

-- a PDU that is no segment, and the last segment with a window
abbrev pub unsegmented : Segment
unsegmented = segment false false 0 0

abbrev pub windowed : ℕ → Segment
windowed window = segment true false 5 window

pub record RefusedIn (e : Edition) : Type 0 where
  -- "the size code 0 to 5": 23 above; a writer is given a size code, whatever its bits
  -- 00 00 11 0E; 00 05 11 0E; 00 06; 00 0F
  pub size : Reads e (0 ∷ 0 ∷ 17 ∷ 14 ∷ []) (request_of unsegmented 0) × Reads e (0 ∷ 5 ∷ 17 ∷ 14 ∷ []) (request_of unsegmented 5) × Refuses e (0 ∷ 6 ∷ []) 23
      × Refuses e (0 ∷ 15 ∷ []) 23 × (fault_of e (request_of unsegmented 0) ≡ 0) × (fault_of e (request_of unsegmented 5) ≡ 0)
      × (fault_of e (request_of unsegmented 6) ≡ 23) × (fault_of e (request_of unsegmented 16) ≡ 23)
  -- "windows are 1 to 127": 23 below and above, of a request
  -- 08 03 11 05 00; 08 03 11 05 01 0E; 08 03 11 05 7F 0E; 08 03 11 05 80
  pub request_window : Refuses e (8 ∷ 3 ∷ 17 ∷ 5 ∷ 0 ∷ []) 23 × Reads e (8 ∷ 3 ∷ 17 ∷ 5 ∷ 1 ∷ 14 ∷ []) (request_of (windowed 1) 3)
      × Reads e (8 ∷ 3 ∷ 17 ∷ 5 ∷ 127 ∷ 14 ∷ []) (request_of (windowed 127) 3) × Refuses e (8 ∷ 3 ∷ 17 ∷ 5 ∷ 128 ∷ []) 23
      × (fault_of e (request_of (windowed 0) 3) ≡ 23) × (fault_of e (request_of (windowed 1) 3) ≡ 0) × (fault_of e (request_of (windowed 127) 3) ≡ 0)
      × (fault_of e (request_of (windowed 128) 3) ≡ 23)
  -- of a complex ack
  -- 38 16 05 00; 38 16 05 01 0C; 38 16 05 7F 0C; 38 16 05 80
  pub complex_ack_window : Refuses e (56 ∷ 22 ∷ 5 ∷ 0 ∷ []) 23 × Reads e (56 ∷ 22 ∷ 5 ∷ 1 ∷ 12 ∷ []) (complex_ack_of (windowed 1))
      × Reads e (56 ∷ 22 ∷ 5 ∷ 127 ∷ 12 ∷ []) (complex_ack_of (windowed 127)) × Refuses e (56 ∷ 22 ∷ 5 ∷ 128 ∷ []) 23
      × (fault_of e (complex_ack_of (windowed 0)) ≡ 23) × (fault_of e (complex_ack_of (windowed 1)) ≡ 0) × (fault_of e (complex_ack_of (windowed 127)) ≡ 0)
      × (fault_of e (complex_ack_of (windowed 128)) ≡ 23)
  -- of a segment ack
  -- 40 19 09 00; 40 19 09 01; 40 19 09 7F; 40 19 09 80
  pub segment_ack_window : Refuses e (64 ∷ 25 ∷ 9 ∷ 0 ∷ []) 23 × Reads e (64 ∷ 25 ∷ 9 ∷ 1 ∷ []) (segment_ack_of 1)
      × Reads e (64 ∷ 25 ∷ 9 ∷ 127 ∷ []) (segment_ack_of 127) × Refuses e (64 ∷ 25 ∷ 9 ∷ 128 ∷ []) 23 × (fault_of e (segment_ack_of 0) ≡ 23)
      × (fault_of e (segment_ack_of 1) ≡ 0) × (fault_of e (segment_ack_of 127) ≡ 0) × (fault_of e (segment_ack_of 128) ≡ 23)
  -- without SEG there is no window: "Fields of an absent part .. aren't looked at"
  pub no_window : (fault_of e (request_of (segment false false 5 0) 3) ≡ 0) × (fault_of e (complex_ack_of (segment false false 5 128)) ≡ 0)
  -- "type 8-15" 21; 7 is the greatest type
  -- 70 1E 02; 7F; 80; 8F; F0; FF
  pub types : Reads e (112 ∷ 30 ∷ 2 ∷ []) (Abort (record { srv = false; invoke = 30; reason = 2 })) × Refuses e (127 ∷ []) 22 × Refuses e (128 ∷ []) 21
      × Refuses e (143 ∷ []) 21 × Refuses e (240 ∷ []) 21 × Refuses e (255 ∷ []) 21
  -- "Other low bits are zero; MOR needs SEG": 22, each bit of each type
  -- 01; 04; 06; 11; 12; 14; 18; 21; 22; 24; 28; 31; 32; 34; 44; 48; 51; 52; 54; 58; 61; 62; 64; 68; 72; 74; 78
  pub zero_bits : Refuses e (1 ∷ []) 22 × Refuses e (4 ∷ []) 22 × Refuses e (6 ∷ []) 22 × Refuses e (17 ∷ []) 22 × Refuses e (18 ∷ []) 22 × Refuses e (20 ∷ []) 22
      × Refuses e (24 ∷ []) 22 × Refuses e (33 ∷ []) 22 × Refuses e (34 ∷ []) 22 × Refuses e (36 ∷ []) 22 × Refuses e (40 ∷ []) 22 × Refuses e (49 ∷ []) 22
      × Refuses e (50 ∷ []) 22 × Refuses e (52 ∷ []) 22 × Refuses e (68 ∷ []) 22 × Refuses e (72 ∷ []) 22 × Refuses e (81 ∷ []) 22 × Refuses e (82 ∷ []) 22
      × Refuses e (84 ∷ []) 22 × Refuses e (88 ∷ []) 22 × Refuses e (97 ∷ []) 22 × Refuses e (98 ∷ []) 22 × Refuses e (100 ∷ []) 22 × Refuses e (104 ∷ []) 22
      × Refuses e (114 ∷ []) 22 × Refuses e (116 ∷ []) 22 × Refuses e (120 ∷ []) 22
  -- "octets left over" 24: of types 2, 4, 6 and 7
  -- 20 15 0F 63; 40 19 09 01 63; 60 1C 05 63; 70 1E 02 63; 71 1E 02 63
  pub left_over_lem : Refuses e (32 ∷ 21 ∷ 15 ∷ 99 ∷ []) 24 × Refuses e (64 ∷ 25 ∷ 9 ∷ 1 ∷ 99 ∷ []) 24 × Refuses e (96 ∷ 28 ∷ 5 ∷ 99 ∷ []) 24
      × Refuses e (112 ∷ 30 ∷ 2 ∷ 99 ∷ []) 24 × Refuses e (113 ∷ 30 ∷ 2 ∷ 99 ∷ []) 24
  -- octets left to right: a bit of the first octet, or MOR without SEG, and size 6; size 6 and window 0; a bit of the first octet and window 0;
  -- window 0 or 128 and an octet left over; a bit of the first octet and an octet left over
  -- 01 06; 04 06; 08 06 11 05 00; 44 19 09 00; 40 19 09 00 63; 40 19 09 80 63; 21 15 0F 63
  pub two_faults : Refuses e (1 ∷ 6 ∷ []) 22 × Refuses e (4 ∷ 6 ∷ []) 22 × Refuses e (8 ∷ 6 ∷ 17 ∷ 5 ∷ 0 ∷ []) 23
      × Refuses e (68 ∷ 25 ∷ 9 ∷ 0 ∷ []) 22 × Refuses e (64 ∷ 25 ∷ 9 ∷ 0 ∷ 99 ∷ []) 23 × Refuses e (64 ∷ 25 ∷ 9 ∷ 128 ∷ 99 ∷ []) 23
      × Refuses e (33 ∷ 21 ∷ 15 ∷ 99 ∷ []) 22 × (fault_of e (request_of (segment false true 5 0) 6) ≡ 22)
      × (fault_of e (complex_ack_of (segment false true 5 0)) ≡ 22)
  -- "a missing octet when it is reached": 20
  -- no octet; 00; 00 05; 00 05 11; 08 03 11 05; 08 03 11 05 7F; 10; 20 15; 38 16 05; 38 16 05 7F; 30 16; 40 19 09; 50 1B; 60 1C; 70 1E
  pub early : Refuses e [] 20 × Refuses e (0 ∷ []) 20 × Refuses e (0 ∷ 5 ∷ []) 20 × Refuses e (0 ∷ 5 ∷ 17 ∷ []) 20 × Refuses e (8 ∷ 3 ∷ 17 ∷ 5 ∷ []) 20
      × Refuses e (8 ∷ 3 ∷ 17 ∷ 5 ∷ 127 ∷ []) 20 × Refuses e (16 ∷ []) 20 × Refuses e (32 ∷ 21 ∷ []) 20 × Refuses e (56 ∷ 22 ∷ 5 ∷ []) 20
      × Refuses e (56 ∷ 22 ∷ 5 ∷ 127 ∷ []) 20 × Refuses e (48 ∷ 22 ∷ []) 20 × Refuses e (64 ∷ 25 ∷ 9 ∷ []) 20 × Refuses e (80 ∷ 27 ∷ []) 20
      × Refuses e (96 ∷ 28 ∷ []) 20 × Refuses e (112 ∷ 30 ∷ []) 20

abbrev pub HeadersRefused : Type 0
HeadersRefused = (e : Edition) → RefusedIn e
