-- The records that the exported calls fill and read, octet by octet, as the C header's tables have them. Every field has a value of its own.
use Rattle.std.specs.Prelude.{ℕ, ◌≡◌, Bool, true, false, List, [], ◌∷◌}
use Rattle.npdu.specs.declared.Npdu.{Npdu}
use Rattle.apdu.specs.declared.Segment.{Segment}
use Rattle.apdu.specs.declared.Pdu.{Pdu}
use Rattle.apdu.specs.declared.Pdu.TheVariants as Pdus
use Rattle.services.specs.declared.Service.{Service}
use Rattle.services.specs.declared.Service.TheVariants as Services
use Rattle.services.specs.declared.Span.{Span}
use Rattle.services.specs.declared.Target.{Target}
use Rattle.records.specs.Network.{npdu_record, npdu_at}
use Rattle.records.specs.Application.{apdu_record, apdu_at}
use Rattle.records.specs.Service.{service_record, service_at}

-- a value's record is these octets, and these octets are that value's
pub record Recorded (A : Type 0) (octets_of : A → List ℕ) (value_of : List ℕ → A) (a : A) (o : List ℕ) : Type 0 where
  pub there : octets_of a ≡ o
  pub back : value_of o ≡ a

-- a network header with these flags
abbrev pub network : (message dest source reply : Bool) → Npdu
network message dest source reply =
    record {
      message = message;
      dest = dest;
      source = source;
      reply = reply;
      priority = 2;
      dnet = 0x0304;
      dlen = 5;
      dadr = 6 ∷ 7 ∷ 8 ∷ 9 ∷ 10 ∷ 11 ∷ 12 ∷ [];
      snet = 0x0D0E;
      slen = 15;
      sadr = 16 ∷ 17 ∷ 18 ∷ 19 ∷ 20 ∷ 21 ∷ 22 ∷ [];
      hops = 23;
      kind = 24;
      vendor = 0x191A;
    }

-- its record, the four flags in front
abbrev pub network_octets : (message dest source reply : ℕ) → List ℕ
network_octets message dest source reply =
    message ∷ dest ∷ source ∷ reply ∷ 2 ∷ 3 ∷ 4 ∷ 5 ∷ 6 ∷ 7 ∷ 8 ∷ 9 ∷ 10 ∷ 11 ∷ 12 ∷ 13 ∷ 14 ∷ 15 ∷ 16 ∷ 17 ∷ 18 ∷ 19 ∷ 20 ∷ 21 ∷ 22 ∷ 23 ∷ 24 ∷ 25 ∷ 26 ∷ []

abbrev pub NetworkIs : Npdu → List ℕ → Type 0
NetworkIs = Recorded Npdu npdu_record npdu_at

abbrev pub HeaderIs : Pdu → List ℕ → Type 0
HeaderIs = Recorded Pdu apdu_record apdu_at

abbrev pub ServiceIs : Service → List ℕ → Type 0
ServiceIs = Recorded Service service_record service_at

-- what ReadProperty, its ack and WriteProperty point at
abbrev pub target : Bool → Target
target indexed = record { object = 0x0102; instance = 0x030405; property = 0x06070809; indexed = indexed; index = 0x0A0B0C0D }

-- ---- "flags are 1 or 0 and numbers of two octets have the high one first": each flag alone
pub record NetworkRecords : Type 0 where
  pub message : NetworkIs (network true false false false) (network_octets 1 0 0 0)
  pub dest : NetworkIs (network false true false false) (network_octets 0 1 0 0)
  pub source : NetworkIs (network false false true false) (network_octets 0 0 1 0)
  pub reply : NetworkIs (network false false false true) (network_octets 0 0 0 1)

-- ---- an APDU header: type, SEG, MOR, SA, NAK, SRV, size code, invoke ID, number, window, service choice, reason,
-- code of the segments accepted
pub record HeaderRecords : Type 0 where
  -- a header's record is that header again, whatever its fields; the code alone, of any number
  pub again : (p : Pdu) → apdu_at (apdu_record p) ≡ p
  pub code : (x : ℕ) → HeaderIs (Pdus.Request (record { segment = record { seg = false; mor = false; number = 0; window = 0 }; sa = false; size = 6; invoke = 7; choice = 10; accepts = x })) (0 ∷ 0 ∷ 0 ∷ 0 ∷ 0 ∷ 0 ∷ 6 ∷ 7 ∷ 0 ∷ 0 ∷ 10 ∷ 0 ∷ x ∷ [])
  pub request : HeaderIs (Pdus.Request (record { segment = record { seg = true; mor = false; number = 8; window = 9 }; sa = false; size = 6; invoke = 7; choice = 10; accepts = 12 })) (0 ∷ 1 ∷ 0 ∷ 0 ∷ 0 ∷ 0 ∷ 6 ∷ 7 ∷ 8 ∷ 9 ∷ 10 ∷ 0 ∷ 12 ∷ [])
  pub more : HeaderIs (Pdus.Request (record { segment = record { seg = false; mor = true; number = 8; window = 9 }; sa = false; size = 6; invoke = 7; choice = 10; accepts = 12 })) (0 ∷ 0 ∷ 1 ∷ 0 ∷ 0 ∷ 0 ∷ 6 ∷ 7 ∷ 8 ∷ 9 ∷ 10 ∷ 0 ∷ 12 ∷ [])
  pub accepted : HeaderIs (Pdus.Request (record { segment = record { seg = false; mor = false; number = 8; window = 9 }; sa = true; size = 6; invoke = 7; choice = 10; accepts = 12 })) (0 ∷ 0 ∷ 0 ∷ 1 ∷ 0 ∷ 0 ∷ 6 ∷ 7 ∷ 8 ∷ 9 ∷ 10 ∷ 0 ∷ 12 ∷ [])
  pub unconfirmed : HeaderIs (Pdus.Unconfirmed (record { choice = 10 })) (1 ∷ 0 ∷ 0 ∷ 0 ∷ 0 ∷ 0 ∷ 0 ∷ 0 ∷ 0 ∷ 0 ∷ 10 ∷ 0 ∷ 0 ∷ [])
  pub simple : HeaderIs (Pdus.SimpleAck (record { invoke = 7; choice = 10 })) (2 ∷ 0 ∷ 0 ∷ 0 ∷ 0 ∷ 0 ∷ 0 ∷ 7 ∷ 0 ∷ 0 ∷ 10 ∷ 0 ∷ 0 ∷ [])
  pub complex : HeaderIs (Pdus.ComplexAck (record { segment = record { seg = true; mor = false; number = 8; window = 9 }; invoke = 7; choice = 10 })) (3 ∷ 1 ∷ 0 ∷ 0 ∷ 0 ∷ 0 ∷ 0 ∷ 7 ∷ 8 ∷ 9 ∷ 10 ∷ 0 ∷ 0 ∷ [])
  pub complex_more : HeaderIs (Pdus.ComplexAck (record { segment = record { seg = false; mor = true; number = 8; window = 9 }; invoke = 7; choice = 10 })) (3 ∷ 0 ∷ 1 ∷ 0 ∷ 0 ∷ 0 ∷ 0 ∷ 7 ∷ 8 ∷ 9 ∷ 10 ∷ 0 ∷ 0 ∷ [])
  pub segment_nak : HeaderIs (Pdus.SegmentAck (record { nak = true; srv = false; invoke = 7; number = 8; window = 9 })) (4 ∷ 0 ∷ 0 ∷ 0 ∷ 1 ∷ 0 ∷ 0 ∷ 7 ∷ 8 ∷ 9 ∷ 0 ∷ 0 ∷ 0 ∷ [])
  pub segment_srv : HeaderIs (Pdus.SegmentAck (record { nak = false; srv = true; invoke = 7; number = 8; window = 9 })) (4 ∷ 0 ∷ 0 ∷ 0 ∷ 0 ∷ 1 ∷ 0 ∷ 7 ∷ 8 ∷ 9 ∷ 0 ∷ 0 ∷ 0 ∷ [])
  pub error : HeaderIs (Pdus.Error (record { invoke = 7; choice = 10 })) (5 ∷ 0 ∷ 0 ∷ 0 ∷ 0 ∷ 0 ∷ 0 ∷ 7 ∷ 0 ∷ 0 ∷ 10 ∷ 0 ∷ 0 ∷ [])
  pub reject : HeaderIs (Pdus.Reject (record { invoke = 7; reason = 11 })) (6 ∷ 0 ∷ 0 ∷ 0 ∷ 0 ∷ 0 ∷ 0 ∷ 7 ∷ 0 ∷ 0 ∷ 0 ∷ 11 ∷ 0 ∷ [])
  pub abort : HeaderIs (Pdus.Abort (record { srv = true; invoke = 7; reason = 11 })) (7 ∷ 0 ∷ 0 ∷ 0 ∷ 0 ∷ 1 ∷ 0 ∷ 7 ∷ 0 ∷ 0 ∷ 0 ∷ 11 ∷ 0 ∷ [])

-- ---- a service: its sort, then its fields at the places of the header's table, high octets first
pub record ServiceRecords : Type 0 where
  pub read : ServiceIs (Services.ReadProperty (target true)) (0 ∷ 1 ∷ 1 ∷ 2 ∷ 0 ∷ 3 ∷ 4 ∷ 5 ∷ 6 ∷ 7 ∷ 8 ∷ 9 ∷ 10 ∷ 11 ∷ 12 ∷ 13 ∷ 0 ∷ 0 ∷ 0 ∷ 0 ∷ 0 ∷ 0 ∷ 0 ∷ 0 ∷ 0 ∷ 0 ∷ [])
  pub ack : ServiceIs (Services.ReadPropertyAck (record { target = target false; value = record { at = 0x0E0F1011; len = 0x12131415 } })) (1 ∷ 0 ∷ 1 ∷ 2 ∷ 0 ∷ 3 ∷ 4 ∷ 5 ∷ 6 ∷ 7 ∷ 8 ∷ 9 ∷ 10 ∷ 11 ∷ 12 ∷ 13 ∷ 14 ∷ 15 ∷ 16 ∷ 17 ∷ 18 ∷ 19 ∷ 20 ∷ 21 ∷ 0 ∷ 0 ∷ [])
  pub write : ServiceIs (Services.WriteProperty (record { target = target false; value = record { at = 0x0E0F1011; len = 0x12131415 }; ranked = true; priority = 22 })) (2 ∷ 0 ∷ 1 ∷ 2 ∷ 0 ∷ 3 ∷ 4 ∷ 5 ∷ 6 ∷ 7 ∷ 8 ∷ 9 ∷ 10 ∷ 11 ∷ 12 ∷ 13 ∷ 14 ∷ 15 ∷ 16 ∷ 17 ∷ 18 ∷ 19 ∷ 20 ∷ 21 ∷ 1 ∷ 22 ∷ [])
  pub who_is_lem : ServiceIs (Services.WhoIs (record { limited = true; low = 0x030405; high = 0x060708 })) (3 ∷ 1 ∷ 0 ∷ 0 ∷ 0 ∷ 3 ∷ 4 ∷ 5 ∷ 0 ∷ 6 ∷ 7 ∷ 8 ∷ 0 ∷ 0 ∷ 0 ∷ 0 ∷ 0 ∷ 0 ∷ 0 ∷ 0 ∷ 0 ∷ 0 ∷ 0 ∷ 0 ∷ 0 ∷ 0 ∷ [])
  pub i_am_lem : ServiceIs (Services.IAm (record { instance = 0x030405; longest = 0x06070809; segmentation = 2; vendor = 0x0A0B })) (4 ∷ 2 ∷ 10 ∷ 11 ∷ 0 ∷ 3 ∷ 4 ∷ 5 ∷ 6 ∷ 7 ∷ 8 ∷ 9 ∷ 0 ∷ 0 ∷ 0 ∷ 0 ∷ 0 ∷ 0 ∷ 0 ∷ 0 ∷ 0 ∷ 0 ∷ 0 ∷ 0 ∷ 0 ∷ 0 ∷ [])
  pub error : ServiceIs (Services.Error (record { class = 0x02030405; code = 0x06070809 })) (5 ∷ 0 ∷ 0 ∷ 0 ∷ 2 ∷ 3 ∷ 4 ∷ 5 ∷ 6 ∷ 7 ∷ 8 ∷ 9 ∷ 0 ∷ 0 ∷ 0 ∷ 0 ∷ 0 ∷ 0 ∷ 0 ∷ 0 ∷ 0 ∷ 0 ∷ 0 ∷ 0 ∷ 0 ∷ 0 ∷ [])

-- ---- records as a caller may fill them: "Any flag but 0 is set", "What the kind of PDU lacks is not looked at"; every octet is set, each with a value of its own
abbrev pub header_octets : ℕ → List ℕ
header_octets kind = kind ∷ 0xFF ∷ 2 ∷ 3 ∷ 4 ∷ 5 ∷ 6 ∷ 7 ∷ 8 ∷ 9 ∷ 10 ∷ 11 ∷ 12 ∷ []

abbrev pub service_octets : ℕ → List ℕ
service_octets sort = sort ∷ 2 ∷ 3 ∷ 4 ∷ 5 ∷ 6 ∷ 7 ∷ 8 ∷ 9 ∷ 10 ∷ 11 ∷ 12 ∷ 13 ∷ 14 ∷ 15 ∷ 16 ∷ 17 ∷ 18 ∷ 19 ∷ 20 ∷ 21 ∷ 22 ∷ 23 ∷ 24 ∷ 25 ∷ 26 ∷ []

-- the segment's part and the target that these octets are, with the value's place and length
abbrev pub segment : Segment
segment = record { seg = true; mor = true; number = 8; window = 9 }

abbrev pub pointed : Target
pointed = record { object = 0x0304; instance = 0x05060708; property = 0x090A0B0C; indexed = true; index = 0x0D0E0F10 }

abbrev pub value : Span
value = record { at = 0x11121314; len = 0x15161718 }

pub record NetworkTaken : Type 0 where
  pub flags : npdu_at (network_octets 2 3 0x80 0xFF) ≡ network true true true true
  pub none : npdu_at (network_octets 0 0 0 0) ≡ network false false false false

pub record HeadersTaken : Type 0 where
  pub request : apdu_at (header_octets 0) ≡ Pdus.Request (record { segment = segment; sa = true; size = 6; invoke = 7; choice = 10; accepts = 12 })
  pub unconfirmed : apdu_at (header_octets 1) ≡ Pdus.Unconfirmed (record { choice = 10 })
  pub simple : apdu_at (header_octets 2) ≡ Pdus.SimpleAck (record { invoke = 7; choice = 10 })
  pub complex : apdu_at (header_octets 3) ≡ Pdus.ComplexAck (record { segment = segment; invoke = 7; choice = 10 })
  pub segment_ack_lem : apdu_at (header_octets 4) ≡ Pdus.SegmentAck (record { nak = true; srv = true; invoke = 7; number = 8; window = 9 })
  pub error : apdu_at (header_octets 5) ≡ Pdus.Error (record { invoke = 7; choice = 10 })
  pub reject : apdu_at (header_octets 6) ≡ Pdus.Reject (record { invoke = 7; reason = 11 })
  pub abort : apdu_at (header_octets 7) ≡ Pdus.Abort (record { srv = true; invoke = 7; reason = 11 })

pub record ServicesTaken : Type 0 where
  pub read : service_at (service_octets 0) ≡ Services.ReadProperty pointed
  pub ack : service_at (service_octets 1) ≡ Services.ReadPropertyAck (record { target = pointed; value = value })
  pub write : service_at (service_octets 2) ≡ Services.WriteProperty (record { target = pointed; value = value; ranked = true; priority = 26 })
  pub who_is_lem : service_at (service_octets 3) ≡ Services.WhoIs (record { limited = true; low = 0x05060708; high = 0x090A0B0C })
  pub i_am_lem : service_at (service_octets 4) ≡ Services.IAm (record { instance = 0x05060708; longest = 0x090A0B0C; segmentation = 2; vendor = 0x0304 })
  pub error : service_at (service_octets 5) ≡ Services.Error (record { class = 0x05060708; code = 0x090A0B0C })
