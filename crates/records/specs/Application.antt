-- An APDU header as a record of 13 octets:
--     0  PDU type, 0 to 7     1  SEG     2  MOR     3  SA     4  NAK     5  SRV (1 or 0 each)
--     6  size code     7  invoke ID     8  number     9  window     10  service choice     11  reason
--     12  code of the segments accepted: 0 unspecified, 1 to 6 for 2, 4, 8, 16, 32 and 64, 7 for more than 64
-- What the kind of PDU lacks is 0 as it is read, and is not looked at as it is written.
use Rattle.std.specs.Prelude.{ℕ, List, [], ◌∷◌, eqb}
use Rattle.octets.specs.Choice.{pick}
use Rattle.octets.specs.Reading.{oct}
use Rattle.apdu.specs.declared.Segment.{Segment}
use Rattle.apdu.specs.declared.Pdu.{Pdu}
use Rattle.apdu.specs.declared.Pdu.TheVariants.{Request, Unconfirmed, SimpleAck, ComplexAck, SegmentAck, Error, Reject, Abort}
use Rattle.records.specs.Flag.{flag, flag_at}

abbrev pub apdu_size : ℕ
apdu_size = 13

abbrev pub apdu_record : Pdu → List ℕ
apdu_record (Request q) =
    0 ∷ flag q.segment.seg ∷ flag q.segment.mor ∷ flag q.sa ∷ 0 ∷ 0 ∷ q.size ∷ q.invoke ∷ q.segment.number ∷ q.segment.window ∷ q.choice ∷ 0 ∷ q.accepts ∷ []
apdu_record (Unconfirmed q) = 1 ∷ 0 ∷ 0 ∷ 0 ∷ 0 ∷ 0 ∷ 0 ∷ 0 ∷ 0 ∷ 0 ∷ q.choice ∷ 0 ∷ 0 ∷ []
apdu_record (SimpleAck q) = 2 ∷ 0 ∷ 0 ∷ 0 ∷ 0 ∷ 0 ∷ 0 ∷ q.invoke ∷ 0 ∷ 0 ∷ q.choice ∷ 0 ∷ 0 ∷ []
apdu_record (ComplexAck q) =
    3 ∷ flag q.segment.seg ∷ flag q.segment.mor ∷ 0 ∷ 0 ∷ 0 ∷ 0 ∷ q.invoke ∷ q.segment.number ∷ q.segment.window ∷ q.choice ∷ 0 ∷ 0 ∷ []
apdu_record (SegmentAck q) = 4 ∷ 0 ∷ 0 ∷ 0 ∷ flag q.nak ∷ flag q.srv ∷ 0 ∷ q.invoke ∷ q.number ∷ q.window ∷ 0 ∷ 0 ∷ 0 ∷ []
apdu_record (Error q) = 5 ∷ 0 ∷ 0 ∷ 0 ∷ 0 ∷ 0 ∷ 0 ∷ q.invoke ∷ 0 ∷ 0 ∷ q.choice ∷ 0 ∷ 0 ∷ []
apdu_record (Reject q) = 6 ∷ 0 ∷ 0 ∷ 0 ∷ 0 ∷ 0 ∷ 0 ∷ q.invoke ∷ 0 ∷ 0 ∷ 0 ∷ q.reason ∷ 0 ∷ []
apdu_record (Abort q) = 7 ∷ 0 ∷ 0 ∷ 0 ∷ 0 ∷ flag q.srv ∷ 0 ∷ q.invoke ∷ 0 ∷ 0 ∷ 0 ∷ q.reason ∷ 0 ∷ []

unfoldable pub segment_at : List ℕ → Segment
segment_at o = record { seg = flag_at o 1; mor = flag_at o 2; number = oct o 8; window = oct o 9 }

-- the PDU that a record of a type 0 to 7 is
unfoldable pub apdu_at : List ℕ → Pdu
apdu_at o =
    pick (eqb (oct o 0) 0) (Request (record { segment = segment_at o; sa = flag_at o 3; size = oct o 6; invoke = oct o 7; choice = oct o 10; accepts = oct o 12 }))
    (pick (eqb (oct o 0) 1) (Unconfirmed (record { choice = oct o 10 }))
    (pick (eqb (oct o 0) 2) (SimpleAck (record { invoke = oct o 7; choice = oct o 10 }))
    (pick (eqb (oct o 0) 3) (ComplexAck (record { segment = segment_at o; invoke = oct o 7; choice = oct o 10 }))
    (pick (eqb (oct o 0) 4) (SegmentAck (record { nak = flag_at o 4; srv = flag_at o 5; invoke = oct o 7; number = oct o 8; window = oct o 9 }))
    (pick (eqb (oct o 0) 5) (Error (record { invoke = oct o 7; choice = oct o 10 }))
    (pick (eqb (oct o 0) 6) (Reject (record { invoke = oct o 7; reason = oct o 11 }))
    (Abort (record { srv = flag_at o 5; invoke = oct o 7; reason = oct o 11 }))))))))
