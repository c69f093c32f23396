-- The APDU header's record: its size, its type, and what is read back of it.
use Prim.Native.Nat.{◌≤◌}
use mathlib.Core.Path.{◌≡◌, refl}
use lib.ListN.{length}
use lib.Dec.{lit≤}
use Rattle.octets.specs.Reading.{oct}
use Rattle.apdu.specs.declared.Pdu.{Pdu}
use Rattle.apdu.specs.declared.Pdu.TheVariants.{Request, Unconfirmed, SimpleAck, ComplexAck, SegmentAck, Error, Reject, Abort}
use Rattle.records.specs.Flag.{flag_back}
use Rattle.records.specs.Application.{apdu_record, segment_at, apdu_at}

pub apdu_size_lem : (p : Pdu) → length (apdu_record p) ≡ 13
apdu_size_lem (Request q) = refl
apdu_size_lem (Unconfirmed q) = refl
apdu_size_lem (SimpleAck q) = refl
apdu_size_lem (ComplexAck q) = refl
apdu_size_lem (SegmentAck q) = refl
apdu_size_lem (Error q) = refl
apdu_size_lem (Reject q) = refl
apdu_size_lem (Abort q) = refl

-- its type is 0 to 7
pub apdu_type_most : (p : Pdu) → oct (apdu_record p) 0 ≤ 7
apdu_type_most (Request q) = lit≤ tt
apdu_type_most (Unconfirmed q) = lit≤ tt
apdu_type_most (SimpleAck q) = lit≤ tt
apdu_type_most (ComplexAck q) = lit≤ tt
apdu_type_most (SegmentAck q) = lit≤ tt
apdu_type_most (Error q) = lit≤ tt
apdu_type_most (Reject q) = lit≤ tt
apdu_type_most (Abort q) = lit≤ tt

-- a header's record is read as that header
pub apdu_back : (p : Pdu) → apdu_at (apdu_record p) ≡ p
unfolding apdu_at segment_at
apdu_back (Request q) = rw (flag_back q.segment.seg, flag_back q.segment.mor, flag_back q.sa)
apdu_back (Unconfirmed q) = refl
apdu_back (SimpleAck q) = refl
apdu_back (ComplexAck q) = rw (flag_back q.segment.seg, flag_back q.segment.mor)
apdu_back (SegmentAck q) = rw (flag_back q.nak, flag_back q.srv)
apdu_back (Error q) = refl
apdu_back (Reject q) = refl
apdu_back (Abort q) = rw (flag_back q.srv)
