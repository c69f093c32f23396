-- What every kind of PDU can be asked: 0 and no segment where the kind has no such field.
use Rattle.std.specs.Prelude.{ℕ, ◌+◌, Bool, false}
use Rattle.octets.specs.Choice.{given}
use Rattle.apdu.specs.declared.Segment.{Segment}
use Rattle.apdu.specs.declared.Pdu.{Pdu}
use Rattle.apdu.specs.declared.Pdu.TheVariants.{Request, Unconfirmed, SimpleAck, ComplexAck, SegmentAck, Error, Reject, Abort}

-- the PDU type
abbrev pub kind_of : Pdu → ℕ
kind_of (Request p) = 0
kind_of (Unconfirmed p) = 1
kind_of (SimpleAck p) = 2
kind_of (ComplexAck p) = 3
kind_of (SegmentAck p) = 4
kind_of (Error p) = 5
kind_of (Reject p) = 6
kind_of (Abort p) = 7

-- the invoke ID
abbrev pub invoke_of : Pdu → ℕ
invoke_of (Request p) = p.invoke
invoke_of (Unconfirmed p) = 0
invoke_of (SimpleAck p) = p.invoke
invoke_of (ComplexAck p) = p.invoke
invoke_of (SegmentAck p) = p.invoke
invoke_of (Error p) = p.invoke
invoke_of (Reject p) = p.invoke
invoke_of (Abort p) = p.invoke

-- the service choice
abbrev pub choice_of : Pdu → ℕ
choice_of (Request p) = p.choice
choice_of (Unconfirmed p) = p.choice
choice_of (SimpleAck p) = p.choice
choice_of (ComplexAck p) = p.choice
choice_of (SegmentAck p) = 0
choice_of (Error p) = p.choice
choice_of (Reject p) = 0
choice_of (Abort p) = 0

-- the segment
abbrev pub unsegmented : Segment
unsegmented = record { seg = false; mor = false; number = 0; window = 0 }

abbrev pub segment_of : Pdu → Segment
segment_of (Request p) = p.segment
segment_of (Unconfirmed p) = unsegmented
segment_of (SimpleAck p) = unsegmented
segment_of (ComplexAck p) = p.segment
segment_of (SegmentAck p) = unsegmented
segment_of (Error p) = unsegmented
segment_of (Reject p) = unsegmented
segment_of (Abort p) = unsegmented

-- the place where the parameters begin, which is the header's length
unfoldable pub tail_end : ℕ → Bool → ℕ
tail_end at seg = given seg (at + 3) (at + 1)

abbrev pub params_at : Pdu → ℕ
params_at (Request p) = tail_end 3 p.segment.seg
params_at (Unconfirmed p) = 2
params_at (SimpleAck p) = 3
params_at (ComplexAck p) = tail_end 2 p.segment.seg
params_at (SegmentAck p) = 4
params_at (Error p) = 3
params_at (Reject p) = 3
params_at (Abort p) = 3
