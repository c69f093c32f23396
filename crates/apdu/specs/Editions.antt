-- What the editions differ in: one number, the greatest code of segments accepted that a confirmed request may have.
use Rattle.std.specs.Prelude.{ℕ}
use Rattle.apdu.specs.declared.Edition.{Edition}
use Rattle.apdu.specs.declared.Edition.TheVariants.{First, Later}
use Rattle.apdu.specs.declared.Pdu.{Pdu}
use Rattle.apdu.specs.declared.Pdu.TheVariants.{Request, Unconfirmed, SimpleAck, ComplexAck, SegmentAck, Error, Reject, Abort}

-- 1995: "upper four bits zero"; later: "bits 6 to 4 .. for the segments they accept .. 7 for more than 64. Bit 7 stays zero"
abbrev pub most : Edition → ℕ
most First = 0
most Later = 7

-- the code of a confirmed request; 0 for the seven other kinds, which have none
abbrev pub code_of : Pdu → ℕ
code_of (Request p) = p.accepts
code_of (Unconfirmed p) = 0
code_of (SimpleAck p) = 0
code_of (ComplexAck p) = 0
code_of (SegmentAck p) = 0
code_of (Error p) = 0
code_of (Reject p) = 0
code_of (Abort p) = 0
