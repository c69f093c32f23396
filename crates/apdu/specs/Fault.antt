-- What a writer of headers refuses, and what is shown of what it wrote.
use Rattle.std.specs.Prelude.{ℕ, eqb}
use Rattle.octets.specs.Choice.{pick, given}
use Rattle.apdu.specs.declared.Edition.{Edition}
use Rattle.apdu.specs.declared.Segment.{Segment}
use Rattle.apdu.specs.declared.Pdu.{Pdu}
use Rattle.apdu.specs.declared.Pdu.TheVariants.{Request, Unconfirmed, SimpleAck, ComplexAck, SegmentAck, Error, Reject, Abort}
use Rattle.apdu.specs.Reading.{judge_window, judge_code, judge_size}

-- "MOR needs SEG": 22
unfoldable pub mor_fault : Segment → ℕ
mor_fault g = given g.seg 0 (given g.mor 22 0)

-- "windows are 1 to 127": 23
unfoldable pub window_fault : ℕ → ℕ
window_fault w = judge_window w 23 0

-- "Fields of an absent part aren't looked at": without SEG there is no window
unfoldable pub segment_fault : Segment → ℕ
segment_fault g = given g.seg (window_fault g.window) 0

-- the code of segments accepted, 0 to the edition's greatest: 22
unfoldable pub code_fault : Edition → ℕ → ℕ
code_fault e code = judge_code e code 22 0

-- the size code 0 to 5: 23
unfoldable pub size_fault : ℕ → ℕ
size_fault size = judge_size size 23 0

-- the earlier fault, if there is one
abbrev pub or_else : ℕ → ℕ → ℕ
or_else earlier later = pick (eqb earlier 0) later earlier

-- "Header writers refuse the first field in octet order that breaks a rule, with its number"; 0: none does
abbrev pub fault_of : Edition → Pdu → ℕ
fault_of e (Request p) = or_else (mor_fault p.segment) (or_else (code_fault e p.accepts) (or_else (size_fault p.size) (segment_fault p.segment)))
fault_of e (Unconfirmed p) = 0
fault_of e (SimpleAck p) = 0
fault_of e (ComplexAck p) = or_else (mor_fault p.segment) (segment_fault p.segment)
fault_of e (SegmentAck p) = window_fault p.window
fault_of e (Error p) = 0
fault_of e (Reject p) = 0
fault_of e (Abort p) = 0

-- "Fields of an absent part .. are read as 0"
unfoldable pub shown_segment : Segment → Segment
shown_segment g = record { seg = g.seg; mor = g.mor; number = given g.seg g.number 0; window = given g.seg g.window 0 }

abbrev pub shown : Pdu → Pdu
shown (Request p) = Request (record { segment = shown_segment p.segment; sa = p.sa; size = p.size; invoke = p.invoke; choice = p.choice; accepts = p.accepts })
shown (Unconfirmed p) = Unconfirmed p
shown (SimpleAck p) = SimpleAck p
shown (ComplexAck p) = ComplexAck (record { segment = shown_segment p.segment; invoke = p.invoke; choice = p.choice })
shown (SegmentAck p) = SegmentAck p
shown (Error p) = Error p
shown (Reject p) = Reject p
shown (Abort p) = Abort p
