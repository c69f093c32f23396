-- The reading of APDU headers (clause 20.1), "octets are judged left to right and a missing octet when it is reached; within one, by row order":
-- 20 ends early; 21 type 8-15; 22 zero bit set or MOR without SEG; 23 size code or window; 24 octets left over.
-- An octet that no rule judges is reached with the next one that is read.
use Rattle.std.specs.Prelude.{ℕ, Result, ◌+◌, ◌/◌, ◌%◌, ◌≡◌, List, Bool, true, false, length, drop, ltb, eqb, Ok, Err}
use Rattle.octets.specs.Choice.{pick}
use Rattle.octets.specs.Reading.{oct, reach, refuse}
use Rattle.apdu.specs.declared.Edition.{Edition}
use Rattle.apdu.specs.declared.Segment.{Segment}
use Rattle.apdu.specs.declared.Pdu.{Pdu}
use Rattle.apdu.specs.declared.Pdu.TheVariants.{Request, Unconfirmed, SimpleAck, ComplexAck, SegmentAck, Error, Reject, Abort}
use Rattle.apdu.specs.Editions.{most}
use Rattle.apdu.specs.Fields.{params_at}
use Rattle.apdu.specs.Layout.{Apdu}

-- the answer to a read APDU: the PDU, or the number of the refusal
abbrev pub Answer : Type 0
Answer = Result Pdu ℕ

-- and to what follows the invoke ID: the segment and the service choice
abbrev pub Tail : Type 0
Tail = Result (Segment × ℕ) ℕ

-- bits 3 to 0 of a first octet
abbrev pub bit3 : ℕ → Bool
bit3 b = eqb (b % 16 / 8) 1

abbrev pub bit2 : ℕ → Bool
bit2 b = eqb (b % 8 / 4) 1

abbrev pub bit1 : ℕ → Bool
bit1 b = eqb (b % 4 / 2) 1

abbrev pub bit0 : ℕ → Bool
bit0 b = eqb (b % 2) 1

-- "MOR needs SEG": bits 3 and 2 are SEG and MOR, and not 01
abbrev pub mor_without_seg : ℕ → Bool
mor_without_seg b = eqb (b % 16 / 4) 1

-- "windows are 1 to 127"
abbrev pub judge_window {ℓ} : {A : Type ℓ} → ℕ → A → A → A
judge_window w broken rest = refuse (eqb w 0) broken (refuse (ltb 127 w) broken rest)

-- "the size code 0 to 5 (50, 128, 206, 480, 1024, 1476)"
abbrev pub judge_size {ℓ} : {A : Type ℓ} → ℕ → A → A → A
judge_size size broken rest = refuse (ltb 5 size) broken rest

-- the code of segments accepted, none above the edition's: "upper four bits zero", "Bit 7 stays zero"
abbrev pub judge_code {ℓ} : {A : Type ℓ} → Edition → ℕ → A → A → A
judge_code e code broken rest = refuse (ltb (most e) code) broken rest

-- octet 2 of a request: the code in the upper four bits, the size code in the lower
abbrev pub judge_size_octet : Edition → ℕ → Answer → Answer
judge_size_octet e x rest = judge_code e (x / 16) (Err 22) (judge_size (x % 16) (Err 23) rest)

-- "if SEG, number and window; choice", from a place on
unfoldable pub read_tail : List ℕ → ℕ → Tail
read_tail s at =
    pick (bit3 (oct s 0))
    (reach s (at + 1) (Err 20)
    (judge_window (oct s (at + 1)) (Err 23)
    (reach s (at + 2) (Err 20)
    (Ok (record { seg = true; mor = bit2 (oct s 0); number = oct s at; window = oct s (at + 1) }, oct s (at + 2))))))
    (reach s at (Err 20)
    (Ok (record { seg = false; mor = bit2 (oct s 0); number = 0; window = 0 }, oct s at)))

-- the PDU that a good tail completes
abbrev pub with_tail : Tail → (Segment → ℕ → Pdu) → Answer
with_tail (Ok t) whole = Ok (whole t.0 t.1)
with_tail (Err n) whole = Err n

-- "0 confirmed request: bits 3 SEG, 2 MOR, 1 SA; octet 2 the size code; invoke; if SEG, number and window; choice; parameters"
unfoldable pub read_request : Edition → List ℕ → Answer
read_request e s =
    refuse (ltb 0 (oct s 0 % 2)) (Err 22)
    (refuse (mor_without_seg (oct s 0)) (Err 22)
    (reach s 1 (Err 20)
    (judge_size_octet e (oct s 1)
    (reach s 2 (Err 20)
    (with_tail (read_tail s 3) (λ g choice. Request (record { segment = g; sa = bit1 (oct s 0); size = oct s 1 % 16; invoke = oct s 2; choice = choice; accepts = oct s 1 / 16 })))))))

-- "1 unconfirmed: choice; parameters"
unfoldable pub read_unconfirmed : List ℕ → Answer
read_unconfirmed s =
    refuse (ltb 0 (oct s 0 % 16)) (Err 22)
    (reach s 1 (Err 20)
    (Ok (Unconfirmed (record { choice = oct s 1 }))))

-- what the kinds of two octets behind the first share: low bits that are at most a number, and nothing after the two
unfoldable pub two_octets : ℕ → List ℕ → Result (ℕ × ℕ) ℕ
two_octets low s =
    refuse (ltb low (oct s 0 % 16)) (Err 22)
    (reach s 2 (Err 20)
    (refuse (ltb 3 (length s)) (Err 24)
    (Ok (oct s 1, oct s 2))))

-- "2 simple ack: invoke, choice"
unfoldable pub read_simple_ack : List ℕ → Answer
read_simple_ack s =
    refuse (ltb 0 (oct s 0 % 16)) (Err 22)
    (reach s 2 (Err 20)
    (refuse (ltb 3 (length s)) (Err 24)
    (Ok (SimpleAck (record { invoke = oct s 1; choice = oct s 2 })))))

-- "3 complex ack: bits 3 SEG, 2 MOR; invoke; if SEG, number and window; choice; parameters"
unfoldable pub read_complex_ack : List ℕ → Answer
read_complex_ack s =
    refuse (ltb 0 (oct s 0 % 4)) (Err 22)
    (refuse (mor_without_seg (oct s 0)) (Err 22)
    (reach s 1 (Err 20)
    (with_tail (read_tail s 2) (λ g choice. ComplexAck (record { segment = g; invoke = oct s 1; choice = choice })))))

-- "4 segment ack: bits 1 NAK, 0 SRV; invoke, number, window"
unfoldable pub read_segment_ack : List ℕ → Answer
read_segment_ack s =
    refuse (ltb 3 (oct s 0 % 16)) (Err 22)
    (reach s 3 (Err 20)
    (judge_window (oct s 3) (Err 23)
    (refuse (ltb 4 (length s)) (Err 24)
    (Ok (SegmentAck (record { nak = bit1 (oct s 0); srv = bit0 (oct s 0); invoke = oct s 1; number = oct s 2; window = oct s 3 }))))))

-- "5 error: invoke, choice, parameters"
unfoldable pub read_error : List ℕ → Answer
read_error s =
    refuse (ltb 0 (oct s 0 % 16)) (Err 22)
    (reach s 2 (Err 20)
    (Ok (Error (record { invoke = oct s 1; choice = oct s 2 }))))

-- "6 reject: invoke, reason"
unfoldable pub read_reject : List ℕ → Answer
read_reject s =
    refuse (ltb 0 (oct s 0 % 16)) (Err 22)
    (reach s 2 (Err 20)
    (refuse (ltb 3 (length s)) (Err 24)
    (Ok (Reject (record { invoke = oct s 1; reason = oct s 2 })))))

-- "7 abort: bit 0 SRV; invoke, reason"
unfoldable pub read_abort : List ℕ → Answer
read_abort s =
    refuse (ltb 1 (oct s 0 % 16)) (Err 22)
    (reach s 2 (Err 20)
    (refuse (ltb 3 (length s)) (Err 24)
    (Ok (Abort (record { srv = bit0 (oct s 0); invoke = oct s 1; reason = oct s 2 })))))

-- "High four bits of the first octet are the type."
unfoldable pub read_apdu : Edition → List ℕ → Answer
read_apdu e s =
    reach s 0 (Err 20)
    (pick (eqb (oct s 0 / 16) 0) (read_request e s)
    (pick (eqb (oct s 0 / 16) 1) (read_unconfirmed s)
    (pick (eqb (oct s 0 / 16) 2) (read_simple_ack s)
    (pick (eqb (oct s 0 / 16) 3) (read_complex_ack s)
    (pick (eqb (oct s 0 / 16) 4) (read_segment_ack s)
    (pick (eqb (oct s 0 / 16) 5) (read_error s)
    (pick (eqb (oct s 0 / 16) 6) (read_reject s)
    (pick (eqb (oct s 0 / 16) 7) (read_abort s)
    (Err 21)))))))))

-- the reading of the octets gives this PDU and these parameters
abbrev pub Reads : Edition → List ℕ → Apdu → Type 0
Reads e s a = (read_apdu e s ≡ Ok a.pdu) × (drop (params_at a.pdu) s ≡ a.parameters)
