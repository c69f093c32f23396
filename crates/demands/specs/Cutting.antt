-- The cutter. "a cutter that turns a confirmed request or complex ack of up to 16,384 parameter octets into segments of a given number of parameter octets, 1 to 474,
-- at a given window, behind a network header without addresses": each number exactly when, and what each NPDU reads back as. Proved in proofs/CutRows and Cutting,
-- each statement under its name in small letters.
use Rattle.std.specs.Prelude.{ℕ, zero, suc, ◌+◌, ◌-◌, ◌*◌, ◌≤◌, ◌<◌, ◌≡◌, ◌↔◌, ◌⊎◌, true, false, List, [], ◌∷◌, ◌++◌, ltb, length, get_or, take, drop, Ok, Err}
use Rattle.npdu.specs.Reading.{read_npdu}
use Rattle.npdu.specs.Exact.{accepted}
use Rattle.npdu.specs.declared.Npdu.{Npdu}
use Rattle.apdu.specs.Editions.{most}
use Rattle.apdu.specs.Reading.{read_apdu}
use Rattle.apdu.specs.declared.Edition.{Edition}
use Rattle.apdu.specs.declared.Segment.{Segment}
use Rattle.apdu.specs.declared.Pdu as Pdus
use Rattle.messages.specs.Table.{Table, First, NoRow}
use Rattle.messages.specs.Table.Table.{end, row}
use Rattle.cutter.specs.Calls.{Cuts}
use Rattle.cutter.specs.declared.Message.{Message}
use Rattle.cutter.specs.declared.Message.TheVariants.{Request, ComplexAck}
use Rattle.cutter.specs.declared.Way.{Way}
use Rattle.cutter.specs.Calls.{Parted}

-- ---- the numbers, "No. | Given exactly when", in the request's order: the first row whose words hold (messages/Table: First), none where none does (NoRow)
-- "a segment .. size or a window out of range": "1 to 474", "windows are 1 to 127"
abbrev pub OutOfRange : (each window : ℕ) → Type 0
OutOfRange each window = ((each ≡ 0) ⊎ (474 < each)) ⊎ ((window ≡ 0) ⊎ (127 < window))

-- "the header writers' numbers" of a confirmed request: its code of segments accepted is above the edition's greatest; its size code is above 5
abbrev pub CodeOver : Edition → Message → Type 0
CodeOver e (Request q) = most e < q.accepts
CodeOver e (ComplexAck q) = ⊥

abbrev pub SizeOver : Message → Type 0
SizeOver (Request q) = 5 < q.size
SizeOver (ComplexAck q) = ⊥

-- "more segments than 256": more octets than 256 segments hold
abbrev pub cut_rows : Edition → Message → Way → List ℕ → Table
cut_rows e m w params =
    row 39 (16384 < length params) (row 64 (OutOfRange w.each w.window) (row 12 (3 < w.priority)
    (row 22 (CodeOver e m) (row 23 (SizeOver m) (row 63 (256 * w.each < length params) end)))))

-- count segments of each octets are as many as n octets need: n divided by each, rounded up; "Empty parameters make one segment"
pub data Needs (each n : ℕ) : ℕ → Type 0 where
  empty : n ≡ 0 → Needs each n 1
  some : (count : ℕ) → n ≤ count * each → (count - 1) * each < n → Needs each n count

-- the octets in front of the parameters in each NPDU: a network header without addresses has two; behind it a segment's header, of a confirmed request "octet 2 ..;
-- invoke; if SEG, number and window; choice" six, of a complex ack, which has no size octet, five
abbrev pub header_size : Message → ℕ
header_size (Request q) = 8
header_size (ComplexAck q) = 7

-- the octets of the result: a header for each segment, and the parameters
pub record ResultHas (m : Message) (w : Way) (params : List ℕ) (size : ℕ) : Type 0 where
  pub count : ℕ
  pub needed : Needs w.each (length params) count
  pub total : size ≡ count * header_size m + length params

-- a refusal is the first row's number or, where no row's words hold, 61 exactly for an area shorter than the result; else as many octets were written as the result
-- has (which: CutSegments). No segments come with a refusal, and as many as the parameters need with the result. A refusal leaves the area as it was, and "nothing past a result
-- is written"
pub record CutNumbered (e : Edition) (m : Message) (w : Way) (params area : List ℕ) (r : Parted) (later : List ℕ) : Type 0 where
  pub refused : (n : ℕ)
      → (r.answer ≡ Err n) ↔ (First (cut_rows e m w params) n ⊎ (NoRow (cut_rows e m w params) × (n ≡ 61) × ((size : ℕ) × ResultHas m w params size × (length area < size))))
  pub wrote : (n : ℕ) → (r.answer ≡ Ok n) ↔ (NoRow (cut_rows e m w params) × ResultHas m w params n × (n ≤ length area))
  pub last : First (cut_rows e m w params) 61 → ⊥
  pub none : (n : ℕ) → r.answer ≡ Err n → (r.segments ≡ 0) × (later ≡ area)
  pub segments : (n : ℕ) → r.answer ≡ Ok n → Needs w.each (length params) r.segments
  pub past : (n : ℕ) → r.answer ≡ Ok n → (length later ≡ length area) × (drop n later ≡ drop n area)

abbrev pub CutNumbers : Type 0
CutNumbers = (e : Edition) (m : Message) (w : Way) (params area : List ℕ) (r : Parted) (later : List ℕ) → Cuts e m w params area r later
    → CutNumbered e m w params area r later

-- ---- the NPDUs of the result, as the caller finds them: all but the last have one size, and the last is the rest
abbrev pub npdus_in : (size count : ℕ) → List ℕ → List (List ℕ)
npdus_in size zero o = []
npdus_in size (suc zero) o = o ∷ []
npdus_in size (suc (suc n)) o = take size o ∷ npdus_in size (suc n) (drop size o)

-- "behind a network header without addresses": no network layer message, with the reply expected and the priority that were given
pub record WithoutAddresses (w : Way) (h : Npdu) : Type 0 where
  pub message : h.message ≡ false
  pub destination : h.dest ≡ false
  pub source : h.source ≡ false
  pub reply : h.reply ≡ w.reply
  pub priority : h.priority ≡ w.priority

-- the PDU of the k-th of count segments: SEG is set, MOR in all but the last, its number is k, and the window is the one given; all else is the message's
abbrev pub part_in : (window count k : ℕ) → Segment
part_in window count k = record { seg = true; mor = ltb (k + 1) count; number = k; window = window }

abbrev pub pdu_in : Message → (window count k : ℕ) → Pdus.Pdu
pdu_in (Request q) window count k =
    Pdus.TheVariants.Request (record { segment = part_in window count k; sa = q.sa; size = q.size; invoke = q.invoke; choice = q.choice; accepts = q.accepts })
pdu_in (ComplexAck q) window count k = Pdus.TheVariants.ComplexAck (record { segment = part_in window count k; invoke = q.invoke; choice = q.choice })

-- an NPDU o reads back, the network header and then, from the third octet on, the APDU header in the edition, with this part of the parameters behind both
pub record ReadsAs (e : Edition) (m : Message) (w : Way) (count k : ℕ) (o part : List ℕ) : Type 0 where
  pub head : Npdu
  pub network : read_npdu o ≡ accepted 2 head
  pub plain : WithoutAddresses w head
  pub application : read_apdu e (drop 2 o) ≡ Ok (pdu_in m w.window count k)
  pub parameters : drop (header_size m) o ≡ part

-- lists joined in their order
abbrev pub joined_all : List (List ℕ) → List ℕ
joined_all [] = []
joined_all (x ∷ xs) = x ++ joined_all xs

-- so does each of count NPDUs. The parts joined in order are the parameters given; all but the last have the size asked for, the last has the rest of them, none only
-- where there are none. Each fits in a frame
pub record CutInto (e : Edition) (m : Message) (w : Way) (params : List ℕ) (count : ℕ) (npdus : List (List ℕ)) : Type 0 where
  pub parts : List (List ℕ)
  pub as_many : (length npdus ≡ count) × (length parts ≡ count)
  pub joined : joined_all parts ≡ params
  pub even : (k : ℕ) → k + 1 < count → length (get_or parts k []) ≡ w.each
  pub rest : (k : ℕ) → k + 1 ≡ count → (length (get_or parts k []) ≤ w.each) × (get_or parts k [] ≡ [] → params ≡ [])
  pub reads : (k : ℕ) → k < count → ReadsAs e m w count k (get_or npdus k []) (get_or parts k [])
  pub frames : (k : ℕ) → k < count → length (get_or npdus k []) ≤ 501

abbrev pub CutSegments : Type 0
CutSegments = (e : Edition) (m : Message) (w : Way) (params area : List ℕ) (r : Parted) (later : List ℕ) → Cuts e m w params area r later → (n : ℕ) → r.answer ≡ Ok n
    → CutInto e m w params r.segments (npdus_in (header_size m + w.each) r.segments (take n later))
