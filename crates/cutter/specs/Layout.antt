-- What a message is cut into, by position: the k-th NPDU is the network header, the header of the k-th segment and the k-th part of the parameters.
use Rattle.std.specs.Prelude.{ℕ, zero, suc, ◌+◌, ◌-◌, ◌*◌, ◌/◌, Bool, true, false, List, [], ◌++◌, ltb, eqb, length, take, drop, replicate}
use Rattle.octets.specs.Choice.{pick}
use Rattle.npdu.specs.Layout.{encode}
use Rattle.npdu.specs.declared.Npdu.{Npdu}
use Rattle.apdu.specs.Layout.{segment, header}
use Rattle.apdu.specs.declared.Pdu as Pdus
use Rattle.cutter.specs.declared.Message.{Message}
use Rattle.cutter.specs.declared.Message.TheVariants.{Request, ComplexAck}
use Rattle.cutter.specs.declared.Way.{Way}

-- "behind a network header without addresses"; no network layer message
abbrev pub network_head : Way → Npdu
network_head w =
    record {
      message = false;
      dest = false;
      source = false;
      reply = w.reply;
      priority = w.priority;
      dnet = 0;
      dlen = 0;
      dadr = replicate 7 0;
      snet = 0;
      slen = 0;
      sadr = replicate 7 0;
      hops = 0;
      kind = 0;
      vendor = 0;
    }

-- the header of one segment: SEG is set, MOR says whether more follow, at the given window
abbrev pub pdu_of : Message → (window : ℕ) → (more : Bool) → (number : ℕ) → Pdus.Pdu
pdu_of (Request q) window more number =
    Pdus.TheVariants.Request (record { segment = segment true more number window; sa = q.sa; size = q.size; invoke = q.invoke; choice = q.choice; accepts = q.accepts })
pdu_of (ComplexAck q) window more number = Pdus.TheVariants.ComplexAck (record { segment = segment true more number window; invoke = q.invoke; choice = q.choice })

-- "segments of a given number of parameter octets": n octets by each, rounded up; "Empty parameters make one segment"
unfoldable pub segments_of : (each n : ℕ) → ℕ
segments_of each n = pick (eqb n 0) 1 ((n + each - 1) / each)

-- the k-th part of the parameters, the first being the 0-th; the last has the rest
abbrev pub part_of : (each k : ℕ) → List ℕ → List ℕ
part_of each k params = take each (drop (k * each) params)

-- a segment behind its network header
abbrev pub npdu_of : Message → Way → (more : Bool) → (number : ℕ) → (part : List ℕ) → List ℕ
npdu_of m w more number part = encode (network_head w) ++ (header (pdu_of m w.window more number) ++ part)

-- the k-th of count NPDUs: its number is k, and MOR is clear in the last alone
unfoldable pub npdu_at : Message → Way → (count : ℕ) → List ℕ → ℕ → List ℕ
npdu_at m w count params k = npdu_of m w (ltb (k + 1) count) k (part_of w.each k params)

-- the first n of them, end to end
abbrev pub first_of : Message → Way → (count : ℕ) → List ℕ → (n : ℕ) → List ℕ
first_of m w count params zero = []
first_of m w count params (suc n) = first_of m w count params n ++ npdu_at m w count params n

-- all of them
unfoldable pub octets_of : Message → Way → List ℕ → List ℕ
octets_of m w params = let count = segments_of w.each (length params) in first_of m w count params count
