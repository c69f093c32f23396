-- The reading of the network header (clause 6.2): "Octets are judged left to right and a missing octet when it is reached".
-- Rows 10 to 14 of "Numbers given back", "NPDU: ends early; version; bits 6 or 4; DLEN/SLEN; DNET/SNET", are the chains below: each `reach` is a 10,
-- each `refuse` names the row that its test breaks, and the first of them in octet order that holds is the answer.
use Rattle.std.specs.Prelude.{ℕ, ◌+◌, ◌/◌, ◌%◌, ◌<◌, ◌≤◌, ◌≡◌, Bool, false, List, Result, Ok, Err, ltb, eqb, drop, length}
use Rattle.octets.specs.Choice.{pick, given, non}
use Rattle.octets.specs.Reading.{oct, be16, reach, refuse}
use Rattle.octets.specs.Refusal.{number_of}
use Rattle.octets.specs.declared.refusal.Refusal.{Refusal}
use Rattle.octets.specs.declared.refusal.Refusal.TheVariants.{NpduEndsEarly}
use Rattle.npdu.specs.Layout.{version, zeros, cut}
use Rattle.npdu.specs.declared.Npdu.{Npdu}
use Rattle.npdu.specs.declared.Header.{Header}
use Rattle.npdu.specs.declared.part.Part as Parts
use Rattle.npdu.specs.declared.tail.Tail as Tails

-- ---- what is read: a refusal's number, or 0 with the place after it and its fields

-- the header
pub record Reading : Type 0 where
  pub refused : ℕ
  pub next : ℕ
  pub head : Npdu

-- destination or source
pub record Part : Type 0 where
  pub refused : ℕ
  pub next : ℕ
  pub net : ℕ
  pub len : ℕ
  pub adr : List ℕ

-- the header's end
pub record Tail : Type 0 where
  pub refused : ℕ
  pub next : ℕ
  pub hops : ℕ
  pub kind : ℕ
  pub vendor : ℕ

-- ---- "control octet: bit 7 network message, 6 and 4 zero, 5 destination present, 3 source present, 2 reply expected, 1-0 priority"

abbrev pub message_bit : ℕ → Bool
message_bit c = eqb (c / 128) 1

abbrev pub dest_bit : ℕ → Bool
dest_bit c = eqb (c % 64 / 32) 1

abbrev pub source_bit : ℕ → Bool
source_bit c = eqb (c % 16 / 8) 1

abbrev pub reply_bit : ℕ → Bool
reply_bit c = eqb (c % 8 / 4) 1

abbrev pub sixth_bit : ℕ → Bool
sixth_bit c = eqb (c % 128 / 64) 1

abbrev pub fourth_bit : ℕ → Bool
fourth_bit c = eqb (c % 32 / 16) 1

-- ---- "DNET (2), DLEN, DADR; SNET (2), SLEN, SADR": one reading, given the least length and the greatest network number

-- a part without fields: refused by a number, or absent (0) with what follows at the same place
unfoldable pub no_part : ℕ → ℕ → Part
no_part refused next = record { refused = refused; next = next; net = 0; len = 0; adr = zeros 7 }

-- the address octets, and 0 past the length
unfoldable pub address_of : List ℕ → ℕ → ℕ → List ℕ
address_of s at len = cut len (drop at s)

-- DLEN or SLEN, at at + 2, then the address octets, of which the last is at at + 2 + len (with none, the length octet itself)
unfoldable pub part_len : List ℕ → ℕ → ℕ → ℕ → ℕ → Part
part_len s at net len low =
    refuse (ltb len low) (no_part 13 0)
    (refuse (ltb 7 len) (no_part 13 0)
    (reach s (at + 2 + len) (no_part 10 0)
    (record { refused = 0; next = at + 3 + len; net = net; len = len; adr = address_of s (at + 3) len })))

-- DNET or SNET, then the length octet
unfoldable pub part_net : List ℕ → ℕ → ℕ → ℕ → ℕ → Part
part_net s at net low top =
    refuse (eqb net 0) (no_part 14 0)
    (refuse (ltb top net) (no_part 14 0)
    (reach s (at + 2) (no_part 10 0)
    (part_len s at net (oct s (at + 2)) low)))

-- a number of two octets is judged once both are reached
unfoldable pub part_of : List ℕ → ℕ → ℕ → ℕ → Part
part_of s at low top =
    reach s at (no_part 10 0)
    (reach s (at + 1) (no_part 10 0)
    (part_net s at (be16 s at) low top))

-- "each if present"
unfoldable pub part_if : List ℕ → ℕ → Bool → ℕ → ℕ → Part
part_if s at here low top = given here (part_of s at low top) (no_part 0 at)

-- ---- "hop count if DNET is present. .. A network message has a type octet next, and from type 80 hex a two-octet vendor."

-- what reading the header's end gives
unfoldable pub ended : ℕ → ℕ → ℕ → ℕ → ℕ → Tail
ended refused next hops kind vendor = record { refused = refused; next = next; hops = hops; kind = kind; vendor = vendor }

-- "from type 80 hex a two-octet vendor"
unfoldable pub vendor_at : List ℕ → ℕ → ℕ → ℕ → Tail
vendor_at s at hops kind =
    pick (ltb kind 128) (ended 0 at hops kind 0)
    (reach s at (ended 10 0 0 0 0)
    (reach s (at + 1) (ended 10 0 0 0 0)
    (ended 0 (at + 2) hops kind (be16 s at))))

-- "A network message has a type octet next"
unfoldable pub message_at : List ℕ → ℕ → ℕ → Bool → Tail
message_at s at hops here =
    given here
    (reach s at (ended 10 0 0 0 0) (vendor_at s (at + 1) hops (oct s at)))
    (ended 0 at hops 0 0)

-- "hop count if DNET is present"
unfoldable pub tail_at : List ℕ → ℕ → Bool → Bool → Tail
tail_at s at dest here =
    given dest
    (reach s at (ended 10 0 0 0 0) (message_at s (at + 1) (oct s at) here))
    (message_at s at 0 here)

-- ---- the whole header

-- a refusal: every other field is 0
unfoldable pub refused_by : ℕ → Reading
refused_by n =
    record {
      refused = n;
      next = 0;
      head = record {
        message = false;
        dest = false;
        source = false;
        reply = false;
        priority = 0;
        dnet = 0;
        dlen = 0;
        dadr = zeros 7;
        snet = 0;
        slen = 0;
        sadr = zeros 7;
        hops = 0;
        kind = 0;
        vendor = 0;
      };
    }

-- the header of the control octet c, both parts and the end
unfoldable pub joined : ℕ → Part → Part → Tail → Reading
joined c d q t =
    record {
      refused = 0;
      next = t.next;
      head = record {
        message = message_bit c;
        dest = dest_bit c;
        source = source_bit c;
        reply = reply_bit c;
        priority = c % 4;
        dnet = d.net;
        dlen = d.len;
        dadr = d.adr;
        snet = q.net;
        slen = q.len;
        sadr = q.adr;
        hops = t.hops;
        kind = t.kind;
        vendor = t.vendor;
      };
    }

-- what a part or the end was refused by, the header is refused by
unfoldable pub after_tail : ℕ → Part → Part → Tail → Reading
after_tail c d q t = refuse (non (eqb t.refused 0)) (refused_by t.refused) (joined c d q t)

-- the end, by "5 destination present" and "bit 7 network message"
unfoldable pub after_source : List ℕ → ℕ → Part → Part → Reading
after_source s c d q =
    refuse (non (eqb q.refused 0)) (refused_by q.refused)
    (after_tail c d q (tail_at s q.next (dest_bit c) (message_bit c)))

-- the source part, by "3 source present": "SNET 1 to 65534", "SLEN 1 to 7"
unfoldable pub after_dest : List ℕ → ℕ → Part → Reading
after_dest s c d =
    refuse (non (eqb d.refused 0)) (refused_by d.refused)
    (after_source s c d (part_if s d.next (source_bit c) 1 65534))

-- "6 and 4 zero"; the destination part, by "5 destination present": "DNET is 1 to 65535", "DLEN 0 to 7"
unfoldable pub after_version : List ℕ → ℕ → Reading
after_version s c =
    refuse (sixth_bit c) (refused_by 12)
    (refuse (fourth_bit c) (refused_by 12)
    (after_dest s c (part_if s 2 (dest_bit c) 0 65535)))

-- "Version 01; control octet"
unfoldable pub read_npdu : List ℕ → Reading
read_npdu s =
    reach s 0 (refused_by 10)
    (refuse (non (eqb (oct s 0) version)) (refused_by 11)
    (reach s 1 (refused_by 10)
    (after_version s (oct s 1))))

-- ---- an answer of the code as what is read

-- the octet at a place, or the refusal of octets that end there or before
abbrev pub OctetAt : List ℕ → ℕ → Result ℕ Refusal → Type 0
OctetAt s at (Ok x) = (at < length s) × (x ≡ oct s at)
OctetAt s at (Err r) = (length s ≤ at) × (r ≡ NpduEndsEarly)

abbrev pub part_seen : Result Parts.Part Refusal → Part
part_seen (Ok p) = record { refused = 0; next = p.next; net = p.address.network; len = p.address.length; adr = p.address.octets }
part_seen (Err r) = no_part (number_of r) 0

abbrev pub tail_seen : Result Tails.Tail Refusal → Tail
tail_seen (Ok t) = ended 0 t.next t.hops t.kind t.vendor
tail_seen (Err r) = ended (number_of r) 0 0 0 0

abbrev pub reading_of : Result Header Refusal → Reading
reading_of (Ok h) = record { refused = 0; next = h.next; head = h.npdu }
reading_of (Err r) = refused_by (number_of r)
