-- The network header (clause 6.2): its layout, apart from any reading.
use Rattle.std.specs.Prelude.{ℕ, ◌+◌, ◌-◌, ◌/◌, ◌%◌, Bool, List, [], ◌∷◌, ◌++◌, ltb, take, replicate}
use Rattle.octets.specs.Choice.{pick, given}
use Rattle.npdu.specs.declared.Npdu.{Npdu}

-- "Version 01"
abbrev pub version : ℕ
version = 1

-- "control octet: bit 7 network message, 6 and 4 zero, 5 destination present, 3 source present, 2 reply expected, 1-0 priority"
unfoldable pub bit_of : Bool → ℕ → ℕ
bit_of b weight = given b weight 0

unfoldable pub control_of : Npdu → ℕ
control_of h = bit_of h.message 128 + bit_of h.dest 32 + bit_of h.source 8 + bit_of h.reply 4 + h.priority

-- "Then, each if present: DNET (2), DLEN, DADR; SNET (2), SLEN, SADR": "address octets past the length, aren't looked at"
unfoldable pub part_laid : ℕ → ℕ → List ℕ → List ℕ
part_laid net len adr = net / 256 ∷ net % 256 ∷ len ∷ take len adr

unfoldable pub part_octets : Bool → ℕ → ℕ → List ℕ → List ℕ
part_octets here net len adr = given here (part_laid net len adr) []

-- "hop count if DNET is present"
unfoldable pub hop_octets : Bool → ℕ → List ℕ
hop_octets here hops = given here (hops ∷ []) []

-- "A network message has a type octet next, and from type 80 hex a two-octet vendor."
unfoldable pub message_laid : ℕ → ℕ → List ℕ
message_laid kind vendor = pick (ltb kind 128) (kind ∷ []) (kind ∷ vendor / 256 ∷ vendor % 256 ∷ [])

unfoldable pub message_octets : Bool → ℕ → ℕ → List ℕ
message_octets here kind vendor = given here (message_laid kind vendor) []

-- the header's octets, in their order
unfoldable pub parts_octets : Npdu → List ℕ
parts_octets h = part_octets h.dest h.dnet h.dlen h.dadr ++ part_octets h.source h.snet h.slen h.sadr

unfoldable pub tail_octets : Npdu → List ℕ
tail_octets h = hop_octets h.dest h.hops ++ message_octets h.message h.kind h.vendor

unfoldable pub encode : Npdu → List ℕ
encode h = (version ∷ control_of h ∷ []) ++ parts_octets h ++ tail_octets h

-- an address is kept in seven octets: "7 is our limit"
abbrev pub zeros : ℕ → List ℕ
zeros n = replicate n 0

unfoldable pub cut : ℕ → List ℕ → List ℕ
cut len adr = take len adr ++ zeros (7 - len)

-- "Fields of an absent part, and address octets past the length, .. are read as 0": what a header is read as
unfoldable pub shown : Npdu → Npdu
shown h =
    record {
      message = h.message;
      dest = h.dest;
      source = h.source;
      reply = h.reply;
      priority = h.priority;
      dnet = given h.dest h.dnet 0;
      dlen = given h.dest h.dlen 0;
      dadr = given h.dest (cut h.dlen h.dadr) (zeros 7);
      snet = given h.source h.snet 0;
      slen = given h.source h.slen 0;
      sadr = given h.source (cut h.slen h.sadr) (zeros 7);
      hops = given h.dest h.hops 0;
      kind = given h.message h.kind 0;
      vendor = given h.message (pick (ltb h.kind 128) 0 h.vendor) 0;
    }
