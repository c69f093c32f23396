-- The network header (clause 6.2): its rules, apart from any reading.
use Rattle.std.specs.Prelude.{ℕ, ◌≤◌, ◌<◌, true, ◌≡◌, length}
use Rattle.octets.specs.Reading.{Octets}
use Rattle.npdu.specs.Layout.{shown}
use Rattle.npdu.specs.declared.Npdu.{Npdu}

-- a part's rules, with the least length and the greatest network number
pub record PartValid (net len low top : ℕ) : Type 0 where
  pub some_net : 1 ≤ net
  pub net_range : net ≤ top
  pub len_least : low ≤ len
  pub len_range : len ≤ 7

-- the rules of what a header says: "DNET is 1 to 65535, SNET 1 to 65534, DLEN 0 to 7, SLEN 1 to 7"; the priority has two bits
pub record Ruled (h : Npdu) : Type 0 where
  pub urgency : h.priority ≤ 3
  pub destination : h.dest ≡ true → PartValid h.dnet h.dlen 0 65535
  pub origin : h.source ≡ true → PartValid h.snet h.slen 1 65534

-- both addresses are kept in seven octets, as the type of a header says
pub record Kept (h : Npdu) : Type 0 where
  pub dest_kept : length h.dadr ≡ 7
  pub source_kept : length h.sadr ≡ 7

-- the rules of a header as a reading gives it: what it does not say is 0
pub record Valid (h : Npdu) : Type 0 where
  pub ruled : Ruled h
  pub kept : Kept h
  pub settled : shown h ≡ h

-- the fields behind the control octet fit their octets, as their types say
pub record HeaderFits (h : Npdu) : Type 0 where
  pub dnet_fits : h.dnet < 65536
  pub dlen_fits : h.dlen < 256
  pub dadr_fits : Octets h.dadr
  pub snet_fits : h.snet < 65536
  pub slen_fits : h.slen < 256
  pub sadr_fits : Octets h.sadr
  pub hops_fit : h.hops < 256
  pub kind_fits : h.kind < 256
  pub vendor_fits : h.vendor < 65536
