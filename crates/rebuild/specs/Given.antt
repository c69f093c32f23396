-- What a key that 59 passes is, apart from the test: a network header that keeps the rules has its two addresses.
use Rattle.std.specs.Prelude.{◌≡◌}
use Rattle.npdu.specs.Address.{source_of, destination_of, AddressFits}
use Rattle.npdu.specs.Valid.{HeaderFits, Valid}
use Rattle.npdu.specs.declared.Npdu.{Npdu}
use Rattle.rebuild.specs.declared.Key.{Key}

-- its source and its destination are the key's
pub record Addressed (h : Npdu) (k : Key) : Type 0 where
  pub source : source_of h ≡ k.from
  pub destination : destination_of h ≡ k.to

-- one such header, its fields in their octets
pub record Header (k : Key) : Type 0 where
  pub head : Npdu
  pub valid : Valid head
  pub fits : HeaderFits head
  pub addressed : Addressed head k

-- both addresses' fields fit their octets, as their types say
pub record KeyFits (k : Key) : Type 0 where
  pub from : AddressFits k.from
  pub to : AddressFits k.to
