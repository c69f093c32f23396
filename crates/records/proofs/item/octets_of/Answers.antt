use Rattle.records.proofs.Items.{item_octets}
use Rattle.records.proofs.item.octets_of.Goals as goal

pub returns : goal.returns
returns c = rw (c.to_be_bytes.ensures, c.to_be_bytes-2.ensures) (item_octets _)
