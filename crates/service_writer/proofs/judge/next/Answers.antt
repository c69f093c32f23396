use Rattle.service_writer.proofs.Going
use Rattle.service_writer.proofs.judge.next.Goals as goal

pub returns-in-Item : goal.returns-in-Item
returns-in-Item c = Going.as_item _ _ _ c.requires.0 _ _ _ _ _ _ _ _ c.in-Item.is c.kind.ensures (c.item.ensures _)
