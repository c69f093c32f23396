use Rattle.service_writer.proofs.Going
use Rattle.service_writer.proofs.judge.item.Goals as goal

pub returns : goal.returns
returns c = Going.stepped_item _ _ _ c.requires.0 _ _ _ _ c.requires.2 _ c.passed.ensures
