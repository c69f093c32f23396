use Rattle.collector.proofs.Actions.{takes_acted}
use Rattle.collector.proofs.frame.act_segment.Goals as goal

pub returns : goal.returns
returns c = takes_acted c.requires.1.seg c.take-t.ensures c.put_taken.ensures
