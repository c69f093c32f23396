use Rattle.collector.proofs.Actions.{segment_taken_lem}
use Rattle.collector.proofs.Content.{segment_is}
use Rattle.collector.proofs.frame.take.Goals as goal

pub returns : goal.returns
returns c =
    let a = c.args in
    segment_taken_lem a.slots _ _ a.area.now c.requires.0.sized c.take.ensures c.requires.0.fair a.w a.v a.m a.a.now (segment_is a.w a.m a.a.now a.v)
