use Rattle.cutter.proofs.Counts.{segments_ceil}
use Rattle.cutter.proofs.judge.segments.Goals as goal

pub returns : goal.returns
returns c = rw (c.max.ensures, c.div_ceil.ensures) (segments_ceil c.args.each c.args.n c.requires.0)
