use Rattle.playback.proofs.Going.{onward_over}
use Rattle.playback.proofs.lent.run.Goals as goal

pub returns : goal.returns
returns c = onward_over _ _ _ _ _ _ _ c.loop-w.invariant c.loop-w-test.false
