use Rattle.frames.specs.Step.{stilled_of}
use Rattle.frames.proofs.Link.silence.Goals as goal

pub returns-then-not-sound : goal.returns-then-not-sound
unfolding stilled_of
returns-then-not-sound c = rw (← c.sound.ensures, c.if-not-sound.true)

pub returns : goal.returns
unfolding stilled_of
returns c = rw (← c.sound.ensures, c.if-not-sound.false, c.silenced.ensures)
