use Rattle.std.proofs.Common.{rules}
use Rattle.frames.specs.Step.{length_of}
use Rattle.frames.proofs.length_of.Goals as goal

pub returns : goal.returns
unfolding length_of
returns c = search rules
