use Rattle.state.specs.Calls.{state_at}
use Rattle.state.proofs.slots_at.Goals as goal

pub returns : goal.returns
unfolding state_at
returns c = cc
