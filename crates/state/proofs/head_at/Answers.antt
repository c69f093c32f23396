use Rattle.std.proofs.Common.{rules}
use Rattle.state.specs.Link.{link_of}
use Rattle.state.proofs.head_at.Goals as goal

pub returns : goal.returns
unfolding link_of
returns c = search rules
