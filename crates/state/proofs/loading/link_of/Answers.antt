use Rattle.state.specs.Link.{link_of}
use Rattle.state.proofs.loading.link_of.Goals as goal

pub returns : goal.returns
unfolding link_of
returns c = cc
