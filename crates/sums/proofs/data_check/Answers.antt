use Rattle.sums.specs.Sums.{data_sent}
use Rattle.sums.proofs.data_check.Goals as goal

pub returns : goal.returns
unfolding data_sent
returns c = cc
