use Rattle.sums.specs.Sums.{header_check}
use Rattle.sums.proofs.header_check.Goals as goal

pub returns : goal.returns
unfolding header_check
returns c = cc
