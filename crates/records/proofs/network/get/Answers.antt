use Rattle.records.specs.Network.{npdu_at}
use Rattle.records.proofs.network.get.Goals as goal

pub returns : goal.returns
unfolding npdu_at
returns c = rw (c.pair-3.ensures, c.pair-2.ensures, c.pair.ensures, c.seven-2.ensures, c.seven.ensures)
