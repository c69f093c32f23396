use Rattle.state.proofs.SlotFair.{over_four}
use Rattle.state.proofs.judging.over.Goals as goal

pub returns : goal.returns
returns c = over_four c.args.o.now c.args.k
