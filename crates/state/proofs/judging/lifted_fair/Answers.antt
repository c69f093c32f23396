use Rattle.std.proofs.Common.{rules}
use Rattle.state.proofs.Fair.{lifted_none, lifted_fair}
use Rattle.state.proofs.judging.lifted_fair.Goals as goal

pub returns-then-slots_good : goal.returns-then-slots_good
returns-then-slots_good c = search (rules, lifted_fair)

pub returns-else-slots_good : goal.returns-else-slots_good
returns-else-slots_good c = search (rules, lifted_none)
