use Rattle.std.proofs.Common.{rules}
use Rattle.state.specs.Calls.{state_good}
use Rattle.state.proofs.Parts.{one_by_one}
use Rattle.state.proofs.loading.state_good.Goals as goal

pub returns-then-edition_good : goal.returns-then-edition_good
unfolding state_good
returns-then-edition_good c = search (rules, one_by_one)

pub returns-else-edition_good : goal.returns-else-edition_good
unfolding state_good
returns-else-edition_good c = search (rules, one_by_one)
