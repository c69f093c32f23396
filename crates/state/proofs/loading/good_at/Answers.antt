use Rattle.std.proofs.Common.{rules}
use Rattle.state.proofs.Slots.{good_found}
use Rattle.state.proofs.loading.good_at.Goals as goal

pub returns : goal.returns
returns c = search (rules, good_found)
