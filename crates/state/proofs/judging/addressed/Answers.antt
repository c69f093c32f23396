use Rattle.std.proofs.Common.{rules}
use Rattle.state.proofs.Fours.{addressed_none}
use Rattle.state.proofs.judging.addressed.Goals as goal

pub returns : goal.returns
returns c = search (rules, addressed_none)
