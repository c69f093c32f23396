use Rattle.std.proofs.Common.{rules}
use Rattle.feeding.proofs.Fronts.{eat_ended, eat_on}
use Rattle.feeding.proofs.eat.Goals as goal

pub returns-then-area-ne3 : goal.returns-then-area-ne3
returns-then-area-ne3 c = search (rules, eat_ended)

pub returns : goal.returns
returns c = search (rules, eat_on)
