use Rattle.std.proofs.Common.{rules}
use Rattle.services.proofs.Ways.{who_limited, who_any}
use Rattle.services.proofs.others.who_is.Goals as goal

pub returns-then-present : goal.returns-then-present
returns-then-present c = λ rs w. search (rules, who_limited)

pub returns : goal.returns
returns c = λ rs w. search (rules, who_any)
