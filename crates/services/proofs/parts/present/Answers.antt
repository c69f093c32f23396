use Rattle.std.proofs.Common.{rules}
use Rattle.services.proofs.Ways.{presents}
use Rattle.services.proofs.parts.present.Goals as goal

pub returns : goal.returns
returns c = λ rs w. search (rules, presents)
