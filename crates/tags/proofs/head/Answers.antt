use Rattle.std.proofs.Common.{rules}
use Rattle.octets.specs.Rules.{tests}
use Rattle.tags.specs.Reading.{head_at}
use Rattle.tags.proofs.head.Goals as goal

pub returns-then-s-at : goal.returns-then-s-at
unfolding head_at
returns-then-s-at c = search (rules, tests)
