use Rattle.std.proofs.Common.{rules}
use Rattle.octets.specs.Rules.{tests}
use Rattle.service_writer.specs.Judging.{cut_of}
use Rattle.service_writer.proofs.judge.cut_item.Goals as goal

pub returns-then-n-lt15 : goal.returns-then-n-lt15
unfolding cut_of
returns-then-n-lt15 c = search (rules, tests)

pub returns : goal.returns
unfolding cut_of
returns c = search (rules, tests)
