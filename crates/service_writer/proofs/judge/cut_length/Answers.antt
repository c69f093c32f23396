use Rattle.std.proofs.Common.{rules}
use Rattle.octets.specs.Rules.{tests}
use Rattle.service_writer.specs.Judging.{cut_length}
use Rattle.service_writer.proofs.Cuts
use Rattle.service_writer.proofs.judge.cut_length.Goals as goal

pub returns-then-e-lt254 : goal.returns-then-e-lt254
unfolding cut_length
returns-then-e-lt254 c = search (rules, tests, c.from.ensures)

pub returns : goal.returns
unfolding cut_length
returns c = Cuts.cut_three c.args.s.now _ _ _ _ c.if-e-lt254.false c.pair.ensures
