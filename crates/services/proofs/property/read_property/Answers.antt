use Rattle.std.proofs.Common.{rules}
use Rattle.services.specs.Reading.{read_property}
use Rattle.services.proofs.Ways.{in_turn}
use Rattle.services.proofs.property.read_property.Goals as goal

pub returns-in_err-target : goal.returns-in_err-target
unfolding read_property
returns-in_err-target c = λ rs w. search (rules, in_turn)

pub returns : goal.returns
unfolding read_property
returns c = λ rs w. search (rules, in_turn, c.in_ok-target.ensures)
