use Rattle.std.proofs.Common.{rules}
use Rattle.std.proofs.lemmas.Result.{err_from_is_err_and}
use Rattle.services.specs.Reading.{write_property}
use Rattle.services.proofs.Ways.{in_turn}
use Rattle.services.proofs.property.write_property.Goals as goal

pub returns-in_err-target : goal.returns-in_err-target
unfolding write_property
returns-in_err-target c = λ rs w. search (rules, in_turn)

pub returns-in_err-value : goal.returns-in_err-value
unfolding write_property
returns-in_err-value c = λ rs w. let p = err_from_is_err_and c.from_residual-in_err-value.result c.from_residual-in_err-value.ensures.1 in rw (p.1, p.2) (search (rules, in_turn, c.in_ok-target.ensures, c.in_err-value.ensures))

pub returns-in_err-priority : goal.returns-in_err-priority
unfolding write_property
returns-in_err-priority c = λ rs w. let p = err_from_is_err_and c.from_residual-in_err-priority.result c.from_residual-in_err-priority.ensures.1 in rw (p.1, p.2) (search (rules, in_turn, c.in_ok-target.ensures, c.in_ok-value.ensures, c.in_err-priority.ensures))

pub returns : goal.returns
unfolding write_property
returns c = λ rs w. search (rules, in_turn, c.in_ok-target.ensures, c.in_ok-value.ensures, c.in_ok-priority.ensures)
