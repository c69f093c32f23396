use Rattle.std.proofs.Common.{rules}
use Rattle.std.proofs.lemmas.Result.{err_from_is_err_and}
use Rattle.services.specs.Reading.{error_of}
use Rattle.services.proofs.Ways.{in_turn}
use Rattle.services.proofs.others.error_of.Goals as goal

pub returns-in_err-class : goal.returns-in_err-class
unfolding error_of
returns-in_err-class c = λ rs w. search (rules, in_turn)

pub returns-in_err-code : goal.returns-in_err-code
unfolding error_of
returns-in_err-code c = λ rs w. let p = err_from_is_err_and c.from_residual-in_err-code.result c.from_residual-in_err-code.ensures.1 in rw (p.1, p.2) (search (rules, in_turn, c.in_ok-class.ensures, c.in_err-code.ensures))

pub returns : goal.returns
unfolding error_of
returns c = λ rs w. search (rules, in_turn, c.in_ok-class.ensures, c.in_ok-code.ensures)
