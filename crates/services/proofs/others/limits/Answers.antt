use Rattle.std.proofs.Common.{rules}
use Rattle.std.proofs.lemmas.Result.{err_from_is_err_and}
use Rattle.services.proofs.Ways.{in_turn}
use Rattle.services.proofs.others.limits.Goals as goal

pub returns-in_err-high : goal.returns-in_err-high
returns-in_err-high c = λ rs w. let p = err_from_is_err_and c.from_residual-in_err-high.result c.from_residual-in_err-high.ensures.1 in rw (p.1, p.2) (search (rules, in_turn, c.in_ok-low.ensures, c.in_err-high.ensures))

pub returns : goal.returns
returns c = λ rs w. search (rules, in_turn, c.in_ok-low.ensures, c.in_ok-high.ensures)
