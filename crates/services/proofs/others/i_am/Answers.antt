use Rattle.std.proofs.Common.{rules}
use Rattle.std.proofs.lemmas.Result.{err_from_is_err_and}
use Rattle.services.specs.Reading.{i_am}
use Rattle.services.proofs.Ways.{in_turn}
use Rattle.services.proofs.others.i_am.Goals as goal

pub returns-in_err-v : goal.returns-in_err-v
unfolding i_am
returns-in_err-v c = λ rs w. search (rules, in_turn)

pub returns-in_err-longest : goal.returns-in_err-longest
unfolding i_am
returns-in_err-longest c = λ rs w. let p = err_from_is_err_and c.from_residual-in_err-longest.result c.from_residual-in_err-longest.ensures.1 in rw (p.1, p.2) (search (rules, in_turn, c.in_ok-v.ensures, c.in_err-longest.ensures))

pub returns-in_err-segmentation : goal.returns-in_err-segmentation
unfolding i_am
returns-in_err-segmentation c = λ rs w. let p = err_from_is_err_and c.from_residual-in_err-segmentation.result c.from_residual-in_err-segmentation.ensures.1 in rw (p.1, p.2) (search (rules, in_turn, c.in_ok-v.ensures, c.in_ok-longest.ensures, c.in_err-segmentation.ensures))

pub returns-in_err-vendor : goal.returns-in_err-vendor
unfolding i_am
returns-in_err-vendor c = λ rs w. let p = err_from_is_err_and c.from_residual-in_err-vendor.result c.from_residual-in_err-vendor.ensures.1 in rw (p.1, p.2) (search (rules, in_turn, c.in_ok-v.ensures, c.in_ok-longest.ensures, c.in_ok-segmentation.ensures, c.in_err-vendor.ensures))

pub returns : goal.returns
unfolding i_am
returns c = λ rs w. search (rules, in_turn, c.in_ok-v.ensures, c.in_ok-longest.ensures, c.in_ok-segmentation.ensures, c.in_ok-vendor.ensures)
