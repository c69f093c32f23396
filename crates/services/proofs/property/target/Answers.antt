use Rattle.std.proofs.Common.{rules}
use Rattle.std.proofs.lemmas.Result.{err_from_is_err_and}
use Rattle.services.specs.Reading.{target_parts}
use Rattle.services.proofs.Ways.{in_turn}
use Rattle.services.proofs.property.target.Goals as goal

pub returns-in_err-v : goal.returns-in_err-v
unfolding target_parts
returns-in_err-v c = search (rules, in_turn)

pub returns-in_err-property : goal.returns-in_err-property
unfolding target_parts
returns-in_err-property c = let p = err_from_is_err_and c.from_residual-in_err-property.result c.from_residual-in_err-property.ensures.1 in rw (p.1, p.2) (λ next rs w. search (rules, in_turn, c.in_ok-v.ensures, c.in_err-property.ensures))

pub returns-in_err-index : goal.returns-in_err-index
unfolding target_parts
returns-in_err-index c = let p = err_from_is_err_and c.from_residual-in_err-index.result c.from_residual-in_err-index.ensures.1 in rw (p.1, p.2) (λ next rs w. search (rules, in_turn, c.in_ok-v.ensures, c.in_ok-property.ensures, c.in_err-index.ensures))

pub returns : goal.returns
unfolding target_parts
returns c = λ next r h rs w. search (rules, in_turn, c.in_ok-v.ensures, c.in_ok-property.ensures, c.in_ok-index.ensures)
