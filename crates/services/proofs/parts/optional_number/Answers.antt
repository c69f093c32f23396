use Rattle.std.proofs.Common.{rules}
use Rattle.std.proofs.lemmas.Result.{err_from_is_err_and}
use Rattle.services.proofs.Ways.{options}
use Rattle.services.proofs.parts.optional_number.Goals as goal

pub returns-then-not-present : goal.returns-then-not-present
returns-then-not-present c = (λ next r h rs w. search (rules, options), tt)

pub returns-in_err-v : goal.returns-in_err-v
returns-in_err-v c = let p = err_from_is_err_and c.from_residual.result c.from_residual.ensures.1 in rw (p.1, p.2) (λ next rs w. search (rules, options, c.in_err-v.ensures), tt)

pub returns : goal.returns
returns c = (λ next r h rs w. search (rules, options, c.in_ok-v.ensures), c.in_ok-v.ensures.1)
