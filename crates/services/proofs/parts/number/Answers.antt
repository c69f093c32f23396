use Rattle.std.proofs.Common.{rules}
use Rattle.std.proofs.lemmas.Result.{err_from_is_err_and}
use Rattle.services.proofs.Ways.{item_within, item_fits, item_missing, number_breaks, number_keeps, number_four, number_most}
use Rattle.services.proofs.parts.number.Goals as goal

pub returns-in_default : goal.returns-in_default
returns-in_default c = (λ next rs w. search (rules, item_missing), tt)

pub number_rule-requires : goal.number_rule-requires
number_rule-requires c = search (rules, item_within)

pub returns-in_err-number_rule : goal.returns-in_err-number_rule
returns-in_err-number_rule c = let p = err_from_is_err_and c.from_residual.result c.from_residual.ensures.1 in rw (p.1, p.2) (search (rules, number_breaks, c.in_err-number_rule.ensures), tt)

pub value-requires : goal.value-requires
value-requires c = (search (rules, number_four, c.in_ok-number_rule.ensures), search (rules, item_within))

pub overflow_add-result : goal.overflow_add-result
overflow_add-result c = search (rules, item_fits)

pub returns : goal.returns
returns c = (search (rules, number_keeps, c.in_ok-number_rule.ensures), search (rules, number_most, c.in_ok-number_rule.ensures))
