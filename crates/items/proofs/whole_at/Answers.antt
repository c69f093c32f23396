use Rattle.std.proofs.Common.{rules, []}
use Rattle.std.proofs.lemmas.Result.{err_from_is_err_and}
use Rattle.items.proofs.Walk.{one_bad, one_shut, one_alone, one_next, one_no}
use Rattle.items.proofs.Ways.{seen, item_fits}
use Rattle.items.proofs.whole_at.Goals as goal

pub returns-in_err-place : goal.returns-in_err-place
returns-in_err-place c =
    let p = err_from_is_err_and c.from_residual.result c.from_residual.ensures.1 in
    rw (p.1, p.2) (one_bad _ _ _ c.in_err-place.ensures)

pub overflow_add-result : goal.overflow_add-result
overflow_add-result c = search (rules, item_fits _ _ _ _ _ _ _ (seen _ _ _ _ c.in_ok-place.ensures c.in-Item.is))

pub returns-in-Item : goal.returns-in-Item
returns-in-Item c = one_alone _ _ _ _ _ _ _ (seen _ _ _ _ c.in_ok-place.ensures c.in-Item.is)

pub returns-in_err-read-in-Opening : goal.returns-in_err-read-in-Opening
returns-in_err-read-in-Opening c =
    let p = err_from_is_err_and c.from_residual-in_err-read-in-Opening.result c.from_residual-in_err-read-in-Opening.ensures.1 in
    rw (p.1, p.2) (one_no _ _ _ _ (seen _ _ _ _ c.in_ok-place.ensures c.in-Opening.is) [] [] _ c.in_err-read-in-Opening.ensures)

pub returns-in_ok-read-in-Opening : goal.returns-in_ok-read-in-Opening
returns-in_ok-read-in-Opening c = one_next _ _ _ _ (seen _ _ _ _ c.in_ok-place.ensures c.in-Opening.is) _ _ _ _ c.in_ok-read-in-Opening.ensures

pub returns-in-Closing : goal.returns-in-Closing
returns-in-Closing c = one_shut _ _ _ _ (seen _ _ _ _ c.in_ok-place.ensures c.in-Closing.is)
