use Rattle.std.proofs.Common.{rules}
use Rattle.std.proofs.lemmas.Result.{err_from_is_err_and}
use Rattle.items.proofs.Ways.{seen}
use Rattle.reader.proofs.Ways.{steps, item_fits, item, closing, refused, group, opened}
use Rattle.reader.proofs.step_at.Goals as goal

pub returns-then-params-gt16384 : goal.returns-then-params-gt16384
returns-then-params-gt16384 c = search (rules, steps)

pub returns-then-params-at : goal.returns-then-params-at
returns-then-params-at c = search (rules, steps)

pub returns-in_err-class : goal.returns-in_err-class
returns-in_err-class c =
    let p = err_from_is_err_and c.from_residual.result c.from_residual.ensures.1 in
    rw (p.1, p.2) (refused _ _ c.if-params-gt16384.false c.if-params-at.false _ c.in_err-class.ensures)

pub overflow_add-result : goal.overflow_add-result
overflow_add-result c = search (rules, item_fits _ _ _ _ _ _ _ (seen _ _ _ _ c.in_ok-class.ensures c.in-Item.is))

pub returns-in-Item : goal.returns-in-Item
returns-in-Item c = item _ _ c.if-params-gt16384.false c.if-params-at.false _ _ _ _ _ (seen _ _ _ _ c.in_ok-class.ensures c.in-Item.is) _ c.kind.ensures

pub returns-in_err-next-in-Opening : goal.returns-in_err-next-in-Opening
returns-in_err-next-in-Opening c =
    let p = err_from_is_err_and c.from_residual-in_err-next-in-Opening.result c.from_residual-in_err-next-in-Opening.ensures.1 in
    rw (p.1, p.2) (opened _ _ c.if-params-gt16384.false c.if-params-at.false _ c.in_err-next-in-Opening.ensures)

pub returns-in_ok-next-in-Opening : goal.returns-in_ok-next-in-Opening
returns-in_ok-next-in-Opening c = group _ _ c.if-params-gt16384.false c.if-params-at.false _ _ _ (seen _ _ _ _ c.in_ok-class.ensures c.in-Opening.is) c.in_ok-next-in-Opening.ensures

pub returns-in-Closing : goal.returns-in-Closing
returns-in-Closing c = closing _ _ c.if-params-gt16384.false c.if-params-at.false _ _ (seen _ _ _ _ c.in_ok-class.ensures c.in-Closing.is)
