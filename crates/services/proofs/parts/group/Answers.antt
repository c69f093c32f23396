use Rattle.std.proofs.Common.{rules}
use Rattle.std.proofs.lemmas.Result.{err_from_is_err_and}
use Rattle.services.proofs.Ways.{groups, group_some, group_room, group_none, group_refused}
use Rattle.services.proofs.parts.group.Goals as goal

pub returns-in_default : goal.returns-in_default
returns-in_default c = group_refused _ _ _ _ c.head.ensures c.in_default.not-Ok

pub returns-in_default-t : goal.returns-in_default-t
returns-in_default-t c = group_none _ _ _ _ c.in-Ok.ensures c.in_default-t.not-Opening

pub returns-then-n-number : goal.returns-then-n-number
returns-then-n-number c = search (rules, groups, c.in-Ok.ensures)

pub returns-in_err-to : goal.returns-in_err-to
returns-in_err-to c = let p = err_from_is_err_and c.from_residual.result c.from_residual.ensures.1 in rw (p.1, p.2) (search (rules, groups, c.in-Ok.ensures, c.in_err-to.ensures))

pub overflow_sub-value : goal.overflow_sub-value
overflow_sub-value c = search (rules, group_some, c.in-Ok.ensures, c.in_ok-to.ensures)

pub overflow_sub-value-2 : goal.overflow_sub-value-2
overflow_sub-value-2 c = search (rules, group_room, c.in-Ok.ensures, c.in_ok-to.ensures)

pub returns : goal.returns
returns c = search (rules, groups, c.in-Ok.ensures, c.in_ok-to.ensures)
