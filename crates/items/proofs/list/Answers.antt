use Rattle.std.proofs.lemmas.Result.{err_from_is_err_and}
use Rattle.items.proofs.Listing.{listed_none, listed_small, listed_good, listed_bad}
use Rattle.items.proofs.list.Goals as goal

pub returns-in_err-n : goal.returns-in_err-n
returns-in_err-n c =
    let p = err_from_is_err_and c.from_residual.result c.from_residual.ensures.1 in
    rw (p.1, p.2) (listed_bad _ _ _ _ _ c.in_err-n.ensures)

pub returns-then-n-eq0 : goal.returns-then-n-eq0
returns-then-n-eq0 c = listed_none _ _ _ _ _ c.in_ok-n.ensures c.if-n-eq0.true

pub returns-then-out-n : goal.returns-then-out-n
returns-then-out-n c = listed_small _ _ _ _ _ c.in_ok-n.ensures c.if-out-n.true

pub returns : goal.returns
returns c = listed_good _ _ _ _ _ c.in_ok-n.ensures c.if-out-n.false _ _ c.in_ok-run.ensures
