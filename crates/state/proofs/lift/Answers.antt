use Rattle.std.proofs.Common.{rules, refl}
use Rattle.std.proofs.lemmas.Result.{err_from_is_err_and}
use Rattle.state.proofs.Exact.{lifts_sixty, lifts}
use Rattle.state.proofs.lift.Goals as goal

pub returns-in_err-o : goal.returns-in_err-o
returns-in_err-o c =
    let p = err_from_is_err_and c.from_residual.result c.from_residual.ensures.1 in
    let e = c.in_err-o.ensures in
    rw (p.1, p.2, e.1) (lifts_sixty _ _ e.0 refl)

pub returns-then-not-state_good : goal.returns-then-not-state_good
returns-then-not-state_good c = let size = c.in_ok-o.ensures.1 in search (rules, lifts)

pub returns : goal.returns
returns c = let size = c.in_ok-o.ensures.1 in search (rules, lifts)
