use Rattle.std.proofs.Common.{rules}
use Rattle.std.proofs.lemmas.Result.{err_from_is_err_and}
use Rattle.state.proofs.Fair.{judge_sized, judge_ways}
use Rattle.state.proofs.judge.Goals.{then-not-link_fair-via-then-not-link_fair, then-not-link_fair-via-else-not-link_fair+then-o-gt1, then-not-link_fair-via-else-not-link_fair+else-o-gt1+then-not-slots_pass}
use Rattle.state.proofs.judge.Goals as goal

pub returns-in_err-o : goal.returns-in_err-o
returns-in_err-o c =
    let p = err_from_is_err_and c.from_residual.result c.from_residual.ensures.1 in
    let e = c.in_err-o.ensures in
    rw (p.1, p.2, e.1) (judge_sized _ e.0)

pub returns-then-not-link_fair : goal.returns-then-not-link_fair
returns-then-not-link_fair c =
    let o = c.in_ok-o.ensures in
    let size = rw (← o.0) at o.1 in
    rw (← o.0)
    (elim c.then-not-link_fair.branch [
      | then-not-link_fair-via-then-not-link_fair w ↦ search (rules, judge_ways)
      | then-not-link_fair-via-else-not-link_fair+then-o-gt1 w ↦ search (rules, judge_ways)
      | then-not-link_fair-via-else-not-link_fair+else-o-gt1+then-not-slots_pass w ↦ search (rules, judge_ways)
    ])

pub returns : goal.returns
returns c =
    let o = c.in_ok-o.ensures in
    let size = rw (← o.0) at o.1 in
    rw (← o.0) (search (rules, judge_ways))
