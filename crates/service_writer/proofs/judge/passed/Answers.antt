use Rattle.std.proofs.Common.{rules}
use Rattle.std.proofs.lemmas.Result.{err_from_is_err_and}
use Rattle.service_writer.proofs.Phases.{passed_wrong, passes}
use Rattle.service_writer.proofs.judge.passed.Goals as goal

pub returns-in_err-x : goal.returns-in_err-x
returns-in_err-x c = let p = err_from_is_err_and c.from_residual.result c.from_residual.ensures.1 in rw (p.1, p.2) (search (rules, passed_wrong, c.in_err-x.was))

pub returns-then-request : goal.returns-then-request
returns-then-request c = search (rules, passes, c.in_ok-x.was)

pub returns-else-request : goal.returns-else-request
returns-else-request c = search (rules, passes, c.in_ok-x.was)

pub returns-in-Inside-2 : goal.returns-in-Inside-2
returns-in-Inside-2 c = search (rules, passes, c.in_ok-x.was)

pub returns-in-Inside-2-2 : goal.returns-in-Inside-2-2
returns-in-Inside-2-2 c = search (rules, passes, c.in_ok-x.was)

pub returns-in-Behind : goal.returns-in-Behind
returns-in-Behind c = search (rules, passes, c.in_ok-x.was)

pub returns-in-Behind-2 : goal.returns-in-Behind-2
returns-in-Behind-2 c = search (rules, passes, c.in_ok-x.was)

pub returns-in-Behind-2-2 : goal.returns-in-Behind-2-2
returns-in-Behind-2-2 c = search (rules, passes, c.in_ok-x.was)

pub returns-in-Behind-2-3 : goal.returns-in-Behind-2-3
returns-in-Behind-2-3 c = search (rules, passes, c.in_ok-x.was)
