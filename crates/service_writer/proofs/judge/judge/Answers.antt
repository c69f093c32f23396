use Rattle.std.proofs.Common.{refl}
use Rattle.std.proofs.lemmas.Result.{err_from_is_err_and}
use Rattle.service_writer.proofs.Beyond
use Rattle.service_writer.proofs.judge.judge.Goals as goal

pub returns-in_err-q : goal.returns-in_err-q
returns-in_err-q c = let p = err_from_is_err_and c.from_residual.result c.from_residual.ensures.1 in rw (p.1, p.2) (Beyond.judged_refused _ _ _ _ _ refl _ c.in_err-q.ensures)

pub returns : goal.returns
returns c = Beyond.judged_rest _ _ _ _ _ refl _ c.in_ok-q.ensures _ c.rest.ensures
