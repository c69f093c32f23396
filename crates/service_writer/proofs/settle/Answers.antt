use Rattle.std.proofs.lemmas.Result.{err_from_is_err_and}
use Rattle.service_writer.proofs.Promise
use Rattle.service_writer.proofs.settle.Goals as goal

pub returns-in_err-read : goal.returns-in_err-read
returns-in_err-read c = let p = err_from_is_err_and c.from_residual.result c.from_residual.ensures.1 in rw (p.1, p.2) (Promise.settle_refused _ _ _ _ _ c.in_err-read.ensures)

pub returns-then-out-o : goal.returns-then-out-o
returns-then-out-o c = Promise.settle_short _ _ _ _ _ c.in_ok-read.ensures c.if-out-o.true

pub returns : goal.returns
returns c = Promise.settle_good _ _ _ _ _ c.in_ok-read.ensures c.if-out-o.false _ c.copy.ensures
