use Rattle.std.proofs.Common.{arith}
use Rattle.std.proofs.lemmas.Result.{err_from_is_err_and}
use Rattle.service_writer.proofs.Going
use Rattle.service_writer.proofs.judge.finish.Goals as goal

pub returns-in_err-q : goal.returns-in_err-q
returns-in_err-q c = let p = err_from_is_err_and c.from_residual.result c.from_residual.ensures.1 in rw (p.1, p.2) (Going.ended_refused _ _ _ _ c.in_err-q.ensures)

pub returns-then-q-s : goal.returns-then-q-s
returns-then-q-s c = Going.ended_early _ _ _ _ c.in_ok-q.ensures c.if-q-s.true

pub returns-then-q-gt0 : goal.returns-then-q-gt0
returns-then-q-gt0 c = Going.ended_open _ _ _ _ c.in_ok-q.ensures c.if-q-s.false c.if-q-gt0.true

pub returns-in-Inside : goal.returns-in-Inside
returns-in-Inside c = Going.ended_inside _ _ _ _ c.in_ok-q.ensures c.if-q-s.false (omega (arith, c.if-q-gt0.false)) _ c.in_ok-q-2.was c.in-Inside.is

pub returns-in_default : goal.returns-in_default
returns-in_default c = Going.ended_good _ _ _ _ c.in_ok-q.ensures c.if-q-s.false (omega (arith, c.if-q-gt0.false)) _ c.in_ok-q-2.was c.in_default.not-Inside

pub returns-in_err-q-2 : goal.returns-in_err-q-2
returns-in_err-q-2 c = let p = err_from_is_err_and c.from_residual-in_err-q-2.result c.from_residual-in_err-q-2.ensures.1 in rw (p.1, p.2) (Going.ended_wrong _ _ _ _ c.in_ok-q.ensures c.if-q-s.false (omega (arith, c.if-q-gt0.false)) _ c.in_err-q-2.was)
