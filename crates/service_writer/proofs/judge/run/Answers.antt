use Rattle.std.proofs.Common.{arith, sym, ◌∙◌}
use Rattle.std.proofs.lemmas.Result.{err_from_is_err_and}
use Rattle.service_writer.proofs.Going
use Rattle.service_writer.proofs.judge.run.Goals as goal

pub returns-then-q-eq0 : goal.returns-then-q-eq0
returns-then-q-eq0 c = Going.ran_full _ _ _ _ c.loop-q.invariant c.loop-q-test.true c.if-q-eq0.true

pub returns-then-early : goal.returns-then-early
returns-then-early c = Going.ran_early _ _ _ _ c.loop-q.invariant c.loop-q-test.true (omega (arith, c.if-q-eq0.false)) _ c.head-t.ensures (sym c.early.ensures ∙ c.if-early.true)

pub returns-in_err-t : goal.returns-in_err-t
returns-in_err-t c = let p = err_from_is_err_and c.from_residual.result c.from_residual.ensures.1 in rw (p.1, p.2) (Going.ran_bad _ _ _ _ c.loop-q.invariant c.loop-q-test.true (omega (arith, c.if-q-eq0.false)) _ c.head-t.ensures (sym c.early.ensures ∙ c.if-early.false) _ c.in_err-t.was)

pub next-requires : goal.next-requires
next-requires c = (Going.ready_now _ _ _ _ c.loop-q.invariant c.loop-q-test.true (omega (arith, c.if-q-eq0.false)) _ c.head-t.ensures, Going.fits_now _ _ _ _ c.loop-q.invariant c.loop-q-test.true (omega (arith, c.if-q-eq0.false)) _ c.head-t.ensures c.requires.0 _ c.in_ok-t.was)

pub returns-in_err-q : goal.returns-in_err-q
returns-in_err-q c = let p = err_from_is_err_and c.from_residual-in_err-q.result c.from_residual-in_err-q.ensures.1 in rw (p.1, p.2) (Going.ran_refused _ _ _ _ c.loop-q.invariant c.loop-q-test.true (omega (arith, c.if-q-eq0.false)) _ c.head-t.ensures (sym c.early.ensures ∙ c.if-early.false) _ c.in_ok-t.was _ c.in_err-q.ensures)

pub loop-q-smaller : goal.loop-q-smaller
loop-q-smaller c = omega (arith, Going.further _ _ _ _ c.loop-q.invariant c.loop-q-test.true (omega (arith, c.if-q-eq0.false)) _ c.head-t.ensures (sym c.early.ensures ∙ c.if-early.false) _ c.in_ok-t.was _ c.in_ok-q.ensures)

pub loop-q-preserved : goal.loop-q-preserved
loop-q-preserved c = Going.sofar_next _ _ _ _ c.loop-q.invariant c.loop-q-test.true (omega (arith, c.if-q-eq0.false)) _ c.head-t.ensures (sym c.early.ensures ∙ c.if-early.false) _ c.in_ok-t.was _ c.in_ok-q.ensures
