use Rattle.std.proofs.Common.{arith, refl, sym}
use Rattle.std.proofs.lemmas.Result.{err_from_is_err_and}
use Rattle.octets.specs.Laid.{laid_short, laid_over, laid_fault, laid_as}
use Rattle.item_writer.proofs.Laws.{judged_takes, judged_refused}
use Rattle.item_writer.proofs.write.Goals as goal

pub returns-in_err-size : goal.returns-in_err-size
returns-in_err-size c =
    let p = err_from_is_err_and c.from_residual.result c.from_residual.ensures.1 in
    let t = judged_refused _ _ _ c.in_err-size.ensures in
    rw (p.1, p.2) (laid_as (sym t.0) refl (laid_fault _ _ _ t.1))

pub returns-then-out-size : goal.returns-then-out-size
returns-then-out-size c =
    let t = judged_takes _ _ _ c.in_ok-size.ensures in
    laid_as (sym t.0) refl (laid_short _ _ (omega (arith, t.1, c.if-out-size.true)))

pub put_all-requires : goal.put_all-requires
put_all-requires c =
    let t = judged_takes _ _ _ c.in_ok-size.ensures in
    (t.2, omega (arith, t.1, c.if-out-size.false))

pub returns : goal.returns
returns c =
    let t = judged_takes _ _ _ c.in_ok-size.ensures in
    laid_over _ _ _ _ _ t.0 t.1 (omega (arith, t.1, c.if-out-size.false)) c.put_all.ensures
