use Rattle.std.proofs.lemmas.Result.{err_from_is_err_and}
use Rattle.std.proofs.Common.{rules, arith, refl, sym}
use Rattle.octets.specs.Laid.{laid_short, laid_over, laid_as}
use Rattle.apdu.proofs.Headers.{header_length_lem}
use Rattle.apdu.proofs.Shown.{fault_fits}
use Rattle.apdu_writer.proofs.Judged.{laid_refused}
use Rattle.apdu_writer.proofs.write.Goals as goal

pub returns-in_err-judge : goal.returns-in_err-judge
returns-in_err-judge c =
    let p = err_from_is_err_and c.from_residual.result c.from_residual.ensures.1 in
    rw (p.1, p.2) (laid_refused _ _ _ _ c.in_err-judge.ensures)

pub returns-then-out-n : goal.returns-then-out-n
returns-then-out-n c = laid_as c.in_ok-judge.ensures refl (laid_short _ _ (rw header_length_lem (omega arith)))

pub put_header-requires : goal.put_header-requires
put_header-requires c = (rw header_length_lem (omega arith), fault_fits c.args.edition c.args.p (sym c.in_ok-judge.ensures))

pub returns : goal.returns
returns c =
    laid_over _ _ _ _ _ (sym c.in_ok-judge.ensures) (rw header_length_lem (search rules)) (rw header_length_lem (omega arith)) (search rules)
