use Rattle.std.proofs.Common.{sym}
use Rattle.std.proofs.lemmas.Result.{err_from_is_err_and}
use Rattle.octets.specs.Refusal.{number_some}
use Rattle.cutter.proofs.Fine.{in_range, front_refused}
use Rattle.cutter.proofs.judge.judge.Goals as goal

pub returns-in_err-judge_front : goal.returns-in_err-judge_front
returns-in_err-judge_front c =
    let p = err_from_is_err_and c.from_residual.result c.from_residual.ensures.1 in
    rw (p.1, p.2) (front_refused _ _ _ _ _ c.in_err-judge_front.ensures (number_some _))

pub segments-count-requires : goal.segments-count-requires
segments-count-requires c = let r = in_range _ _ (sym c.in_ok-judge_front.ensures) in (r.some, r.short, r.few)
