use Rattle.std.proofs.Common.{refl, arith, length-take-le}
use Rattle.std.proofs.lemmas.Result.{err_from_is_err_and}
use Rattle.octets.specs.Refusal.{number_some}
use Rattle.state.proofs.Fair.{judged_size, stands_refused, stands_linked}
use Rattle.state.proofs.still.Goals as goal

pub returns-in_err-judge : goal.returns-in_err-judge
returns-in_err-judge c =
    let p = err_from_is_err_and c.from_residual.result c.from_residual.ensures.1 in
    rw (p.1, p.2) (stands_refused _ _ _ (λ z. omega (arith, number_some c.in_err-judge.field-0.0)) c.in_err-judge.ensures refl)

pub slice_bounds-link_of-end : goal.slice_bounds-link_of-end
slice_bounds-link_of-end c = omega (arith, length-take-le 9 c.args.area.now (omega (arith, judged_size _ c.in_ok-judge.ensures)))

pub link_of-requires : goal.link_of-requires
link_of-requires c = length-take-le _ _ (omega (arith, judged_size _ c.in_ok-judge.ensures))

pub returns : goal.returns
returns c = stands_linked _ _ c.in_ok-judge.ensures refl c.link_of.ensures
