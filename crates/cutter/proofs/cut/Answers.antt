use Rattle.std.proofs.Common.{arith, refl, sym}
use Rattle.std.proofs.lemmas.Result.{err_from_is_err_and}
use Rattle.octets.specs.Laid.{laid_fault, laid_short, laid_over, laid_as}
use Rattle.octets.specs.Refusal.{number_some}
use Rattle.cutter.proofs.Fine.{fine}
use Rattle.cutter.proofs.Lengths.{size_all}
use Rattle.cutter.proofs.cut.Goals as goal

pub returns-in_err-segments : goal.returns-in_err-segments
returns-in_err-segments c =
    let p = err_from_is_err_and c.from_residual.result c.from_residual.ensures.1 in
    let e = c.in_err-segments.ensures in
    rw (p.1, p.2) (record { laid = rw e (laid_fault _ _ _ (λ z. omega (arith, e, number_some c.in_err-segments.field-0.0))); segments = refl })

pub size-octets-requires : goal.size-octets-requires
size-octets-requires c = let g = fine _ _ _ _ c.in_ok-segments.ensures.0 in (omega (arith, g.bounded, c.in_ok-segments.ensures.1), g.range.few)

pub returns-then-out-octets : goal.returns-then-out-octets
returns-then-out-octets c =
    let g = fine _ _ _ _ c.in_ok-segments.ensures.0 in
    let a = c.args in
    let s = size_all a.m a.w a.params.now g.range.some c.in_ok-segments.ensures.1 c.size-octets.ensures in
    record { laid = laid_as {f = 0} (sym g.none) refl (laid_short _ _ (omega (arith, s, c.if-out-octets.true))); segments = refl }

pub put_all-requires : goal.put_all-requires
put_all-requires c =
    let g = fine _ _ _ _ c.in_ok-segments.ensures.0 in
    let a = c.args in
    let s = size_all a.m a.w a.params.now g.range.some c.in_ok-segments.ensures.1 c.size-octets.ensures in
    record { fine = g.none; all = c.in_ok-segments.ensures.1; room = omega (arith, s, c.if-out-octets.false) }

pub returns : goal.returns
returns c =
    let g = fine _ _ _ _ c.in_ok-segments.ensures.0 in
    let a = c.args in
    let s = size_all a.m a.w a.params.now g.range.some c.in_ok-segments.ensures.1 c.size-octets.ensures in
    record { laid = laid_over _ _ _ _ _ g.none s (omega (arith, s, c.if-out-octets.false)) c.put_all.ensures; segments = c.in_ok-segments.ensures.1 }
