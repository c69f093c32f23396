use Rattle.std.proofs.Common.{refl, inl, inr}
use Rattle.std.proofs.lemmas.Result.{err_from_is_err_and}
use Rattle.collector.proofs.Hushed.{hush_left, hush_quiet, hush_frame, hush_damage}
use Rattle.collector.proofs.lent.hush.Goals as goal

pub returns-in_err-f : goal.returns-in_err-f
returns-in_err-f c t p e s =
    let q = err_from_is_err_and c.from_residual.result c.from_residual.ensures.1 in
    rw (q.1, q.2) (hush_left e c.args.link t c.args.report.now s c.requires p _ c.in_err-f.ensures refl)

pub returns-in-Damage : goal.returns-in-Damage
returns-in-Damage c t p e s = hush_damage e c.args.link t c.args.report.now s c.requires p _ c.in_ok-f.ensures refl c.in-Damage.is c.put_damage.ensures

pub returns-in-Quiet : goal.returns-in-Quiet
returns-in-Quiet c t p e s =
    elim c.in-Quiet.is [
      | inl o ↦ hush_quiet e c.args.link t c.args.report.now s c.requires p _ c.in_ok-f.ensures refl o
      | inr o ↦ hush_frame e c.args.link t c.args.report.now s c.requires p _ c.in_ok-f.ensures refl o
    ]
