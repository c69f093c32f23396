use Rattle.std.proofs.Common.{refl}
use Rattle.std.proofs.lemmas.Result.{err_from_is_err_and}
use Rattle.collector.proofs.Eaten.{feeds_unfed}
use Rattle.collector.proofs.Collector.feed.Goals as goal

pub returns-in_err-f : goal.returns-in_err-f
returns-in_err-f c =
    let p = err_from_is_err_and c.from_residual.result c.from_residual.ensures.1 in
    rw (p.1, p.2) (feeds_unfed c.args.self _ _ _ _ c.in_err-f.ensures refl)
