use Rattle.std.proofs.lemmas.Result.{err_from_is_err_and}
use Rattle.frames.proofs.Calls.{refused_as}
use Rattle.frames.proofs.Receiver.feed.Goals as goal

pub returns-in_err-eaten : goal.returns-in_err-eaten
returns-in_err-eaten c =
    let p = err_from_is_err_and c.from_residual.result c.from_residual.ensures.1 in
    rw (p.1, p.2) (refused_as _ _ _ _ c.in_err-eaten.ensures)
