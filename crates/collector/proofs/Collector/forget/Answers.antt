use Rattle.std.proofs.lemmas.Result.{err_from_is_err_and}
use Rattle.collector.proofs.Collector.forget.Goals as goal

pub returns-in_err-forget : goal.returns-in_err-forget
returns-in_err-forget c =
    let p = err_from_is_err_and c.from_residual.result c.from_residual.ensures.1 in
    rw (p.1, p.2) (c.in_err-forget.ensures c.args.self.edition c.args.self.receiver.store)

pub returns : goal.returns
returns c = c.in_ok-forget.ensures c.args.self.edition c.args.self.receiver.store
