use Rattle.std.proofs.lemmas.Result.{err_from_is_err_and}
use Rattle.collector.proofs.Collector.silence.Goals as goal

pub returns-in_err-f : goal.returns-in_err-f
returns-in_err-f c =
    let p = err_from_is_err_and c.from_residual.result c.from_residual.ensures.1 in
    rw (p.1, p.2) (c.in_err-f.ensures c.args.self.edition c.args.self.receiver.store)

pub returns : goal.returns
returns c = c.in_ok-f.ensures c.args.self.edition c.args.self.receiver.store
