use Rattle.std.proofs.Common.{arith, refl}
use Rattle.service_writer.proofs.Beyond
use Rattle.service_writer.proofs.judge.rest.Goals as goal

pub returns : goal.returns
returns c = Beyond.tail_read c.args.s.now c.args.behind.now c.args.request c.args.q c.requires.0 (omega (arith, c.if-n-ge9.false)) c.requires.1 _ _ _ refl c.copy.ensures c.copy-2.ensures _ c.finish.ensures
