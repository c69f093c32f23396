use Rattle.std.proofs.Common.{arith}
use Rattle.npdu.proofs.Fill.{filled}
use Rattle.npdu.proofs.part.address.Goals as goal

pub returns : goal.returns
returns c = filled _ _ _ c.args.n (omega arith) c.copy.ensures
