use Rattle.std.proofs.Common.{arith}
use Rattle.cutter.proofs.Pieces.{writes, put_laid}
use Rattle.cutter.proofs.laying.put_network.Goals as goal

pub unwrap-requires : goal.unwrap-requires
unwrap-requires c = writes c.args.out.now c.args.at _ c.requires.0 c.requires.1 c.write.ensures

pub overflow_add-result : goal.overflow_add-result
overflow_add-result c = omega (arith, (put_laid c.args.out.now c.args.at _ c.requires.0 c.requires.1 c.write.ensures c.unwrap.ensures).after, c.requires.1)

pub returns : goal.returns
returns c = put_laid c.args.out.now c.args.at _ c.requires.0 c.requires.1 c.write.ensures c.unwrap.ensures
