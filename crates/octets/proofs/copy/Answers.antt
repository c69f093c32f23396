use Rattle.std.proofs.Common.{refl, arith, length-set}
use Rattle.octets.specs.Splice.{copy_none, copy_more}
use Rattle.octets.proofs.copy.Goals as goal

pub loop-i-init : goal.loop-i-init
loop-i-init c = (refl, copy_none _ _ c.args.src.now)

pub loop-i-preserved : goal.loop-i-preserved
loop-i-preserved c =
    let a = c.args in
    let l = c.loop-i in
    (simp length-set (omega arith), copy_more a.dst.now _ a.src.now a.at l.i (omega arith) (omega arith) l.invariant.1)
