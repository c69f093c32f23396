use Rattle.std.proofs.Common.{arith, length-set}
use Rattle.playback.proofs.Gathering.{gather_first, gather_more}
use Rattle.playback.proofs.orders.gather.Goals as goal

pub loop-n-init : goal.loop-n-init
loop-n-init c = (gather_first c.args.records.now c.args.out.now c.requires.0 (omega arith), simp length-set (omega arith))

pub loop-n-preserved : goal.loop-n-preserved
loop-n-preserved c =
    let l = c.loop-n in
    (gather_more c.args.records.now l.out l.n l.invariant.0 (omega arith) (omega arith) (omega arith) (omega arith) (omega arith), simp length-set (omega arith))
