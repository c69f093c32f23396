use Rattle.std.proofs.Common.{arith, ap, ◌+◌}
use Rattle.cutter.proofs.Fine.{fine}
use Rattle.cutter.proofs.Turns.{laying_start, laying_npdu, laying_part, laying_room, laying_next, laying_end}
use Rattle.cutter.proofs.laying.put_all.Goals as goal

pub loop-k-init : goal.loop-k-init
loop-k-init c = laying_start _ _ _ _ _

pub overflow_cast-k : goal.overflow_cast-k
overflow_cast-k c = let f = fine _ _ _ _ c.requires.fine in omega (arith, f.bounded, c.requires.all)

pub put_npdu-at-requires : goal.put_npdu-at-requires
put_npdu-at-requires c =
    let l = c.loop-k.invariant in
    let f = fine _ _ _ _ c.requires.fine in
    let n = laying_npdu l _ _ _ _ c.network_head-head.ensures c.pdu_of-p.ensures (omega (arith, f.bounded, c.requires.all, c.loop-k-test.true)) (laying_part l (ap (λ x. c.loop-k.from + x) c.min.ensures)) in
    (rw c.network_head-head.ensures f.range.network, rw c.pdu_of-p.ensures (f.header _ _), rw n (laying_room l c.requires c.loop-k-test.true))

pub loop-k-preserved : goal.loop-k-preserved
loop-k-preserved c =
    let l = c.loop-k.invariant in
    let f = fine _ _ _ _ c.requires.fine in
    let t = ap (λ x. c.loop-k.from + x) c.min.ensures in
    let n = laying_npdu l _ _ _ _ c.network_head-head.ensures c.pdu_of-p.ensures (omega (arith, f.bounded, c.requires.all, c.loop-k-test.true)) (laying_part l t) in
    laying_next l c.requires c.loop-k-test.true t (rw n at c.put_npdu-at.ensures)

pub returns : goal.returns
returns c = laying_end c.loop-k.invariant c.requires (omega arith)
