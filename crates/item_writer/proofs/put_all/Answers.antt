use Rattle.std.proofs.Common.{arith, ◌≡◌, ◌+◌, ◌-◌, ◌*◌, ◌/◌, length}
use Rattle.item_judge.specs.Kinds.{rec_of}
use Rattle.item_writer.proofs.Laws.{laying_ready, laying_next, laying_end}
use Rattle.item_writer.proofs.put_all.Goals as goal

pub put_item-at-requires : goal.put_item-at-requires
put_item-at-requires c = laying_ready _ _ _ _ _ _ _ (rec_of c.record_at-r.result) c.record_at-r.ensures (omega arith) c.loop-i.invariant

pub loop-i-preserved : goal.loop-i-preserved
loop-i-preserved c =
    let i = c.loop-i.i in
    let n = length c.args.records.now / 12 in
    let p : 12 * (i + 1) ≡ 12 * i + 12 = omega arith in
    let left : n - (i + 1) ≡ n - i - 1 = omega arith in
    rw (p, left) (laying_next _ _ _ _ _ _ _ (rec_of c.record_at-r.result) c.record_at-r.ensures (omega arith) c.loop-i.invariant _ _ c.put_item-at.ensures)

pub returns : goal.returns
returns c = laying_end _ _ _ _ _ _ _ (omega arith) c.loop-i.invariant
