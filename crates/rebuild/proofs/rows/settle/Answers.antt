use Rattle.rebuild.proofs.Ways.{settles_more, settles_last}
use Rattle.rebuild.proofs.rows.settle.Goals as goal

pub returns-then-g : goal.returns-then-g
returns-then-g c =
    settles_more c.args.t c.args.g c.args.octets.now c.args.area.now c.args.s c.args.n c.with_slot.result c.copy.new.dst c.copy.ensures
    c.wrapping_add_u8.result c.if-g.true c.wrapping_add_u8.ensures.value c.with_slot.ensures

pub returns : goal.returns
returns c =
    settles_last c.args.t c.args.g c.args.octets.now c.args.area.now c.args.s c.args.n c.with_slot-2.result c.copy.new.dst c.copy.ensures
    c.if-g.false c.with_slot-2.ensures
