use Rattle.std.proofs.Common.{arith}
use Rattle.service_writer.proofs.Items
use Rattle.service_writer.proofs.layouts.target.Goals as goal

pub overflow_mul-t : goal.overflow_mul-t
overflow_mul-t c = omega (arith, Items.not_wide _ c.requires)

pub overflow_add-t : goal.overflow_add-t
overflow_add-t c = omega (arith, Items.not_wide _ c.requires)

pub item-requires : goal.item-requires
item-requires c = (omega (arith, c.new-work.ensures.len, c.object.ensures.len, Items.object_length 12 (Items.word c.args.t)), omega arith)

pub item-requires-then-t : goal.item-requires-then-t
item-requires-then-t c = (omega (arith, c.new-work.ensures.len, c.object.ensures.len, Items.object_length 12 (Items.word c.args.t), c.item.ensures.len, Items.item_length_lem 24 c.args.t.property), omega arith)

pub returns-then-t : goal.returns-then-t
returns-then-t c = Items.target_one _ _ _ _ _ c.new-work.ensures c.object.ensures c.item.ensures c.if-t.true c.item-then-t.ensures

pub returns-else-t : goal.returns-else-t
returns-else-t c = Items.target_none _ _ _ _ c.new-work.ensures c.object.ensures c.item.ensures c.if-t.false
