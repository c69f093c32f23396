use Rattle.std.proofs.Common.{arith, ◌+◌}
use Rattle.service_writer.proofs.Items
use Rattle.service_writer.proofs.layouts.device.Goals as goal

pub item-requires : goal.item-requires
item-requires c = (omega (arith, c.new-work.ensures.len, c.object.ensures.len, Items.object_length 196 (33554432 + c.args.i.instance)), omega arith)

pub item-requires-2 : goal.item-requires-2
item-requires-2 c = (omega (arith, c.new-work.ensures.len, c.object.ensures.len, Items.object_length 196 (33554432 + c.args.i.instance), c.item.ensures.len, Items.item_length_lem 32 c.args.i.longest), omega arith)

pub item-requires-3 : goal.item-requires-3
item-requires-3 c = (omega (arith, c.new-work.ensures.len, c.object.ensures.len, Items.object_length 196 (33554432 + c.args.i.instance), c.item.ensures.len, Items.item_length_lem 32 c.args.i.longest, c.item-2.ensures.len, Items.item_length_lem 144 c.args.i.segmentation), omega arith)

pub returns : goal.returns
returns c = Items.device_held _ _ _ _ _ _ c.new-work.ensures c.object.ensures c.item.ensures c.item-2.ensures c.item-3.ensures
