use Rattle.std.proofs.Common.{arith}
use Rattle.service_writer.proofs.Items
use Rattle.service_writer.proofs.layouts.error.Goals as goal

pub item-requires-2 : goal.item-requires-2
item-requires-2 c = (omega (arith, c.new-work.ensures.len, c.item.ensures.len, Items.item_length_lem 144 c.args.f.class), omega arith)

pub returns : goal.returns
returns c = Items.error_held _ _ _ _ c.new-work.ensures c.item.ensures c.item-2.ensures
