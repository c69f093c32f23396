use Rattle.std.proofs.Common.{arith}
use Rattle.service_writer.proofs.Items
use Rattle.service_writer.proofs.layouts.limits.Goals as goal

pub item-requires-then-w : goal.item-requires-then-w
item-requires-then-w c = (omega (arith, c.new-work.ensures.len, c.item.ensures.len, Items.item_length_lem 8 c.args.w.low), omega arith)

pub returns-then-w : goal.returns-then-w
returns-then-w c = Items.limits_held _ _ _ _ c.new-work.ensures c.if-w.true c.item.ensures c.item-then-w.ensures

pub returns-else-w : goal.returns-else-w
returns-else-w c = Items.limits_not _ _ c.new-work.ensures c.if-w.false
