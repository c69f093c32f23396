use Rattle.std.proofs.Common.{arith}
use Rattle.service_writer.proofs.Items
use Rattle.service_writer.proofs.layouts.front.Goals as goal

pub add-requires : goal.add-requires
add-requires c = omega (arith, c.target-work.ensures.len, Items.target_length c.args.t)

pub returns : goal.returns
returns c = Items.front_held _ _ _ c.target-work.ensures c.add.ensures
