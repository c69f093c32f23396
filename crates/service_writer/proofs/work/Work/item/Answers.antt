use Rattle.std.proofs.Common.{arith, sym, ◌∙◌}
use Rattle.octets.specs.Numbers.{width_range, digits_four}
use Rattle.service_writer.proofs.Items
use Rattle.service_writer.proofs.work.Work.item.Goals as goal

pub overflow_cast-w : goal.overflow_cast-w
overflow_cast-w c = omega (arith, width_range c.args.v, c.width-w.ensures)

pub overflow_add-head : goal.overflow_add-head
overflow_add-head c = omega (arith, width_range c.args.v, c.width-w.ensures, c.requires.1)

pub overflow_sub-w : goal.overflow_sub-w
overflow_sub-w c = omega (arith, width_range c.args.v, c.width-w.ensures)

pub returns : goal.returns
returns c = Items.item_added _ _ _ _ _ _ _ c.width-w.ensures (c.to_be_bytes.ensures ∙ sym (digits_four c.args.v)) c.add.ensures c.add-2.ensures
