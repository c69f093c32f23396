use Rattle.std.proofs.Common.{sym, ◌∙◌}
use Rattle.octets.specs.Numbers.{digits_four}
use Rattle.service_writer.proofs.Items
use Rattle.service_writer.proofs.work.Work.object.Goals as goal

pub returns : goal.returns
returns c = Items.object_added _ _ _ _ _ _ (c.to_be_bytes.ensures ∙ sym (digits_four c.args.v)) c.add.ensures c.add-2.ensures
