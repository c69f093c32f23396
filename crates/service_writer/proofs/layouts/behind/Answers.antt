use Rattle.std.proofs.Common.{refl}
use Rattle.service_writer.proofs.Items
use Rattle.service_writer.proofs.layouts.behind.Goals as goal

pub returns-in-Some : goal.returns-in-Some
returns-in-Some c = rw c.in-Some.is (Items.behind_one _ _ _ _ c.new-work.ensures c.add.ensures _ refl c.item.ensures)

pub returns-in_default : goal.returns-in_default
returns-in_default c = rw c.in_default.is (Items.behind_none _ _ _ _ c.new-work.ensures c.add.ensures refl)
