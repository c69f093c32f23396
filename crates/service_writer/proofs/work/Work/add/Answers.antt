use Rattle.std.proofs.Common.{arith, refl}
use Rattle.service_writer.proofs.Items
use Rattle.service_writer.proofs.work.Work.add.Goals as goal

pub returns : goal.returns
returns c = Items.added _ _ _ (omega arith) c.requires c.copy.ensures refl
