use Rattle.service_writer.proofs.Going.{good_late}
use Rattle.std.proofs.Common.{sym}
use Rattle.service_writer.proofs.judge.early.Goals as goal

pub returns-in-Ok : goal.returns-in-Ok
returns-in-Ok c = rw c.in-Ok.is (sym (good_late c.in-Ok.field-0))
