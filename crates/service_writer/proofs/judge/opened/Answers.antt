use Rattle.std.proofs.Common.{rules}
use Rattle.service_writer.proofs.Going
use Rattle.service_writer.proofs.judge.opened.Goals as goal

pub returns-then-q-ge16 : goal.returns-then-q-ge16
returns-then-q-ge16 c = Going.stepped_deep _ _ _ c.requires _ _ c.if-q-ge16.true

pub returns : goal.returns
returns c = Going.stepped_open _ _ _ c.requires _ _ _ c.if-q-ge16.false (search rules) c.passed.ensures
