use Rattle.std.proofs.Common.{arith}
use Rattle.tags.proofs.ByClass.{at_boolean_bad, at_boolean}
use Rattle.tags.proofs.kinds.boolean.Goals as goal

pub returns-then-b-gt1 : goal.returns-then-b-gt1
returns-then-b-gt1 c = at_boolean_bad _ _ _ c.requires.0 c.requires.1 (omega arith)

pub returns : goal.returns
returns c = at_boolean _ _ _ c.requires.0 c.requires.1 (omega arith)
