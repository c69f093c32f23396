use Rattle.std.proofs.Common.{rules}
use Rattle.items.proofs.Walk.{ran_long}
use Rattle.items.proofs.run.Goals as goal

pub returns-then-s-gt16384 : goal.returns-then-s-gt16384
returns-then-s-gt16384 c = search (rules, ran_long)
