use Rattle.std.proofs.Common.{sym}
use Rattle.item_judge.proofs.Stack.{stack_length}
use Rattle.item_judge.proofs.nesting.Open.depth.Goals as goal

pub returns : goal.returns
returns c = rw (← c.self.view_is) (sym (stack_length _ _))
