use Rattle.std.proofs.Common.{rules, arith, ap, length, ◌<◌}
use Rattle.item_judge.proofs.Stack.{stack_length, stack_push}
use Rattle.item_judge.proofs.nesting.Open.open.Goals as goal

pub returns : goal.returns
returns c =
    let h : c.self.inside.groups.depth < 16 = omega (arith, stack_length c.self.inside.groups.numbers c.self.inside.groups.depth, ap length c.self.view_is) in
    rw (← c.self.view_is) (stack_push c.self.inside.groups.numbers c.args.n c.self.inside.groups.depth (search (rules, h)))
