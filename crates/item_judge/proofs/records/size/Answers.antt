use Rattle.std.proofs.Common.{rules, arith}
use Rattle.item_judge.specs.OneLayout.{size_of}
use Rattle.item_judge.proofs.Stack.{number_short, length_short}
use Rattle.item_judge.proofs.records.size.Goals as goal

pub overflow_add-result : goal.overflow_add-result
unfolding size_of
overflow_add-result c = omega (arith, c.number_size.ensures, number_short c.args.r.number)

pub overflow_add-result-2 : goal.overflow_add-result-2
unfolding size_of
overflow_add-result-2 c = omega (arith, c.number_size.ensures, number_short c.args.r.number, c.length_size.ensures, length_short c.args.r.len)

pub overflow_add-result-3 : goal.overflow_add-result-3
unfolding size_of
overflow_add-result-3 c = omega (arith, c.number_size.ensures, number_short c.args.r.number, c.length_size.ensures, length_short c.args.r.len)

pub returns : goal.returns
unfolding size_of
returns c = search rules
