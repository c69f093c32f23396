use Rattle.std.proofs.Common.{rules}
use Rattle.feeding.proofs.Datas.{length_fits, first_past, first_on}
use Rattle.feeding.proofs.lay_first.Goals as goal

pub returns-then-got-n : goal.returns-then-got-n
returns-then-got-n c = search (rules, first_past)

pub overflow_add-n : goal.overflow_add-n
overflow_add-n c = search (rules, length_fits)

pub returns : goal.returns
returns c = search (rules, first_on)
