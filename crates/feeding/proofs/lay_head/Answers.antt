use Rattle.std.proofs.Common.{rules}
use Rattle.feeding.proofs.Fronts.{lay_begin, lay_more, lay_whole, lay_end}
use Rattle.feeding.proofs.lay_head.Goals as goal

pub loop-i-init : goal.loop-i-init
loop-i-init c = search (rules, lay_begin)

pub returns-then-got-ge5 : goal.returns-then-got-ge5
returns-then-got-ge5 c = search (rules, lay_whole)

pub loop-i-preserved : goal.loop-i-preserved
loop-i-preserved c = rw c.from.ensures (search (rules, lay_more))

pub returns : goal.returns
returns c = search (rules, lay_end)
