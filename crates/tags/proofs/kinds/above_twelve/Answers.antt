use Rattle.std.proofs.Common.{rules}
use Rattle.tags.proofs.ByClass.{at_above, at_last_six, at_last_short, at_last}
use Rattle.tags.proofs.kinds.above_twelve.Goals as goal

pub returns-then-b-lt15 : goal.returns-then-b-lt15
returns-then-b-lt15 c = search (rules, at_above)

pub returns-then-b-gt5 : goal.returns-then-b-gt5
returns-then-b-gt5 c = search (rules, at_last_six)

pub returns-then-s-at : goal.returns-then-s-at
returns-then-s-at c = search (rules, at_last_short)

pub returns : goal.returns
returns c = search (rules, at_last)
