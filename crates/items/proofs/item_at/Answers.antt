use Rattle.std.proofs.Common.{rules}
use Rattle.items.proofs.Longest.{answer_over, answer_within}
use Rattle.items.proofs.item_at.Goals as goal

pub returns-then-s-gt16384 : goal.returns-then-s-gt16384
returns-then-s-gt16384 c = search (rules, answer_over)

pub returns : goal.returns
returns c = answer_within _ _ c.if-s-gt16384.false _ c.whole_at.ensures
