use Rattle.std.proofs.Common.{rules}
use Rattle.feeding.proofs.Spans.{one_counted}
use Rattle.feeding.proofs.lay_one.Goals as goal

pub returns : goal.returns
returns c = search (rules, one_counted)
