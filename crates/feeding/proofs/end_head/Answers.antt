use Rattle.std.proofs.Common.{rules}
use Rattle.feeding.proofs.Fronts.{head_bad, head_long, head_frame, head_data}
use Rattle.feeding.proofs.end_head.Goals as goal

pub returns-then-left-ne85 : goal.returns-then-left-ne85
returns-then-left-ne85 c = search (rules, head_bad)

pub returns-then-n-gt501 : goal.returns-then-n-gt501
returns-then-n-gt501 c = search (rules, head_long)

pub returns-then-n-eq0 : goal.returns-then-n-eq0
returns-then-n-eq0 c = search (rules, head_frame)

pub returns : goal.returns
returns c = search (rules, head_data)
