use Rattle.std.proofs.Common.{rules}
use Rattle.state.proofs.LinkFair.{link_ways}
use Rattle.state.proofs.judging.link_fair.Goals.{then-n-eq0-via-then-n-eq0, then-n-eq0-via-else-n-eq0+then-n-gt501}
use Rattle.state.proofs.judging.link_fair.Goals as goal

pub returns-then-o-eq0 : goal.returns-then-o-eq0
returns-then-o-eq0 c = search (rules, link_ways)

pub returns-else-o-eq0 : goal.returns-else-o-eq0
returns-else-o-eq0 c = search (rules, link_ways)

pub returns-then-o-eq0-2 : goal.returns-then-o-eq0-2
returns-then-o-eq0-2 c = search (rules, link_ways)

pub returns-else-o-eq0-2 : goal.returns-else-o-eq0-2
returns-else-o-eq0-2 c = search (rules, link_ways)

pub returns-then-p-ne3 : goal.returns-then-p-ne3
returns-then-p-ne3 c = search (rules, link_ways)

pub returns-then-n-eq0 : goal.returns-then-n-eq0
returns-then-n-eq0 c =
    elim c.then-n-eq0.branch [ then-n-eq0-via-then-n-eq0 w ↦ search (rules, link_ways) | then-n-eq0-via-else-n-eq0+then-n-gt501 w ↦ search (rules, link_ways) ]

pub returns : goal.returns
returns c = search (rules, link_ways)
