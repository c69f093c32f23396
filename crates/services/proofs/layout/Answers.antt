use Rattle.std.proofs.Common.{rules}
use Rattle.services.proofs.Ways.{layout_rows}
use Rattle.services.proofs.layout.Goals as goal

pub returns-in-0-eq12 : goal.returns-in-0-eq12
returns-in-0-eq12 c = λ rs w. search (rules, layout_rows)

pub returns-in-0-eq15 : goal.returns-in-0-eq15
returns-in-0-eq15 c = λ rs w. search (rules, layout_rows)

pub returns-in-3-eq12 : goal.returns-in-3-eq12
returns-in-3-eq12 c = λ rs w. search (rules, layout_rows)

pub returns-in-1-eq8 : goal.returns-in-1-eq8
returns-in-1-eq8 c = λ rs w. search (rules, layout_rows)

pub returns-in-1-eq0 : goal.returns-in-1-eq0
returns-in-1-eq0 c = λ rs w. search (rules, layout_rows)

pub returns-in-5-eq12 : goal.returns-in-5-eq12
returns-in-5-eq12 c = λ rs w. search (rules, layout_rows)

pub returns-in_default : goal.returns-in_default
returns-in_default c = λ rs w. search (rules, layout_rows)

pub returns-in_default-2 : goal.returns-in_default-2
returns-in_default-2 c = λ rs w. search (rules, layout_rows)

pub returns-in_default-3 : goal.returns-in_default-3
returns-in_default-3 c = λ rs w. search (rules, layout_rows)

pub returns-in_default-4 : goal.returns-in_default-4
returns-in_default-4 c = λ rs w. search (rules, layout_rows)

pub returns-in_default-5 : goal.returns-in_default-5
returns-in_default-5 c = λ rs w. search (rules, layout_rows)
