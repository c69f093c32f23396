use Rattle.std.proofs.Common.{rules}
use Rattle.octets.specs.Rules.{tests}
use Rattle.services.specs.Parts.{number_rule}
use Rattle.services.proofs.Ways.{number_rules}
use Rattle.services.proofs.parts.number_rule.Goals as goal
use Rattle.services.proofs.parts.number_rule.Goals.{then-c-eq0-via-then-c-eq0, then-c-eq0-via-else-c-eq0+then-c-gt4, then-c-eq0-via-else-c-eq0+else-c-gt4+then-long_form, then-v-low-via-then-v-low, then-v-low-via-else-v-low+then-high-v}

pub returns-then-c-eq0 : goal.returns-then-c-eq0
unfolding number_rule
returns-then-c-eq0 c = elim c.then-c-eq0.branch [ then-c-eq0-via-then-c-eq0 w ↦ search (rules, tests) | then-c-eq0-via-else-c-eq0+then-c-gt4 w ↦ search (rules, tests) | then-c-eq0-via-else-c-eq0+else-c-gt4+then-long_form w ↦ search (rules, number_rules) ]

pub returns-then-v-low : goal.returns-then-v-low
unfolding number_rule
returns-then-v-low c = elim c.then-v-low.branch [ then-v-low-via-then-v-low w ↦ search (rules, number_rules) | then-v-low-via-else-v-low+then-high-v w ↦ search (rules, number_rules) ]

pub returns : goal.returns
unfolding number_rule
returns c = search (rules, number_rules)
