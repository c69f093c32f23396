use Rattle.std.proofs.Common.{rules}
use Rattle.std.proofs.Common.{arith}
use Rattle.services.proofs.Ways.{item_within, item_fits, item_missing, object_breaks, object_keeps}
use Rattle.services.proofs.parts.object.Goals as goal

pub returns-in_default : goal.returns-in_default
returns-in_default c = λ next rs w. search (rules, item_missing)

pub returns-then-c-ne4 : goal.returns-then-c-ne4
returns-then-c-ne4 c = λ next rs w. search (rules, object_breaks)

pub value-requires : goal.value-requires
value-requires c = (omega arith, search (rules, item_within))

pub overflow_add-result : goal.overflow_add-result
overflow_add-result c = search (rules, item_fits)

pub returns : goal.returns
returns c = λ next r h rs w. search (rules, object_keeps)
