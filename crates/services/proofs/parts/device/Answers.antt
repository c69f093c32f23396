use Rattle.std.proofs.Common.{rules}
use Rattle.services.proofs.Ways.{item_within, item_fits, item_missing, device_four, device_breaks, device_keeps}
use Rattle.services.proofs.parts.device.Goals as goal

pub returns-in_default : goal.returns-in_default
returns-in_default c = λ next rs w. search (rules, item_missing)

pub value-v-requires : goal.value-v-requires
value-v-requires c = (search (rules, device_four), search (rules, item_within))

pub returns-then-v-ne8 : goal.returns-then-v-ne8
returns-then-v-ne8 c = λ next rs w. search (rules, device_breaks)

pub overflow_add-result : goal.overflow_add-result
overflow_add-result c = search (rules, item_fits)

pub returns : goal.returns
returns c = λ next r h rs w. search (rules, device_keeps)
