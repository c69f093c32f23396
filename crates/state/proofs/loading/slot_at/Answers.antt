use Rattle.std.proofs.Common.{rules}
use Rattle.state.proofs.Slots.{slot_found}
use Rattle.state.proofs.loading.slot_at.Goals as goal

pub returns : goal.returns
returns c = search (rules, slot_found)
