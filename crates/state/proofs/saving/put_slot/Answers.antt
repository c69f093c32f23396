use Rattle.std.proofs.Common.{rules, arith}
use Rattle.state.specs.Slot.{SlotShaped}
use Rattle.state.proofs.Slot.{slot_laid}
use Rattle.state.proofs.saving.put_slot.Goals as goal

pub returns : goal.returns
returns c =
    let shaped : SlotShaped c.args.x = record { from = search rules; to = search rules } in
    rw (← c.slot_place-at.ensures)
    (slot_laid _ _ c.args.x c.slot_place-at.result (omega (arith, c.slot_place-at.ensures)) shaped c.front_octets.ensures
    c.copy.ensures c.put_address.ensures c.put_address-2.ensures)
