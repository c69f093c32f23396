use Rattle.std.proofs.Common.{◌≡◌, length, add-one, arith}
use Rattle.collector.specs.Calls.{slot_count}
use Rattle.rebuild.proofs.Seen.{length_of_map}
use Rattle.state.specs.Layout.{SlotsShaped}
use Rattle.state.proofs.Slots.{slots_none, slots_more, slots_all}
use Rattle.state.proofs.Arrays.{slots_held}
use Rattle.state.proofs.saving.put_slots.Goals as goal

pub loop-i-init : goal.loop-i-init
loop-i-init c =
    let four : length c.args.t.slots ≡ slot_count = search (length_of_map, c.well_formed) in
    let shaped : SlotsShaped c.args.t.slots = search (slots_held, c.well_formed) in
    slots_none c.args.area.now c.args.t.slots c.requires four shaped

pub loop-i-preserved : goal.loop-i-preserved
loop-i-preserved c =
    let four : length c.args.t.slots ≡ slot_count = search (length_of_map, c.well_formed) in
    let shaped : SlotsShaped c.args.t.slots = search (slots_held, c.well_formed) in
    rw (add-one c.loop-i.i) (slots_more c.args.area.now c.args.t.slots c.requires four shaped c.loop-i.i c.loop-i-test.true c.loop-i.invariant c.put_slot.ensures)

pub returns : goal.returns
returns c =
    let four : length c.args.t.slots ≡ slot_count = search (length_of_map, c.well_formed) in
    let shaped : SlotsShaped c.args.t.slots = search (slots_held, c.well_formed) in
    let z : c.loop-i.i ≡ 4 = omega arith in
    slots_all c.args.area.now c.args.t.slots c.requires four shaped (rw z at c.loop-i.invariant)
