use Rattle.std.proofs.Common.{◌≡◌, length, rules}
use Rattle.std.proofs.lemmas.Result.{err_from_is_err_and}
use Rattle.octets.specs.Rules.{tests}
use Rattle.collector.specs.Calls.{slot_count}
use Rattle.rebuild.proofs.Seen.{length_of_map}
use Rattle.state.specs.Layout.{slots_size, slots_octets, SlotsShaped}
use Rattle.state.proofs.Slots.{slots_size_lem}
use Rattle.state.proofs.Arrays.{slots_held}
use Rattle.state.proofs.lay_slots.Goals as goal

pub returns-in_err-sized : goal.returns-in_err-sized
returns-in_err-sized c =
    let p = err_from_is_err_and c.from_residual.result c.from_residual.ensures.1 in
    let e = c.in_err-sized.ensures in
    let n = e.0 in
    let four : length c.args.slots.slots ≡ slot_count = search (length_of_map, c.well_formed) in
    let shaped : SlotsShaped c.args.slots.slots = search (slots_held, c.well_formed) in
    let long : length (slots_octets c.args.slots.slots) ≡ slots_size = slots_size_lem c.args.slots.slots shaped four in
    rw (p.1, p.2, e.1) (record { lays = record { answer = search (rules, tests); after = search (rules, tests); long = long }; four = four; shaped = shaped })

pub returns : goal.returns
returns c =
    let size = c.in_ok-sized.ensures.1 in
    let four : length c.args.slots.slots ≡ slot_count = search (length_of_map, c.well_formed) in
    let shaped : SlotsShaped c.args.slots.slots = search (slots_held, c.well_formed) in
    let long : length (slots_octets c.args.slots.slots) ≡ slots_size = slots_size_lem c.args.slots.slots shaped four in
    record { lays = record { answer = search (rules, tests); after = search (rules, tests); long = long }; four = four; shaped = shaped }
