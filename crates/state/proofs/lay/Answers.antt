use Rattle.std.proofs.Common.{◌≡◌, length}
use Rattle.std.proofs.lemmas.Result.{err_from_is_err_and}
use Rattle.octets.specs.Refusal.{number_some}
use Rattle.collector.specs.Calls.{slot_count}
use Rattle.rebuild.proofs.Seen.{length_of_map}
use Rattle.state.specs.Layout.{SlotsShaped}
use Rattle.state.proofs.Slots.{slots_barred}
use Rattle.state.proofs.Arrays.{slots_held}
use Rattle.state.proofs.lay.Goals as goal

pub returns-in_err-lay_link : goal.returns-in_err-lay_link
returns-in_err-lay_link c =
    let p = err_from_is_err_and c.from_residual.result c.from_residual.ensures.1 in
    let l = c.in_err-lay_link.ensures in
    let four : length c.args.slots.slots ≡ slot_count = search (length_of_map, c.well_formed) in
    let shaped : SlotsShaped c.args.slots.slots = search (slots_held, c.well_formed) in
    rw (p.1, p.2) (record { number = _; linked = _; link = l; slots = slots_barred _ (number_some _) l four shaped })

pub returns : goal.returns
returns c = record { number = _; linked = _; link = c.in_ok-lay_link.ensures; slots = c.lay_slots.ensures }
