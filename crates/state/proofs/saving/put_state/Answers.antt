use Rattle.std.proofs.Common.{rules}
use Rattle.rebuild.proofs.Seen.{length_of_map}
use Rattle.state.proofs.Arrays.{slots_held}
use Rattle.state.proofs.Whole.{Shaped, state_laid}
use Rattle.state.proofs.saving.put_state.Goals as goal

pub returns : goal.returns
returns c =
    let shaped : Shaped c.args.c =
    record { head = search rules; store = search rules; four = search (length_of_map, c.well_formed); slots = search (slots_held, c.well_formed) } in
    state_laid c.args.c shaped _ c.requires c.edition_octet.ensures c.put_link.ensures c.copy.ensures c.put.ensures c.put_slots.ensures
