use Rattle.state.specs.Slot.{slot_of}
use Rattle.state.proofs.loading.slot_of.Goals as goal

pub returns : goal.returns
unfolding slot_of
returns c = rw (c.pair.ensures, c.address_at-from.ensures, c.address_at-to.ensures)
