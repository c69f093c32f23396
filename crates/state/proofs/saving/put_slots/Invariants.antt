use Rattle.state.proofs.Slots.{SlotsLaid}
use Rattle.state.proofs.saving.put_slots.Given as goal

-- the slots below are laid
abbrev pub invariant-loop-i : goal.invariant-loop-i
invariant-loop-i l = SlotsLaid l.initial.area l.fn.t.slots l.i l.area
