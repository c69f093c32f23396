use Rattle.messages.specs.Slots as Messages
use Rattle.rebuild.specs.View.{keys}
use Rattle.rebuild.proofs.Ways.{Looking}
use Rattle.rebuild.proofs.search.open_slot.Given as goal

abbrev pub invariant-loop-s : goal.invariant-loop-s
invariant-loop-s l = Looking (Messages.open_to keys l.k) l.t l.start l.s
