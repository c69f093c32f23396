use mathlib.Core.Path.{◌∙◌}
use Rattle.hitchbarley.proofs.Fed.{part_acts}
use Rattle.hitchbarley.proofs.trunk_calls.segment.Goals as goal

pub returns : goal.returns
returns c =
    part_acts _ _ _ c.requires c.head_at-head.ensures (c.from-end.ensures ∙ c.length_of.ensures) c.edition_of-edition.ensures c.heard_of-w.ensures c.slots_at-slots.ensures c.take-r.ensures c.lay_slots.ensures c.put_taken.ensures
