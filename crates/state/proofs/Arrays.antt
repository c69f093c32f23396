-- The sizes that the types of slots' arrays say, out of what is known of a value of those types.
use mathlib.Core.List.{List, [], ◌∷◌, map}
use mir.Val.{Val}
use denote.Array.{each}
use denote.Laws.{Is}
use denote.Shadow.{shadow}
use borrow.Author.Rules.{rules, length_unmapped}
use Rattle.rebuild.specs.declared.Slot.{Slot}
use Rattle.rebuild.specs.contracts.Slot as type
use Rattle.state.specs.Slot.{SlotShaped}
use Rattle.state.specs.Layout.{SlotsShaped}

-- a slot
slot_typed : (x : Slot) (vs : List Val) → Is (type.the_field).row ((type.the_field).into x) vs → SlotShaped x
slot_typed x vs p = record { from = search (length_unmapped, p); to = search (length_unmapped, p) }

-- slots, as a field of a declared type has them
pub slots_typed : (xs : List Slot) (us : List Val) → shadow (each (type.the_field).row.Denot (type.the_field).row.own_val (map (type.the_field).into xs) us) → SlotsShaped xs
slots_typed [] us p = tt
slots_typed (x ∷ xs) [] p = absurd p
slots_typed (x ∷ xs) (u ∷ us) p = (slot_typed x (u ∷ []) p.0, slots_typed xs us p.1)

-- the same as a function's own record of its arguments has them; for `search (slots_held, c.well_formed)`
pub slots_held : (xs : List Slot) (us : List Val) → shadow (each (type.the_row).Denot (type.the_row).own_val xs us) → SlotsShaped xs
slots_held [] us p = tt
slots_held (x ∷ xs) [] p = absurd p
slots_held (x ∷ xs) (u ∷ us) p = let q = p.0 in (record { from = search rules; to = search rules }, slots_held xs us p.1)
