use Rattle.std.proofs.Common.{rules}
use Rattle.state.proofs.Pairs.{alike_ways, from_apart, to_apart}
use Rattle.state.proofs.judging.alike.Goals.{then-four-via-then-four, then-four-via-else-four+then-o-b-eq0}
use Rattle.state.proofs.judging.alike.Goals as goal

pub returns-then-four : goal.returns-then-four
returns-then-four c e =
    elim c.then-four.branch [ then-four-via-then-four w ↦ search (rules, alike_ways) | then-four-via-else-four+then-o-b-eq0 w ↦ search (rules, alike_ways) ]

pub returns-else-one_address : goal.returns-else-one_address
returns-else-one_address c e = from_apart _ _ _ _ _ c.slot_place-a.ensures c.slot_place-b.ensures (c.one_address.ensures c.if-one_address.false)

pub returns-then-one_address : goal.returns-then-one_address
returns-then-one_address c e = to_apart _ _ _ _ _ c.slot_place-a.ensures c.slot_place-b.ensures (c.one_address-then-one_address.ensures e)
