use Rattle.services.proofs.Ways
use Rattle.services.proofs.parts.wanted.Goals as goal
use Rattle.services.proofs.parts.wanted.Goals.{then-kind-via-then-kind, then-kind-via-else-kind+then-n-number}

pub returns-in_default : goal.returns-in_default
returns-in_default c = rw (← c.head.ensures) (Ways.found_refused _ _ _ c.in_default.not-Ok)

pub returns-in_default-t : goal.returns-in_default-t
returns-in_default-t c = rw (← c.in-Ok.ensures) (Ways.found_none _ _ _ c.in_default-t.not-Item)

pub returns-then-kind : goal.returns-then-kind
returns-then-kind c =
    rw (← c.kind-2.ensures)
    (elim c.then-kind.branch [
      | then-kind-via-then-kind w ↦ Ways.found_kind _ _ _ _ _ c.in-Ok.ensures _ _ _ _ _ c.in-Item.is _ c.kind.ensures w.if-kind.true
      | then-kind-via-else-kind+then-n-number w ↦ Ways.found_number _ _ _ _ _ c.in-Ok.ensures _ _ _ _ _ c.in-Item.is _ c.kind.ensures w.if-kind.false w.if-n-number.true
    ])

pub returns : goal.returns
returns c = rw (← c.kind-2.ensures) (Ways.found_item _ _ _ _ _ c.in-Ok.ensures _ _ _ _ _ c.in-Item.is _ c.kind.ensures c.if-kind.false c.if-n-number.false)
