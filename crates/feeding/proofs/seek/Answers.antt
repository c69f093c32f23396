use Rattle.std.proofs.Common.{rules}
use Rattle.feeding.proofs.Fronts.{seek_begin, seek_next, seek_found, seek_end}
use Rattle.feeding.proofs.seek.Goals as goal
use Rattle.feeding.proofs.seek.Goals.{else-near-eq1-via-then-near-eq1+else-b, else-near-eq1-via-else-near-eq1}

pub loop-i-init : goal.loop-i-init
loop-i-init c = search (rules, seek_begin)

pub returns-then-b : goal.returns-then-b
returns-then-b c = search (rules, seek_found)

pub loop-i-preserved : goal.loop-i-preserved
loop-i-preserved c =
    seek_next _ _ c.loop-i.invariant c.loop-i-test.true c.from-near.ensures
    (λ e f. elim c.else-near-eq1.branch [ else-near-eq1-via-then-near-eq1+else-b w ↦ w.if-b.false f | else-near-eq1-via-else-near-eq1 w ↦ w.if-near-eq1.false e ])

pub returns : goal.returns
returns c = search (rules, seek_end)
