use Rattle.services.proofs.Places
use Rattle.services.proofs.parts.last.Goals as goal

pub returns-then-at-s : goal.returns-then-at-s
returns-then-at-s c = Places.last_more _ _ _ c.if-at-s.true

pub returns : goal.returns
returns c = Places.last_end _ _ _ c.if-at-s.false
