use Rattle.std.proofs.Common.{◌∙◌}
use Rattle.tags.proofs.ByClass.{at_six, at_type}
use Rattle.tags.proofs.kinds.application_head.Goals as goal

pub returns-then-l-gt5 : goal.returns-then-l-gt5
returns-then-l-gt5 c = at_six _ _ _ c.requires c.if-n-gt12.false c.if-l-gt5.true

pub returns : goal.returns
returns c = c.application.ensures ∙ at_type _ _ _ c.requires c.if-n-gt12.false c.if-l-gt5.false c.if-n-eq1.false
