use Rattle.std.proofs.Common.{arith, sym, ◌∙◌}
use Rattle.std.proofs.lemmas.Result.{err_from_is_err_and}
use Rattle.tags.proofs.Bounds.{number_fits}
use Rattle.tags.proofs.ByClass.{at_context, at_context_bad}
use Rattle.tags.proofs.kinds.context_head.Goals as goal

pub returns-in_err-f : goal.returns-in_err-f
returns-in_err-f c =
    let p = err_from_is_err_and c.from_residual.result c.from_residual.ensures.1 in
    rw (p.1, p.2) (at_context_bad _ _ _ _ c.requires c.in_err-f.ensures)

pub overflow_cast-f : goal.overflow_cast-f
overflow_cast-f c = record { fits = omega (arith, number_fits _ _ _ _ (sym c.in_ok-f.ensures)) }

pub returns : goal.returns
returns c = c.context.ensures ∙ at_context _ _ _ _ _ c.requires c.in_ok-f.ensures
