use Rattle.std.proofs.lemmas.Result.{err_from_is_err_and}
use Rattle.octets.specs.Refusal.{number_some}
use Rattle.tags.proofs.ByClass.{type_bad, type_wrong, type_good}
use Rattle.tags.proofs.kinds.application.Goals as goal

pub returns-in_err-f : goal.returns-in_err-f
returns-in_err-f c =
    let p = err_from_is_err_and c.from_residual.result c.from_residual.ensures.1 in
    rw (p.1, p.2) (type_bad _ _ _ _ c.requires.0 c.requires.1 _ c.in_err-f.ensures)

pub returns-in_err-by_type : goal.returns-in_err-by_type
returns-in_err-by_type c =
    let p = err_from_is_err_and c.from_residual-in_err-by_type.result c.from_residual-in_err-by_type.ensures.1 in
    rw (p.1, p.2) (type_wrong _ _ _ _ c.requires.0 c.requires.1 _ _ c.in_ok-f.ensures _ c.in_err-by_type.ensures (number_some _))

pub returns : goal.returns
returns c = type_good _ _ _ _ c.requires.0 c.requires.1 _ _ c.in_ok-f.ensures c.in_ok-by_type.ensures
