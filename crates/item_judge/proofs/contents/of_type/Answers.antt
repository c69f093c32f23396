use Rattle.std.proofs.Common.{sym, ◌∙◌}
use Rattle.item_judge.proofs.Rules.{type_fits, type_other, ok_test}
use Rattle.item_judge.proofs.contents.of_type.Goals as goal

pub returns-then-fits : goal.returns-then-fits
returns-then-fits c =
    rw (c.is_ok.ensures.value, ok_test c.contents.result, c.contents.ensures) (type_fits _ _ _ _ (sym c.fits.ensures ∙ c.if-fits.true))

pub returns-else-fits : goal.returns-else-fits
returns-else-fits c = c.if-fits.false ∙ type_other _ _ _ _ (sym c.fits.ensures ∙ c.if-fits.false)
