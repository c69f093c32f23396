use Rattle.std.proofs.Common.{true, refl, sym, ◌∙◌}
use Rattle.std.proofs.lemmas.Result.{err_from_is_err_and}
use Rattle.collector.proofs.Eaten.{eats_left, eats_quiet, eats_damage, eats_carried, eats_other}
use Rattle.collector.proofs.lent.eat.Goals as goal

pub returns-in_err-f : goal.returns-in_err-f
returns-in_err-f c =
    let w = c.requires.1 in
    let p = err_from_is_err_and c.from_residual.result c.from_residual.ensures.1 in
    rw (p.1, p.2) (eats_left _ _ _ _ _ _ _ w.line w.sized {b = true} (sym w.fair) refl c.feed.new.store _ c.in_err-f.ensures refl)

pub returns-in-Quiet : goal.returns-in-Quiet
returns-in-Quiet c =
    let w = c.requires.1 in
    eats_quiet _ _ _ _ _ _ _ w.line w.sized {b = true} (sym w.fair) refl c.feed.new.store _ c.in_ok-f.ensures refl c.in-Quiet.is

pub returns-in-Damage : goal.returns-in-Damage
returns-in-Damage c =
    let w = c.requires.1 in
    eats_damage _ _ _ _ _ _ _ w.line w.sized {b = true} (sym w.fair) refl c.feed.new.store _ c.in_ok-f.ensures refl c.in-Damage.is c.put_damage.ensures

pub returns-then-carries : goal.returns-then-carries
returns-then-carries c =
    let w = c.requires.1 in
    eats_carried _ _ _ _ _ _ _ w.line w.sized {b = true} (sym w.fair) refl c.feed.new.store _ c.in_ok-f.ensures refl c.act-slots.result c.in-Frame.is
    (c.from-n.ensures ∙ c.length_of.ensures) c.act-slots.ensures

pub returns-else-carries : goal.returns-else-carries
returns-else-carries c =
    let w = c.requires.1 in
    eats_other _ _ _ _ _ _ _ w.line w.sized {b = true} (sym w.fair) refl c.feed.new.store _ c.in_ok-f.ensures refl c.in-Frame.is (c.from-n.ensures ∙ c.length_of.ensures)
    c.put_other.ensures
