use Rattle.std.proofs.Common.{rules, refl, ap, ◌∙◌, Ok}
use Rattle.std.proofs.lemmas.Result.{err_from_is_err_and}
use Rattle.playback.proofs.Turning.{turn_bad, turn_never, turn_silence, turn_forget, turn_octet, freed_slots}
use Rattle.playback.proofs.lent.turn.Goals as goal

-- 67
pub returns-in_err-order_of : goal.returns-in_err-order_of
returns-in_err-order_of c =
    let p = err_from_is_err_and c.from_residual.result c.from_residual.ensures.1 in
    rw (p.1, p.2) (turn_bad _ _ _ _ _ _ _ c.requires c.in_err-order_of.ensures refl)

pub eat-requires : goal.eat-requires
eat-requires c = search (rules, turn_octet)

pub returns-in_err-h-in-Silence : goal.returns-in_err-h-in-Silence
returns-in_err-h-in-Silence c = absurd (turn_never c.args.edition _ _ c.args.store.now _ _ _ c.requires _ c.in_err-h-in-Silence.ensures)

pub returns-in_ok-h-in-Silence : goal.returns-in_ok-h-in-Silence
returns-in_ok-h-in-Silence c = turn_silence _ _ _ _ _ _ _ c.requires c.in_ok-order_of.ensures (ap Ok c.in-Silence.is) c.in_ok-h-in-Silence.ensures

pub returns-in-Forget : goal.returns-in-Forget
returns-in-Forget c =
    turn_forget _ _ _ _ _ _ _ c.requires c.in_ok-order_of.ensures (ap Ok c.in-Forget.is) c.forget.result c.forget.ensures (c.unwrap_or.ensures ∙ freed_slots c.args.slots c.forget.result)
