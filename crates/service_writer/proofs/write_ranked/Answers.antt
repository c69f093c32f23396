use Rattle.std.specs.Prelude.{is_some}
use Rattle.std.specs.Option.{unwrap_or}
use Rattle.std.proofs.Common.{arith, sym, ap, ◌∙◌, length}
use Rattle.std.proofs.lemmas.Result.{err_from_is_err_and}
use Rattle.service_writer.proofs.Items
use Rattle.service_writer.proofs.Promise
use Rattle.service_writer.proofs.write_ranked.Goals as goal

pub returns-then-wide : goal.returns-then-wide
returns-then-wide c = Promise.ranked_41 _ _ _ _ _ _ (sym c.wide.ensures ∙ c.if-wide.true)

pub returns-then-value-gt16384 : goal.returns-then-value-gt16384
returns-then-value-gt16384 c = Promise.ranked_39 _ c.args.t c.args.value.now _ _ _ (sym c.wide.ensures ∙ c.if-wide.false) (omega (arith, c.if-value-gt16384.true))

pub returns-then-front-value-gt16384 : goal.returns-then-front-value-gt16384
returns-then-front-value-gt16384 c = Promise.ranked_39 _ c.args.t c.args.value.now (is_some c.args.priority) (unwrap_or c.args.priority 0) _ (sym c.wide.ensures ∙ c.if-wide.false) (omega (arith, ap length (c.laid-front.ensures ∙ c.front-before.ensures.laid), ap length (c.laid-behind.ensures ∙ c.behind-after.ensures.laid), c.if-front-value-gt16384.true))

pub judge-requires : goal.judge-requires
judge-requires c = (omega (arith, ap length (c.laid-behind.ensures ∙ c.behind-after.ensures.laid), Items.behind_length (is_some c.args.priority) (unwrap_or c.args.priority 0)), omega (arith, c.if-front-value-gt16384.false))

pub returns-in_err-judge : goal.returns-in_err-judge
returns-in_err-judge c =
    let p = err_from_is_err_and c.from_residual.result c.from_residual.ensures.1 in
    rw (p.1, p.2) (Promise.ranked_refused _ c.args.t c.args.value.now (is_some c.args.priority) (unwrap_or c.args.priority 0) _ _ (c.laid-behind.ensures ∙ c.behind-after.ensures.laid) (sym c.wide.ensures ∙ c.if-wide.false) (omega arith) (omega arith) (omega (arith, ap length (c.laid-front.ensures ∙ c.front-before.ensures.laid), ap length (c.laid-behind.ensures ∙ c.behind-after.ensures.laid), c.if-front-value-gt16384.false)) _ c.room.ensures _ c.in_err-judge.ensures)

pub returns : goal.returns
returns c =
    Promise.ranked_laid _ c.args.t c.args.value.now (is_some c.args.priority) (unwrap_or c.args.priority 0) _ _ (c.laid-behind.ensures ∙ c.behind-after.ensures.laid) (sym c.wide.ensures ∙ c.if-wide.false) (omega arith) (omega arith) (omega (arith, ap length (c.laid-front.ensures ∙ c.front-before.ensures.laid), ap length (c.laid-behind.ensures ∙ c.behind-after.ensures.laid), c.if-front-value-gt16384.false)) _ c.room.ensures c.in_ok-judge.ensures _ (c.laid-front.ensures ∙ c.front-before.ensures.laid) _ _ c.lay.ensures
