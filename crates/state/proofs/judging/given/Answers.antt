use Rattle.std.proofs.Common.{arith, sym, ◌∙◌}
use borrow.Author.Tests.{eqb-true}
use Rattle.state.proofs.Given.{past_one, past_rest, given_none, given_there}
use Rattle.state.proofs.judging.given.Goals as goal

pub returns-then-o-at-eq0 : goal.returns-then-o-at-eq0
returns-then-o-at-eq0 c e =
    given_none c.args.o.now c.args.at c.args.low c.args.top c.requires (omega arith) _ _ _ c.four.ensures c.four-then-o-at-eq0.ensures c.four-then-o-at-eq0-2.ensures
    (eqb-true _ 0 e)

pub returns-then-len-eq1 : goal.returns-then-len-eq1
returns-then-len-eq1 c e =
    let o = c.args.o.now in
    let at = c.args.at in
    let one = c.if-len-eq1.true in
    given_there o at c.args.low c.args.top c.requires (omega arith)
    (record { some_net = omega arith; net_range = omega arith; len_least = omega arith; len_range = omega arith })
    (λ k a b. past_one o at _ _ c.four-then-len-eq1.ensures c.four-then-len-eq1-2.ensures (eqb-true _ 0 e) k (omega arith) b)

pub returns : goal.returns
returns c e =
    given_there c.args.o.now c.args.at c.args.low c.args.top c.requires (omega arith)
    (record { some_net = omega arith; net_range = omega arith; len_least = omega arith; len_range = omega arith })
    (past_rest c.args.o.now c.args.at _ _ c.requires c.from.ensures (sym c.all_zero.ensures ∙ e))
