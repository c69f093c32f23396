use Rattle.std.proofs.Common.{rules}
use borrow.Author.Tests.{not-true, eqb-false}
use Rattle.state.proofs.Pairs.{all_unlike}
use Rattle.state.proofs.judging.all_unlike.Goals as goal

pub returns : goal.returns
returns c e =
    let n = eqb-false _ _ (not-true _ e) in
    all_unlike _ _ _ _ _ (search rules) (search rules) (search rules) (search rules)
    c.if-a-b.false c.if-a-c.false c.if-a-d.false c.if-b-c.false c.if-b-d.false n
