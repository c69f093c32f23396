use Rattle.state.proofs.Pairs.{pairs_apart}
use Rattle.state.proofs.judging.any_alike.Goals as goal

pub returns : goal.returns
returns c e =
    pairs_apart _ (c.alike.ensures c.if-alike.false) (c.alike-else-alike.ensures c.if-alike-2.false) (c.alike-else-alike-2.ensures c.if-alike-3.false)
    (c.alike-else-alike-3.ensures c.if-alike-4.false) (c.alike-else-alike-4.ensures c.if-alike-5.false) (c.alike-2.ensures e)
