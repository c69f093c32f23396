use borrow.Author.Tests.{ltb-true}
use Rattle.octets.specs.Reading.{Octets}
use Rattle.state.proofs.SlotFair.{all_free}
use Rattle.state.proofs.judging.all_free.Goals as goal

pub returns : goal.returns
returns c e =
    let os : Octets c.args.o.now = c.fits-o in
    all_free c.args.o.now _ _ _ _ os c.over.ensures c.if-over-ne0.false c.over-else-over-ne0.ensures c.if-over-gt1.false c.over-else-over-gt1.ensures c.if-over-gt1-2.false
    c.over-2.ensures (ltb-true c.over-2.result 64 e)
