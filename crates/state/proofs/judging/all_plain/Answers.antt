use borrow.Author.Tests.{eqb-true}
use Rattle.octets.specs.Reading.{Octets}
use Rattle.state.proofs.Fours.{or_zero_lem}
use Rattle.state.proofs.SlotFair.{none_four, all_plain}
use Rattle.state.proofs.judging.all_plain.Goals as goal

pub returns : goal.returns
returns c e =
    let os : Octets c.args.o.now = c.fits-o in
    let o = c.args.o.now in
    let z₃ = or_zero_lem _ _ (eqb-true _ 0 e) in
    let z₂ = or_zero_lem _ _ z₃.0 in
    let z₁ = or_zero_lem _ _ z₂.0 in
    all_plain o _ _ os c.told-o c.over.ensures c.if-over-gt1.false c.over-else-over-gt1.ensures c.if-over-gt63.false
    (none_four o (c.addressed.ensures z₁.0) (c.addressed-2.ensures z₁.1) (c.addressed-3.ensures z₂.1) (c.addressed-4.ensures z₃.1))
