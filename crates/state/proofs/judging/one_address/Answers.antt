use Rattle.std.proofs.Common.{arith, rules}
use borrow.Author.Tests.{eqb-false}
use Rattle.octets.specs.Reading.{Octets}
use Rattle.state.proofs.Address.{address_ways}
use Rattle.state.proofs.judging.one_address.Goals.{then-four-via-then-four, then-four-via-else-four+then-four-2}
use Rattle.state.proofs.judging.one_address.Goals as goal

pub returns-then-four : goal.returns-then-four
returns-then-four c e =
    let os : Octets c.args.o.now = λ i. omega (arith, c.type_inv.o i) in
    elim c.then-four.branch [ then-four-via-then-four w ↦ search (rules, address_ways) | then-four-via-else-four+then-four-2 w ↦ search (rules, address_ways) ]

pub returns : goal.returns
returns c e =
    let os : Octets c.args.o.now = λ i. omega (arith, c.type_inv.o i) in
    let n = eqb-false c.four-3.result c.four-4.result e in
    search (rules, address_ways)
