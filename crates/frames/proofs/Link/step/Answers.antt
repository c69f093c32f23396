use borrow.Author.Tests.{eq-eqb, ne_eqb}
use Rattle.frames.specs.Step.{step_of, length_of}
use Rattle.frames.proofs.Laws.{data_left_lem}
use Rattle.frames.proofs.Link.step.Goals as goal

pub data_octet-requires : goal.data_octet-requires
data_octet-requires c = (c.requires.0, data_left_lem c.in-Data.got (length_of c.args.self.head) (rw c.in-Data.is at c.requires.1))

pub returns-then-b-eq85 : goal.returns-then-b-eq85
unfolding step_of
returns-then-b-eq85 c = rw (c.in-Hunting.is, eq-eqb _ _ c.if-b-eq85.true, c.go.ensures)

pub returns-else-b-eq85 : goal.returns-else-b-eq85
unfolding step_of
returns-else-b-eq85 c = rw (c.in-Hunting.is, ne_eqb _ _ c.if-b-eq85.false, c.go-else-b-eq85.ensures)

pub returns-then-b-eq255 : goal.returns-then-b-eq255
unfolding step_of
returns-then-b-eq255 c = rw (c.in-Preamble.is, eq-eqb _ _ c.if-b-eq255.true, c.go-then-b-eq255.ensures)

pub returns-then-b-eq85-2 : goal.returns-then-b-eq85-2
unfolding step_of
returns-then-b-eq85-2 c = rw (c.in-Preamble.is, ne_eqb _ _ c.if-b-eq255.false, eq-eqb _ _ c.if-b-eq85-2.true, c.go-then-b-eq85-2.ensures)

pub returns-else-b-eq85-2 : goal.returns-else-b-eq85-2
unfolding step_of
returns-else-b-eq85-2 c = rw (c.in-Preamble.is, ne_eqb _ _ c.if-b-eq255.false, ne_eqb _ _ c.if-b-eq85-2.false, c.go-else-b-eq85-2.ensures)

pub returns-in-Header : goal.returns-in-Header
unfolding step_of
returns-in-Header c = rw (c.in-Header.is, c.header_octet.ensures)

pub returns-in-Data : goal.returns-in-Data
unfolding step_of
returns-in-Data c = rw c.in-Data.is c.data_octet.ensures
