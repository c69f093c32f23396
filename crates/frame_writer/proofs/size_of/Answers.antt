use Rattle.std.proofs.Common.{arith, sym, ◌∙◌}
use borrow.Author.Tests.{eqb-true, eqb-false}
use Rattle.frames.proofs.Parts.{no_data_lem, data_length}
use Rattle.frame_writer.proofs.size_of.Goals as goal

pub returns-then-is_empty : goal.returns-then-is_empty
returns-then-is_empty c = rw (no_data_lem c.args.payload.now (eqb-true _ _ (sym c.is_empty.ensures ∙ c.if-is_empty.true)))

pub returns : goal.returns
returns c = omega (arith, data_length c.args.payload.now (eqb-false _ _ (sym c.is_empty.ensures ∙ c.if-is_empty.false)))
