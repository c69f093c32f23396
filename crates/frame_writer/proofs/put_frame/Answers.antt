use Rattle.std.proofs.Common.{length, arith, sym, ◌∙◌}
use mathlib.Core.List.{append-nil}
use borrow.Author.Tests.{eqb-true, eqb-false}
use Rattle.octets.specs.Splice.{splice_then}
use Rattle.frames.specs.Layout.{data_part}
use Rattle.frame_writer.specs.Front.{front_of}
use Rattle.frames.proofs.Parts.{no_data_lem, some_data, data_length}
use Rattle.frame_writer.proofs.Frames.{front_length, in_parts}
use Rattle.frame_writer.proofs.put_frame.Goals as goal

pub put_data-requires : goal.put_data-requires
put_data-requires c =
    omega (arith, data_length c.args.payload.now (eqb-false _ _ (sym c.is_empty.ensures ∙ c.if-not-is_empty.true)), c.put_front.auto)

pub returns-then-not-is_empty : goal.returns-then-not-is_empty
returns-then-not-is_empty c =
    let a = c.args in
    let d = a.payload.now in
    rw in_parts
    (splice_then a.out.now 0 (front_of a.kind a.destination a.source (length d)) (data_part d) (rw front_length (omega arith)) c.put_front.ensures
    (rw (front_length, some_data d (eqb-false _ _ (sym c.is_empty.ensures ∙ c.if-not-is_empty.true))) c.put_data.ensures))

pub returns-else-not-is_empty : goal.returns-else-not-is_empty
returns-else-not-is_empty c =
    rw (in_parts, no_data_lem c.args.payload.now (eqb-true _ _ (sym c.is_empty.ensures ∙ c.if-not-is_empty.false)), append-nil) c.put_front.ensures
