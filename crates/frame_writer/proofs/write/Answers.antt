use Rattle.std.proofs.Common.{refl, sym, arith, rules}
use Rattle.octets.specs.Laid.{laid_fault, laid_short, laid_over, laid_as}
use Rattle.frames.proofs.Parts.{frame_length_lem}
use Rattle.frame_writer.proofs.Frames.{too_long_lem, no_fault}
use Rattle.frame_writer.proofs.write.Goals as goal

pub returns-then-payload-gt501 : goal.returns-then-payload-gt501
returns-then-payload-gt501 c = rw (too_long_lem c.args.payload.now (omega arith)) (laid_fault 64 _ _ (λ e. omega arith))

pub returns-then-out-size : goal.returns-then-out-size
returns-then-out-size c = laid_as {f = 0} (sym (no_fault c.args.payload.now (omega arith))) refl (laid_short _ _ (rw frame_length_lem (omega arith)))

pub returns : goal.returns
returns c = laid_over _ _ _ _ _ (no_fault c.args.payload.now (omega arith)) (rw frame_length_lem (search rules)) (rw frame_length_lem (omega arith)) (search rules)
