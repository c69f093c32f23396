use Rattle.std.proofs.Common.{arith, ◌∙◌}
use Rattle.std.proofs.lemmas.Result.{err_from_is_err_and}
use Rattle.octets.specs.Refusal.{number_some}
use Rattle.npdu.proofs.Sides.{dest_fault, source_fault, first_fault, second_fault}
use Rattle.npdu.proofs.fault.judge_head.Goals as goal

pub returns-in_err-judge_part : goal.returns-in_err-judge_part
returns-in_err-judge_part c =
    let p = err_from_is_err_and c.from_residual.result c.from_residual.ensures.1 in
    rw (p.1, p.2) (first_fault c.args.h (omega arith) _ (c.in_err-judge_part.ensures ∙ dest_fault _ c.args.h c.destination_of.ensures) (number_some _))

pub returns : goal.returns
returns c =
    let d = c.in_ok-judge_part.ensures ∙ dest_fault _ c.args.h c.destination_of.ensures in
    c.judge_part-2.ensures ∙ source_fault _ c.args.h c.source_of.ensures ∙ second_fault c.args.h (omega arith) d
