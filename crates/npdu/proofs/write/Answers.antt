use Rattle.std.proofs.Common.{rules, arith, ◌≡◌, sym, ◌∙◌}
use Rattle.std.proofs.lemmas.Result.{err_from_is_err_and}
use Rattle.octets.specs.Laid.{laid_fault, laid_short, laid_over}
use Rattle.octets.specs.Refusal.{number_some}
use Rattle.npdu.specs.Fault.{fault_of}
use Rattle.npdu.specs.Valid.{Kept}
use Rattle.npdu.proofs.Sizes.{fault_none, head_length}
use Rattle.npdu.proofs.write.Goals as goal

pub returns-in_err-judge_head : goal.returns-in_err-judge_head
returns-in_err-judge_head c =
    let p = err_from_is_err_and c.from_residual.result c.from_residual.ensures.1 in
    let e = c.in_err-judge_head.ensures in
    rw (p.1, p.2, e) (laid_fault _ _ _ (λ z. omega (arith, e, number_some c.in_err-judge_head.field-0.0)))

pub returns-then-out-n : goal.returns-then-out-n
returns-then-out-n c =
    let h = c.args.h in
    let z : fault_of h ≡ 0 = sym c.in_ok-judge_head.ensures in
    let kept : Kept h = record { dest_kept = search rules; source_kept = search rules } in
    let k = head_length h (fault_none h z) kept in
    rw z (laid_short _ _ (rw k (omega arith)))

pub put_head-requires : goal.put_head-requires
put_head-requires c = (sym c.in_ok-judge_head.ensures, omega arith)

pub returns : goal.returns
returns c =
    let h = c.args.h in
    let z : fault_of h ≡ 0 = sym c.in_ok-judge_head.ensures in
    let kept : Kept h = record { dest_kept = search rules; source_kept = search rules } in
    let k = head_length h (fault_none h z) kept in
    laid_over _ _ _ _ _ z (c.size-n.ensures ∙ sym k) (rw k (omega arith)) c.put_head.ensures
