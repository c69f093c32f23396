use Rattle.std.proofs.Common.{sym, ◌∙◌}
use Rattle.npdu.proofs.Sizes.{fault_here}
use Rattle.npdu.proofs.Steps.{good_answer}
use Rattle.npdu.proofs.addresses.part_gives.Goals as goal

pub is_settled-requires : goal.is_settled-requires
is_settled-requires c =
    let a = c.args.a in
    let z = sym c.judge_part.ensures ∙ good_answer c.judge_part.result (sym c.is_ok.ensures.value ∙ c.if-is_ok.true) in
    λ here. (fault_here a.present a.network a.length c.args.limits.low c.args.limits.top z here).len_range
