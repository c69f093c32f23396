-- One limb more of a product.
use Rattle.std.proofs.Common.{refl, arith}
use Rattle.std.proofs.Math.ListN.{length-set}
use Rattle.decimals.specs.Worth.{worth_none, above_set, scaled}
use Rattle.decimals.specs.Order.{limbs_set}
use Rattle.decimals.proofs.limbs.Number.scale.Goals as goal

pub loop-i-init : goal.loop-i-init
loop-i-init c = (refl, refl, (λ j w. refl), (λ h. simp worth_none (omega arith)), (λ h k. k))

pub loop-i-preserved : goal.loop-i-preserved
loop-i-preserved c =
    let l = c.loop-i in
    let z = l.self.limbs in
    let a = c.args.self.now.limbs in
    let v = c.low.result in (
      l.invariant.0,
      simp length-set l.invariant.1,
      above_set z a l.i v l.invariant.2,
      (λ h. scaled z a l.i c.args.by l.carry v c.high-carry.result (omega arith) l.invariant.2 (l.invariant.3 h) (omega arith)),
      (λ h k. limbs_set z l.i v (omega arith) (omega arith) (l.invariant.4 h k)),
    )
