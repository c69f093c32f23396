-- Taking off once more.
use Rattle.std.proofs.Common.{arith, ◌∙◌}
use Rattle.decimals.specs.Worth.{worth}
use Rattle.decimals.specs.Division.{not_less, taken_whole, once_more}
use Rattle.decimals.proofs.limbs.Number.divide.Goals as goal

pub loop-d-preserved : goal.loop-d-preserved
loop-d-preserved c =
    let l = c.loop-d in
    let n = c.args.self.now.used in
    let a = c.args.self.now.limbs in
    let b = c.args.by.now.limbs in
    let z = c.subtract.new.self.limbs in
    let t = rw l.invariant.0 at c.subtract.ensures.exact in
    let o = rw l.invariant.0 at c.compare.ensures in (
      c.subtract.ensures.used ∙ l.invariant.0,
      t.long ∙ l.invariant.1,
      (λ h k. t.limbs (omega arith) (l.invariant.2 h k)),
      λ h k m. once_more (worth a n) l.d (worth b n) (worth l.self.limbs n) (worth z n) (l.invariant.3 h k m)
          (taken_whole l.self.limbs b z n c.subtract.result t (omega arith) (l.invariant.2 h k)
          (not_less l.self.limbs b n c.compare.result o (cc) m)),
    )
