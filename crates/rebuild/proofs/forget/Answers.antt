use Rattle.std.proofs.Common.{◌≡◌, length, arith, rules}
use Rattle.rebuild.proofs.Ways.{forget_open}
use Rattle.rebuild.proofs.forget.Goals as goal

pub returns-then-slots-at : goal.returns-then-slots-at
returns-then-slots-at c =
    let four : length c.args.slots.slots ≡ 4 = search rules in
    forget_open c.args.slots c.args.s c.from-at.result four (omega arith) c.from-at.ensures c.with_slot.result c.if-slots-at.true c.with_slot.ensures
