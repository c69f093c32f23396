use Rattle.std.proofs.Common.{arith, sym, ◌+◌}
use Rattle.octets.specs.Numbers.{value_none, value_more, pow_small, pow_more}
use Rattle.octets.proofs.value.Goals as goal

pub loop-i-init : goal.loop-i-init
loop-i-init c = let e = value_none c.args.s.now c.args.p in (sym e, omega arith)

pub overflow_mul-v : goal.overflow_mul-v
overflow_mul-v c = omega (arith, pow_small c.loop-i.i (omega arith))

pub overflow_add-v : goal.overflow_add-v
overflow_add-v c = omega (arith, pow_small c.loop-i.i (omega arith), c.type_inv.s (c.args.p + c.loop-i.i))

pub loop-i-preserved : goal.loop-i-preserved
loop-i-preserved c = (
  omega (arith, value_more c.args.s.now c.args.p c.loop-i.i),
  omega (arith, pow_more c.loop-i.i, c.type_inv.s (c.args.p + c.loop-i.i)),
)
