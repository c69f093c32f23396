use Rattle.std.proofs.Common.{◌≡◌, ◌+◌, ◌-◌, arith}
use Rattle.state.specs.Slot.{address_at}
use Rattle.state.proofs.loading.address_at.Goals as goal

pub returns : goal.returns
unfolding address_at
returns c = let at = c.args.at in let n : at + 11 - (at + 4) ≡ 7 = omega arith in rw (c.pair.ensures, c.copy_from_slice.ensures.after, n)
