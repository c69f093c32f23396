use Rattle.std.proofs.Common.{arith, add-zero}
use Rattle.octets.specs.Numbers.{value_at}
use Rattle.item_judge.proofs.records.four_at.Goals as goal

pub returns : goal.returns
unfolding value_at
returns c = simp add-zero (omega (arith, c.from_be_bytes.ensures))
