use Rattle.std.proofs.Common.{rules}
use Rattle.feeding.proofs.Datas.{got_fits, run_fits, one_on, run_onward}
use Rattle.feeding.proofs.lay_data.Goals as goal

pub lay_one-requires : goal.lay_one-requires
lay_one-requires c = search (rules, got_fits)

pub returns-then-there-eq1 : goal.returns-then-there-eq1
returns-then-there-eq1 c = search (rules, one_on)

pub lay_run-requires : goal.lay_run-requires
lay_run-requires c = search (rules, run_fits)

pub returns : goal.returns
returns c = let h = rw c.from.ensures at c.least.ensures in search (rules, run_onward)
