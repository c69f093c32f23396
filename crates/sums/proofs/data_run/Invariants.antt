use Rattle.std.proofs.Common.{◌≡◌, drop}
use Rattle.sums.specs.Sums.{data_run}
use Rattle.sums.proofs.data_run.Given as goal

abbrev pub invariant-loop-b : goal.invariant-loop-b
invariant-loop-b l = data_run l.c (drop l.b-index l.s) ≡ data_run l.reg l.s
