use Rattle.std.proofs.Common.{◌≡◌, drop}
use Rattle.sums.specs.Sums.{header_run}
use Rattle.sums.proofs.header_run.Given as goal

abbrev pub invariant-loop-b : goal.invariant-loop-b
invariant-loop-b l = header_run l.c (drop l.b-index l.s) ≡ header_run l.reg l.s
