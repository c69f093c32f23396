-- Less than a record is held over.
use Rattle.std.proofs.Common.{◌<◌}
use Rattle.replay.proofs.tape.all.Given as goal

abbrev pub invariant-loop : goal.invariant-loop
invariant-loop g l = l.held < 4
