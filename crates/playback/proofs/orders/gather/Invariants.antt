use Rattle.std.specs.Prelude.{length, ◌≡◌}
use Rattle.playback.specs.Lent.{Gathered}
use Rattle.playback.proofs.orders.gather.Given as goal

abbrev pub invariant-loop-n : goal.invariant-loop-n
invariant-loop-n l = Gathered l.records l.out l.n × (length l.out ≡ 64)
