use Rattle.std.proofs.Common.{ℕ, ◌<◌, ◌≡◌, true}
use Rattle.state.specs.Judging.{slot_fair}
use Rattle.state.proofs.judging.each_quick.Given as goal

-- the slots below are fair
abbrev pub invariant-loop-i : goal.invariant-loop-i
invariant-loop-i l = (j : ℕ) → j < l.i → slot_fair l.o j ≡ true
