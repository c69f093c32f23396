-- The limbs above are the same.
use Rattle.std.proofs.Common.{◌≡◌, ◌≤◌, ◌<◌, ℕ, get_or}
use Rattle.decimals.proofs.limbs.Number.compare.Given as goal

abbrev pub invariant-loop-i : goal.invariant-loop-i
invariant-loop-i l = (j : ℕ) → l.i ≤ j → j < l.self.used → get_or l.self.limbs j 0 ≡ get_or l.other.limbs j 0
