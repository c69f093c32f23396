-- The whole has room; each step by ten takes it past the number.
use Rattle.std.proofs.Common.{◌-◌, ◌+◌, ◌≤◌, ◌<◌}
use Rattle.decimals.proofs.narrow.grow.Given as goal

abbrev pub invariant-loop-t : goal.invariant-loop-t
invariant-loop-t l = (0 < l.t) × (l.t ≤ 1152921504606846976) × (l.point ≤ 400 + l.t)

abbrev pub decreases-loop-t : goal.decreases-loop-t
decreases-loop-t l = l.near + 1 - l.t
