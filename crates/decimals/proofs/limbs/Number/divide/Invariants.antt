-- What was taken off so far, and what is left.
use Rattle.std.proofs.Common.{◌≡◌, ◌+◌, ◌*◌, ◌≤◌, length}
use Rattle.decimals.specs.Worth.{worth}
use Rattle.decimals.specs.Order.{Limbs}
use Rattle.decimals.proofs.limbs.Number.divide.Given as goal

abbrev pub invariant-loop-d : goal.invariant-loop-d
invariant-loop-d l =
    let n = l.fn.self.used in
    let a = l.fn.self.limbs in
    let z = l.self.limbs in
    (l.self.used ≡ n) × (length z ≡ length a) × (n ≤ length a → Limbs a → Limbs z) × (n ≤ length a → Limbs a → Limbs l.by.limbs → worth a n ≡ l.d * worth l.by.limbs n + worth z n)
