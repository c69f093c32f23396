-- The limbs behind are the difference of those before, but for the borrow.
use Rattle.std.proofs.Common.{◌≡◌, ◌+◌, ◌*◌, ◌^◌, ◌≤◌, length}
use Rattle.decimals.specs.Worth.{worth, Above}
use Rattle.decimals.specs.Order.{Limbs}
use Rattle.decimals.proofs.limbs.Number.subtract.Given as goal

abbrev pub invariant-loop-i : goal.invariant-loop-i
invariant-loop-i l =
    let n = l.fn.self.used in
    let a = l.fn.self.limbs in
    let z = l.self.limbs in
    (l.self.used ≡ n) × (length z ≡ length a) × Above l.i z a × (n ≤ length a → worth z l.i + worth l.other.limbs l.i ≡ worth a l.i + l.borrow * 4294967296 ^ l.i) × (n ≤ length a → Limbs a → Limbs z) × (l.borrow ≤ 1)
