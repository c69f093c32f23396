-- The limbs behind are the sum of those before, but for the carry.
use Rattle.std.proofs.Common.{◌≡◌, ◌+◌, ◌*◌, ◌^◌, ◌≤◌, length}
use Rattle.decimals.specs.Worth.{worth, Above}
use Rattle.decimals.specs.Order.{Limbs}
use Rattle.decimals.proofs.limbs.Number.add.Given as goal

abbrev pub invariant-loop-i : goal.invariant-loop-i
invariant-loop-i l =
    let n = l.fn.self.used in
    let a = l.fn.self.limbs in
    let z = l.self.limbs in
    (l.self.used ≡ n) × (length z ≡ length a) × Above l.i z a × (n ≤ length a → worth z l.i + l.carry * 4294967296 ^ l.i ≡ worth a l.i + worth l.other.limbs l.i) × (n ≤ length a → Limbs a → Limbs z)
