-- The ratio has room: half the way below is at most half the way above.
use Rattle.std.proofs.Common.{◌+◌, rules}
use Rattle.decimals.specs.Narrow.{powers}
use Rattle.decimals.proofs.narrow.finite.Goals as goal

pub invariant_of-ratio : goal.invariant_of-ratio
invariant_of-ratio c =
    let b = c.args.b.now in
    let p = c.power-plus in
    let q = c.power-minus in
    let h = powers b.nearest (b.up + 1) q.result p.result q.ensures p.ensures b.neighbour in
    search rules
