use Rattle.std.proofs.Common.{◌≡◌, length, rules}
use Rattle.rebuild.proofs.Ways.{twice_later}
use Rattle.rebuild.proofs.search.twice.Goals as goal

pub returns-then-x : goal.returns-then-x
returns-then-x c =
    let t = c.args.t in
    let four : length t.slots ≡ 4 = search rules in
    twice_later t c.args.s four c.requires c.if-x.true c.some_open.ensures
