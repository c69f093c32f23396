use Rattle.std.proofs.Common.{rules}
use Rattle.octets.specs.Reading.{Octets}
use Rattle.hitchbarley.proofs.Fed.{fed_refused}
use Rattle.hitchbarley.proofs.trunk_calls.hb_feed.Goals as goal

pub returns-in-Err : goal.returns-in-Err
returns-in-Err c =
    let os : Octets c.args.state.now = search rules in
    fed_refused _ _ _ c.args.piece.now os (search rules) (search rules) c.judge.ensures c.in-Err.is c.number-in-Err.ensures
