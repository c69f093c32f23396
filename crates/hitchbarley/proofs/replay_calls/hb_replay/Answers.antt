use Rattle.std.proofs.Common.{rules, arith}
use Rattle.octets.specs.Reading.{Octets}
use Rattle.hitchbarley.proofs.Replayed.{replays_refused, lifted_long, replays_stayed, replays_moved}
use Rattle.hitchbarley.proofs.replay_calls.hb_replay.Goals as goal
use Rattle.hitchbarley.proofs.replay_calls.hb_replay.Goals.{then-f, else-f}

pub slice_bounds-replay-end : goal.slice_bounds-replay-end
slice_bounds-replay-end c =
    let os : Octets c.args.state.now = search rules in
    omega (arith, lifted_long _ c.args.report.now c.args.area.now c.args.records.now (search rules) (search rules) c.lift.ensures os c.in-Ok.is)

pub returns-in-Err : goal.returns-in-Err
returns-in-Err c = replays_refused _ _ _ _ (search rules) (search rules) c.lift.ensures c.in-Err.is c.number-in-Err.ensures

pub returns : goal.returns
returns c =
    let os : Octets c.args.state.now = search rules in
    elim c.if-f.branch [
      | then-f w ↦ rw w.state-is (replays_moved _ _ _ _ (search rules) (search rules) c.lift.ensures os c.in-Ok.is c.replay-f.result c.replay-f.ensures (search rules) c.fault.ensures (search rules) w.lay.ensures)
      | else-f w ↦ rw w.state-is (replays_stayed _ _ _ _ (search rules) (search rules) c.lift.ensures os c.in-Ok.is c.replay-f.result c.replay-f.ensures (search rules) c.fault.ensures (search rules) w.lay_link.ensures w.if-f.false)
    ]
