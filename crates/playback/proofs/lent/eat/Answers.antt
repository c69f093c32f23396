use Rattle.std.proofs.Common.{rules}
use Rattle.playback.proofs.Turning.{turn_eat}
use Rattle.playback.proofs.lent.eat.Goals as goal

pub returns : goal.returns
returns c =
    let a = c.args in
    turn_eat a.edition a.link a.slots a.store.now a.report.now a.area.now a.rest.now c.requires _ _ c.gather-n.ensures _ c.eat.ensures (search rules) (search rules)
