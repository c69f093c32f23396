use Rattle.std.proofs.Common.{rules}
use Rattle.octets.specs.Reading.{Octets}
use Rattle.hitchbarley.proofs.Stilled.{still_refused, still_stayed, still_laid}
use Rattle.hitchbarley.proofs.trunk_calls.hb_silence.Goals as goal

pub returns-in-Err : goal.returns-in-Err
returns-in-Err c =
    let os : Octets c.args.state.now = search rules in
    still_refused _ _ os c.if-report-ne-SIZE.false c.still.ensures c.in-Err.is c.number-in-Err.ensures

pub returns-in-Ok-hush : goal.returns-in-Ok-hush
returns-in-Ok-hush c =
    let os : Octets c.args.state.now = search rules in
    still_laid _ _ os c.if-report-ne-SIZE.false c.still.ensures c.in-Ok.is c.hush.ensures c.in-Ok-hush.is c.lay_link.ensures (search rules)

pub returns-in-Err-hush : goal.returns-in-Err-hush
returns-in-Err-hush c =
    let os : Octets c.args.state.now = search rules in
    still_stayed _ _ os c.if-report-ne-SIZE.false c.still.ensures c.in-Ok.is c.hush.ensures c.in-Err-hush.is c.number-in-Err-hush.ensures
