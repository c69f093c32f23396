use Rattle.std.proofs.Common.{rules}
use Rattle.octets.specs.Reading.{Octets}
use Rattle.hitchbarley.proofs.Passed.{forgets_refused, forgets_stayed, forgets_laid}
use Rattle.hitchbarley.proofs.trunk_calls.hb_forget.Goals as goal

pub returns-in-Err : goal.returns-in-Err
returns-in-Err c =
    let os : Octets c.args.state.now = search rules in
    forgets_refused _ _ os c.lift.ensures c.in-Err.is c.number.ensures

pub returns-in-Ok-forget : goal.returns-in-Ok-forget
returns-in-Ok-forget c =
    let os : Octets c.args.state.now = search rules in
    forgets_laid _ _ os c.lift.ensures c.in-Ok.is c.forget.ensures c.in-Ok-forget.is c.lay_slots.ensures

pub returns-in-Err-forget : goal.returns-in-Err-forget
returns-in-Err-forget c =
    let os : Octets c.args.state.now = search rules in
    forgets_stayed _ _ os c.lift.ensures c.in-Ok.is c.forget.ensures c.in-Err-forget.is c.number-in-Err-forget.ensures
