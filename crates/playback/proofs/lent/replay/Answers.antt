use Rattle.std.proofs.Common.{arith, refl}
use Rattle.octets.specs.Refusal.{number_some}
use Rattle.playback.proofs.Judging.{stays_barred, stays_odd, lends_whole, replays}
use Rattle.playback.proofs.lent.replay.Goals as goal

-- 60 and 59
pub returns-in-Err : goal.returns-in-Err
returns-in-Err c = let m = number_some c.in-Err.n in stays_barred _ _ _ _ _ _ _ c.in-Err.ensures (λ z. omega arith) c.stay.ensures

-- 68
pub returns-then-records-ne0 : goal.returns-then-records-ne0
returns-then-records-ne0 c = stays_odd _ _ _ _ _ _ _ c.in_default.ensures refl c.if-records-ne0.true c.stay-then-records-ne0.ensures

pub run-requires : goal.run-requires
run-requires c = lends_whole _ _ _ _ _ _ c.in_default.ensures refl c.if-records-ne0.false c.requires

pub returns : goal.returns
returns c = replays _ _ _ _ _ _ _ c.in_default.ensures refl c.if-records-ne0.false c.run.ensures
