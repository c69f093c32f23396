use Rattle.std.proofs.Common.{rules}
use Rattle.hitchbarley.proofs.Answered.{writes_not}
use Rattle.hitchbarley.proofs.Headers.{apdu_other, apdu_beyond, apdu_writes}
use Rattle.hitchbarley.proofs.header_calls.hb_apdu_write.Goals as goal

pub returns-then-fields-ne13 : goal.returns-then-fields-ne13
returns-then-fields-ne13 c = search (rules, writes_not, apdu_other)

pub returns-then-fields-gt7 : goal.returns-then-fields-gt7
returns-then-fields-gt7 c = search (rules, writes_not, apdu_beyond)

pub returns : goal.returns
returns c = search (rules, apdu_writes)
