use Rattle.std.proofs.Common.{rules}
use Rattle.hitchbarley.proofs.Answered.{writes_not}
use Rattle.hitchbarley.proofs.Headers.{npdu_other, npdu_writes}
use Rattle.hitchbarley.proofs.header_calls.hb_npdu_write.Goals as goal

pub returns-then-fields-ne29 : goal.returns-then-fields-ne29
returns-then-fields-ne29 c = search (rules, writes_not, npdu_other)

pub returns : goal.returns
returns c = search (rules, npdu_writes)
