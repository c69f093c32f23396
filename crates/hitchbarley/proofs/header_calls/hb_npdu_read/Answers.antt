use Rattle.std.proofs.Common.{rules}
use Rattle.hitchbarley.proofs.Headers.{npdu_not}
use Rattle.hitchbarley.proofs.header_calls.hb_npdu_read.Goals as goal

pub returns-in-Err : goal.returns-in-Err
returns-in-Err c = search (rules, npdu_not)
