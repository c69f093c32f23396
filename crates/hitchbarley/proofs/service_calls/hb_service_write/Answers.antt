use Rattle.std.proofs.Common.{rules}
use Rattle.hitchbarley.proofs.Answered.{writes_not}
use Rattle.hitchbarley.proofs.Services.{service_other, service_beyond, service_writes}
use Rattle.hitchbarley.proofs.service_calls.hb_service_write.Goals as goal

pub returns-then-fields-ne26 : goal.returns-then-fields-ne26
returns-then-fields-ne26 c = search (rules, writes_not, service_other)

pub returns-then-fields-gt5 : goal.returns-then-fields-gt5
returns-then-fields-gt5 c = search (rules, writes_not, service_beyond)

pub returns : goal.returns
returns c = search (rules, service_writes)
