use Rattle.std.proofs.Common.{rules}
use Rattle.services.proofs.Ways.{read_listed, read_small, read_not}
use Rattle.services.proofs.read.Goals as goal

pub returns-in-Ok : goal.returns-in-Ok
returns-in-Ok c = search (rules, read_listed)

pub returns-in-Err-Small : goal.returns-in-Err-Small
returns-in-Err-Small c = search (rules, read_small)

pub returns-in-Err-Refused : goal.returns-in-Err-Refused
returns-in-Err-Refused c = search (rules, read_not)
