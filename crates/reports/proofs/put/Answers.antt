use Rattle.std.proofs.Common.{sym, ◌∙◌}
use Rattle.reports.proofs.Octets.{octets_of_lem}
use Rattle.reports.proofs.put.Goals as goal

pub returns : goal.returns
returns c = c.copy_from_slice.ensures.after ∙ rw c.to_be_bytes.ensures (sym (octets_of_lem c.args.r))
