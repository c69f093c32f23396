use Rattle.std.proofs.Common.{rules}
use Rattle.octets.specs.Splice.{splice_set}
use Rattle.octets.proofs.put.Goals as goal

pub returns : goal.returns
returns c = splice_set _ _ _ (search rules)
