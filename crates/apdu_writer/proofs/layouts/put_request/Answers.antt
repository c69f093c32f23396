use Rattle.std.proofs.Common.{arith, [], ◌∷◌}
use Rattle.octets.specs.Splice.{splice_then}
use Rattle.apdu_writer.proofs.layouts.put_request.Goals as goal

pub returns : goal.returns
returns c = splice_then _ 0 (_ ∷ _ ∷ _ ∷ []) _ (omega arith) (cc) c.put_tail.ensures
