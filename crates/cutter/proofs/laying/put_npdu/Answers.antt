use Rattle.cutter.proofs.Pieces.{put_three}
use Rattle.cutter.proofs.laying.put_npdu.Goals as goal

pub returns : goal.returns
returns c = put_three _ _ _ c.requires.2 c.put_network-a.ensures c.put_header-b.ensures c.copy.ensures
