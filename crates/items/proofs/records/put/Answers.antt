use Rattle.items.proofs.RecordOctets.{put_none, put_stores}
use Rattle.items.specs.Records.{rec_of}
use Rattle.items.proofs.records.put.Goals as goal

pub returns-then-out-i : goal.returns-then-out-i
returns-then-out-i c = put_none _ _ _ c.if-out-i.true

pub returns : goal.returns
returns c = rw (← c.of_tag-r.ensures) (put_stores _ _ _ _ _ (rec_of c.of_tag-r.result) c.if-out-i.false c.copy.ensures c.put_four.ensures c.put_four-2.ensures)
