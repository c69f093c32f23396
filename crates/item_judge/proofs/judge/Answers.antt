use Rattle.item_judge.proofs.Walk.{judged_part, judged_many}
use Rattle.item_judge.proofs.judge.Goals as goal
use Rattle.item_judge.proofs.judge.Goals.{then-records-ne0-via-then-records-ne0, then-records-ne0-via-else-records-ne0+then-records-gt2048}

pub returns-then-records-ne0 : goal.returns-then-records-ne0
returns-then-records-ne0 c =
    elim c.then-records-ne0.branch [
      | then-records-ne0-via-then-records-ne0 w ↦ judged_part _ _ w.if-records-ne0.true
      | then-records-ne0-via-else-records-ne0+then-records-gt2048 w ↦ judged_many _ _ w.if-records-gt2048.true
    ]
