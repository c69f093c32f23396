use Rattle.std.proofs.Common.{not, ap, refl}
use Rattle.collector.proofs.Eaten.{eats_line, eats_area, eats_slots}
use Rattle.collector.proofs.lent.feed.Goals as goal
use Rattle.collector.proofs.lent.feed.Goals.{then-report-ne-SIZE-via-then-report-ne-SIZE, then-report-ne-SIZE-via-else-report-ne-SIZE+then-area-ne65536}

pub returns-then-report-ne-SIZE : goal.returns-then-report-ne-SIZE
returns-then-report-ne-SIZE c =
    elim c.then-report-ne-SIZE.branch [
      | then-report-ne-SIZE-via-then-report-ne-SIZE w ↦ eats_line _ _ _ _ _ _ _ w.if-report-ne-SIZE.true refl
      | then-report-ne-SIZE-via-else-report-ne-SIZE+then-area-ne65536 w ↦ eats_area _ _ _ _ _ _ _ w.if-report-ne-SIZE.false w.if-area-ne65536.true refl
    ]

pub returns-then-not-sound : goal.returns-then-not-sound
returns-then-not-sound c =
    eats_slots _ _ _ _ _ _ _ c.if-report-ne-SIZE.false c.if-area-ne65536.false c.sound.ensures (ap not c.if-not-sound.true) refl
