use Rattle.std.specs.Prelude.{length, ◌-◌, ◌*◌}
use Rattle.playback.specs.Layout.{record_size}
use Rattle.playback.specs.Answers.{went_of}
use Rattle.playback.proofs.Going.{Onward}
use Rattle.playback.proofs.lent.run.Given as goal

abbrev pub invariant-loop-w : goal.invariant-loop-w
invariant-loop-w l = Onward l.edition l.fn.link l.fn.slots l.initial.store l.initial.report l.initial.area l.records (went_of l.w) l.store l.report l.area

abbrev pub decreases-loop-w : goal.decreases-loop-w
decreases-loop-w l = length l.records - record_size * l.w.eaten
