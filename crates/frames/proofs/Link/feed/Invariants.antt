use Rattle.std.proofs.Common.{length, ◌≡◌, drop}
use Rattle.frames.specs.Step.{over, feed_from, feed_of}
use Rattle.frames.proofs.Laws.{Sound}
use Rattle.frames.proofs.Link.feed.Given as goal

abbrev pub invariant-loop-i : goal.invariant-loop-i
invariant-loop-i l =
    record {
      sound : Sound (over l.link l.store);
      size : length l.store ≡ 501;
      fed : feed_from l.i (over l.link l.store) (drop l.i l.piece) ≡ feed_of (over l.initial.link l.initial.store) l.piece;
    }
