use Rattle.std.proofs.Common.{not, ap, refl}
use Rattle.collector.proofs.Hushed.{hush_line, hush_slots}
use Rattle.collector.proofs.lent.silence.Goals as goal

pub returns-then-report-ne-SIZE : goal.returns-then-report-ne-SIZE
returns-then-report-ne-SIZE c e s = hush_line e c.args.link c.args.slots c.args.report.now s c.if-report-ne-SIZE.true refl

pub returns-then-not-sound : goal.returns-then-not-sound
returns-then-not-sound c e s = hush_slots e c.args.link c.args.slots c.args.report.now s c.if-report-ne-SIZE.false c.sound.ensures (ap not c.if-not-sound.true) refl
