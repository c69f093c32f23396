use Rattle.std.specs.Prelude.{◌-◌, ◌*◌, ◌/◌, length}
use Rattle.item_writer.proofs.Laws.{Laying}
use Rattle.item_writer.proofs.put_all.Given as goal

abbrev pub invariant-loop-i : goal.invariant-loop-i
invariant-loop-i l = Laying l.records l.source l.fn.out l.out l.at (12 * l.i) (length l.records / 12 - l.i)
