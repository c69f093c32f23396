use Rattle.std.specs.Prelude.{◌-◌, ◌*◌, ◌/◌, ◌≤◌, length}
use Rattle.item_judge.proofs.Walk.{Judging}
use Rattle.item_judge.proofs.judge_all.Given as goal

abbrev pub invariant-loop-i : goal.invariant-loop-i
invariant-loop-i l =
    (l.size ≤ 16500 * l.i) × Judging l.records l.source l.groups l.size (12 * l.i) (length l.records / 12 - l.i)
