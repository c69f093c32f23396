use Rattle.std.proofs.Common.{arith, ◌≡◌, true, false, ◌+◌, ◌-◌, ◌*◌, ◌/◌, length}
use Rattle.item_judge.specs.Kinds.{rec_of, kind_rule}
use Rattle.item_judge.specs.OneLayout.{size_of}
use Rattle.item_judge.proofs.Stack.{number_short, length_short}
use Rattle.item_judge.proofs.Walk.{kind_facts, judging_next, judging_bad, judging_open, judging_long, judging_end}
use Rattle.item_judge.proofs.judge_all.Goals as goal
use Rattle.item_judge.proofs.judge_all.Goals.{then-depth-gt0-via-then-depth-gt0, then-depth-gt0-via-else-depth-gt0+then-size-gt16384}

pub returns-then-not-good : goal.returns-then-not-good
returns-then-not-good c =
    let r = c.record_at-r.result in
    let t : kind_rule c.args.source.now c.loop-i.groups (rec_of r) ≡ false = cc in
    judging_bad _ _ _ _ _ _ (rec_of r) c.record_at-r.ensures (omega arith) t c.loop-i.invariant.1

pub size-size-requires : goal.size-size-requires
size-size-requires c =
    let r = c.record_at-r.result in
    let t : kind_rule c.args.source.now c.loop-i.groups (rec_of r) ≡ true = cc in
    (kind_facts _ _ (rec_of r) t).0

pub overflow_add-size : goal.overflow_add-size
unfolding size_of
overflow_add-size c =
    let r = c.record_at-r.result in
    let t : kind_rule c.args.source.now c.loop-i.groups (rec_of r) ≡ true = cc in
    let f = kind_facts _ _ (rec_of r) t in
    record { fits = omega (arith, f.0, c.size-size.ensures, number_short r.number, length_short r.len) }

pub pass-requires : goal.pass-requires
pass-requires c =
    let r = c.record_at-r.result in
    let t : kind_rule c.args.source.now c.loop-i.groups (rec_of r) ≡ true = cc in
    (kind_facts _ _ (rec_of r) t).1

pub loop-i-preserved : goal.loop-i-preserved
unfolding size_of
loop-i-preserved c =
    let r = c.record_at-r.result in
    let i = c.loop-i.i in
    let n = length c.args.records.now / 12 in
    let t : kind_rule c.args.source.now c.loop-i.groups (rec_of r) ≡ true = cc in
    let f = kind_facts _ _ (rec_of r) t in
    let p : 12 * (i + 1) ≡ 12 * i + 12 = omega arith in
    let left : n - (i + 1) ≡ n - i - 1 = omega arith in (
      omega (arith, f.0, c.size-size.ensures, number_short r.number, length_short r.len),
      rw (p, left, c.pass.ensures, c.size-size.ensures) (judging_next _ _ _ _ _ _ (rec_of r) c.record_at-r.ensures (omega arith) t c.loop-i.invariant.1),
    )

pub returns-then-depth-gt0 : goal.returns-then-depth-gt0
returns-then-depth-gt0 c =
    elim c.then-depth-gt0.branch [
      | then-depth-gt0-via-then-depth-gt0 w ↦ judging_open _ _ _ _ _ _ (omega arith) (omega (arith, c.depth.ensures, w.if-depth-gt0.true)) c.loop-i.invariant.1
      | then-depth-gt0-via-else-depth-gt0+then-size-gt16384 w ↦ judging_long _ _ _ _ _ _ (omega arith) w.if-size-gt16384.true c.loop-i.invariant.1
    ]

pub returns : goal.returns
returns c = judging_end _ _ _ _ _ _ (omega arith) (omega (arith, c.depth.ensures)) (omega arith) c.requires.0 c.requires.1 c.loop-i.invariant.1
