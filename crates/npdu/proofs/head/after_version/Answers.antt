use Rattle.std.proofs.Common.{rules}
use Rattle.std.proofs.lemmas.Result.{err_from_is_err_and}
use Rattle.octets.specs.Rules.{tests}
use Rattle.npdu.specs.Reading.{ended, joined, after_version}
use Rattle.npdu.proofs.Steps.{part_ends, refused_dest, refused_source, refused_tail, read_whole}
use Rattle.npdu.proofs.head.after_version.Goals.{then-c-eq1-via-then-c-eq1, then-c-eq1-via-else-c-eq1+then-c-eq1-2}
use Rattle.npdu.proofs.head.after_version.Goals as goal

pub returns-then-c-eq1 : goal.returns-then-c-eq1
unfolding after_version
returns-then-c-eq1 c = elim c.then-c-eq1.branch [ then-c-eq1-via-then-c-eq1 w ↦ search (rules, tests) | then-c-eq1-via-else-c-eq1+then-c-eq1-2 w ↦ search (rules, tests) ]

pub returns-in_err-d : goal.returns-in_err-d
returns-in_err-d c =
    let p = err_from_is_err_and c.from_residual.result c.from_residual.ensures.1 in
    rw (p.1, p.2) (refused_dest c.args.s.now c.args.c c.if-c-eq1.false c.if-c-eq1-2.false _ c.in_err-d.ensures)

pub part_if-requires-2 : goal.part_if-requires-2
part_if-requires-2 c = part_ends _ _ _ _ _ c.in_ok-d.d c.in_ok-d.ensures c.requires

pub returns-in_err-q : goal.returns-in_err-q
returns-in_err-q c =
    let p = err_from_is_err_and c.from_residual-in_err-q.result c.from_residual-in_err-q.ensures.1 in
    rw (p.1, p.2) (refused_source c.args.s.now c.args.c c.if-c-eq1.false c.if-c-eq1-2.false c.in_ok-d.d c.in_ok-d.ensures _ c.in_err-q.ensures)

pub tail_at-requires : goal.tail_at-requires
tail_at-requires c = part_ends _ _ _ _ _ c.in_ok-q.q c.in_ok-q.ensures (part_ends _ _ _ _ _ c.in_ok-d.d c.in_ok-d.ensures c.requires)

pub returns-in_err-t : goal.returns-in_err-t
returns-in_err-t c =
    let p = err_from_is_err_and c.from_residual-in_err-t.result c.from_residual-in_err-t.ensures.1 in
    rw (p.1, p.2)
    (refused_tail c.args.s.now c.args.c c.if-c-eq1.false c.if-c-eq1-2.false c.in_ok-d.d c.in_ok-d.ensures c.in_ok-q.q c.in_ok-q.ensures _ c.in_err-t.ensures)

pub returns : goal.returns
unfolding ended joined
returns c = read_whole c.args.s.now c.args.c c.if-c-eq1.false c.if-c-eq1-2.false c.in_ok-d.d c.in_ok-d.ensures c.in_ok-q.q c.in_ok-q.ensures c.in_ok-t.t c.in_ok-t.ensures
