use Rattle.std.proofs.Common.{rules, arith, refl}
use Rattle.std.proofs.lemmas.Result.{err_from_is_err_and}
use Rattle.items.proofs.Ways.{seen, item_fits, fewer_item, fewer_behind}
use Rattle.items.proofs.Read.{walked_none, read_open, read_ends, read_over, read_refuses, read_alone, read_deeper, read_falls, read_opens, read_inner, read_shuts, read_differs}
use Rattle.items.proofs.cycle.+read.Goals as goal

pub loop-p-init : goal.loop-p-init
loop-p-init t c = walked_none _ _ _ _ _ _ c.requires

pub returns-then-k-ge-MOST : goal.returns-then-k-ge-MOST
returns-then-k-ge-MOST t c = read_over _ _ _ _ _ _ _ _ c.loop-p-test.true _ c.requires c.loop-p.invariant c.if-k-ge-MOST.true _

pub returns-in_err-tag : goal.returns-in_err-tag
returns-in_err-tag t c =
    let p = err_from_is_err_and c.from_residual.result c.from_residual.ensures.1 in
    rw (p.1, p.2) (read_refuses _ _ _ _ _ _ _ _ c.loop-p-test.true c.if-k-ge-MOST.false _ c.requires c.loop-p.invariant _ c.in_err-tag.ensures _)

pub overflow_add-p : goal.overflow_add-p
overflow_add-p t c = search (rules, item_fits _ _ _ _ _ _ _ (seen _ _ _ _ c.in_ok-tag.ensures c.in-Item.is))

pub loop-p-smaller-in-Item : goal.loop-p-smaller-in-Item
loop-p-smaller-in-Item t c = fewer_item _ _ _ _ _ _ _ (seen _ _ _ _ c.in_ok-tag.ensures c.in-Item.is)

pub loop-p-preserved-in-Item : goal.loop-p-preserved-in-Item
loop-p-preserved-in-Item t c = read_alone _ _ _ _ _ _ _ _ c.loop-p-test.true c.if-k-ge-MOST.false _ (seen _ _ _ _ c.in_ok-tag.ensures c.in-Item.is) _ c.requires c.loop-p.invariant _ _ _ _ _ refl _ c.put.ensures c.put.auto.out

pub returns-then-depth-ge16 : goal.returns-then-depth-ge16
returns-then-depth-ge16 t c = read_deeper _ _ _ _ _ _ _ _ c.loop-p-test.true c.if-k-ge-MOST.false _ (seen _ _ _ _ c.in_ok-tag.ensures c.in-Opening.is) _ c.requires c.loop-p.invariant _ _ refl c.if-depth-ge16.true _

pub read-requires : goal.read-requires
read-requires t c = (search (rules, read_falls _ _ _ _ _ _ _ _ c.loop-p-test.true c.if-k-ge-MOST.false _ (seen _ _ _ _ c.in_ok-tag.ensures c.in-Opening.is) _ c.requires c.loop-p.invariant _ _ refl), (omega arith, omega arith))

pub returns-in_err-end-in-Opening : goal.returns-in_err-end-in-Opening
returns-in_err-end-in-Opening t c =
    let p = err_from_is_err_and c.from_residual-in_err-end-in-Opening.result c.from_residual-in_err-end-in-Opening.ensures.1 in
    rw (p.1, p.2) (read_inner _ _ _ _ _ _ _ _ c.loop-p-test.true c.if-k-ge-MOST.false _ (seen _ _ _ _ c.in_ok-tag.ensures c.in-Opening.is) _ _ refl c.if-depth-ge16.false _ c.read.new.out c.put-in-Opening.ensures _ c.requires c.loop-p.invariant _ c.in_err-end-in-Opening.ensures _)

pub loop-p-smaller : goal.loop-p-smaller
loop-p-smaller t c = fewer_behind _ _ _ _ (seen _ _ _ _ c.in_ok-tag.ensures c.in-Opening.is) _ _ _ _ _ _ c.in_ok-end-in-Opening.ensures

pub loop-p-preserved : goal.loop-p-preserved
loop-p-preserved t c =
    read_opens _ _ _ _ _ _ _ _ c.loop-p-test.true c.if-k-ge-MOST.false _ (seen _ _ _ _ c.in_ok-tag.ensures c.in-Opening.is) _ _ refl c.if-depth-ge16.false _ _ c.put-in-Opening.ensures _ c.requires c.loop-p.invariant _ _ c.in_ok-end-in-Opening.ensures c.put-in-Opening.auto.out c.read.auto.out

pub returns-in-Closing : goal.returns-in-Closing
returns-in-Closing t c = read_shuts _ _ _ _ _ _ _ _ c.loop-p-test.true c.if-k-ge-MOST.false _ (seen _ _ _ _ c.in_ok-tag.ensures c.in-Closing.is) _ c.requires c.loop-p.invariant _ _ refl c.if-ne.ensures _ c.put-in-Closing.ensures

pub returns-then-is_some : goal.returns-then-is_some
returns-then-is_some t c = read_open _ _ _ _ _ _ _ _ _ c.loop-p.invariant c.loop-p-test.false c.if-is_some.ensures _

pub returns-then-ne : goal.returns-then-ne
returns-then-ne t c = read_differs _ _ _ _ _ _ _ _ c.loop-p-test.true c.if-k-ge-MOST.false _ (seen _ _ _ _ c.in_ok-tag.ensures c.in-Closing.is) _ c.requires c.loop-p.invariant _ _ refl c.if-ne.ensures _

pub returns : goal.returns
returns t c = read_ends _ _ _ _ _ _ _ _ _ c.requires c.loop-p.invariant c.loop-p-test.false (c.if-is_some.ensures)
