use Rattle.std.proofs.Common.{arith}
use Rattle.service_writer.proofs.Beyond
use Rattle.service_writer.proofs.judge.beyond.Goals as goal

pub overflow_add-end : goal.overflow_add-end
overflow_add-end c = omega (arith, c.requires.2, Beyond.cut_facts _ c.args.behind.now c.args.request c.args.q c.requires.0 c.requires.1 _ c.cut_item-c.ensures)

pub returns-then-s-behind : goal.returns-then-s-behind
returns-then-s-behind c = Beyond.beyond_none _ c.args.behind.now c.args.request c.args.q c.requires.0 c.requires.1 _ c.cut_item-c.ensures c.if-s-behind.true

pub item-x-requires : goal.item-x-requires
item-x-requires c = Beyond.cut_fits _ c.args.behind.now c.args.request c.args.q c.requires.0 c.requires.1 _ c.cut_item-c.ensures c.requires.2

pub overflow_sub-end : goal.overflow_sub-end
overflow_sub-end c = omega (arith, Beyond.cut_facts _ c.args.behind.now c.args.request c.args.q c.requires.0 c.requires.1 _ c.cut_item-c.ensures)

pub finish-requires : goal.finish-requires
finish-requires c = Beyond.cut_small _ c.args.behind.now c.args.request c.args.q c.requires.0 c.requires.1 _ c.cut_item-c.ensures c.if-s-behind.false _ (c.item-x.ensures 0) c.requires.2

pub returns : goal.returns
returns c = Beyond.beyond_some _ c.args.behind.now c.args.request c.args.q c.requires.0 c.requires.1 _ c.cut_item-c.ensures c.if-s-behind.false _ (c.item-x.ensures 0) _ c.finish.ensures
