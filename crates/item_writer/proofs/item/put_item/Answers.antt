use Rattle.std.proofs.Common.{arith}
use Rattle.item_judge.specs.Kinds.{rec_of}
use Rattle.item_judge.specs.Meaning.{named}
use Rattle.item_judge.specs.OneLayout.{layout}
use Rattle.item_writer.proofs.Laws.{put_parts, ready_room, ready_len}
use Rattle.item_writer.proofs.item.put_item.Goals as goal

pub put-requires : goal.put-requires
unfolding layout
put-requires c = omega (arith, ready_room c.requires)

pub put_number-a-requires : goal.put_number-a-requires
unfolding layout
put_number-a-requires c = omega (arith, ready_room c.requires, c.put.auto.out)

pub put_length-b-requires : goal.put_length-b-requires
unfolding layout
put_length-b-requires c = (c.requires.short, omega (arith, ready_room c.requires, c.put.auto.out, c.put_number-a.auto.out, c.put_number-a.ensures.after))

pub put_contents-requires : goal.put_contents-requires
unfolding layout
put_contents-requires c = (c.requires.inside, omega (arith, ready_room c.requires, c.put.auto.out, c.put_number-a.auto.out, c.put_number-a.ensures.after, c.put_length-b.auto.out, c.put_length-b.ensures.after))

pub overflow_add-result : goal.overflow_add-result
unfolding layout
overflow_add-result c = omega (arith, ready_room c.requires, c.put_number-a.ensures.after, c.put_length-b.ensures.after)

pub returns : goal.returns
unfolding layout
returns c =
    rw (← c.tag.ensures)
    (put_parts _ _ _ _ _ _ _ _ _ _ _ _ (named c.args.source.now (rec_of c.args.r)) (ready_len c.requires) (ready_room c.requires) c.put.ensures c.put_number-a.ensures c.put_length-b.ensures c.put_contents.ensures)
