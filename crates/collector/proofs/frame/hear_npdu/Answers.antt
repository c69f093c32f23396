use Rattle.collector.proofs.Content.{next_inside}
use Rattle.collector.proofs.Hearing.{npdu_turned, npdu_spoken, npdu_on}
use Rattle.collector.proofs.frame.hear_npdu.Goals as goal

pub overflow_sub-payload : goal.overflow_sub-payload
overflow_sub-payload c = next_inside c.args.w.edition c.args.payload.now c.read.result c.read.ensures c.in-Ok.h c.in-Ok.is

pub slice_bounds-hear_apdu-count : goal.slice_bounds-hear_apdu-count
slice_bounds-hear_apdu-count c = next_inside c.args.w.edition c.args.payload.now c.read.result c.read.ensures c.in-Ok.h c.in-Ok.is

pub slice_bounds-hear_apdu-start : goal.slice_bounds-hear_apdu-start
slice_bounds-hear_apdu-start c = next_inside c.args.w.edition c.args.payload.now c.read.result c.read.ensures c.in-Ok.h c.in-Ok.is

pub returns-in-Err : goal.returns-in-Err
returns-in-Err c = npdu_turned c.args.w c.args.payload.now c.args.out.now c.read.result c.read.ensures c.in-Err.is c.put_refusal.ensures

pub returns-then-h : goal.returns-then-h
returns-then-h c = npdu_spoken c.args.w c.args.payload.now c.args.out.now c.read.result c.read.ensures c.in-Ok.is c.if-h.true c.network_message.ensures c.put.ensures

pub returns-else-h : goal.returns-else-h
returns-else-h c = npdu_on c.args.w c.args.payload.now c.args.out.now c.read.result c.read.ensures c.in-Ok.is c.if-h.false c.hear_apdu.ensures
