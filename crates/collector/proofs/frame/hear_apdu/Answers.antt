use Rattle.collector.proofs.Content.{some_octets_lem}
use Rattle.collector.proofs.Hearing.{apdu_turned, apdu_alone}
use Rattle.collector.proofs.frame.hear_apdu.Goals as goal

pub bounds-a-0 : goal.bounds-a-0
bounds-a-0 c = some_octets_lem c.args.w.edition c.args.a.now c.read.result c.in-Ok.p c.read.ensures c.in-Ok.is

pub returns-in-Err : goal.returns-in-Err
returns-in-Err c = apdu_turned c.args.w _ c.args.a.now c.args.at c.args.out.now c.read.result c.read.ensures c.in-Err.is c.put_refusal.ensures

pub returns-else-m : goal.returns-else-m
returns-else-m c = apdu_alone c.args.w _ c.args.a.now c.args.at c.args.out.now c.read.result c.read.ensures c.in-Ok.is c.parts_of-m.ensures c.if-m.false c.put_plain.ensures
