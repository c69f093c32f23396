use Rattle.service_writer.proofs.Promise
use Rattle.service_writer.proofs.lay.Goals as goal

pub returns-then-out-n : goal.returns-then-out-n
returns-then-out-n c = Promise.lay_short c.args.front.now c.args.value.now c.args.behind.now _ c.if-out-n.true

pub returns : goal.returns
returns c = Promise.lay_good c.args.front.now c.args.value.now c.args.behind.now _ c.if-out-n.false _ _ _ c.copy.ensures c.copy-2.ensures c.copy-3.ensures
