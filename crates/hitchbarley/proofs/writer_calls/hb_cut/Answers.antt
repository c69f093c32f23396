use Rattle.std.proofs.Common.{rules}
use Rattle.hitchbarley.proofs.Writers.{cut_other, cut_front, cut_kind, cut_good, cut_refused}
use Rattle.hitchbarley.proofs.writer_calls.hb_cut.Goals as goal

pub returns-then-fields-ne13 : goal.returns-then-fields-ne13
returns-then-fields-ne13 c = search (rules, cut_other)

pub returns-in-Err : goal.returns-in-Err
returns-in-Err c = search (rules, cut_front)

pub returns-then-not-segmented : goal.returns-then-not-segmented
returns-then-not-segmented c = cut_kind _ _ _ _ _ c.if-fields-ne13.false _ c.judge_front.ensures _ c.in_default.is c.segmented.ensures c.if-not-segmented.true c.number-then-not-segmented.ensures

pub returns-in-Ok : goal.returns-in-Ok
returns-in-Ok c = cut_good _ _ _ _ _ c.if-fields-ne13.false _ c.judge_front.ensures _ c.in_default.is c.segmented.ensures c.if-not-segmented.false c.message.ensures c.edition_of.ensures _ c.cut.ensures _ c.in-Ok.is

pub returns-in-Err-cut : goal.returns-in-Err-cut
returns-in-Err-cut c = cut_refused _ _ _ _ _ c.if-fields-ne13.false _ c.judge_front.ensures _ c.in_default.is c.segmented.ensures c.if-not-segmented.false c.message.ensures c.edition_of.ensures _ c.cut.ensures _ c.in-Err-cut.is c.number-in-Err-cut.ensures
