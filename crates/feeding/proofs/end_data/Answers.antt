use Rattle.std.proofs.Common.{rules}
use Rattle.feeding.proofs.Datas.{data_end_fits, ends_good, ends_bad}
use Rattle.feeding.proofs.end_data.Goals as goal

pub slice_bounds-data_run-end : goal.slice_bounds-data_run-end
slice_bounds-data_run-end c = search (rules, data_end_fits)

pub returns-then-left : goal.returns-then-left
returns-then-left c = search (rules, ends_good)

pub returns : goal.returns
returns c = let h = rw c.from-end.ensures at c.data_run-reg.ensures in search (rules, ends_bad)
