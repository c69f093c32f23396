use Rattle.std.proofs.Common.{refl}
use Rattle.sums.specs.Sums.{header_mix}
use Rattle.sums.proofs.Entries.{table_of}
use Rattle.sums.proofs.tables.header_table.Goals as goal

pub returns : goal.returns
unfolding header_mix
returns c = table_of header_mix _ refl tt
