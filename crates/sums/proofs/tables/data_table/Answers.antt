use Rattle.std.proofs.Common.{refl}
use Rattle.sums.specs.Sums.{data_bit, data_bits}
use Rattle.sums.proofs.Entries.{table_of}
use Rattle.sums.proofs.tables.data_table.Goals as goal

pub returns : goal.returns
unfolding data_bits data_bit
returns c = table_of (data_bits 8) _ refl tt
