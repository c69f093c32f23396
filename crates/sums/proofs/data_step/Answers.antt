use lib.Dec.{lit<}
use Rattle.sums.proofs.Entries.{by_entry}
use Rattle.sums.proofs.data_step.Goals as goal

pub returns-then-v-eq255 : goal.returns-then-v-eq255
returns-then-v-eq255 c = rw (← c.from.ensures) (by_entry _ 0xFF _ c.if-v-eq255.true (c.data_table.ensures.entry 0xFF (lit< tt)))

pub returns-then-v-eq135 : goal.returns-then-v-eq135
returns-then-v-eq135 c = rw (← c.from.ensures) (by_entry _ 0x87 _ c.if-v-eq135.true (c.data_table-then-v-eq135.ensures.entry 0x87 (lit< tt)))
