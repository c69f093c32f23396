use Rattle.std.proofs.Common.{refl, ◌%◌}
use native.Mathlib.Nat.{mod-lt}
use lib.Bits.{bit_xor}
use lib.Dec.{lit<}
use Rattle.sums.proofs.Entries.{by_entry}
use Rattle.sums.proofs.data_by.Goals as goal

pub returns : goal.returns
returns c =
    let v = bit_xor c.args.reg c.args.octet in
    by_entry v (v % 256) _ refl (c.requires.entry (v % 256) (mod-lt v (lit< tt)))
