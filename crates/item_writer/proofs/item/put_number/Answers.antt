use Rattle.std.proofs.Common.{arith, refl, sym, lt-ltb, le-ltb}
use Rattle.octets.specs.Splice.{splice_nil}
use Rattle.tags.specs.Layout.{number_octets}
use Rattle.item_writer.proofs.item.put_number.Goals as goal

pub returns-then-n-lt15 : goal.returns-then-n-lt15
unfolding number_octets
returns-then-n-lt15 c = rw (lt-ltb _ _ c.if-n-lt15.true) (record { area = sym (splice_nil _ _); after = omega arith })

pub put-requires : goal.put-requires
unfolding number_octets
put-requires c = let h = rw (le-ltb _ _ c.if-n-lt15.false) at c.requires in omega arith

pub returns : goal.returns
unfolding number_octets
returns c = rw (le-ltb _ _ c.if-n-lt15.false) (record { area = c.put.ensures; after = refl })
