use Rattle.std.proofs.Common.{◌≡◌, ◌/◌, ◌%◌, arith, refl, sym, lt-ltb, le-ltb}
use Rattle.octets.specs.Splice.{splice_nil}
use Rattle.tags.specs.Layout.{length_octets}
use Rattle.item_writer.proofs.item.put_length.Goals as goal

pub put-requires : goal.put-requires
unfolding length_octets
put-requires c = let h = rw (le-ltb c.args.len 5 (omega arith), lt-ltb c.args.len 254 (omega arith)) at c.requires.1 in omega arith

pub copy-requires : goal.copy-requires
unfolding length_octets
copy-requires c = let h = rw (le-ltb c.args.len 5 (omega arith), le-ltb c.args.len 254 (omega arith)) at c.requires.1 in omega arith

pub returns-in-0-to-4 : goal.returns-in-0-to-4
unfolding length_octets
returns-in-0-to-4 c = rw (lt-ltb c.args.len 5 (omega arith)) (record { area = sym (splice_nil _ _); after = omega arith })

pub returns-in-5-to-253 : goal.returns-in-5-to-253
unfolding length_octets
returns-in-5-to-253 c = rw (le-ltb c.args.len 5 (omega arith), lt-ltb c.args.len 254 (omega arith)) (record { area = c.put.ensures; after = refl })

pub returns-in_default : goal.returns-in_default
unfolding length_octets
returns-in_default c =
    let high : c.args.len / 256 % 256 ≡ c.args.len / 256 = omega arith in
    rw (le-ltb c.args.len 5 (omega arith), le-ltb c.args.len 254 (omega arith)) (record { area = rw (c.to_be_bytes.ensures, high) at c.copy.ensures; after = refl })
