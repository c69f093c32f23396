use Rattle.std.proofs.Common.{rules, arith, ◌≡◌, length, sym, ◌∙◌}
use Rattle.octets.specs.Splice.{splice_then}
use Rattle.npdu.specs.Layout.{part_octets, parts_octets}
use Rattle.npdu.specs.Size.{parts_size}
use Rattle.npdu.proofs.Sides.{dest_size, dest_octets, dest_length, source_size, source_octets, source_length}
use Rattle.npdu.proofs.Sizes.{fault_none, part_length}
use Rattle.npdu.proofs.layout.put_parts.Goals as goal

pub put_part-requires : goal.put_part-requires
unfolding parts_size
put_part-requires c =
    let d = c.destination_of-destination in
    (dest_length d.result c.args.h d.ensures c.requires.0, omega (arith, c.requires.1, dest_size d.result c.args.h d.ensures))

pub put_part-requires-2 : goal.put_part-requires-2
unfolding parts_size
put_part-requires-2 c =
    let h = c.args.h in
    let d = c.destination_of-destination in (
      source_length c.source_of.result h c.source_of.ensures c.requires.0,
      omega (arith, c.requires.1, c.part_size.ensures.value, dest_size d.result h d.ensures, source_size c.source_of.result h c.source_of.ensures),
    )

pub returns : goal.returns
unfolding parts_octets parts_size
returns c =
    let a = c.args in
    let h = a.h in
    let x = c.destination_of-destination in
    let r = fault_none h c.requires.0 in
    let d : length h.dadr ≡ 7 = search rules in
    let s : length h.sadr ≡ 7 = search rules in
    let k = part_length h.dest h.dnet h.dlen h.dadr (λ t. (r.destination t).len_range) d in
    let l = part_length h.source h.snet h.slen h.sadr (λ t. (r.origin t).len_range) s in
    let e = k ∙ sym (c.part_size.ensures.value ∙ dest_size x.result h x.ensures) in
    let p = rw (dest_octets x.result h x.ensures) at c.put_part.ensures in
    let q = rw (source_octets c.source_of.result h c.source_of.ensures) at c.put_part-2.ensures in
    splice_then a.out.now a.at (part_octets h.dest h.dnet h.dlen h.dadr) _ (omega (arith, c.requires.1, k, l)) p (rw e q)
