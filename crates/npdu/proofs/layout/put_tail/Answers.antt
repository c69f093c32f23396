use Rattle.std.proofs.Common.{arith, ◌≡◌, [], ◌∷◌, length-set}
use Rattle.octets.specs.Choice.{given_true, given_false}
use Rattle.octets.specs.Splice.{splice_set, splice_then}
use Rattle.npdu.specs.Layout.{hop_octets, message_octets, tail_octets}
use Rattle.npdu.specs.Size.{hop_size, tail_size}
use Rattle.npdu.proofs.Sizes.{message_length}
use Rattle.npdu.proofs.layout.put_tail.Goals as goal

pub bounds-out-at : goal.bounds-out-at
unfolding hop_size tail_size
bounds-out-at c = let e : hop_size c.args.h.dest ≡ 1 = given_true _ _ _ c.if-h.true in omega (arith, e, c.requires)

pub put_message-requires : goal.put_message-requires
unfolding hop_size tail_size
put_message-requires c = let e : hop_size c.args.h.dest ≡ 1 = given_true _ _ _ c.if-h.true in simp length-set (omega (arith, e, c.requires))

pub returns-then-h : goal.returns-then-h
unfolding hop_octets hop_size tail_octets tail_size
returns-then-h c =
    let a = c.args in
    let h = a.h in
    let o = a.out.now in
    let e : hop_size h.dest ≡ 1 = given_true _ _ _ c.if-h.true in
    rw (given_true _ _ _ c.if-h.true)
    (splice_then o a.at (h.hops ∷ []) (message_octets h.message h.kind h.vendor) (omega (arith, e, c.requires, message_length h.message h.kind h.vendor))
    (splice_set o a.at h.hops (omega (arith, e, c.requires))) c.put_message.ensures)

pub returns : goal.returns
unfolding hop_octets tail_octets
returns c = rw (given_false _ _ _ c.if-h.false) c.put_message-2.ensures
