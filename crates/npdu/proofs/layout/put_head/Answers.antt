use Rattle.std.proofs.Common.{rules, arith, ℕ, List, [], ◌∷◌, ◌++◌, ◌+◌, ◌≡◌, length}
use Rattle.octets.specs.Splice.{splice_then, splice_sets}
use Rattle.npdu.specs.Layout.{control_of, parts_octets, encode}
use Rattle.npdu.specs.Valid.{Kept}
use Rattle.npdu.specs.Size.{parts_size, size_of}
use Rattle.npdu.proofs.Sizes.{fault_none, parts_length, tail_length}
use Rattle.npdu.proofs.layout.put_head.Goals as goal

pub control-requires : goal.control-requires
control-requires c = (fault_none c.args.h c.requires.0).urgency

pub returns : goal.returns
unfolding encode parts_size size_of
returns c =
    let h = c.args.h in
    let o = c.args.out.now in
    let kept : Kept h = record { dest_kept = search rules; source_kept = search rules } in
    let k = parts_length h (fault_none h c.requires.0) kept in
    let a : List ℕ = (1 ∷ control_of h ∷ []) ++ parts_octets h in
    let e : 0 + length a ≡ 2 + c.parts_size.result = omega (arith, k, c.parts_size.ensures.value) in
    splice_then o 0 a _ (omega (arith, c.requires.1, k, tail_length h))
    (splice_then o 0 (1 ∷ control_of h ∷ []) (parts_octets h) (omega (arith, c.requires.1, k)) (rw (← c.control.ensures) (splice_sets o 0 _ (omega (arith, c.requires.1)))) c.put_parts.ensures)
    (rw e c.put_tail.ensures)
