use Rattle.std.proofs.Common.{rules, arith, refl}
use Rattle.npdu.specs.Valid.{Kept}
use Rattle.records.specs.Network.{front, middle, rest}
use Rattle.records.proofs.Areas.{two_laid, three_laid}
use Rattle.records.proofs.Networks.{npdu_laid}
use Rattle.records.proofs.network.put.Goals as goal

pub returns : goal.returns
returns c =
    let h = c.args.h in
    let kept : Kept h = record { dest_kept = search rules; source_kept = search rules } in
    npdu_laid h kept c.args.out.now _ _
    (two_laid _ 0 8 (front h) h.dadr (rw (← c.front.ensures) c.copy.ensures) c.copy-2.ensures refl (omega (arith, kept.dest_kept, c.requires)))
    (three_laid _ 15 18 25 (middle h) h.sadr (rest h) (rw (← c.middle.ensures) c.copy-3.ensures) c.copy-4.ensures (rw (← c.rest.ensures) c.copy-5.ensures) refl (omega (arith, kept.source_kept)) (omega (arith, c.copy-2.auto.dst, c.copy.auto.dst, c.requires)))
    c.requires
