use Rattle.std.proofs.Common.{arith}
use Rattle.npdu.specs.Size.{parts_size}
use Rattle.npdu.proofs.Sides.{dest_size, source_size}
use Rattle.npdu.proofs.layout.parts_size.Goals as goal

pub returns-clause-value : goal.returns-clause-value
unfolding parts_size
returns-clause-value c =
    omega (arith, c.part_size.ensures.value, c.part_size-2.ensures.value, dest_size _ c.args.h c.destination_of.ensures, source_size _ c.args.h c.source_of.ensures)
