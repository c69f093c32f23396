-- Frames and damages exactly, and one recording by computation.
use mathlib.Core.Path.{refl}
use Rattle.octets.specs.Splice.{splice}
use Rattle.sums.specs.Sums.{header_mix, data_bits, data_bit}
use Rattle.frames.specs.Step.{length_of}
use Rattle.trunk.specs.Reading.{reading_of, read_from}
use Rattle.trunk.specs.Reading.Out.{damage}
use Rattle.trunk.proofs.Outcomes as Trunk
use Rattle.trunk.proofs.Laws.{outcomes_from, damage_numbers}
use Rattle.demands.specs.Damage.{OutcomesExact, DamageExact, OneOutcome, TrunkWorked}

pub outcomes_exact : OutcomesExact
outcomes_exact = outcomes_from

pub damage_exact : DamageExact
damage_exact r so es bs q n = (outcomes_from r so es bs q (damage n), damage_numbers r so es bs q n)

pub one_outcome : OneOutcome
one_outcome = Trunk.one_outcome

pub trunk_worked : TrunkWorked
unfolding read_from reading_of header_mix splice length_of data_bits data_bit
trunk_worked = refl
