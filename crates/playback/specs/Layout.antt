-- "four-octet records, no header: kind (0 octet, 1 silence, 2 forget), value, two zeros": the records of a run.
use Rattle.std.specs.Prelude.{ℕ, List, [], ◌∷◌, ◌++◌}
use Rattle.runs.specs.Run.{Run, Order}
use Rattle.runs.specs.Run.Event.{octet, silence}
use Rattle.runs.specs.Run.Order.{trunk, forget}

abbrev pub record_size : ℕ
record_size = 4

abbrev pub record_of : Order → List ℕ
record_of (trunk (octet x)) = 0 ∷ x ∷ 0 ∷ 0 ∷ []
record_of (trunk silence) = 1 ∷ 0 ∷ 0 ∷ 0 ∷ []
record_of (forget i) = 2 ∷ i ∷ 0 ∷ 0 ∷ []

abbrev pub record_octets : Run → List ℕ
record_octets [] = []
record_octets (o ∷ run) = record_of o ++ record_octets run
