-- A report's sixteen octets, one by one.
use Prim.Native.Nat.{ℕ, ◌/◌, ◌%◌}
use mathlib.Core.Path.{◌≡◌, ap}
use mathlib.Core.List.{List, [], ◌∷◌}
use lib.ListN.{length}
use Rattle.octets.specs.Numbers.{digits_four}
use Rattle.reports.specs.declared.Report.{Report}
use Rattle.reports.specs.Layout.{report_size, report_octets}

abbrev pub octets_of : Report → List ℕ
octets_of r =
    r.kind ∷ r.number ∷ r.frame.kind ∷ r.frame.destination ∷ r.frame.source ∷ r.apdu.first ∷ r.apdu.invoke ∷ r.slot
    ∷ r.length / 16777216 % 256 ∷ r.length / 65536 % 256 ∷ r.length / 256 % 256 ∷ r.length % 256 ∷ r.apdu.choice ∷ 0 ∷ 0 ∷ 0 ∷ []

pub octets_of_lem : (r : Report) → report_octets r ≡ octets_of r
unfolding report_octets
octets_of_lem r = rw (digits_four r.length)

-- "One record of 16 octets"
pub report_size_lem : (r : Report) → length (report_octets r) ≡ report_size
report_size_lem r = ap length (octets_of_lem r)
