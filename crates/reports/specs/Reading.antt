-- Sixteen octets read as a report: the fields at their places, and a test that they are the octets of some report.
use Rattle.std.specs.Prelude.{ℕ, ◌≡◌, Bool, true, List, eqb, leb, length}
use Rattle.std.proofs.Math.Option.{Option, none, some}
use Rattle.octets.specs.Choice.{pick, both}
use Rattle.octets.specs.Reading.{oct}
use Rattle.octets.specs.Numbers.{value_at}
use Rattle.reports.specs.declared.Apdu.{Apdu}
use Rattle.reports.specs.declared.Frame.{Frame}
use Rattle.reports.specs.declared.Report.{Report}
use Rattle.reports.specs.Layout.{report_size}
use Rattle.reports.specs.Valid.{Row, filled}

-- the fields at their places
unfoldable pub report_at : List ℕ → Report
report_at o =
    record {
      kind = oct o 0;
      number = oct o 1;
      frame = record { kind = oct o 2; destination = oct o 3; source = oct o 4 };
      apdu = record { first = oct o 5; invoke = oct o 6; choice = oct o 12 };
      slot = oct o 7;
      length = value_at o 8 4;
    }

-- a field that a kind does not fill is 0
abbrev pub filled_or0 : Bool → ℕ → Bool
filled_or0 b x = pick b true (eqb x 0)

abbrev pub frame_or0 : Bool → Frame → Bool
frame_or0 b f = both (filled_or0 b f.kind) (both (filled_or0 b f.destination) (filled_or0 b f.source))

abbrev pub apdu_or0 : Bool → Apdu → Bool
apdu_or0 b a = both (filled_or0 b a.first) (both (filled_or0 b a.invoke) (filled_or0 b a.choice))

unfoldable pub lacks_in : Row → Report → Bool
lacks_in f r =
    both (filled_or0 f.number r.number)
    (both (frame_or0 f.frame r.frame)
    (both (apdu_or0 f.apdu r.apdu)
    (both (filled_or0 f.slot r.slot) (filled_or0 f.length r.length))))

unfoldable pub kind_in : ℕ → Bool
kind_in kind = both (leb 1 kind) (leb kind 7)

-- "All else .. is 0"
unfoldable pub rest_in : List ℕ → Bool
rest_in o = both (eqb (oct o 13) 0) (both (eqb (oct o 14) 0) (eqb (oct o 15) 0))

unfoldable pub read_report : List ℕ → Option Report
read_report o =
    pick (eqb (length o) report_size)
    (pick (rest_in o) (pick (kind_in (report_at o).kind) (pick (lacks_in (filled (report_at o).kind) (report_at o)) (some (report_at o)) none) none) none) none

abbrev pub Reads : List ℕ → Report → Type 0
Reads o r = read_report o ≡ some r
