-- What a report can be: a kind from 1 to 7, fields that fit their octets, and 0 for each that its kind does not fill.
use Rattle.std.specs.Prelude.{ℕ, ◌≤◌, ◌<◌, ◌≡◌, Bool, true, false, eqb}
use Rattle.octets.specs.Choice.{pick}
use Rattle.reports.specs.declared.Report.{Report}
use Rattle.reports.specs.Kinds.{no_frame, no_apdu}

-- a row of the table, "Filled": 1; 2-4; 5, 6 and 12; 7; the length
pub record Row : Type 0 where
  pub number : Bool
  pub frame : Bool
  pub apdu : Bool
  pub slot : Bool
  pub length : Bool

abbrev row : Bool → Bool → Bool → Bool → Bool → Row
row n f a s l = record { number = n; frame = f; apdu = a; slot = s; length = l }

unfoldable pub filled : ℕ → Row
filled kind =
    pick (eqb kind 1) (row false true false false true)
    (pick (eqb kind 2) (row true false false false false)
    (pick (eqb kind 3) (row false true true false true)
    (pick (eqb kind 4) (row false true true true true)
    (pick (eqb kind 5) (row false true true true true)
    (pick (eqb kind 6) (row true true false false false)
    (row false true false false true))))))

-- each field fits its octets
pub record Fits (r : Report) : Type 0 where
  pub kind : r.kind < 256
  pub number : r.number < 256
  pub frame_type : r.frame.kind < 256
  pub destination : r.frame.destination < 256
  pub source : r.frame.source < 256
  pub first : r.apdu.first < 256
  pub invoke : r.apdu.invoke < 256
  pub choice : r.apdu.choice < 256
  pub slot : r.slot < 256
  pub length : r.length < 4294967296

-- "what the kind or PDU lacks, is 0"
pub record Lacks (f : Row) (r : Report) : Type 0 where
  pub number : f.number ≡ false → r.number ≡ 0
  pub frame : f.frame ≡ false → r.frame ≡ no_frame
  pub apdu : f.apdu ≡ false → r.apdu ≡ no_apdu
  pub slot : f.slot ≡ false → r.slot ≡ 0
  pub length : f.length ≡ false → r.length ≡ 0

pub record Valid (r : Report) : Type 0 where
  pub first : 1 ≤ r.kind
  pub last : r.kind ≤ 7
  pub lacks : Lacks (filled r.kind) r
  pub fits : Fits r
