-- "One record of 16 octets, no header. 0: kind; 1: refusal number or 0; 2 to 4: frame type, destination, source; 5: first APDU octet;
-- 6: invoke ID; 7: slot; 8 to 11: length, high octet first; 12: service choice. All else, and what the kind or PDU lacks, is 0."
use Rattle.std.specs.Prelude.{ℕ, List, [], ◌∷◌, ◌++◌}
use Rattle.octets.specs.Numbers.{digits}
use Rattle.reports.specs.declared.Report.{Report}

abbrev pub report_size : ℕ
report_size = 16

unfoldable pub report_octets : Report → List ℕ
report_octets r =
    (r.kind ∷ r.number ∷ r.frame.kind ∷ r.frame.destination ∷ r.frame.source ∷ r.apdu.first ∷ r.apdu.invoke ∷ r.slot ∷ [])
    ++ (digits 4 r.length ++ (r.apdu.choice ∷ 0 ∷ 0 ∷ 0 ∷ []))
