-- The page's whole case, computed.
use Prim.Native.Nat.{ℕ}
use mathlib.Core.Path.{◌≡◌, refl}
use mathlib.Core.List.{List, [], ◌∷◌}
use Rattle.octets.specs.Splice.{splice}
use Rattle.octets.specs.Numbers.{digits}
use Rattle.sums.specs.Sums.{header_mix}
use Rattle.runs.specs.Run.{octs}
use Rattle.apdu.specs.declared.Edition.{Edition}
use Rattle.frames.specs.Step.{length_of}
use Rattle.trunk.specs.Reading.{reading_of, read_from}
use Rattle.trunk.specs.Demand.{reading}
use Rattle.rebuild.specs.View.{keys}
use Rattle.recordings.specs.Frames.{rules}
use Rattle.reports.specs.Layout.{report_octets}
use Rattle.collector.specs.Frame.{content_of, bacnet}
use Rattle.collector.specs.Calls.{fresh_collector, slots_of}

-- "`55 FF 01 02 01 00 00 F5` gives `01 00 01 02 01` and eleven zeros", at its last octet, in either edition
pub whole_case_lem : (edition : Edition) (area : List ℕ) → (reading (rules keys (bacnet edition)) (fresh_collector edition).receiver (slots_of (fresh_collector edition)) area (octs (0x55 ∷ 0xFF ∷ 0x01 ∷ 0x02 ∷ 0x01 ∷ 0x00 ∷ 0x00 ∷ 0xF5 ∷ []))).reports
    ≡ (7, 0x01 ∷ 0x00 ∷ 0x01 ∷ 0x02 ∷ 0x01 ∷ 0 ∷ 0 ∷ 0 ∷ 0 ∷ 0 ∷ 0 ∷ 0 ∷ 0 ∷ 0 ∷ 0 ∷ 0 ∷ []) ∷ []
unfolding reading read_from reading_of header_mix splice length_of content_of report_octets digits
whole_case_lem edition area = refl
