-- Reports of each kind, computed.
use Prim.Native.Nat.{ℕ}
use mathlib.Core.Path.{◌≡◌, refl, ap, ◌∙◌}
use mathlib.Core.List.{List, [], ◌∷◌}
use lib.ListN.{length}
use Rattle.octets.specs.Choice.{given}
use Rattle.octets.specs.Numbers.{value_at, digits}
use Rattle.octets.specs.Splice.{splice}
use Rattle.sums.specs.Sums.{header_mix, data_bits, data_bit}
use Rattle.runs.specs.Run.{octs}
use Rattle.frames.specs.Step.{length_of}
use Rattle.apdu.specs.declared.Edition.{Edition}
use Rattle.apdu.specs.declared.Edition.TheVariants.{First, Later}
use Rattle.trunk.specs.Reading.{reading_of, read_from}
use Rattle.trunk.specs.Demand.{reading}
use Rattle.npdu.specs.Address.{same_address, same_fields, same_octets, source_of, destination_of, part_address, absent}
use Rattle.npdu.specs.Reading as Npdu
use Rattle.apdu.specs.Reading as Apdu
use Rattle.apdu.specs.Fields.{tail_end}
use Rattle.tags.specs.Types.{least, most}
use Rattle.tags.specs.Reading.{head_at, number_at, length_at, two_at, four_at, first_rule, first_content, contents_at, whole_at, sign_bad, signed_at, context_at, application_at}
use Rattle.items.specs.Reading as Items
use Rattle.items.specs.Reading.{more, ending, closes, step, walk, items_of}
use Rattle.items.proofs.Examples.{worked}
use Rattle.messages.specs.Slots.{part}
use Rattle.messages.specs.Rows.{rebuild, starts_at, next_number}
use Rattle.messages.specs.Rows.Answer.{completed}
use Rattle.rebuild.specs.View.{keys, same_key}
use Rattle.recordings.specs.Frames.{rules}
use Rattle.reports.specs.Layout.{report_octets}
use Rattle.reports.specs.Kinds.{complete}
use Rattle.collector.specs.Heard.{parts_of}
use Rattle.collector.specs.Frame.{npdu_content, content_of, by_tags, answered_at, bacnet}
use Rattle.collector.specs.Calls.{fresh_collector, slots_of}
use Rattle.collector.specs.Offering.{End}
use Rattle.collector.proofs.Reached.{fresh}
use Rattle.collector.proofs.Examples as Examples
use Rattle.demands.specs.ReportsWorked.{Case, WholeCase, AsWorked, worked_cases, run_of, placed, ReportsWorked, LongReport, segment_frame, SegmentReportsWorked}
use Rattle.demands.proofs.Three.{read_by_position}

pub whole_case_lem : WholeCase
whole_case_lem d area z e o =
    ap (λ (e : End). e.reports) (read_by_position (fresh_collector d) area (fresh d) z (octs (0x55 ∷ 0xFF ∷ 0x01 ∷ 0x02 ∷ 0x01 ∷ 0x00 ∷ 0x00 ∷ 0xF5 ∷ [])) e o)
    ∙ Examples.whole_case_lem d area

-- what the reading of a run on a fresh collector of an edition reports
abbrev pub reported : Edition → List ℕ → List Case → List (ℕ × List ℕ)
reported d area cases = (reading (rules keys (bacnet d)) (fresh_collector d).receiver (slots_of (fresh_collector d)) area (run_of cases)).reports

abbrev pub Computes : List Case → Type 0
Computes cases = (d : Edition) (area : List ℕ) → length area ≡ 65536 → reported d area cases ≡ placed 0 cases

pub as_worked : (cases : List Case) → Computes cases → AsWorked cases
as_worked cases h d area z e o = ap (λ (e : End). e.reports) (read_by_position (fresh_collector d) area (fresh d) z (run_of cases) e o) ∙ h d area z

computed : Computes worked_cases
unfolding reading read_from reading_of header_mix data_bits data_bit splice length_of content_of npdu_content given Npdu.read_npdu Npdu.after_version Npdu.after_dest Npdu.after_source Npdu.after_tail Npdu.part_if Npdu.no_part Npdu.tail_at Npdu.vendor_at Npdu.joined Npdu.message_at Npdu.ended Npdu.refused_by Apdu.read_apdu Apdu.read_request Apdu.read_unconfirmed Apdu.read_complex_ack Apdu.read_segment_ack Apdu.read_reject Apdu.read_tail tail_end items_of walk step closes ending more head_at number_at length_at two_at four_at first_rule first_content contents_at whole_at sign_bad signed_at context_at application_at least most rebuild starts_at next_number same_key same_address same_fields same_octets source_of destination_of part_address absent report_octets parts_of value_at digits
computed First area z = refl
computed Later area z = refl

pub reports_worked : ReportsWorked
reports_worked = as_worked worked_cases computed

pub long_report : LongReport
unfolding content_of report_octets digits
long_report d = refl

-- a completed message, by the octets of its slot
abbrev told : ℕ → ℕ → Items.Out → List ℕ
told kind n y =
    report_octets (by_tags y (complete (record { kind = kind; destination = 0x21; source = 0x43 }) (record { first = 0x3C; invoke = 0x57; choice = 0x0E }) 2 n))

by_tags_lem : (d : Edition) (area : List ℕ)
    → (answered_at d (segment_frame 0x06) (completed 2 7) area ≡ told 0x06 7 (items_of (part 32768 7 area)))
    × (answered_at d (segment_frame 0x05) (completed 2 1) area ≡ told 0x05 1 (items_of (part 32768 1 area)))
unfolding content_of npdu_content given Npdu.read_npdu Npdu.after_version Npdu.after_dest Npdu.after_source Npdu.after_tail Npdu.part_if Npdu.no_part Npdu.tail_at Npdu.joined Npdu.message_at Npdu.ended Npdu.refused_by Apdu.read_apdu Apdu.read_complex_ack Apdu.read_tail tail_end report_octets parts_of
by_tags_lem d area = (refl, refl)

pub segment_reports_worked : SegmentReportsWorked
unfolding content_of npdu_content given Npdu.read_npdu Npdu.after_version Npdu.after_dest Npdu.after_source Npdu.after_tail Npdu.part_if Npdu.no_part Npdu.tail_at Npdu.joined Npdu.message_at Npdu.ended Npdu.refused_by Apdu.read_apdu Apdu.read_complex_ack Apdu.read_tail tail_end report_octets parts_of digits
segment_reports_worked d area =
    record {
      held = refl;
      whole = λ h. (by_tags_lem d area).0 ∙ ap (λ (o : List ℕ). told 0x06 7 (items_of o)) h ∙ ap (told 0x06 7) worked.group;
      bad_tags = λ h. (by_tags_lem d area).1 ∙ ap (λ (o : List ℕ). told 0x05 1 (items_of o)) h ∙ ap (told 0x05 1) worked.left_open_lem;
      not_taken = refl;
    }
