-- A message of two segments by its octets, computed: the reports with their places, and what the last of them says of the area.
use Prim.Native.Nat.{ℕ}
use mathlib.Core.Path.{◌≡◌, refl, ap, ◌∙◌}
use mathlib.Core.Bool.{true, false}
use mathlib.Core.List.{List, [], ◌∷◌, ◌++◌}
use mathlib.Core.Option.{some}
use lib.Dec.{lit≤}
use lib.ListN.{length}
use Rattle.octets.specs.Choice.{given}
use Rattle.octets.specs.Numbers.{value_at, digits}
use Rattle.octets.specs.Splice.{splice, splice_length, splice_join, splice_inside}
use Rattle.sums.specs.Sums.{header_mix, data_bits, data_bit}
use Rattle.runs.specs.Run.{Run, wire, ended}
use Rattle.runs.specs.Run.Event.{octet}
use Rattle.runs.specs.Run.Order.{trunk}
use Rattle.frames.specs.Step.{length_of}
use Rattle.apdu.specs.declared.Edition.{Edition}
use Rattle.apdu.specs.declared.Edition.TheVariants.{First, Later}
use Rattle.trunk.specs.Reading.{reading_of, read_from}
use Rattle.trunk.specs.Demand.{reading}
use Rattle.npdu.specs.Address.{same_address, same_fields, same_octets, source_of, destination_of, part_address, absent}
use Rattle.npdu.specs.Reading as Npdu
use Rattle.apdu.specs.Reading as Apdu
use Rattle.apdu.specs.Fields.{tail_end}
use Rattle.items.specs.Reading as Items
use Rattle.items.specs.Reading.{items_of}
use Rattle.items.proofs.Examples.{worked}
use Rattle.messages.specs.Slots.{Segment, part}
use Rattle.messages.specs.Rows.{rebuild, starts_at, next_number}
use Rattle.messages.specs.History.{begun, since, joined}
use Rattle.rebuild.specs.View.{keys, same_key}
use Rattle.rebuild.specs.declared.Key.{Key}
use Rattle.recordings.specs.Frames.{rules}
use Rattle.reports.specs.Layout.{report_octets}
use Rattle.reports.specs.Kinds.{complete}
use Rattle.collector.specs.Heard.{parts_of}
use Rattle.collector.specs.Frame.{npdu_content, content_of, by_tags, bacnet}
use Rattle.collector.specs.Calls.{fresh_collector, slots_of}
use Rattle.collector.specs.Offering.{End}
use Rattle.collector.proofs.Reached.{fresh}
use Rattle.demands.specs.Completed.{worked_key, report_at, segment_ending, heard_from, worked_front, other_report, first_report, second_report, CompletedWorked}
use Rattle.demands.proofs.Three.{read_by_position}
use Rattle.demands.proofs.Completed.{completed_as_reported}

abbrev run : Run
run = worked_front ++ (trunk (octet 0x1C) ∷ [])

abbrev all : List ℕ
all = 0x3E ∷ 0x44 ∷ 0x42 ∷ 0x39 ∷ 0x99 ∷ 0x9A ∷ 0x3F ∷ []

-- the area with the other message's octet in slot 0 and both segments in slot 1, one behind the other
abbrev laid : List ℕ → List ℕ
laid area = splice (splice (splice area 0 (0x77 ∷ [])) 16384 (0x3E ∷ 0x44 ∷ 0x42 ∷ 0x39 ∷ [])) 16388 (0x99 ∷ 0x9A ∷ 0x3F ∷ [])

laid_all : (area : List ℕ) → length area ≡ 65536 → part 16384 7 (laid area) ≡ all
laid_all area z =
    let a = splice area 0 (0x77 ∷ []) in
    let l : length a ≡ 65536 = splice_length area 0 (0x77 ∷ []) (rw z (lit≤ tt)) ∙ z in
    ap (part 16384 7) (splice_join a 16384 (0x3E ∷ 0x44 ∷ 0x42 ∷ 0x39 ∷ []) (0x99 ∷ 0x9A ∷ 0x3F ∷ []) (rw l (lit≤ tt))) ∙ splice_inside a 16384 all (rw l (lit≤ tt))

abbrev reports_by : Items.Out → List (ℕ × List ℕ)
reports_by y =
    let last = complete (record { kind = 0x06; destination = 0x21; source = 0x43 }) (record { first = 0x38; invoke = 0x57; choice = 0x0E }) 1 7 in
    (18, other_report) ∷ (39, first_report) ∷ (59, report_octets (by_tags y last)) ∷ []

computed : (d : Edition) (area : List ℕ)
    → (reading (rules keys (bacnet d)) (fresh_collector d).receiver (slots_of (fresh_collector d)) area run).reports ≡ reports_by (items_of (part 16384 7 (laid area)))
unfolding reading read_from reading_of header_mix data_bits data_bit splice length_of content_of npdu_content given Npdu.read_npdu Npdu.after_version Npdu.after_dest Npdu.after_source Npdu.after_tail Npdu.part_if Npdu.no_part Npdu.tail_at Npdu.joined Npdu.message_at Npdu.ended Npdu.refused_by Apdu.read_apdu Apdu.read_request Apdu.read_complex_ack Apdu.read_tail tail_end rebuild starts_at next_number same_key same_address same_fields same_octets source_of destination_of part_address absent report_octets parts_of digits
computed First area = refl
computed Later area = refl

-- what is heard of the message
abbrev heard : List (ℕ × List ℕ)
heard = (18, other_report) ∷ (39, first_report) ∷ (59, second_report) ∷ []

says : (d : Edition) → (let log = heard_from (fresh_collector d) run heard in (begun keys worked_key log ≡ true) × (joined (since keys worked_key log) ≡ all))
unfolding read_from reading_of header_mix data_bits data_bit splice length_of content_of npdu_content given Npdu.read_npdu Npdu.after_version Npdu.after_dest Npdu.after_source Npdu.after_tail Npdu.part_if Npdu.no_part Npdu.tail_at Npdu.joined Npdu.message_at Npdu.ended Npdu.refused_by Apdu.read_apdu Apdu.read_request Apdu.read_complex_ack Apdu.read_tail tail_end starts_at next_number same_key same_address same_fields same_octets source_of destination_of part_address absent parts_of value_at
says First = (refl, refl)
says Later = (refl, refl)

-- its last segment
abbrev last_segment : Segment Key
last_segment = record { key = worked_key; number = 1; mor = false; choice = 0x0E; octets = 0x99 ∷ 0x9A ∷ 0x3F ∷ [] }

ends_there : (d : Edition) → segment_ending d (ended 59 (read_from (fresh_collector d).receiver (wire run))) ≡ some last_segment
unfolding read_from reading_of header_mix data_bits data_bit splice length_of content_of npdu_content given Npdu.read_npdu Npdu.after_version Npdu.after_dest Npdu.after_source Npdu.after_tail Npdu.part_if Npdu.no_part Npdu.tail_at Npdu.joined Npdu.message_at Npdu.ended Npdu.refused_by Apdu.read_apdu Apdu.read_request Apdu.read_complex_ack Apdu.read_tail tail_end source_of destination_of part_address absent parts_of
ends_there First = refl
ends_there Later = refl

pub completed_worked : CompletedWorked
unfolding value_at report_octets digits
completed_worked d area z e o =
    let Reports : Type 0 = List (ℕ × List ℕ) in
    let q : e.reports ≡ heard =
    ap (λ (e : End). e.reports) (read_by_position (fresh_collector d) area (fresh d) z run e o) ∙ computed d area
    ∙ ap (λ (o : List ℕ). reports_by (items_of o)) (laid_all area z) ∙ ap reports_by worked.group in
    let bg : begun keys worked_key (heard_from (fresh_collector d) run e.reports) ≡ true =
    ap (λ (rs : Reports). begun keys worked_key (heard_from (fresh_collector d) run rs)) q ∙ (says d).0 in
    let so : report_at 59 e.reports ≡ some second_report = ap (report_at 59) q in
    let w = (completed_as_reported (fresh_collector d) area (fresh d) z worked_front (octet 0x1C) e o).complete second_report so refl last_segment (ends_there d) bg in
    (q, bg, w.1.octets ∙ ap (λ (rs : Reports). joined (since keys worked_key (heard_from (fresh_collector d) run rs))) q ∙ (says d).1)
