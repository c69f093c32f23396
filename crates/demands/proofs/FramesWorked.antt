-- Reports of more frames, computed.
use Prim.Native.Nat.{ℕ}
use mathlib.Core.Path.{◌≡◌, refl, ap, ◌∙◌}
use mathlib.Core.List.{List, [], ◌∷◌}
use lib.Dec.{lit≤}
use lib.ListN.{length}
use Rattle.octets.specs.Choice.{given}
use Rattle.octets.specs.Numbers.{value_at, digits}
use Rattle.octets.specs.Splice.{splice, splice_length, splice_join, splice_inside}
use Rattle.sums.specs.Sums.{header_mix, data_bits, data_bit}
use Rattle.frames.specs.Step.{length_of}
use Rattle.apdu.specs.declared.Edition.{Edition}
use Rattle.apdu.specs.declared.Edition.TheVariants.{First, Later}
use Rattle.trunk.specs.Reading.{reading_of, read_from}
use Rattle.trunk.specs.Demand.{reading}
use Rattle.npdu.specs.Address.{same_address, same_fields, same_octets, source_of, destination_of, part_address, absent}
use Rattle.npdu.specs.Layout.{cut}
use Rattle.npdu.specs.Reading as Npdu
use Rattle.apdu.specs.Reading as Apdu
use Rattle.apdu.specs.Fields.{tail_end}
use Rattle.tags.specs.Types.{least, most}
use Rattle.tags.specs.Reading.{head_at, number_at, length_at, two_at, four_at, first_rule, first_content, contents_at, whole_at, sign_bad, signed_at, context_at, application_at}
use Rattle.items.specs.Reading as Items
use Rattle.items.specs.Reading.{more, ending, closes, step, walk, items_of}
use Rattle.items.specs.Reading.Out.{bad}
use Rattle.items.proofs.Examples.{worked}
use Rattle.messages.specs.Slots.{part}
use Rattle.messages.specs.Rows.{rebuild, starts_at, next_number}
use Rattle.rebuild.specs.View.{same_key}
use Rattle.reports.specs.Layout.{report_octets}
use Rattle.reports.specs.Kinds.{complete}
use Rattle.collector.specs.Heard.{parts_of}
use Rattle.collector.specs.Frame.{npdu_content, content_of, by_tags}
use Rattle.demands.specs.ReportsWorked.{Case, placed}
use Rattle.demands.specs.FramesWorked.{one_held, routed_held, other_number, other_choice, elsewhere, routed_whole, whole_bad_tags, none_held, four_held, five_held, three_held, no_slot, apdu_cases, ApdusWorked, segment_cases, SegmentFramesWorked, refused_cases, RefusalsWorked}
use Rattle.demands.proofs.ReportsWorked.{reported, Computes, as_worked}

apdus_computed : Computes apdu_cases
unfolding reading read_from reading_of header_mix data_bits data_bit splice length_of content_of npdu_content given Npdu.read_npdu Npdu.after_version Npdu.after_dest Npdu.after_source Npdu.after_tail Npdu.part_if Npdu.no_part Npdu.tail_at Npdu.vendor_at Npdu.joined Npdu.message_at Npdu.ended Npdu.refused_by Apdu.read_apdu Apdu.read_request Apdu.read_unconfirmed Apdu.read_complex_ack Apdu.read_segment_ack Apdu.read_reject Apdu.read_tail tail_end items_of walk step closes ending more head_at number_at length_at two_at four_at first_rule first_content contents_at whole_at sign_bad signed_at context_at application_at least most rebuild starts_at next_number same_key same_address same_fields same_octets source_of destination_of part_address absent cut report_octets parts_of value_at digits Npdu.part_of Npdu.part_net Npdu.part_len Npdu.address_of Apdu.read_simple_ack Apdu.read_error Apdu.read_abort
apdus_computed First area z = refl
apdus_computed Later area z = refl

pub apdus_worked : ApdusWorked
apdus_worked = as_worked apdu_cases apdus_computed

-- ---- the message area where two messages complete in slot 1: one of two segments, laid end to end, and then one of a single segment; slot 0 holds an octet
abbrev two_segments : List ℕ
two_segments = 0x3E ∷ 0x44 ∷ 0x42 ∷ 0x39 ∷ 0x99 ∷ 0x9A ∷ 0x3F ∷ []

abbrev one_segment : List ℕ
one_segment = 0x22 ∷ 0x00 ∷ 0x05 ∷ []

abbrev before : List ℕ → List ℕ
before area = splice area 0 (0x85 ∷ [])

abbrev once : List ℕ → List ℕ
once area = splice (splice (before area) 16384 (0x3E ∷ 0x44 ∷ 0x42 ∷ [])) 16387 (0x39 ∷ 0x99 ∷ 0x9A ∷ 0x3F ∷ [])

abbrev again : List ℕ → List ℕ
again area = splice (once area) 16384 one_segment

before_size : (area : List ℕ) → length area ≡ 65536 → length (before area) ≡ 65536
before_size area z = splice_length area 0 (0x85 ∷ []) (rw z (lit≤ tt)) ∙ z

once_is : (area : List ℕ) → length area ≡ 65536 → once area ≡ splice (before area) 16384 two_segments
once_is area z = splice_join (before area) 16384 (0x3E ∷ 0x44 ∷ 0x42 ∷ []) (0x39 ∷ 0x99 ∷ 0x9A ∷ 0x3F ∷ []) (rw (before_size area z) (lit≤ tt))

once_size : (area : List ℕ) → length area ≡ 65536 → length (once area) ≡ 65536
once_size area z = let l = before_size area z in ap length (once_is area z) ∙ splice_length (before area) 16384 two_segments (rw l (lit≤ tt)) ∙ l

once_laid : (area : List ℕ) → length area ≡ 65536 → part 16384 7 (once area) ≡ two_segments
once_laid area z = ap (part 16384 7) (once_is area z) ∙ splice_inside (before area) 16384 two_segments (rw (before_size area z) (lit≤ tt))

again_laid : (area : List ℕ) → length area ≡ 65536 → part 16384 3 (again area) ≡ one_segment
again_laid area z = splice_inside (once area) 16384 one_segment (rw (once_size area z) (lit≤ tt))

-- the reports, by the tags of these two messages
abbrev segments_by : Items.Out → Items.Out → List Case
segments_by x y =
    let fine = complete (record { kind = 0x06; destination = 0x5B; source = 0x5C }) (record { first = 0x38; invoke = 0x78; choice = 0x0C }) 1 7 in
    let alone = complete (record { kind = 0x05; destination = 0x5D; source = 0x5E }) (record { first = 0x08; invoke = 0x79; choice = 0x0E }) 1 3 in
    one_held ∷ routed_held ∷ other_number ∷ other_choice ∷ elsewhere ∷ (routed_whole.0, report_octets (by_tags x fine)) ∷ (whole_bad_tags.0, report_octets (by_tags y alone))
    ∷ none_held ∷ four_held ∷ five_held ∷ three_held ∷ no_slot ∷ []

segments_by_lem : (d : Edition) (area : List ℕ) → reported d area segment_cases ≡ placed 0 (segments_by (items_of (part 16384 7 (once area))) (items_of (part 16384 3 (again area))))
unfolding reading read_from reading_of header_mix data_bits data_bit splice length_of content_of npdu_content given Npdu.read_npdu Npdu.after_version Npdu.after_dest Npdu.after_source Npdu.after_tail Npdu.part_if Npdu.no_part Npdu.tail_at Npdu.vendor_at Npdu.joined Npdu.message_at Npdu.ended Npdu.refused_by Apdu.read_apdu Apdu.read_request Apdu.read_unconfirmed Apdu.read_complex_ack Apdu.read_segment_ack Apdu.read_reject Apdu.read_tail tail_end head_at number_at length_at two_at four_at first_rule first_content contents_at whole_at sign_bad signed_at context_at application_at least most rebuild starts_at next_number same_key same_address same_fields same_octets source_of destination_of part_address absent cut report_octets parts_of value_at digits Npdu.part_of Npdu.part_net Npdu.part_len Npdu.address_of Apdu.read_simple_ack Apdu.read_error Apdu.read_abort
segments_by_lem First area = refl
segments_by_lem Later area = refl

tags_told : placed 0 (segments_by (items_of two_segments) (items_of one_segment)) ≡ placed 0 segment_cases
unfolding report_octets digits
tags_told =
    ap (λ (y : Items.Out). placed 0 (segments_by (items_of two_segments) y)) worked.long_unsigned
    ∙ ap (λ (x : Items.Out). placed 0 (segments_by x (bad 34))) worked.group

segments_computed : Computes segment_cases
segments_computed d area z =
    segments_by_lem d area
    ∙ ap (λ (o : List ℕ). placed 0 (segments_by (items_of o) (items_of (part 16384 3 (again area))))) (once_laid area z)
    ∙ ap (λ (o : List ℕ). placed 0 (segments_by (items_of two_segments) (items_of o))) (again_laid area z)
    ∙ tags_told

pub segment_frames_worked : SegmentFramesWorked
segment_frames_worked = as_worked segment_cases segments_computed

refusals_computed : Computes refused_cases
unfolding reading read_from reading_of header_mix data_bits data_bit splice length_of content_of npdu_content given Npdu.read_npdu Npdu.after_version Npdu.after_dest Npdu.after_source Npdu.after_tail Npdu.part_if Npdu.no_part Npdu.tail_at Npdu.vendor_at Npdu.joined Npdu.message_at Npdu.ended Npdu.refused_by Apdu.read_apdu Apdu.read_request Apdu.read_unconfirmed Apdu.read_complex_ack Apdu.read_segment_ack Apdu.read_reject Apdu.read_tail tail_end items_of walk step closes ending more head_at number_at length_at two_at four_at first_rule first_content contents_at whole_at sign_bad signed_at context_at application_at least most rebuild starts_at next_number same_key same_address same_fields same_octets source_of destination_of part_address absent cut report_octets parts_of value_at digits Npdu.part_of Npdu.part_net Npdu.part_len Npdu.address_of Apdu.read_simple_ack Apdu.read_error Apdu.read_abort
refusals_computed First area z = refl
refusals_computed Later area z = refl

pub refusals_worked : RefusalsWorked
refusals_worked = as_worked refused_cases refusals_computed
