-- Two devices behind one router, their segments mixed, computed: the reports with their places, and both slots' octets.
use Prim.Native.Nat.{ℕ}
use mathlib.Core.Path.{◌≡◌, refl, ap, ◌∙◌}
use mathlib.Core.List.{List, [], ◌∷◌, ◌++◌}
use lib.Dec.{lit≤}
use lib.ListN.{length}
use Rattle.octets.specs.Choice.{given}
use Rattle.octets.specs.Numbers.{value_at, digits}
use Rattle.octets.specs.Splice.{splice, splice_length, splice_inside}
use Rattle.sums.specs.Sums.{header_mix, data_bits, data_bit}
use Rattle.runs.specs.Run.{Run, octs}
use Rattle.frames.specs.Step.{length_of}
use Rattle.apdu.specs.declared.Edition.{Edition}
use Rattle.apdu.specs.declared.Edition.TheVariants.{First, Later}
use Rattle.trunk.specs.Reading.{reading_of, read_from}
use Rattle.trunk.specs.Demand.{reading}
use Rattle.npdu.specs.Address.{same_address, same_fields, same_octets, source_of, destination_of, part_address, absent}
use Rattle.npdu.specs.Layout.{cut}
use Rattle.npdu.specs.Reading as Npdu
use Rattle.apdu.specs.Reading as Apdu
use Rattle.apdu.specs.Fields.{tail_end}
use Rattle.tags.specs.Types.{least, most}
use Rattle.tags.specs.Reading.{head_at, number_at, length_at, two_at, four_at, first_rule, first_content, contents_at, whole_at, sign_bad, signed_at, context_at, application_at}
use Rattle.items.specs.Records.{rec}
use Rattle.items.specs.Reading as Items
use Rattle.items.specs.Reading.{more, ending, closes, step, walk, items_of}
use Rattle.items.specs.Reading.Out.{good}
use Rattle.messages.specs.Slots.{part}
use Rattle.messages.specs.Rows.{rebuild, starts_at, next_number}
use Rattle.messages.proofs.Area.{part_before, part_behind, part_grown}
use Rattle.rebuild.specs.View.{keys, same_key}
use Rattle.recordings.specs.Frames.{rules}
use Rattle.reports.specs.Layout.{report_octets}
use Rattle.reports.specs.Kinds.{complete}
use Rattle.collector.specs.Heard.{parts_of}
use Rattle.collector.specs.Frame.{npdu_content, content_of, by_tags, bacnet}
use Rattle.collector.specs.Calls.{fresh_collector, slots_of}
use Rattle.collector.specs.Offering.{BoxEnd, End}
use Rattle.collector.proofs.Reached.{fresh}
use Rattle.demands.specs.Keys.{first_of_0b, first_of_0c, last_of_0b, last_of_0c, held_in, complete_in, RoutedWorked}
use Rattle.demands.proofs.Three.{read_by_position}

abbrev run : Run
run = octs (first_of_0b ++ (first_of_0c ++ (last_of_0b ++ last_of_0c)))

-- both messages: an octet string of two octets each
abbrev of_0b : List ℕ
of_0b = 0x62 ∷ 0xA1 ∷ 0xA2 ∷ []

abbrev of_0c : List ℕ
of_0c = 0x62 ∷ 0xB1 ∷ 0xB2 ∷ []

-- ---- the message area behind each frame: 0B's segments go to slot 0, 0C's to slot 1
module _ (area : List ℕ) where
  abbrev one : List ℕ
  one = splice area 0 (0x62 ∷ 0xA1 ∷ [])

  abbrev two : List ℕ
  two = splice one 16384 (0x62 ∷ 0xB1 ∷ [])

  abbrev three : List ℕ
  three = splice two 2 (0xA2 ∷ [])

  abbrev four : List ℕ
  four = splice three 16386 (0xB2 ∷ [])

  module _ (z : length area ≡ 65536) where
    one_size : length one ≡ 65536
    one_size = splice_length area 0 (0x62 ∷ 0xA1 ∷ []) (rw z (lit≤ tt)) ∙ z

    two_size : length two ≡ 65536
    two_size = splice_length one 16384 (0x62 ∷ 0xB1 ∷ []) (rw one_size (lit≤ tt)) ∙ one_size

    three_size : length three ≡ 65536
    three_size = splice_length two 2 (0xA2 ∷ []) (rw two_size (lit≤ tt)) ∙ two_size

    -- slot 0: the first segment stays where 0C's is laid, and the last comes behind it
    three_0B : part 0 3 three ≡ of_0b
    three_0B =
        let held : part 0 2 two ≡ 0x62 ∷ 0xA1 ∷ [] =
        part_before one 16384 (0x62 ∷ 0xB1 ∷ []) (rw one_size (lit≤ tt)) 0 2 (lit≤ tt) ∙ splice_inside area 0 (0x62 ∷ 0xA1 ∷ []) (rw z (lit≤ tt)) in
        part_grown two 0 2 (0xA2 ∷ []) (rw two_size (lit≤ tt)) ∙ ap (λ (o : List ℕ). o ++ (0xA2 ∷ [])) held

    four_0B : part 0 3 four ≡ of_0b
    four_0B = part_before three 16386 (0xB2 ∷ []) (rw three_size (lit≤ tt)) 0 3 (lit≤ tt) ∙ three_0B

    -- slot 1, in the same way
    four_0C : part 16384 3 four ≡ of_0c
    four_0C =
        let held : part 16384 2 three ≡ 0x62 ∷ 0xB1 ∷ [] =
        part_behind two 2 (0xA2 ∷ []) (rw two_size (lit≤ tt)) 16384 2 (lit≤ tt) ∙ splice_inside one 16384 (0x62 ∷ 0xB1 ∷ []) (rw one_size (lit≤ tt)) in
        part_grown three 16384 2 (0xB2 ∷ []) (rw three_size (lit≤ tt)) ∙ ap (λ (o : List ℕ). o ++ (0xB2 ∷ [])) held

-- ---- the reports, by the tags of both messages
abbrev told : Items.Out → ℕ → List ℕ
told y slot =
    report_octets (by_tags y (complete (record { kind = 0x06; destination = 0x21; source = 0x43 }) (record { first = 0x38; invoke = 0x57; choice = 0x0E }) slot 3))

abbrev reports_by : Items.Out → Items.Out → List (ℕ × List ℕ)
reports_by x y = (22, held_in 0 2) ∷ (45, held_in 1 2) ∷ (67, told x 0) ∷ (89, told y 1) ∷ []

abbrev read_of : Edition → List ℕ → BoxEnd
read_of d area = reading (rules keys (bacnet d)) (fresh_collector d).receiver (slots_of (fresh_collector d)) area run

computed : (d : Edition) (area : List ℕ)
    → ((read_of d area).reports ≡ reports_by (items_of (part 0 3 (three area))) (items_of (part 16384 3 (four area)))) × ((read_of d area).area ≡ four area)
unfolding reading read_from reading_of header_mix data_bits data_bit splice length_of content_of npdu_content given Npdu.read_npdu Npdu.after_version Npdu.after_dest Npdu.after_source Npdu.after_tail Npdu.part_if Npdu.no_part Npdu.tail_at Npdu.joined Npdu.message_at Npdu.ended Npdu.refused_by Npdu.part_of Npdu.part_net Npdu.part_len Npdu.address_of Apdu.read_apdu Apdu.read_complex_ack Apdu.read_tail tail_end rebuild starts_at next_number same_key same_address same_fields same_octets source_of destination_of part_address absent cut report_octets parts_of value_at digits
computed First area = (refl, refl)
computed Later area = (refl, refl)

-- the tags of both are good
good_tags : (items_of of_0b ≡ good (rec 0 6 0 0 1 2 ∷ []) 3) × (items_of of_0c ≡ good (rec 0 6 0 0 1 2 ∷ []) 3)
unfolding items_of walk step closes ending more head_at number_at length_at two_at four_at first_rule first_content contents_at whole_at sign_bad signed_at context_at application_at least most value_at
good_tags = (refl, refl)

tags_told : reports_by (items_of of_0b) (items_of of_0c) ≡ (22, held_in 0 2) ∷ (45, held_in 1 2) ∷ (67, complete_in 0 3) ∷ (89, complete_in 1 3) ∷ []
unfolding report_octets digits
tags_told = rw (good_tags.0, good_tags.1)

pub routed_worked : RoutedWorked
routed_worked d area z e o =
    let q = read_by_position (fresh_collector d) area (fresh d) z run e o in
    let laid : e.area ≡ four area = ap (λ (e : End). e.area) q ∙ (computed d area).1 in
    let said : e.reports ≡ reports_by (items_of (part 0 3 (three area))) (items_of (part 16384 3 (four area))) = ap (λ (e : End). e.reports) q ∙ (computed d area).0 in
    (said ∙ rw (three_0B area z, four_0C area z) tags_told, ap (part 0 3) laid ∙ four_0B area z, ap (part 16384 3) laid ∙ four_0C area z)
