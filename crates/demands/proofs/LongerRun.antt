-- Messages longer than 256 segments by their octets, computed from states with an open slot: the reports with their places, and the area.
use Prim.Native.Nat.{ℕ}
use mathlib.Core.Path.{◌≡◌, refl, ap, ◌∙◌}
use mathlib.Core.Bool.{true, false}
use mathlib.Core.List.{List, [], ◌∷◌, ◌++◌}
use lib.Dec.{lit≤}
use lib.ListN.{length}
use Rattle.octets.specs.Choice.{given}
use Rattle.octets.specs.Numbers.{value_at, digits}
use Rattle.octets.specs.Splice.{splice, splice_length, splice_inside}
use Rattle.sums.specs.Sums.{header_mix, data_bits, data_bit}
use Rattle.runs.specs.Run.{Run, octs}
use Rattle.frames.specs.Step.{length_of}
use Rattle.apdu.specs.declared.Edition.{Edition}
use Rattle.apdu.specs.declared.Edition.TheVariants.{First, Later}
use Rattle.trunk.specs.Reading.{reading_of, read_from}
use Rattle.trunk.specs.Demand.{reading}
use Rattle.npdu.specs.Address.{gives_source, gives_destination, gives, settled, same_address, same_fields, same_octets, source_of, destination_of, part_address, absent}
use Rattle.npdu.specs.Layout.{cut}
use Rattle.npdu.specs.Fault.{part_fault}
use Rattle.npdu.specs.Reading as Npdu
use Rattle.apdu.specs.Reading as Apdu
use Rattle.apdu.specs.Fields.{tail_end}
use Rattle.tags.specs.Types.{least, most}
use Rattle.tags.specs.Reading.{head_at, number_at, length_at, two_at, four_at, first_rule, first_content, contents_at, whole_at, sign_bad, signed_at, context_at, application_at}
use Rattle.items.specs.Records.{rec}
use Rattle.items.specs.Reading as Items
use Rattle.items.specs.Reading.{more, ending, closes, step, walk, items_of}
use Rattle.items.specs.Reading.Out.{good}
use Rattle.messages.specs.Slots.{part}
use Rattle.messages.specs.Rows.{rebuild, starts_at, next_number}
use Rattle.messages.specs.History.{begun}
use Rattle.messages.proofs.Area.{part_grown}
use Rattle.rebuild.specs.View.{keys, same_key, given_key}
use Rattle.recordings.specs.Frames.{rules}
use Rattle.reports.specs.Layout.{report_octets}
use Rattle.reports.specs.Kinds.{complete}
use Rattle.collector.specs.Heard.{parts_of}
use Rattle.collector.specs.Frame.{npdu_content, content_of, by_tags, bacnet}
use Rattle.collector.specs.Calls.{slots_of}
use Rattle.collector.specs.Offering.{Passes, BoxEnd, End}
use Rattle.collector.specs.declared.Collector.{Collector}
use Rattle.collector.proofs.Reached.{fresh}
use Rattle.demands.specs.Completed.{worked_key, heard_from}
use Rattle.demands.specs.Keys.{held_in, complete_in}
use Rattle.demands.specs.LongerWorked.{one_open, frame255, other_zero, frame1, frame0, zero_more, null_zero, refused_here, LongerWorked}
use Rattle.demands.proofs.Three.{read_by_position}

abbrev on_run : Run
on_run = octs (frame255 ++ (other_zero ++ (frame1 ++ frame0)))

abbrev new_run : Run
new_run = octs (zero_more ++ frame1)

abbrev long_run : Run
long_run = octs (null_zero ++ null_zero)

-- 59 passes both states
passes_59 : (d : Edition) → Passes (one_open d 255 2) × Passes (one_open d 0 16384)
unfolding given given_key gives_source gives_destination gives settled part_fault same_key same_address same_fields same_octets absent
passes_59 d = (record { receiver = (fresh d).receiver; slots = refl }, record { receiver = (fresh d).receiver; slots = refl })

-- ---- the message area: what goes on is laid behind two octets, what restarts from the first
module _ (area : List ℕ) where
  abbrev on1 : List ℕ
  on1 = splice area 2 (0xA2 ∷ [])

  abbrev on2 : List ℕ
  on2 = splice on1 3 (0xA3 ∷ [])

  abbrev new1 : List ℕ
  new1 = splice area 0 (0x61 ∷ [])

  abbrev new2 : List ℕ
  new2 = splice new1 1 (0xB4 ∷ [])

  abbrev long1 : List ℕ
  long1 = splice area 0 (0x00 ∷ [])

  module _ (z : length area ≡ 65536) where
    on_all : part 0 2 area ≡ 0x63 ∷ 0xA1 ∷ [] → part 0 4 on2 ≡ 0x63 ∷ 0xA1 ∷ 0xA2 ∷ 0xA3 ∷ []
    on_all held =
        let size : length on1 ≡ 65536 = splice_length area 2 (0xA2 ∷ []) (rw z (lit≤ tt)) ∙ z in
        let front : part 0 3 on1 ≡ 0x63 ∷ 0xA1 ∷ 0xA2 ∷ [] = part_grown area 0 2 (0xA2 ∷ []) (rw z (lit≤ tt)) ∙ ap (λ (o : List ℕ). o ++ (0xA2 ∷ [])) held in
        part_grown on1 0 3 (0xA3 ∷ []) (rw size (lit≤ tt)) ∙ ap (λ (o : List ℕ). o ++ (0xA3 ∷ [])) front

    new_all : part 0 2 new2 ≡ 0x61 ∷ 0xB4 ∷ []
    new_all =
        let size : length new1 ≡ 65536 = splice_length area 0 (0x61 ∷ []) (rw z (lit≤ tt)) ∙ z in
        part_grown new1 0 1 (0xB4 ∷ []) (rw size (lit≤ tt)) ∙ ap (λ (o : List ℕ). o ++ (0xB4 ∷ [])) (splice_inside area 0 (0x61 ∷ []) (rw z (lit≤ tt)))

    long_all : part 0 1 long1 ≡ 0x00 ∷ []
    long_all = splice_inside area 0 (0x00 ∷ []) (rw z (lit≤ tt))

-- ---- the reports, the last by the tags of its message
abbrev told : Items.Out → ℕ → List ℕ
told y n = report_octets (by_tags y (complete (record { kind = 0x06; destination = 0x21; source = 0x43 }) (record { first = 0x38; invoke = 0x57; choice = 0x0E }) 0 n))

abbrev on_reports : List ℕ → List (ℕ × List ℕ)
on_reports last = (17, held_in 0 3) ∷ (35, refused_here 53) ∷ (53, refused_here 52) ∷ (71, last) ∷ []

abbrev new_reports : List ℕ → List (ℕ × List ℕ)
new_reports last = (17, held_in 0 1) ∷ (35, last) ∷ []

abbrev long_reports : List ℕ → List (ℕ × List ℕ)
long_reports last = (17, refused_here 54) ∷ (35, last) ∷ []

abbrev read_of : Collector → List ℕ → Run → BoxEnd
read_of c area run = reading (rules keys (bacnet c.edition)) c.receiver (slots_of c) area run

record Computed (d : Edition) (area : List ℕ) : Type 0 where
  on : (read_of (one_open d 255 2) area on_run).reports ≡ on_reports (told (items_of (part 0 4 (on2 area))) 4)
  on_area : (read_of (one_open d 255 2) area on_run).area ≡ on2 area
  new : (read_of (one_open d 255 2) area new_run).reports ≡ new_reports (told (items_of (part 0 2 (new2 area))) 2)
  new_area : (read_of (one_open d 255 2) area new_run).area ≡ new2 area
  long : (read_of (one_open d 0 16384) area long_run).reports ≡ long_reports (told (items_of (part 0 1 (long1 area))) 1)
  long_area : (read_of (one_open d 0 16384) area long_run).area ≡ long1 area

computed : (d : Edition) (area : List ℕ) → Computed d area
unfolding reading read_from reading_of header_mix data_bits data_bit splice length_of content_of npdu_content given Npdu.read_npdu Npdu.after_version Npdu.after_dest Npdu.after_source Npdu.after_tail Npdu.part_if Npdu.no_part Npdu.tail_at Npdu.joined Npdu.message_at Npdu.ended Npdu.refused_by Npdu.part_of Npdu.part_net Npdu.part_len Npdu.address_of Apdu.read_apdu Apdu.read_complex_ack Apdu.read_tail tail_end rebuild starts_at next_number same_key same_address same_fields same_octets source_of destination_of part_address absent cut report_octets parts_of value_at digits
computed First area = record { on = refl; on_area = refl; new = refl; new_area = refl; long = refl; long_area = refl }
computed Later area = record { on = refl; on_area = refl; new = refl; new_area = refl; long = refl; long_area = refl }

-- all tags are good
good_tags : (items_of (0x63 ∷ 0xA1 ∷ 0xA2 ∷ 0xA3 ∷ []) ≡ good (rec 0 6 0 0 1 3 ∷ []) 4) × (items_of (0x61 ∷ 0xB4 ∷ []) ≡ good (rec 0 6 0 0 1 1 ∷ []) 2)
    × (items_of (0x00 ∷ []) ≡ good (rec 0 0 0 0 1 0 ∷ []) 1)
unfolding items_of walk step closes ending more head_at number_at length_at two_at four_at first_rule first_content contents_at whole_at sign_bad signed_at context_at application_at least most value_at
good_tags = (refl, refl, refl)

-- what is heard of the key
heard : (d : Edition) → (begun keys worked_key (heard_from (one_open d 255 2) on_run (on_reports (complete_in 0 4))) ≡ false)
    × (begun keys worked_key (heard_from (one_open d 255 2) new_run (new_reports (complete_in 0 2))) ≡ true)
    × (begun keys worked_key (heard_from (one_open d 0 16384) long_run (long_reports (complete_in 0 1))) ≡ true)
unfolding read_from reading_of header_mix data_bits data_bit splice length_of content_of npdu_content given Npdu.read_npdu Npdu.after_version Npdu.after_dest Npdu.after_source Npdu.after_tail Npdu.part_if Npdu.no_part Npdu.tail_at Npdu.joined Npdu.message_at Npdu.ended Npdu.refused_by Apdu.read_apdu Apdu.read_request Apdu.read_complex_ack Apdu.read_tail tail_end starts_at next_number same_key same_address same_fields same_octets source_of destination_of part_address absent parts_of value_at
heard First = (refl, refl, refl)
heard Later = (refl, refl, refl)

-- ---- however it is offered
pub longer_worked : LongerWorked
unfolding report_octets digits
longer_worked =
    record {
      goes_on = λ d area z held e o.
          let Reports : Type 0 = List (ℕ × List ℕ) in
          let q = read_by_position (one_open d 255 2) area (passes_59 d).0 z on_run e o in
          let w = computed d area in
          let reports : e.reports ≡ on_reports (complete_in 0 4) =
          ap (λ (e : End). e.reports) q ∙ w.on ∙ ap (λ (o : List ℕ). on_reports (told (items_of o) 4)) (on_all area z held) ∙ ap (λ (y : Items.Out). on_reports (told y 4)) good_tags.0 in (
            reports,
            ap (λ (e : End). part 0 4 e.area) q ∙ ap (part 0 4) w.on_area ∙ on_all area z held,
            ap (λ (rs : Reports). begun keys worked_key (heard_from (one_open d 255 2) on_run rs)) reports ∙ (heard d).0,
          );
      restarts = λ d area z e o.
          let Reports : Type 0 = List (ℕ × List ℕ) in
          let q = read_by_position (one_open d 255 2) area (passes_59 d).0 z new_run e o in
          let w = computed d area in
          let reports : e.reports ≡ new_reports (complete_in 0 2) =
          ap (λ (e : End). e.reports) q ∙ w.new ∙ ap (λ (o : List ℕ). new_reports (told (items_of o) 2)) (new_all area z) ∙ ap (λ (y : Items.Out). new_reports (told y 2)) good_tags.1 in (
            reports,
            ap (λ (e : End). part 0 2 e.area) q ∙ ap (part 0 2) w.new_area ∙ new_all area z,
            ap (λ (rs : Reports). begun keys worked_key (heard_from (one_open d 255 2) new_run rs)) reports ∙ (heard d).1,
          );
      too_long_lem = λ d area z e o.
          let Reports : Type 0 = List (ℕ × List ℕ) in
          let q = read_by_position (one_open d 0 16384) area (passes_59 d).1 z long_run e o in
          let w = computed d area in
          let reports : e.reports ≡ long_reports (complete_in 0 1) =
          ap (λ (e : End). e.reports) q ∙ w.long ∙ ap (λ (o : List ℕ). long_reports (told (items_of o) 1)) (long_all area z) ∙ ap (λ (y : Items.Out). long_reports (told y 1)) good_tags.2 in
          (reports, ap (λ (e : End). e.area) q ∙ w.long_area, ap (λ (rs : Reports). begun keys worked_key (heard_from (one_open d 0 16384) long_run rs)) reports ∙ (heard d).2);
    }
