-- The editions on the page: compared by the laws of apdu, kept by the promises, worked by computation.
use Prim.Native.Nat.{ℕ}
use native.Mathlib.Omega.{arith}
use mathlib.Core.Path.{◌≡◌, refl, ap, ◌∙◌}
use mathlib.Core.Logic.{◌⊎◌, inl, inr}
use mathlib.Core.List.{List, [], ◌∷◌}
use mathlib.Core.Option.{Option}
use borrow.Author.Tests.{ne_eqb}
use Rattle.octets.specs.Choice.{given}
use Rattle.octets.specs.Numbers.{digits}
use Rattle.octets.specs.Reading.{oct}
use Rattle.octets.specs.Splice.{splice}
use Rattle.sums.specs.Sums.{header_mix, data_bits, data_bit}
use Rattle.runs.specs.Run.{Run, octs}
use Rattle.runs.specs.Offered.Made.{feed, still, free}
use Rattle.runs.proofs.Carrying.{stays}
use Rattle.frames.specs.Step.{length_of}
use Rattle.trunk.specs.Reading.{reading_of, read_from}
use Rattle.trunk.specs.Demand.{reading}
use Rattle.npdu.specs.Reading as Npdu
use Rattle.apdu.specs.Reading as Apdu
use Rattle.apdu.specs.Fields.{tail_end}
use Rattle.apdu.specs.Layout.{flag, first_octet, tail}
use Rattle.apdu.specs.Fault.{mor_fault, window_fault, segment_fault, code_fault, size_fault}
use Rattle.apdu.specs.declared.Edition.{Edition}
use Rattle.apdu.specs.declared.Edition.TheVariants.{First, Later}
use Rattle.apdu.proofs.EditionsCompared.{readings_compared, faults_compared, upper_bits}
use Rattle.tags.specs.Types.{least, most}
use Rattle.tags.specs.Reading.{head_at, number_at, length_at, two_at, four_at, first_rule, first_content, contents_at, whole_at, sign_bad, signed_at, context_at, application_at}
use Rattle.items.specs.Reading.{more, ending, closes, step, walk, items_of}
use Rattle.rebuild.specs.View.{keys}
use Rattle.recordings.specs.Frames.{rules}
use Rattle.reports.specs.Layout.{report_octets}
use Rattle.collector.specs.Heard.{parts_of}
use Rattle.collector.specs.Frame.{npdu_content, content_of, bacnet}
use Rattle.collector.specs.Calls.{fresh_collector, slots_of}
use Rattle.collector.specs.Offering.{End}
use Rattle.collector.proofs.Reached.{fresh}
use Rattle.state.specs.Edition.{edition_octet, edition_of}
use Rattle.state.specs.Layout.{edition_at}
use Rattle.hitchbarley.specs.Offering.{Areas, Calling}
use Rattle.hitchbarley.specs.Offering.Calling.{made, replayed}
use Rattle.hitchbarley.proofs.Editions.{loads_edition, feeds_edition, stills_edition, forgets_edition, replays_edition}
use Rattle.demands.specs.Editions.{EditionsCompared, EditionSaid, EditionOctet, EditionKept, EditionsWorked, coded_frame, coded_report, EditionsReported}
use Rattle.demands.proofs.Three.{read_by_position}

pub editions_compared : EditionsCompared
editions_compared = (readings_compared, faults_compared, upper_bits)

pub edition_said : EditionSaid
unfolding edition_of
edition_said = (refl, λ x h. rw (ne_eqb x 0 (λ z. omega arith)))

pub edition_octet_lem : EditionOctet
edition_octet_lem state c l = by c.edition refl
  where
    by : (d : Edition) → c.edition ≡ d → ((oct state 510 ≡ 0) × (c.edition ≡ First)) ⊎ ((oct state 510 ≡ 1) × (c.edition ≡ Later))
    by First e = inl (loads_edition state c l ∙ ap edition_octet e, e)
    by Later e = inr (loads_edition state c l ∙ ap edition_octet e, e)

-- ---- kept
call_keeps : (n : ℕ) (s t : Areas) (lent : Run) (m : ℕ) (said : Option (List ℕ)) → edition_at s.0 ≡ n → Calling s lent m said t → edition_at t.0 ≡ n
call_keeps n s t lent m said e (made (feed piece c)) = feeds_edition s.0 t.0 c.promise ∙ e
call_keeps n s t lent m said e (made (still c)) = stills_edition s.0 t.0 c.promise ∙ e
call_keeps n s t lent m said e (made (free i c)) = forgets_edition s.0 t.0 c.promise ∙ e
call_keeps n s t lent m said e (replayed c) = replays_edition s.0 t.0 c.promise ∙ e

pub edition_kept : EditionKept
edition_kept =
    record {
      feed = λ c piece report area r report' area' h. h.edition;
      silence = λ c report r report' h. h.edition;
      forget = λ c s r h. h.edition;
      replay = λ c records report area r report' area' h. h.edition;
      hb_feed = λ state piece report area r eaten reported state' report' area' h. feeds_edition state state' h;
      hb_silence = λ state report r reported state' report' h. stills_edition state state' h;
      hb_forget = λ state s r state' h. forgets_edition state state' h;
      hb_replay = λ state records report area r eaten reported state' report' area' h. replays_edition state state' h;
      linked = λ p state area run h o. stays Calling (λ s. edition_at s.0 ≡ edition_at state) (call_keeps (edition_at state)) refl o;
    }

-- ---- worked
pub editions_worked : EditionsWorked
unfolding Apdu.read_apdu Apdu.read_tail Apdu.read_request tail_end flag first_octet tail mor_fault window_fault segment_fault code_fault size_fault given
editions_worked =
    record {
      one = (refl, refl);
      seven = (refl, refl);
      between = (refl, refl, refl, refl, refl);
      bit_seven = (refl, refl, refl, refl);
      behind = (refl, refl, refl, refl, refl, refl);
      laid = λ code size. refl;
      zero_written = (refl, refl, refl);
      seven_written = (refl, refl, refl);
      above = (refl, refl, refl, refl);
      lone_more = (refl, refl);
      two_codes = (refl, refl, refl, refl);
    }

computed : (d : Edition) (area : List ℕ)
    → (reading (rules keys (bacnet d)) (fresh_collector d).receiver (slots_of (fresh_collector d)) area (octs coded_frame)).reports ≡ (22, coded_report d) ∷ []
unfolding reading read_from reading_of header_mix data_bits data_bit splice length_of content_of npdu_content given Npdu.read_npdu Npdu.after_version Npdu.after_dest Npdu.after_source Npdu.after_tail Npdu.part_if Npdu.no_part Npdu.tail_at Npdu.joined Npdu.message_at Npdu.ended Npdu.refused_by Apdu.read_apdu Apdu.read_request Apdu.read_tail tail_end items_of walk step closes ending more head_at number_at length_at two_at four_at first_rule first_content contents_at whole_at sign_bad signed_at context_at application_at least most report_octets parts_of digits
computed First area = refl
computed Later area = refl

pub editions_reported : EditionsReported
editions_reported d area z e o =
    let q = read_by_position (fresh_collector d) area (fresh d) z (octs coded_frame) e o in
    (ap (λ (e : End). e.reports) q ∙ computed d area, ap (λ (e : End). e.state.0) q)
