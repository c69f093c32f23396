-- The page's whole case as records, computed: a forget order that is answered 56 in front, a bad record behind. One call eats nine records and reports.
use Prim.Native.Nat.{ℕ}
use native.Mathlib.Omega.{arith}
use mathlib.Core.Path.{◌≡◌, refl, sym, ap, ◌∙◌}
use mathlib.Core.List.{List, [], ◌∷◌, ◌++◌}
use mathlib.Core.Option.{some}
use lib.ListN.{length}
use borrow.Author.Tests.{eq-eqb}
use Rattle.octets.specs.Choice.{pick_case}
use Rattle.octets.specs.Numbers.{digits}
use Rattle.sums.specs.Sums.{header_mix}
use Rattle.runs.specs.Run.{Run, octs}
use Rattle.runs.specs.Run.Order.{forget}
use Rattle.apdu.specs.declared.Edition.{Edition}
use Rattle.frames.specs.declared.Receiver.{Receiver}
use Rattle.frames.specs.Step.{length_of, step_of, feed_from, fresh_of}
use Rattle.messages.specs.Slots as Messages
use Rattle.rebuild.specs.View.{view, fresh}
use Rattle.rebuild.specs.declared.Key.{Key}
use Rattle.rebuild.proofs.Page.{fresh_passes}
use Rattle.reports.specs.Layout.{report_size, report_octets}
use Rattle.collector.specs.Frame.{content_of}
use Rattle.collector.specs.Calls.{passing, box, fresh_collector, Answered, feed_refusal}
use Rattle.playback.specs.Layout.{record_octets}
use Rattle.playback.specs.Valid.{Bad}
use Rattle.playback.specs.Valid.Bad.{kind_above}
use Rattle.playback.specs.Reading.{read_records}
use Rattle.playback.specs.Valid.Behind.{bad}
use Rattle.playback.specs.Calls.{one, more, play, Course, by_front, course_of, play_refusal, playing, Ready}
use Rattle.playback.proofs.Records.{front_behind}
use Rattle.playback.proofs.Parts.{bad_stops}
use Rattle.playback.proofs.Fed.{ruled_by, box_feed, feed_as_play}

abbrev frame : List ℕ
frame = 0x55 ∷ 0xFF ∷ 0x01 ∷ 0x02 ∷ 0x01 ∷ 0x00 ∷ 0x00 ∷ 0xF5 ∷ []

abbrev pub whole_case : Run
whole_case = forget 0 ∷ octs frame

abbrev pub whole_records : List ℕ
whole_records = record_octets whole_case ++ (3 ∷ 0 ∷ 0 ∷ 0 ∷ [])

abbrev pub whole_report : List ℕ
whole_report = 0x01 ∷ 0x00 ∷ 0x01 ∷ 0x02 ∷ 0x01 ∷ 0 ∷ 0 ∷ 0 ∷ 0 ∷ 0 ∷ 0 ∷ 0 ∷ 0 ∷ 0 ∷ 0 ∷ 0 ∷ []

abbrev start : Receiver
start = fresh_of

abbrev free : List (Messages.Slot Key)
free = view fresh

module _ (edition : Edition) (report area : List ℕ) (k : length report ≡ report_size) (z : length area ≡ 65536) where
  fresh_ready : Ready start free area
  fresh_ready = record { receiver = refl; slots = fresh_passes; fits = eq-eqb (length area) 65536 z }

  abbrev fed : Answered
  fed = ruled_by edition free area (feed_from 0 start frame)

  fed_eaten : fed.eaten ≡ 8
  unfolding step_of header_mix length_of
  fed_eaten = refl

  fed_said : fed.said ≡ some whole_report
  unfolding step_of header_mix length_of content_of report_octets digits
  fed_said = refl

  still_free : (box edition).free 0 start free ≡ free
  still_free = pick_case (λ (s : List (Messages.Slot Key)). s ≡ free) (passing free) refl refl

  -- the forget order changes nothing; the frame's records are its octets fed
  whole_play : play edition start free area whole_case ≡ more 1 fed
  unfolding one
  whole_play =
      ap (λ (s : List (Messages.Slot Key)). more 1 (play edition start s area (octs frame))) still_free
      ∙ ap (more 1) (sym (feed_as_play edition frame fresh_ready) ∙ box_feed edition fresh_ready frame)

  passed : play_refusal (fresh_collector edition) report area whole_records ≡ 0
  unfolding play_refusal feed_refusal
  passed = rw (eq-eqb (length report) report_size k, eq-eqb (length area) 65536 z, fresh_passes)

  third_kind : Bad 3 0 0 0
  third_kind = kind_above (omega arith)

  -- the bad record's 67 stands behind the report
  whole_course : playing (fresh_collector edition) report area whole_records ≡ by_front (more 1 fed) 67
  unfolding playing course_of
  whole_course =
      let w = read_records whole_records in
      let o : List ℕ = 3 ∷ 0 ∷ 0 ∷ 0 ∷ [] in
      let q : playing (fresh_collector edition) report area whole_records ≡ by_front (play edition start free area w.front) w.stop = rw passed in
      q ∙ ap (λ (run : Run). by_front (play edition start free area run) w.stop) (front_behind whole_case o (bad third_kind))
      ∙ ap (λ (n : ℕ). by_front (play edition start free area whole_case) n) (bad_stops whole_case 3 0 0 0 [] third_kind) ∙ ap (λ (d : Answered). by_front d 67) whole_play

  pub whole_number : (playing (fresh_collector edition) report area whole_records).number ≡ 0
  whole_number = ap (λ (w : Course). w.number) whole_course ∙ rw fed_said

  pub whole_eaten : (playing (fresh_collector edition) report area whole_records).left.eaten ≡ 9
  whole_eaten = ap (λ (w : Course). w.left.eaten) whole_course ∙ rw fed_eaten

  pub whole_said : (playing (fresh_collector edition) report area whole_records).left.said ≡ some whole_report
  whole_said = ap (λ (w : Course). w.left.said) whole_course ∙ fed_said
