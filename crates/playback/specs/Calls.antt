-- What one call does: 60, 59, 68, and then the records one after the other, each by its own call of the collector's box in the state's edition.
use Rattle.std.specs.Prelude.{ℕ, ◌+◌, ◌%◌, ◌≡◌, true, List, [], ◌∷◌, eqb, length}
use Rattle.std.proofs.Math.Option.{Option, none, some}
use Rattle.octets.specs.Choice.{pick}
use Rattle.runs.specs.Run.{Run, Order}
use Rattle.runs.specs.Run.Event.{octet, silence}
use Rattle.runs.specs.Run.Order.{trunk, forget}
use Rattle.runs.specs.Offered.{answer}
use Rattle.apdu.specs.declared.Edition.{Edition}
use Rattle.frames.specs.declared.Receiver.{Receiver}
use Rattle.frames.specs.Step.{sound_of}
use Rattle.trunk.specs.Demand.{unmoved}
use Rattle.messages.specs.Slots as Messages
use Rattle.rebuild.specs.declared.Key.{Key}
use Rattle.collector.specs.Calls.{passing, sized, box, written, said_so, slots_of, Answered, feed_refusal}
use Rattle.collector.specs.declared.Collector.{Collector}
use Rattle.playback.specs.Answers.{Played}
use Rattle.playback.specs.Layout.{record_size}
use Rattle.playback.specs.Reading.{read_records}

-- ---- an order by its own call: feeding one octet, a silence, forgetting a slot, which "writes no report" whether it answers 0 or 56
unfoldable pub one : Edition → Order → Receiver → List (Messages.Slot Key) → List ℕ → Answered
one e (trunk (octet x)) r s area = (box e).feed r s area (x ∷ [])
one e (trunk silence) r s area = (box e).still r s area
one e (forget i) r s area = answer 1 none r ((box e).free i r s) area

-- n more eaten in front
abbrev pub more : ℕ → Answered → Answered
more n d = answer (n + d.eaten) d.said d.state d.slots d.area

-- one record eaten, with what its call said: "A call stops after a report, as feeding does, and answers the records eaten"
abbrev pub then_go : Option (List ℕ) → Answered → Answered → Answered
then_go none d rest = more 1 rest
then_go (some report) d rest = answer 1 (some report) d.state d.slots d.area

abbrev pub play : Edition → Receiver → List (Messages.Slot Key) → List ℕ → Run → Answered
play e r s area [] = answer 0 none r s area
play e r s area (o ∷ run) = let d = one e o r s area in then_go d.said d (play e d.state d.slots d.area run)

-- ---- the records: what their good front leaves, and the number. "is refusal 67 and ends the replay; the records before it are eaten and stand":
-- where a record before it reports, the call has stopped there
pub record Course : Type 0 where
  pub number : ℕ
  pub left : Answered

abbrev pub course : ℕ → Answered → Course
course n d = record { number = n; left = d }

abbrev pub reached : Option (List ℕ) → ℕ → ℕ
reached none n = n
reached (some report) n = 0

abbrev pub by_front : Answered → ℕ → Course
by_front d n = course (reached d.said n) d

unfoldable pub course_of : Edition → Receiver → List (Messages.Slot Key) → List ℕ → List ℕ → Course
course_of e r s area o = by_front (play e r s area (read_records o).front) (read_records o).stop

-- ---- the call: the state c, the lent report and message areas, the records
-- 60 and 59 as feeding has them; then "A piece not a multiple of four long is 68 before any of it runs"
unfoldable pub play_refusal : Collector → List ℕ → List ℕ → List ℕ → ℕ
play_refusal c report area o = pick (eqb (feed_refusal c report area) 0) (pick (eqb (length o % record_size) 0) 0 68) (feed_refusal c report area)

-- a refused call eats nothing and changes nothing
abbrev pub barred : ℕ → Collector → List ℕ → Course
barred n c area = course n (unmoved c.receiver (slots_of c) area)

unfoldable pub playing : Collector → List ℕ → List ℕ → List ℕ → Course
playing c report area o =
    pick (eqb (play_refusal c report area o) 0) (course_of c.edition c.receiver (slots_of c) area o) (barred (play_refusal c report area o) c area)

-- the answer r and what is left in both areas; the edition is the one that was given
pub record Comes (e : Edition) (w : Course) (report : List ℕ) (r : Played) (report' area' : List ℕ) : Type 0 where
  pub refused : r.refused ≡ w.number
  pub eaten : r.eaten ≡ w.left.eaten
  pub reported : r.reported ≡ said_so w.left.said
  pub edition : r.state.edition ≡ e
  pub receiver : r.state.receiver ≡ w.left.state
  pub slots : slots_of r.state ≡ w.left.slots
  pub report_after : report' ≡ written w.left.said report
  pub area_after : area' ≡ w.left.area

abbrev pub Plays : Collector → List ℕ → List ℕ → List ℕ → Played → List ℕ → List ℕ → Type 0
Plays c report area o r report' area' = Comes c.edition (playing c report area o) report r report' area'

-- ---- what 59 and 60 pass: no record's call is refused then
pub record Ready (r : Receiver) (s : List (Messages.Slot Key)) (area : List ℕ) : Type 0 where
  pub receiver : sound_of r ≡ true
  pub slots : passing s ≡ true
  pub fits : sized area ≡ true
