-- The call over a lent frame store, and what its parts promise: a record's order, octet records gathered, one turn of the replay.
use Rattle.std.specs.Prelude.{ℕ, Result, Ok, Err, ◌*◌, ◌%◌, ◌≤◌, ◌<◌, ◌≡◌, true, false, List, ◌++◌, eqb, length, take, drop}
use Rattle.std.proofs.Math.Option.{Option, none, some}
use Rattle.octets.specs.Choice.{pick}
use Rattle.octets.specs.Reading.{oct}
use Rattle.octets.specs.declared.refusal.Refusal.{Refusal}
use Rattle.octets.specs.declared.refusal.Refusal.TheVariants.{BadRecord}
use Rattle.runs.specs.Run.{Order, octs}
use Rattle.runs.specs.Run.Event.{octet, silence}
use Rattle.runs.specs.Run.Order.{trunk, forget}
use Rattle.apdu.specs.declared.Edition.{Edition}
use Rattle.frames.specs.declared.Link.{Link}
use Rattle.frames.specs.Step as Frames
use Rattle.rebuild.specs.View.{view}
use Rattle.rebuild.specs.declared.Slots.{Slots}
use Rattle.reports.specs.Layout.{report_size}
use Rattle.collector.specs.Acting.{Kept}
use Rattle.collector.specs.Answers.{Ate}
use Rattle.collector.specs.Calls.{sound}
use Rattle.collector.specs.Lent.{over}
use Rattle.playback.specs.Answers.{Played, Went}
use Rattle.playback.specs.Layout.{record_size, record_octets}
use Rattle.playback.specs.Calls.{more, Course, course, course_of, Comes, Plays, Ready}
use Rattle.playback.specs.declared.orders.Order as Records
use Rattle.playback.specs.declared.orders.Order.TheVariants.{Octet, Silence, Forget}

-- ---- a record's order, as the code has it
abbrev pub order_by : Option Order → Result Records.Order Refusal
order_by none = Err BadRecord
order_by (some (trunk (octet x))) = Ok (Octet x)
order_by (some (trunk silence)) = Ok Silence
order_by (some (forget i)) = Ok (Forget i)

-- an octet's record stands in front
pub record OctetFirst (o : List ℕ) : Type 0 where
  pub whole : record_size ≤ length o
  pub kind : oct o 0 ≡ 0
  pub third : oct o 2 ≡ 0
  pub fourth : oct o 3 ≡ 0

-- k octet records stand in front, and their values in the first k places of out
pub record Gathered (o out : List ℕ) (k : ℕ) : Type 0 where
  pub some : 0 < k
  pub few : k ≤ length out
  pub within : record_size * k ≤ length o
  pub front : o ≡ record_octets (octs (take k out)) ++ drop (record_size * k) o

-- ---- 60, then 59, whatever the store is
abbrev pub judged : Link → Slots → List ℕ → ℕ → ℕ → ℕ
judged l t s report area =
    pick (eqb report report_size) (pick (eqb area 65536) (pick (sound (Frames.over l s) (view t)) 0 59) 60) 60

abbrev pub Judges : Link → Slots → ℕ → ℕ → ℕ → Type 0
Judges l t report area r = (s : List ℕ) → r ≡ judged l t s report area

-- ---- what is lent where nothing is refused any more
pub record Lends (l : Link) (t : Slots) (store report area : List ℕ) : Type 0 where
  pub ready : Ready (Frames.over l store) (view t) area
  pub stored : length store ≡ 501
  pub line : length report ≡ report_size

pub record LendsWhole (l : Link) (t : Slots) (store report area o : List ℕ) : Type 0 where
  pub lends : Lends l t store report area
  pub whole : length o % record_size ≡ 0

pub record LendsRecord (l : Link) (t : Slots) (store report area o : List ℕ) : Type 0 where
  pub lends : Lends l t store report area
  pub some : record_size ≤ length o

pub record LendsOctet (l : Link) (t : Slots) (store report area o : List ℕ) : Type 0 where
  pub lends : Lends l t store report area
  pub first : OctetFirst o

-- ---- one turn: a bad record or a report ends the replay, or the course goes on behind what it ate, from what it left
abbrev pub turn_over : Edition → Ate → List ℕ → Played
turn_over e r s = record { refused = r.refused; eaten = r.eaten; reported = r.reported; state = over e r.link r.slots s }

abbrev pub more_of : ℕ → Course → Course
more_of n w = course w.number (more n w.left)

pub record GoesOn (e : Edition) (w : Course) (report o : List ℕ) (r : Ate) (store' report' area' : List ℕ) : Type 0 where
  pub some : 0 < r.eaten
  pub ready : Ready (Frames.over r.link store') (view r.slots) area'
  pub quiet : report' ≡ report
  pub rest : w ≡ more_of r.eaten (course_of e (Frames.over r.link store') (view r.slots) area' (drop (record_size * r.eaten) o))

pub record Turned (e : Edition) (l : Link) (t : Slots) (store report area o : List ℕ) (r : Ate) (store' report' area' : List ℕ) : Type 0 where
  pub bad : 0 < r.refused → Comes e (course_of e (Frames.over l store) (view t) area o) report (turn_over e r store') report' area'
  pub ends : r.reported ≡ true → Comes e (course_of e (Frames.over l store) (view t) area o) report (turn_over e r store') report' area'
  pub goes : r.refused ≡ 0 → r.reported ≡ false → GoesOn e (course_of e (Frames.over l store) (view t) area o) report o r store' report' area'
  pub within : record_size * r.eaten ≤ length o
  pub stored : length store' ≡ length store
  pub sized : length area' ≡ length area
  pub kept : Kept r.moved t r.slots

-- ---- all turns, and the call
abbrev pub went_over : Edition → Went → List ℕ → Played
went_over e r s = record { refused = r.refused; eaten = r.eaten; reported = r.reported; state = over e r.link r.slots s }

pub record Runs (e : Edition) (l : Link) (t : Slots) (store report area o : List ℕ) (r : Went) (store' report' area' : List ℕ) : Type 0 where
  pub comes : Comes e (course_of e (Frames.over l store) (view t) area o) report (went_over e r store') report' area'
  pub kept : Kept r.moved t r.slots

-- a refused call: nothing eaten, nothing changed
abbrev pub stayed : ℕ → Link → Slots → Went
stayed n l t = record { refused = n; eaten = 0; reported = false; moved = false; link = l; slots = t }

-- the call's promise, its edition, link, slots and store put together; slots that have not moved are those that were there
pub record Replays (e : Edition) (l : Link) (t : Slots) (store report area o : List ℕ) (r : Went) (store' report' area' : List ℕ) : Type 0 where
  pub plays : Plays (over e l t store) report area o (went_over e r store') report' area'
  pub kept : Kept r.moved t r.slots
