-- What the three calls promise: 60, then 59, then the work.
use Rattle.std.specs.Prelude.{ℕ, ◌≡◌, Bool, true, false, List, [], eqb, length}
use Rattle.std.proofs.Math.Option.{Option, none, some}
use Rattle.octets.specs.Choice.{pick, both}
use Rattle.runs.specs.Offered.{Answer, Box}
use Rattle.apdu.specs.declared.Edition.{Edition}
use Rattle.frames.specs.declared.Receiver.{Receiver}
use Rattle.frames.specs.Step.{sound_of, fresh_of}
use Rattle.trunk.specs.Demand.{box_of, unmoved}
use Rattle.messages.specs.Slots as Messages
use Rattle.messages.specs.Rows.{forget_number}
use Rattle.messages.specs.Sound.{passes, sized_for}
use Rattle.rebuild.specs.View.{keys, view, fresh}
use Rattle.rebuild.specs.declared.Key.{Key}
use Rattle.recordings.specs.Frames.{rules}
use Rattle.reports.specs.Layout.{report_size}
use Rattle.collector.specs.Frame.{bacnet, damage_octets}
use Rattle.collector.specs.declared.Collector.{Collector}
use Rattle.collector.specs.Answers.{Fed, Fell, Forgot}

-- four slots
abbrev pub slot_count : ℕ
slot_count = 4

abbrev pub passing : List (Messages.Slot Key) → Bool
passing s = passes keys slot_count s

abbrev pub sized : List ℕ → Bool
sized a = sized_for slot_count a

-- the box that demand 3 speaks of, by the rules of an edition: a refused call eats nothing and changes nothing
abbrev pub box : Edition → Box Receiver (List (Messages.Slot Key)) (List ℕ) (List ℕ)
box e = box_of (rules keys (bacnet e)) damage_octets passing sized

-- a state that 59 passes
abbrev pub sound : Receiver → List (Messages.Slot Key) → Bool
sound r s = both (sound_of r) (passing s)

-- without a report "that area is unchanged"
abbrev pub written : Option (List ℕ) → List ℕ → List ℕ
written none area = area
written (some report) area = report

abbrev pub said_so : Option (List ℕ) → Bool
said_so none = false
said_so (some report) = true

-- a fresh collector of an edition: the fresh receiver, four free slots
abbrev pub fresh_collector : Edition → Collector
fresh_collector e = record { edition = e; receiver = fresh_of; slots = fresh }

-- a state as the rules see it
abbrev pub slots_of : Collector → List (Messages.Slot Key)
slots_of c = view c.slots

-- what a call answers and leaves, as the box says it
abbrev pub Answered : Type 0
Answered = Answer Receiver (List (Messages.Slot Key)) (List ℕ) (List ℕ)

-- ---- feeding: the state c, the lent report and message areas, the piece
-- 60: "report area not 16 octets or message area not 65,536"; 59 after it
unfoldable pub feed_refusal : Collector → List ℕ → List ℕ → ℕ
feed_refusal c report area =
    pick (eqb (length report) report_size)
    (pick (sized area) (pick (sound c.receiver (slots_of c)) 0 59) 60) 60

-- a report area of another size is refused; all else is the box
unfoldable pub feeding : Collector → List ℕ → List ℕ → List ℕ → Answered
feeding c report area piece =
    pick (eqb (length report) report_size) ((box c.edition).feed c.receiver (slots_of c) area piece) (unmoved c.receiver (slots_of c) area)

-- the answer r and what is left in both areas: the refusal n, and d; the edition is the one that was given
pub record Tells (e : Edition) (n : ℕ) (d : Answered) (report : List ℕ) (r : Fed) (report' area' : List ℕ) : Type 0 where
  pub refused : r.refused ≡ n
  pub eaten : r.eaten ≡ d.eaten
  pub reported : r.reported ≡ said_so d.said
  pub edition : r.state.edition ≡ e
  pub receiver : r.state.receiver ≡ d.state
  pub slots : slots_of r.state ≡ d.slots
  pub report_after : report' ≡ written d.said report
  pub area_after : area' ≡ d.area

abbrev pub Feeds : Collector → List ℕ → List ℕ → List ℕ → Fed → List ℕ → List ℕ → Type 0
Feeds c report area piece r report' area' = Tells c.edition (feed_refusal c report area) (feeding c report area piece) report r report' area'

-- ---- a silence lends the report area alone
unfoldable pub silence_refusal : Collector → List ℕ → ℕ
silence_refusal c report = pick (eqb (length report) report_size) (pick (sound c.receiver (slots_of c)) 0 59) 60

-- the area plays no part in it
unfoldable pub stilling : Collector → List ℕ → List ℕ → Answered
stilling c report area =
    pick (eqb (length report) report_size) ((box c.edition).still c.receiver (slots_of c) area) (unmoved c.receiver (slots_of c) area)

pub record Falls (e : Edition) (n : ℕ) (d : Answered) (report : List ℕ) (r : Fell) (report' : List ℕ) : Type 0 where
  pub refused : r.refused ≡ n
  pub reported : r.reported ≡ said_so d.said
  pub edition : r.state.edition ≡ e
  pub receiver : r.state.receiver ≡ d.state
  pub slots : slots_of r.state ≡ d.slots
  pub report_after : report' ≡ written d.said report

abbrev pub Stills : Collector → List ℕ → Fell → List ℕ → Type 0
Stills c report r report' = Falls c.edition (silence_refusal c report) (stilling c report []) report r report'

-- ---- "Forgetting frees a slot, answers 0, 59 or 56 and writes no report": 59, then 56
pub record Forgets (c : Collector) (s : ℕ) (r : Forgot) : Type 0 where
  pub number : r.number ≡ pick (sound c.receiver (slots_of c)) (forget_number keys s (slots_of c)) 59
  pub edition : r.state.edition ≡ c.edition
  pub receiver : r.state.receiver ≡ c.receiver
  pub slots : slots_of r.state ≡ (box c.edition).free s c.receiver (slots_of c)
