-- Every way of making the calls for one run, each with any answer that it promises.
use Rattle.std.specs.Prelude.{ℕ, ◌≡◌, Bool, true, false, List, length}
use Rattle.std.proofs.Math.Option.{Option, none, some}
use Rattle.runs.specs.Run.{Run, Ends, ends}
use Rattle.runs.specs.Offered.{Calls, Made, Offer}
use Rattle.apdu.specs.declared.Edition.{Edition}
use Rattle.frames.specs.declared.Receiver.{Receiver}
use Rattle.trunk.specs.Demand.{Sound}
use Rattle.messages.specs.Slots as Messages
use Rattle.rebuild.specs.declared.Key.{Key}
use Rattle.reports.specs.Layout.{report_size}
use Rattle.collector.specs.Calls.{passing, slots_of, Feeds, Stills, Forgets}
use Rattle.collector.specs.declared.Collector.{Collector}
use Rattle.collector.specs.Answers.{Fed, Fell, Forgot}

-- a state that 59 passes, with arrays of their sizes
pub record Passes (c : Collector) : Type 0 where
  pub receiver : Sound c.receiver
  pub slots : passing (slots_of c) ≡ true

-- the reports with their places, and the receiver, the slots and the message area at the end: what the rules of one edition give
abbrev pub BoxEnd : Type 0
BoxEnd = Ends Receiver (List (Messages.Slot Key)) (List ℕ) (List ℕ)

-- the same with the edition beside the receiver: the last state is edition, receiver and slots
abbrev pub End : Type 0
End = Ends (Edition × Receiver) (List (Messages.Slot Key)) (List ℕ) (List ℕ)

abbrev pub in_edition : Edition → BoxEnd → End
in_edition e x = ends x.reports (e, x.state) x.slots x.area

-- what stands in the report area is a report where the call says so
abbrev pub told : Bool → List ℕ → Option (List ℕ)
told true report = some report
told false report = none

-- ---- the calls, each with any answer that its promise allows: a state is the collector with the message area
abbrev pub WithArea : Type 0
WithArea = Collector × List ℕ

-- a piece, lent a report area of 16 octets, whatever stands in it
pub record Feeding (s : WithArea) (piece : List ℕ) (eaten : ℕ) (said : Option (List ℕ)) (t : WithArea) : Type 0 where
  pub report : List ℕ
  pub report' : List ℕ
  pub answer : Fed
  pub sixteen : length report ≡ report_size
  pub promise : Feeds s.0 report s.1 piece answer report' t.1
  pub ate : eaten ≡ answer.eaten
  pub says : said ≡ told answer.reported report'
  pub leaves : t.0 ≡ answer.state

-- a silence, lent such a report area; the message area is not lent
pub record Stilling (s : WithArea) (said : Option (List ℕ)) (t : WithArea) : Type 0 where
  pub report : List ℕ
  pub report' : List ℕ
  pub answer : Fell
  pub sixteen : length report ≡ report_size
  pub promise : Stills s.0 report answer report'
  pub says : said ≡ told answer.reported report'
  pub leaves : t.0 ≡ answer.state
  pub area : t.1 ≡ s.1

-- a forget order: nothing is lent
pub record Forgetting (i : ℕ) (s t : WithArea) : Type 0 where
  pub answer : Forgot
  pub promise : Forgets s.0 i answer
  pub leaves : t.0 ≡ answer.state
  pub area : t.1 ≡ s.1

abbrev pub calls : Calls WithArea (List ℕ)
calls = record { Feeds = Feeding; Stills = Stilling; Forgets = Forgetting }

-- "Cut the octets anywhere, offer the rest again after each report": from a state and a message area, with a run left to offer whose trunk goes on
-- at place p; the last state as the rules see it
abbrev pub Called : ℕ → Collector → List ℕ → Run → End → Type 0
Called p c area run e = (d : Collector) × Offer (Made calls) p (c, area) run e.reports (d, e.area) × (d.edition ≡ e.state.0) × (d.receiver ≡ e.state.1) × (slots_of d ≡ e.slots)
