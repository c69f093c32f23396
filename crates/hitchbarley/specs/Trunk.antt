-- The calls of one trunk over lent octets: the state area is loaded, the collector's call is made, and what it leaves is saved.
use Rattle.std.specs.Prelude.{ℕ, ◌≡◌, Bool, true, List, [], eqb, length}
use Rattle.octets.specs.Choice.{pick, both}
use Rattle.apdu.specs.declared.Edition.{Edition}
use Rattle.frames.specs.declared.Receiver.{Receiver}
use Rattle.messages.specs.Slots as Messages
use Rattle.messages.specs.Rows.{forget_number}
use Rattle.rebuild.specs.View.{keys, unview}
use Rattle.rebuild.specs.declared.Key.{Key}
use Rattle.reports.specs.Layout.{report_size}
use Rattle.collector.specs.Calls.{box, sized, sound, slots_of, said_so, written, Answered, feed_refusal, feeding, silence_refusal, stilling}
use Rattle.collector.specs.declared.Collector.{Collector}
use Rattle.records.specs.Flag.{flag}
use Rattle.state.specs.Layout.{state_octets}
use Rattle.state.specs.Calls.{load_of, Loads}

-- what a call answers and leaves: its number, the numbers given back, the lent areas
pub record Left : Type 0 where
  pub number : ℕ
  pub eaten : ℕ
  pub reported : ℕ
  pub state : List ℕ
  pub report : List ℕ
  pub area : List ℕ

-- a refusal changes no area, and gives back 0
abbrev pub barred : ℕ → List ℕ → List ℕ → List ℕ → Left
barred n state report area = record { number = n; eaten = 0; reported = 0; state = state; report = report; area = area }

-- a state by its edition, its receiver and its slots as the rules see them; the state that the collector's call leaves, in the edition that it was given
abbrev pub state_by : Edition → Receiver → List (Messages.Slot Key) → Collector
state_by e r s = record { edition = e; receiver = r; slots = unview s }

abbrev pub state_of : Edition → Answered → Collector
state_of e d = state_by e d.state d.slots

-- what the collector's call answers and leaves, its state as octets
abbrev pub passed : Edition → ℕ → Answered → List ℕ → Left
passed e n d report =
    record {
      number = n;
      eaten = d.eaten;
      reported = flag (said_so d.said);
      state = state_octets (state_of e d);
      report = written d.said report;
      area = d.area;
    }

-- "60, then 59": a lent area of another size than its own is 60; octets that are no state's are 59
unfoldable pub bar : Bool → List ℕ → ℕ
bar others state = pick others (load_of state).refused 60

abbrev pub inside : List ℕ → Collector
inside state = (load_of state).state

-- ---- feeding
unfoldable pub feed_bar : List ℕ → List ℕ → List ℕ → ℕ
feed_bar state report area = bar (both (eqb (length report) report_size) (sized area)) state

unfoldable pub feed_left : List ℕ → List ℕ → List ℕ → List ℕ → Left
feed_left state report area piece =
    pick (eqb (feed_bar state report area) 0)
    (passed (inside state).edition (feed_refusal (inside state) report area) (feeding (inside state) report area piece) report)
    (barred (feed_bar state report area) state report area)

-- ---- a silence: the message area is not lent
unfoldable pub silence_bar : List ℕ → List ℕ → ℕ
silence_bar state report = bar (eqb (length report) report_size) state

unfoldable pub silence_left : List ℕ → List ℕ → Left
silence_left state report =
    pick (eqb (silence_bar state report) 0)
    (passed (inside state).edition (silence_refusal (inside state) report) (stilling (inside state) report []) report)
    (barred (silence_bar state report) state report [])

-- ---- forgetting: only the state area is lent
unfoldable pub forget_number_of : Collector → ℕ → ℕ
forget_number_of c s = pick (sound c.receiver (slots_of c)) (forget_number keys s (slots_of c)) 59

abbrev pub forgotten : Collector → ℕ → Collector
forgotten c s = state_by c.edition c.receiver ((box c.edition).free s c.receiver (slots_of c))

unfoldable pub forget_left : List ℕ → ℕ → Left
forget_left state s =
    pick (eqb (bar true state) 0)
    (record { number = forget_number_of (inside state) s; eaten = 0; reported = 0; state = state_octets (forgotten (inside state) s); report = []; area = [] })
    (barred (bar true state) state [] [])

-- ---- what the calls promise: their answer, every number given back and every lent area; and that the state area holds a state again
pub record Feeds (state report area piece : List ℕ) (r eaten reported : ℕ) (state' report' area' : List ℕ) : Type 0 where
  pub number : r ≡ (feed_left state report area piece).number
  pub ate : eaten ≡ (feed_left state report area piece).eaten
  pub spoke : reported ≡ (feed_left state report area piece).reported
  pub state_after : state' ≡ (feed_left state report area piece).state
  pub report_after : report' ≡ (feed_left state report area piece).report
  pub area_after : area' ≡ (feed_left state report area piece).area
  pub again : feed_bar state report area ≡ 0 → Loads state' (state_of (inside state).edition (feeding (inside state) report area piece))

pub record Stills (state report : List ℕ) (r reported : ℕ) (state' report' : List ℕ) : Type 0 where
  pub number : r ≡ (silence_left state report).number
  pub spoke : reported ≡ (silence_left state report).reported
  pub state_after : state' ≡ (silence_left state report).state
  pub report_after : report' ≡ (silence_left state report).report
  pub again : silence_bar state report ≡ 0 → Loads state' (state_of (inside state).edition (stilling (inside state) report []))

pub record Forgets (state : List ℕ) (s r : ℕ) (state' : List ℕ) : Type 0 where
  pub number : r ≡ (forget_left state s).number
  pub state_after : state' ≡ (forget_left state s).state
  pub again : bar true state ≡ 0 → Loads state' (forgotten (inside state) s)
