-- What the calls promise: the answer, every slot's record and the whole area.
use Rattle.std.specs.Prelude.{◌≡◌, ℕ, ◌+◌, ◌<◌, ◌≤◌, List, length, set, ◌==◌, Result, Ok, Err}
use Rattle.octets.specs.Choice.{pick}
use Rattle.octets.specs.Refusal.{number_of, numbered}
use Rattle.octets.specs.declared.refusal.Refusal.{Refusal}
use Rattle.messages.specs.Slots as Messages
use Rattle.messages.specs.Rows as Rules
use Rattle.messages.specs.Rows.Answer.{refused, taken, completed}
use Rattle.rebuild.specs.declared.Key.{Key}
use Rattle.rebuild.specs.declared.Slots.{Slots}
use Rattle.rebuild.specs.declared.Segment.{Segment}
use Rattle.rebuild.specs.declared.Step as Declared
use Rattle.rebuild.specs.declared.Step.TheVariants as Answers
use Rattle.rebuild.specs.declared.Taken as Call
use Rattle.rebuild.specs.View.{keys, free_slot, view, segment_of}

-- refused with a number; or held in a slot, or complete there, with the octets so far
pub data Step : Type 0 where
  Refused : ℕ → Step
  Held : ℕ → ℕ → Step
  Complete : ℕ → ℕ → Step

pub record Taken : Type 0 where
  pub answer : Step
  pub slots : Slots

pub record Forgot : Type 0 where
  pub number : ℕ
  pub slots : Slots

-- the calls' answers, in document 01's numbers: t is the slots that an order was given, which a refused one leaves
abbrev pub said_by : Result Declared.Step ℕ → Step
said_by (Ok (Answers.Held i n)) = Held i n
said_by (Ok (Answers.Complete i n)) = Complete i n
said_by (Err n) = Refused n

abbrev pub said_of : Result Declared.Step Refusal → Step
said_of r = said_by (numbered r)

abbrev pub taken_of : Call.Taken → Taken
taken_of r = record { answer = said_of r.answer; slots = r.slots }

abbrev pub forgot_of : Slots → Result Slots Refusal → Forgot
forgot_of t (Ok u) = record { number = 0; slots = u }
forgot_of t (Err r) = record { number = number_of r; slots = t }

-- the answers that refuse: every slot is kept, or slot s is freed
abbrev pub Kept : ℕ → Slots → Taken → Type 0
Kept m t r = (r.answer ≡ Refused m) × (r.slots ≡ t)

abbrev pub Lost : ℕ → Slots → ℕ → Taken → Type 0
Lost m t s r = (r.answer ≡ Refused m) × (r.slots.slots ≡ set t.slots s free_slot)

-- the answer's cases: the refusal's number; the slot and the octets held so far; the slot and the total
abbrev pub step_of : Rules.Answer → Step
step_of (refused n) = Refused n
step_of (taken i n) = Held i n
step_of (completed i n) = Complete i n

-- the code's answer, its slots and the area behind it are those of the rules
pub record Gives (d : Rules.Done Key) (r : Taken) (later : List ℕ) : Type 0 where
  pub answer : r.answer ≡ step_of d.answer
  pub slots : view r.slots ≡ d.box.slots
  pub area : later ≡ d.box.area

-- a segment of the page's key, in an area of 65,536 octets; 60 in any other
unfoldable pub taking : Slots → Segment → List ℕ → List ℕ → Rules.Done Key
taking t g o area =
    let b = Messages.boxed (view t) area in
    pick (length area == 65536) (Rules.rebuild keys (segment_of g o) b) (Rules.kept 60 b)

-- "Forgetting frees a slot": 0, or 56 and nothing changes
pub record Forgets (t : Slots) (s : ℕ) (r : Forgot) : Type 0 where
  pub number : r.number ≡ Rules.forget_number keys s (view t)
  pub slots : view r.slots ≡ Rules.forgotten keys s (view t)

-- n octets in slot s and these behind them are within the slot, and the slot within the area
pub record Fits (s n : ℕ) (o area : List ℕ) : Type 0 where
  pub here : s < 4
  pub within : n + length o ≤ 16384
  pub sized : length area ≡ 65536
