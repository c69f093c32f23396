-- What the calls answer in document 01's numbers, 0 for no refusal, and the code's answers seen so: a refused one eats nothing, says nothing and leaves what it was given.
use Rattle.std.specs.Prelude.{ℕ, Bool, false, Result, Ok, Err}
use Rattle.octets.specs.Refusal.{number_of}
use Rattle.octets.specs.declared.refusal.Refusal.{Refusal}
use Rattle.frames.specs.declared.Link.{Link}
use Rattle.rebuild.specs.Calls as Rebuild
use Rattle.rebuild.specs.declared.Slots.{Slots}
use Rattle.collector.specs.declared.Collector.{Collector}
use Rattle.collector.specs.declared.Fed as Piece
use Rattle.collector.specs.declared.Fell as Silence
use Rattle.collector.specs.declared.lent.Ate as Eaten
use Rattle.collector.specs.declared.lent.Hushed as Still

-- of a piece: 60, 59 or 0; the octets eaten; whether a report was written
pub record Fed : Type 0 where
  pub refused : ℕ
  pub eaten : ℕ
  pub reported : Bool
  pub state : Collector

-- of a silence
pub record Fell : Type 0 where
  pub refused : ℕ
  pub reported : Bool
  pub state : Collector

-- of a forget order: 0, 59 or 56
pub record Forgot : Type 0 where
  pub number : ℕ
  pub state : Collector

-- the same over a lent store; of a piece also whether the slots may have moved
pub record Ate : Type 0 where
  pub refused : ℕ
  pub eaten : ℕ
  pub reported : Bool
  pub moved : Bool
  pub link : Link
  pub slots : Slots

pub record Hushed : Type 0 where
  pub refused : ℕ
  pub reported : Bool
  pub link : Link

abbrev pub Freed : Type 0
Freed = Rebuild.Forgot

-- ---- refused
-- a piece: nothing eaten, nothing changed
abbrev pub unfed_by : ℕ → Link → Slots → Ate
unfed_by n l t = record { refused = n; eaten = 0; reported = false; moved = false; link = l; slots = t }

-- a silence that reports nothing, or is refused
abbrev pub quiet_by : ℕ → Link → Hushed
quiet_by n l = record { refused = n; reported = false; link = l }

-- ---- the code's answers
abbrev pub fed_of : Collector → Result Piece.Fed Refusal → Fed
fed_of c (Ok f) = record { refused = 0; eaten = f.eaten; reported = f.reported; state = f.state }
fed_of c (Err e) = record { refused = number_of e; eaten = 0; reported = false; state = c }

abbrev pub fell_of : Collector → Result Silence.Fell Refusal → Fell
fell_of c (Ok f) = record { refused = 0; reported = f.reported; state = f.state }
fell_of c (Err e) = record { refused = number_of e; reported = false; state = c }

abbrev pub forgot_of : Collector → Result Collector Refusal → Forgot
forgot_of c (Ok d) = record { number = 0; state = d }
forgot_of c (Err e) = record { number = number_of e; state = c }

abbrev pub ate_of : Link → Slots → Result Eaten.Ate Refusal → Ate
ate_of l t (Ok r) = record { refused = 0; eaten = r.eaten; reported = r.reported; moved = r.moved; link = r.link; slots = r.slots }
ate_of l t (Err e) = unfed_by (number_of e) l t

abbrev pub hushed_of : Link → Result Still.Hushed Refusal → Hushed
hushed_of l (Ok r) = record { refused = 0; reported = r.reported; link = r.link }
hushed_of l (Err e) = quiet_by (number_of e) l

abbrev pub freed_of : Slots → Result Slots Refusal → Freed
freed_of t r = Rebuild.forgot_of t r
