-- What the calls answer in document 01's numbers, 0 for no refusal, and the code's answers seen so: a refused one has its receiver as it was.
use Rattle.std.specs.Prelude.{List, ℕ, Result, Ok, Err}
use Rattle.octets.specs.declared.refusal.Refusal.{Refusal}
use Rattle.octets.specs.Refusal.{number_of}
use Rattle.frames.specs.declared.Outcome.{Outcome}
use Rattle.frames.specs.declared.Outcome.TheVariants.{Quiet}
use Rattle.frames.specs.declared.Link.{Link}
use Rattle.frames.specs.declared.Receiver.{Receiver}
use Rattle.frames.specs.declared.Moved.{Moved}
use Rattle.frames.specs.declared.Ran.{Ran}
use Rattle.frames.specs.declared.Fed as Piece
use Rattle.frames.specs.declared.Fell as Silence

-- of a piece: 59 or 0, the octets eaten, what the last of them ended
pub record Fed : Type 0 where
  pub refused : ℕ
  pub eaten : ℕ
  pub outcome : Outcome
  pub receiver : Receiver

-- of a silence
pub record Fell : Type 0 where
  pub refused : ℕ
  pub outcome : Outcome
  pub receiver : Receiver

-- of a silence without a store
pub record Stilled : Type 0 where
  pub refused : ℕ
  pub outcome : Outcome
  pub link : Link

-- a refusal in the place of such an answer: nothing is eaten, nothing ends, the receiver is as it was
abbrev pub unfed : Refusal → Receiver → Fed
unfed e r = record { refused = number_of e; eaten = 0; outcome = Quiet; receiver = r }

abbrev pub unfallen : Refusal → Receiver → Fell
unfallen e r = record { refused = number_of e; outcome = Quiet; receiver = r }

-- ---- the code's answers
abbrev pub fed_by : Receiver → Result Piece.Fed Refusal → Fed
fed_by r (Ok f) = record { refused = 0; eaten = f.eaten; outcome = f.outcome; receiver = f.receiver }
fed_by r (Err e) = unfed e r

abbrev pub fell_by : Receiver → Result Silence.Fell Refusal → Fell
fell_by r (Ok f) = record { refused = 0; outcome = f.outcome; receiver = f.receiver }
fell_by r (Err e) = unfallen e r

abbrev pub stilled_by : Link → Result Moved Refusal → Stilled
stilled_by l (Ok m) = record { refused = 0; outcome = m.outcome; link = m.link }
stilled_by l (Err e) = record { refused = number_of e; outcome = Quiet; link = l }

-- the answer of a link l, put together with the store that it left
abbrev pub fed_over : Link → Result Ran Refusal → List ℕ → Fed
fed_over l (Ok r) s = record { refused = 0; eaten = r.eaten; outcome = r.outcome; receiver = record { link = r.link; store = s } }
fed_over l (Err e) s = unfed e (record { link = l; store = s })

abbrev pub fell_over : Stilled → List ℕ → Fell
fell_over r s = record { refused = r.refused; outcome = r.outcome; receiver = record { link = r.link; store = s } }
