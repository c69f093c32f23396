-- What a replay answers in document 01's numbers, 0 for no refusal, and the code's answers seen so: 67 comes with what was eaten before it.
use Rattle.std.specs.Prelude.{ℕ, Bool}
use Rattle.octets.specs.Refusal.{fault_of}
use Rattle.frames.specs.declared.Link.{Link}
use Rattle.rebuild.specs.declared.Slots.{Slots}
use Rattle.collector.specs.declared.Collector.{Collector}
use Rattle.playback.specs.declared.Played as Call
use Rattle.playback.specs.declared.lent.Went as Lent

-- 60, 59, 68, 67 or 0; the records eaten; whether a report was written
pub record Played : Type 0 where
  pub refused : ℕ
  pub eaten : ℕ
  pub reported : Bool
  pub state : Collector

-- the same over a lent store; moved: whether the slots may have moved
pub record Went : Type 0 where
  pub refused : ℕ
  pub eaten : ℕ
  pub reported : Bool
  pub moved : Bool
  pub link : Link
  pub slots : Slots

abbrev pub played_of : Call.Played → Played
played_of r = record { refused = fault_of r.answer; eaten = r.eaten; reported = r.reported; state = r.state }

abbrev pub went_of : Lent.Went → Went
went_of r = record { refused = fault_of r.answer; eaten = r.eaten; reported = r.reported; moved = r.moved; link = r.link; slots = r.slots }
