-- What the cutter promises.
use Rattle.std.specs.Prelude.{ℕ, ◌≡◌, List, Result, Ok, Err, length}
use Rattle.octets.specs.Laid.{Written, Laid}
use Rattle.octets.specs.Refusal.{number_of}
use Rattle.octets.specs.declared.refusal.Refusal.{Refusal}
use Rattle.apdu.specs.declared.Edition.{Edition}
use Rattle.cutter.specs.Layout.{segments_of, octets_of}
use Rattle.cutter.specs.Fault.{fault_of}
use Rattle.cutter.specs.declared.Message.{Message}
use Rattle.cutter.specs.declared.Way.{Way}
use Rattle.cutter.specs.declared.Extent.{Extent}

-- the octets written or the number of the refusal, and the number of segments, 0 where it is refused
pub record Parted : Type 0 where
  pub answer : Written
  pub segments : ℕ

-- an answer of the code as that
abbrev pub parted_of : Result Extent Refusal → Parted
parted_of (Ok c) = record { answer = Ok c.octets; segments = c.segments }
parted_of (Err r) = record { answer = Err (number_of r); segments = 0 }

-- the number of segments where they were written, else 0
abbrev pub count_in : Written → ℕ → ℕ
count_in (Ok n) count = count
count_in (Err x) count = 0

-- by an edition, of a message, the way of cutting it and its parameters, an area, the answer and the area after it
pub record Cuts (e : Edition) (m : Message) (w : Way) (params area : List ℕ) (r : Parted) (later : List ℕ) : Type 0 where
  pub laid : Laid (fault_of e m w (length params)) (octets_of m w params) area r.answer later
  pub segments : r.segments ≡ count_in r.answer (segments_of w.each (length params))
