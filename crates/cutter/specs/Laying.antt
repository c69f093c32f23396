-- What the parts of the cutter promise each other.
use Rattle.std.specs.Prelude.{ℕ, ◌≤◌, ◌≡◌, List, Result, Ok, Err, length}
use Rattle.octets.specs.Refusal.{number_of}
use Rattle.octets.specs.declared.refusal.Refusal.{Refusal}
use Rattle.apdu.specs.declared.Edition.{Edition}
use Rattle.cutter.specs.Layout.{segments_of, octets_of}
use Rattle.cutter.specs.Fault.{fault_of}
use Rattle.cutter.specs.declared.Message.{Message}
use Rattle.cutter.specs.declared.Message.TheVariants.{Request, ComplexAck}
use Rattle.cutter.specs.declared.Way.{Way}

-- how long the header of a segment is
abbrev pub header_length : Message → ℕ
header_length (Request q) = 6
header_length (ComplexAck q) = 5

-- the first refusal, or the number of segments
abbrev pub Judged : Edition → Message → Way → ℕ → Result ℕ Refusal → Type 0
Judged e m w n (Ok count) = (fault_of e m w n ≡ 0) × (count ≡ segments_of w.each n)
Judged e m w n (Err r) = number_of r ≡ fault_of e m w n

-- nothing is to be refused: the count of the segments is known, and the area holds them
pub record Ready (e : Edition) (m : Message) (w : Way) (count : ℕ) (params out : List ℕ) : Type 0 where
  pub fine : fault_of e m w (length params) ≡ 0
  pub all : count ≡ segments_of w.each (length params)
  pub room : length (octets_of m w params) ≤ length out
