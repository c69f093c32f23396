-- What the frame writer promises.
use Rattle.std.specs.Prelude.{ℕ, List}
use Rattle.octets.specs.Laid.{Written, Laid}
use Rattle.frames.specs.Layout.{frame_octets}
use Rattle.frame_writer.specs.Fault.{fault_of}

-- of type, destination, source and data, an area, the answer and the area after it
abbrev pub Writes : (kind to from : ℕ) → (d area : List ℕ) → Written → List ℕ → Type 0
Writes kind to from d area r later = Laid (fault_of d) (frame_octets kind to from d) area r later
