-- What the writer of headers promises.
use Rattle.std.specs.Prelude.{ℕ, List}
use Rattle.octets.specs.Laid.{Laid, Written}
use Rattle.apdu.specs.declared.Edition.{Edition}
use Rattle.apdu.specs.declared.Pdu.{Pdu}
use Rattle.apdu.specs.Layout.{header}
use Rattle.apdu.specs.Fault.{fault_of}

-- by an edition, of a PDU, an area, the answer and the area after it
abbrev pub Writes : Edition → Pdu → List ℕ → Written → List ℕ → Type 0
Writes e p area r later = Laid (fault_of e p) (header p) area r later
