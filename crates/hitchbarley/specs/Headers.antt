-- The header calls over octets: headers are records of octets.
use Rattle.std.specs.Prelude.{ℕ, Bool, true, false, List, [], eqb, leb, length, Ok, Err}
use Rattle.octets.specs.Choice.{pick}
use Rattle.octets.specs.Reading.{oct}
use Rattle.npdu.specs.Fault as Npdu
use Rattle.apdu.specs.Fields.{params_at}
use Rattle.apdu.specs.Fault as Apdu
use Rattle.apdu.specs.declared.Edition.{Edition}
use Rattle.apdu.specs.Reading.{Answer}
use Rattle.records.specs.Network.{npdu_size, npdu_at}
use Rattle.records.specs.Application.{apdu_size, apdu_record, apdu_at}

-- the answer to a read APDU: whether it is good, its number, its record, the place where the parameters begin
abbrev pub apdu_good : Answer → Bool
apdu_good (Ok p) = true
apdu_good (Err x) = false

abbrev pub apdu_number : Answer → ℕ
apdu_number (Ok p) = 0
apdu_number (Err x) = x

abbrev pub apdu_octets : Answer → List ℕ
apdu_octets (Ok p) = apdu_record p
apdu_octets (Err x) = []

abbrev pub apdu_params : Answer → ℕ
apdu_params (Ok p) = params_at p
apdu_params (Err x) = 0

-- what a record to be written deserves: 60 for another size, 21 for a type above 7, else what the header deserves; an APDU's by an edition
unfoldable pub npdu_fault : List ℕ → ℕ
npdu_fault o = pick (eqb (length o) npdu_size) (Npdu.fault_of (npdu_at o)) 60

unfoldable pub apdu_fault : Edition → List ℕ → ℕ
apdu_fault e o = pick (eqb (length o) apdu_size) (pick (leb (oct o 0) 7) (Apdu.fault_of e (apdu_at o)) 21) 60
