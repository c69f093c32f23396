-- The service calls over octets: services are records of octets.
use Rattle.std.specs.Prelude.{ℕ, Bool, true, false, List, [], eqb, leb, length, Ok, Err}
use Rattle.octets.specs.Choice.{pick}
use Rattle.octets.specs.Reading.{oct}
use Rattle.services.specs.Parts.{Answer}
use Rattle.service_writer.specs.Fault.{fault_of}
use Rattle.records.specs.Service.{service_size, service_record, service_at}

-- the answer to read parameters: whether they are good, their number, their record
abbrev pub service_good : Answer → Bool
service_good (Ok v) = true
service_good (Err x) = false

abbrev pub service_number : Answer → ℕ
service_number (Ok v) = 0
service_number (Err x) = x

abbrev pub service_octets : Answer → List ℕ
service_octets (Ok v) = service_record v
service_octets (Err x) = []

-- what a record to be written deserves: 60 for another size, 43 for none of the six services, else what the service deserves with the value
unfoldable pub service_fault : List ℕ → List ℕ → ℕ
service_fault o value = pick (eqb (length o) service_size) (pick (leb (oct o 0) 5) (fault_of (service_at o) value) 43) 60
