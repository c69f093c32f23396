-- The number that a service writer gives, 0 for none: "41 for a field too wide for its layout, else the number that reading their output would give".
use Rattle.std.specs.Prelude.{ℕ, Bool, true, false, List, ltb, Ok, Err}
use Rattle.octets.specs.Choice.{pick}
use Rattle.services.specs.Parts.{Answer}
use Rattle.services.specs.Reading.{last_instance, read_service}
use Rattle.services.specs.declared.Service.{Service}
use Rattle.services.specs.declared.Service.TheVariants.{ReadProperty, ReadPropertyAck, WriteProperty, WhoIs, IAm, Error}
use Rattle.services.specs.declared.Target.{Target}
use Rattle.service_writer.specs.Layout.{kind_of, choice_of, ranked, octets_of}

-- "10-bit type, 22-bit instance": what a layout cannot hold
unfoldable pub wide_target : Target → Bool
wide_target t = pick (ltb 1023 t.object) true (ltb last_instance t.instance)

unfoldable pub too_wide : Service → Bool
too_wide (ReadProperty t) = wide_target t
too_wide (ReadPropertyAck a) = wide_target a.target
too_wide (WriteProperty w) = wide_target w.target
too_wide (WhoIs w) = false
too_wide (IAm i) = ltb last_instance i.instance
too_wide (Error f) = false

-- the number of a refusal, 0 for none
unfoldable pub refusal_of : Answer → ℕ
refusal_of (Ok v) = 0
refusal_of (Err x) = x

-- the number that reading the octets gives, 0 for none
abbrev pub read_fault : ℕ → ℕ → List ℕ → ℕ
read_fault kind choice o = refusal_of (read_service kind choice o)

unfoldable pub fault_of : Service → List ℕ → ℕ
fault_of v value = pick (too_wide v) 41 (read_fault (kind_of v) (choice_of v) (octets_of v value))

-- the same for a target, a value and an optional priority: of WriteProperty's request, else of ReadProperty's ack
unfoldable pub ranked_fault : Bool → Target → List ℕ → Bool → ℕ → ℕ
ranked_fault request t value here priority = pick (wide_target t) 41 (read_fault (pick request 0 3) (pick request 15 12) (ranked t value here priority))
