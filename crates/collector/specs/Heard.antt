-- What a good frame hands down: its type, destination and source, and the edition by which it is read; the network header's two addresses; and an APDU taken apart.
use Rattle.std.specs.Prelude.{ℕ, List}
use Rattle.octets.specs.Reading.{oct}
use Rattle.npdu.specs.Address.{source_of, destination_of}
use Rattle.npdu.specs.declared.Npdu.{Npdu}
use Rattle.apdu.specs.Fields.{kind_of, invoke_of, choice_of, segment_of, params_at}
use Rattle.apdu.specs.declared.Edition.{Edition}
use Rattle.apdu.specs.declared.Pdu.{Pdu}
use Rattle.reports.specs.declared.Frame.{Frame}
use Rattle.collector.specs.declared.heard.Heard.{Heard}
use Rattle.collector.specs.declared.heard.Parts.{Parts}
use Rattle.collector.specs.declared.heard.Route as Declared

-- the first three octets of the frame's head, and the edition
abbrev pub frame_of : List ℕ → Frame
frame_of head = record { kind = oct head 0; destination = oct head 1; source = oct head 2 }

abbrev pub heard_of : Edition → List ℕ → Heard
heard_of e head = record { frame = frame_of head; edition = e }

-- where a message comes from and where it goes, behind a router or not
abbrev pub Route : Type 0
Route = Declared.Route

abbrev pub route_of : Npdu → Route
route_of h = record { source = source_of h; destination = destination_of h }

-- a PDU and its first octet
unfoldable pub parts_of : Pdu → ℕ → Parts
parts_of p first =
    record {
      kind = kind_of p;
      apdu = record { first = first; invoke = invoke_of p; choice = choice_of p };
      segment = segment_of p;
      params = params_at p;
    }
