-- The slots that the code keeps, as the rules see them, and the page's key.
use Rattle.std.specs.Prelude.{ℕ, ◌+◌, Bool, false, List, map, replicate, ◌==◌, Option as Found, Some, None}
use Rattle.std.proofs.Math.Option.{Option, none, some}
use Rattle.octets.specs.Choice.{both}
use Rattle.npdu.specs.Address.{same_address, gives_source, gives_destination}
use Rattle.npdu.specs.declared.Address.{Address}
use Rattle.messages.specs.Slots as Messages
use Rattle.rebuild.specs.declared.Key.{Key}
use Rattle.rebuild.specs.declared.Slot.{Slot}
use Rattle.rebuild.specs.declared.Slots.{Slots}
use Rattle.rebuild.specs.declared.Segment.{Segment}

-- "Key: MS/TP source, MS/TP destination, PDU type, invoke ID", and "SNET, SADR, DNET and DADR from the network header, absence being distinct from
-- every present value": keys are the same where all eight parts are
unfoldable pub same_key : Key → Key → Bool
same_key a b =
    both (a.invoke == b.invoke)
    (both (a.source == b.source)
    (both (a.destination == b.destination)
    (both (a.kind == b.kind)
    (both (same_address a.from b.from) (same_address a.to b.to)))))

-- a key that a segment can have: some header gives the source, and some the destination
unfoldable pub given_key : Key → Bool
given_key k = both (gives_source k.from) (gives_destination k.to)

-- no address, field by field
abbrev pub nowhere : Address
nowhere = record { present = false; network = 0; length = 0; octets = replicate 7 0 }

abbrev pub zero_key : Key
zero_key = record { source = 0; destination = 0; kind = 0; invoke = 0; from = nowhere; to = nowhere }

abbrev pub keys : Messages.Keys Key
keys = record { same = same_key; nil = zero_key; given = given_key }

-- "Freeing zeroes a slot's record"
abbrev pub free_slot : Slot
free_slot = record { used = false; key = zero_key; next = 0; choice = 0; held = 0 }

-- all four free
abbrev pub fresh : Slots
fresh = record { slots = replicate 4 free_slot }

-- a record field by field, and back
abbrev pub seen : Slot → Messages.Slot Key
seen x = record { used = x.used; key = x.key; next = x.next; choice = x.choice; held = x.held }

abbrev pub back : Messages.Slot Key → Slot
back x = record { used = x.used; key = x.key; next = x.next; choice = x.choice; held = x.held }

abbrev pub view : Slots → List (Messages.Slot Key)
view t = map seen t.slots

abbrev pub unview : List (Messages.Slot Key) → Slots
unview s = record { slots = map back s }

-- a segment with its parameters
abbrev pub segment_of : Segment → List ℕ → Messages.Segment Key
segment_of g o = record { key = g.key; number = g.number; mor = g.mor; choice = g.choice; octets = o }

-- the place that a search from a start on found
abbrev pub found : ℕ → Option ℕ → Found ℕ
found start none = None
found start (some i) = Some (start + i)
