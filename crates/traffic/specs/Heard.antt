-- What the collector hears of a message that was cut: each segment of it, and the slots while its segments are joined.
use Rattle.std.specs.Prelude.{ℕ, zero, suc, ◌+◌, Bool, true, List, [], ◌∷◌}
use Rattle.octets.specs.Choice.{pick}
use Rattle.octets.specs.Reading.{oct}
use Rattle.messages.specs.Slots as Messages
use Rattle.messages.specs.Slots.{empty}
use Rattle.messages.specs.Rows.{next_number}
use Rattle.rebuild.specs.View.{keys, nowhere, view, fresh}
use Rattle.rebuild.specs.declared.Key.{Key}
use Rattle.reports.specs.declared.Apdu.{Apdu}
use Rattle.collector.specs.Heard.{parts_of}
use Rattle.collector.specs.declared.heard.Parts.{Parts}
use Rattle.cutter.specs.Layout.{pdu_of}
use Rattle.cutter.specs.declared.Message.{Message}
use Rattle.cutter.specs.declared.Message.TheVariants.{Request, ComplexAck}

-- the PDU type, the invoke ID and the service choice of a message
abbrev pub kind_of : Message → ℕ
kind_of (Request q) = 0
kind_of (ComplexAck q) = 3

abbrev pub invoke_of : Message → ℕ
invoke_of (Request q) = q.invoke
invoke_of (ComplexAck q) = q.invoke

abbrev pub choice_of : Message → ℕ
choice_of (Request q) = q.choice
choice_of (ComplexAck q) = q.choice

-- the first octet of each of its APDUs: the type, SEG, MOR where more follow, and SA
abbrev pub first_octet_of : Message → (more : Bool) → ℕ
first_octet_of (Request q) more = 8 + pick more 4 0 + pick q.sa 2 0
first_octet_of (ComplexAck q) more = 48 + 8 + pick more 4 0

-- what reports say of its APDUs
abbrev pub apdu_of : Message → (more : Bool) → Apdu
apdu_of m more = record { first = first_octet_of m more; invoke = invoke_of m; choice = choice_of m }

-- such an APDU taken apart
abbrev pub parts_in : Message → (window : ℕ) → (more : Bool) → (number : ℕ) → Parts
parts_in m window more k = parts_of (pdu_of m window more k) (first_octet_of m more)

-- its key in frames with this head: the network header has no addresses
abbrev pub key_of : List ℕ → Message → Key
key_of head m = record { source = oct head 2; destination = oct head 1; kind = kind_of m; invoke = invoke_of m; from = nowhere; to = nowhere }

-- a segment of a key
abbrev pub piece_of : Key → (choice : ℕ) → (more : Bool) → (number : ℕ) → (part : List ℕ) → Messages.Segment Key
piece_of key choice more k part = record { key = key; number = k; mor = more; choice = choice; octets = part }

-- the segment that such a frame carries
abbrev pub segment_of : List ℕ → Message → (more : Bool) → (number : ℕ) → (part : List ℕ) → Messages.Segment Key
segment_of head m more k part = piece_of (key_of head m) (choice_of m) more k part

-- four slots, free at first, in which k segments of one key were taken: the first holds their octets
abbrev pub waiting : Key → (choice k held : ℕ) → List (Messages.Slot Key)
waiting key choice zero held = view fresh
waiting key choice (suc k) held =
    record { used = true; key = key; next = next_number k; choice = choice; held = held } ∷ empty keys ∷ empty keys ∷ empty keys ∷ []
