-- The octets of a service with a value's octets: "Service writers take a value as octets".
use Rattle.std.specs.Prelude.{ℕ, ◌+◌, ◌≡◌, Bool, List, [], ◌∷◌, ◌++◌, length, take}
use Rattle.octets.specs.Choice.{pick}
use Rattle.octets.specs.Numbers.{width_of}
use Rattle.tags.specs.Layout.Thing.{opening, closing}
use Rattle.tags.specs.Layout as tag
use Rattle.items.specs.Grammar.{encode_all}
use Rattle.services.specs.Layout.{shortest, optional, pointed, encode}
use Rattle.services.specs.Shows.{pointed_of, message_of, value_octets}
use Rattle.services.specs.declared.Service.{Service}
use Rattle.services.specs.declared.Service.TheVariants.{ReadProperty, ReadPropertyAck, WriteProperty, WhoIs, IAm, Error}
use Rattle.services.specs.declared.Target.{Target}
use Rattle.service_writer.specs.declared.work.Work.{Work}

-- the kind of PDU and the choice whose parameters a service is; Error has one layout for 12 and 15
abbrev pub kind_of : Service → ℕ
kind_of (ReadProperty t) = 0
kind_of (ReadPropertyAck a) = 3
kind_of (WriteProperty w) = 0
kind_of (WhoIs w) = 1
kind_of (IAm i) = 1
kind_of (Error f) = 5

abbrev pub choice_of : Service → ℕ
choice_of (ReadProperty t) = 12
choice_of (ReadPropertyAck a) = 12
choice_of (WriteProperty w) = 15
choice_of (WhoIs w) = 8
choice_of (IAm i) = 0
choice_of (Error f) = 12

-- "a group 3, the value": the value's octets as they are, between the group's tags
unfoldable pub grouped : List ℕ → List ℕ
grouped value = tag.encode (opening 3) ++ (value ++ tag.encode (closing 3))

-- a target, a value and an optional priority
unfoldable pub ranked : Target → List ℕ → Bool → ℕ → List ℕ
ranked t value here priority = encode_all (pointed (pointed_of t)) ++ (grouped value ++ encode_all (optional here 4 priority))

-- what stands before the value in it, and behind it
unfoldable pub front_of : Target → List ℕ
front_of t = encode_all (pointed (pointed_of t)) ++ tag.encode (opening 3)

unfoldable pub behind_of : Bool → ℕ → List ℕ
behind_of here priority = tag.encode (closing 3) ++ encode_all (optional here 4 priority)

-- how many items may begin there: a target has two or three, and the opening is one
unfoldable pub room_of : Target → ℕ
room_of t = pick t.indexed 2044 2045

-- the octets of a service with a value's octets; one without a value does not look at them
unfoldable pub octets_of : Service → List ℕ → List ℕ
octets_of (ReadProperty t) value = encode (message_of (ReadProperty t) [])
octets_of (ReadPropertyAck a) value = encode_all (pointed (pointed_of a.target)) ++ grouped value
octets_of (WriteProperty w) value = ranked w.target value w.ranked w.priority
octets_of (WhoIs w) value = encode (message_of (WhoIs w) [])
octets_of (IAm i) value = encode (message_of (IAm i) [])
octets_of (Error f) value = encode (message_of (Error f) [])

-- the octets of the value of a service that was read
abbrev pub value_in : List ℕ → Service → List ℕ
value_in o (ReadProperty t) = []
value_in o (ReadPropertyAck a) = value_octets o a.value
value_in o (WriteProperty w) = value_octets o w.value
value_in o (WhoIs w) = []
value_in o (IAm i) = []
value_in o (Error f) = []

-- a number's item: its tag octet, to which the length is added, and the number in its shortest form
unfoldable pub number_item : ℕ → ℕ → List ℕ
number_item head v = (head + width_of v) ∷ shortest v

-- what is laid in a work
abbrev pub laid : Work → List ℕ
laid w = take w.len w.octets

-- these octets are, and no more
pub record Holds (w : Work) (o : List ℕ) : Type 0 where
  pub len : w.len ≡ length o
  pub laid : laid w ≡ o

-- these were laid behind what was there
pub record Adds (w : Work) (o : List ℕ) (v : Work) : Type 0 where
  pub len : v.len ≡ w.len + length o
  pub laid : laid v ≡ laid w ++ o
