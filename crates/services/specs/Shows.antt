-- Which message a service that was read shows, and "accepted exactly when": what reading and layout have to do with each other.
use Rattle.std.specs.Prelude.{ℕ, ◌≡◌, ◌⊎◌, List, [], take, drop, Ok}
use Rattle.tags.specs.Layout.{Thing}
use Rattle.items.specs.Grammar.{Reads}
use Rattle.services.specs.Reading.{read_service}
use Rattle.services.specs.Layout.{Pointed, Message, Valid}
use Rattle.services.specs.Layout.Message.{read_property, read_property_ack, write_property, who_is, i_am, error_of}
use Rattle.services.specs.declared.Service.{Service}
use Rattle.services.specs.declared.Service.TheVariants.{ReadProperty, ReadPropertyAck, WriteProperty, WhoIs, IAm, Error}
use Rattle.services.specs.declared.Target.{Target}
use Rattle.services.specs.declared.Span.{Span}

-- "ReadProperty 12, request", "Its ack", "WriteProperty 15", "Who-Is 8", "I-Am 0", "Error for 12 or 15"
abbrev pub For : ℕ → ℕ → Message → Type 0
For kind choice (read_property t) = (kind ≡ 0) × (choice ≡ 12)
For kind choice (read_property_ack t ts) = (kind ≡ 3) × (choice ≡ 12)
For kind choice (write_property t ts ranked priority) = (kind ≡ 0) × (choice ≡ 15)
For kind choice (who_is limited low high) = (kind ≡ 1) × (choice ≡ 8)
For kind choice (i_am instance longest segmentation vendor) = (kind ≡ 1) × (choice ≡ 0)
For kind choice (error_of class code) = (kind ≡ 5) × ((choice ≡ 12) ⊎ (choice ≡ 15))

abbrev pub pointed_of : Target → Pointed
pointed_of t = record { object = t.object; instance = t.instance; property = t.property; indexed = t.indexed; index = t.index }

-- the message of a service whose value is these items
unfoldable pub message_of : Service → List Thing → Message
message_of (ReadProperty t) ts = read_property (pointed_of t)
message_of (ReadPropertyAck a) ts = read_property_ack (pointed_of a.target) ts
message_of (WriteProperty w) ts = write_property (pointed_of w.target) ts w.ranked w.priority
message_of (WhoIs w) ts = who_is w.limited w.low w.high
message_of (IAm i) ts = i_am i.instance i.longest i.segmentation i.vendor
message_of (Error f) ts = error_of f.class f.code

-- the octets of a value
abbrev pub value_octets : List ℕ → Span → List ℕ
value_octets o v = take v.len (drop v.at o)

-- the octets of a service's value are read as these items by themselves; a service without a value has none
abbrev pub ValueReads : List ℕ → Service → List Thing → Type 0
ValueReads o (ReadProperty t) ts = ts ≡ []
ValueReads o (ReadPropertyAck a) ts = Reads (value_octets o a.value) ts
ValueReads o (WriteProperty w) ts = Reads (value_octets o w.value) ts
ValueReads o (WhoIs w) ts = ts ≡ []
ValueReads o (IAm i) ts = ts ≡ []
ValueReads o (Error f) ts = ts ≡ []

-- the reading of the octets, for this kind and choice, accepts and gives a service that shows the message
pub record Shows (kind choice : ℕ) (o : List ℕ) (m : Message) : Type 0 where
  pub service : Service
  pub read : read_service kind choice o ≡ Ok service
  pub value : List Thing
  pub items : ValueReads o service value
  pub shown : message_of service value ≡ m

-- the rules of a message of this kind and choice
pub record ValidFor (kind choice : ℕ) (m : Message) : Type 0 where
  pub layout : For kind choice m
  pub valid : Valid m
