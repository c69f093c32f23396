-- "The key (MS/TP source, MS/TP destination, PDU type, invoke ID) must add SNET, SADR, DNET and DADR from the network header, absence being distinct from every present
-- value." What the eight parts of a segment's key are, by its frame's own octets, and that segments are joined, and laid in an open slot, by all eight.
use Rattle.std.specs.Prelude.{ℕ, ◌+◌, ◌≤◌, ◌<◌, ◌≡◌, ◌↔◌, ◌⊎◌, Bool, true, List, [], ◌∷◌, ◌++◌, length, take, drop, Ok}
use Rattle.std.proofs.Math.Option.{Option, none, some}
use Rattle.octets.specs.Choice.{given}
use Rattle.octets.specs.Reading.{oct, Octets}
use Rattle.runs.specs.Run.{Run, wire, octs, Trace, ended}
use Rattle.trunk.specs.Reading.{Out, held_of, read_from}
use Rattle.trunk.specs.Reading.Out.{good}
use Rattle.npdu.specs.Reading.{read_npdu}
use Rattle.npdu.specs.declared.Address.{Address}
use Rattle.apdu.specs.Reading.{read_apdu}
use Rattle.apdu.specs.Fields.{kind_of, invoke_of}
use Rattle.apdu.specs.declared.Edition.{Edition}
use Rattle.apdu.specs.declared.Pdu.{Pdu}
use Rattle.messages.specs.Slots.{Segment, Box, part, slot_at}
use Rattle.messages.specs.Rows.{rebuild}
use Rattle.messages.specs.Rows.Answer.{taken, completed}
use Rattle.messages.specs.History.{since}
use Rattle.rebuild.specs.View.{keys}
use Rattle.rebuild.specs.declared.Key.{Key}
use Rattle.recordings.specs.Frames.{history}
use Rattle.collector.specs.Frame.{bacnet, segment_at}
use Rattle.collector.specs.Calls.{slots_of, fresh_collector}
use Rattle.collector.specs.Offering.{End, Called}
use Rattle.collector.specs.declared.Collector.{Collector}
use Rattle.state.specs.Layout.{Fits}
use Rattle.demands.specs.Words.{Headed, Four}
use Rattle.demands.specs.Completed.{heard_from}

-- ---- a part of the network header: its network number and its address are there or not. "An address is its octets with its length": as many octets as the length says
abbrev pub net_if : Bool → ℕ → Option ℕ
net_if here net = given here (some net) none

abbrev pub address_if : Bool → ℕ → List ℕ → Option (List ℕ)
address_if here len adr = given here (some (take len adr)) none

abbrev pub net_of : Address → Option ℕ
net_of a = net_if a.present a.network

abbrev pub address_of : Address → Option (List ℕ)
address_of a = address_if a.present a.length a.octets

-- ---- all eight parts of two keys agree
pub record Agree (a b : Key) : Type 0 where
  pub source : a.source ≡ b.source
  pub destination : a.destination ≡ b.destination
  pub kind : a.kind ≡ b.kind
  pub invoke : a.invoke ≡ b.invoke
  pub snet : net_of a.from ≡ net_of b.from
  pub sadr : address_of a.from ≡ address_of b.from
  pub dnet : net_of a.to ≡ net_of b.to
  pub dadr : address_of a.to ≡ address_of b.to

-- ---- the key of a good frame's segment: from the frame's head, the network header that stands in front of its data, and the header of the APDU behind it
pub record KeyHeard (e : Edition) (head payload : List ℕ) (k : Key) : Type 0 where
  pub source : k.source ≡ oct head 2
  pub destination : k.destination ≡ oct head 1
  pub network : (read_npdu payload).refused ≡ 0
  pub pdu : Pdu
  pub application : read_apdu e (drop (read_npdu payload).next payload) ≡ Ok pdu
  pub kind : k.kind ≡ kind_of pdu
  pub invoke : k.invoke ≡ invoke_of pdu
  pub snet : (let h = (read_npdu payload).head in net_of k.from ≡ net_if h.source h.snet)
  pub sadr : (let h = (read_npdu payload).head in address_of k.from ≡ address_if h.source h.slen h.sadr)
  pub dnet : (let h = (read_npdu payload).head in net_of k.to ≡ net_if h.dest h.dnet)
  pub dadr : (let h = (read_npdu payload).head in address_of k.to ≡ address_if h.dest h.dlen h.dadr)

-- Two keys that network headers give are the same exactly when all eight parts agree, and any two keys are the same exactly when they are one; the key of a frame's
-- segment has the parts that its own octets say, and where the frame's data are octets, a network header gives it.
pub record KeyParts : Type 0 where
  pub same : (a b : Key) → (keys.same a b ≡ true) ↔ (a ≡ b)
  pub agree : (a b : Key) → Headed a → Headed b → (keys.same a b ≡ true) ↔ Agree a b
  pub heard : (e : Edition) (head payload : List ℕ) (g : Segment Key) → segment_at e (good head payload) ≡ some g → KeyHeard e head payload g.key
  pub given : (e : Edition) (head payload : List ℕ) (g : Segment Key) → Octets payload → segment_at e (good head payload) ≡ some g → Headed g.key

-- ---- a segment of a good frame that ends at one of n places of the trunk, the run's, by that frame's own octets of this key
pub record Carried {M : Type 0} (e : Edition) (t : Trace Out M) (first n : ℕ) (k : Key) (g : Segment Key) : Type 0 where
  pub place : ℕ
  pub behind : first ≤ place
  pub within : place < first + n
  pub head : List ℕ
  pub payload : List ℕ
  pub ends : ended place t ≡ some (good head payload)
  pub carries : segment_at e (good head payload) ≡ some g
  pub heard : KeyHeard e head payload k

abbrev pub AllCarried : {M : Type 0} → Edition → Trace Out M → ℕ → ℕ → Key → List (Segment Key) → Type 0
AllCarried e t first n k [] = Unit {0}
AllCarried e t first n k (g ∷ gs) = Carried e t first n k g × AllCarried e t first n k gs

-- All segments that the history joins to one message, of whatever key, are of frames of the run whose own octets say all eight parts of that key, in the history that is heard
-- (CompletedAsReported) and in that of the recording (MessagesWhole); and an accepted segment agrees in all eight with the open slot that it is laid in.
pub record OneSlotOneKey : Type 0 where
  pub joined : (c : Collector) (run : Run) (reports : List (ℕ × List ℕ)) (k : Key)
      → AllCarried c.edition (read_from c.receiver (wire run)) (length (held_of c.receiver)) (length (wire run)) k (since keys k (heard_from c run reports))
  pub recorded : (c : Collector) (area : List ℕ) (all run : Run) (k : Key)
      → (let t = read_from c.receiver (wire all) in
      AllCarried c.edition t (length (held_of c.receiver)) (length (wire run)) k (since keys k (history keys (bacnet c.edition) t (length (held_of c.receiver)) (slots_of c) area run)))
  pub laid : (g : Segment Key) (b : Box Key) (i n : ℕ) → ((rebuild keys g b).answer ≡ taken i n) ⊎ ((rebuild keys g b).answer ≡ completed i n)
      → (slot_at keys b.slots i).used ≡ true → Agree (slot_at keys b.slots i).key g.key

-- ---- what the numbers' statements ask of a collector, four slots and addresses in their octets, every collector has whose fields fit their types, as what is loaded does
abbrev pub FitsFour : Type 0
FitsFour = (c : Collector) → Fits c → Four c

-- ---- The request's own case, worked: two devices behind one router, SNET 7 and SADR 0B and 0C, with one invoke ID, their segments mixed
abbrev pub first_of_0b : List ℕ
first_of_0b = 0x55 ∷ 0xFF ∷ 0x06 ∷ 0x21 ∷ 0x43 ∷ 0x00 ∷ 0x0D ∷ 0x4A ∷ 0x01 ∷ 0x08 ∷ 0x00 ∷ 0x07 ∷ 0x01 ∷ 0x0B ∷ 0x3C ∷ 0x57 ∷ 0x00 ∷ 0x04 ∷ 0x0E ∷ 0x62 ∷ 0xA1 ∷ 0x3F ∷ 0x55 ∷ []

abbrev pub first_of_0c : List ℕ
first_of_0c = 0x55 ∷ 0xFF ∷ 0x06 ∷ 0x21 ∷ 0x43 ∷ 0x00 ∷ 0x0D ∷ 0x4A ∷ 0x01 ∷ 0x08 ∷ 0x00 ∷ 0x07 ∷ 0x01 ∷ 0x0C ∷ 0x3C ∷ 0x57 ∷ 0x00 ∷ 0x04 ∷ 0x0E ∷ 0x62 ∷ 0xB1 ∷ 0xB0 ∷ 0xD9 ∷ []

abbrev pub last_of_0b : List ℕ
last_of_0b = 0x55 ∷ 0xFF ∷ 0x06 ∷ 0x21 ∷ 0x43 ∷ 0x00 ∷ 0x0C ∷ 0xB4 ∷ 0x01 ∷ 0x08 ∷ 0x00 ∷ 0x07 ∷ 0x01 ∷ 0x0B ∷ 0x38 ∷ 0x57 ∷ 0x01 ∷ 0x04 ∷ 0x0E ∷ 0xA2 ∷ 0x1A ∷ 0x87 ∷ []

abbrev pub last_of_0c : List ℕ
last_of_0c = 0x55 ∷ 0xFF ∷ 0x06 ∷ 0x21 ∷ 0x43 ∷ 0x00 ∷ 0x0C ∷ 0xB4 ∷ 0x01 ∷ 0x08 ∷ 0x00 ∷ 0x07 ∷ 0x01 ∷ 0x0C ∷ 0x38 ∷ 0x57 ∷ 0x01 ∷ 0x04 ∷ 0x0E ∷ 0xB2 ∷ 0x83 ∷ 0x50 ∷ []

-- a segment with MOR taken into a slot, n octets held; the message complete there, n octets
abbrev pub held_in : ℕ → ℕ → List ℕ
held_in slot n = 0x04 ∷ 0x00 ∷ 0x06 ∷ 0x21 ∷ 0x43 ∷ 0x3C ∷ 0x57 ∷ slot ∷ 0x00 ∷ 0x00 ∷ 0x00 ∷ n ∷ 0x0E ∷ 0x00 ∷ 0x00 ∷ 0x00 ∷ []

abbrev pub complete_in : ℕ → ℕ → List ℕ
complete_in slot n = 0x05 ∷ 0x00 ∷ 0x06 ∷ 0x21 ∷ 0x43 ∷ 0x38 ∷ 0x57 ∷ slot ∷ 0x00 ∷ 0x00 ∷ 0x00 ∷ n ∷ 0x0E ∷ 0x00 ∷ 0x00 ∷ 0x00 ∷ []

-- however it is offered: two slots, two messages, each with its own octets
abbrev pub RoutedWorked : Type 0
RoutedWorked = (d : Edition) (area : List ℕ) → length area ≡ 65536 → (e : End)
    → Called 0 (fresh_collector d) area (octs (first_of_0b ++ (first_of_0c ++ (last_of_0b ++ last_of_0c)))) e
    → (e.reports ≡ (22, held_in 0 2) ∷ (45, held_in 1 2) ∷ (67, complete_in 0 3) ∷ (89, complete_in 1 3) ∷ [])
    × (part 0 3 e.area ≡ 0x62 ∷ 0xA1 ∷ 0xA2 ∷ []) × (part 16384 3 e.area ≡ 0x62 ∷ 0xB1 ∷ 0xB2 ∷ [])
