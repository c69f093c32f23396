-- Demand 2: accepted exactly when, and both round trips.
use Prim.Native.Nat.{ℕ, ◌≤◌}
use native.Mathlib.Omega.{arith}
use mathlib.Core.Path.{◌≡◌, refl, sym, ap, ◌∙◌}
use mathlib.Core.Bool.{Bool, true, false}
use mathlib.Core.List.{List, ◌++◌}
use lib.ListN.{length, take, drop, length-append, length-drop}
use lib.Seq.{take_at}
use Rattle.std.specs.Prelude.{Ok}
use Rattle.octets.specs.Choice.{pick, by_test}
use Rattle.octets.specs.Laid.{Laid, laid_as}
use Rattle.octets.specs.Laid.{Written}
use Rattle.sums.proofs.Good.{header_exact, data_exact}
use Rattle.trunk.specs.Reading.Out.{good}
use Rattle.trunk.proofs.Laws.{outcomes_from}
use Rattle.npdu.specs.Layout as Network
use Rattle.npdu.specs.Reading.{read_npdu}
use Rattle.npdu.proofs.Exact.{npdu_exactly}
use Rattle.npdu.proofs.Outcome.{next_within}
use Rattle.npdu.proofs.Trips as NetworkWritten
use Rattle.apdu.proofs.Exact.{exact}
use Rattle.apdu_writer.proofs.Trips.{write_read, read_write}
use Rattle.tags.proofs.Exact.{head_sound, head_complete}
use Rattle.tags.specs.Layout.{Thing}
use Rattle.items.specs.Grammar.{encode_all}
use Rattle.items.proofs.Exact as Items
use Rattle.item_writer.proofs.Trips as Trips
use Rattle.services.specs.Layout.{optional, pointed, things_of_message}
use Rattle.services.specs.Shows.{pointed_of, message_of, Shows, ValidFor}
use Rattle.services.specs.declared.Service.{Service}
use Rattle.services.specs.declared.Service.TheVariants.{ReadProperty, ReadPropertyAck, WriteProperty, WhoIs, IAm, Error}
use Rattle.services.specs.declared.Target.{Target}
use Rattle.services.proofs.Exact as Services
use Rattle.service_writer.specs.Layout.{kind_of, choice_of, ranked, octets_of}
use Rattle.service_writer.specs.Fault.{wide_target, too_wide, fault_of}
use Rattle.service_writer.proofs.Trips as ServiceTrips
use Rattle.demands.specs.Words.{shown_target, shown_service}
use Rattle.demands.specs.Demands.{HeaderCheckExact, DataCheckExact, FramesExact, NetworkExact, NetworkWritesBack, NetworkReadsBack, HeadersExact, HeadersWriteBack, HeadersReadBack, TagsExact, ItemsExact, ItemsWriteBack, ItemsReadBack, ServicesExact, ServicesWriteBack, ServicesAreWritten}
use Rattle.demands.proofs.One.{writers_refuse}

-- ---- frames
pub header_check_exact : HeaderCheckExact
header_check_exact = header_exact

pub data_check_exact : DataCheckExact
data_check_exact = data_exact

pub frames_exact : FramesExact
frames_exact r so es bs q h d = outcomes_from r so es bs q (good h d)

-- a writer without a fault lays its octets, by whatever name
laid_back : (f : ℕ) (o p area later : List ℕ) (r : Written) → f ≡ 0 → o ≡ p → length p ≤ length area → Laid f o area r later → (r ≡ Ok (length p)) × (later ≡ p ++ drop (length p) area)
laid_back f o p area later r e d h l = (writers_refuse f p area later r (laid_as refl d l)).fine e h

-- ---- the network header
pub network_exact : NetworkExact
network_exact = npdu_exactly

pub network_writes_back : NetworkWritesBack
network_writes_back s area later r os a h l =
    let k = (read_npdu s).next in
    let v = npdu_exactly.sound s (record { head = (read_npdu s).head; rest = drop k s }) os (record { accepted = a; header = refl; left = refl }) in
    let o = Network.encode (read_npdu s).head in
    let e : s ≡ o ++ drop k s = v.1 in
    let w : k ≤ length s = next_within s in
    let n : length s ≡ length (o ++ drop k s) = ap length e in
    let m : length o ≡ k = let q = rw (length-append, length-drop) at n in omega arith in
    let t : take k s ≡ o = ap (take k) e ∙ take_at o (drop k s) k m in
    let b = laid_back _ o (take k s) area later r (NetworkWritten.ruled_fine (read_npdu s).head v.0.ruled) (sym t) (rw (t, m) h) l in
    let len : length (take k s) ≡ k = ap length t ∙ m in
    rw len at b

pub network_reads_back : NetworkReadsBack
network_reads_back = NetworkWritten.written_reads

-- ---- the APDU headers
pub headers_exact : HeadersExact
headers_exact = exact

pub headers_write_back : HeadersWriteBack
headers_write_back = read_write

pub headers_read_back : HeadersReadBack
headers_read_back = write_read

-- ---- tags and items
pub tags_exact : TagsExact
tags_exact s os at = (head_sound s os at, λ t v h. head_complete s at t v h)

pub items_exact : ItemsExact
items_exact = Items.exact

pub items_write_back : ItemsWriteBack
items_write_back o lent listed area later n r os w h l = let b = Trips.listed_writes o lent listed n os w in laid_back _ _ o area later r b.0 b.1 h l

pub items_read_back : ItemsReadBack
items_read_back = Trips.written_reads

-- ---- the services
pub services_exact : ServicesExact
services_exact kind choice = Services.exactly kind choice

pub services_write_back : ServicesWriteBack
services_write_back kind choice o area later v r os e h l = let b = ServiceTrips.writes_back kind choice o os v e in laid_back _ _ o area later r b.fine b.octets h l

-- an absent part is not looked at
pub optional_shown : (here : Bool) (n x : ℕ) → optional here n (pick here x 0) ≡ optional here n x
optional_shown true n x = refl
optional_shown false n x = refl

pub pointed_shown : (t : Target) → pointed (pointed_of (shown_target t)) ≡ pointed (pointed_of t)
unfolding pointed
pointed_shown t = rw (optional_shown t.indexed 2 t.index)

octets_shown : (v : Service) (value : List ℕ) → octets_of (shown_service v) value ≡ octets_of v value
unfolding octets_of ranked message_of things_of_message
octets_shown (ReadProperty t) value = ap encode_all (pointed_shown t)
octets_shown (ReadPropertyAck a) value = rw (pointed_shown a.target)
octets_shown (WriteProperty w) value = rw (pointed_shown w.target, optional_shown w.ranked 4 w.priority)
octets_shown (WhoIs w) value = by_test w.limited (λ e. rw e) (λ e. rw e)
octets_shown (IAm i) value = refl
octets_shown (Error f) value = refl

pub record SameFor (v : Service) : Type 0 where
  pub kind : kind_of (shown_service v) ≡ kind_of v
  pub choice : choice_of (shown_service v) ≡ choice_of v
  pub wide : too_wide (shown_service v) ≡ too_wide v

same_for : (v : Service) → SameFor v
unfolding too_wide wide_target
same_for (ReadProperty t) = record { kind = refl; choice = refl; wide = refl }
same_for (ReadPropertyAck a) = record { kind = refl; choice = refl; wide = refl }
same_for (WriteProperty w) = record { kind = refl; choice = refl; wide = refl }
same_for (WhoIs w) = record { kind = refl; choice = refl; wide = refl }
same_for (IAm i) = record { kind = refl; choice = refl; wide = refl }
same_for (Error f) = record { kind = refl; choice = refl; wide = refl }

fault_shown : (v : Service) (value : List ℕ) → fault_of (shown_service v) value ≡ fault_of v value
unfolding fault_of
fault_shown v value = let s = same_for v in rw (s.kind, s.choice, s.wide, octets_shown v value)

pub shows_shown : (v : Service) (ts : List Thing) → ValidFor (kind_of v) (choice_of v) (message_of (shown_service v) ts)
    → Shows (kind_of v) (choice_of v) (octets_of v (encode_all ts)) (message_of (shown_service v) ts)
shows_shown v ts ok =
    let s = same_for v in
    rw (s.kind, s.choice, octets_shown v (encode_all ts)) at (ServiceTrips.reads_back (shown_service v) ts (rw (s.kind, s.choice) ok)).shows

pub services_are_written : ServicesAreWritten
services_are_written v ts area later r ok h l =
    let s = same_for v in
    let value = encode_all ts in
    let b = ServiceTrips.reads_back (shown_service v) ts (rw (s.kind, s.choice) ok) in
    let o = octets_of v value in
    let w = laid_back _ o o area later r (sym (fault_shown v value) ∙ b.fine) refl h l in
    let t : take (length o) later ≡ o = ap (take (length o)) w.1 ∙ take_at o (drop (length o) area) (length o) refl in
    (length o, w.0, rw t (shows_shown v ts ok))
