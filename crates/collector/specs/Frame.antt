-- What a good frame is, what is reported of it, and the segment that it carries.
use Rattle.std.specs.Prelude.{ℕ, Ok, Err, ◌-◌, ◌*◌, List, ltb, eqb, length, drop}
use Rattle.std.proofs.Math.Option.{Option, none, some}
use Rattle.octets.specs.Choice.{pick, given}
use Rattle.octets.specs.Reading.{oct, refuse}
use Rattle.npdu.specs.Reading.{read_npdu, Reading}
use Rattle.apdu.specs.Reading.{Answer, read_apdu}
use Rattle.apdu.specs.declared.Edition.{Edition}
use Rattle.items.specs.Reading.{Out, items_of}
use Rattle.items.specs.Reading.Out.{good, bad}
use Rattle.trunk.specs.Reading as Trunk
use Rattle.trunk.specs.Reading.Out.{good as whole, damage}
use Rattle.messages.specs.Slots as Messages
use Rattle.messages.specs.Slots.{room, part}
use Rattle.messages.specs.Rows as Rows
use Rattle.rebuild.specs.Calls.{Step, step_of}
use Rattle.rebuild.specs.Calls.Step.{Refused, Held, Complete}
use Rattle.rebuild.specs.declared.Key.{Key}
use Rattle.recordings.specs.Frames.{Frames}
use Rattle.reports.specs.Layout.{report_octets}
use Rattle.reports.specs.Kinds.{other_frame, damaged, unsegmented, segment_taken, complete, refusal, network_message}
use Rattle.reports.specs.declared.Report.{Report}
use Rattle.collector.specs.Heard.{heard_of, Route, route_of, parts_of}
use Rattle.collector.specs.declared.heard.Heard.{Heard}
use Rattle.collector.specs.declared.heard.Parts.{Parts}

-- what a frame's data are; behind a good network header, with its two addresses
pub data Content : Type 0 where
  other : ℕ → Content  -- of a type other than 5 and 6, and the octets of its data
  refuses : ℕ → Content  -- a network header that is refused: 10 to 14
  network : Route → ℕ → Content  -- a network layer message, and the octets after its type (and vendor)
  refuses_behind : Route → ℕ → Content  -- an APDU header that is refused: 20 to 24
  message : Route → Parts → List ℕ → Content  -- an APDU taken apart, and all its octets

abbrev pub apdu_content : Route → List ℕ → Answer → Content
apdu_content v a (Ok p) = message v (parts_of p (oct a 0)) a
apdu_content v a (Err n) = refuses_behind v n

-- what follows the network header, an APDU read by the edition
unfoldable pub npdu_content : Edition → List ℕ → Reading → Content
npdu_content e payload n =
    refuse (ltb 0 n.refused) (refuses n.refused)
    (given n.head.message (network (route_of n.head) (length payload - n.next))
    (apdu_content (route_of n.head) (drop n.next payload) (read_apdu e (drop n.next payload))))

unfoldable pub content_of : Heard → List ℕ → Content
content_of w payload =
    pick (eqb w.frame.kind 5) (npdu_content w.edition payload (read_npdu payload))
    (pick (eqb w.frame.kind 6) (npdu_content w.edition payload (read_npdu payload)) (other (length payload)))

-- the parameters of an APDU
abbrev pub params_of : Parts → List ℕ → List ℕ
params_of m a = drop m.params a

-- ---- the segment that a frame carries. "Key: MS/TP source, MS/TP destination, PDU type, invoke ID", and "SNET, SADR, DNET and DADR from the network
-- header"
abbrev pub key_of : Heard → Route → Parts → Key
key_of w v m =
    record { source = w.frame.source; destination = w.frame.destination; kind = m.kind; invoke = m.apdu.invoke; from = v.source; to = v.destination }

abbrev pub segment_from : Heard → Route → Parts → List ℕ → Messages.Segment Key
segment_from w v m a =
    record { key = key_of w v m; number = m.segment.number; mor = m.segment.mor; choice = m.apdu.choice; octets = params_of m a }

abbrev pub segment_in : Heard → Content → Option (Messages.Segment Key)
segment_in w (other n) = none
segment_in w (refuses n) = none
segment_in w (network v n) = none
segment_in w (refuses_behind v n) = none
segment_in w (message v m a) = given m.segment.seg (some (segment_from w v m a)) none

-- ---- the reports
-- "its tags good", or kind 6 with the tag number
abbrev pub by_tags : Out → Report → Report
by_tags (good rs end) fine = fine
by_tags (bad x) fine = refusal fine.frame x

-- a frame that carries no segment; PDUs without parameters have no tags to judge
abbrev pub plain_report : Heard → Content → Report
plain_report w (other n) = other_frame w.frame n
plain_report w (refuses n) = refusal w.frame n
plain_report w (network v n) = network_message w.frame n
plain_report w (refuses_behind v n) = refusal w.frame n
plain_report w (message v m a) = by_tags (items_of (params_of m a)) (unsegmented w.frame m.apdu (length a))

-- a segment, by its answer and the area after it: "A completed message with bad tags is kind 6 with its tag number"
abbrev pub step_report : Heard → Parts → Step → List ℕ → Report
step_report w m (Refused n) area = refusal w.frame n
step_report w m (Held i total) area = segment_taken w.frame m.apdu i total
step_report w m (Complete i total) area = by_tags (items_of (part (room * i) total area)) (complete w.frame m.apdu i total)

abbrev pub answered_report : Heard → Content → Rows.Answer → List ℕ → Report
answered_report w (message v m a) x area = step_report w m (step_of x) area
answered_report w (other n) x area = refusal w.frame 0
answered_report w (refuses n) x area = refusal w.frame 0
answered_report w (network v n) x area = refusal w.frame 0
answered_report w (refuses_behind v n) x area = refusal w.frame 0

-- ---- all of it as the rules that demand 3 is stated over: of a content, and of what ends on the trunk in an edition
abbrev pub contents : Heard → Frames Content Key (List ℕ)
contents w = record { segment_of = segment_in w; plain = λ x. report_octets (plain_report w x); answered = λ x y area. report_octets (answered_report w x y area) }

abbrev pub segment_at : Edition → Trunk.Out → Option (Messages.Segment Key)
segment_at e (whole head payload) = let w = heard_of e head in segment_in w (content_of w payload)
segment_at e (damage n) = none

abbrev pub plain_at : Edition → Trunk.Out → List ℕ
plain_at e (whole head payload) = let w = heard_of e head in report_octets (plain_report w (content_of w payload))
plain_at e (damage n) = report_octets (damaged n)

abbrev pub answered_at : Edition → Trunk.Out → Rows.Answer → List ℕ → List ℕ
answered_at e (whole head payload) x area = let w = heard_of e head in report_octets (answered_report w (content_of w payload) x area)
answered_at e (damage n) x area = report_octets (damaged n)

abbrev pub bacnet : Edition → Frames Trunk.Out Key (List ℕ)
bacnet e = record { segment_of = segment_at e; plain = plain_at e; answered = answered_at e }

-- the report of damage
abbrev pub damage_octets : ℕ → List ℕ
damage_octets n = report_octets (damaged n)
