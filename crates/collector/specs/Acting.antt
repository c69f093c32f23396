-- What a good frame's content does to slots and area, with its report: the promise of the functions that judge a frame.
use Rattle.std.specs.Prelude.{ℕ, ◌+◌, ◌*◌, ◌≤◌, ◌≡◌, Bool, true, false, List, Option, Some, None, eqb, length, drop}
use Rattle.octets.specs.Choice.{pick}
use Rattle.octets.specs.Reading.{oct}
use Rattle.apdu.specs.declared.Edition.{Edition}
use Rattle.messages.specs.Slots as Messages
use Rattle.messages.specs.Slots.{room}
use Rattle.messages.specs.Rows.{rebuild}
use Rattle.messages.specs.Sound.{passes}
use Rattle.rebuild.specs.View.{keys, view}
use Rattle.rebuild.specs.Calls.{Step, Taken, Gives}
use Rattle.rebuild.specs.Calls.Step.{Refused, Held, Complete}
use Rattle.rebuild.specs.declared.Key.{Key}
use Rattle.rebuild.specs.declared.Slots.{Slots}
use Rattle.recordings.specs.Frames.{act_on}
use Rattle.reports.specs.Layout.{report_size, report_octets}
use Rattle.collector.specs.Heard.{heard_of, Route}
use Rattle.collector.specs.Frame.{Content, segment_from, segment_in, plain_report, contents, content_of}
use Rattle.collector.specs.declared.heard.Heard.{Heard}
use Rattle.collector.specs.declared.heard.Parts.{Parts}
use Rattle.collector.specs.declared.heard.Told.{Told}

-- the report, the slots and the area after it
abbrev pub Acts : Type 0
Acts = List ℕ × List (Messages.Slot Key) × List ℕ

unfoldable pub acting : Heard → Content → List (Messages.Slot Key) → List ℕ → Acts
acting w x s area = act_on keys (contents w) (segment_in w x) x s area

-- what a function leaves: the slots t, the report, the area
pub record Acted (w : Acts) (t : Slots) (report area : List ℕ) : Type 0 where
  pub said : report ≡ w.0
  pub slots : view t ≡ w.1
  pub left : area ≡ w.2

-- what is said of an APDU that is no segment, whatever addresses its network header gives
abbrev pub SaidBehind : Heard → (Route → Content) → List ℕ → Type 0
SaidBehind w x report = (v : Route) → report ≡ report_octets (plain_report w (x v))

-- the same of a frame that changes neither slots nor area, whatever they and the edition are
abbrev pub ActedAlone : List ℕ → List ℕ → List ℕ → Type 0
ActedAlone head payload report = (e : Edition) (t : Slots) (area : List ℕ) → (let w = heard_of e head in Acted (acting w (content_of w payload) (view t) area) t report area)

-- a frame of type 5 or 6 carries a network header
abbrev pub carrying : ℕ → Bool
carrying kind = pick (eqb kind 5) true (eqb kind 6)

-- a good frame's head and data, and whether it carries one
pub record Carries (b : Bool) (head payload : List ℕ) : Type 0 where
  pub carries : carrying (oct head 0) ≡ b
  pub short : length payload ≤ 501

-- slots that have not moved are those that were there
abbrev pub Kept : Bool → Slots → Slots → Type 0
Kept moved t u = moved ≡ false → u ≡ t

-- what such a function is lent: both areas of their sizes, and slots that 59 passes
pub record Lent (report : List ℕ) (t : Slots) (area : List ℕ) : Type 0 where
  pub line : length report ≡ report_size
  pub fair : passes keys 4 (view t) ≡ true
  pub sized : length area ≡ 65536

-- what rebuilding alone is lent
pub record Seated (t : Slots) (area : List ℕ) : Type 0 where
  pub fair : passes keys 4 (view t) ≡ true
  pub sized : length area ≡ 65536

-- an APDU that is a segment, its parameters within its octets
pub record Segmented (m : Parts) (a : List ℕ) : Type 0 where
  pub seg : m.segment.seg ≡ true
  pub within : m.params ≤ length a

-- ---- what hearing leaves of a frame of type 5 or 6, x being its content
-- a segment that was heard: nothing is written, and the content is that segment's, its APDU the data from a place on
pub record Heeds (x : Content) (payload report : List ℕ) (r : Told) (report' : List ℕ) : Type 0 where
  pub unwritten : report' ≡ report
  pub inside : r.at ≤ length payload
  pub content : x ≡ Content.message r.route r.parts (drop r.at payload)
  pub segmented : Segmented r.parts (drop r.at payload)

-- it is reported, whatever slots and message area are, and changes neither; or it is a segment
pub record HearsAs (w : Heard) (x : Content) (payload report : List ℕ) (r : Option Told) (report' : List ℕ) : Type 0 where
  pub whole : r ≡ None → (t : Slots) (area : List ℕ) → Acted (acting w x (view t) area) t report' area
  pub part : (s : Told) → r ≡ Some s → Heeds x payload report s report'

-- a good frame, by its data
abbrev pub Hears : Heard → List ℕ → List ℕ → Option Told → List ℕ → Type 0
Hears w payload report r report' = HearsAs w (content_of w payload) payload report r report'

-- an APDU with the octets a, at a place of whatever data
abbrev pub HearsBehind : Heard → Content → ℕ → List ℕ → List ℕ → Option Told → List ℕ → Type 0
HearsBehind w x at a report r report' = (payload : List ℕ) → at ≤ length payload → drop at payload ≡ a → HearsAs w x payload report r report'

-- a completed message lies in the area
abbrev pub Named : Step → List ℕ → Type 0
Named (Refused n) area = Unit {0}
Named (Held i total) area = Unit {0}
Named (Complete i total) area = room * i + total ≤ length area

-- a segment taken, its report still to come: what rebuilding gives of the segment that the frame carries; and a completed message lies in the area
pub record Takes (w : Heard) (v : Route) (m : Parts) (a : List ℕ) (t : Slots) (area : List ℕ) (r : Taken) (area' : List ℕ) : Type 0 where
  pub named : Named r.answer area'
  pub gives : Gives (rebuild keys (segment_from w v m a) (Messages.boxed (view t) area)) r area'
