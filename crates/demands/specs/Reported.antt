-- What is reported of every frame, and which segment a good one carries: the page's "Reports" and the key of "Rebuilding", over the readings of network header, APDU
-- header and tags that the other files of this page hold. A report is "One record of 16 octets, no header".
use Rattle.std.specs.Prelude.{ℕ, ◌*◌, ◌/◌, ◌%◌, ◌≡◌, ◌↔◌, ◌⊎◌, Bool, true, false, List, [], ◌∷◌, length, take, drop, Err}
use Rattle.std.proofs.Math.Option.{none, some}
use Rattle.octets.specs.Reading.{oct}
use Rattle.npdu.specs.Reading.{read_npdu}
use Rattle.npdu.specs.Exact as Network
use Rattle.npdu.specs.declared.Npdu.{Npdu}
use Rattle.apdu.specs.Reading as Header
use Rattle.apdu.specs.Reading.{read_apdu}
use Rattle.apdu.specs.declared.Edition.{Edition}
use Rattle.apdu.specs.declared.Segment.{Segment as Numbered}
use Rattle.apdu.specs.declared.RequestPdu.{RequestPdu}
use Rattle.apdu.specs.declared.ComplexAckPdu.{ComplexAckPdu}
use Rattle.apdu.specs.declared.Pdu.{Pdu}
use Rattle.apdu.specs.declared.Pdu.TheVariants.{Request, Unconfirmed, SimpleAck, ComplexAck, SegmentAck, Error, Reject, Abort}
use Rattle.items.specs.Reading.{Out as ItemsRead, items_of}
use Rattle.items.specs.Listing.{ReadAs}
use Rattle.frames.specs.Step.{feed_of, silence_of}
use Rattle.frames.specs.declared.Outcome.TheVariants.{Damage}
use Rattle.trunk.specs.Reading.Out.{good, damage}
use Rattle.trunk.specs.Demand.{out_of}
use Rattle.messages.specs.Slots.{Segment, Slot, boxed}
use Rattle.messages.specs.Rows.{Answer, rebuild}
use Rattle.messages.specs.Rows.Answer.{refused, taken, completed}
use Rattle.rebuild.specs.View.{keys}
use Rattle.rebuild.specs.declared.Key.{Key}
use Rattle.recordings.specs.Frames.{rules}
use Rattle.reports.specs.Layout.{report_octets}
use Rattle.reports.specs.declared.Report.{Report}
use Rattle.collector.specs.Frame.{segment_at, plain_at, answered_at, bacnet}
use Rattle.collector.specs.Calls.{slots_of, Feeds, Stills}
use Rattle.collector.specs.declared.Collector.{Collector}
use Rattle.collector.specs.Answers.{Fed}
use Rattle.collector.specs.Answers.{Fell}
use Rattle.demands.specs.Words.{Between, address_in}

-- ---- the 16 octets. "0: kind; 1: refusal number or 0; 2 to 4: frame type, destination, source; 5: first APDU octet; 6: invoke ID; 7: slot; 8 to 11: length,
-- high octet first; 12: service choice. All else .. is 0." The octets 2 to 4 are the first three of a frame's head h
abbrev pub sixteen : (kind number : ℕ) (h : List ℕ) (first invoke slot len choice : ℕ) → List ℕ
sixteen kind number h first invoke slot len choice =
    kind ∷ number ∷ oct h 0 ∷ oct h 1 ∷ oct h 2 ∷ first ∷ invoke ∷ slot
    ∷ len / 16777216 % 256 ∷ len / 65536 % 256 ∷ len / 256 % 256 ∷ len % 256 ∷ choice ∷ 0 ∷ 0 ∷ 0 ∷ []

-- they are the layout of a report with these fields
abbrev pub ReportLaid : Type 0
ReportLaid = (r : Report)
    → report_octets r
    ≡ sixteen r.kind r.number (r.frame.kind ∷ r.frame.destination ∷ r.frame.source ∷ []) r.apdu.first r.apdu.invoke r.slot r.length r.apdu.choice

-- ---- "Kind | Meaning | Filled", each over what it fills; "what the kind or PDU lacks, is 0"
-- 1 "frame of a type other than 5 and 6": "2-4, data length"
abbrev pub kind1 : List ℕ → ℕ → List ℕ
kind1 h len = sixteen 1 0 h 0 0 0 len 0

-- 2 "damage": "1"
abbrev pub kind2 : ℕ → List ℕ
kind2 n = sixteen 2 n [] 0 0 0 0 0

-- 3 "unsegmented APDU, its tags good": "2-6, 12, APDU length"
abbrev pub kind3 : List ℕ → (first invoke choice len : ℕ) → List ℕ
kind3 h first invoke choice len = sixteen 3 0 h first invoke 0 len choice

-- 4 "segment with MOR taken": "2-7, 12, octets held so far"
abbrev pub kind4 : List ℕ → (first invoke choice slot len : ℕ) → List ℕ
kind4 h first invoke choice slot len = sixteen 4 0 h first invoke slot len choice

-- 5 "message complete, its tags good": "2-7, 12, total"
abbrev pub kind5 : List ℕ → (first invoke choice slot len : ℕ) → List ℕ
kind5 h first invoke choice slot len = sixteen 5 0 h first invoke slot len choice

-- 6 "refused": "1-4"
abbrev pub kind6 : List ℕ → ℕ → List ℕ
kind6 h n = sixteen 6 n h 0 0 0 0 0

-- 7 "network layer message": "2-4, octets after the message type (and vendor)"
abbrev pub kind7 : List ℕ → ℕ → List ℕ
kind7 h len = sixteen 7 0 h 0 0 0 len 0

-- ---- what a PDU has of "invoke ID" and "service choice", 0 where it lacks it: an unconfirmed request has no invoke ID; a segment ack, a reject and an abort have
-- no choice
abbrev pub invoke_in : Pdu → ℕ
invoke_in (Request p) = p.invoke
invoke_in (Unconfirmed p) = 0
invoke_in (SimpleAck p) = p.invoke
invoke_in (ComplexAck p) = p.invoke
invoke_in (SegmentAck p) = p.invoke
invoke_in (Error p) = p.invoke
invoke_in (Reject p) = p.invoke
invoke_in (Abort p) = p.invoke

abbrev pub choice_in : Pdu → ℕ
choice_in (Request p) = p.choice
choice_in (Unconfirmed p) = p.choice
choice_in (SimpleAck p) = p.choice
choice_in (ComplexAck p) = p.choice
choice_in (SegmentAck p) = 0
choice_in (Error p) = p.choice
choice_in (Reject p) = 0
choice_in (Abort p) = 0

-- "0 confirmed request: bits 3 SEG", "3 complex ack: bits 3 SEG": no other PDU is a segment
abbrev pub seg_in : Pdu → Bool
seg_in (Request p) = p.segment.seg
seg_in (Unconfirmed p) = false
seg_in (SimpleAck p) = false
seg_in (ComplexAck p) = p.segment.seg
seg_in (SegmentAck p) = false
seg_in (Error p) = false
seg_in (Reject p) = false
seg_in (Abort p) = false

-- ---- what stands in a good frame, h its head (type, destination, source, length) and d its data
-- types 5 and 6 carry a network header, and "a type other than 5 and 6" does not
abbrev pub FiveOrSix : List ℕ → Type 0
FiveOrSix h = (oct h 0 ≡ 5) ⊎ (oct h 0 ≡ 6)

-- the octets o stand behind a good network header, a network layer message's or not; NetworkExact says when that is so
pub record Behind (h d : List ℕ) (message : Bool) (o : List ℕ) : Type 0 where
  pub type : FiveOrSix h
  pub head : Npdu
  pub read : Network.Reads d (record { head = head; rest = o })
  pub layer : head.message ≡ message

-- the frame's APDU is a: the PDU p, read by the edition e, and t its parameters; HeadersExact says when that is so
pub record Carries (e : Edition) (h d a : List ℕ) (p : Pdu) (t : List ℕ) : Type 0 where
  pub behind : Behind h d false a
  pub read : Header.Reads e a (record { pdu = p; parameters = t })

-- ---- a good frame that carries no segment: its report o. "Tags good" and tag numbers are those of ItemsCount and ItemRows
pub data PlainReport (e : Edition) (h d o : List ℕ) : Type 0 where
  -- 1: of another type
  other : (FiveOrSix h → ⊥) → o ≡ kind1 h (length d) → PlainReport e h d o
  -- 6 with the network header's number, 10 to 14
  npdu_refused : (x : ℕ) → FiveOrSix h → (read_npdu d).refused ≡ x → (x ≡ 0 → ⊥) → o ≡ kind6 h x → PlainReport e h d o
  -- 7: a network layer message, by the octets behind its header, message type and vendor with it
  network : (rest : List ℕ) → Behind h d true rest → o ≡ kind7 h (length rest) → PlainReport e h d o
  -- 6 with the APDU header's number, 20 to 24; with the tag number of its parameters, 30 to 39
  apdu_refused : (a : List ℕ) (x : ℕ) → Behind h d false a → read_apdu e a ≡ Err x → o ≡ kind6 h x → PlainReport e h d o
  tags_refused : (a : List ℕ) (p : Pdu) (t : List ℕ) (x : ℕ) → Carries e h d a p t → seg_in p ≡ false → items_of t ≡ ItemsRead.bad x → o ≡ kind6 h x → PlainReport e h d o
  -- 3: the whole APDU's length; PDUs without parameters have no tags to judge
  apdu : (a : List ℕ) (p : Pdu) (t : List ℕ) (n : ℕ) → Carries e h d a p t → seg_in p ≡ false → ReadAs t n
      → o ≡ kind3 h (oct a 0) (invoke_in p) (choice_in p) (length a) → PlainReport e h d o

-- exactly that is reported: it carries no segment and o is its report, just when the page's words give o
abbrev pub FrameReports : Type 0
FrameReports = (e : Edition) (h d o : List ℕ) → ((segment_at e (good h d) ≡ none) × (plain_at e (good h d) ≡ o)) ↔ PlainReport e h d o

-- ---- the segment that a good frame carries. "Key: MS/TP source, MS/TP destination, PDU type, invoke ID", and "SNET, SADR, DNET and DADR from the network header"
abbrev pub segment_of : List ℕ → Npdu → (type invoke : ℕ) → Numbered → ℕ → List ℕ → Segment Key
segment_of h n type invoke s choice t =
    record {
      key = record {
        source = oct h 2;
        destination = oct h 1;
        kind = type;
        invoke = invoke;
        from = address_in n.source n.snet n.slen n.sadr;
        to = address_in n.dest n.dnet n.dlen n.dadr;
      };
      number = s.number;
      mor = s.mor;
      choice = choice;
      octets = t;
    }

-- a confirmed request (type 0) or a complex ack (type 3) with SEG, in the APDU a, behind the network header that was read
pub data CarriesSegment (e : Edition) (h d a : List ℕ) (g : Segment Key) : Type 0 where
  request : (p : RequestPdu) (t : List ℕ) (c : Carries e h d a (Request p) t) → p.segment.seg ≡ true
      → g ≡ segment_of h c.behind.head 0 p.invoke p.segment p.choice t → CarriesSegment e h d a g
  complex_ack : (p : ComplexAckPdu) (t : List ℕ) (c : Carries e h d a (ComplexAck p) t) → p.segment.seg ≡ true
      → g ≡ segment_of h c.behind.head 3 p.invoke p.segment p.choice t → CarriesSegment e h d a g

-- g is the segment that it carries exactly when these words say so
abbrev pub SegmentIs : Type 0
SegmentIs = (e : Edition) (h d : List ℕ) (g : Segment Key) → (segment_at e (good h d) ≡ some g) ↔ ((a : List ℕ) × CarriesSegment e h d a g)

-- ---- its report o, from the answer w of rebuilding and the message area behind it; SegmentRows says which answer. "Slot s owns message area octets 16384 s .."
pub data SegmentReport (h a : List ℕ) (g : Segment Key) (w : Answer) (area o : List ℕ) : Type 0 where
  -- 6 with 50 to 54
  not_taken : (x : ℕ) → w ≡ refused x → o ≡ kind6 h x → SegmentReport h a g w area o
  -- 4 and 5: slot i, n octets; octet 5 is of the frame that caused the report
  held : (i n : ℕ) → w ≡ taken i n → o ≡ kind4 h (oct a 0) g.key.invoke g.choice i n → SegmentReport h a g w area o
  complete : (i n k : ℕ) → w ≡ completed i n → ReadAs (take n (drop (16384 * i) area)) k
      → o ≡ kind5 h (oct a 0) g.key.invoke g.choice i n → SegmentReport h a g w area o
  -- "A completed message with bad tags is kind 6 with its tag number"
  bad_tags : (i n x : ℕ) → w ≡ completed i n → items_of (take n (drop (16384 * i) area)) ≡ ItemsRead.bad x → o ≡ kind6 h x → SegmentReport h a g w area o

abbrev pub SegmentReported : Type 0
SegmentReported = (e : Edition) (h d a : List ℕ) (g : Segment Key) → CarriesSegment e h d a g → (w : Answer) (area o : List ℕ)
    → (answered_at e (good h d) w area ≡ o) ↔ SegmentReport h a g w area o

-- ---- octet 1, "refusal number or 0": of the network header, the APDU header, the tags, the segment
pub data NumberOf (n : ℕ) : Type 0 where
  not_refused : n ≡ 0 → NumberOf n
  of_npdu : Between 10 14 n → NumberOf n
  of_apdu : Between 20 24 n → NumberOf n
  of_tags : Between 30 39 n → NumberOf n
  of_segment : Between 50 54 n → NumberOf n

-- ---- every good frame, in an edition, over the slots s and the message area before it
pub data Reported (e : Edition) (h d : List ℕ) (s : List (Slot Key)) (area o : List ℕ) : Type 0 where
  plain : PlainReport e h d o → Reported e h d s area o
  segment : (a : List ℕ) (g : Segment Key) → CarriesSegment e h d a g
      → (let x = rebuild keys g (boxed s area) in SegmentReport h a g x.answer x.box.area o) → Reported e h d s area o

-- what the rules of ReadByPosition report of a good frame is o exactly when the page's words give o; of a damage it is kind 2 with its number
abbrev pub GoodFrameReported : Type 0
GoodFrameReported = (e : Edition) (h d : List ℕ) (s : List (Slot Key)) (area o : List ℕ) → (((rules keys (bacnet e)).act (good h d) s area).0 ≡ o) ↔ Reported e h d s area o

-- octet 1 of what they report of a good frame is 0 or a number of a network header, an APDU header, a tag or a segment. So 61, which listing answers for good tags
-- where it is lent no octets, is reported of no frame
abbrev pub ReportNumbers : Type 0
ReportNumbers = (e : Edition) (h d : List ℕ) (s : List (Slot Key)) (area : List ℕ) → NumberOf (oct ((rules keys (bacnet e)).act (good h d) s area).0 1)

abbrev pub DamageReported : Type 0
DamageReported = (e : Edition) (n : ℕ) (s : List (Slot Key)) (area : List ℕ) → ((rules keys (bacnet e)).act (damage n) s area).0 ≡ kind2 n

-- the same of the call that ends a frame, by its promise (hb_feed's by ExportedFeed): o is what it leaves in the report area exactly when the page's words give o
abbrev pub FeedReports : Type 0
FeedReports = (c : Collector) (piece report area : List ℕ) (r : Fed) (report' area' : List ℕ) → Feeds c report area piece r report' area' → r.refused ≡ 0
    → (let f = feed_of c.receiver piece in
    let x = out_of f.outcome f.receiver in
    ((h d : List ℕ) → x ≡ some (good h d) → (o : List ℕ) → (report' ≡ o) ↔ Reported c.edition h d (slots_of c) area o) × ((n : ℕ) → x ≡ some (damage n) → report' ≡ kind2 n))

-- and of a silence that ends in damage
abbrev pub SilenceReports : Type 0
SilenceReports = (c : Collector) (report : List ℕ) (r : Fell) (report' : List ℕ) → Stills c report r report' → r.refused ≡ 0 → (n : ℕ) → (silence_of c.receiver).outcome ≡ Damage n
    → (r.reported ≡ true) × (report' ≡ kind2 n)
