-- The two editions of the APDU headers, 1995 (`First`) and the later one: what they differ in, which one a number says, that every call leaves the edition of
-- the state that it was given, and headers, fields and a recording worked under both. Each statement is proved in proofs/Editions, under its name in small letters.
use Rattle.std.specs.Prelude.{ℕ, ◌+◌, ◌*◌, ◌<◌, ◌≡◌, ◌⊎◌, true, false, List, [], ◌∷◌, length}
use Rattle.octets.specs.Reading.{oct}
use Rattle.runs.specs.Run.{Run, octs}
use Rattle.apdu.specs.declared.Edition.{Edition}
use Rattle.apdu.specs.declared.Edition.TheVariants.{First, Later}
use Rattle.apdu.specs.declared.Segment.{Segment}
use Rattle.apdu.specs.declared.Pdu.{Pdu}
use Rattle.apdu.specs.declared.Pdu.TheVariants.{Request}
use Rattle.apdu.specs.Layout.{segment, header}
use Rattle.apdu.specs.Fault.{fault_of}
use Rattle.apdu.specs.EditionsCompared.{ReadingsCompared, FaultsCompared, UpperBits}
use Rattle.collector.specs.Calls.{fresh_collector, Feeds, Stills, Forgets}
use Rattle.collector.specs.Offering.{End, Called}
use Rattle.collector.specs.declared.Collector.{Collector}
use Rattle.collector.specs.Answers.{Fed}
use Rattle.collector.specs.Answers.{Fell}
use Rattle.collector.specs.Answers.{Forgot}
use Rattle.playback.specs.Calls.{Plays}
use Rattle.playback.specs.Answers.{Played}
use Rattle.state.specs.Edition.{edition_of}
use Rattle.state.specs.Calls.{Loads}
use Rattle.hitchbarley.specs.Trunk as Trunk
use Rattle.hitchbarley.specs.Replay.{Replays}
use Rattle.hitchbarley.specs.Offering.{Heard, Linked}
use Rattle.demands.specs.HeaderRows.{Reads, Refuses, unsegmented}

-- "Under the 1995 edition refusal 22 for those bits remains": what 1995 accepts, the later edition accepts as the same PDU with code 0; what the later edition
-- accepts, 1995 accepts alike where the code is 0 and refuses with 22 where it is not; refusals and the writer's numbers likewise; and the upper four bits are above
-- an edition's greatest code exactly where one of its zero bits is set. So the editions differ in bits 6 to 4 of a request's second octet and nowhere else
abbrev pub EditionsCompared : Type 0
EditionsCompared = ReadingsCompared × FaultsCompared × UpperBits

-- the edition that an argument `later` says: 0 is 1995, any other number the later one ("any octet but 0 is set")
abbrev pub EditionSaid : Type 0
EditionSaid = (edition_of 0 ≡ First) × ((x : ℕ) → 0 < x → edition_of x ≡ Later)

-- the edition that a state area says, at 510: 0 or 1; above 1 the octets are no state's
abbrev pub EditionOctet : Type 0
EditionOctet = (state : List ℕ) (c : Collector) → Loads state c → ((oct state 510 ≡ 0) × (c.edition ≡ First)) ⊎ ((oct state 510 ≡ 1) × (c.edition ≡ Later))

-- "The edition is chosen at start and is part of the state": no call changes it, refused or not
pub record EditionKept : Type 0 where
  pub feed : (c : Collector) (piece report area : List ℕ) (r : Fed) (report' area' : List ℕ) → Feeds c report area piece r report' area' → r.state.edition ≡ c.edition
  pub silence : (c : Collector) (report : List ℕ) (r : Fell) (report' : List ℕ) → Stills c report r report' → r.state.edition ≡ c.edition
  pub forget : (c : Collector) (s : ℕ) (r : Forgot) → Forgets c s r → r.state.edition ≡ c.edition
  pub replay : (c : Collector) (records report area : List ℕ) (r : Played) (report' area' : List ℕ) → Plays c report area records r report' area' → r.state.edition ≡ c.edition
  -- over octets: the octet at 510 of the state area is the one that was there, whatever the area holds
  pub hb_feed : (state piece report area : List ℕ) (r eaten reported : ℕ) (state' report' area' : List ℕ)
      → Trunk.Feeds state report area piece r eaten reported state' report' area' → oct state' 510 ≡ oct state 510
  pub hb_silence : (state report : List ℕ) (r reported : ℕ) (state' report' : List ℕ) → Trunk.Stills state report r reported state' report' → oct state' 510 ≡ oct state 510
  pub hb_forget : (state : List ℕ) (s r : ℕ) (state' : List ℕ) → Trunk.Forgets state s r state' → oct state' 510 ≡ oct state 510
  pub hb_replay : (state records report area : List ℕ) (r eaten reported : ℕ) (state' report' area' : List ℕ)
      → Replays state report area records r eaten reported state' report' area' → oct state' 510 ≡ oct state 510
  -- and so behind a whole run, however it is offered by these calls
  pub linked : (p : ℕ) (state area : List ℕ) (run : Run) (h : Heard) → Linked p state area run h → oct h.state 510 ≡ oct state 510

-- ---- worked: a request with this code of the segments accepted and this size code, invoke ID 1, choice 12
abbrev pub request_by : Segment → ℕ → ℕ → Pdu
request_by g code size = Request (record { segment = g; sa = false; size = size; invoke = 1; choice = 12; accepts = code })

abbrev pub coded : ℕ → ℕ → Pdu
coded code size = request_by unsegmented code size

pub record EditionsWorked : Type 0 where
  -- read, 1995 first: 00 15 01 0C; 00 75 01 0C
  pub one : Refuses First (0 ∷ 0x15 ∷ 1 ∷ 12 ∷ []) 22 × Reads Later (0 ∷ 0x15 ∷ 1 ∷ 12 ∷ []) (coded 1 5)
  pub seven : Refuses First (0 ∷ 0x75 ∷ 1 ∷ 12 ∷ []) 22 × Reads Later (0 ∷ 0x75 ∷ 1 ∷ 12 ∷ []) (coded 7 5)
  -- the codes between, by the later edition: 00 25 01 0C to 00 65 01 0C
  pub between : Reads Later (0 ∷ 0x25 ∷ 1 ∷ 12 ∷ []) (coded 2 5) × Reads Later (0 ∷ 0x35 ∷ 1 ∷ 12 ∷ []) (coded 3 5) × Reads Later (0 ∷ 0x45 ∷ 1 ∷ 12 ∷ []) (coded 4 5)
      × Reads Later (0 ∷ 0x55 ∷ 1 ∷ 12 ∷ []) (coded 5 5) × Reads Later (0 ∷ 0x65 ∷ 1 ∷ 12 ∷ []) (coded 6 5)
  -- bit 7: 00 85; 00 F5
  pub bit_seven : Refuses First (0 ∷ 0x85 ∷ []) 22 × Refuses Later (0 ∷ 0x85 ∷ []) 22 × Refuses First (0 ∷ 0xF5 ∷ []) 22 × Refuses Later (0 ∷ 0xF5 ∷ []) 22
  -- 22 before 23, and what comes behind a good code: size code 6 (00 16), the end (00 10), window 0 (08 10 11 05 00)
  pub behind : Refuses First (0 ∷ 0x16 ∷ []) 22 × Refuses Later (0 ∷ 0x16 ∷ []) 23 × Refuses First (0 ∷ 0x10 ∷ []) 22 × Refuses Later (0 ∷ 0x10 ∷ []) 20
      × Refuses First (8 ∷ 0x10 ∷ 17 ∷ 5 ∷ 0 ∷ []) 22 × Refuses Later (8 ∷ 0x10 ∷ 17 ∷ 5 ∷ 0 ∷ []) 23
  -- laid: the code above the size code, in one octet
  pub laid : (code size : ℕ) → header (coded code size) ≡ 0 ∷ (code * 16 + size) ∷ 1 ∷ 12 ∷ []
  -- written, 1995 first: codes 0, 7, 8 and 255 with size code 5
  pub zero_written : (fault_of First (coded 0 5) ≡ 0) × (fault_of Later (coded 0 5) ≡ 0) × (header (coded 0 5) ≡ 0 ∷ 0x05 ∷ 1 ∷ 12 ∷ [])
  pub seven_written : (fault_of First (coded 7 5) ≡ 22) × (fault_of Later (coded 7 5) ≡ 0) × (header (coded 7 5) ≡ 0 ∷ 0x75 ∷ 1 ∷ 12 ∷ [])
  pub above : (fault_of First (coded 8 5) ≡ 22) × (fault_of Later (coded 8 5) ≡ 22) × (fault_of First (coded 255 5) ≡ 22) × (fault_of Later (coded 255 5) ≡ 22)
  -- MOR without SEG together with a bad code; a code that is bad in 1995, and one that is bad in both, together with size code 6
  pub lone_more : (fault_of First (request_by (segment false true 0 0) 8 5) ≡ 22) × (fault_of Later (request_by (segment false true 0 0) 8 5) ≡ 22)
  pub two_codes : (fault_of First (coded 7 6) ≡ 22) × (fault_of Later (coded 7 6) ≡ 23) × (fault_of First (coded 8 6) ≡ 22) × (fault_of Later (coded 8 6) ≡ 22)

-- one recording under both editions: a request of 11 octets with code 1, in a frame from 37 to 26. 1995 reports it as refused, 22; the later edition as an unsegmented
-- APDU. The end names the edition
abbrev pub coded_frame : List ℕ
coded_frame =
    0x55 ∷ 0xFF ∷ 0x05 ∷ 0x26 ∷ 0x37 ∷ 0x00 ∷ 0x0D ∷ 0xDB ∷ 0x01 ∷ 0x04 ∷ 0x02 ∷ 0x15 ∷ 0x5B ∷ 0x0C ∷ 0x0C ∷ 0x00 ∷ 0x80 ∷ 0x00 ∷ 0x07 ∷ 0x19 ∷ 0x55 ∷ 0xC8 ∷ 0x51 ∷ []

abbrev pub coded_report : Edition → List ℕ
coded_report First = 0x06 ∷ 0x16 ∷ 0x05 ∷ 0x26 ∷ 0x37 ∷ 0x00 ∷ 0x00 ∷ 0x00 ∷ 0x00 ∷ 0x00 ∷ 0x00 ∷ 0x00 ∷ 0x00 ∷ 0x00 ∷ 0x00 ∷ 0x00 ∷ []
coded_report Later = 0x03 ∷ 0x00 ∷ 0x05 ∷ 0x26 ∷ 0x37 ∷ 0x02 ∷ 0x5B ∷ 0x00 ∷ 0x00 ∷ 0x00 ∷ 0x00 ∷ 0x0B ∷ 0x0C ∷ 0x00 ∷ 0x00 ∷ 0x00 ∷ []

abbrev pub EditionsReported : Type 0
EditionsReported = (d : Edition) (area : List ℕ) → length area ≡ 65536 → (e : End) → Called 0 (fresh_collector d) area (octs coded_frame) e
    → (e.reports ≡ (22, coded_report d) ∷ []) × (e.state.0 ≡ d)
