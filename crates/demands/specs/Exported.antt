-- The calls that C and Rust link, as their users read them: each number exactly when, what a refusal leaves, and what is done otherwise, by the statements of
-- the calls below.
use Rattle.std.specs.Prelude.{ℕ, ◌≤◌, ◌<◌, ◌≡◌, ◌↔◌, ◌⊎◌, true, false, List, ◌++◌, eqb, leb, length, take, drop, Err, Ok}
use Rattle.octets.specs.Choice.{pick}
use Rattle.octets.specs.Reading.{Octets, oct}
use Rattle.sums.specs.Sums.{header_run, header_check, data_run, data_sent}
use Rattle.frames.specs.Layout.{frame_octets}
use Rattle.frame_writer.specs.Fault as FrameFault
use Rattle.npdu.specs.Reading.{read_npdu}
use Rattle.npdu.specs.Layout as Network
use Rattle.npdu.specs.Fault as NetworkFault
use Rattle.apdu.specs.Reading.{read_apdu}
use Rattle.apdu.specs.Fields.{params_at}
use Rattle.apdu.specs.Layout as Header
use Rattle.apdu.specs.Fault as HeaderFault
use Rattle.apdu.specs.declared.Edition.{Edition}
use Rattle.apdu.specs.declared.Pdu.{Pdu}
use Rattle.items.specs.Grammar as Items
use Rattle.items.specs.Reading.{one_at, end_of}
use Rattle.items.specs.Records.{rec, record_octets, things_of}
use Rattle.items.specs.Listing.{Listed}
use Rattle.items.specs.Answers.{Tally}
use Rattle.items.specs.Answers as OneItem
use Rattle.item_judge.specs.Judge.{write_fault, records_in}
use Rattle.reader.specs.Reading.{step_of}
use Rattle.reader.specs.Answers.{Step}
use Rattle.services.specs.Reading.{read_service}
use Rattle.services.specs.declared.Service.{Service}
use Rattle.service_writer.specs.Layout as ServiceWriter
use Rattle.service_writer.specs.Fault as ServiceFault
use Rattle.messages.specs.Slots.{slot_at}
use Rattle.rebuild.specs.View.{keys}
use Rattle.reports.specs.Layout.{report_size}
use Rattle.collector.specs.Calls.{slots_of, fresh_collector, Feeds, Stills, Forgets}
use Rattle.collector.specs.declared.Collector.{Collector}
use Rattle.collector.specs.Answers.{Fed}
use Rattle.collector.specs.Answers.{Fell}
use Rattle.collector.specs.Answers.{Forgot}
use Rattle.records.specs.Flag.{flag}
use Rattle.records.specs.Network.{npdu_size, npdu_record, npdu_at}
use Rattle.records.specs.Application.{apdu_size, apdu_record, apdu_at}
use Rattle.records.specs.Service.{service_size, service_record, service_at}
use Rattle.state.specs.Edition.{edition_of}
use Rattle.state.specs.Layout.{state_size, state_octets}
use Rattle.state.specs.Calls.{Loads, Saves}
use Rattle.hitchbarley.specs.Trunk as Trunk
use Rattle.hitchbarley.specs.Replay.{Replays}
use Rattle.hitchbarley.specs.Answers.{Writes, Fills, FillsTo}
use Rattle.hitchbarley.specs.Headers.{apdu_good, apdu_number, apdu_octets, apdu_params, npdu_fault, apdu_fault}
use Rattle.hitchbarley.specs.Items.{Lists, Steps, step_good, step_number, step_record, step_place}
use Rattle.hitchbarley.specs.Services.{service_good, service_number, service_octets, service_fault}
use Rattle.hitchbarley.specs.Writers.{way_at, Cuts}
use Rattle.demands.specs.Words.{One, SixtyThenFiftyNine, Broken, ListNumbered, AcceptedBack, WholeBack}

-- ---- the calls of one trunk, over a state area
-- the area's octets are a state's, of which P holds
abbrev pub Holding : List ℕ → (Collector → Type 0) → Type 0
Holding state P = (c : Collector) × Loads state c × P c

-- 59: octets that are no state's, or a state that 59 names
abbrev pub BadState : List ℕ → Type 0
BadState state = ((c : Collector) → Loads state c → ⊥) ⊎ Holding state Broken

-- a call with number r. Sized: each lent area has its own size. Same: no area has changed, and what is given back is 0. Done: what is done otherwise
pub record TrunkCall (state : List ℕ) (r : ℕ) (Sized Same Done : Type 0) : Type 0 where
  pub numbers : SixtyThenFiftyNine r Sized (BadState state)
  pub refused : (r ≡ 0 → ⊥) → Same
  pub done : r ≡ 0 → Done

-- what is done: the collector's call of the state that the area holds, with an answer x for which Does holds. It leaves the state `later x`, and the area
-- is then the octets of that state
pub record Carried (A : Type 0) (later : A → Collector) (Does : Collector → A → Type 0) (state state' : List ℕ) : Type 0 where
  pub held : Collector
  pub loads : Loads state held
  pub answer : A
  pub does : Does held answer
  pub octets : state' ≡ state_octets (later answer)
  pub again : Loads state' (later answer)

-- hb_fresh: 60 exactly for an area of another size, which stays; else 0, and the octets of the fresh state of the edition that `later` says (specs/Editions:
-- EditionSaid)
abbrev pub ExportedFresh : Type 0
ExportedFresh = (state : List ℕ) (later r : ℕ) (state' : List ℕ) → Saves (fresh_collector (edition_of later)) state r state'
    → ((r ≡ 60) ↔ (length state ≡ state_size → ⊥))
    × ((r ≡ 0) ↔ (length state ≡ state_size))
    × ((r ≡ 0 → ⊥) → state' ≡ state)
    × (r ≡ 0 → (state' ≡ state_octets (fresh_collector (edition_of later))) × Loads state' (fresh_collector (edition_of later)))

-- hb_feed: "60: report area not 16 octets or message area not 65,536; eaten 0", the state area's size with them; what it does is what FeedDoes says of the
-- collector's call
abbrev pub ExportedFeed : Type 0
ExportedFeed = (state piece report area : List ℕ) (r eaten reported : ℕ) (state' report' area' : List ℕ) → Octets state
    → Trunk.Feeds state report area piece r eaten reported state' report' area'
    → TrunkCall state r ((length state ≡ state_size) × (length report ≡ report_size) × (length area ≡ 65536))
    ((eaten ≡ 0) × (reported ≡ 0) × (state' ≡ state) × (report' ≡ report) × (area' ≡ area))
    (Carried Fed (λ f. f.state)
    (λ c f. (f.refused ≡ 0) × (eaten ≡ f.eaten) × (reported ≡ flag f.reported) × Feeds c report area piece f report' area') state state')

-- hb_silence: the same without a message area; SilenceDoes
abbrev pub ExportedSilence : Type 0
ExportedSilence = (state report : List ℕ) (r reported : ℕ) (state' report' : List ℕ) → Octets state → Trunk.Stills state report r reported state' report'
    → TrunkCall state r ((length state ≡ state_size) × (length report ≡ report_size))
    ((reported ≡ 0) × (state' ≡ state) × (report' ≡ report))
    (Carried Fell (λ f. f.state) (λ c f. (f.refused ≡ 0) × (reported ≡ flag f.reported) × Stills c report f report') state state')

-- hb_forget: "Forgetting frees a slot, answers 0, 59 or 56": 60 first, of the state area; 56 for "a slot not open or above 3"; ForgetDoes
pub record ForgetCall (state : List ℕ) (s r : ℕ) (state' : List ℕ) : Type 0 where
  pub sixty : (r ≡ 60) ↔ (length state ≡ state_size → ⊥)
  pub fifty_nine : (r ≡ 59) ↔ ((length state ≡ state_size) × BadState state)
  pub fifty_six : (r ≡ 56) ↔ Holding state (λ c. (Broken c → ⊥) × (((slot_at keys (slots_of c) s).used ≡ false) ⊎ (3 < s)))
  pub none : (r ≡ 0) ↔ Holding state (λ c. (Broken c → ⊥) × ((slot_at keys (slots_of c) s).used ≡ true))
  pub refused : (r ≡ 0 → ⊥) → state' ≡ state
  pub done : r ≡ 0 → Carried Forgot (λ f. f.state) (λ c f. (f.number ≡ 0) × Forgets c s f) state state'

abbrev pub ExportedForget : Type 0
ExportedForget = (state : List ℕ) (s r : ℕ) (state' : List ℕ) → Octets state → Trunk.Forgets state s r state' → ForgetCall state s r state'

-- ---- readers into a record area of its size: 60 exactly for another size; a refusal leaves what Kept says; Below is the rest, by the answer of the call below
pub record ReadsInto (size : ℕ) (area : List ℕ) (r : ℕ) (Kept Below : Type 0) : Type 0 where
  pub sixty : (r ≡ 60) ↔ (length area ≡ size → ⊥)
  pub refused : (r ≡ 0 → ⊥) → Kept
  pub below : length area ≡ size → Below

-- the network header's number, which is 0 where it was read
abbrev pub ExportedNpduRead : Type 0
ExportedNpduRead = (s fields : List ℕ) (r next : ℕ) (fields' : List ℕ)
    → (let h = read_npdu s in
    FillsTo npdu_size (eqb h.refused 0) h.refused (npdu_record h.head) h.next fields r next fields'
    → ReadsInto 29 fields r ((fields' ≡ fields) × (next ≡ 0)) ((r ≡ h.refused) × (h.refused ≡ 0 → (fields' ≡ npdu_record h.head) × (next ≡ h.next))))

-- a refused APDU has the refusal's number, a good one its header's record and the place of its parameters; in every edition
abbrev pub ExportedApduRead : Type 0
ExportedApduRead = (e : Edition) (s fields : List ℕ) (r next : ℕ) (fields' : List ℕ)
    → (let a = read_apdu e s in
    FillsTo apdu_size (apdu_good a) (apdu_number a) (apdu_octets a) (apdu_params a) fields r next fields'
    → ReadsInto 13 fields r ((fields' ≡ fields) × (next ≡ 0))
    (((x : ℕ) → a ≡ Err x → r ≡ x)
    × ((p : Pdu) → a ≡ Ok p → (r ≡ 0) × (fields' ≡ apdu_record p) × (next ≡ params_at p))))

-- the reader's step: an item has its record, at depth 0, and a group its opening's, with the place after it; at the end nothing is read, which is no refusal
abbrev pub ExportedStep : Type 0
ExportedStep = (s : List ℕ) (at : ℕ) (item : List ℕ) (r next : ℕ) (item' : List ℕ)
    → (let a = step_of s at in
    FillsTo 12 (step_good a) (step_number a) (step_record a) (step_place a) item r next item'
    → ReadsInto 12 item r ((item' ≡ item) × (next ≡ 0))
    (((x : ℕ) → a ≡ Step.Refused x → r ≡ x)
    × ((k n v p l to : ℕ) → a ≡ Step.Item k n v p l to → (r ≡ 0) × (item' ≡ record_octets (rec k n 0 v p l)) × (next ≡ to))
    × ((n p to : ℕ) → a ≡ Step.Group n p to → (r ≡ 0) × (item' ≡ record_octets (rec 2 n 0 0 p 0)) × (next ≡ to))
    × (a ≡ Step.End → (r ≡ 0) × (item' ≡ item) × (next ≡ 0))))

-- refused parameters have the refusal's number, good ones their service's record
abbrev pub ExportedServiceRead : Type 0
ExportedServiceRead = (kind choice : ℕ) (s fields : List ℕ) (r : ℕ) (fields' : List ℕ)
    → (let a = read_service kind choice s in
    Fills service_size (service_good a) (service_number a) (service_octets a) fields r fields'
    → ReadsInto 26 fields r (fields' ≡ fields)
    (((x : ℕ) → a ≡ Err x → r ≡ x) × ((v : Service) → a ≡ Ok v → (r ≡ 0) × (fields' ≡ service_record v))))

-- ---- listing and stepping over an item: the answer of the call below as its number and what it gives back, 0 with a refusal; only 61 of the listing comes
-- with the count needed. Its listing is the one of which ListingRefuses, CheckedByNoRecords and ListedRecords speak
abbrev pub ExportedList : Type 0
ExportedList = (s area : List ℕ) (r count : ℕ) (later : List ℕ) → Lists s area r count later
    → ListNumbered s area r count
    × (t : Tally) × Listed s area t later
    × ((n : ℕ) → t ≡ Tally.Items n → (r ≡ 0) × (count ≡ n))
    × ((n : ℕ) → t ≡ Tally.Small n → (r ≡ 61) × (count ≡ n))
    × ((x : ℕ) → t ≡ Tally.Refused x → (r ≡ x) × (count ≡ 0))

abbrev pub ExportedNext : Type 0
ExportedNext = (s : List ℕ) (at r next : ℕ) → Steps s at r next
    → ((n : ℕ) → end_of (one_at s at) ≡ OneItem.One.Next n → (r ≡ 0) × (next ≡ n))
    × ((x : ℕ) → end_of (one_at s at) ≡ OneItem.One.Refused x → (r ≡ x) × (next ≡ 0))

-- ---- writers from a record of its size: 60 exactly for another size; else the number f that the record deserves, "61 last"; a refusal changes nothing, and
-- "nothing past a result is written"
pub record WritesFrom (Sized : Type 0) (f : ℕ) (o area : List ℕ) (r wrote : ℕ) (later : List ℕ) : Type 0 where
  pub sixty : (r ≡ 60) ↔ (Sized → ⊥)
  pub faulty : Sized → (f ≡ 0 → ⊥) → r ≡ f
  pub short : Sized → f ≡ 0 → length area < length o → r ≡ 61
  pub fine : Sized → f ≡ 0 → length o ≤ length area → (r ≡ 0) × (wrote ≡ length o) × (later ≡ o ++ drop (length o) area)
  pub refused : (r ≡ 0 → ⊥) → (wrote ≡ 0) × (later ≡ area)

abbrev pub ExportedNpduWrite : Type 0
ExportedNpduWrite = (fields area : List ℕ) (r wrote : ℕ) (later : List ℕ)
    → (let o = Network.encode (npdu_at fields) in
    Writes (npdu_fault fields) o area r wrote later → WritesFrom (length fields ≡ 29) (NetworkFault.fault_of (npdu_at fields)) o area r wrote later)

-- 21: a type above 7; in every edition
abbrev pub ExportedApduWrite : Type 0
ExportedApduWrite = (e : Edition) (fields area : List ℕ) (r wrote : ℕ) (later : List ℕ)
    → (let o = Header.header (apdu_at fields) in
    Writes (apdu_fault e fields) o area r wrote later
    → WritesFrom (length fields ≡ 13) (pick (leb (oct fields 0) 7) (HeaderFault.fault_of e (apdu_at fields)) 21) o area r wrote later)

-- 62 is all that is said of the records, so 60 is never given
abbrev pub ExportedItemsWrite : Type 0
ExportedItemsWrite = (listed source area : List ℕ) (r wrote : ℕ) (later : List ℕ)
    → (let o = Items.encode_all (things_of source (records_in listed)) in
    Writes (write_fault listed source) o area r wrote later → WritesFrom Unit (write_fault listed source) o area r wrote later)

-- 43: none of the six services
abbrev pub ExportedServiceWrite : Type 0
ExportedServiceWrite = (fields value area : List ℕ) (r wrote : ℕ) (later : List ℕ)
    → (let o = ServiceWriter.octets_of (service_at fields) value in
    Writes (service_fault fields value) o area r wrote later
    → WritesFrom (length fields ≡ 26) (pick (leb (oct fields 0) 5) (ServiceFault.fault_of (service_at fields) value) 43) o area r wrote later)

-- what hb_service_write wrote reads back, for the kind and choice of the record's service: ServicesReadBack over records
abbrev pub ExportedServiceBack : Type 0
ExportedServiceBack = (fields value area : List ℕ) (wrote : ℕ) (later : List ℕ) → Octets fields → Octets later
    → (let v = service_at fields in
    Writes (service_fault fields value) (ServiceWriter.octets_of v value) area 0 wrote later
    → AcceptedBack v (take wrote later) × WholeBack v value (take wrote later))

-- ---- "any two answers it allows are shown equal": a field for each of the calls, by the promise that `ExportedContracts` cites. The answer stands with the
-- numbers given back and then the lent areas as the call leaves them. A state area is octets.
pub record OneExported : Type 0 where
  pub hb_header_check : (head : List ℕ) → One ℕ (λ r. r ≡ header_check head)
  pub hb_data_check : (payload : List ℕ) → One ℕ (λ r. r ≡ data_sent payload)
  pub hb_header_run : (register : ℕ) (piece : List ℕ) → One ℕ (λ r. r ≡ header_run register piece)
  pub hb_data_run : (register : ℕ) (piece : List ℕ) → One ℕ (λ r. r ≡ data_run register piece)
  pub hb_fresh : (state : List ℕ) (later : ℕ) → One (ℕ × List ℕ) (λ x. Saves (fresh_collector (edition_of later)) state x.0 x.1)
  pub hb_feed : (state piece report area : List ℕ) → Octets state
      → One (ℕ × ℕ × ℕ × List ℕ × List ℕ × List ℕ) (λ x. Trunk.Feeds state report area piece x.0 x.1 x.2 x.3 x.4 x.5)
  pub hb_silence : (state report : List ℕ) → Octets state → One (ℕ × ℕ × List ℕ × List ℕ) (λ x. Trunk.Stills state report x.0 x.1 x.2 x.3)
  pub hb_forget : (state : List ℕ) (slot : ℕ) → Octets state → One (ℕ × List ℕ) (λ x. Trunk.Forgets state slot x.0 x.1)
  pub hb_replay : (state records report area : List ℕ) → Octets state
      → One (ℕ × ℕ × ℕ × List ℕ × List ℕ × List ℕ) (λ x. Replays state report area records x.0 x.1 x.2 x.3 x.4 x.5)
  pub hb_npdu_read : (octets fields : List ℕ)
      → (let h = read_npdu octets in
      One (ℕ × ℕ × List ℕ) (λ x. FillsTo npdu_size (eqb h.refused 0) h.refused (npdu_record h.head) h.next fields x.0 x.1 x.2))
  pub hb_npdu_write : (fields out : List ℕ) → One (ℕ × ℕ × List ℕ) (λ x. Writes (npdu_fault fields) (Network.encode (npdu_at fields)) out x.0 x.1 x.2)
  pub hb_apdu_read : (octets : List ℕ) (later : ℕ) (fields : List ℕ)
      → (let a = read_apdu (edition_of later) octets in
      One (ℕ × ℕ × List ℕ) (λ x. FillsTo apdu_size (apdu_good a) (apdu_number a) (apdu_octets a) (apdu_params a) fields x.0 x.1 x.2))
  pub hb_apdu_write : (fields : List ℕ) (later : ℕ) (out : List ℕ) → One (ℕ × ℕ × List ℕ) (λ x. Writes (apdu_fault (edition_of later) fields) (Header.header (apdu_at fields)) out x.0 x.1 x.2)
  pub hb_items_list : (octets listed : List ℕ) → One (ℕ × ℕ × List ℕ) (λ x. Lists octets listed x.0 x.1 x.2)
  pub hb_item_next : (octets : List ℕ) (at : ℕ) → One (ℕ × ℕ) (λ x. Steps octets at x.0 x.1)
  pub hb_item_step : (octets : List ℕ) (at : ℕ) (item : List ℕ)
      → (let y = step_of octets at in
      One (ℕ × ℕ × List ℕ) (λ x. FillsTo 12 (step_good y) (step_number y) (step_record y) (step_place y) item x.0 x.1 x.2))
  pub hb_items_write : (listed source out : List ℕ)
      → One (ℕ × ℕ × List ℕ) (λ x. Writes (write_fault listed source) (Items.encode_all (things_of source (records_in listed))) out x.0 x.1 x.2)
  pub hb_service_read : (kind choice : ℕ) (params fields : List ℕ)
      → (let a = read_service kind choice params in
      One (ℕ × List ℕ) (λ x. Fills service_size (service_good a) (service_number a) (service_octets a) fields x.0 x.1))
  pub hb_service_write : (fields value out : List ℕ)
      → One (ℕ × ℕ × List ℕ) (λ x. Writes (service_fault fields value) (ServiceWriter.octets_of (service_at fields) value) out x.0 x.1 x.2)
  pub hb_frame_write : (kind destination source : ℕ) (payload out : List ℕ)
      → One (ℕ × ℕ × List ℕ) (λ x. Writes (FrameFault.fault_of payload) (frame_octets kind destination source payload) out x.0 x.1 x.2)
  pub hb_cut : (fields : List ℕ) (later reply priority each : ℕ) (params out : List ℕ)
      → One (ℕ × ℕ × ℕ × List ℕ) (λ x. Cuts (edition_of later) fields (way_at fields reply priority each) params out x.0 x.1 x.2 x.3)
