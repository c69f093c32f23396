-- The replay of a recorded trunk: its records, its numbers, what it does, and demand 3 of it, "cut at record borders: its reports are the collector's on the
-- same run". Its contract is a field of `Contracts`, its one answer of `OneAnswer`. Each statement is proved in proofs/Replay, under its name in small letters.
use Rattle.std.specs.Prelude.{ℕ, ◌+◌, ◌-◌, ◌*◌, ◌≤◌, ◌<◌, ◌≡◌, ◌↔◌, ◌⊎◌, true, false, List, [], ◌∷◌, ◌++◌, length, take, drop}
use Rattle.octets.specs.Exact.{Exactly}
use Rattle.runs.specs.Run.{Run, ends}
use Rattle.runs.specs.Run.Event.{octet, silence}
use Rattle.runs.specs.Run.Order.{trunk, forget}
use Rattle.runs.specs.Offered.{places, spoken}
use Rattle.apdu.specs.declared.Edition.{Edition}
use Rattle.trunk.specs.Reading.{held_of}
use Rattle.trunk.specs.Demand.{reading}
use Rattle.rebuild.specs.View.{keys}
use Rattle.recordings.specs.Frames.{rules}
use Rattle.reports.specs.Layout.{report_size}
use Rattle.collector.specs.Frame.{bacnet}
use Rattle.collector.specs.Calls.{slots_of, fresh_collector}
use Rattle.collector.specs.Offering.{Passes, End, in_edition, told, Called}
use Rattle.collector.specs.declared.Collector.{Collector}
use Rattle.playback.specs.Layout.{record_size, record_octets}
use Rattle.playback.specs.Valid.{Valid, Bad, Behind}
use Rattle.playback.specs.Reading.{Reads}
use Rattle.playback.specs.Calls.{Plays}
use Rattle.playback.specs.Offering.{Replayed, OneByOne}
use Rattle.playback.specs.Answers.{Played}
use Rattle.demands.specs.Words.{Broken, Four}

-- ---- the records: "four-octet records, no header: kind (0 octet, 1 silence, 2 forget), value, two zeros"
abbrev pub RecordsAre : Type 0
RecordsAre =
    (record_size ≡ 4)
    × (record_octets [] ≡ [])
    × ((x : ℕ) (run : Run) → record_octets (trunk (octet x) ∷ run) ≡ 0 ∷ x ∷ 0 ∷ 0 ∷ record_octets run)
    × ((run : Run) → record_octets (trunk silence ∷ run) ≡ 1 ∷ 0 ∷ 0 ∷ 0 ∷ record_octets run)
    × ((i : ℕ) (run : Run) → record_octets (forget i ∷ run) ≡ 2 ∷ i ∷ 0 ∷ 0 ∷ record_octets run)

-- octets are read as a run exactly when they are its records and its values are octets; what the call does with them is ReplayDoes
abbrev pub RecordsExact : Type 0
RecordsExact = Exactly Reads Valid record_octets

-- ---- its numbers. "A piece not a multiple of four long is 68 before any of it runs"
abbrev pub Whole : List ℕ → Type 0
Whole records = (k : ℕ) × (length records ≡ record_size * k)

-- arrays of their sizes, as the type of a collector says
pub record Arrays (c : Collector) : Type 0 where
  pub head : length c.receiver.link.head ≡ 5
  pub store : length c.receiver.store ≡ 501
  pub four : Four c

-- the records of some run that reports nothing, by the reading of it by position, then a bad record, then anything
pub record Stopped (c : Collector) (area records : List ℕ) : Type 0 where
  pub run : Run
  pub kind : ℕ
  pub value : ℕ
  pub third : ℕ
  pub fourth : ℕ
  pub more : List ℕ
  pub bad : Bad kind value third fourth
  pub are : records ≡ record_octets run ++ (kind ∷ value ∷ third ∷ fourth ∷ more)
  pub silent : (reading (rules keys (bacnet c.edition)) c.receiver (slots_of c) area run).reports ≡ []

-- 60, then 59, then 68, and 67 when its record is reached
pub record ByNumber (n : ℕ) (Sized Broken Whole Stopped : Type 0) : Type 0 where
  pub sixty : (n ≡ 60) ↔ (Sized → ⊥)
  pub fifty_nine : (n ≡ 59) ↔ (Sized × Broken)
  pub sixty_eight : (n ≡ 68) ↔ (Sized × (Broken → ⊥) × (Whole → ⊥))
  pub sixty_seven : (n ≡ 67) ↔ (Sized × (Broken → ⊥) × Whole × Stopped)
  pub none : (n ≡ 0) ↔ (Sized × (Broken → ⊥) × Whole × (Stopped → ⊥))

abbrev pub ReplayNumbers : Type 0
ReplayNumbers = (c : Collector) (records report area : List ℕ) (r : Played) (report' area' : List ℕ) → Arrays c → Plays c report area records r report' area'
    → ByNumber r.refused ((length report ≡ report_size) × (length area ≡ 65536)) (Broken c) (Whole records) (Stopped c area records)

-- ---- what it changes. 60, 59 and 68: nothing is eaten, nothing changes
abbrev pub unplayed_by : ℕ → Collector → Played
unplayed_by n c = record { refused = n; eaten = 0; reported = false; state = c }

abbrev pub ReplayRefused : Type 0
ReplayRefused = (c : Collector) (records report area : List ℕ) (r : Played) (report' area' : List ℕ) → Plays c report area records r report' area'
    → (r.refused ≡ 60) ⊎ ((r.refused ≡ 59) ⊎ (r.refused ≡ 68)) → (r ≡ unplayed_by r.refused c) × (report' ≡ report) × (area' ≡ area)

-- 0 and 67: the records are those of a run, and behind them nothing good. "A call stops after a report, as feeding does, and answers the records eaten": state,
-- message area and report are what the eaten records leave one after the other, each by its own call; "the records before it are eaten and stand"
pub record ReplayChanges (c : Collector) (records report area : List ℕ) (r : Played) (report' area' : List ℕ) : Type 0 where
  pub run : Run
  pub behind : List ℕ
  pub are : records ≡ record_octets run ++ behind
  pub ends : Behind behind
  pub leaves : OneByOne (c, area) (take r.eaten run) (told r.reported report') (r.state, area')
  pub most : r.eaten ≤ length run
  pub some : 0 < length run → 0 < r.eaten
  pub all : r.reported ≡ false → (r.eaten ≡ length run) × (report' ≡ report)
  pub over : r.refused ≡ 0 → r.reported ≡ false → behind ≡ []
  pub stopped : r.refused ≡ 67 → r.reported ≡ false

abbrev pub ReplayDoes : Type 0
ReplayDoes = (c : Collector) (records report area : List ℕ) (r : Played) (report' area' : List ℕ) → Plays c report area records r report' area'
    → (r.refused ≡ 0) ⊎ (r.refused ≡ 67) → ReplayChanges c records report area r report' area'

-- ---- demand 3. Every way of replaying a run is a way of making the collector's calls for it, with the same reports at the same places and the same end;
-- so what is said of `Called` (ReadByPosition, ReachedPasses, ReportedMessages ..) is said of replays
abbrev pub ReplayAsCalled : Type 0
ReplayAsCalled = (p : ℕ) (c : Collector) (area : List ℕ) (run : Run) (e : End) → Replayed p c area run e → Called p c area run e

abbrev pub ReplayByPosition : Type 0
ReplayByPosition = (c : Collector) (area : List ℕ) → Passes c → length area ≡ 65536 → (run : Run) (e : End)
    → Replayed (length (held_of c.receiver)) c area run e → e ≡ in_edition c.edition (reading (rules keys (bacnet c.edition)) c.receiver (slots_of c) area run)

-- every replay that is made is among them, in front of every way of going on: with records of any part of the run, and behind them whatever begins with no
-- good record; what was not eaten is offered again, and its report stands at its place
abbrev pub ReplayAnyPart : Type 0
ReplayAnyPart = (p : ℕ) (c : Collector) (report area : List ℕ) (lent run : Run) (behind : List ℕ) (r : Played) (report' area' : List ℕ) (e : End) → length report ≡ report_size → Behind behind
    → Plays c report area (record_octets lent ++ behind) r report' area' → Replayed (p + places r.eaten lent) r.state area' (drop r.eaten lent ++ run) e
    → Replayed p c area (lent ++ run) (ends (spoken (p + places r.eaten lent - 1) (told r.reported report') e.reports) e.state e.slots e.area)

-- and every run can be replayed
abbrev pub ReplayCanBeOffered : Type 0
ReplayCanBeOffered = (c : Collector) (area : List ℕ) → Passes c → length area ≡ 65536 → (run : Run) → (e : End) × Replayed (length (held_of c.receiver)) c area run e

-- ---- worked: from a fresh collector of any edition, a forget order that is answered 56, the frame of the page's whole case, a bad record. One call eats nine records and
-- writes the report "`01 00 01 02 01` and eleven zeros"; the bad record is not looked at
abbrev pub ReplayWorked : Type 0
ReplayWorked = (d : Edition) (report area : List ℕ) (r : Played) (report' area' : List ℕ) → length report ≡ report_size → length area ≡ 65536
    → Plays (fresh_collector d) report area
    (2 ∷ 0 ∷ 0 ∷ 0 ∷ 0 ∷ 0x55 ∷ 0 ∷ 0 ∷ 0 ∷ 0xFF ∷ 0 ∷ 0 ∷ 0 ∷ 0x01 ∷ 0 ∷ 0 ∷ 0 ∷ 0x02 ∷ 0 ∷ 0 ∷ 0 ∷ 0x01 ∷ 0 ∷ 0 ∷ 0 ∷ 0x00 ∷ 0 ∷ 0 ∷ 0 ∷ 0x00 ∷ 0 ∷ 0 ∷ 0 ∷ 0xF5 ∷ 0 ∷ 0 ∷ 3 ∷ 0 ∷ 0 ∷ 0 ∷ [])
    r report' area'
    → (r.refused ≡ 0) × (r.eaten ≡ 9) × (r.reported ≡ true) × (report' ≡ 0x01 ∷ 0x00 ∷ 0x01 ∷ 0x02 ∷ 0x01 ∷ 0 ∷ 0 ∷ 0 ∷ 0 ∷ 0 ∷ 0 ∷ 0 ∷ 0 ∷ 0 ∷ 0 ∷ 0 ∷ [])

-- from a fresh collector, 55 FF, a silence within the header, a forget order: one call eats three records and writes damage 4, "`02 04` and fourteen zeros"
abbrev pub ReplaySilenceWorked : Type 0
ReplaySilenceWorked = (d : Edition) (report area : List ℕ) (r : Played) (report' area' : List ℕ) → length report ≡ report_size → length area ≡ 65536
    → Plays (fresh_collector d) report area (0 ∷ 0x55 ∷ 0 ∷ 0 ∷ 0 ∷ 0xFF ∷ 0 ∷ 0 ∷ 1 ∷ 0 ∷ 0 ∷ 0 ∷ 2 ∷ 7 ∷ 0 ∷ 0 ∷ []) r report' area'
    → (r.refused ≡ 0) × (r.eaten ≡ 3) × (r.reported ≡ true) × (report' ≡ 0x02 ∷ 0x04 ∷ 0 ∷ 0 ∷ 0 ∷ 0 ∷ 0 ∷ 0 ∷ 0 ∷ 0 ∷ 0 ∷ 0 ∷ 0 ∷ 0 ∷ 0 ∷ 0 ∷ [])
