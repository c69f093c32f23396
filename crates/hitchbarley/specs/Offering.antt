-- Every way of making the exported calls for one run, each with any answer that it promises; the state is octets that the caller keeps.
use Rattle.std.specs.Prelude.{ℕ, ◌≡◌, List, ◌++◌, eqb, length}
use Rattle.std.proofs.Math.Option.{Option, none, some}
use Rattle.octets.specs.Choice.{pick}
use Rattle.runs.specs.Run.{Run, Ends}
use Rattle.runs.specs.Offered.{Calls, Made, Offer}
use Rattle.reports.specs.Layout.{report_size}
use Rattle.playback.specs.Layout.{record_octets}
use Rattle.playback.specs.Valid.{Behind}
use Rattle.hitchbarley.specs.Trunk.{Feeds, Stills, Forgets}
use Rattle.hitchbarley.specs.Replay.{Replays}

-- the reports with their places, and the state area and the message area at the end
abbrev pub Heard : Type 0
Heard = Ends (List ℕ) (Unit {0}) (List ℕ) (List ℕ)

-- what stands in the report area is a report where the call says 1
abbrev pub told_by : ℕ → List ℕ → Option (List ℕ)
told_by reported report = pick (eqb reported 1) (some report) none

-- ---- the calls, each with any answer that its promise allows: a state area with a message area
abbrev pub Areas : Type 0
Areas = List ℕ × List ℕ

-- a piece: "lend areas of the right sizes that nobody else writes", whatever stands in the report area
pub record Feeding (s : Areas) (piece : List ℕ) (eaten : ℕ) (said : Option (List ℕ)) (t : Areas) : Type 0 where
  pub report : List ℕ
  pub report' : List ℕ
  pub number : ℕ
  pub reported : ℕ
  pub sixteen : length report ≡ report_size
  pub sized : length s.1 ≡ 65536
  pub promise : Feeds s.0 report s.1 piece number eaten reported t.0 report' t.1
  pub says : said ≡ told_by reported report'

-- a silence: the message area is not lent
pub record Stilling (s : Areas) (said : Option (List ℕ)) (t : Areas) : Type 0 where
  pub report : List ℕ
  pub report' : List ℕ
  pub number : ℕ
  pub reported : ℕ
  pub sixteen : length report ≡ report_size
  pub promise : Stills s.0 report number reported t.0 report'
  pub says : said ≡ told_by reported report'
  pub area : t.1 ≡ s.1

-- a forget order: only the state area is lent
pub record Forgetting (i : ℕ) (s t : Areas) : Type 0 where
  pub number : ℕ
  pub promise : Forgets s.0 i number t.0
  pub area : t.1 ≡ s.1

abbrev pub calls : Calls Areas (List ℕ)
calls = record { Feeds = Feeding; Stills = Stilling; Forgets = Forgetting }

-- records: of the part of the run that is lent, also of none; behind them nothing, a bad record and anything, or odd octets
pub record Replaying (s : Areas) (lent : Run) (eaten : ℕ) (said : Option (List ℕ)) (t : Areas) : Type 0 where
  pub behind : List ℕ
  pub report : List ℕ
  pub report' : List ℕ
  pub number : ℕ
  pub reported : ℕ
  pub ends : Behind behind
  pub sixteen : length report ≡ report_size
  pub sized : length s.1 ≡ 65536
  pub promise : Replays s.0 report s.1 (record_octets lent ++ behind) number eaten reported t.0 report' t.1
  pub says : said ≡ told_by reported report'

-- each call is one of the three or a replay
pub data Calling (s : Areas) (lent : Run) (n : ℕ) (said : Option (List ℕ)) (t : Areas) : Type 0 where
  made : Made calls s lent n said t → Calling s lent n said t
  replayed : Replaying s lent n said t → Calling s lent n said t

-- "Cut the octets anywhere, offer the rest again after each report": from a state area and a message area, with a run left to offer whose trunk goes on
-- at place p; by any mixture of these calls
abbrev pub Linked : ℕ → List ℕ → List ℕ → Run → Heard → Type 0
Linked p state area run h = Offer Calling p (state, area) run h.reports (h.state, h.area)
