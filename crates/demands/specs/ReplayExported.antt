-- The replay as C and Rust link it: its numbers exactly when, what a refusal leaves, and what is done otherwise. Its contract is a field of `ExportedContracts`,
-- its one answer of `OneExported`. That any mixture of feeding and replaying is read by position is ReadOverOctets (Demands), since `Linked` has replays among
-- its calls, every one that is made, and feeding, silences and forget orders as before (CallsAreLinked).
use Rattle.std.specs.Prelude.{ℕ, ◌+◌, ◌-◌, ◌≡◌, ◌⊎◌, List, [], ◌∷◌, ◌++◌, length, drop}
use Rattle.std.proofs.Math.Option.{Option, none}
use Rattle.octets.specs.Reading.{Octets}
use Rattle.runs.specs.Run.{Run, octs, ends}
use Rattle.runs.specs.Run.Event.{silence}
use Rattle.runs.specs.Run.Order.{trunk, forget}
use Rattle.runs.specs.Offered.{places, spoken}
use Rattle.reports.specs.Layout.{report_size}
use Rattle.records.specs.Flag.{flag}
use Rattle.state.specs.Layout.{state_size}
use Rattle.playback.specs.Layout.{record_octets}
use Rattle.playback.specs.Valid.{Behind}
use Rattle.playback.specs.Calls.{Plays}
use Rattle.playback.specs.Answers.{Played}
use Rattle.hitchbarley.specs.Trunk.{Feeds, Stills, Forgets}
use Rattle.hitchbarley.specs.Replay.{Replays}
use Rattle.hitchbarley.specs.Offering.{Heard, told_by, Linked}
use Rattle.demands.specs.Exported.{Holding, BadState, Carried}
use Rattle.demands.specs.Replay.{Whole, Stopped, ByNumber}

-- 60, 59 and 68 leave every area and give back 0; else, with 67 too, it is the collector's replay of the state that the area holds
pub record ReplayCall (state records report area : List ℕ) (r eaten reported : ℕ) (state' report' area' : List ℕ) : Type 0 where
  pub numbers : ByNumber r ((length state ≡ state_size) × (length report ≡ report_size) × (length area ≡ 65536)) (BadState state) (Whole records)
      (Holding state (λ c. Stopped c area records))
  pub refused : (r ≡ 60) ⊎ ((r ≡ 59) ⊎ (r ≡ 68)) → (eaten ≡ 0) × (reported ≡ 0) × (state' ≡ state) × (report' ≡ report) × (area' ≡ area)
  pub done : (r ≡ 0) ⊎ (r ≡ 67)
      → Carried Played (λ f. f.state)
      (λ c f. (f.refused ≡ r) × (eaten ≡ f.eaten) × (reported ≡ flag f.reported) × Plays c report area records f report' area') state state'

abbrev pub ExportedReplay : Type 0
ExportedReplay = (state records report area : List ℕ) (r eaten reported : ℕ) (state' report' area' : List ℕ) → Octets state
    → Replays state report area records r eaten reported state' report' area' → ReplayCall state records report area r eaten reported state' report' area'

-- ---- every call that is made is one of the calls of `Linked`
-- a call that is lent a part of the run, in front of every way of going on: what was not eaten is offered again, and its report stands at its place
abbrev pub InFront : ℕ → List ℕ → List ℕ → Run → Run → ℕ → Option (List ℕ) → List ℕ → List ℕ → Type 0
InFront p state area lent run eaten said state' area' = (h : Heard) → Linked (p + places eaten lent) state' area' (drop eaten lent ++ run) h
    → Linked p state area (lent ++ run) (ends (spoken (p + places eaten lent - 1) said h.reports) h.state h.slots h.area)

-- a piece of octets, a silence, a forget order; records of any part of a run, with anything behind them that begins with no good record
pub record CallsAreLinked : Type 0 where
  pub fed : (p : ℕ) (state report area piece : List ℕ) (run : Run) (r eaten reported : ℕ) (state' report' area' : List ℕ) → length report ≡ report_size → length area ≡ 65536
      → Feeds state report area piece r eaten reported state' report' area' → InFront p state area (octs piece) run eaten (told_by reported report') state' area'
  pub silent : (p : ℕ) (state report area : List ℕ) (run : Run) (r reported : ℕ) (state' report' : List ℕ) → length report ≡ report_size
      → Stills state report r reported state' report' → InFront p state area (trunk silence ∷ []) run 1 (told_by reported report') state' area
  pub forgot : (p : ℕ) (state area : List ℕ) (i : ℕ) (run : Run) (r : ℕ) (state' : List ℕ) → Forgets state i r state' → InFront p state area (forget i ∷ []) run 1 none state' area
  pub replayed : (p : ℕ) (state report area : List ℕ) (lent run : Run) (behind : List ℕ) (r eaten reported : ℕ) (state' report' area' : List ℕ) → length report ≡ report_size → length area ≡ 65536 → Behind behind
      → Replays state report area (record_octets lent ++ behind) r eaten reported state' report' area' → InFront p state area lent run eaten (told_by reported report') state' area'
