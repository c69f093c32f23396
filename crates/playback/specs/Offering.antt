-- Every way of replaying one run, each call with any answer that it promises.
use Rattle.std.specs.Prelude.{ℕ, ◌≡◌, List, [], ◌∷◌, ◌++◌, length}
use Rattle.std.proofs.Math.Option.{Option, none, some}
use Rattle.runs.specs.Run.{Run, Order}
use Rattle.runs.specs.Offered.{Call, Offer, Made}
use Rattle.reports.specs.Layout.{report_size}
use Rattle.collector.specs.Calls.{slots_of}
use Rattle.collector.specs.Offering.{End, told, WithArea, calls}
use Rattle.collector.specs.declared.Collector.{Collector}
use Rattle.playback.specs.Answers.{Played}
use Rattle.playback.specs.Layout.{record_octets}
use Rattle.playback.specs.Valid.{Behind}
use Rattle.playback.specs.Calls.{Plays}

-- one call, lent a report area of 16 octets and the records of this part of the run, also of none; behind them nothing, a bad record and anything, or odd octets
pub record Replaying (s : WithArea) (lent : Run) (eaten : ℕ) (said : Option (List ℕ)) (t : WithArea) : Type 0 where
  pub behind : List ℕ
  pub report : List ℕ
  pub report' : List ℕ
  pub answer : Played
  pub ends : Behind behind
  pub sixteen : length report ≡ report_size
  pub promise : Plays s.0 report s.1 (record_octets lent ++ behind) answer report' t.1
  pub ate : eaten ≡ answer.eaten
  pub says : said ≡ told answer.reported report'
  pub leaves : t.0 ≡ answer.state

abbrev pub replaying : Call WithArea (List ℕ)
replaying = Replaying

-- "Demand 3 holds of the replay too, cut at record borders": from a state and a message area, with a run left to replay whose trunk goes on at place p; any
-- front part of its records is lent, what was not eaten is offered again; the last state as the rules see it
abbrev pub Replayed : ℕ → Collector → List ℕ → Run → End → Type 0
Replayed p c area run e = (d : Collector) × Offer replaying p (c, area) run e.reports (d, e.area) × (d.edition ≡ e.state.0) × (d.receiver ≡ e.state.1) × (slots_of d ≡ e.slots)

-- ---- the orders of a run one after the other, each by its own call of the collector with any answer that it promises; the last alone may report
pub data OneByOne : WithArea → Run → Option (List ℕ) → WithArea → Type 0 where
  none_left : {s : WithArea} → OneByOne s [] none s
  reports : {s t : WithArea} {report : List ℕ} (y : Order) → Made calls s (y ∷ []) 1 (some report) t → OneByOne s (y ∷ []) (some report) t
  and_then : {s t u : WithArea} {said : Option (List ℕ)} (y : Order) (run : Run) → Made calls s (y ∷ []) 1 none t → OneByOne t run said u → OneByOne s (y ∷ run) said u
