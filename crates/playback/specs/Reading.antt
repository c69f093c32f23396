-- Records read left to right: the orders before the first bad record, and what stops the reading there.
use Rattle.std.specs.Prelude.{ℕ, ◌≡◌, List, [], ◌∷◌, eqb, ltb}
use Rattle.std.proofs.Math.Option.{Option, none, some}
use Rattle.octets.specs.Choice.{pick}
use Rattle.octets.specs.Reading.{refuse}
use Rattle.runs.specs.Run.{Run, Order}
use Rattle.runs.specs.Run.Event.{octet, silence}
use Rattle.runs.specs.Run.Order.{trunk, forget}

-- the order that a record is; none where it is bad: "A kind above 2, a nonzero pad, or a silence with a nonzero value"
unfoldable pub order_of : ℕ → ℕ → ℕ → ℕ → Option Order
order_of kind value third fourth =
    refuse (ltb 2 kind) none
    (pick (eqb third 0)
    (pick (eqb fourth 0)
    (pick (eqb kind 0) (some (trunk (octet value)))
    (pick (eqb kind 2) (some (forget value))
    (pick (eqb value 0) (some (trunk silence)) none)))
    none)
    none)

-- the good records in front as a run, and the number of what stops behind them: 67 a bad record, 68 odd octets, 0 the end
pub record Records : Type 0 where
  pub front : Run
  pub stop : ℕ

abbrev pub records : Run → ℕ → Records
records run n = record { front = run; stop = n }

abbrev pub read_on : Option Order → Records → Records
read_on none rest = records [] 67
read_on (some o) rest = records (o ∷ rest.front) rest.stop

abbrev pub read_records : List ℕ → Records
read_records [] = records [] 0
read_records (a ∷ []) = records [] 68
read_records (a ∷ b ∷ []) = records [] 68
read_records (a ∷ b ∷ c ∷ []) = records [] 68
read_records (a ∷ b ∷ c ∷ d ∷ more) = read_on (order_of a b c d) (read_records more)

-- octets that are read as a run
abbrev pub Reads : List ℕ → Run → Type 0
Reads o run = read_records o ≡ records run 0
