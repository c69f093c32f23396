-- What a recorded run can be, and which records are bad: the page's rules, independent of any reading.
use Rattle.std.specs.Prelude.{ℕ, ◌<◌, ◌≡◌, List, [], ◌∷◌, length}
use Rattle.runs.specs.Run.{Run, Order}
use Rattle.runs.specs.Run.Event.{octet, silence}
use Rattle.runs.specs.Run.Order.{trunk, forget}
use Rattle.playback.specs.Layout.{record_size}

-- values are octets
abbrev pub ValidOrder : Order → Type 0
ValidOrder (trunk (octet x)) = x < 256
ValidOrder (trunk silence) = Unit
ValidOrder (forget i) = i < 256

abbrev pub Valid : Run → Type 0
Valid [] = Unit
Valid (o ∷ run) = ValidOrder o × Valid run

-- "A kind above 2, a nonzero pad, or a silence with a nonzero value"
pub data Bad (kind value third fourth : ℕ) : Type 0 where
  kind_above : 2 < kind → Bad kind value third fourth
  third_pad : (third ≡ 0 → ⊥) → Bad kind value third fourth
  fourth_pad : (fourth ≡ 0 → ⊥) → Bad kind value third fourth
  loud_silence : kind ≡ 1 → (value ≡ 0 → ⊥) → Bad kind value third fourth

-- what stands behind a run's records, where they are all the good ones in front: less than a record, or a bad record and anything
pub data Behind : List ℕ → Type 0 where
  less : {o : List ℕ} → length o < record_size → Behind o
  bad : {kind value third fourth : ℕ} {more : List ℕ} → Bad kind value third fourth → Behind (kind ∷ value ∷ third ∷ fourth ∷ more)
