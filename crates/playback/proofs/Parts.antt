-- Octets taken apart by their reading: the records of the good orders in front, and what stops behind them.
use Prim.Native.Nat.{ℕ, ◌+◌, ◌*◌, ◌<◌}
use native.Mathlib.Omega.{arith}
use mathlib.Core.Path.{◌≡◌, refl, sym, ap, ◌∙◌}
use mathlib.Core.List.{List, [], ◌∷◌, ◌++◌}
use mathlib.Core.Logic.{◌⊎◌, inl, inr}
use mathlib.Core.Option.{Option, none, some}
use lib.ListN.{length, length-append}
use Rattle.runs.specs.Run.{Run, Order}
use Rattle.runs.specs.Run.Event.{octet, silence}
use Rattle.runs.specs.Run.Order.{trunk, forget}
use Rattle.playback.specs.Layout.{record_size, record_of, record_octets}
use Rattle.playback.specs.Valid.{Bad, Behind}
use Rattle.playback.specs.Valid.Behind.{less, bad as broken}
use Rattle.playback.specs.Reading.{order_of, read_on, read_records}
use Rattle.playback.proofs.Records.{order_is, bad_none, none_bad, read_behind}

-- what stands there, by the number that stops the reading
pub data Rest : ℕ → List ℕ → Type 0 where
  over : Rest 0 []
  bad : (kind value third fourth : ℕ) (more : List ℕ) → Bad kind value third fourth → Rest 67 (kind ∷ value ∷ third ∷ fourth ∷ more)
  odd : {o : List ℕ} → 0 < length o → length o < record_size → Rest 68 o

pub record Taken (o : List ℕ) (run : Run) (n : ℕ) : Type 0 where
  pub behind : List ℕ
  pub records : o ≡ record_octets run ++ behind
  pub rest : Rest n behind

taken_on : (a b c d : ℕ) (more : List ℕ) (y : Option Order) → order_of a b c d ≡ y → Taken more (read_records more).front (read_records more).stop
    → (let w = read_on y (read_records more) in Taken (a ∷ b ∷ c ∷ d ∷ more) w.front w.stop)
taken_on a b c d more none q T = record { behind = a ∷ b ∷ c ∷ d ∷ more; records = refl; rest = bad a b c d more (none_bad a b c d q) }
taken_on a b c d more (some o) q T =
    record {
      behind = T.behind;
      records = ap (λ (x : List ℕ). x ++ more) (order_is a b c d o q) ∙ ap (λ (x : List ℕ). record_of o ++ x) T.records ∙ sym (joined o (record_octets (read_records more).front) T.behind);
      rest = T.rest;
    }
  where
    joined : (y : Order) (xs ys : List ℕ) → (record_of y ++ xs) ++ ys ≡ record_of y ++ (xs ++ ys)
    joined (trunk (octet x)) xs ys = refl
    joined (trunk silence) xs ys = refl
    joined (forget i) xs ys = refl

pub taken : (o : List ℕ) → Taken o (read_records o).front (read_records o).stop
taken [] = record { behind = []; records = refl; rest = over }
taken (a ∷ []) = record { behind = a ∷ []; records = refl; rest = odd {o = a ∷ []} (omega arith) (omega arith) }
taken (a ∷ b ∷ []) = record { behind = a ∷ b ∷ []; records = refl; rest = odd {o = a ∷ b ∷ []} (omega arith) (omega arith) }
taken (a ∷ b ∷ c ∷ []) = record { behind = a ∷ b ∷ c ∷ []; records = refl; rest = odd {o = a ∷ b ∷ c ∷ []} (omega arith) (omega arith) }
taken (a ∷ b ∷ c ∷ d ∷ more) = taken_on a b c d more (order_of a b c d) refl (taken more)

-- ---- lengths
pub records_length : (run : Run) → length (record_octets run) ≡ record_size * length run
records_length [] = refl
records_length (trunk (octet x) ∷ run) = let z = records_length run in omega arith
records_length (trunk silence ∷ run) = let z = records_length run in omega arith
records_length (forget i ∷ run) = let z = records_length run in omega arith

joined_length : (run : Run) (o : List ℕ) → length (record_octets run ++ o) ≡ record_size * length run + length o
joined_length run o = length-append (record_octets run) o ∙ ap (λ (n : ℕ). n + length o) (records_length run)

-- in a multiple of four there are no odd octets
pub whole_stop : (n k : ℕ) (o : List ℕ) (run : Run) → length o ≡ record_size * k → Taken o run n → (n ≡ 0) ⊎ (n ≡ 67)
whole_stop n k o run e T = by T.behind T.records T.rest
  where
    by : (b : List ℕ) → o ≡ record_octets run ++ b → {m : ℕ} → Rest m b → (m ≡ 0) ⊎ (m ≡ 67)
    by b q over = inl refl
    by b q (bad x y z w more h) = inr refl
    by b q (odd low high) = let l : length o ≡ record_size * length run + length b = ap length q ∙ joined_length run b in absurd (omega arith)

-- nothing is left behind where nothing stopped, a bad record where 67 did
pub rest_none : {b : List ℕ} → Rest 0 b → b ≡ []
rest_none over = refl

pub rest_behind : {n : ℕ} {b : List ℕ} → Rest n b → Behind b
rest_behind over = less {o = []} (omega arith)
rest_behind (bad x y z w more h) = broken h
rest_behind (odd low high) = less high

-- ---- a bad record behind a run's
pub bad_stops : (run : Run) (k v a b : ℕ) (more : List ℕ) → Bad k v a b → (read_records (record_octets run ++ (k ∷ v ∷ a ∷ b ∷ more))).stop ≡ 67
bad_stops run k v a b more h = rw (read_behind run (k ∷ v ∷ a ∷ b ∷ more), bad_none k v a b h)
