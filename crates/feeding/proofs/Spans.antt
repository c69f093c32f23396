-- The stores of the data stages as octets laid: a count, and data octets with the count after them.
use Prim.Native.Nat.{ℕ, ◌+◌, ◌<◌}
use native.Mathlib.Omega.{arith}
use mathlib.Core.Path.{◌≡◌, ◌∙◌}
use mathlib.Core.List.{List, [], ◌∷◌}
use lib.ListN.{length, set, length-set}
use Rattle.octets.specs.Splice.{splice, splice_set, splice_sets}
use Rattle.state.specs.Layout.{store_place, store_size, state_size}

-- the count's two octets
pub count_set : (o : List ℕ) (x y : ℕ) → length o ≡ state_size → set (set o 1 x) 2 y ≡ splice o 1 (x ∷ y ∷ [])
count_set o x y n = splice_sets o 1 (x ∷ y ∷ []) (omega arith)

-- one data octet, then the count
pub one_counted : (o : List ℕ) (got b : ℕ) {o' : List ℕ} (count : List ℕ) → length o ≡ state_size → got < store_size → o' ≡ splice (set o (store_place + got) b) 1 count
    → o' ≡ splice (splice o (store_place + got) (b ∷ [])) 1 count
one_counted o got b count n h e = rw (splice_set o (store_place + got) b (omega arith)) at e

-- a run of them, then the count
pub run_counted : (o : List ℕ) (at : ℕ) (run : List ℕ) {o₁ o₂ : List ℕ} (count : List ℕ) → o₁ ≡ splice o at run → o₂ ≡ splice o₁ 1 count → o₂ ≡ splice (splice o at run) 1 count
run_counted o at run count e d = rw e at d

-- a store changes no length
pub same_size : (o o' : List ℕ) (at b : ℕ) → length o' ≡ length (set o at b) → length o' ≡ length o
same_size o o' at b e = e ∙ length-set o at b
