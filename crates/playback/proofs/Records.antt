-- Octets are read as a run exactly when they are its records and its values are octets; a record is no order exactly when it is bad.
use Prim.Native.Nat.{ℕ, suc, ◌≤◌, ◌<◌}
use native.Mathlib.Omega.{arith}
use mathlib.Core.Path.{◌≡◌, refl, ap, ◌∙◌}
use mathlib.Core.Bool.{true, false}
use mathlib.Core.List.{List, [], ◌∷◌, ◌++◌}
use mathlib.Core.Logic.{◌⊎◌, inl, inr}
use mathlib.Core.Option.{Option, none, some}
use lib.Dec.{eqb, ltb}
use lib.ListN.{length, drop}
use borrow.Author.Tests.{eqb-true, eqb-false, ne_eqb, ltb-true, ltb-false, lt-ltb}
use Rattle.octets.specs.Choice.{pick, by_test, pick_not, pick_so, pick_which, pick_same, impossible}
use Rattle.octets.specs.Exact.{Exactly}
use Rattle.octets.specs.Reading.{oct, Octets}
use Rattle.runs.specs.Run.{Run, Order}
use Rattle.runs.specs.Run.Event.{octet, silence}
use Rattle.runs.specs.Run.Order.{trunk, forget}
use Rattle.playback.specs.Layout.{record_size, record_of, record_octets}
use Rattle.playback.specs.Valid.{ValidOrder, Valid, Bad, Behind}
use Rattle.playback.specs.Valid.Bad.{kind_above, third_pad, fourth_pad, loud_silence}
use Rattle.playback.specs.Valid.Behind.{less, bad}
use Rattle.playback.specs.Reading.{order_of, Records, records, read_on, read_records, Reads}

-- ---- one record
no_order : (o : Order) → none ≡ some o → ⊥
no_order o e = impossible (cc)

-- an order that was read stands there
pub order_is : (k v a b : ℕ) (o : Order) → order_of k v a b ≡ some o → k ∷ v ∷ a ∷ b ∷ [] ≡ record_of o
unfolding order_of
order_is k v a b o e =
    let low = pick_not (ltb 2 k) none _ (some o) (no_order o) e in
    let third = pick_so (eqb a 0) _ none (some o) (no_order o) low.1 in
    let fourth = pick_so (eqb b 0) _ none (some o) (no_order o) third.1 in
    let za : a ≡ 0 = eqb-true a 0 third.0 in
    let zb : b ≡ 0 = eqb-true b 0 fourth.0 in
    by za zb (ltb-false 2 k low.0) (pick_which (eqb k 0) (some (trunk (octet v))) _ (some o) fourth.1)
  where
    rest : Option Order
    rest = pick (eqb k 2) (some (forget v)) (pick (eqb v 0) (some (trunk silence)) none)

    still : a ≡ 0 → b ≡ 0 → k ≡ 1 → pick (eqb v 0) (some (trunk silence)) none ≡ some o → k ∷ v ∷ a ∷ b ∷ [] ≡ record_of o
    still za zb zk q =
        let z = pick_so (eqb v 0) (some (trunk silence)) none (some o) (no_order o) q in
        let w : trunk silence ≡ o = cc in
        rw (za, zb, zk, eqb-true v 0 z.0, ← w)

    other : a ≡ 0 → b ≡ 0 → k ≤ 2 → (k ≡ 0 → ⊥) → ((eqb k 2 ≡ true) × (some (forget v) ≡ some o)) ⊎ ((eqb k 2 ≡ false) × (pick (eqb v 0) (some (trunk silence)) none ≡ some o)) → k ∷ v ∷ a ∷ b ∷ [] ≡ record_of o
    other za zb l n (inl (t, q)) = let w : forget v ≡ o = cc in rw (za, zb, eqb-true k 2 t, ← w)
    other za zb l n (inr (t, q)) = let m : k ≡ 2 → ⊥ = eqb-false k 2 t in still za zb (omega arith) q

    by : a ≡ 0 → b ≡ 0 → k ≤ 2 → ((eqb k 0 ≡ true) × (some (trunk (octet v)) ≡ some o)) ⊎ ((eqb k 0 ≡ false) × (rest ≡ some o)) → k ∷ v ∷ a ∷ b ∷ [] ≡ record_of o
    by za zb l (inl (t, q)) = let w : trunk (octet v) ≡ o = cc in rw (za, zb, eqb-true k 0 t, ← w)
    by za zb l (inr (t, q)) = other za zb l (eqb-false k 0 t) (pick_which (eqb k 2) (some (forget v)) _ (some o) q)

-- a bad record is no order
pub bad_none : (k v a b : ℕ) → Bad k v a b → order_of k v a b ≡ none
unfolding order_of
bad_none k v a b (kind_above l) = rw (lt-ltb 2 k l)
bad_none k v a b (third_pad n) = rw (ne_eqb a 0 n) (pick_same {A = Option Order} (ltb 2 k) none)
bad_none k v a b (fourth_pad n) = rw (ne_eqb b 0 n, pick_same {A = Option Order} (eqb a 0) none) (pick_same {A = Option Order} (ltb 2 k) none)
bad_none k v a b (loud_silence e n) = rw (e, ne_eqb v 0 n, pick_same {A = Option Order} (eqb b 0) none) (pick_same {A = Option Order} (eqb a 0) none)

-- and what is no order is a bad record
pub none_bad : (k v a b : ℕ) → order_of k v a b ≡ none → Bad k v a b
unfolding order_of
none_bad k v a b e =
    by_test (ltb 2 k)
    (λ l. kind_above (ltb-true 2 k l))
    (λ l. by_test (eqb a 0)
    (λ za. by_test (eqb b 0)
    (λ zb. by_test (eqb k 0)
    (λ zk. impossible (let q : some (trunk (octet v)) ≡ none = rw (l, za, zb, zk) at e in cc))
    (λ nk. by_test (eqb k 2)
    (λ zk. impossible (let q : some (forget v) ≡ none = rw (l, za, zb, nk, zk) at e in cc))
    (λ mk. by_test (eqb v 0)
    (λ zv. impossible (let q : some (trunk silence) ≡ none = rw (l, za, zb, nk, mk, zv) at e in cc))
    (λ nv.
    let n0 : k ≡ 0 → ⊥ = eqb-false k 0 nk in
    let n2 : k ≡ 2 → ⊥ = eqb-false k 2 mk in
    let low : k ≤ 2 = ltb-false 2 k l in
    loud_silence (omega arith) (eqb-false v 0 nv)))))
    (λ nb. fourth_pad (eqb-false b 0 nb)))
    (λ na. third_pad (eqb-false a 0 na)))

-- an order is read from its own record
pub order_read : (o : Order) (rest : List ℕ) → read_records (record_of o ++ rest) ≡ read_on (some o) (read_records rest)
unfolding order_of
order_read (trunk (octet x)) rest = refl
order_read (trunk silence) rest = refl
order_read (forget i) rest = refl

-- ---- a run's records
-- what stands behind them is read on
pub read_behind : (run : Run) (o : List ℕ) → read_records (record_octets run ++ o) ≡ records (run ++ (read_records o).front) (read_records o).stop
read_behind [] o = refl
read_behind (trunk (octet x) ∷ run) o = order_read (trunk (octet x)) (record_octets run ++ o) ∙ ap (read_on (some (trunk (octet x)))) (read_behind run o)
read_behind (trunk silence ∷ run) o = order_read (trunk silence) (record_octets run ++ o) ∙ ap (read_on (some (trunk silence))) (read_behind run o)
read_behind (forget i ∷ run) o = order_read (forget i) (record_octets run ++ o) ∙ ap (read_on (some (forget i))) (read_behind run o)

-- the first record and what follows it
pub read_first : (o : List ℕ) → record_size ≤ length o → read_records o ≡ read_on (order_of (oct o 0) (oct o 1) (oct o 2) (oct o 3)) (read_records (drop record_size o))
read_first [] l = absurd (omega arith)
read_first (a ∷ []) l = absurd (omega arith)
read_first (a ∷ b ∷ []) l = absurd (omega arith)
read_first (a ∷ b ∷ c ∷ []) l = absurd (omega arith)
read_first (a ∷ b ∷ c ∷ d ∷ more) l = refl

-- ---- exactly when
valid_order : (o : Order) (k v a b : ℕ) → v < 256 → k ∷ v ∷ a ∷ b ∷ [] ≡ record_of o → ValidOrder o
valid_order (trunk (octet x)) k v a b l e = let z : v ≡ x = cc in rw (← z) l
valid_order (trunk silence) k v a b l e = tt
valid_order (forget i) k v a b l e = let z : v ≡ i = cc in rw (← z) l

-- a record in front of octets that are read soundly
record_sound : (a b c d : ℕ) (more : List ℕ) (run : Run) (y : Option Order) → b < 256 → ((f : Run) → Reads more f → Valid f × (more ≡ record_octets f)) → order_of a b c d ≡ y
    → read_on y (read_records more) ≡ records run 0 → Valid run × (a ∷ b ∷ c ∷ d ∷ more ≡ record_octets run)
record_sound a b c d more run none l ih q e = let z : ◌≡◌ {A = ℕ} 67 0 = ap (λ (w : Records). w.stop) e in absurd (omega arith)
record_sound a b c d more run (some o) l ih q e =
    let f = (read_records more).front in
    let s : (read_records more).stop ≡ 0 = ap (λ (w : Records). w.stop) e in
    let z : o ∷ f ≡ run = ap (λ (w : Records). w.front) e in
    let rest = ih f (ap (λ (n : ℕ). records f n) s) in
    let here = order_is a b c d o q in
    rw (← z) ((valid_order o a b c d l here, rest.0), ap (λ (x : List ℕ). x ++ more) here ∙ ap (λ (x : List ℕ). record_of o ++ x) rest.1)

read_sound : (o : List ℕ) (run : Run) → Octets o → Reads o run → Valid run × (o ≡ record_octets run)
read_sound [] run os e = let z : [] ≡ run = ap (λ (w : Records). w.front) e in rw (← z) (tt, refl)
read_sound (a ∷ []) run os e = let z : ◌≡◌ {A = ℕ} 68 0 = ap (λ (w : Records). w.stop) e in absurd (omega arith)
read_sound (a ∷ b ∷ []) run os e = let z : ◌≡◌ {A = ℕ} 68 0 = ap (λ (w : Records). w.stop) e in absurd (omega arith)
read_sound (a ∷ b ∷ c ∷ []) run os e = let z : ◌≡◌ {A = ℕ} 68 0 = ap (λ (w : Records). w.stop) e in absurd (omega arith)
read_sound (a ∷ b ∷ c ∷ d ∷ more) run os e =
    record_sound a b c d more run (order_of a b c d) (os 1) (λ f h. read_sound more f (λ i. os (suc (suc (suc (suc i))))) h) refl e

nothing_behind : (run : Run) → run ++ [] ≡ run
nothing_behind [] = refl
nothing_behind (o ∷ run) = ap (λ (x : Run). o ∷ x) (nothing_behind run)

octets_end : (o : List ℕ) → o ++ [] ≡ o
octets_end [] = refl
octets_end (x ∷ o) = ap (λ (y : List ℕ). x ∷ y) (octets_end o)

pub records_exactly : Exactly Reads Valid record_octets
records_exactly =
    record {
      sound = read_sound;
      complete = λ run h. rw (octets_end (record_octets run), nothing_behind run) at (read_behind run []);
    }

-- ---- what stands behind a run's records where they are all the good ones
pub behind_none : (o : List ℕ) → Behind o → (read_records o).front ≡ []
behind_none [] (less l) = refl
behind_none (a ∷ []) (less l) = refl
behind_none (a ∷ b ∷ []) (less l) = refl
behind_none (a ∷ b ∷ c ∷ []) (less l) = refl
behind_none (a ∷ b ∷ c ∷ d ∷ more) (less l) = absurd (omega arith)
behind_none (a ∷ b ∷ c ∷ d ∷ more) (bad h) = rw (bad_none a b c d h)

pub front_behind : (run : Run) (o : List ℕ) → Behind o → (read_records (record_octets run ++ o)).front ≡ run
front_behind run o h = rw (read_behind run o, behind_none o h) (nothing_behind run)
