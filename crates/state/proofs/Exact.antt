-- State to octets and back is the same state: octets are loaded as c exactly when they are c's octets.
use Prim.Native.Nat.{ℕ}
use native.Mathlib.Omega.{arith}
use mathlib.Core.Path.{◌≡◌, ap, subst, ◌∙◌}
use mathlib.Core.Bool.{Bool, true, false}
use mathlib.Core.List.{List}
use lib.Dec.{eqb}
use lib.ListN.{length}
use borrow.Author.Tests.{eq-eqb, ne_eqb, eqb-true}
use Rattle.octets.specs.Choice.{pick_so, by_test}
use Rattle.octets.specs.Reading.{Octets}
use Rattle.octets.specs.Exact.{Exactly}
use Rattle.apdu.specs.declared.Edition.{Edition}
use Rattle.apdu.specs.declared.Edition.TheVariants.{First}
use Rattle.frames.specs.declared.Link.{Link}
use Rattle.rebuild.specs.declared.Slots.{Slots}
use Rattle.collector.specs.declared.Collector.{Collector}
use Rattle.collector.specs.Calls.{fresh_collector}
use Rattle.state.specs.Link.{link_of}
use Rattle.state.specs.Edition.{edition_of}
use Rattle.state.specs.Layout.{state_size, link_part, store_part, edition_at, state_octets, Fits}
use Rattle.state.specs.Calls.{Lifted, state_good, state_at, Loaded, loaded, load_of, Loads, lifted_as, lift_of}
use Rattle.state.proofs.Whole.{Shaped, fits_shaped, state_size_lem, state_back, state_fits, state_stands}

-- the state's octets are loaded as it
pub shaped_loads : (c : Collector) → Shaped c → Loads (state_octets c) c
unfolding load_of
shaped_loads c f =
    let b = state_back c f in
    rw (eq-eqb (length (state_octets c)) state_size (state_size_lem c f), b.1, b.0)

pub saved_loads : (c : Collector) (o : List ℕ) → Shaped c → o ≡ state_octets c → Loads o c
saved_loads c o f e = rw e (shaped_loads c f)

pub loads_back : (c : Collector) → Fits c → Loads (state_octets c) c
loads_back c f = shaped_loads c (fits_shaped f)

-- what was accepted: octets that are a state's
refusing : (n : ℕ) (c : Collector) → (n ≡ 0 → ⊥) → loaded n (fresh_collector First) ≡ loaded 0 c → ⊥
refusing n c h e = h (ap (λ (l : Loaded). l.refused) e)

pub loads_only : (o : List ℕ) (c : Collector) → Octets o → Loads o c → Fits c × (o ≡ state_octets c)
unfolding load_of
loads_only o c os e =
    let a = pick_so (eqb (length o) state_size) _ _ (loaded 0 c) (refusing 60 c (λ z. omega arith)) e in
    let b = pick_so (state_good o) _ _ (loaded 0 c) (refusing 59 c (λ z. omega arith)) a.1 in
    let n : length o ≡ state_size = eqb-true (length o) state_size a.0 in
    let s : state_at o ≡ c = ap (λ (l : Loaded). l.state) b.1 in
    (subst Fits s (state_fits o os n b.0), state_stands o os n b.0 ∙ ap state_octets s)

pub state_exactly : Exactly Loads Fits state_octets
state_exactly = record { sound = loads_only; complete = loads_back }

-- what is accepted is accepted as what it is loaded as
pub accepted : (o : List ℕ) → (load_of o).refused ≡ 0 → Loads o (load_of o).state
accepted o e = ap (λ (n : ℕ). loaded n (load_of o).state) e

-- its frame store stands in its place
pub accepted_store : (o : List ℕ) → (load_of o).refused ≡ 0 → store_part o ≡ (load_of o).state.receiver.store
unfolding load_of state_at
accepted_store o e =
    by_test (eqb (length o) state_size)
    (λ d. by_test (state_good o) (λ g. rw (d, g)) (λ g. let z : ◌≡◌ {A = ℕ} 59 0 = rw (d, g) at e in absurd (omega arith)))
    (λ d. let z : ◌≡◌ {A = ℕ} 60 0 = rw d at e in absurd (omega arith))

-- what loading accepts has a state's size
pub accepted_size : (o : List ℕ) → (load_of o).refused ≡ 0 → length o ≡ state_size
unfolding load_of
accepted_size o e =
    by_test (eqb (length o) state_size) (eqb-true (length o) state_size)
    (λ d. let z : ◌≡◌ {A = ℕ} 60 0 = rw d at e in absurd (omega arith))

-- ---- lifting, by the tests that are made: the area's size, and whether its octets are a state's (g)
pub lifts_sixty : (o : List ℕ) (r : Lifted) → (length o ≡ state_size → ⊥) → r ≡ lifted_as (loaded 60 (fresh_collector First)) → r ≡ lift_of o
unfolding lift_of load_of
lifts_sixty o r n e = rw (ne_eqb (length o) state_size n) e

module _ (o : List ℕ) (size : length o ≡ state_size) (g : Bool) (judged : g ≡ state_good o) where
  pub lifts_bad : (r : Lifted) → g ≡ false → r ≡ lifted_as (loaded 59 (fresh_collector First)) → r ≡ lift_of o
  unfolding lift_of load_of
  lifts_bad r f e = rw (eq-eqb (length o) state_size size, ← judged, f) e

  pub lifts_good : (x : Edition) (l : Link) (t : Slots) → g ≡ true → x ≡ edition_of (edition_at o) → l ≡ link_of (link_part o) → t ≡ (state_at o).slots
      → record { refused = 0; edition = x; link = l; slots = t } ≡ lift_of o
  unfolding lift_of load_of state_at
  lifts_good x l t h y e d = rw (eq-eqb (length o) state_size size, ← judged, h, y, e, d)

-- for `search (rules, lifts)`
pub ruleset lifts = (lifts_sixty, lifts_bad, lifts_good)
