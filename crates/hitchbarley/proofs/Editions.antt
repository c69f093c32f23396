-- The edition's octet of a state area: every call of a trunk leaves it as it was, refused or not.
use Prim.Native.Nat.{ℕ}
use native.Mathlib.Omega.{arith}
use mathlib.Core.Path.{◌≡◌, refl, sym, ap, ◌∙◌}
use mathlib.Core.Bool.{Bool, true}
use mathlib.Core.List.{List}
use lib.Dec.{eqb}
use lib.ListN.{length}
use borrow.Author.Tests.{eqb-true}
use Rattle.octets.specs.Choice.{both, pick_so, by_test, both_true}
use Rattle.apdu.specs.declared.Edition.TheVariants.{First}
use Rattle.collector.specs.Calls.{slot_count, fresh_collector}
use Rattle.collector.specs.declared.Collector.{Collector}
use Rattle.state.specs.Link.{link_good}
use Rattle.state.specs.Edition.{edition_octet, edition_good, edition_of}
use Rattle.state.specs.Layout.{state_size, link_part, edition_at}
use Rattle.state.specs.Calls.{slots_good, state_good, state_at, Loaded, loaded, load_of, Loads}
use Rattle.state.proofs.Edition.{edition_stands}
use Rattle.state.proofs.Exact.{accepted}
use Rattle.hitchbarley.specs.Trunk.{bar, inside, feed_bar, feed_left, silence_bar, silence_left, forget_left, Feeds, Stills, Forgets}
use Rattle.hitchbarley.specs.Replay.{replay_left, Replays}

-- octets that are loaded as a state have its edition's octet at its place
not_refused : (n : ℕ) (c : Collector) → (n ≡ 0 → ⊥) → loaded n (fresh_collector First) ≡ loaded 0 c → ⊥
not_refused n c h e = h (ap (λ (l : Loaded). l.refused) e)

pub loads_edition : (o : List ℕ) (c : Collector) → Loads o c → edition_at o ≡ edition_octet c.edition
unfolding load_of state_good state_at
loads_edition o c l =
    let a = pick_so (eqb (length o) state_size) _ _ (loaded 0 c) (not_refused 60 c (λ z. omega arith)) l in
    let b = pick_so (state_good o) _ _ (loaded 0 c) (not_refused 59 c (λ z. omega arith)) a.1 in
    let h = both_true (link_good (link_part o)) (both (edition_good (edition_at o)) (slots_good o 0 slot_count)) b.0 in
    let g = (both_true (edition_good (edition_at o)) (slots_good o 0 slot_count) h.1).0 in
    let s : edition_of (edition_at o) ≡ c.edition = ap (λ (l : Loaded). l.state.edition) b.1 in
    sym (edition_stands (edition_at o) g) ∙ ap edition_octet s

-- so a state of the same edition has the same octet there
module _ (state state' : List ℕ) where
  same_octet : (d : Collector) → (load_of state).refused ≡ 0 → Loads state' d → d.edition ≡ (inside state).edition → edition_at state' ≡ edition_at state
  same_octet d z m e = loads_edition state' d m ∙ ap edition_octet e ∙ sym (loads_edition state (inside state) (accepted state z))

  held : (others : Bool) → bar others state ≡ 0 → (load_of state).refused ≡ 0
  unfolding bar
  held others z = (pick_so others (load_of state).refused 60 0 (λ e. omega arith) z).1

  pub feeds_edition : {report area piece : List ℕ} {r eaten reported : ℕ} {report' area' : List ℕ}
      → Feeds state report area piece r eaten reported state' report' area' → edition_at state' ≡ edition_at state
  unfolding feed_left feed_bar
  feeds_edition {report} {area} y =
      by_test (eqb (feed_bar state report area) 0)
      (λ z. let b = eqb-true _ _ z in same_octet _ (held _ b) (y.again b) refl)
      (λ z. let e : state' ≡ state = y.state_after ∙ rw z in ap edition_at e)

  pub stills_edition : {report : List ℕ} {r reported : ℕ} {report' : List ℕ} → Stills state report r reported state' report' → edition_at state' ≡ edition_at state
  unfolding silence_left silence_bar
  stills_edition {report} y =
      by_test (eqb (silence_bar state report) 0)
      (λ z. let b = eqb-true _ _ z in same_octet _ (held _ b) (y.again b) refl)
      (λ z. let e : state' ≡ state = y.state_after ∙ rw z in ap edition_at e)

  pub forgets_edition : {s r : ℕ} → Forgets state s r state' → edition_at state' ≡ edition_at state
  unfolding forget_left
  forgets_edition y =
      by_test (eqb (bar true state) 0)
      (λ z. let b = eqb-true _ _ z in same_octet _ (held true b) (y.again b) refl)
      (λ z. let e : state' ≡ state = y.state_after ∙ rw z in ap edition_at e)

  pub replays_edition : {report area o : List ℕ} {r eaten reported : ℕ} {report' area' : List ℕ}
      → Replays state report area o r eaten reported state' report' area' → edition_at state' ≡ edition_at state
  unfolding replay_left feed_bar
  replays_edition {report} {area} y =
      by_test (eqb (feed_bar state report area) 0)
      (λ z. let b = eqb-true _ _ z in same_octet _ (held _ b) (y.again b) refl)
      (λ z. let e : state' ≡ state = y.state_after ∙ rw z in ap edition_at e)
