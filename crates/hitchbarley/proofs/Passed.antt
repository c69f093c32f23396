-- How the calls of a trunk come to what they promise: a refusal before the collector's call, or that call over what the state area holds.
use Rattle.std.specs.Prelude.{Result, Ok, Err}
use Prim.Native.Nat.{ℕ}
use mathlib.Core.Path.{◌≡◌, refl, sym, ap, subst, ◌∙◌}
use mathlib.Core.Bool.{true}
use mathlib.Core.List.{List, []}
use lib.ListN.{length}
use native.Mathlib.Omega.{arith}
use borrow.Author.Tests.{eq-eqb, ne_eqb}
use Rattle.octets.specs.Reading.{Octets}
use Rattle.octets.specs.Refusal.{number_of, number_some}
use Rattle.octets.specs.declared.refusal.Refusal.{Refusal}
use Rattle.apdu.specs.declared.Edition.{Edition}
use Rattle.frames.specs.declared.Receiver.{Receiver}
use Rattle.messages.specs.Slots as Messages
use Rattle.rebuild.specs.View.{unview}
use Rattle.rebuild.specs.declared.Key.{Key}
use Rattle.rebuild.specs.declared.Slots.{Slots}
use Rattle.rebuild.proofs.Seen.{unview_view}
use Rattle.reports.specs.Layout.{report_size}
use Rattle.collector.specs.Calls as Calls
use Rattle.collector.specs.Calls.{fresh_collector, slots_of, feed_refusal, feeding, silence_refusal, stilling}
use Rattle.collector.specs.Lent.{over, fed_over, Eats, fell_over, Hushes, forgot_over, Frees}
use Rattle.collector.specs.declared.Collector.{Collector}
use Rattle.collector.specs.Answers.{Ate, Hushed, Freed, freed_of}
use Rattle.records.specs.Flag.{flag}
use Rattle.state.specs.Edition.{edition_of}
use Rattle.state.specs.Layout.{state_size, store_part, state_octets}
use Rattle.state.specs.declared.Lifted as Code
use Rattle.state.specs.Calls.{Lifted, load_of, lift_of, lifted_of, LaysSlots, Saves}
use Rattle.state.proofs.Exact.{accepted_size, accepted_store}
use Rattle.state.proofs.Places.{Holds, accepted_holds, holds_octets, holds_loads, slots_over}
use Rattle.hitchbarley.specs.Trunk.{Left, barred, state_by, state_of, passed, bar, inside, feed_bar, feed_left, silence_bar, silence_left, forget_number_of, forgotten, forget_left, Feeds, Stills, Forgets}

-- a state by its parts
pub whole : (c : Collector) (d : Edition) (r : Receiver) (s : List (Messages.Slot Key)) → c.edition ≡ d → c.receiver ≡ r → slots_of c ≡ s → c ≡ state_by d r s
whole c d r s g e f =
    let t : c.slots ≡ unview s = sym (unview_view c.slots) ∙ ap unview f in
    rw (← g, ← e, ← t)

-- what is left by equal answers
pub number_of_lem : {a b : Left} → a ≡ b → b.number ≡ a.number
number_of_lem e = sym (ap (λ (d : Left). d.number) e)

pub eaten_of : {a b : Left} → a ≡ b → b.eaten ≡ a.eaten
eaten_of e = sym (ap (λ (d : Left). d.eaten) e)

pub reported_of : {a b : Left} → a ≡ b → b.reported ≡ a.reported
reported_of e = sym (ap (λ (d : Left). d.reported) e)

pub state_of_lem : {a b : Left} → a ≡ b → b.state ≡ a.state
state_of_lem e = sym (ap (λ (d : Left). d.state) e)

pub report_of : {a b : Left} → a ≡ b → b.report ≡ a.report
report_of e = sym (ap (λ (d : Left). d.report) e)

pub area_of_lem : {a b : Left} → a ≡ b → b.area ≡ a.area
area_of_lem e = sym (ap (λ (d : Left). d.area) e)

-- what is lifted: edition, link and slots by value, the store in its place
pub lifted_holds : (state : List ℕ) → Octets state → {w : Lifted} → w ≡ lift_of state → w.refused ≡ 0 → Holds state (over w.edition w.link w.slots (store_part state))
unfolding lift_of
lifted_holds state os e z =
    let y : (load_of state).refused ≡ 0 = rw e at z in
    rw (e, accepted_store state y) (accepted_holds state os y)

pub lifted_inside : (state : List ℕ) {w : Lifted} → w ≡ lift_of state → w.refused ≡ 0 → over w.edition w.link w.slots (store_part state) ≡ inside state
unfolding lift_of
lifted_inside state e z =
    let y : (load_of state).refused ≡ 0 = rw e at z in
    rw (e, accepted_store state y)

pub lifted_size : (state : List ℕ) {w : Lifted} → w ≡ lift_of state → w.refused ≡ 0 → length state ≡ state_size
unfolding lift_of
lifted_size state e z = accepted_size state (rw e at z)

-- a refusal has a number
pub refused_some : {n : ℕ} (r : Refusal) → n ≡ number_of r → n ≡ 0 → ⊥
refused_some r e z = let s = number_some r in omega arith

lifted_number : (state : List ℕ) {w : Lifted} → w ≡ lift_of state → (load_of state).refused ≡ w.refused
unfolding lift_of
lifted_number state e = sym (ap (λ (x : Lifted). x.refused) e)

-- ---- a fresh state
pub saves_fresh : (x : ℕ) {d : Edition} → d ≡ edition_of x → (c : Collector) → c ≡ fresh_collector d → (area : List ℕ) (r : ℕ) (later : List ℕ) → Saves c area r later → Saves (fresh_collector (edition_of x)) area r later
saves_fresh x q c e area r later h = rw (← q, ← e) h

-- ---- feeding
module _ (state report area piece : List ℕ) where
  feeds_barred : (n : ℕ) → feed_bar state report area ≡ n → (n ≡ 0 → ⊥) → Feeds state report area piece n 0 0 state report area
  unfolding feed_left
  feeds_barred n e h =
      let l : feed_left state report area piece ≡ barred n state report area = rw (e, ne_eqb n 0 h) in
      record {
        number = number_of_lem l;
        ate = eaten_of l;
        spoke = reported_of l;
        state_after = state_of_lem l;
        report_after = report_of l;
        area_after = area_of_lem l;
        again = λ z. absurd (h (sym e ∙ z));
      }

  module _ (k : length report ≡ report_size) (m : length area ≡ 65536) (w : Lifted) (e : w ≡ lift_of state) where
    pub sizes : feed_bar state report area ≡ w.refused
    unfolding feed_bar bar
    sizes = rw (eq-eqb (length report) report_size k, eq-eqb (length area) 65536 m) (lifted_number state e)

    pub feeds_not : (w.refused ≡ 0 → ⊥) → Feeds state report area piece w.refused 0 0 state report area
    feeds_not h = feeds_barred w.refused sizes h

    pub feeds_on : w.refused ≡ 0 → {f : Ate} {t : Slots} {s state' report' area' : List ℕ} → Eats w.edition w.link w.slots (store_part state) report area piece f s report' area'
        → f.slots ≡ t → Holds state' (over w.edition f.link t s) → Feeds state report area piece f.refused f.eaten (flag f.reported) state' report' area'
    unfolding feed_left
    feeds_on z {f} {t} {s} {state'} {report'} {area'} y g h =
        let d = feeding (inside state) report area piece in
        let c : Collector = (fed_over w.edition f s).state in
        let y' = subst (λ (x : Collector). Calls.Feeds x report area piece (fed_over w.edition f s) report' area') (lifted_inside state e z) y.feeds in
        let q : feed_left state report area piece ≡ passed (inside state).edition (feed_refusal (inside state) report area) d report = rw (sizes, z) in
        let v : c ≡ state_of (inside state).edition d = whole c _ d.state d.slots y'.edition y'.receiver y'.slots in
        let h' : Holds state' (state_of (inside state).edition d) = rw (← v, g) h in
        record {
          number = y'.refused ∙ number_of_lem q;
          ate = y'.eaten ∙ eaten_of q;
          spoke = ap flag y'.reported ∙ reported_of q;
          state_after = holds_octets h' ∙ state_of_lem q;
          report_after = y'.report_after ∙ report_of q;
          area_after = y'.area_after ∙ area_of_lem q;
          again = λ b. holds_loads h';
        }

-- ---- a silence
module _ (state report : List ℕ) where
  stills_barred : (n : ℕ) → silence_bar state report ≡ n → (n ≡ 0 → ⊥) → Stills state report n 0 state report
  unfolding silence_left
  stills_barred n e h =
      let l : silence_left state report ≡ barred n state report [] = rw (e, ne_eqb n 0 h) in
      record { number = number_of_lem l; spoke = reported_of l; state_after = state_of_lem l; report_after = report_of l; again = λ z. absurd (h (sym e ∙ z)) }

  module _ (k : length report ≡ report_size) (w : Lifted) (e : w ≡ lift_of state) where
    silence_sizes : silence_bar state report ≡ w.refused
    unfolding silence_bar bar
    silence_sizes = rw (eq-eqb (length report) report_size k) (lifted_number state e)

    pub stills_not : (w.refused ≡ 0 → ⊥) → Stills state report w.refused 0 state report
    stills_not h = stills_barred w.refused silence_sizes h

    pub stills_on : w.refused ≡ 0 → {f : Hushed} {state' report' : List ℕ} → Hushes w.link w.slots report f report'
        → Holds state' (over w.edition f.link w.slots (store_part state)) → Stills state report f.refused (flag f.reported) state' report'
    unfolding silence_left
    stills_on z {f} {state'} {report'} y h =
        let s = store_part state in
        let d = stilling (inside state) report [] in
        let c : Collector = (fell_over w.edition f w.slots s).state in
        let y' = subst (λ (x : Collector). Calls.Stills x report (fell_over w.edition f w.slots s) report') (lifted_inside state e z) (y w.edition s) in
        let q : silence_left state report ≡ passed (inside state).edition (silence_refusal (inside state) report) d report = rw (silence_sizes, z) in
        let v : c ≡ state_of (inside state).edition d = whole c _ d.state d.slots y'.edition y'.receiver y'.slots in
        let h' : Holds state' (state_of (inside state).edition d) = rw (← v) h in
        record {
          number = y'.refused ∙ number_of_lem q;
          spoke = ap flag y'.reported ∙ reported_of q;
          state_after = holds_octets h' ∙ state_of_lem q;
          report_after = y'.report_after ∙ report_of q;
          again = λ b. holds_loads h';
        }

-- ---- forgetting
module _ (state : List ℕ) (i : ℕ) (w : Lifted) (e : w ≡ lift_of state) where
  forget_sizes : bar true state ≡ w.refused
  unfolding bar
  forget_sizes = lifted_number state e

  pub forgets_not : (w.refused ≡ 0 → ⊥) → Forgets state i w.refused state
  unfolding forget_left
  forgets_not h =
      let q : forget_left state i ≡ barred w.refused state [] [] = rw (forget_sizes, ne_eqb w.refused 0 h) in
      record { number = number_of_lem q; state_after = state_of_lem q; again = λ z. absurd (h (sym forget_sizes ∙ z)) }

  pub forgets_on : w.refused ≡ 0 → {f : Freed} {state' : List ℕ} → Frees w.link w.slots i f → Holds state' (over w.edition w.link f.slots (store_part state))
      → Forgets state i f.number state'
  unfolding forget_left forget_number_of
  forgets_on z {f} {state'} y h =
      let s = store_part state in
      let y' = subst (λ (x : Collector). Calls.Forgets x i (forgot_over w.edition f w.link s)) (lifted_inside state e z) (y w.edition s) in
      let q : forget_left state i ≡ record { number = forget_number_of (inside state) i; eaten = 0; reported = 0; state = state_octets (forgotten (inside state) i); report = []; area = [] } = rw (forget_sizes, z) in
      let c : Collector = (forgot_over w.edition f w.link s).state in
      let v : c ≡ forgotten (inside state) i = whole c _ _ _ y'.edition y'.receiver y'.slots in
      let h' : Holds state' (forgotten (inside state) i) = rw (← v) h in
      record { number = y'.number ∙ number_of_lem q; state_after = holds_octets h' ∙ state_of_lem q; again = λ b. holds_loads h' }

-- what lifting gave, and then forgetting: refused, or with the slots laid back
module _ (state : List ℕ) (i : ℕ) (os : Octets state) {x : Result Code.Lifted Refusal} (e : lifted_of x ≡ lift_of state) where
  pub forgets_refused : {r : Refusal} {n : ℕ} → x ≡ Err r → n ≡ number_of r → Forgets state i n state
  forgets_refused {r} q z = rw z (forgets_not state i (lifted_of (Err r)) (rw q at e) (refused_some r refl))

  module _ {o : Code.Lifted} (q : x ≡ Ok o) where
    abbrev w : Lifted
    w = lifted_of (Ok o)

    is : w ≡ lift_of state
    is = rw q at e

    module _ {y : Result Slots Refusal} (h : Frees o.link o.slots i (freed_of o.slots y)) where
      pub forgets_stayed : {r : Refusal} {n : ℕ} → y ≡ Err r → n ≡ number_of r → Forgets state i n state
      forgets_stayed p z = rw z (forgets_on state i w is refl (rw p at h) (lifted_holds state os is refl))

      pub forgets_laid : {t : Slots} {r : ℕ} {state' : List ℕ} → y ≡ Ok t → LaysSlots t state r state' → Forgets state i 0 state'
      forgets_laid p d = forgets_on state i w is refl (rw p at h) (slots_over (lifted_holds state os is refl) d)
