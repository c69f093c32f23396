-- How a replay over octets comes to what it promises: a refusal before it, or the replay over what the state area holds.
use Rattle.std.specs.Prelude.{Result, Ok, Err}
use Prim.Native.Nat.{ℕ}
use mathlib.Core.Path.{◌≡◌, refl, sym, ap, subst, ◌∙◌}
use mathlib.Core.Bool.{false}
use mathlib.Core.List.{List, [], ◌++◌}
use lib.ListN.{length, take, drop}
use borrow.Author.Tests.{ne_eqb}
use Rattle.octets.specs.Reading.{Octets}
use Rattle.octets.specs.Refusal.{number_of, fault_of}
use Rattle.octets.specs.declared.refusal.Refusal.{Refusal}
use Rattle.rebuild.specs.declared.Slots.{Slots}
use Rattle.reports.specs.Layout.{report_size}
use Rattle.collector.specs.Lent.{over}
use Rattle.collector.specs.declared.Collector.{Collector}
use Rattle.records.specs.Flag.{flag}
use Rattle.state.specs.Link.{link_size, link_octets}
use Rattle.state.specs.Layout.{state_size, store_place, store_size, store_part}
use Rattle.state.specs.declared.Lifted as Code
use Rattle.state.specs.Calls.{Lifted, lift_of, lifted_of, Lays, LaysBoth}
use Rattle.state.proofs.Places.{Holds, holds_octets, holds_loads, store_over, link_over, slots_over}
use Rattle.playback.specs.Calls.{Plays}
use Rattle.playback.specs.Lent as Lent
use Rattle.playback.specs.Lent.{went_over}
use Rattle.playback.specs.Answers.{Went, went_of}
use Rattle.playback.specs.declared.lent.Went as Played
use Rattle.hitchbarley.specs.Trunk.{barred, state_of, passed, inside, feed_bar}
use Rattle.hitchbarley.specs.Replay.{came_to, replay_left, Replays}
use Rattle.hitchbarley.proofs.Passed.{refused_some, lifted_size, whole, number_of_lem, eaten_of, reported_of, state_of_lem, report_of, area_of_lem, lifted_holds, lifted_inside, sizes}

module _ (state report area o : List ℕ) where
  replays_barred : (n : ℕ) → feed_bar state report area ≡ n → (n ≡ 0 → ⊥) → Replays state report area o n 0 0 state report area
  unfolding replay_left
  replays_barred n e h =
      let l : replay_left state report area o ≡ barred n state report area = rw (e, ne_eqb n 0 h) in
      record {
        number = number_of_lem l;
        ate = eaten_of l;
        spoke = reported_of l;
        state_after = state_of_lem l;
        report_after = report_of l;
        area_after = area_of_lem l;
        again = λ z. absurd (h (sym e ∙ z));
      }

  module _ (k : length report ≡ report_size) (m : length area ≡ 65536) (w : Lifted) (e : w ≡ lift_of state) where
    pub replays_not : (w.refused ≡ 0 → ⊥) → Replays state report area o w.refused 0 0 state report area
    replays_not h = replays_barred w.refused (sizes state report area [] k m w e) h

    replays_on : w.refused ≡ 0 → {f : Went} {t : Slots} {s state' report' area' : List ℕ} → Lent.Replays w.edition w.link w.slots (store_part state) report area o f s report' area'
        → f.slots ≡ t → Holds state' (over w.edition f.link t s) → Replays state report area o f.refused f.eaten (flag f.reported) state' report' area'
    unfolding replay_left
    replays_on z {f} {t} {s} {state'} {report'} {area'} y g h =
        let d = came_to state report area o in
        let c : Collector = (went_over w.edition f s).state in
        let y' = subst (λ (x : Collector). Plays x report area o (went_over w.edition f s) report' area') (lifted_inside state e z) y.plays in
        let q : replay_left state report area o ≡ passed (inside state).edition d.number d.left report = rw (sizes state report area [] k m w e, z) in
        let v : c ≡ state_of (inside state).edition d.left = whole c _ d.left.state d.left.slots y'.edition y'.receiver y'.slots in
        let h' : Holds state' (state_of (inside state).edition d.left) = rw (← v, g) h in
        record {
          number = y'.refused ∙ number_of_lem q;
          ate = y'.eaten ∙ eaten_of q;
          spoke = ap flag y'.reported ∙ reported_of q;
          state_after = holds_octets h' ∙ state_of_lem q;
          report_after = y'.report_after ∙ report_of q;
          area_after = y'.area_after ∙ area_of_lem q;
          again = λ b. holds_loads h';
        }

  -- what lifting gave: refused, or the replay with store and link laid back; slots that have moved are laid too, others are those that were there
  module _ (k : length report ≡ report_size) (m : length area ≡ 65536) {x : Result Code.Lifted Refusal} (e : lifted_of x ≡ lift_of state) where
    pub replays_refused : {r : Refusal} {n : ℕ} → x ≡ Err r → n ≡ number_of r → Replays state report area o n 0 0 state report area
    replays_refused {r} q z = rw z (replays_not k m (lifted_of (Err r)) (rw q at e) (refused_some r refl))

    module _ (os : Octets state) {l : Code.Lifted} (q : x ≡ Ok l) where
      abbrev w : Lifted
      w = lifted_of (Ok l)

      is : w ≡ lift_of state
      is = rw q at e

      pub lifted_long : length state ≡ state_size
      lifted_long = lifted_size state is refl

      -- the area with the store that the replay left
      abbrev stored : List ℕ → List ℕ
      stored s = take store_place state ++ (s ++ drop store_size (drop store_place state))

      stored_holds : {s : List ℕ} → length s ≡ store_size → Holds (stored s) (over l.edition l.link l.slots s)
      stored_holds {s} n = store_over (lifted_holds state os is refl) s n

      module _ (f : Played.Went) {s report' area' : List ℕ} (y : Lent.Replays l.edition l.link l.slots (store_part state) report area o (went_of f) s report' area') (n : length s ≡ store_size)
          {r u : ℕ} (z : r ≡ fault_of f.answer) (v : u ≡ flag f.reported) where
        pub replays_stayed : {i : ℕ} {state' : List ℕ} → Lays 0 link_size (link_octets f.link) (stored s) i state' → f.moved ≡ false
            → Replays state report area o r f.eaten u state' report' area'
        replays_stayed d g = rw (z, v) (replays_on k m w is refl y (y.kept g) (link_over (stored_holds n) d))

        pub replays_moved : {i : ℕ} {state' : List ℕ} → LaysBoth f.link f.slots (stored s) i state'
            → Replays state report area o r f.eaten u state' report' area'
        replays_moved d = rw (z, v) (replays_on k m w is refl y refl (slots_over (link_over (stored_holds n) d.link) d.slots))
