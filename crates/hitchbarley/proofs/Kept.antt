-- What a trunk's call leaves has its arrays, so its octets are a state again: there is an answer that the promise of each call allows.
use Prim.Native.Nat.{ℕ}
use native.Mathlib.Omega.{arith}
use mathlib.Core.Path.{◌≡◌, refl, sym, ap, subst, ◌∙◌}
use mathlib.Core.Bool.{Bool, true}
use mathlib.Core.List.{List, []}
use lib.Dec.{eqb}
use lib.ListN.{length, length-map, length-replicate}
use borrow.Author.Tests.{eq-eqb, eqb-true}
use Rattle.octets.specs.Choice.{pick, pick_case, pick_cases, pick_so, by_test, both_left}
use Rattle.octets.specs.Reading.{Octets}
use Rattle.apdu.specs.declared.Edition.{Edition}
use Rattle.frames.specs.Answers.{Fell}
use Rattle.frames.specs.declared.Receiver.{Receiver}
use Rattle.frames.specs.Step.{sound_of, feed_of, silence_of, still_of}
use Rattle.messages.specs.Slots as Messages
use Rattle.rebuild.specs.View.{keys, back, free_slot}
use Rattle.rebuild.specs.declared.Key.{Key}
use Rattle.rebuild.specs.declared.Slots.{Slots}
use Rattle.rebuild.proofs.Seen.{unview_view}
use Rattle.recordings.specs.Frames.{rules}
use Rattle.reports.specs.Layout.{report_size}
use Rattle.collector.specs.Frame.{bacnet}
use Rattle.collector.specs.Calls.{passing, sized, box, slots_of, fresh_collector, Answered, feeding, stilling}
use Rattle.collector.specs.declared.Collector.{Collector}
use Rattle.collector.proofs.Reached.{keeps, Fair, feed_fair}
use Rattle.state.specs.Slot.{SlotShaped}
use Rattle.state.specs.Layout.{state_size, state_octets}
use Rattle.state.specs.Calls.{load_of, Saves}
use Rattle.state.proofs.Whole.{Shaped, fits_shaped}
use Rattle.state.proofs.Exact.{accepted, loads_only, shaped_loads}
use Rattle.hitchbarley.specs.Trunk.{state_by, state_of, bar, inside, feed_bar, feed_left, silence_bar, silence_left, forgotten, forget_left, Feeds, Stills, Forgets}
use Rattle.hitchbarley.proofs.Sizes.{Sized, sized_seen, sized_back, sized_fed, sized_free}

by_shape : (d : Edition) (r : Receiver) (s : List (Messages.Slot Key)) → length r.link.head ≡ 5 → length r.store ≡ 501 → length s ≡ 4 → Sized s → Shaped (state_by d r s)
by_shape d r s head store four q = record { head = head; store = store; four = length-map s back ∙ four; slots = sized_back s q }

-- slots that 59 passes are four
passing_shape : (d : Edition) (r : Receiver) (s : List (Messages.Slot Key)) → length r.link.head ≡ 5 → length r.store ≡ 501 → passing s ≡ true → Sized s → Shaped (state_by d r s)
passing_shape d r s head store p q = by_shape d r s head store (eqb-true (length s) 4 (both_left _ _ p)) q

module _ (c : Collector) (f : Shaped c) where
  -- unmoved
  same_shaped : Shaped (state_by c.edition c.receiver (slots_of c))
  same_shaped = subst Shaped (ap (λ (t : Slots). record { edition = c.edition; receiver = c.receiver; slots = t }) (sym (unview_view c.slots))) f

  slots_four : length (slots_of c) ≡ 4
  slots_four = sym (length-map (slots_of c) back) ∙ same_shaped.four

  sizes : Sized (slots_of c)
  sizes = sized_seen c.slots.slots f.slots

  fed_shaped : (area piece : List ℕ) → Shaped (state_of c.edition ((box c.edition).feed c.receiver (slots_of c) area piece))
  unfolding feed_of
  fed_shaped area piece =
      by_test (sized area)
      (λ z. by_test (passing (slots_of c))
      (λ p. by_test (sound_of c.receiver)
      (λ o.
      let F : Fair c.receiver (slots_of c) area = record { receiver = record { left = o; head = f.head; store = f.store }; slots = p; area = z } in
      let d = (box c.edition).feed c.receiver (slots_of c) area piece in
      let G = feed_fair c.edition F piece in
      passing_shape c.edition d.state d.slots G.receiver.head G.receiver.store G.slots (sized_fed c.edition F sizes piece))
      (λ o. rw (z, p, o) same_shaped))
      (λ p. rw (z, p) same_shaped))
      (λ z. rw z same_shaped)

  pub feeding_shaped : (report area piece : List ℕ) → Shaped (state_of c.edition (feeding c report area piece))
  unfolding feeding
  feeding_shaped report area piece = pick_case (λ (d : Answered). Shaped (state_of c.edition d)) (eqb (length report) report_size) (fed_shaped area piece) same_shaped

  silent_shaped : Shaped (state_by c.edition (silence_of c.receiver).receiver (slots_of c))
  unfolding silence_of still_of
  silent_shaped =
      pick_case (λ (x : Fell). Shaped (state_by c.edition x.receiver (slots_of c))) (sound_of c.receiver)
      (by_shape _ _ (slots_of c) f.head f.store slots_four sizes) same_shaped

  pub stilling_shaped : (report : List ℕ) → Shaped (state_of c.edition (stilling c report []))
  unfolding stilling
  stilling_shaped report =
      pick_case (λ (d : Answered). Shaped (state_of c.edition d)) (eqb (length report) report_size)
      (pick_case (λ (d : Answered). Shaped (state_of c.edition d)) (passing (slots_of c)) silent_shaped same_shaped) same_shaped

  pub forgotten_shaped : (n : ℕ) → Shaped (forgotten c n)
  forgotten_shaped n =
      pick_cases (λ (s : List (Messages.Slot Key)). Shaped (state_by c.edition c.receiver s)) (passing (slots_of c))
      (λ p. pick_case (λ (s : List (Messages.Slot Key)). Shaped (state_by c.edition c.receiver s)) (sound_of c.receiver)
      (passing_shape c.edition c.receiver ((rules keys (bacnet c.edition)).free n (slots_of c)) f.head f.store ((keeps c.edition).free n (slots_of c) p) (sized_free n (slots_of c) sizes)) same_shaped)
      (λ _. same_shaped)

-- an area that was loaded holds a state
module _ (state : List ℕ) (os : Octets state) where
  held : (load_of state).refused ≡ 0 → Shaped (inside state)
  held z = fits_shaped (loads_only state (inside state) os (accepted state z)).0

  loaded : (others : Bool) → bar others state ≡ 0 → (load_of state).refused ≡ 0
  unfolding bar
  loaded others z = (pick_so others (load_of state).refused 60 0 (λ e. omega arith) z).1

  pub feeds_some : (report area piece : List ℕ)
      → (let d = feed_left state report area piece in Feeds state report area piece d.number d.eaten d.reported d.state d.report d.area)
  unfolding feed_left feed_bar
  feeds_some report area piece =
      record {
        number = refl;
        ate = refl;
        spoke = refl;
        state_after = refl;
        report_after = refl;
        area_after = refl;
        again = λ z. rw (eq-eqb _ 0 z) (shaped_loads _ (feeding_shaped (inside state) (held (loaded _ z)) report area piece));
      }

  pub stills_some : (report : List ℕ) → (let d = silence_left state report in Stills state report d.number d.reported d.state d.report)
  unfolding silence_left silence_bar
  stills_some report =
      record {
        number = refl;
        spoke = refl;
        state_after = refl;
        report_after = refl;
        again = λ z. rw (eq-eqb _ 0 z) (shaped_loads _ (stilling_shaped (inside state) (held (loaded _ z)) report));
      }

  pub forgets_some : (n : ℕ) → (let d = forget_left state n in Forgets state n d.number d.state)
  unfolding forget_left
  forgets_some n =
      record {
        number = refl;
        state_after = refl;
        again = λ z. rw (eq-eqb _ 0 z) (shaped_loads _ (forgotten_shaped (inside state) (held (loaded true z)) n));
      }

-- a fresh state
fresh_shaped : (d : Edition) → Shaped (fresh_collector d)
fresh_shaped d = record { head = length-replicate {A = ℕ} 5 0; store = length-replicate {A = ℕ} 501 0; four = refl; slots = (none, (none, (none, (none, tt)))) }
  where
    none : SlotShaped free_slot
    none = record { from = refl; to = refl }

pub saves_some : (d : Edition) (state : List ℕ) → Saves (fresh_collector d) state (pick (eqb (length state) state_size) 0 60) (pick (eqb (length state) state_size) (state_octets (fresh_collector d)) state)
saves_some d state = record { answer = refl; after = refl; again = λ z. rw (eq-eqb _ state_size z) (shaped_loads (fresh_collector d) (fresh_shaped d)) }
