-- The exported calls, as their users read them: from their promises and the statements of the calls below.
use Prim.Native.Nat.{ℕ, zero, suc, ◌%◌, ◌≤◌, ◌<◌}
use native.Mathlib.Omega.{arith}
use mathlib.Core.Path.{◌≡◌, refl, sym, ap, subst, ◌∙◌}
use mathlib.Core.Logic.{◌⊎◌, inl, inr, ⊎_elim}
use mathlib.Core.Bool.{Bool, true, false}
use mathlib.Core.List.{List, [], ◌∷◌, ◌++◌, map}
use lib.Dec.{eqb, leb, ltb}
use lib.ListN.{length, drop}
use borrow.Author.Tests.{eq-eqb, eqb-true, eqb-false, ltb-true, ltb-false}
use Rattle.std.specs.Prelude.{Ok, Err}
use Rattle.octets.specs.Choice.{pick, both, pick_case, by_test, both_true, true_both, not_so}
use Rattle.octets.specs.Reading.{Octets, oct}
use Rattle.octets.specs.Laid.{written_count, Laid, answer_of}
use Rattle.octets.specs.Laid.{Written}
use Rattle.npdu.specs.Address.{AddressFits}
use Rattle.npdu.specs.Reading.{read_npdu}
use Rattle.npdu.specs.Fault as NetworkFault
use Rattle.apdu.specs.Reading.{read_apdu}
use Rattle.apdu.specs.Fault as HeaderFault
use Rattle.apdu.specs.Reading.{Answer as HeaderAnswer}
use Rattle.items.specs.Reading.{items_of}
use Rattle.items.specs.Listing.{tally_number, tally_count, listed_of}
use Rattle.item_judge.specs.Judge.{records_in, good_records, write_fault}
use Rattle.reader.specs.Reading.{step_of}
use Rattle.reader.specs.Answers.{Step}
use Rattle.services.specs.Reading.{read_service}
use Rattle.services.specs.Parts.{Answer as ServiceAnswer}
use Rattle.services.proofs.Refusals.{AnswerHas, read_has}
use Rattle.service_writer.specs.Fault as ServiceFault
use Rattle.messages.specs.Slots.{slot_at}
use Rattle.rebuild.specs.View.{keys, seen}
use Rattle.rebuild.specs.declared.Slot.{Slot}
use Rattle.rebuild.proofs.Seen.{length_view}
use Rattle.reports.specs.Layout.{report_size}
use Rattle.collector.specs.Calls as Box
use Rattle.collector.specs.Calls.{slots_of, sized, feeding, stilling}
use Rattle.collector.specs.declared.Collector.{Collector}
use Rattle.collector.specs.Answers.{Fed}
use Rattle.collector.specs.Answers.{Fell}
use Rattle.collector.specs.Answers.{Forgot}
use Rattle.records.specs.Flag.{flag}
use Rattle.records.specs.Network.{npdu_size, npdu_at}
use Rattle.records.specs.Application.{apdu_size, apdu_at}
use Rattle.records.specs.Service.{service_size, service_at}
use Rattle.state.specs.Layout.{state_size, state_octets, SlotsFit}
use Rattle.state.specs.Calls.{state_good, Loaded, load_of, Loads}
use Rattle.state.proofs.Exact.{loads_only, accepted}
use Rattle.hitchbarley.specs.Trunk.{Left, barred, state_of, bar, inside, feed_bar, feed_left, silence_bar, silence_left, forgotten, forget_left, Feeds, Stills, Forgets}
use Rattle.hitchbarley.specs.Answers.{written_number, Writes, Fills, FillsTo}
use Rattle.hitchbarley.specs.Headers.{apdu_good, apdu_number, apdu_octets, apdu_params, npdu_fault, apdu_fault}
use Rattle.hitchbarley.specs.Items.{one_number, one_place, step_good, step_number, step_record, step_place}
use Rattle.hitchbarley.specs.Services.{service_good, service_number, service_octets, service_fault}
use Rattle.hitchbarley.proofs.Demand.{inside_is, feeds_carried, stills_carried, forgets_carried}
use Rattle.demands.specs.Words.{SixtyThenFiftyNine, Broken, Four}
use Rattle.demands.specs.Keys.{FitsFour}
use Rattle.demands.proofs.FiftyNine.{feed_numbers, silence_numbers, forget_numbers, numbers}
use Rattle.demands.proofs.Numbers.{network_numbers, header_numbers, item_numbers, network_writer_numbers, header_writer_numbers}
use Rattle.demands.proofs.ServiceNumbers.{service_writer_numbers}
use Rattle.demands.proofs.Changes.{feed_refused, silence_refused, forget_refused}
use Rattle.demands.proofs.One.{writers_refuse}
use Rattle.demands.proofs.Listing.{list_numbers}
use Rattle.demands.specs.Exported.{Holding, BadState, TrunkCall, Carried, ForgetCall, ReadsInto, WritesFrom, ExportedFresh, ExportedFeed, ExportedSilence, ExportedForget, ExportedNpduRead, ExportedApduRead, ExportedStep, ExportedServiceRead, ExportedList, ExportedNext, ExportedNpduWrite, ExportedApduWrite, ExportedItemsWrite, ExportedServiceWrite}

-- two numbers are not one
pub differ : {X : Type 0} {n : ℕ} (a b : ℕ) → eqb a b ≡ false → n ≡ a → n ≡ b → X
differ a b f p q = absurd (eqb-false a b f (sym p ∙ q))

-- ---- the state area, by the two tests that loading makes
pub data Judged (state : List ℕ) : Type 0 where
  other : (length state ≡ state_size → ⊥) → (load_of state).refused ≡ 60 → Judged state
  none : length state ≡ state_size → (load_of state).refused ≡ 59 → Judged state
  some : length state ≡ state_size → (load_of state).refused ≡ 0 → Judged state

pub judged : (state : List ℕ) → Judged state
unfolding load_of
judged state =
    by_test (eqb (length state) state_size)
    (λ e. let n = eqb-true (length state) state_size e in by_test (state_good state) (λ g. some n (rw (e, g))) (λ g. none n (rw (e, g))))
    (λ e. other (eqb-false (length state) state_size e) (rw e))

-- what is not loaded holds no state; what is holds one
pub not_loaded : (state : List ℕ) (n : ℕ) → eqb n 0 ≡ false → (load_of state).refused ≡ n → (c : Collector) → Loads state c → ⊥
not_loaded state n f e c l = differ n 0 f e (ap (λ (x : Loaded). x.refused) l)

pub held_one : (state : List ℕ) (c : Collector) → Loads state c → (P : Collector → Type 0) → Holding state P → P c
held_one state c l P h = subst P (sym (inside_is state h.0 h.1) ∙ inside_is state c l) h.2

-- four slots, and addresses in their octets: what is loaded fits its types
fit_at : (xs : List Slot) → SlotsFit xs → (i : ℕ) → i < length xs → AddressFits (slot_at keys (map seen xs) i).key.from × AddressFits (slot_at keys (map seen xs) i).key.to
fit_at [] f i l = absurd (omega arith)
fit_at (x ∷ xs) f zero l = (f.0.from, f.0.to)
fit_at (x ∷ xs) f (suc i) l = fit_at xs f.1 i (omega arith)

pub fits_four : FitsFour
fits_four c f = record { count = length_view c.slots 4 f.four; addresses = λ i h. fit_at c.slots.slots f.slots i (rw f.four h) }

pub four : (state : List ℕ) (c : Collector) → Octets state → Loads state c → Four c
four state c os l = fits_four c (loads_only state c os l).0

-- the area is the octets of the state that it holds, and each call keeps that
abbrev pub Own : List ℕ → Type 0
Own state = (c : Collector) → Loads state c → state ≡ state_octets c

pub octets_own : (state : List ℕ) → Octets state → Own state
octets_own state os c l = (loads_only state c os l).1

pub own_next : (state : List ℕ) (d : Collector) → state ≡ state_octets d → Loads state d → Own state
own_next state d e l c k = e ∙ ap state_octets (sym (inside_is state d l) ∙ inside_is state c k)

pub own_same : (state state' : List ℕ) → state' ≡ state → Own state → Own state'
own_same state state' e h = subst Own (sym e) h

module _ (state : List ℕ) (own : Own state) where
  pub feed_own : {report area piece : List ℕ} {r eaten reported : ℕ} {state' report' area' : List ℕ}
      → Feeds state report area piece r eaten reported state' report' area' → Own state'
  unfolding feed_left
  feed_own {report} {area} {piece} {state' = state'} y =
      by_test (eqb (feed_bar state report area) 0)
      (λ z. own_next state' (state_of (inside state).edition (feeding (inside state) report area piece)) (y.state_after ∙ rw z) (y.again (eqb-true _ _ z)))
      (λ z. own_same state state' (y.state_after ∙ rw z) own)

  pub silence_own : {report : List ℕ} {r reported : ℕ} {state' report' : List ℕ} → Stills state report r reported state' report' → Own state'
  unfolding silence_left
  silence_own {report} {state' = state'} y =
      by_test (eqb (silence_bar state report) 0)
      (λ z. own_next state' (state_of (inside state).edition (stilling (inside state) report [])) (y.state_after ∙ rw z) (y.again (eqb-true _ _ z)))
      (λ z. own_same state state' (y.state_after ∙ rw z) own)

  pub forget_own : {s r : ℕ} {state' : List ℕ} → Forgets state s r state' → Own state'
  unfolding forget_left
  forget_own {s} {state' = state'} y =
      by_test (eqb (bar true state) 0)
      (λ z. own_next state' (forgotten (inside state) s) (y.state_after ∙ rw z) (y.again (eqb-true _ _ z)))
      (λ z. own_same state state' (y.state_after ∙ rw z) own)

-- ---- 60, then 59
module _ {n : ℕ} (A B : Type 0) where
  sixty : (A → ⊥) → n ≡ 60 → SixtyThenFiftyNine n A B
  sixty lacks e =
      record {
        sixty = (λ _. lacks, λ _. e);
        fifty_nine = (λ z. differ 59 60 refl z e, λ q. absurd (lacks q.0));
        none = (λ z. differ 0 60 refl z e, λ q. absurd (lacks q.0));
      }

  fifty_nine : A → B → n ≡ 59 → SixtyThenFiftyNine n A B
  fifty_nine a b e = numbers A B true false (λ _. a) (λ _. refl) (record { broken = λ _. b; fails = λ _. refl }) e

  -- by the collector's call, where the state area has its size and holds a state
  as_below : (C D : Type 0) → (C → A) → (A → C) → (D → B) → (B → D) → SixtyThenFiftyNine n C D → SixtyThenFiftyNine n A B
  as_below C D ca ac db bd h =
      record {
        sixty = (λ z a. h.sixty.0 z (ac a), λ k. h.sixty.1 (λ c. k (ca c)));
        fifty_nine = (λ z. (let q = h.fifty_nine.0 z in (ca q.0, db q.1)), λ q. h.fifty_nine.1 (ac q.0, bd q.1));
        none = (λ z. (let q = h.none.0 z in (ca q.0, λ b. q.1 (bd b))), λ q. h.none.1 (ac q.0, λ d. q.1 (db d)));
      }

-- a state that is held is bad exactly when 59 names it
pub to_bad : (state : List ℕ) (c : Collector) → Loads state c → Broken c → BadState state
to_bad state c l b = inr (c, l, b)

pub of_bad : (state : List ℕ) (c : Collector) → Loads state c → BadState state → Broken c
of_bad state c l q = ⊎_elim (λ lacks. absurd (lacks c l)) (λ h. held_one state c l Broken h) q

-- ---- hb_fresh
pub exported_fresh : ExportedFresh
exported_fresh state later r state' y =
    by_test (eqb (length state) state_size)
    (λ e.
    let n = eqb-true (length state) state_size e in
    let z : r ≡ 0 = rw e at y.answer in
    ((λ q. differ 0 60 refl z q, λ k. absurd (k n)), (λ _. n, λ _. z), λ k. absurd (k z), λ _. (rw e at y.after, y.again n)))
    (λ e.
    let n = eqb-false (length state) state_size e in
    let z : r ≡ 60 = rw e at y.answer in
    ((λ _. n, λ _. z), (λ q. differ 0 60 refl q z, λ k. absurd (n k)), λ _. rw e at y.after, λ q. differ 0 60 refl q z))

-- ---- hb_feed
module _ (state piece report area : List ℕ) (r eaten reported : ℕ) (state' report' area' : List ℕ) (os : Octets state)
    (y : Feeds state report area piece r eaten reported state' report' area') where
  abbrev FeedSized : Type 0
  FeedSized = (length state ≡ state_size) × (length report ≡ report_size) × (length area ≡ 65536)

  abbrev FeedSame : Type 0
  FeedSame = (eaten ≡ 0) × (reported ≡ 0) × (state' ≡ state) × (report' ≡ report) × (area' ≡ area)

  abbrev FeedDone : Type 0
  FeedDone = Carried Fed (λ f. f.state)
      (λ c f. (f.refused ≡ 0) × (eaten ≡ f.eaten) × (reported ≡ flag f.reported) × Box.Feeds c report area piece f report' area') state state'

  -- refused in front of the collector's call
  feed_barred : (n : ℕ) → eqb n 0 ≡ false → feed_bar state report area ≡ n → (r ≡ n) × FeedSame
  unfolding feed_left
  feed_barred n f e =
      let q : feed_left state report area piece ≡ barred n state report area = rw (e, f) in (
        y.number ∙ ap (λ (x : Left). x.number) q,
        (
          y.ate ∙ ap (λ (x : Left). x.eaten) q,
          y.spoke ∙ ap (λ (x : Left). x.reported) q,
          y.state_after ∙ ap (λ (x : Left). x.state) q,
          y.report_after ∙ ap (λ (x : Left). x.report) q,
          y.area_after ∙ ap (λ (x : Left). x.area) q,
        ),
      )

  feed_sixty : (FeedSized → ⊥) → feed_bar state report area ≡ 60 → TrunkCall state r FeedSized FeedSame FeedDone
  feed_sixty lacks e =
      let b = feed_barred 60 refl e in
      record { numbers = sixty FeedSized (BadState state) lacks b.0; refused = λ _. b.1; done = λ z. differ 60 0 refl b.0 z }

  module _ (m : length report ≡ report_size) (k : length area ≡ 65536) where
    feed_fifty_nine : length state ≡ state_size → feed_bar state report area ≡ 59
        → ((c : Collector) → Loads state c → ⊥) → TrunkCall state r FeedSized FeedSame FeedDone
    feed_fifty_nine n e lacks =
        let b = feed_barred 59 refl e in
        record {
          numbers = fifty_nine FeedSized (BadState state) (n, m, k) (inl lacks) b.0;
          refused = λ _. b.1;
          done = λ z. differ 59 0 refl b.0 z;
        }

    -- the collector's call of the state that the area holds
    feed_below : length state ≡ state_size → (c : Collector) → Loads state c → TrunkCall state r FeedSized FeedSame FeedDone
    feed_below n c l =
        let g = feeds_carried state report area piece c l m k y in
        let later = g.1 in
        let f : Fed = record { refused = r; eaten = eaten; reported = g.0; state = later } in
        let own = feed_own state (octets_own state os) y later g.4 in
        record {
          numbers = as_below FeedSized (BadState state) ((length report ≡ report_size) × (length area ≡ 65536)) (Broken c)
              (λ q. (n, q.0, q.1)) (λ q. (q.1, q.2)) (to_bad state c l) (of_bad state c l)
              (feed_numbers c piece report area f report' area' (four state c os l) g.3);
          refused = λ z. (let h = feed_refused c piece report area f report' area' g.3 z in (
            ap (λ (x : Fed). x.eaten) h.0,
            g.2 ∙ ap (λ (x : Fed). flag x.reported) h.0,
            own ∙ ap (λ (x : Fed). state_octets x.state) h.0 ∙ sym (octets_own state os c l),
            h.1,
            h.2,
          ));
          done = λ z. record { held = c; loads = l; answer = f; does = (z, refl, g.2, g.3); octets = own; again = g.4 };
        }

    feed_by_lem : Judged state → TrunkCall state r FeedSized FeedSame FeedDone
    unfolding feed_bar bar
    feed_by_lem (other lacks e) = feed_sixty (λ q. lacks q.0) (rw (eq-eqb (length report) report_size m, eq-eqb (length area) 65536 k) e)
    feed_by_lem (none n e) = feed_fifty_nine n (rw (eq-eqb (length report) report_size m, eq-eqb (length area) 65536 k) e) (not_loaded state 59 refl e)
    feed_by_lem (some n e) = feed_below n (inside state) (accepted state e)

pub exported_feed : ExportedFeed
unfolding feed_bar bar
exported_feed state piece report area r eaten reported state' report' area' os y =
    by_test (both (eqb (length report) report_size) (sized area))
    (λ a.
    let t = both_true _ _ a in
    feed_by_lem state piece report area r eaten reported state' report' area' os y (eqb-true _ _ t.0) (eqb-true _ _ t.1) (judged state))
    (λ a.
    feed_sixty state piece report area r eaten reported state' report' area' os y
    (λ q. not_so (sym a ∙ true_both _ _ (eq-eqb _ _ q.1) (eq-eqb _ _ q.2))) (rw a))

-- ---- hb_silence
module _ (state report : List ℕ) (r reported : ℕ) (state' report' : List ℕ) (os : Octets state) (y : Stills state report r reported state' report') where
  abbrev SilenceSized : Type 0
  SilenceSized = (length state ≡ state_size) × (length report ≡ report_size)

  abbrev SilenceSame : Type 0
  SilenceSame = (reported ≡ 0) × (state' ≡ state) × (report' ≡ report)

  abbrev SilenceDone : Type 0
  SilenceDone = Carried Fell (λ f. f.state) (λ c f. (f.refused ≡ 0) × (reported ≡ flag f.reported) × Box.Stills c report f report') state state'

  silence_barred : (n : ℕ) → eqb n 0 ≡ false → silence_bar state report ≡ n → (r ≡ n) × SilenceSame
  unfolding silence_left
  silence_barred n f e =
      let q : silence_left state report ≡ barred n state report [] = rw (e, f) in (
        y.number ∙ ap (λ (x : Left). x.number) q,
        (y.spoke ∙ ap (λ (x : Left). x.reported) q, y.state_after ∙ ap (λ (x : Left). x.state) q, y.report_after ∙ ap (λ (x : Left). x.report) q),
      )

  silence_sixty : (SilenceSized → ⊥) → silence_bar state report ≡ 60 → TrunkCall state r SilenceSized SilenceSame SilenceDone
  silence_sixty lacks e =
      let b = silence_barred 60 refl e in
      record { numbers = sixty SilenceSized (BadState state) lacks b.0; refused = λ _. b.1; done = λ z. differ 60 0 refl b.0 z }

  module _ (m : length report ≡ report_size) where
    silence_fifty_nine : length state ≡ state_size → silence_bar state report ≡ 59
        → ((c : Collector) → Loads state c → ⊥) → TrunkCall state r SilenceSized SilenceSame SilenceDone
    silence_fifty_nine n e lacks =
        let b = silence_barred 59 refl e in
        record {
          numbers = fifty_nine SilenceSized (BadState state) (n, m) (inl lacks) b.0;
          refused = λ _. b.1;
          done = λ z. differ 59 0 refl b.0 z;
        }

    silence_below : length state ≡ state_size → (c : Collector) → Loads state c → TrunkCall state r SilenceSized SilenceSame SilenceDone
    silence_below n c l =
        let g = stills_carried state report c l m y in
        let later = g.1 in
        let f : Fell = record { refused = r; reported = g.0; state = later } in
        let own = silence_own state (octets_own state os) y later g.4 in
        record {
          numbers = as_below SilenceSized (BadState state) (length report ≡ report_size) (Broken c) (λ q. (n, q)) (λ q. q.1) (to_bad state c l) (of_bad state c l)
              (silence_numbers c report f report' (four state c os l) g.3);
          refused = λ z. (let h = silence_refused c report f report' g.3 z in (
            g.2 ∙ ap (λ (x : Fell). flag x.reported) h.0,
            own ∙ ap (λ (x : Fell). state_octets x.state) h.0 ∙ sym (octets_own state os c l),
            h.1,
          ));
          done = λ z. record { held = c; loads = l; answer = f; does = (z, g.2, g.3); octets = own; again = g.4 };
        }

    silence_by : Judged state → TrunkCall state r SilenceSized SilenceSame SilenceDone
    unfolding silence_bar bar
    silence_by (other lacks e) = silence_sixty (λ q. lacks q.0) (rw (eq-eqb (length report) report_size m) e)
    silence_by (none n e) = silence_fifty_nine n (rw (eq-eqb (length report) report_size m) e) (not_loaded state 59 refl e)
    silence_by (some n e) = silence_below n (inside state) (accepted state e)

pub exported_silence : ExportedSilence
unfolding silence_bar bar
exported_silence state report r reported state' report' os y =
    by_test (eqb (length report) report_size)
    (λ a. silence_by state report r reported state' report' os y (eqb-true _ _ a) (judged state))
    (λ a. silence_sixty state report r reported state' report' os y (λ q. eqb-false _ _ a q.1) (rw a))

-- ---- hb_forget
never_sixty : (b u : Bool) → ◌≡◌ {A = ℕ} (pick b (pick u 0 56) 59) 60 → ⊥
never_sixty true true z = differ 0 60 refl refl z
never_sixty true false z = differ 56 60 refl refl z
never_sixty false u z = differ 59 60 refl refl z

module _ (state : List ℕ) (s r : ℕ) (state' : List ℕ) (os : Octets state) (y : Forgets state s r state') where
  forget_barred : (n : ℕ) → eqb n 0 ≡ false → (load_of state).refused ≡ n → (r ≡ n) × (state' ≡ state)
  unfolding forget_left bar
  forget_barred n f e =
      let q : forget_left state s ≡ barred n state [] [] = rw (e, f) in
      (y.number ∙ ap (λ (x : Left). x.number) q, y.state_after ∙ ap (λ (x : Left). x.state) q)

  forget_below : length state ≡ state_size → (c : Collector) → Loads state c → ForgetCall state s r state'
  forget_below n c l =
      let g = forgets_carried state s c l y in
      let later = g.0 in
      let f : Forgot = record { number = r; state = later } in
      let h = forget_numbers c s f (four state c os l) g.1 in
      let own = forget_own state (octets_own state os) y later g.2 in
      let no60 : r ≡ 60 → ⊥ = λ z. never_sixty (Box.sound c.receiver (slots_of c)) (slot_at keys (slots_of c) s).used (sym g.1.number ∙ z) in
      record {
        sixty = (λ z. absurd (no60 z), λ k. absurd (k n));
        fifty_nine = (λ z. (n, to_bad state c l (h.0.0 z)), λ q. h.0.1 (of_bad state c l q.1));
        fifty_six = (λ z. (c, l, h.1.0 z), λ q. h.1.1 (held_one state c l _ q));
        none = (λ z. (c, l, h.2.0 z), λ q. h.2.1 (held_one state c l _ q));
        refused = λ z. own ∙ ap state_octets (forget_refused c s f g.1 z) ∙ sym (octets_own state os c l);
        done = λ z. record { held = c; loads = l; answer = f; does = (z, g.1); octets = own; again = g.2 };
      }

  forget_by : Judged state → ForgetCall state s r state'
  forget_by (other lacks e) =
      let b = forget_barred 60 refl e in
      record {
        sixty = (λ _. lacks, λ _. b.0);
        fifty_nine = (λ z. differ 60 59 refl b.0 z, λ q. absurd (lacks q.0));
        fifty_six = (λ z. differ 60 56 refl b.0 z, λ q. absurd (not_loaded state 60 refl e q.0 q.1));
        none = (λ z. differ 60 0 refl b.0 z, λ q. absurd (not_loaded state 60 refl e q.0 q.1));
        refused = λ _. b.1;
        done = λ z. differ 60 0 refl b.0 z;
      }
  forget_by (none n e) =
      let b = forget_barred 59 refl e in
      record {
        sixty = (λ z. differ 59 60 refl b.0 z, λ k. absurd (k n));
        fifty_nine = (λ _. (n, inl (not_loaded state 59 refl e)), λ _. b.0);
        fifty_six = (λ z. differ 59 56 refl b.0 z, λ q. absurd (not_loaded state 59 refl e q.0 q.1));
        none = (λ z. differ 59 0 refl b.0 z, λ q. absurd (not_loaded state 59 refl e q.0 q.1));
        refused = λ _. b.1;
        done = λ z. differ 59 0 refl b.0 z;
      }
  forget_by (some n e) = forget_below n (inside state) (accepted state e)

pub exported_forget : ExportedForget
exported_forget state s r state' os y = forget_by state s r state' os y (judged state)

below_60 : (n m : ℕ) → n ≤ m → m ≤ 59 → n ≡ 60 → ⊥
below_60 n m h k z = omega arith

-- ---- readers: what the answer of the call below says. good: something was read; f: its number
record Judges (good : Bool) (f : ℕ) : Type 0 where
  not_sixty : f ≡ 60 → ⊥
  so : good ≡ true → f ≡ 0

module _ {size : ℕ} {good : Bool} {f : ℕ} {o area : List ℕ} {r : ℕ} {later : List ℕ} (y : Fills size good f o area r later) where
  -- in an area of its size: the number below; the record, where something was read
  number_below : length area ≡ size → r ≡ f
  number_below n = rw (eq-eqb (length area) size n) at y.number

  record_below : length area ≡ size → good ≡ true → later ≡ o
  record_below n g = rw (eq-eqb (length area) size n, g) at y.after

  -- in one of another size 60, and as it was; as it was too where nothing was read
  number_other : eqb (length area) size ≡ false → r ≡ 60
  number_other e = rw e at y.number

  area_other : eqb (length area) size ≡ false → later ≡ area
  area_other e = rw e at y.after

  area_kept : good ≡ false → later ≡ area
  area_kept g = by_test (eqb (length area) size) (λ e. rw (e, g) at y.after) area_other

  reads_into : (Kept Below : Type 0) → Judges good f → (eqb (length area) size ≡ false → Kept) → (good ≡ false → Kept)
      → (length area ≡ size → Below) → ReadsInto size area r Kept Below
  reads_into Kept Below j unsized kept below =
      by_test (eqb (length area) size)
      (λ e.
      let n = eqb-true (length area) size e in
      let z = number_below n in
      record {
        sixty = (λ q. absurd (j.not_sixty (sym z ∙ q)), λ k. absurd (k n));
        refused = λ k. by_test good (λ g. absurd (k (z ∙ j.so g))) kept;
        below = below;
      })
      (λ e.
      let n = eqb-false (length area) size e in
      record { sixty = (λ _. n, λ _. number_other e); refused = λ _. unsized e; below = λ k. absurd (n k) })

-- with a place
module _ {size : ℕ} {good : Bool} {f : ℕ} {o : List ℕ} {place : ℕ} {area : List ℕ} {r next : ℕ} {later : List ℕ}
    (y : FillsTo size good f o place area r next later) where
  place_below : length area ≡ size → good ≡ true → next ≡ place
  place_below n g = rw (eq-eqb (length area) size n, g) at y.reached

  place_other : eqb (length area) size ≡ false → next ≡ 0
  place_other e = rw e at y.reached

  place_kept : good ≡ false → next ≡ 0
  place_kept g = by_test (eqb (length area) size) (λ e. rw (e, g) at y.reached) place_other

  reads_to : (Below : Type 0) → Judges good f → (length area ≡ size → Below) → ReadsInto size area r ((later ≡ area) × (next ≡ 0)) Below
  reads_to Below j below =
      reads_into y.filled ((later ≡ area) × (next ≡ 0)) Below j (λ e. (area_other y.filled e, place_other e)) (λ g. (area_kept y.filled g, place_kept g)) below

npdu_judges : (s : List ℕ) → Judges (eqb (read_npdu s).refused 0) (read_npdu s).refused
npdu_judges s =
    record { not_sixty = λ z. ⊎_elim (λ e. differ 0 60 refl e z) (λ q. absurd (omega (arith, q.0.1))) (network_numbers s); so = λ g. eqb-true _ _ g }

pub exported_npdu_read : ExportedNpduRead
exported_npdu_read s fields r next fields' y =
    reads_to y _ (npdu_judges s)
    (λ n. (number_below y.filled n, λ z. (let g = eq-eqb _ _ z in (record_below y.filled n g, place_below y n g))))

apdu_judges : (a : HeaderAnswer) → ((n : ℕ) → a ≡ Err n → (20 ≤ n) × (n ≤ 24)) → Judges (apdu_good a) (apdu_number a)
apdu_judges (Ok p) h = record { not_sixty = λ z. differ 0 60 refl refl z; so = λ g. refl }
apdu_judges (Err n) h = record { not_sixty = λ z. below_60 n 24 (h n refl).1 (omega arith) z; so = λ g. not_so g }

pub exported_apdu_read : ExportedApduRead
exported_apdu_read edition s fields r next fields' y =
    reads_to y _ (apdu_judges (read_apdu edition s) (header_numbers edition s))
    (λ n.
    let number = number_below y.filled n in (
      λ x e. number ∙ ap apdu_number e,
      λ p e.
          let g = ap apdu_good e in
          (number ∙ ap apdu_number e, record_below y.filled n g ∙ ap apdu_octets e, place_below y n g ∙ ap apdu_params e),
    ))

step_judges : (x : Step) → ((n : ℕ) → x ≡ Step.Refused n → (30 ≤ n) × (n ≤ 39)) → Judges (step_good x) (step_number x)
step_judges (Step.Item k n v p l to) h = record { not_sixty = λ z. differ 0 60 refl refl z; so = λ g. refl }
step_judges (Step.Group n p to) h = record { not_sixty = λ z. differ 0 60 refl refl z; so = λ g. refl }
step_judges Step.End h = record { not_sixty = λ z. differ 0 60 refl refl z; so = λ g. refl }
step_judges (Step.Refused n) h = record { not_sixty = λ z. below_60 n 39 (h n refl).1 (omega arith) z; so = λ g. not_so g }

pub exported_step : ExportedStep
exported_step s at item r next item' y =
    reads_to y _ (step_judges (step_of s at) (item_numbers s at).2)
    (λ n.
    let number = number_below y.filled n in (
      λ x e. number ∙ ap step_number e,
      λ k m v p l to e.
          let g = ap step_good e in
          (number ∙ ap step_number e, record_below y.filled n g ∙ ap step_record e, place_below y n g ∙ ap step_place e),
      λ m p to e.
          let g = ap step_good e in
          (number ∙ ap step_number e, record_below y.filled n g ∙ ap step_record e, place_below y n g ∙ ap step_place e),
      λ e.
          let g = ap step_good e in
          (number ∙ ap step_number e, area_kept y.filled g, place_kept y g),
    ))

service_judges : (a : ServiceAnswer) → AnswerHas (λ n. (30 ≤ n) × (n ≤ 43)) a → Judges (service_good a) (service_number a)
service_judges (Ok v) h = record { not_sixty = λ z. differ 0 60 refl refl z; so = λ g. refl }
service_judges (Err n) h = record { not_sixty = λ z. below_60 n 43 h.1 (omega arith) z; so = λ g. not_so g }

pub exported_service_read : ExportedServiceRead
exported_service_read kind choice s fields r fields' y =
    reads_into y (fields' ≡ fields) _
    (service_judges (read_service kind choice s) (read_has (λ n. (30 ≤ n) × (n ≤ 43)) (λ n low high. (low, high)) kind choice s)) (area_other y) (area_kept y)
    (λ n.
    let number = number_below y n in
    (λ x e. number ∙ ap service_number e, λ v e. (number ∙ ap service_number e, record_below y n (ap service_good e) ∙ ap service_octets e)))

-- ---- items
pub exported_list : ExportedList
exported_list s area r count later y = (
  rw (y.number, y.items) (list_numbers s area later (listed_of (length area) (items_of s)) (record { answer = refl; after = y.after })),
  listed_of (length area) (items_of s),
  record { answer = refl; after = y.after },
  λ n e. (y.number ∙ ap tally_number e, y.items ∙ ap tally_count e),
  λ n e. (y.number ∙ ap tally_number e, y.items ∙ ap tally_count e),
  λ x e. (y.number ∙ ap tally_number e, y.items ∙ ap tally_count e),
)

pub exported_next : ExportedNext
exported_next s at r next y = (
  λ n e. (y.number ∙ ap one_number e, y.place ∙ ap one_place e),
  λ x e. (y.number ∙ ap one_number e, y.place ∙ ap one_place e),
)

-- ---- writers: what is not written is refused by the fault or by 61, and leaves the area
module _ (F : ℕ) (o area : List ℕ) (r wrote : ℕ) (later : List ℕ) (y : Writes F o area r wrote later) where
  abbrev LeftAlone : Type 0
  LeftAlone = (wrote ≡ 0) × (later ≡ area)

  by_answer : (w : Written) → answer_of F o area ≡ w → (r ≡ written_number w) × (wrote ≡ written_count w)
  by_answer w e = (y.number ∙ ap written_number e, y.count ∙ ap written_count e)

  faulty : (F ≡ 0 → ⊥) → (r ≡ F) × LeftAlone
  faulty n =
      let w = (writers_refuse F o area later (answer_of F o area) (record { answer = refl; after = y.after })).faulty n in
      let b = by_answer (Err F) w.0 in
      (b.0, (b.1, w.1))

  short : F ≡ 0 → length area < length o → (r ≡ 61) × LeftAlone
  short e h =
      let w = (writers_refuse F o area later (answer_of F o area) (record { answer = refl; after = y.after })).short e h in
      let b = by_answer (Err 61) w.0 in
      (b.0, (b.1, w.1))

  fine : F ≡ 0 → length o ≤ length area → (r ≡ 0) × (wrote ≡ length o) × (later ≡ o ++ drop (length o) area)
  fine e h =
      let w = (writers_refuse F o area later (answer_of F o area) (record { answer = refl; after = y.after })).fine e h in
      let b = by_answer (Ok (length o)) w.0 in
      (b.0, b.1, w.1)

  ended : (r ≡ 0) ⊎ (((r ≡ F) ⊎ (r ≡ 61)) × LeftAlone)
  ended =
      by_test (eqb F 0)
      (λ z. by_test (ltb (length area) (length o))
      (λ t. let q = short (eqb-true F 0 z) (ltb-true _ _ t) in inr (inr q.0, q.1))
      (λ t. inl (fine (eqb-true F 0 z) (ltb-false _ _ t)).0))
      (λ z. let q = faulty (eqb-false F 0 z) in inr (inl q.0, q.1))

-- what was written: no fault, and the promise of the call below
pub wrote_laid : (F : ℕ) (o area : List ℕ) (wrote : ℕ) (later : List ℕ) → Writes F o area 0 wrote later → (F ≡ 0) × Laid F o area (Ok wrote) later
wrote_laid F o area wrote later y =
    by_test (eqb F 0)
    (λ z. (eqb-true F 0 z, record { answer = counted_so (eqb-true F 0 z); after = y.after }))
    (λ z. let n = eqb-false F 0 z in absurd (n (sym (faulty F o area 0 wrote later y n).0)))
  where
    counted_so : F ≡ 0 → Ok wrote ≡ answer_of F o area
    counted_so e =
        by_test (ltb (length area) (length o))
        (λ t. differ 61 0 refl (short F o area 0 wrote later y e (ltb-true _ _ t)).0 refl)
        (λ t.
        let h = ltb-false _ _ t in
        let w = (writers_refuse F o area later (answer_of F o area) (record { answer = refl; after = y.after })).fine e h in
        ap Ok (fine F o area 0 wrote later y e h).1 ∙ sym w.0)

writes_from : (Sized : Type 0) (a : Bool) (f : ℕ) (o area : List ℕ) (r wrote : ℕ) (later : List ℕ) → (a ≡ true → Sized) → (Sized → a ≡ true) → (f ≡ 60 → ⊥)
    → Writes (pick a f 60) o area r wrote later → WritesFrom Sized f o area r wrote later
writes_from Sized true f o area r wrote later is of ne y =
    record {
      sixty = (
        λ z. ⊎_elim (λ q. differ 0 60 refl q z) (λ q. ⊎_elim (λ e. absurd (ne (sym e ∙ z))) (λ e. differ 61 60 refl e z) q.0) (ended f o area r wrote later y),
        λ k. absurd (k (is refl)),
      );
      faulty = λ _ n. (faulty f o area r wrote later y n).0;
      short = λ _ e h. (short f o area r wrote later y e h).0;
      fine = λ _ e h. fine f o area r wrote later y e h;
      refused = λ n. ⊎_elim (λ q. absurd (n q)) (λ q. q.1) (ended f o area r wrote later y);
    }
writes_from Sized false f o area r wrote later is of ne y =
    let b = faulty 60 o area r wrote later y (λ z. omega arith) in
    record {
      sixty = (λ z s. not_so (of s), λ k. b.0);
      faulty = λ s n. not_so (of s);
      short = λ s e h. not_so (of s);
      fine = λ s e h. not_so (of s);
      refused = λ n. b.1;
    }

abbrev NotSixty : ℕ → Type 0
NotSixty n = n ≡ 60 → ⊥

pub exported_npdu_write : ExportedNpduWrite
unfolding npdu_fault
exported_npdu_write fields area r wrote later y =
    writes_from (length fields ≡ npdu_size) (eqb (length fields) npdu_size) (NetworkFault.fault_of (npdu_at fields)) _ area r wrote later (eqb-true _ _) (eq-eqb _ _)
    (λ z. ⊎_elim (λ e. differ 0 60 refl e z) (λ q. absurd (omega (arith, q.1))) (network_writer_numbers (npdu_at fields))) y

pub exported_apdu_write : ExportedApduWrite
unfolding apdu_fault
exported_apdu_write edition fields area r wrote later y =
    writes_from (length fields ≡ apdu_size) (eqb (length fields) apdu_size) (pick (leb (oct fields 0) 7) (HeaderFault.fault_of edition (apdu_at fields)) 21) _ area r wrote later
    (eqb-true _ _) (eq-eqb _ _)
    (pick_case NotSixty (leb (oct fields 0) 7)
    (λ z. ⊎_elim (λ e. differ 0 60 refl e z) (λ q. absurd (omega (arith, q.1))) (header_writer_numbers edition (apdu_at fields))) (λ z. omega arith)) y

pub exported_service_write : ExportedServiceWrite
unfolding service_fault
exported_service_write fields value area r wrote later y =
    writes_from (length fields ≡ service_size) (eqb (length fields) service_size) (pick (leb (oct fields 0) 5) (ServiceFault.fault_of (service_at fields) value) 43) _ area r wrote later
    (eqb-true _ _) (eq-eqb _ _)
    (pick_case NotSixty (leb (oct fields 0) 5)
    (λ z. ⊎_elim (λ e. differ 0 60 refl e z) (λ q. absurd (omega (arith, q.1))) (service_writer_numbers (service_at fields) value)) (λ z. omega arith)) y

-- 62 or none
items_fault : (listed source : List ℕ) → NotSixty (write_fault listed source)
unfolding write_fault
items_fault listed source =
    pick_case NotSixty (eqb (length listed % 12) 0)
    (pick_case NotSixty (good_records source (records_in listed)) (λ z. omega arith) (λ z. omega arith)) (λ z. omega arith)

pub exported_items_write : ExportedItemsWrite
exported_items_write listed source area r wrote later y =
    writes_from Unit true (write_fault listed source) _ area r wrote later (λ _. tt) (λ _. refl) (items_fault listed source) y
