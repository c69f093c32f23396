-- The replay over a state area: its one answer, its numbers, what a refusal leaves and what is done otherwise.
use Prim.Native.Nat.{ℕ}
use native.Mathlib.Omega.{arith}
use mathlib.Core.Path.{◌≡◌, refl, sym, ap, subst, ◌∙◌}
use mathlib.Core.Logic.{inl, inr}
use mathlib.Core.Bool.{false}
use mathlib.Core.List.{List, [], ◌∷◌}
use mathlib.Core.Option.{Option, none, some}
use lib.Dec.{eqb}
use lib.ListN.{length}
use borrow.Author.Tests.{eq-eqb, eqb-true}
use Rattle.octets.specs.Choice.{both, by_test, both_true, true_both, not_so, pick_case, pick_so}
use Rattle.octets.specs.Reading.{Octets}
use Rattle.runs.specs.Run.{Run, Order, octs}
use Rattle.runs.specs.Run.Event.{octet, silence}
use Rattle.runs.specs.Run.Order.{trunk, forget}
use Rattle.runs.specs.Offered.Offer.{call}
use Rattle.runs.specs.Offered.Made.{feed, still, free}
use Rattle.apdu.specs.declared.Edition.{Edition}
use Rattle.frames.specs.declared.Receiver.{Receiver}
use Rattle.messages.specs.Slots as Messages
use Rattle.rebuild.specs.declared.Key.{Key}
use Rattle.rebuild.specs.declared.Slots.{Slots}
use Rattle.rebuild.proofs.Seen.{view_unview, unview_view}
use Rattle.reports.specs.Layout.{report_size}
use Rattle.collector.specs.Calls.{sized, slots_of, Answered}
use Rattle.collector.specs.declared.Collector.{Collector}
use Rattle.collector.proofs.Alike.{blank, sixteen, feeding_box, stilling_box}
use Rattle.records.specs.Flag.{flag}
use Rattle.state.specs.Layout.{state_size, state_octets}
use Rattle.state.specs.Calls.{load_of, Loads}
use Rattle.state.proofs.Whole.{Shaped, fits_shaped}
use Rattle.state.proofs.Exact.{accepted, loads_only, shaped_loads}
use Rattle.playback.specs.Calls.{one, then_go, play, Course, course_of, play_refusal, playing}
use Rattle.playback.specs.Reading.{read_records}
use Rattle.playback.specs.Answers.{Played}
use Rattle.hitchbarley.specs.Trunk as Trunk
use Rattle.hitchbarley.specs.Trunk.{Left, state_by, state_of, bar, inside, feed_bar}
use Rattle.hitchbarley.specs.Replay.{came_to, replay_left, Replays}
use Rattle.hitchbarley.specs.Offering.Calling.{made, replayed as by-replay}
use Rattle.hitchbarley.proofs.Demand.{replays_carried}
use Rattle.hitchbarley.proofs.Kept.{feeding_shaped, stilling_shaped, forgotten_shaped}
use Rattle.demands.specs.Words.{One, Broken}
use Rattle.demands.specs.Exported.{Holding, BadState}
use Rattle.demands.specs.Replay.{Whole, Arrays, Stopped, ByNumber}
use Rattle.demands.specs.ReplayExported.{ReplayCall, ExportedReplay, CallsAreLinked}
use Rattle.demands.proofs.Exported.{Judged, judged, not_loaded, held_one, four, Own, octets_own, own_next, own_same, to_bad, of_bad}
use Rattle.demands.proofs.Exported.Judged.{other, none as no-state, some as state-there}
use Rattle.demands.proofs.Replay.{is_60, is_59, contra, replay_numbers, replay_refused}

-- ---- a state keeps its arrays, whatever is replayed
one_shaped : (y : Order) (c : Collector) (area : List ℕ) → Shaped c → Shaped (state_of c.edition (one c.edition y c.receiver (slots_of c) area))
unfolding one
one_shaped (trunk (octet x)) c area f =
    subst (λ (d : Answered). Shaped (state_of c.edition d)) (feeding_box c blank area (x ∷ []) sixteen) (feeding_shaped c f blank area (x ∷ []))
one_shaped (trunk silence) c area f =
    subst (λ (d : Answered). Shaped (state_of c.edition d)) (stilling_box c blank area sixteen) (stilling_shaped c f blank)
one_shaped (forget i) c area f = forgotten_shaped c f i

one_kept : (edition : Edition) (y : Order) (r : Receiver) (s : List (Messages.Slot Key)) (area : List ℕ) → Shaped (state_by edition r s) → Shaped (state_of edition (one edition y r s area))
one_kept edition y r s area f = subst (λ (t : List (Messages.Slot Key)). Shaped (state_of edition (one edition y r t area))) (view_unview s) (one_shaped y (state_by edition r s) area f)

go_shaped : (edition : Edition) (x : Option (List ℕ)) (d e : Answered) → Shaped (state_of edition d) → Shaped (state_of edition e) → Shaped (state_of edition (then_go x d e))
go_shaped edition none d e f g = g
go_shaped edition (some p) d e f g = f

play_shaped : (edition : Edition) (run : Run) (r : Receiver) (s : List (Messages.Slot Key)) (area : List ℕ) → Shaped (state_by edition r s) → Shaped (state_of edition (play edition r s area run))
play_shaped edition [] r s area f = f
play_shaped edition (y ∷ run) r s area f =
    let d = one edition y r s area in
    let g : Shaped (state_of edition d) = one_kept edition y r s area f in
    go_shaped edition d.said d (play edition d.state d.slots d.area run) g (play_shaped edition run d.state d.slots d.area g)

playing_shaped : (c : Collector) (report area o : List ℕ) → Shaped (state_by c.edition c.receiver (slots_of c)) → Shaped (state_of c.edition (playing c report area o).left)
unfolding playing course_of
playing_shaped c report area o f =
    pick_case (λ (w : Course). Shaped (state_of c.edition w.left)) (eqb (play_refusal c report area o) 0) (play_shaped c.edition (read_records o).front c.receiver (slots_of c) area f) f

-- ---- one answer
loaded : (state report area : List ℕ) → feed_bar state report area ≡ 0 → (load_of state).refused ≡ 0
unfolding feed_bar bar
loaded state report area z = (pick_so (both (eqb (length report) report_size) (sized area)) (load_of state).refused 60 0 (λ e. omega arith) z).1

held_shaped : (state : List ℕ) → Octets state → (load_of state).refused ≡ 0 → Shaped (state_by (inside state).edition (inside state).receiver (slots_of (inside state)))
held_shaped state os z =
    let c = inside state in
    let f = fits_shaped (loads_only state c os (accepted state z)).0 in
    subst Shaped (ap (λ (t : Slots). record { edition = c.edition; receiver = c.receiver; slots = t }) (sym (unview_view c.slots))) f

-- its one answer
pub replayed : (state records report area : List ℕ) → Octets state
    → One (ℕ × ℕ × ℕ × List ℕ × List ℕ × List ℕ) (λ x. Replays state report area records x.0 x.1 x.2 x.3 x.4 x.5)
unfolding replay_left
replayed state o report area os =
    let d = replay_left state report area o in
    record {
      answer = (d.number, d.eaten, d.reported, d.state, d.report, d.area);
      allowed = record {
        number = refl;
        ate = refl;
        spoke = refl;
        state_after = refl;
        report_after = refl;
        area_after = refl;
        again = λ z. rw (eq-eqb _ 0 z) (shaped_loads _ (playing_shaped (inside state) report area o (held_shaped state os (loaded state report area z))));
      };
      same = λ x y a b. λ i. (
        (a.number ∙ sym b.number) i,
        (a.ate ∙ sym b.ate) i,
        (a.spoke ∙ sym b.spoke) i,
        (a.state_after ∙ sym b.state_after) i,
        (a.report_after ∙ sym b.report_after) i,
        (a.area_after ∙ sym b.area_after) i,
      );
    }

-- ---- the area is the octets of the state that it holds, and a replay keeps that
pub replay_own : (state : List ℕ) → Own state → {report area o : List ℕ} {r eaten reported : ℕ} {state' report' area' : List ℕ}
    → Replays state report area o r eaten reported state' report' area' → Own state'
unfolding replay_left
replay_own state own {report} {area} {o} {state' = state'} y =
    by_test (eqb (feed_bar state report area) 0)
    (λ z. own_next state' (state_of (inside state).edition (came_to state report area o).left) (y.state_after ∙ rw z) (y.again (eqb-true _ _ z)))
    (λ z. own_same state state' (y.state_after ∙ rw z) own)

-- ---- the numbers by those of the call below
module _ {n : ℕ} (S B W T S' B' T' : Type 0) (sf : S → S') (sb : S' → S) (bf : B → B') (bb : B' → B) (tf : T → T') (tb : T' → T) where
  as_below : ByNumber n S B W T → ByNumber n S' B' W T'
  as_below h =
      record {
        sixty = (λ z s. h.sixty.0 z (sb s), λ k. h.sixty.1 (λ s. k (sf s)));
        fifty_nine = (λ z. (let q = h.fifty_nine.0 z in (sf q.0, bf q.1)), λ q. h.fifty_nine.1 (sb q.0, bb q.1));
        sixty_eight = (λ z. (let q = h.sixty_eight.0 z in (sf q.0, (λ b. q.1 (bb b)), q.2)), λ q. h.sixty_eight.1 (sb q.0, (λ b. q.1 (bf b)), q.2));
        sixty_seven = (λ z. (let q = h.sixty_seven.0 z in (sf q.0, (λ b. q.1 (bb b)), q.2, tf q.3)), λ q. h.sixty_seven.1 (sb q.0, (λ b. q.1 (bf b)), q.2, tb q.3));
        none = (λ z. (let q = h.none.0 z in (sf q.0, (λ b. q.1 (bb b)), q.2, (λ t. q.3 (tb t)))), λ q. h.none.1 (sb q.0, (λ b. q.1 (bf b)), q.2, (λ t. q.3 (tf t))));
      }

module _ (state o report area : List ℕ) (r eaten reported : ℕ) (state' report' area' : List ℕ) (os : Octets state)
    (y : Replays state report area o r eaten reported state' report' area') where
  abbrev Sized : Type 0
  Sized = (length state ≡ state_size) × (length report ≡ report_size) × (length area ≡ 65536)

  abbrev Same : Type 0
  Same = (eaten ≡ 0) × (reported ≡ 0) × (state' ≡ state) × (report' ≡ report) × (area' ≡ area)

  abbrev Call : Type 0
  Call = ReplayCall state o report area r eaten reported state' report' area'

  -- refused in front of the replay
  replay_barred : (n : ℕ) → eqb n 0 ≡ false → feed_bar state report area ≡ n → (r ≡ n) × Same
  unfolding replay_left
  replay_barred n f e =
      let q : replay_left state report area o ≡ Trunk.barred n state report area = rw (e, f) in (
        y.number ∙ ap (λ (x : Left). x.number) q,
        (
          y.ate ∙ ap (λ (x : Left). x.eaten) q,
          y.spoke ∙ ap (λ (x : Left). x.reported) q,
          y.state_after ∙ ap (λ (x : Left). x.state) q,
          y.report_after ∙ ap (λ (x : Left). x.report) q,
          y.area_after ∙ ap (λ (x : Left). x.area) q,
        ),
      )

  replay_sixty : (Sized → ⊥) → feed_bar state report area ≡ 60 → Call
  replay_sixty lacks e =
      let b = replay_barred 60 refl e in
      record { numbers = is_60 r Sized (BadState state) (Whole o) (Holding state (λ c. Stopped c area o)) b.0 lacks; refused = λ _. b.1; done = λ z. contra r (inl b.0) z }

  module _ (m : length report ≡ report_size) (k : length area ≡ 65536) where
    replay_fifty_nine : length state ≡ state_size → feed_bar state report area ≡ 59 → ((c : Collector) → Loads state c → ⊥) → Call
    replay_fifty_nine n e lacks =
        let b = replay_barred 59 refl e in
        record {
          numbers = is_59 r Sized (BadState state) (Whole o) (Holding state (λ c. Stopped c area o)) b.0 (n, m, k) (inl lacks);
          refused = λ _. b.1;
          done = λ z. contra r (inr (inl b.0)) z;
        }

    arrays : (c : Collector) → Loads state c → Arrays c
    arrays c l = let f = fits_shaped (loads_only state c os l).0 in record { head = f.head; store = f.store; four = four state c os l }

    replay_below : length state ≡ state_size → (c : Collector) → Loads state c → Call
    replay_below n c l =
        let g = replays_carried state report area o c l m k y in
        let later = g.1 in
        let f : Played = record { refused = r; eaten = eaten; reported = g.0; state = later } in
        let own = replay_own state (octets_own state os) y later g.4 in
        record {
          numbers = as_below ((length report ≡ report_size) × (length area ≡ 65536)) (Broken c) (Whole o) (Stopped c area o) Sized (BadState state) (Holding state (λ d. Stopped d area o))
              (λ q. (n, q.0, q.1)) (λ q. (q.1, q.2)) (to_bad state c l) (of_bad state c l) (λ t. (c, l, t)) (λ h. held_one state c l (λ d. Stopped d area o) h)
              (replay_numbers c o report area f report' area' (arrays c l) g.3);
          refused = λ z. (let h = replay_refused c o report area f report' area' g.3 z in (
            ap (λ (x : Played). x.eaten) h.0,
            g.2 ∙ ap (λ (x : Played). flag x.reported) h.0,
            own ∙ ap (λ (x : Played). state_octets x.state) h.0 ∙ sym (octets_own state os c l),
            h.1,
            h.2,
          ));
          done = λ z. record { held = c; loads = l; answer = f; does = (refl, refl, g.2, g.3); octets = own; again = g.4 };
        }

    replay_by : Judged state → Call
    unfolding feed_bar bar
    replay_by (other lacks e) = replay_sixty (λ q. lacks q.0) (rw (eq-eqb (length report) report_size m, eq-eqb (length area) 65536 k) e)
    replay_by (no-state n e) = replay_fifty_nine n (rw (eq-eqb (length report) report_size m, eq-eqb (length area) 65536 k) e) (not_loaded state 59 refl e)
    replay_by (state-there n e) = replay_below n (inside state) (accepted state e)

pub exported_replay : ExportedReplay
unfolding feed_bar bar
exported_replay state o report area r eaten reported state' report' area' os y =
    by_test (both (eqb (length report) report_size) (sized area))
    (λ a.
    let t = both_true _ _ a in
    replay_by state o report area r eaten reported state' report' area' os y (eqb-true _ _ t.0) (eqb-true _ _ t.1) (judged state))
    (λ a.
    replay_sixty state o report area r eaten reported state' report' area' os y
    (λ q. not_so (sym a ∙ true_both _ _ (eq-eqb _ _ q.1) (eq-eqb _ _ q.2))) (rw a))

pub calls_are_linked : CallsAreLinked
calls_are_linked =
    record {
      fed = λ p state report area piece run r eaten reported state' report' area' k z y h w.
          call (octs piece) run (made (feed piece (record { report = report; report' = report'; number = r; reported = reported; sixteen = k; sized = z; promise = y; says = refl }))) w;
      silent = λ p state report area run r reported state' report' k y h w.
          call (trunk silence ∷ []) run (made (still (record { report = report; report' = report'; number = r; reported = reported; sixteen = k; promise = y; says = refl; area = refl }))) w;
      forgot = λ p state area i run r state' y h w. call (forget i ∷ []) run (made (free i (record { number = r; promise = y; area = refl }))) w;
      replayed = λ p state report area lent run behind r eaten reported state' report' area' k z b y h w.
          call lent run (by-replay (record { behind = behind; report = report; report' = report'; number = r; reported = reported; ends = b; sixteen = k; sized = z; promise = y; says = refl })) w;
    }
