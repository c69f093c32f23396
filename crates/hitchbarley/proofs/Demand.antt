-- Demand 3 over the exported calls: from an area that holds a state, each call is the collector's own call of that state and leaves an area that holds
-- the collector's later state, so every promise carries over.
use Prim.Native.Nat.{ℕ}
use mathlib.Core.Path.{◌≡◌, refl, sym, ap, subst, ◌∙◌}
use mathlib.Core.Bool.{Bool, true, false}
use mathlib.Core.List.{List, [], ◌∷◌, ◌++◌}
use mathlib.Core.Option.{Option}
use lib.ListN.{length}
use borrow.Author.Tests.{eq-eqb}
use Rattle.runs.specs.Run.{Run, octs, ends}
use Rattle.runs.specs.Run.Event.{silence}
use Rattle.runs.specs.Run.Order.{trunk, forget}
use Rattle.runs.specs.Offered.{Offer, Made, box_calls, Offered}
use Rattle.runs.specs.Offered.Offer.{call}
use Rattle.runs.specs.Offered.Made.{feed, still, free}
use Rattle.runs.proofs.Carrying.{Carries, Goes, carry}
use Rattle.apdu.specs.declared.Edition.{Edition}
use Rattle.trunk.specs.Reading.{held_of}
use Rattle.trunk.specs.Demand.{reading}
use Rattle.rebuild.specs.View.{keys}
use Rattle.rebuild.proofs.Seen.{view_unview}
use Rattle.recordings.specs.Frames.{rules}
use Rattle.reports.specs.Layout.{report_size}
use Rattle.collector.specs.Calls as Calls
use Rattle.collector.specs.Calls.{box, slots_of, said_so, feed_refusal, feeding, silence_refusal, stilling}
use Rattle.collector.specs.Frame.{bacnet}
use Rattle.collector.specs.Offering as Collecting
use Rattle.collector.specs.Offering.{Passes, BoxEnd, End, in_edition, told, WithArea}
use Rattle.collector.specs.declared.Collector.{Collector}
use Rattle.collector.specs.Answers.{Fed}
use Rattle.collector.specs.Answers.{Fell}
use Rattle.collector.proofs.Alike.{Boxed, seen, SeenIn, called, called_by}
use Rattle.collector.proofs.Demand.{demand3}
use Rattle.records.specs.Flag.{flag}
use Rattle.state.specs.Calls.{Loaded, Loads}
use Rattle.playback.specs.Layout.{record_octets}
use Rattle.playback.specs.Calls.{playing, Plays}
use Rattle.playback.specs.Offering as Playback
use Rattle.playback.proofs.Demand as Replay
use Rattle.hitchbarley.specs.Trunk.{Left, state_by, state_of, passed, bar, inside, feed_bar, feed_left, silence_bar, silence_left, forget_number_of, forgotten, forget_left, Feeds, Stills, Forgets}
use Rattle.hitchbarley.specs.Replay.{replay_left, Replays}
use Rattle.hitchbarley.specs.Offering.{Heard, told_by, Areas, calls, Replaying, Calling, Linked}
use Rattle.hitchbarley.specs.Offering.Calling.{made, replayed}
use Rattle.hitchbarley.proofs.Passed.{whole}

pub inside_is : (state : List ℕ) (c : Collector) → Loads state c → inside state ≡ c
inside_is state c l = ap (λ (x : Loaded). x.state) l

-- ---- one call: its flag and the state that it leaves are those of the collector's call
abbrev fed_by : ℕ → ℕ → Bool → Collector → Fed
fed_by r eaten b c = record { refused = r; eaten = eaten; reported = b; state = c }

pub feeds_carried : (state report area piece : List ℕ) (c : Collector) → Loads state c → length report ≡ report_size → length area ≡ 65536
    → {r eaten reported : ℕ} {state' report' area' : List ℕ} → Feeds state report area piece r eaten reported state' report' area'
    → (b : Bool) × (later : Collector) × (reported ≡ flag b) × Calls.Feeds c report area piece (fed_by r eaten b later) report' area' × Loads state' later
unfolding feed_left feed_bar bar
feeds_carried state report area piece c l k m y =
    let d = feeding c report area piece in
    let i = inside_is state c l in
    let z : feed_bar state report area ≡ 0 = rw (eq-eqb (length report) report_size k, eq-eqb (length area) 65536 m, l) in
    let q : feed_left state report area piece ≡ passed c.edition (feed_refusal c report area) d report = rw (z, i) in (
      said_so d.said,
      state_of c.edition d,
      y.spoke ∙ ap (λ (x : Left). x.reported) q,
      record {
        refused = y.number ∙ ap (λ (x : Left). x.number) q;
        eaten = y.ate ∙ ap (λ (x : Left). x.eaten) q;
        reported = refl;
        edition = refl;
        receiver = refl;
        slots = view_unview d.slots;
        report_after = y.report_after ∙ ap (λ (x : Left). x.report) q;
        area_after = y.area_after ∙ ap (λ (x : Left). x.area) q;
      },
      rw i at (y.again z),
    )

abbrev fell_by : ℕ → Bool → Collector → Fell
fell_by r b c = record { refused = r; reported = b; state = c }

pub stills_carried : (state report : List ℕ) (c : Collector) → Loads state c → length report ≡ report_size
    → {r reported : ℕ} {state' report' : List ℕ} → Stills state report r reported state' report'
    → (b : Bool) × (later : Collector) × (reported ≡ flag b) × Calls.Stills c report (fell_by r b later) report' × Loads state' later
unfolding silence_left silence_bar bar
stills_carried state report c l k y =
    let d = stilling c report [] in
    let i = inside_is state c l in
    let z : silence_bar state report ≡ 0 = rw (eq-eqb (length report) report_size k, l) in
    let q : silence_left state report ≡ passed c.edition (silence_refusal c report) d report = rw (z, i) in (
      said_so d.said,
      state_of c.edition d,
      y.spoke ∙ ap (λ (x : Left). x.reported) q,
      record {
        refused = y.number ∙ ap (λ (x : Left). x.number) q;
        reported = refl;
        edition = refl;
        receiver = refl;
        slots = view_unview d.slots;
        report_after = y.report_after ∙ ap (λ (x : Left). x.report) q;
      },
      rw i at (y.again z),
    )

pub forgets_carried : (state : List ℕ) (n : ℕ) (c : Collector) → Loads state c → {r : ℕ} {state' : List ℕ} → Forgets state n r state'
    → (later : Collector) × Calls.Forgets c n (record { number = r; state = later }) × Loads state' later
unfolding forget_left forget_number_of bar
forgets_carried state n c l y =
    let i = inside_is state c l in
    let z : bar true state ≡ 0 = rw l in
    let q : (forget_left state n).number ≡ forget_number_of c n = rw (z, i) in
    (forgotten c n, record { number = y.number ∙ q; edition = refl; receiver = refl; slots = view_unview _ }, rw i at (y.again z))

-- ---- every call is the collector's, between a state area that holds a state and that state
told_flag : (reported : ℕ) (b : Bool) (x : List ℕ) → reported ≡ flag b → told_by reported x ≡ told b x
told_flag reported true x e = rw e
told_flag reported false x e = rw e

abbrev HoldsIt : Areas → WithArea → Type 0
HoldsIt s u = Loads s.0 u.0 × (u.1 ≡ s.1)

linked : Carries calls Collecting.calls HoldsIt
linked =
    record {
      feeds = λ s t u piece n said a h.
          let g = feeds_carried s.0 h.report s.1 piece u.0 a.0 h.sixteen h.sized h.promise in (
            (g.1, t.1),
            record {
              report = h.report;
              report' = h.report';
              answer = fed_by h.number n g.0 g.1;
              sixteen = h.sixteen;
              promise = rw a.1 g.3;
              ate = refl;
              says = h.says ∙ told_flag h.reported g.0 h.report' g.2;
              leaves = refl;
            },
            (g.4, refl),
          );
      stills = λ s t u said a h.
          let g = stills_carried s.0 h.report u.0 a.0 h.sixteen h.promise in (
            (g.1, t.1),
            record {
              report = h.report;
              report' = h.report';
              answer = fell_by h.number g.0 g.1;
              sixteen = h.sixteen;
              promise = g.3;
              says = h.says ∙ told_flag h.reported g.0 h.report' g.2;
              leaves = refl;
              area = h.area ∙ sym a.1;
            },
            (g.4, refl),
          );
      forgets = λ s t u i a h.
          let g = forgets_carried s.0 i u.0 a.0 h.promise in (
            (g.0, t.1),
            record { answer = record { number = h.number; state = g.0 }; promise = g.1; leaves = refl; area = h.area ∙ sym a.1 },
            (g.2, refl),
          );
    }

-- ---- and so, by the box's of the state's edition: every call of either kind, and it leaves the edition
abbrev HoldsBox : Edition → Areas → Boxed → Type 0
HoldsBox d s x = (u : WithArea) × HoldsIt s u × SeenIn d u x

abbrev BoxGoes : Edition → Boxed → Run → ℕ → Option (List ℕ) → Boxed → Type 0
BoxGoes d = Goes (Made (box_calls (box d)))

made_goes : (d : Edition) (s t : Areas) (x : Boxed) {lent : Run} {n : ℕ} {said : Option (List ℕ)} → HoldsBox d s x → Made calls s lent n said t → (y : Boxed) × BoxGoes d x lent n said y × HoldsBox d t y
made_goes d s t x {n = n} {said = said} a (feed piece c) =
    let w = linked.feeds s t a.0 piece n said a.1 c in
    let y = (called d).feeds a.0 w.0 x piece n said a.2 w.1 in
    (y.0, (λ p run rs last o. call (octs piece) run (feed piece y.1) o), (w.0, w.2, y.2))
made_goes d s t x {said = said} a (still c) =
    let w = linked.stills s t a.0 said a.1 c in
    let y = (called d).stills a.0 w.0 x said a.2 w.1 in
    (y.0, (λ p run rs last o. call (trunk silence ∷ []) run (still y.1) o), (w.0, w.2, y.2))
made_goes d s t x a (free i c) =
    let w = linked.forgets s t a.0 i a.1 c in
    let y = (called d).forgets a.0 w.0 x i a.2 w.1 in
    (y.0, (λ p run rs last o. call (forget i ∷ []) run (free i y.1) o), (w.0, w.2, y.2))

-- a replay over octets is the replay of the state that they hold
pub replays_carried : (state report area o : List ℕ) (c : Collector) → Loads state c → length report ≡ report_size → length area ≡ 65536
    → {r eaten reported : ℕ} {state' report' area' : List ℕ} → Replays state report area o r eaten reported state' report' area'
    → (b : Bool) × (later : Collector) × (reported ≡ flag b) × Plays c report area o (record { refused = r; eaten = eaten; reported = b; state = later }) report' area' × Loads state' later
unfolding replay_left feed_bar bar
replays_carried state report area o c l k m y =
    let d = playing c report area o in
    let i = inside_is state c l in
    let z : feed_bar state report area ≡ 0 = rw (eq-eqb (length report) report_size k, eq-eqb (length area) 65536 m, l) in
    let q : replay_left state report area o ≡ passed c.edition d.number d.left report = rw (z, i) in (
      said_so d.left.said,
      state_of c.edition d.left,
      y.spoke ∙ ap (λ (x : Left). x.reported) q,
      record {
        refused = y.number ∙ ap (λ (x : Left). x.number) q;
        eaten = y.ate ∙ ap (λ (x : Left). x.eaten) q;
        reported = refl;
        edition = refl;
        receiver = refl;
        slots = view_unview d.left.slots;
        report_after = y.report_after ∙ ap (λ (x : Left). x.report) q;
        area_after = y.area_after ∙ ap (λ (x : Left). x.area) q;
      },
      rw i at (y.again z),
    )

replay_goes : (d : Edition) (s t : Areas) (x : Boxed) {lent : Run} {n : ℕ} {said : Option (List ℕ)} → HoldsBox d s x → Replaying s lent n said t → (y : Boxed) × BoxGoes d x lent n said y × HoldsBox d t y
replay_goes d s t x {lent} {n} {said} a h =
    let u = a.0 in
    let g = replays_carried s.0 h.report s.1 (record_octets lent ++ h.behind) u.0 a.1.0 h.sixteen h.sized h.promise in
    let c : Playback.Replaying u lent n said (g.1, t.1) = record {
      behind = h.behind;
      report = h.report;
      report' = h.report';
      answer = record { refused = h.number; eaten = n; reported = g.0; state = g.1 };
      ends = h.ends;
      sixteen = h.sixteen;
      promise = rw a.1.1 g.3;
      ate = refl;
      says = h.says ∙ told_flag h.reported g.0 h.report' g.2;
      leaves = refl;
    } in
    let y = Replay.step d u (g.1, t.1) x lent n said a.2 c in
    (y.0, y.1, ((g.1, t.1), (g.4, refl), y.2))

goes : (d : Edition) (s t : Areas) (x : Boxed) (lent : Run) (n : ℕ) (said : Option (List ℕ)) → HoldsBox d s x → Calling s lent n said t → (y : Boxed) × BoxGoes d x lent n said y × HoldsBox d t y
goes d s t x lent n said a (made c) = made_goes d s t x a c
goes d s t x lent n said a (replayed c) = replay_goes d s t x a c

-- "Then reports, final state and message area are those that a reading of the whole recording by position gives." The last state names the edition.
pub octets_demand3 : (state : List ℕ) (c : Collector) (area : List ℕ) → Loads state c → Passes c → length area ≡ 65536 → (run : Run) (h : Heard)
    → Linked (length (held_of c.receiver)) state area run h
    → (let e = reading (rules keys (bacnet c.edition)) c.receiver (slots_of c) area run in
    (h.reports ≡ e.reports) × (h.area ≡ e.area) × Loads h.state (state_by c.edition e.state e.slots))
octets_demand3 state c area l P z run h o =
    let ruled = box c.edition in
    let t = carry Calling (Made (box_calls ruled)) (HoldsBox c.edition) (goes c.edition) {u = seen (c, area)} ((c, area), (l, refl), (refl, refl)) o in
    let u = t.2.0 in
    let d = u.0 in
    let e : BoxEnd = ends h.reports d.receiver (slots_of d) u.1 in
    let back : Offered ruled (length (held_of c.receiver)) c.receiver (slots_of c) area run e =
    subst (λ (y : Boxed). Offer (Made (box_calls ruled)) (length (held_of c.receiver)) (seen (c, area)) run h.reports y) t.2.2.1 t.1 in
    let q : in_edition c.edition e ≡ in_edition c.edition (reading (rules keys (bacnet c.edition)) c.receiver (slots_of c) area run) = demand3 c area P z (called_by back) in
    let same : d ≡ state_by c.edition d.receiver (slots_of d) = whole d c.edition d.receiver (slots_of d) t.2.2.0 refl refl in (
      ap (λ (x : End). x.reports) q,
      sym t.2.1.1 ∙ ap (λ (x : End). x.area) q,
      subst (λ (x : End). Loads h.state (state_by x.state.0 x.state.1 x.slots)) q (subst (Loads h.state) same t.2.1.0),
    )
