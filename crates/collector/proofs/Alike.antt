-- Any two answers that a call's promise allows are equal, and they are the box's.
use Prim.Native.Nat.{ℕ}
use mathlib.Core.Path.{◌≡◌, refl, sym, ap, subst, ◌∙◌}
use mathlib.Core.List.{List, []}
use mathlib.Core.Option.{Option, none, some}
use lib.ListN.{length, replicate}
use borrow.Author.Tests.{eq-eqb}
use Rattle.octets.specs.Choice.{pick, by_test}
use Rattle.runs.specs.Run.{Run, ends}
use Rattle.runs.specs.Offered.{answer, box_calls, Offered, Offer, Made}
use Rattle.runs.proofs.Carrying.{Carries, carried}
use Rattle.apdu.specs.declared.Edition.{Edition}
use Rattle.frames.specs.declared.Receiver.{Receiver}
use Rattle.messages.specs.Slots as Messages
use Rattle.messages.specs.Rows.{forget_number}
use Rattle.rebuild.specs.View.{keys, unview}
use Rattle.rebuild.specs.declared.Key.{Key}
use Rattle.rebuild.proofs.Seen.{view_one, view_unview}
use Rattle.reports.specs.Layout.{report_size}
use Rattle.collector.specs.Calls.{passing, sound, box, written, said_so, slots_of, Answered, feed_refusal, feeding, Tells, Feeds, silence_refusal, stilling, Falls, Stills, Forgets}
use Rattle.collector.specs.Offering.{BoxEnd, End, in_edition, told, WithArea, calls, Called}
use Rattle.collector.specs.declared.Collector.{Collector}
use Rattle.collector.specs.Answers.{Fed, Fell, Forgot}

-- ---- one answer
pub feeds_one : (c : Collector) (report area piece : List ℕ) {report₁ area₁ report₂ area₂ : List ℕ} {r₁ r₂ : Fed} → Feeds c report area piece r₁ report₁ area₁ → Feeds c report area piece r₂ report₂ area₂
    → (r₁ ≡ r₂) × (report₁ ≡ report₂) × (area₁ ≡ area₂)
feeds_one c report area piece {r₁ = r₁} {r₂ = r₂} a b =
    let n = a.refused ∙ sym b.refused in
    let k = a.eaten ∙ sym b.eaten in
    let f = a.reported ∙ sym b.reported in
    let d = a.edition ∙ sym b.edition in
    let v = a.receiver ∙ sym b.receiver in
    let s = view_one r₁.state.slots r₂.state.slots (a.slots ∙ sym b.slots) in
    (λ i. record { refused = n i; eaten = k i; reported = f i; state = record { edition = d i; receiver = v i; slots = s i } }, a.report_after ∙ sym b.report_after, a.area_after ∙ sym b.area_after)

pub stills_one : (c : Collector) (report : List ℕ) {report₁ report₂ : List ℕ} {r₁ r₂ : Fell} → Stills c report r₁ report₁ → Stills c report r₂ report₂ → (r₁ ≡ r₂) × (report₁ ≡ report₂)
stills_one c report {r₁ = r₁} {r₂ = r₂} a b =
    let n = a.refused ∙ sym b.refused in
    let f = a.reported ∙ sym b.reported in
    let d = a.edition ∙ sym b.edition in
    let v = a.receiver ∙ sym b.receiver in
    let s = view_one r₁.state.slots r₂.state.slots (a.slots ∙ sym b.slots) in
    (λ i. record { refused = n i; reported = f i; state = record { edition = d i; receiver = v i; slots = s i } }, a.report_after ∙ sym b.report_after)

pub forgets_one : (c : Collector) (n : ℕ) {r₁ r₂ : Forgot} → Forgets c n r₁ → Forgets c n r₂ → r₁ ≡ r₂
forgets_one c n {r₁ = r₁} {r₂ = r₂} a b =
    let m = a.number ∙ sym b.number in
    let d = a.edition ∙ sym b.edition in
    let v = a.receiver ∙ sym b.receiver in
    let s = view_one r₁.state.slots r₂.state.slots (a.slots ∙ sym b.slots) in
    λ i. record { number = m i; state = record { edition = d i; receiver = v i; slots = s i } }

-- ---- the box's answer
pub told_said : (x : Option (List ℕ)) (report : List ℕ) → told (said_so x) (written x report) ≡ x
told_said none report = refl
told_said (some y) report = refl

-- with a report area of 16 octets a piece's answer is the box's
pub feeding_box : (c : Collector) (report area piece : List ℕ) → length report ≡ report_size → feeding c report area piece ≡ (box c.edition).feed c.receiver (slots_of c) area piece
unfolding feeding
feeding_box c report area piece k = rw (eq-eqb (length report) report_size k)

-- a silence's answer does not look at the area
pub stilling_box : (c : Collector) (report area : List ℕ) → length report ≡ report_size
    → (let d = stilling c report [] in answer 0 d.said d.state d.slots area ≡ (box c.edition).still c.receiver (slots_of c) area)
unfolding stilling
stilling_box c report area k = rw (eq-eqb (length report) report_size k) (by_test (passing (slots_of c)) (λ e. rw e) (λ e. rw e))

-- ---- a collector with its area, as the box sees it
abbrev pub Boxed : Type 0
Boxed = Receiver × List (Messages.Slot Key) × List ℕ

abbrev pub seen : WithArea → Boxed
seen s = (s.0.receiver, slots_of s.0, s.1)

-- the same, the collector being of this edition
abbrev pub SeenIn : Edition → WithArea → Boxed → Type 0
SeenIn edition s x = (s.0.edition ≡ edition) × (x ≡ seen s)

-- every call is the box's, and leaves the edition
pub called : (edition : Edition) → Carries calls (box_calls (box edition)) (SeenIn edition)
called edition =
    record {
      feeds = λ s t x piece n said e h.
          let d = feeding s.0 h.report s.1 piece in
          let y = h.promise in (
            seen t,
            rw (← e.0, e.1, h.ate, h.says, h.leaves, y.eaten, y.reported, y.report_after, told_said d.said h.report, y.receiver, y.slots, y.area_after)
                (feeding_box s.0 h.report s.1 piece h.sixteen),
            (ap (λ (c : Collector). c.edition) h.leaves ∙ y.edition ∙ e.0, refl),
          );
      stills = λ s t x said e h.
          let d = stilling s.0 h.report [] in
          let y = h.promise in (
            seen t,
            rw (e.1, h.says, h.leaves, h.area, y.reported, y.report_after, told_said d.said h.report, y.receiver, y.slots)
                (stilling_box s.0 h.report s.1 h.sixteen),
            (ap (λ (c : Collector). c.edition) h.leaves ∙ y.edition ∙ e.0, refl),
          );
      forgets = λ s t x i e h.
          let y = h.promise in (
            seen t,
            rw (e.1, h.leaves, h.area, y.receiver, y.slots),
            (ap (λ (c : Collector). c.edition) h.leaves ∙ y.edition ∙ e.0, refl),
          );
    }

-- ---- each promise allows an answer: the state that a call leaves, and the answer by it
abbrev pub state_of : Edition → Answered → Collector
state_of edition d = record { edition = edition; receiver = d.state; slots = unview d.slots }

pub tells : (edition : Edition) (n : ℕ) (d : Answered) (report : List ℕ)
    → Tells edition n d report (record { refused = n; eaten = d.eaten; reported = said_so d.said; state = state_of edition d }) (written d.said report) d.area
tells edition n d report = record { refused = refl; eaten = refl; reported = refl; edition = refl; receiver = refl; slots = view_unview d.slots; report_after = refl; area_after = refl }

pub falls : (edition : Edition) (n : ℕ) (d : Answered) (report : List ℕ)
    → Falls edition n d report (record { refused = n; reported = said_so d.said; state = state_of edition d }) (written d.said report)
falls edition n d report = record { refused = refl; reported = refl; edition = refl; receiver = refl; slots = view_unview d.slots; report_after = refl }

abbrev pub forgot_by : Collector → ℕ → Forgot
forgot_by c i =
    record {
      number = pick (sound c.receiver (slots_of c)) (forget_number keys i (slots_of c)) 59;
      state = record { edition = c.edition; receiver = c.receiver; slots = unview ((box c.edition).free i c.receiver (slots_of c)) };
    }

pub forgets : (c : Collector) (i : ℕ) → Forgets c i (forgot_by c i)
forgets c i = record { number = refl; edition = refl; receiver = refl; slots = view_unview ((box c.edition).free i c.receiver (slots_of c)) }

-- ---- so every call of the box can be made: a report area of its size
pub blank : List ℕ
blank = replicate report_size 0

pub sixteen : length blank ≡ report_size
unfolding blank
sixteen = refl

-- what the box leaves, as it is seen in the state that the call leaves
seen_put : (edition : Edition) (x : Boxed) → x ≡ seen (record { edition = edition; receiver = x.0; slots = unview x.1 }, x.2)
seen_put edition x = rw (view_unview x.1)

answer_seen : (edition : Edition) (n : ℕ) (said : Option (List ℕ)) (y : Boxed) (d : Answered) → answer n said y.0 y.1 y.2 ≡ d → y ≡ seen (state_of edition d, d.area)
answer_seen edition n said y d e =
    let q : y ≡ (d.state, d.slots, d.area) = ap (λ (x : Answered). (x.state, x.slots, x.area)) e in
    q ∙ seen_put edition (d.state, d.slots, d.area)

pub calling : (edition : Edition) → Carries (box_calls (box edition)) calls (λ x s. SeenIn edition s x)
calling edition =
    record {
      feeds = λ x y s piece n said e q.
          let c = s.0 in
          let f = feeding c blank s.1 piece in
          let d : answer n said y.0 y.1 y.2 ≡ f = rw (← e.0, e.1) at q ∙ sym (feeding_box c blank s.1 piece sixteen) in (
            (state_of c.edition f, f.area),
            record {
              report = blank;
              report' = written f.said blank;
              answer = record { refused = feed_refusal c blank s.1; eaten = f.eaten; reported = said_so f.said; state = state_of c.edition f };
              sixteen = sixteen;
              promise = tells c.edition (feed_refusal c blank s.1) f blank;
              ate = ap (λ (x : Answered). x.eaten) d;
              says = ap (λ (x : Answered). x.said) d ∙ sym (told_said f.said blank);
              leaves = refl;
            },
            (e.0, answer_seen c.edition n said y f d),
          );
      stills = λ x y s said e q.
          let c = s.0 in
          let f = stilling c blank [] in
          let d : answer 0 said y.0 y.1 y.2 ≡ answer 0 f.said f.state f.slots s.1 = rw e.1 at q ∙ sym (stilling_box c blank s.1 sixteen) in (
            (state_of c.edition f, s.1),
            record {
              report = blank;
              report' = written f.said blank;
              answer = record { refused = silence_refusal c blank; reported = said_so f.said; state = state_of c.edition f };
              sixteen = sixteen;
              promise = falls c.edition (silence_refusal c blank) f blank;
              says = ap (λ (x : Answered). x.said) d ∙ sym (told_said f.said blank);
              leaves = refl;
              area = refl;
            },
            (e.0, answer_seen c.edition 0 said y (answer 0 f.said f.state f.slots s.1) d),
          );
      forgets = λ x y s i e q.
          let c = s.0 in
          let d : y ≡ (c.receiver, (box c.edition).free i c.receiver (slots_of c), s.1) = rw e.1 at q in (
            ((forgot_by c i).state, s.1),
            record { answer = forgot_by c i; promise = forgets c i; leaves = refl; area = refl },
            (e.0, d ∙ seen_put c.edition (c.receiver, (box c.edition).free i c.receiver (slots_of c), s.1)),
          );
    }

-- ---- every way of making the calls is a way of offering the run to the box of the state's edition, which the last state has too; and the other way round
pub offered_to : {p : ℕ} {c : Collector} {area : List ℕ} {run : Run} {e : End} → Called p c area run e
    → (x : BoxEnd) × Offered (box c.edition) p c.receiver (slots_of c) area run x × (e ≡ in_edition c.edition x)
offered_to {p} {c} {area} {run} {e} o =
    let w = carried (called c.edition) {u = seen (c, area)} (refl, refl) o.1 in (
      ends e.reports e.state.1 e.slots e.area,
      subst (λ (y : Boxed). Offer (Made (box_calls (box c.edition))) p (seen (c, area)) run e.reports y) (rw (w.2.1, o.3, o.4)) w.1,
      ap (λ (d : Edition). ends e.reports (d, e.state.1) e.slots e.area) (sym o.2 ∙ w.2.0),
    )

pub called_by : {p : ℕ} {c : Collector} {area : List ℕ} {run : Run} {x : BoxEnd} → Offered (box c.edition) p c.receiver (slots_of c) area run x
    → Called p c area run (in_edition c.edition x)
called_by {p} {c} {area} {run} {x} o =
    let w = carried (calling c.edition) {u = (c, area)} (refl, refl) o in
    let q : (x.state, x.slots, x.area) ≡ seen w.0 = w.2.1 in
    let left = subst (λ (a : List ℕ). Offer (Made calls) p (c, area) run x.reports (w.0.0, a)) (sym (ap (λ (y : Boxed). y.2) q)) w.1 in
    (w.0.0, left, w.2.0, sym (ap (λ (y : Boxed). y.0) q), sym (ap (λ (y : Boxed). y.1) q))
