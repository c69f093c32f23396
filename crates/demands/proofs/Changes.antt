-- Demand 1: what the collector's calls change, refused or not.
use Prim.Native.Nat.{ℕ}
use mathlib.Core.Path.{◌≡◌, refl, sym, ap, ◌∙◌}
use mathlib.Core.Bool.{false}
use mathlib.Core.List.{List, []}
use mathlib.Core.Option.{Option, none, some}
use lib.Dec.{eqb}
use lib.ListN.{length}
use borrow.Author.Tests.{eqb-false}
use Rattle.octets.specs.Choice.{pick, by_test}
use Rattle.apdu.specs.declared.Edition.{Edition}
use Rattle.frames.specs.Step.{sound_of, feed_of, silence_of}
use Rattle.frames.specs.declared.Receiver.{Receiver}
use Rattle.runs.specs.Offered.{answer, caught}
use Rattle.trunk.specs.Reading as Trunk
use Rattle.trunk.specs.Reading.Out.{good as whole, damage}
use Rattle.trunk.specs.Demand.{out_of, unmoved}
use Rattle.messages.specs.Slots.{Segment, boxed, slot_at}
use Rattle.messages.specs.Rows as Rows
use Rattle.messages.specs.Rows.{rebuild, forget_number}
use Rattle.rebuild.specs.View.{keys}
use Rattle.rebuild.specs.declared.Key.{Key}
use Rattle.rebuild.proofs.Seen.{view_one}
use Rattle.recordings.specs.Frames.{act_on, rules}
use Rattle.reports.specs.Layout.{report_size}
use Rattle.reports.proofs.Octets.{report_size_lem}
use Rattle.collector.specs.Frame.{bacnet, segment_at, plain_at, answered_at}
use Rattle.collector.specs.Calls.{box, sound, passing, sized, slots_of, written, said_so, Answered, feed_refusal, feeding, Feeds, silence_refusal, stilling, Stills}
use Rattle.collector.specs.declared.Collector.{Collector}
use Rattle.collector.proofs.Alike.{feeds_one, stills_one}
use Rattle.collector.proofs.Refusals.{refused_keeps}
use Rattle.collector.proofs.Demand as Demand
use Rattle.demands.specs.Words.{unfed_by, quiet_by, BySegment, ByOutcome}
use Rattle.demands.specs.Demands.{FeedRefused, SilenceRefused, ForgetRefused, FeedDoes, SilenceDoes, ForgetDoes, OthersStay}

-- ---- refused: nothing changes
pub feed_refused : FeedRefused
feed_refused c piece report area r report' area' h n =
    let keep : Feeds c report area piece (unfed_by (feed_refusal c report area) c) report area =
    rw (refused_keeps c report area piece (λ e. n (h.refused ∙ e))) (record { refused = refl; eaten = refl; reported = refl; edition = refl; receiver = refl; slots = refl; report_after = refl; area_after = refl }) in
    let k = feeds_one c report area piece h keep in
    (k.0 ∙ ap (λ (x : ℕ). unfed_by x c) (sym h.refused), k.1, k.2)

silence_keeps : (c : Collector) (report : List ℕ) → (silence_refusal c report ≡ 0 → ⊥) → stilling c report [] ≡ unmoved c.receiver (slots_of c) []
unfolding silence_refusal stilling silence_of
silence_keeps c report n =
    by_test (eqb (length report) report_size)
    (λ k. by_test (passing (slots_of c))
    (λ p. by_test (sound_of c.receiver) (λ s. absurd (n (rw (k, s, p)))) (λ s. rw (k, p, s)))
    (λ p. rw (k, p)))
    (λ k. rw k)

pub silence_refused : SilenceRefused
silence_refused c report r report' h n =
    let keep : Stills c report (quiet_by (silence_refusal c report) c) report =
    rw (silence_keeps c report (λ e. n (h.refused ∙ e))) (record { refused = refl; reported = refl; edition = refl; receiver = refl; slots = refl; report_after = refl }) in
    let k = stills_one c report h keep in
    (k.0 ∙ ap (λ (x : ℕ). quiet_by x c) (sym h.refused), k.1)

forget_keeps : (c : Collector) (s : ℕ) → (pick (sound c.receiver (slots_of c)) (forget_number keys s (slots_of c)) 59 ≡ 0 → ⊥) → (box c.edition).free s c.receiver (slots_of c) ≡ slots_of c
forget_keeps c s n =
    by_test (passing (slots_of c))
    (λ p. by_test (sound_of c.receiver)
    (λ q. by_test (slot_at keys (slots_of c) s).used (λ u. absurd (n (rw (q, p, u)))) (λ u. rw (p, q, u)))
    (λ q. rw (p, q)))
    (λ p. rw p)

pub forget_refused : ForgetRefused
forget_refused c s r h n =
    let k = view_one r.state.slots c.slots (h.slots ∙ forget_keeps c s (λ e. n (h.number ∙ e))) in
    let d = h.edition in
    let v = h.receiver in
    λ i. record { edition = d i; receiver = v i; slots = k i }

-- ---- a report has its size
abbrev Whole : List ℕ → Type 0
Whole o = length o ≡ report_size

plainly : (edition : Edition) (o : Trunk.Out) → Whole (plain_at edition o)
plainly edition (whole head payload) = report_size_lem _
plainly edition (damage n) = report_size_lem _

answering : (edition : Edition) (o : Trunk.Out) (w : Rows.Answer) (area : List ℕ) → Whole (answered_at edition o w area)
answering edition (whole head payload) w area = report_size_lem _
answering edition (damage n) w area = report_size_lem _

-- ---- a piece that is not refused
no : {X : Type 0} (n : ℕ) → eqb n 0 ≡ false → n ≡ 0 → X
no n e z = absurd (eqb-false n 0 e z)

module _ (c : Collector) (report area : List ℕ) where
  not_refused : (piece : List ℕ) → feed_refusal c report area ≡ 0
      → (let f = feed_of c.receiver piece in
      feeding c report area piece ≡ caught (rules keys (bacnet c.edition)) (out_of f.outcome f.receiver) f.eaten f.receiver (slots_of c) area (answer f.eaten none f.receiver (slots_of c) area))
  unfolding feed_refusal feeding
  not_refused piece e =
      by_test (eqb (length report) report_size)
      (λ k. by_test (sized area)
      (λ z. by_test (passing (slots_of c)) (λ p. rw (k, z, p)) (λ p.
      let q : pick (sound c.receiver (slots_of c)) 0 59 ≡ 0 = rw (k, z) at e in
      by_test (sound_of c.receiver) (λ s. no 59 refl (rw (s, p) at q)) (λ s. no 59 refl (rw s at q))))
      (λ z. no 60 refl (rw (k, z) at e)))
      (λ k. no 60 refl (rw k at e))

  -- by the segment, and by the outcome
  by_segment : (o : Trunk.Out) (y : Option (Segment Key)) → (let w = act_on keys (bacnet c.edition) y o (slots_of c) area in Whole w.0 × BySegment c area o y w.0 w.1 w.2)
  by_segment o none = (plainly c.edition o, (refl, refl, refl))
  by_segment o (some g) = let d = rebuild keys g (boxed (slots_of c) area) in (answering c.edition o d.answer d.box.area, (refl, refl, refl))

  by_outcome : (x : Option Trunk.Out) (n : ℕ) (m : Receiver)
      → (let d = caught (rules keys (bacnet c.edition)) x n m (slots_of c) area (answer n none m (slots_of c) area) in ByOutcome c report area x (said_so d.said) (written d.said report) d.slots d.area)
  by_outcome none n m = (refl, refl, refl, refl)
  by_outcome (some o) n m = let h = by_segment o (segment_at c.edition o) in (refl, h.0, h.1)

  -- an outcome's answer eats and leaves what the receiver did
  caught_eaten : (x : Option Trunk.Out) (n : ℕ) (m : Receiver)
      → (let d = caught (rules keys (bacnet c.edition)) x n m (slots_of c) area (answer n none m (slots_of c) area) in (d.eaten ≡ n) × (d.state ≡ m))
  caught_eaten none n m = (refl, refl)
  caught_eaten (some o) n m = (refl, refl)

pub feed_does : FeedDoes
feed_does c piece report area r report' area' h z =
    let f = feed_of c.receiver piece in
    let x = out_of f.outcome f.receiver in
    let d = caught (rules keys (bacnet c.edition)) x f.eaten f.receiver (slots_of c) area (answer f.eaten none f.receiver (slots_of c) area) in
    let e : feeding c report area piece ≡ d = not_refused c report area piece (sym h.refused ∙ z) in
    let k = caught_eaten c report area x f.eaten f.receiver in
    record {
      eaten = h.eaten ∙ ap (λ (a : Answered). a.eaten) e ∙ k.0;
      receiver = h.receiver ∙ ap (λ (a : Answered). a.state) e ∙ k.1;
      rest = rw (h.reported, h.report_after, h.slots, h.area_after, e) (by_outcome c report area x f.eaten f.receiver);
    }

-- ---- a silence, and a forget order, that are not refused
pub silence_does : SilenceDoes
unfolding silence_refusal stilling
silence_does c report r report' h z =
    by_test (eqb (length report) report_size)
    (λ k. by_test (passing (slots_of c))
    (λ p. (rw (k, p) at h.reported, rw (k, p) at h.report_after, rw (k, p) at h.receiver, view_one r.state.slots c.slots (rw (k, p) at h.slots)))
    (λ p.
    let q : pick (sound c.receiver (slots_of c)) 0 59 ≡ 0 = rw k at (sym h.refused ∙ z) in
    by_test (sound_of c.receiver) (λ s. no 59 refl (rw (s, p) at q)) (λ s. no 59 refl (rw s at q))))
    (λ k. no 60 refl (rw k at (sym h.refused ∙ z)))

pub forget_does : ForgetDoes
forget_does c s r h z =
    let q : pick (sound c.receiver (slots_of c)) (forget_number keys s (slots_of c)) 59 ≡ 0 = sym h.number ∙ z in
    by_test (sound_of c.receiver)
    (λ s₁. by_test (passing (slots_of c))
    (λ p. by_test (slot_at keys (slots_of c) s).used
    (λ u. (h.receiver, h.slots ∙ rw (p, s₁, u)))
    (λ u. no 56 refl (rw (s₁, p, u) at q)))
    (λ p. no 59 refl (rw (s₁, p) at q)))
    (λ s₁. no 59 refl (rw s₁ at q))

pub others_stay : OthersStay
others_stay = Demand.elsewhere
