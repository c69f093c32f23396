-- The ways in which the three calls come to answer what they promise.
use Prim.Native.Nat.{ℕ, zero, suc, ◌+◌, ◌≤◌}
use mathlib.Core.Path.{◌≡◌, refl, sym, ap, ◌∙◌}
use mathlib.Core.Bool.{Bool, true, false}
use mathlib.Core.List.{List, [], ◌∷◌}
use native.Mathlib.Omega.{arith}
use lib.Dec.{eqb}
use lib.ListN.{length, take}
use borrow.Author.Tests.{eq-eqb, ne_eqb}
use Rattle.octets.specs.Choice.{pick, both, pick_case, by_test}
use Rattle.apdu.specs.declared.Edition.{Edition}
use Rattle.frames.specs.declared.Outcome.TheVariants.{Quiet, Frame, Damage}
use Rattle.frames.specs.declared.Link.{Link}
use Rattle.frames.specs.declared.Receiver.{Receiver}
use Rattle.frames.specs.Answers.{Fed as Ended, Fell as Still}
use Rattle.frames.specs.Step.{most, length_of, sound_of, step_of, reports_of, feed_from, feed_of, silence_of}
use Rattle.frames.proofs.Laws.{step_store}
use Rattle.frames.proofs.Calls.{feed_refused, silence_refused, frame_fits}
use Rattle.trunk.specs.Demand.{ruled, stilled, unmoved}
use Rattle.messages.specs.Rows.{forget_number}
use Rattle.rebuild.specs.View.{keys, view}
use Rattle.rebuild.specs.Calls as Rebuild
use Rattle.rebuild.specs.declared.Slots.{Slots}
use Rattle.recordings.specs.Frames.{rules}
use Rattle.reports.specs.Layout.{report_size}
use Rattle.collector.specs.Heard.{heard_of}
use Rattle.collector.specs.Frame.{content_of, bacnet, damage_octets}
use Rattle.collector.specs.Acting.{acting, Acted}
use Rattle.collector.specs.Calls.{passing, slots_of, sound, Answered, feed_refusal, feeding, Tells, Feeds, silence_refusal, stilling, Falls, Stills, Forgets}
use Rattle.collector.specs.Lent.{over, Eats}
use Rattle.collector.specs.declared.Collector.{Collector}
use Rattle.collector.specs.Answers as Said
use Rattle.collector.specs.Answers.{Fed, Fell, Ate, Freed, Forgot}
use Rattle.collector.proofs.Actions.{acts_frame}

both_no : (a : Bool) → both a false ≡ false
both_no true = refl
both_no false = refl

both_yes : (a : Bool) → both a true ≡ a
both_yes true = refl
both_yes false = refl

-- slots that 59 refuses, and slots that it passes
slots_59 : (c : Collector) (n : ℕ) → passing (slots_of c) ≡ false → pick (sound c.receiver (slots_of c)) n 59 ≡ 59
slots_59 c n e = ap (λ (b : Bool). pick (both (sound_of c.receiver) b) n 59) e ∙ ap (λ (b : Bool). pick b n 59) (both_no (sound_of c.receiver))

slots_pass : (c : Collector) (n : ℕ) → passing (slots_of c) ≡ true → pick (sound c.receiver (slots_of c)) n 59 ≡ pick (sound_of c.receiver) n 59
slots_pass c n e = ap (λ (b : Bool). pick (both (sound_of c.receiver) b) n 59) e ∙ ap (λ (b : Bool). pick b n 59) (both_yes (sound_of c.receiver))

-- ---- feeding
-- a refused piece: nothing eaten, nothing changed
abbrev unfed_by : ℕ → Collector → Fed
unfed_by n c = record { refused = n; eaten = 0; reported = false; state = c }

tells_not : (n : ℕ) (c : Collector) (report area : List ℕ) → Tells c.edition n (unmoved c.receiver (slots_of c) area) report (unfed_by n c) report area
tells_not n c report area = record { refused = refl; eaten = refl; reported = refl; edition = refl; receiver = refl; slots = refl; report_after = refl; area_after = refl }

module _ (c : Collector) (report area piece : List ℕ) where
  tells_by : {n : ℕ} {d : Answered} {r : Fed} {report' area' : List ℕ} → feed_refusal c report area ≡ n → feeding c report area piece ≡ d → Tells c.edition n d report r report' area'
      → Feeds c report area piece r report' area'
  tells_by e q h = rw (e, q) h

  pub feeds_line : (length report ≡ report_size → ⊥) → Feeds c report area piece (unfed_by 60 c) report area
  unfolding feed_refusal feeding
  feeds_line h = tells_by (rw (ne_eqb (length report) report_size h)) (rw (ne_eqb (length report) report_size h)) (tells_not 60 c report area)

  pub feeds_area : length report ≡ report_size → (length area ≡ 65536 → ⊥) → Feeds c report area piece (unfed_by 60 c) report area
  unfolding feed_refusal feeding
  feeds_area k h =
      tells_by (rw (eq-eqb (length report) report_size k, ne_eqb (length area) 65536 h)) (rw (eq-eqb (length report) report_size k, ne_eqb (length area) 65536 h)) (tells_not 60 c report area)

  -- what is refused leaves the receiver
  pub feeds_kept : (n : ℕ) → 1 ≤ n → feed_refusal c report area ≡ n → c.receiver ≡ (feeding c report area piece).state
  unfolding feed_refusal feeding feed_of
  feeds_kept n l e =
      by_test (eqb (length report) report_size)
      (λ k. by_test (eqb (length area) 65536)
      (λ z. by_test (passing (slots_of c))
      (λ p. by_test (sound_of c.receiver)
      (λ s. absurd (let q : 0 ≡ n = rw (k, z, s, p) at e in omega arith))
      (λ s. rw (k, z, p, s)))
      (λ p. rw (k, z, p)))
      (λ z. rw (k, z)))
      (λ k. rw k)

  module _ (k : length report ≡ report_size) (z : length area ≡ 65536) where
    pub feeds_slots : passing (slots_of c) ≡ false → Feeds c report area piece (unfed_by 59 c) report area
    unfolding feed_refusal feeding
    feeds_slots e =
        tells_by (rw (eq-eqb (length report) report_size k, eq-eqb (length area) 65536 z) (slots_59 c 0 e)) (rw (eq-eqb (length report) report_size k, eq-eqb (length area) 65536 z, e)) (tells_not 59 c report area)

    -- past the refusals it is the receiver's answer and then the rules
    pub feeds_on : passing (slots_of c) ≡ true → {f : Ended} {r : Fed} {report' area' : List ℕ} → f ≡ feed_of c.receiver piece
        → Tells c.edition f.refused (ruled (rules keys (bacnet c.edition)) (slots_of c) area f) report r report' area' → Feeds c report area piece r report' area'
    unfolding feed_refusal feeding
    feeds_on p {f = f} e h =
        let fed = feed_of c.receiver piece in
        let n : feed_refusal c report area ≡ f.refused =
        rw (eq-eqb (length report) report_size k, eq-eqb (length area) 65536 z) (slots_pass c 0 p ∙ sym (feed_refused c.receiver piece) ∙ ap (λ (f : Ended). f.refused) (sym e)) in
        let d : feeding c report area piece ≡ ruled (rules keys (bacnet c.edition)) (slots_of c) area f =
        rw (eq-eqb (length report) report_size k, eq-eqb (length area) 65536 z, p) (ap (λ (f : Ended). ruled (rules keys (bacnet c.edition)) (slots_of c) area f) (sym e)) in
        tells_by n d h

-- over a lent store
pub eats_not : {n : ℕ} {edition : Edition} {l : Link} {t : Slots} {store report area piece : List ℕ} {r : Ate} → r ≡ Said.unfed_by n l t → Feeds (over edition l t store) report area piece (unfed_by n (over edition l t store)) report area
    → Eats edition l t store report area piece r store report area
eats_not e h = rw e (record { feeds = h; kept = λ z. refl })

-- a good frame's data lie in the store
pub data_fits : (r : Receiver) (xs : List ℕ) {f : Ended} {n : ℕ} → f ≡ feed_of r xs → f.outcome ≡ Frame → n ≡ length_of f.receiver.link.head → n ≤ 501
data_fits r xs e o q =
    let h : length_of (feed_of r xs).receiver.link.head ≤ most = frame_fits r xs (ap (λ (f : Ended). f.outcome) (sym e) ∙ o) in
    rw (q, e) h

from_store : (xs : List ℕ) (n : ℕ) (r : Receiver) → length (feed_from n r xs).receiver.store ≡ length r.store
from_store [] n r = refl
from_store (x ∷ xs) n r =
    pick_case (λ (f : Ended). length f.receiver.store ≡ length r.store) (reports_of (step_of r x).outcome) (step_store r x)
    (from_store xs (n + 1) (step_of r x).receiver ∙ step_store r x)

feed_store : (r : Receiver) (xs : List ℕ) → length (feed_of r xs).receiver.store ≡ length r.store
unfolding feed_of
feed_store r xs = pick_case (λ (f : Ended). length f.receiver.store ≡ length r.store) (sound_of r) (from_store xs 0 r) refl

pub in_store : (r : Receiver) (xs : List ℕ) {f : Ended} {n : ℕ} → length r.store ≡ 501 → f ≡ feed_of r xs → f.outcome ≡ Frame → n ≡ length_of f.receiver.link.head → n ≤ length f.receiver.store
in_store r xs s e o q =
    let h = data_fits r xs e o q in
    let k = feed_store r xs in
    rw e (omega arith)

take_most : (n : ℕ) (s : List ℕ) → length (take n s) ≤ n
take_most zero s = omega arith
take_most (suc n) [] = omega arith
take_most (suc n) (x ∷ s) = let h = take_most n s in omega arith

pub payload_fits : (n : ℕ) (s : List ℕ) → n ≤ 501 → length (take n s) ≤ 501
payload_fits n s h = let k = take_most n s in omega arith

-- the receiver's answer, by its outcome
module _ (edition : Edition) (f : Ended) (s : Slots) (report area : List ℕ) where
  pub tells_quiet : f.outcome ≡ Quiet
      → Tells edition f.refused (ruled (rules keys (bacnet edition)) (view s) area f) report (record { refused = f.refused; eaten = f.eaten; reported = false; state = record { edition = edition; receiver = f.receiver; slots = s } }) report area
  tells_quiet e = rw e (record { refused = refl; eaten = refl; reported = refl; edition = refl; receiver = refl; slots = refl; report_after = refl; area_after = refl })

  pub tells_damage : (n : ℕ) {report' : List ℕ} → f.outcome ≡ Damage n → report' ≡ damage_octets n
      → Tells edition f.refused (ruled (rules keys (bacnet edition)) (view s) area f) report (record { refused = f.refused; eaten = f.eaten; reported = true; state = record { edition = edition; receiver = f.receiver; slots = s } }) report' area
  tells_damage n e h = rw e (record { refused = refl; eaten = refl; reported = refl; edition = refl; receiver = refl; slots = refl; report_after = h; area_after = refl })

  pub tells_frame : {t : Slots} {report' area' : List ℕ} → f.outcome ≡ Frame
      → (let head = f.receiver.link.head in
      let w = heard_of edition head in
      Acted (acting w (content_of w (take (length_of head) f.receiver.store)) (view s) area) t report' area')
      → Tells edition f.refused (ruled (rules keys (bacnet edition)) (view s) area f) report (record { refused = f.refused; eaten = f.eaten; reported = true; state = record { edition = edition; receiver = f.receiver; slots = t } }) report' area'
  tells_frame e h =
      let head = f.receiver.link.head in
      let w = acts_frame edition head (take (length_of head) f.receiver.store) (view s) area in
      rw e (record { refused = refl; eaten = refl; reported = refl; edition = refl; receiver = refl; slots = rw w h.slots; report_after = rw w h.said; area_after = rw w h.left })

-- ---- a silence
-- one that reports nothing, or is refused
abbrev quiet_by : ℕ → Collector → Fell
quiet_by n c = record { refused = n; reported = false; state = c }

module _ (c : Collector) (report : List ℕ) where
  falls_by : {n : ℕ} {d : Answered} {r : Fell} {report' : List ℕ} → silence_refusal c report ≡ n → stilling c report [] ≡ d → Falls c.edition n d report r report' → Stills c report r report'
  falls_by e q h = rw (e, q) h

  falls_not : (n : ℕ) → Falls c.edition n (unmoved c.receiver (slots_of c) []) report (quiet_by n c) report
  falls_not n = record { refused = refl; reported = refl; edition = refl; receiver = refl; slots = refl; report_after = refl }

  pub stills_line : (length report ≡ report_size → ⊥) → Stills c report (quiet_by 60 c) report
  unfolding silence_refusal stilling
  stills_line h = falls_by (rw (ne_eqb (length report) report_size h)) (rw (ne_eqb (length report) report_size h)) (falls_not 60)

  pub stills_slots : length report ≡ report_size → passing (slots_of c) ≡ false → Stills c report (quiet_by 59 c) report
  unfolding silence_refusal stilling
  stills_slots k e = falls_by (rw (eq-eqb (length report) report_size k) (slots_59 c 0 e)) (rw (eq-eqb (length report) report_size k, e)) (falls_not 59)

  pub stills_on : length report ≡ report_size → passing (slots_of c) ≡ true → {f : Still} {r : Fell} {report' : List ℕ} → f ≡ silence_of c.receiver
      → Falls c.edition f.refused (stilled damage_octets (slots_of c) [] f) report r report' → Stills c report r report'
  unfolding silence_refusal stilling
  stills_on k p {f = f} e h =
      let n : silence_refusal c report ≡ f.refused =
      rw (eq-eqb (length report) report_size k) (slots_pass c 0 p ∙ sym (silence_refused c.receiver) ∙ ap (λ (f : Still). f.refused) (sym e)) in
      let d : stilling c report [] ≡ stilled damage_octets (slots_of c) [] f =
      rw (eq-eqb (length report) report_size k, p) (ap (λ (f : Still). stilled damage_octets (slots_of c) [] f) (sym e)) in
      falls_by n d h

module _ (edition : Edition) (f : Still) (s : Slots) (report : List ℕ) where
  pub falls_quiet : f.outcome ≡ Quiet → Falls edition f.refused (stilled damage_octets (view s) [] f) report (quiet_by f.refused (record { edition = edition; receiver = f.receiver; slots = s })) report
  falls_quiet e = rw e (record { refused = refl; reported = refl; edition = refl; receiver = refl; slots = refl; report_after = refl })

  pub falls_frame : f.outcome ≡ Frame → Falls edition f.refused (stilled damage_octets (view s) [] f) report (quiet_by f.refused (record { edition = edition; receiver = f.receiver; slots = s })) report
  falls_frame e = rw e (record { refused = refl; reported = refl; edition = refl; receiver = refl; slots = refl; report_after = refl })

  pub falls_damage : (n : ℕ) {report' : List ℕ} → f.outcome ≡ Damage n → report' ≡ damage_octets n
      → Falls edition f.refused (stilled damage_octets (view s) [] f) report (record { refused = f.refused; reported = true; state = record { edition = edition; receiver = f.receiver; slots = s } }) report'
  falls_damage n e h = rw e (record { refused = refl; reported = refl; edition = refl; receiver = refl; slots = refl; report_after = h })

-- ---- a forget order
module _ (c : Collector) (s : ℕ) where
  pub forgets_slots : passing (slots_of c) ≡ false → Forgets c s (record { number = 59; state = c })
  forgets_slots e = record { number = sym (slots_59 c (forget_number keys s (slots_of c)) e); edition = refl; receiver = refl; slots = rw e }

  module _ (p : passing (slots_of c) ≡ true) where
    pub forgets_left : sound_of c.receiver ≡ false → Forgets c s (record { number = 59; state = c })
    forgets_left e = record { number = rw e; edition = refl; receiver = refl; slots = rw (p, e) }

    pub forgets_on : sound_of c.receiver ≡ true → {f : Freed} → Rebuild.Forgets c.slots s f
        → Forgets c s (record { number = f.number; state = record { edition = c.edition; receiver = c.receiver; slots = f.slots } })
    forgets_on e h = record { number = h.number ∙ sym (rw (e, p)); edition = refl; receiver = refl; slots = rw (p, e) h.slots }
