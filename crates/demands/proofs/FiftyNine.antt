-- 59's test holds exactly where none of the page's words is true of the state, and 60 and 59 are given exactly when.
use Prim.Native.Nat.{ℕ, zero, suc, ◌+◌, ◌≤◌, ◌<◌}
use native.Mathlib.Omega.{arith}
use mathlib.Core.Path.{◌≡◌, refl, sym, ap, ◌∙◌}
use mathlib.Core.Logic.{◌↔◌, ◌⊎◌, inl, inr, ⊎_elim}
use mathlib.Core.Bool.{Bool, true, false}
use mathlib.Core.List.{List, [], ◌∷◌}
use lib.Dec.{eqb, ltb, leb}
use lib.ListN.{length, replicate, length-replicate, get_or-eq_default}
use borrow.Author.Tests.{eqb-true, eq-eqb, ltb-true, ltb-false, le-ltb, leb-false, lt-leb}
use Rattle.octets.specs.Choice.{pick, both, non, by_test, both_left, both_right, both_false}
use Rattle.frames.specs.Step.{most, length_of, data_sound, sound_in, sound_of}
use Rattle.frames.specs.declared.Phase.{Phase}
use Rattle.frames.specs.declared.Phase.TheVariants.{Hunting, Preamble, Header, Data}
use Rattle.frames.specs.declared.Receiver.{Receiver}
use Rattle.frames.proofs.Calls.{feed_refused, silence_refused}
use Rattle.messages.specs.Slots.{Slot, room, empty, slot_at, open_to, lowest}
use Rattle.messages.specs.Sound.{strange, twice, sound}
use Rattle.messages.proofs.Tests.{never, some_true}
use Rattle.messages.proofs.Lowest.{lowest_some}
use Rattle.messages.proofs.Sound.{good_of_lem}
use Rattle.rebuild.specs.View.{keys}
use Rattle.npdu.specs.Address.{AddressFits, source_of, destination_of, part_address, absent}
use Rattle.rebuild.specs.Given as Given
use Rattle.rebuild.specs.declared.Key.{Key}
use Rattle.rebuild.proofs.Given.{addressed_given, given_header}
use Rattle.rebuild.proofs.Page.{key_laws}
use Rattle.reports.specs.Layout.{report_size}
use Rattle.collector.specs.Calls as Box
use Rattle.collector.specs.Calls.{passing, slots_of, feed_refusal, silence_refusal}
use Rattle.collector.specs.declared.Collector.{Collector}
use Rattle.demands.specs.Words.{SixtyThenFiftyNine, BrokenReceiver, Headed, BrokenSlots, Broken, Four}
use Rattle.demands.specs.Words.BrokenReceiver.{header_over, data_over, no_length, long_length}
use Rattle.demands.specs.Words.BrokenSlots.{holds_over, one_key, no_header}
use Rattle.demands.specs.Demands.{ReportSize, ReceiverFeedNumbers, ReceiverSilenceNumbers, FeedNumbers, SilenceNumbers, ForgetNumbers}

-- a test that fails exactly where a fact holds
pub record Denies (b : Bool) (Q : Type 0) : Type 0 where
  pub broken : b ≡ false → Q
  pub fails : Q → b ≡ false

-- ---- the receiver
module _ (r : Receiver) where
  data_broken : (got : ℕ) → r.link.phase ≡ Data got → data_sound got (length_of r.link.head) ≡ false → BrokenReceiver r
  unfolding data_sound
  data_broken got p e =
      let n = length_of r.link.head in
      by_test (ltb 0 n)
      (λ a. by_test (leb n most)
      (λ b. by_test (ltb got (n + 2)) (λ d. never (sym (rw (a, b, d) at e))) (λ d. data_over got p (ltb-false _ _ d)))
      (λ b. long_length got p (leb-false _ _ b)))
      (λ a. no_length got p (let z = ltb-false 0 n a in omega arith))

  broken_in : (p : Phase) → r.link.phase ≡ p → sound_in p r.link.head ≡ false → BrokenReceiver r
  broken_in Hunting q e = never (sym e)
  broken_in Preamble q e = never (sym e)
  broken_in (Header got) q e = header_over got q (ltb-false got 6 e)
  broken_in (Data got) q e = data_broken got q e

  data_fails : (got : ℕ) → (length_of r.link.head + 2 ≤ got) ⊎ ((length_of r.link.head ≡ 0) ⊎ (most < length_of r.link.head)) → data_sound got (length_of r.link.head) ≡ false
  unfolding data_sound
  data_fails got (inl l) = let n = length_of r.link.head in by_test (ltb 0 n) (λ a. by_test (leb n most) (λ b. rw (a, b) (le-ltb got (n + 2) l)) (λ b. rw (a, b))) (λ a. rw a)
  data_fails got (inr (inl z)) = rw z
  data_fails got (inr (inr o)) = let n = length_of r.link.head in by_test (ltb 0 n) (λ a. rw (a, lt-leb n most o)) (λ a. rw a)

  in_phase : (p : Phase) → r.link.phase ≡ p → sound_in p r.link.head ≡ false → sound_of r ≡ false
  in_phase p q e = ap (λ (x : Phase). sound_in x r.link.head) q ∙ e

  receiver_fails : BrokenReceiver r → sound_of r ≡ false
  receiver_fails (header_over got p l) = in_phase (Header got) p (le-ltb got 6 l)
  receiver_fails (data_over got p l) = in_phase (Data got) p (data_fails got (inl l))
  receiver_fails (no_length got p z) = in_phase (Data got) p (data_fails got (inr (inl z)))
  receiver_fails (long_length got p o) = in_phase (Data got) p (data_fails got (inr (inr o)))

  pub receiver_denies : Denies (sound_of r) (BrokenReceiver r)
  receiver_denies = record { broken = broken_in r.link.phase refl; fails = receiver_fails }

-- ---- a header that has a key's addresses, in the page's words and in rebuild's
pub to_header_lem : {k : Key} → Headed k → Given.Header k
unfolding source_of destination_of part_address absent
to_header_lem x = record { head = x.head; valid = x.valid; fits = x.fits; addressed = record { source = x.source; destination = x.destination } }

pub of_header : {k : Key} → Given.Header k → Headed k
unfolding source_of destination_of part_address absent
of_header h = record { head = h.head; valid = h.valid; fits = h.fits; source = h.addressed.source; destination = h.addressed.destination }

-- ---- the slots
one_on : (t : Slot Key) (ts : List (Slot Key)) → BrokenSlots ts → BrokenSlots (t ∷ ts)
one_on t ts (holds_over i l h) = holds_over (suc i) (omega arith) h
one_on t ts (one_key i j l m u v k) = one_key (suc i) (suc j) (omega arith) (omega arith) u v k
one_on t ts (no_header i l u h) = no_header (suc i) (omega arith) u h

-- an open slot that the test calls strange: no header gives its key
no_giver : (t : Slot Key) → strange keys t ≡ true → Headed t.key → ⊥
no_giver t e x = let h = to_header_lem x in never (rw (addressed_given h.head t.key h.valid h.addressed) at e)

slots_broken : (s : List (Slot Key)) → sound keys s ≡ false → BrokenSlots s
slots_broken [] e = never (sym e)
slots_broken (t ∷ ts) e =
    by_test (leb t.held room)
    (λ a. by_test (strange keys t)
    (λ b. no_header 0 (omega arith) (both_right (non (keys.given t.key)) t.used b) (no_giver t b))
    (λ b. by_test (twice keys t ts) (λ d. again d) (λ d. one_on t ts (slots_broken ts (rw (a, b, d) at e)))))
    (λ a. holds_over 0 (omega arith) (leb-false _ _ a))
  where
    again : twice keys t ts ≡ true → BrokenSlots (t ∷ ts)
    again b =
        let at = some_true (lowest (open_to keys t.key) ts) (both_right t.used _ b) in
        let is = lowest_some (open_to keys t.key) (empty keys) ts at.0 at.1 in
        let x = slot_at keys ts at.0 in
        one_key 0 (suc at.0) (omega arith) (omega (arith, is.0)) (both_left t.used _ b) (both_left x.used _ is.1) (sym (key_laws.only x.key t.key (both_right x.used _ is.1)))

-- of slots that pass none is strange
none_strange : (s : List (Slot Key)) → sound keys s ≡ true → (i : ℕ) → i < length s → strange keys (slot_at keys s i) ≡ false
none_strange [] e i l = absurd (omega arith)
none_strange (t ∷ ts) e zero l = by_test (strange keys t) (λ b. never (rw (b, both_false (leb t.held room)) at e)) (λ b. b)
none_strange (t ∷ ts) e (suc i) l =
    let r = both_right (leb t.held room) _ e in
    none_strange ts (both_right (non (twice keys t ts)) _ (both_right (non (strange keys t)) _ r)) i (omega arith)

-- so a header gives an open one's key
open_given : (t : Slot Key) → strange keys t ≡ false → t.used ≡ true → keys.given t.key ≡ true
open_given t e u = by_test (keys.given t.key) (λ g. g) (λ g. never (sym (rw (g, u) at e)))

-- slots that pass keep what Good says, on any area of their size
module _ (s : List (Slot Key)) (fits : (i : ℕ) → i < 4 → AddressFits (slot_at keys s i).key.from × AddressFits (slot_at keys s i).key.to) where
  passes_sound : passing s ≡ true → (a : List ℕ) → length a ≡ 65536 → BrokenSlots s → ⊥
  passes_sound p a z (holds_over i l h) = let g = (good_of_lem keys key_laws 4 s a p (eq-eqb _ _ z)).holds i l in omega arith
  passes_sound p a z (one_key i j l m u v k) = let e = (good_of_lem keys key_laws 4 s a p (eq-eqb _ _ z)).apart i j (omega arith) m u v k in omega arith
  passes_sound p a z (no_header i l u h) =
      let n = eqb-true (length s) 4 (both_left (eqb (length s) 4) _ p) in
      let t = slot_at keys s i in
      let f = fits i (omega arith) in
      h (of_header (given_header t.key (record { from = f.0; to = f.1 }) (open_given t (none_strange s (both_right (eqb (length s) 4) _ p) i l) u)))

  pub slots_denies : length s ≡ 4 → Denies (passing s) (BrokenSlots s)
  slots_denies four =
      record {
        broken = λ e. slots_broken s (rw (eq-eqb (length s) 4 four) at e);
        fails = λ q. by_test (passing s) (λ p. absurd (passes_sound p (replicate 65536 0) (length-replicate {A = ℕ} 65536 0) q)) (λ p. p);
      }

either : (a b : Bool) (A B : Type 0) → Denies a A → Denies b B → Denies (both a b) (A ⊎ B)
either true b A B x y = record { broken = λ e. inr (y.broken e); fails = ⊎_elim (λ q. never (sym (x.fails q))) (λ q. y.fails q) }
either false b A B x y = record { broken = λ e. inl (x.broken refl); fails = λ q. refl }

pub box_denies : (c : Collector) → Four c → Denies (Box.sound c.receiver (slots_of c)) (Broken c)
box_denies c four = either (sound_of c.receiver) (passing (slots_of c)) (BrokenReceiver c.receiver) (BrokenSlots (slots_of c)) (receiver_denies c.receiver) (slots_denies (slots_of c) four.addresses four.count)

-- ---- the numbers
apart : {X : Type 0} (m n : ℕ) → ltb m n ≡ true → m ≡ n → X
apart m n l e = let k = ltb-true m n l in absurd (omega arith)

module _ {n : ℕ} (A B : Type 0) where
  pub numbers : (a b : Bool) → (a ≡ true → A) → (A → a ≡ true) → Denies b B → n ≡ pick a (pick b 0 59) 60 → SixtyThenFiftyNine n A B
  numbers true true f g d e =
      record {
        sixty = (λ z. apart 0 60 refl (sym e ∙ z), λ k. absurd (k (f refl)));
        fifty_nine = (λ z. apart 0 59 refl (sym e ∙ z), λ q. never (sym (d.fails q.1)));
        none = (λ z. (f refl, λ q. never (sym (d.fails q))), λ q. e);
      }
  numbers true false f g d e =
      record {
        sixty = (λ z. apart 59 60 refl (sym e ∙ z), λ k. absurd (k (f refl)));
        fifty_nine = (λ z. (f refl, d.broken refl), λ q. e);
        none = (λ z. apart 0 59 refl (sym z ∙ e), λ q. absurd (q.1 (d.broken refl)));
      }
  numbers false b f g d e =
      record {
        sixty = (λ z q. never (g q), λ k. e);
        fifty_nine = (λ z. apart 59 60 refl (sym z ∙ e), λ q. never (g q.0));
        none = (λ z. apart 0 60 refl (sym z ∙ e), λ q. never (g q.0));
      }

pub report_size_lem : ReportSize
report_size_lem = refl

pub receiver_feed_numbers : ReceiverFeedNumbers
receiver_feed_numbers m piece = numbers Unit (BrokenReceiver m) true (sound_of m) (λ e. tt) (λ u. refl) (receiver_denies m) (feed_refused m piece)

pub receiver_silence_numbers : ReceiverSilenceNumbers
receiver_silence_numbers m = numbers Unit (BrokenReceiver m) true (sound_of m) (λ e. tt) (λ u. refl) (receiver_denies m) (silence_refused m)

pub feed_numbers : FeedNumbers
unfolding feed_refusal
feed_numbers c piece report area r report' area' four h =
    let a = eqb (length report) report_size in
    let b = eqb (length area) 65536 in
    let x : ℕ = pick (Box.sound c.receiver (slots_of c)) 0 59 in
    let both_ways : pick a (pick b x 60) 60 ≡ pick (both a b) x 60 = by_test a (λ t. rw t) (λ t. rw t) in
    numbers ((length report ≡ report_size) × (length area ≡ 65536)) (Broken c) (both a b) (Box.sound c.receiver (slots_of c))
    (λ e. (eqb-true _ _ (both_left a b e), eqb-true _ _ (both_right a b e))) (λ q. rw (eq-eqb _ _ q.0) (eq-eqb _ _ q.1)) (box_denies c four) (h.refused ∙ both_ways)

pub silence_numbers : SilenceNumbers
unfolding silence_refusal
silence_numbers c report r report' four h =
    numbers (length report ≡ report_size) (Broken c) (eqb (length report) report_size) (Box.sound c.receiver (slots_of c)) (λ e. eqb-true _ _ e) (λ q. eq-eqb _ _ q) (box_denies c four) h.refused

-- a slot above 3 is none of four, and not open
above : (c : Collector) → Four c → (s : ℕ) → 3 < s → (slot_at keys (slots_of c) s).used ≡ false
above c four s l = ap (λ (t : Slot Key). t.used) (get_or-eq_default (slots_of c) (empty keys) {n = s} (rw four.count (omega arith)))

forgetting : {n : ℕ} (s : ℕ) (B : Type 0) (b u : Bool) → Denies b B → (3 < s → u ≡ false) → n ≡ pick b (pick u 0 56) 59
    → ((n ≡ 59) ↔ B) × ((n ≡ 56) ↔ ((B → ⊥) × ((u ≡ false) ⊎ (3 < s)))) × ((n ≡ 0) ↔ ((B → ⊥) × (u ≡ true)))
forgetting s B true true d f e =
    let ok : B → ⊥ = λ q. never (sym (d.fails q)) in
    ((λ z. apart 0 59 refl (sym e ∙ z), λ q. absurd (ok q)), (λ z. apart 0 56 refl (sym e ∙ z), λ q. ⊎_elim (λ w. never (sym w)) (λ w. never (sym (f w))) q.1), (λ z. (ok, refl), λ q. e))
forgetting s B true false d f e =
    let ok : B → ⊥ = λ q. never (sym (d.fails q)) in
    ((λ z. apart 56 59 refl (sym e ∙ z), λ q. absurd (ok q)), (λ z. (ok, inl refl), λ q. e), (λ z. apart 0 56 refl (sym z ∙ e), λ q. never q.1))
forgetting s B false u d f e =
    ((λ z. d.broken refl, λ q. e), (λ z. apart 56 59 refl (sym z ∙ e), λ q. absurd (q.0 (d.broken refl))), (λ z. apart 0 59 refl (sym z ∙ e), λ q. absurd (q.0 (d.broken refl))))

pub forget_numbers : ForgetNumbers
forget_numbers c s r four h = forgetting s (Broken c) (Box.sound c.receiver (slots_of c)) (slot_at keys (slots_of c) s).used (box_denies c four) (above c four s) h.number
