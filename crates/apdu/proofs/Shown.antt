-- A header is written exactly when, as it is shown, it keeps the rules; absent parts do not show in its octets.
use Prim.Native.Nat.{ℕ, ◌≤◌}
use native.Mathlib.Omega.{arith}
use mathlib.Core.Path.{◌≡◌, refl}
use mathlib.Core.Bool.{Bool, true, false, true≢false, false≢true}
use mathlib.Core.List.{List}
use lib.Dec.{eqb, ltb}
use borrow.Author.Tests.{le-ltb, ne_eqb, ltb-false, eqb-true, eqb-false}
use Rattle.octets.specs.Choice.{given, pick_not, by_test}
use Rattle.apdu.specs.declared.Edition.{Edition}
use Rattle.apdu.specs.declared.Edition.TheVariants.{First, Later}
use Rattle.apdu.specs.declared.Segment.{Segment}
use Rattle.apdu.specs.declared.Pdu.{Pdu}
use Rattle.apdu.specs.declared.Pdu.TheVariants.{Request, Unconfirmed, SimpleAck, ComplexAck, SegmentAck, Error, Reject, Abort}
use Rattle.apdu.specs.Editions.{most}
use Rattle.apdu.specs.Layout.{segment, tail, header}
use Rattle.apdu.specs.Valid.{Window, Code, SegmentRules, Rules, Follows}
use Rattle.apdu.specs.Rows.{Fits}
use Rattle.apdu.specs.Fault.{mor_fault, window_fault, segment_fault, code_fault, size_fault, or_else, fault_of, shown_segment, shown}

-- no fault, and the rule that it judges, both ways
window_rule : (w : ℕ) → window_fault w ≡ 0 → Window w
unfolding window_fault
window_rule w e =
    let a = pick_not (eqb w 0) 23 _ 0 (λ d. omega arith) e in
    let b = pick_not (ltb 127 w) 23 0 0 (λ d. omega arith) a.1 in
    (omega (arith, eqb-false w 0 a.0), ltb-false 127 w b.0)

pub window_fine : (w : ℕ) → Window w → window_fault w ≡ 0
unfolding window_fault
window_fine w h = simp (ne_eqb w 0 (λ e. omega arith), le-ltb 127 w h.1)

size_rule : (x : ℕ) → size_fault x ≡ 0 → x ≤ 5
unfolding size_fault
size_rule x e = ltb-false 5 x (pick_not (ltb 5 x) 23 0 0 (λ d. omega arith) e).0

pub size_fine : (x : ℕ) → x ≤ 5 → size_fault x ≡ 0
unfolding size_fault
size_fine x h = simp (le-ltb 5 x h)

code_rule : (e : Edition) (x : ℕ) → code_fault e x ≡ 0 → Code e x
unfolding code_fault
code_rule e x f = ltb-false (most e) x (pick_not (ltb (most e) x) 22 0 0 (λ d. omega arith) f).0

pub code_fine : (e : Edition) (x : ℕ) → Code e x → code_fault e x ≡ 0
unfolding code_fault
code_fine e x h = simp (le-ltb (most e) x h)

-- an edition's greatest code fits four bits
most_small : (e : Edition) → most e ≤ 15
most_small First = omega arith
most_small Later = omega arith

neither : (a b : ℕ) → or_else a b ≡ 0 → (a ≡ 0) × (b ≡ 0)
neither a b e = by_test (eqb a 0) (λ z. (eqb-true a 0 z, rw z at e)) (λ z. let v : a ≡ 0 = rw z at e in absurd (eqb-false a 0 z v))

none : (a b : ℕ) → a ≡ 0 → b ≡ 0 → or_else a b ≡ 0
none a b e d = rw (e, d)

module _ (number window : ℕ) where
  rules_at : (seg mor : Bool) → mor_fault (segment seg mor number window) ≡ 0 → segment_fault (segment seg mor number window) ≡ 0 → SegmentRules (shown_segment (segment seg mor number window))
  unfolding mor_fault segment_fault shown_segment given
  rules_at true mor m w = record { more = λ _. refl; window = λ _. window_rule window w; absent = λ f. absurd (true≢false f) }
  rules_at false true m w = absurd (omega arith)
  rules_at false false m w = record { more = λ f. f; window = λ f. absurd (false≢true f); absent = λ _. (refl, refl) }

  fine_at : (seg mor : Bool) → SegmentRules (shown_segment (segment seg mor number window)) → (mor_fault (segment seg mor number window) ≡ 0) × (segment_fault (segment seg mor number window) ≡ 0)
  unfolding mor_fault segment_fault shown_segment given
  fine_at true mor r = (refl, window_fine window (r.window refl))
  fine_at false true r = absurd (false≢true (r.more refl))
  fine_at false false r = (refl, refl)

  same_at : (seg mor : Bool) → SegmentRules (segment seg mor number window) → shown_segment (segment seg mor number window) ≡ segment seg mor number window
  unfolding shown_segment given
  same_at true mor r = refl
  same_at false mor r = simp ((r.absent refl).0, (r.absent refl).1)

  octets_at : (seg mor : Bool) (choice : ℕ) → tail (shown_segment (segment seg mor number window)) choice ≡ tail (segment seg mor number window) choice
  unfolding shown_segment tail given
  octets_at true mor choice = refl
  octets_at false mor choice = refl

module _ (g : Segment) where
  segment_rules : mor_fault g ≡ 0 → segment_fault g ≡ 0 → SegmentRules (shown_segment g)
  segment_rules = rules_at g.number g.window g.seg g.mor

  segment_fine : SegmentRules (shown_segment g) → (mor_fault g ≡ 0) × (segment_fault g ≡ 0)
  segment_fine = fine_at g.number g.window g.seg g.mor

  segment_same : SegmentRules g → shown_segment g ≡ g
  segment_same = same_at g.number g.window g.seg g.mor

  segment_octets : (choice : ℕ) → tail (shown_segment g) choice ≡ tail g choice
  segment_octets = octets_at g.number g.window g.seg g.mor

module _ (edition : Edition) where
  pub fault_rules : (p : Pdu) → fault_of edition p ≡ 0 → Rules edition (shown p)
  fault_rules (Request p) e =
      let a = neither (mor_fault p.segment) _ e in
      let b = neither (code_fault edition p.accepts) _ a.1 in
      let c = neither (size_fault p.size) _ b.1 in
      (code_rule edition p.accepts b.0, size_rule p.size c.0, segment_rules p.segment a.0 c.1)
  fault_rules (Unconfirmed p) e = tt
  fault_rules (SimpleAck p) e = tt
  fault_rules (ComplexAck p) e = let a = neither (mor_fault p.segment) _ e in segment_rules p.segment a.0 a.1
  fault_rules (SegmentAck p) e = window_rule p.window e
  fault_rules (Error p) e = tt
  fault_rules (Reject p) e = tt
  fault_rules (Abort p) e = tt

  -- what is written fits its places
  pub fault_fits : (p : Pdu) → fault_of edition p ≡ 0 → Fits p
  fault_fits (Request p) e = let r = fault_rules (Request p) e in (omega (arith, r.0, most_small edition), omega (arith, r.1))
  fault_fits (Unconfirmed p) e = tt
  fault_fits (SimpleAck p) e = tt
  fault_fits (ComplexAck p) e = tt
  fault_fits (SegmentAck p) e = tt
  fault_fits (Error p) e = tt
  fault_fits (Reject p) e = tt
  fault_fits (Abort p) e = tt

  pub rules_fault : (p : Pdu) → Rules edition (shown p) → fault_of edition p ≡ 0
  rules_fault (Request p) r =
      let s = segment_fine p.segment r.2 in
      none _ _ s.0 (none _ _ (code_fine edition p.accepts r.0) (none _ _ (size_fine p.size r.1) s.1))
  rules_fault (Unconfirmed p) r = refl
  rules_fault (SimpleAck p) r = refl
  rules_fault (ComplexAck p) r = let s = segment_fine p.segment r in none _ _ s.0 s.1
  rules_fault (SegmentAck p) r = window_fine p.window r
  rules_fault (Error p) r = refl
  rules_fault (Reject p) r = refl
  rules_fault (Abort p) r = refl

  -- a PDU that keeps the rules is shown as it is
  pub shown_same : (p : Pdu) → Rules edition p → shown p ≡ p
  shown_same (Request p) r = rw (segment_same p.segment r.2)
  shown_same (Unconfirmed p) r = refl
  shown_same (SimpleAck p) r = refl
  shown_same (ComplexAck p) r = rw (segment_same p.segment r)
  shown_same (SegmentAck p) r = refl
  shown_same (Error p) r = refl
  shown_same (Reject p) r = refl
  shown_same (Abort p) r = refl

-- its octets are those of what it is shown as
pub shown_header : (p : Pdu) → header (shown p) ≡ header p
unfolding shown_segment
shown_header (Request p) = rw (segment_octets p.segment p.choice)
shown_header (Unconfirmed p) = refl
shown_header (SimpleAck p) = refl
shown_header (ComplexAck p) = rw (segment_octets p.segment p.choice)
shown_header (SegmentAck p) = refl
shown_header (Error p) = refl
shown_header (Reject p) = refl
shown_header (Abort p) = refl

pub shown_follows : (p : Pdu) (t : List ℕ) → Follows p t → Follows (shown p) t
shown_follows (Request p) t f = f
shown_follows (Unconfirmed p) t f = f
shown_follows (SimpleAck p) t f = f
shown_follows (ComplexAck p) t f = f
shown_follows (SegmentAck p) t f = f
shown_follows (Error p) t f = f
shown_follows (Reject p) t f = f
shown_follows (Abort p) t f = f
