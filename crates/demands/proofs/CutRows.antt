-- The cutter's numbers: each exactly when, in their order.
use Prim.Native.Nat.{ℕ, ◌+◌, ◌-◌, ◌*◌, ◌≤◌, ◌<◌}
use native.Mathlib.Omega.{arith}
use native.Mathlib.Nat.{mul-le-mul_right}
use mathlib.Core.Path.{◌≡◌, refl, sym, ap, subst, ◌∙◌}
use mathlib.Core.Logic.{◌↔◌, ◌⊎◌, inl, inr}
use mathlib.Core.Bool.{false}
use mathlib.Core.List.{List}
use lib.Dec.{ltb, eqb}
use lib.ListN.{length}
use borrow.Author.Tests.{ltb-true, ltb-false, le-ltb, eqb-true, eqb-false, ne_eqb}
use Rattle.std.specs.Prelude.{Ok, Err}
use Rattle.octets.specs.Choice.{pick, given, by_test}
use Rattle.npdu.specs.Fault as Network
use Rattle.npdu.specs.Fault.{sooner, part_fault}
use Rattle.apdu.specs.Editions.{most}
use Rattle.apdu.specs.Fault as Header
use Rattle.apdu.specs.Fault.{or_else, mor_fault, code_fault, size_fault, segment_fault, window_fault}
use Rattle.apdu.specs.declared.Edition.{Edition}
use Rattle.messages.specs.Table.{Table, First, NoRow}
use Rattle.messages.specs.Table.Table.{end, row}
use Rattle.cutter.specs.Layout.{network_head, pdu_of, segments_of, octets_of}
use Rattle.cutter.specs.Fault.{front_fault, count_fault, fault_of}
use Rattle.cutter.specs.Laying.{header_length}
use Rattle.cutter.specs.declared.Message.{Message}
use Rattle.cutter.specs.declared.Message.TheVariants.{Request, ComplexAck}
use Rattle.cutter.specs.declared.Way.{Way}
use Rattle.cutter.proofs.Counts.{segments_least, many_octets, octets_many}
use Rattle.cutter.proofs.Lengths.{octets_length}
use Rattle.demands.specs.Cutting.{OutOfRange, CodeOver, SizeOver, cut_rows, Needs, header_size, ResultHas, CutNumbers}
use Rattle.demands.specs.Cutting.Needs.{empty, some}
use Rattle.demands.proofs.Rowed.{Judged, Short, Long, row_test, row_past, no_rows, answers_by, kept_by, past_by}
use Rattle.demands.proofs.Rowed.Judged.{faulty}

-- the network header without addresses has one number, the priority's
network_fault : (w : Way) → Network.fault_of (network_head w) ≡ pick (ltb 3 w.priority) 12 0
unfolding Network.fault_of sooner part_fault given
network_fault w = refl

module _ (e : Edition) (w : Way) where
  -- the header's numbers behind a window in its range, and then c
  pub header_judged : (m : Message) → 0 < w.window → w.window ≤ 127 → (t : Table) (c : ℕ) → Judged t c
      → Judged (row 22 (CodeOver e m) (row 23 (SizeOver m) t)) (or_else (Header.fault_of e (pdu_of m w.window false 0)) c)
  unfolding mor_fault code_fault size_fault segment_fault window_fault given
  header_judged (Request q) low high t c j =
      by_test (ltb (most e) q.accepts)
      (λ x. rw x (faulty (λ z. omega arith) (inl (ltb-true _ _ x, refl))))
      (λ x. by_test (ltb 5 q.size)
      (λ y. rw (x, y) (faulty (λ z. omega arith) (inr (λ g. omega (arith, g, ltb-false (most e) q.accepts x), inl (ltb-true _ _ y, refl)))))
      (λ y. rw (x, y, ne_eqb w.window 0 (λ z. omega (arith, z, low)), le-ltb 127 w.window high)
      (row_past 22 _ _ (λ g. omega (arith, g, ltb-false (most e) q.accepts x)) (row_past 23 _ _ (λ g. omega (arith, g, ltb-false 5 q.size y)) j))))
  header_judged (ComplexAck q) low high t c j = rw (ne_eqb w.window 0 (λ z. omega (arith, z, low)), le-ltb 127 w.window high) (row_past 22 _ _ (λ g. g) (row_past 23 _ _ (λ g. g) j))

pub count_judged : (w : Way) (n : ℕ) → 0 < w.each → Judged (row 63 (256 * w.each < n) end) (count_fault (segments_of w.each n))
unfolding count_fault
count_judged w n least =
    row_test 63 (256 * w.each < n) end (ltb 256 (segments_of w.each n)) (λ z. omega arith) (λ t. many_octets w.each n least (ltb-true _ _ t))
    (λ t. row_past 63 _ _ (λ g. omega (arith, octets_many w.each n least g, ltb-false 256 (segments_of w.each n) t)) no_rows)

-- the rows in front of the message's own, and then what the rest gives: there all that they speak of is in its range
module _ (w : Way) (n : ℕ) where
  in_range : (w.each ≡ 0 → ⊥) → w.each ≤ 474 → (w.window ≡ 0 → ⊥) → w.window ≤ 127 → OutOfRange w.each w.window → ⊥
  in_range e0 e1 w0 w1 (inl (inl x)) = e0 x
  in_range e0 e1 w0 w1 (inl (inr x)) = omega (arith, x, e1)
  in_range e0 e1 w0 w1 (inr (inl x)) = w0 x
  in_range e0 e1 w0 w1 (inr (inr x)) = omega (arith, x, w1)

  module _ (t : Table) where
    abbrev pub fronted : Table
    fronted = row 39 (16384 < n) (row 64 (OutOfRange w.each w.window) (row 12 (3 < w.priority) t))

    ranged : n ≤ 16384 → OutOfRange w.each w.window → Judged fronted 64
    ranged l o = faulty (λ z. omega arith) (inr (λ g. omega (arith, g, l), inl (o, refl)))

    pub front_judged : (c : ℕ) → (front_fault w n ≡ 0 → 0 < w.each → 0 < w.window → w.window ≤ 127 → Judged t c) → Judged fronted (or_else (front_fault w n) c)
    unfolding front_fault
    front_judged c rest =
        by_test (ltb 16384 n)
        (λ a. rw a (faulty (λ z. omega arith) (inl (ltb-true _ _ a, refl))))
        (λ a. by_test (eqb w.each 0)
        (λ b. rw (a, b) (ranged (ltb-false _ _ a) (inl (inl (eqb-true _ _ b)))))
        (λ b. by_test (ltb 474 w.each)
        (λ x. rw (a, b, x) (ranged (ltb-false _ _ a) (inl (inr (ltb-true _ _ x)))))
        (λ x. by_test (eqb w.window 0)
        (λ d. rw (a, b, x, d) (ranged (ltb-false _ _ a) (inr (inl (eqb-true _ _ d)))))
        (λ d. by_test (ltb 127 w.window)
        (λ f. rw (a, b, x, d, f) (ranged (ltb-false _ _ a) (inr (inr (ltb-true _ _ f)))))
        (λ f.
        let l = ltb-false 16384 n a in
        let e0 = eqb-false w.each 0 b in
        let e1 = ltb-false 474 w.each x in
        let w0 = eqb-false w.window 0 d in
        let w1 = ltb-false 127 w.window f in
        by_test (ltb 3 w.priority)
        (λ g. rw (a, b, x, d, f, network_fault w, g) (faulty (λ z. omega arith) (inr (λ y. omega (arith, y, l), inr (in_range e0 e1 w0 w1, inl (ltb-true _ _ g, refl))))))
        (λ g.
        let zero : front_fault w n ≡ 0 = rw (a, b, x, d, f, network_fault w, g) refl in
        let judged : Judged fronted c = row_past 39 _ _ (λ y. omega (arith, y, l)) (row_past 64 _ _ (in_range e0 e1 w0 w1) (row_past 12 _ _ (λ y. omega (arith, y, ltb-false 3 w.priority g))
        (rest zero (omega (arith, e0)) (omega (arith, w0)) w1))) in
        subst (λ (y : ℕ). Judged fronted (or_else y c)) (sym zero) judged))))))

-- all of them
pub cut_judged : (e : Edition) (w : Way) (m : Message) (params : List ℕ) → Judged (cut_rows e m w params) (fault_of e m w (length params))
unfolding fault_of
cut_judged e w m params = front_judged w (length params) _ _ (λ zero least low high. header_judged e w m low high _ _ (count_judged w (length params) least))

-- ---- the result's octets
pub header_size_lem : (m : Message) → header_size m ≡ 2 + header_length m
header_size_lem (Request q) = refl
header_size_lem (ComplexAck q) = refl

module _ (m : Message) (w : Way) (params : List ℕ) (least : 0 < w.each) where
  pub needs_is : Needs w.each (length params) (segments_of w.each (length params))
  needs_is =
      let l = segments_least w.each (length params) least in
      by_test (eqb (length params) 0)
      (λ z. let e = eqb-true (length params) 0 z in rw (l.empty e) (empty e))
      (λ z. some _ l.holds (l.needed (omega (arith, eqb-false (length params) 0 z))))

  -- no other number of segments is needed
  pub needs_one : (c : ℕ) → Needs w.each (length params) c → c ≡ segments_of w.each (length params)
  needs_one c (empty z) = sym ((segments_least w.each (length params) least).empty z)
  needs_one c (some c' holds below) =
      let n = length params in
      let s = segments_of w.each n in
      let l = segments_least w.each n least in
      let fits = l.holds in
      let needed = l.needed (omega (arith, below)) in
      by_test (ltb c s)
      (λ t. absurd (omega (arith, holds, needed, mul-le-mul_right {m = c} {n = s - 1} w.each (omega (arith, ltb-true c s t)))))
      (λ t. by_test (ltb s c)
      (λ u. absurd (omega (arith, below, fits, mul-le-mul_right {m = s} {n = c - 1} w.each (omega (arith, ltb-true s c u)))))
      (λ u. omega (arith, ltb-false c s t, ltb-false s c u)))

  total_is : length (octets_of m w params) ≡ segments_of w.each (length params) * header_size m + length params
  total_is = octets_length m w params least ∙ ap (λ (x : ℕ). segments_of w.each (length params) * x + length params) (sym (header_size_lem m))

  pub result_is : ResultHas m w params (length (octets_of m w params))
  result_is = record { count = segments_of w.each (length params); needed = needs_is; total = total_is }

  pub result_one : (n : ℕ) → ResultHas m w params n → n ≡ length (octets_of m w params)
  result_one n h = h.total ∙ ap (λ (x : ℕ). x * header_size m + length params) (needs_one h.count h.needed) ∙ sym total_is

-- a size in its range: a segment has octets
pub some_each : (each window : ℕ) → (OutOfRange each window → ⊥) → 0 < each
some_each each window in_range = by_test (eqb each 0) (λ z. absurd (in_range (inl (inl (eqb-true each 0 z))))) (λ z. omega (arith, eqb-false each 0 z))

pub cut_numbers : CutNumbers
cut_numbers e m w params area r later l =
    record {
      refused = λ n. (λ q. there n ((by n).0.0 q), λ q. (by n).0.1 (back n q));
      wrote = λ n. (
        λ q. (let h = (by n).1.0 q in (h.0, subst (ResultHas m w params) (sym h.2) (result_is m w params (some_each w.each w.window h.0.1.0)), subst (λ (x : ℕ). x ≤ length area) (sym h.2) h.1)),
        λ q. (let z = result_one m w params (some_each w.each w.window q.0.1.0) n q.1 in (by n).1.1 (q.0, subst (λ (x : ℕ). x ≤ length area) z q.2, z)),
      );
      last = not_61;
      none = λ n q. (l.segments ∙ rw q, kept_by (fault_of e m w (length params)) o area r.answer later l.laid n q);
      segments = λ n q. (let nothing = ((by n).1.0 q).0 in subst (Needs w.each (length params)) (sym (l.segments ∙ rw q)) (needs_is m w params (some_each w.each w.window nothing.1.0)));
      past = past_by (fault_of e m w (length params)) o area r.answer later l.laid;
    }
  where
    o : List ℕ
    o = octets_of m w params

    T : Table
    T = cut_rows e m w params

    by : (n : ℕ) → ((r.answer ≡ Err n) ↔ (First T n ⊎ Short T o area n)) × ((r.answer ≡ Ok n) ↔ Long T o area n)
    by = answers_by T (fault_of e m w (length params)) o area r.answer (cut_judged e w m params) l.laid.answer

    Small : ℕ → Type 0
    Small n = NoRow T × (n ≡ 61) × ((size : ℕ) × ResultHas m w params size × (length area < size))

    there : (n : ℕ) → First T n ⊎ Short T o area n → First T n ⊎ Small n
    there n (inl f) = inl f
    there n (inr h) = inr (h.0, h.1, (length o, result_is m w params (some_each w.each w.window h.0.1.0), h.2))

    back : (n : ℕ) → First T n ⊎ Small n → First T n ⊎ Short T o area n
    back n (inl f) = inl f
    back n (inr h) = inr (h.0, h.1, subst (λ (x : ℕ). length area < x) (result_one m w params (some_each w.each w.window h.0.1.0) h.2.0 h.2.1) h.2.2)

    not_61 : First T 61 → ⊥
    not_61 (inl x) = omega (arith, x.1)
    not_61 (inr (_, inl x)) = omega (arith, x.1)
    not_61 (inr (_, inr (_, inl x))) = omega (arith, x.1)
    not_61 (inr (_, inr (_, inr (_, inl x)))) = omega (arith, x.1)
    not_61 (inr (_, inr (_, inr (_, inr (_, inl x))))) = omega (arith, x.1)
    not_61 (inr (_, inr (_, inr (_, inr (_, inr (_, inl x)))))) = omega (arith, x.1)
    not_61 (inr (_, inr (_, inr (_, inr (_, inr (_, inr x)))))) = x.1
