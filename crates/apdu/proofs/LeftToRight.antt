-- "Octets are judged left to right and a missing octet when it is reached": what a refusal other than 20 says it says whatever follows,
-- and 20 is given exactly where some octets more would be accepted.
use Rattle.std.specs.Prelude.{Ok, Err}
use Prim.Native.Nat.{ℕ, zero, suc, ◌+◌, ◌/◌, ◌≤◌, ◌<◌}
use native.Mathlib.Omega.{arith}
use mathlib.Core.Path.{◌≡◌, refl, ap, ◌∙◌}
use mathlib.Core.Logic.{◌⊎◌, inl, inr, ⊎_elim}
use mathlib.Core.Bool.{false}
use mathlib.Core.List.{List, [], ◌∷◌, ◌++◌, append_assoc, append-nil}
use lib.ListN.{length, length-append}
use lib.Seq.{get_or_at}
use lib.Dec.{ltb, eqb, lit<}
use borrow.Author.Tests.{ltb-true, ltb-false, eqb-true, eqb-false}
use Rattle.octets.specs.Choice.{given, by_test, impossible}
use Rattle.octets.specs.Reading.{oct, Octets}
use Rattle.octets.specs.Every.{octets_none, octets_more}
use Rattle.octets.specs.Front.{front_octet}
use Rattle.apdu.specs.declared.Edition.{Edition}
use Rattle.apdu.specs.declared.Pdu.{Pdu}
use Rattle.apdu.specs.declared.Pdu.TheVariants.{Unconfirmed}
use Rattle.apdu.specs.Reading.{read_apdu, Answer}
use Rattle.apdu.specs.Layout.{header, first_octet, flag}
use Rattle.apdu.specs.Valid.{Accepted}
use Rattle.apdu.specs.Rows.{ZeroBitSet, WindowAt, SizeOrWindow, LeftOver, EndsEarly}
use Rattle.apdu.proofs.Sound.{none_follows}
use Rattle.apdu.proofs.Exact.{refusal_reason, reason_cases, accepted_good, good_accepted}
use Rattle.apdu.proofs.Typed.{as_none}
use Rattle.apdu.proofs.Offences.{zero_bit_refused, size_window_refused, left_over_refused}

-- an answer is one or the other
pub either : (a : Answer) → ((p : Pdu) × (a ≡ Ok p)) ⊎ ((n : ℕ) × (a ≡ Err n))
either (Ok p) = inl (p, refl)
either (Err n) = inr (n, refl)

-- the place of a window goes by the first two octets
window_same : {edition : Edition} {s u : List ℕ} {at : ℕ} → oct s 0 ≡ oct u 0 → oct s 1 ≡ oct u 1 → WindowAt edition s at → WindowAt edition u at
window_same e d (WindowAt.of_request k b c h) = WindowAt.of_request (rw e at k) (rw e at b) (rw d at c) (rw d at h)
window_same e d (WindowAt.of_complex_ack k b) = WindowAt.of_complex_ack (rw e at k) (rw e at b)
window_same e d (WindowAt.of_segment_ack k) = WindowAt.of_segment_ack (rw e at k)

window_far : {edition : Edition} {s : List ℕ} {at : ℕ} → WindowAt edition s at → 3 ≤ at
window_far (WindowAt.of_request k b c h) = omega arith
window_far (WindowAt.of_complex_ack k b) = omega arith
window_far (WindowAt.of_segment_ack k) = omega arith

-- ---- whatever follows
module _ (edition : Edition) (s t : List ℕ) where
  longer : (n : ℕ) → n < length s → n < length (s ++ t)
  longer n h = omega (arith, length-append s t)

  zero_stays : ZeroBitSet edition s → ZeroBitSet edition (s ++ t)
  zero_stays (ZeroBitSet.in_first l b) = ZeroBitSet.in_first (longer 0 l) (rw (front_octet s t 0 l) b)
  zero_stays (ZeroBitSet.in_second l k f h) =
      let e = front_octet s t 0 (omega arith) in
      ZeroBitSet.in_second (longer 1 l) (rw e k) (rw e f) (rw (front_octet s t 1 l) h)

  size_stays : SizeOrWindow edition s → SizeOrWindow edition (s ++ t)
  size_stays (SizeOrWindow.of_size l k f u h) =
      let e = front_octet s t 0 (omega arith) in
      let d = front_octet s t 1 l in
      SizeOrWindow.of_size (longer 1 l) (rw e k) (rw e f) (rw d u) (rw d h)
  size_stays (SizeOrWindow.of_window {at} l w f o) =
      let far = window_far w in
      let e = front_octet s t 0 (omega arith) in
      let d = front_octet s t 1 (omega arith) in
      SizeOrWindow.of_window (longer at l) (window_same (rw e) (rw d) w) (rw e f) (rw (front_octet s t at l) o)

  over_stays : LeftOver edition s → LeftOver edition (s ++ t)
  over_stays o =
      record {
        pdu = o.pdu;
        alone = o.alone;
        rules = o.rules;
        next = o.next;
        rest = o.rest ++ t;
        octets = rw o.octets (append_assoc (header o.pdu) (o.next ∷ o.rest) t);
      }

  pub left_to_right : (n : ℕ) → read_apdu edition s ≡ Err n → (n ≡ 20 → ⊥) → read_apdu edition (s ++ t) ≡ Err n
  left_to_right n e f =
      reason_cases edition s n (refusal_reason edition s n e)
      (λ d _. absurd (f d))
      (λ d r. rw d (as_none edition (s ++ t) (longer 0 r.0) (rw (front_octet s t 0 r.0) r.1)))
      (λ d r. rw d (zero_bit_refused edition (s ++ t) (zero_stays r)))
      (λ d r. rw d (size_window_refused edition (s ++ t) (size_stays r)))
      (λ d r. rw d (left_over_refused edition (s ++ t) (over_stays r)))

-- ---- ends early: octets that are refused with 20 can be followed by an octet 1, until they are accepted
unsnoc : (h s t : List ℕ) (x y : ℕ) → s ++ (y ∷ []) ≡ h ++ (x ∷ t) → (s ≡ h) ⊎ ((r : List ℕ) × (s ≡ h ++ (x ∷ r)))
unsnoc [] [] t x y e = inl refl
unsnoc [] (a ∷ s) t x y e = let d : a ≡ x = cc in inr (s, rw d)
unsnoc (b ∷ h) [] t x y e = let d : [] ≡ h ++ (x ∷ t) = cc in absurd (omega (arith, simp length-append at (ap length d)))
unsnoc (b ∷ h) (a ∷ s) t x y e =
    let d : a ≡ b = cc in
    let f : s ++ (y ∷ []) ≡ h ++ (x ∷ t) = cc in
    ⊎_elim (λ q. inl (cc)) (λ q. let z = q.1 in inr (q.0, cc)) (unsnoc h s t x y f)

module _ (edition : Edition) (s : List ℕ) (some : 0 < length s) (e : read_apdu edition s ≡ Err 20) where
  abbrev more : List ℕ
  more = s ++ (1 ∷ [])

  other : (n : ℕ) → read_apdu edition s ≡ Err n → (n ≡ 20 → ⊥) → ⊥
  other n d f = let z : n ≡ 20 = cc in f z

  first : oct more 0 ≡ oct s 0
  first = front_octet s (1 ∷ []) 0 some

  -- the octet 1 is a good size code and a good window
  last : (at : ℕ) → ltb at (length s) ≡ false → at < length more → oct more at ≡ 1
  last at l h = get_or_at s 1 [] 0 at (omega (arith, ltb-false at (length s) l, length-append s (1 ∷ [])))

  no_zero : ZeroBitSet edition more → ⊥
  no_zero (ZeroBitSet.in_first l b) = other 22 (zero_bit_refused edition s (ZeroBitSet.in_first some (rw first at b))) (λ z. omega arith)
  no_zero (ZeroBitSet.in_second l k f h) =
      by_test (ltb 1 (length s))
      (λ y. let w = ltb-true 1 (length s) y in
      other 22 (zero_bit_refused edition s (ZeroBitSet.in_second w (rw first at k) (rw first at f) (rw (front_octet s (1 ∷ []) 1 w) at h))) (λ z. omega arith))
      (λ n. let w = last 1 n l in omega arith)

  no_size : SizeOrWindow edition more → ⊥
  no_size (SizeOrWindow.of_size l k f u h) =
      by_test (ltb 1 (length s))
      (λ y. let w = ltb-true 1 (length s) y in
      let d = front_octet s (1 ∷ []) 1 w in
      other 23 (size_window_refused edition s (SizeOrWindow.of_size w (rw first at k) (rw first at f) (rw d at u) (rw d at h))) (λ z. omega arith))
      (λ n. let w = last 1 n l in omega arith)
  no_size (SizeOrWindow.of_window {at} l w f o) =
      by_test (ltb at (length s))
      (λ y. let v = ltb-true at (length s) y in
      let far = window_far w in
      let d = front_octet s (1 ∷ []) 1 (omega arith) in
      other 23 (size_window_refused edition s (SizeOrWindow.of_window v (window_same first d w) (rw first at f) (rw (front_octet s (1 ∷ []) at v) at o))) (λ z. omega arith))
      (λ n. let v = last at n l in ⊎_elim (λ z. omega arith) (λ z. omega arith) o)

  no_over : LeftOver edition more → ⊥
  no_over o =
      ⊎_elim
      (λ q.
      let whole : Accepted edition s = (record { pdu = o.pdu; parameters = [] }, (o.rules, none_follows o.pdu [] refl), rw q (rw (append-nil (header o.pdu)) refl)) in
      let z = (accepted_good edition s whole).1 in impossible (cc))
      (λ q.
      let over : LeftOver edition s = record { pdu = o.pdu; alone = o.alone; rules = o.rules; next = o.next; rest = q.0; octets = q.1 } in
      other 24 (left_over_refused edition s over) (λ z. omega arith))
      (unsnoc (header o.pdu) s o.rest o.next 1 o.octets)

  no_high : 8 ≤ oct more 0 / 16 → ⊥
  no_high h = other 21 (as_none edition s some (rw first at h)) (λ z. omega arith)

  one_more : Accepted edition more ⊎ (read_apdu edition more ≡ Err 20)
  one_more =
      ⊎_elim (λ g. inl (good_accepted edition more g.0 g.1)) (λ b.
      reason_cases edition more b.0 (refusal_reason edition more b.0 b.1)
      (λ d _. inr (rw d at b.1))
      (λ d r. absurd (no_high r.1))
      (λ d r. absurd (no_zero r))
      (λ d r. absurd (no_size r))
      (λ d r. absurd (no_over r)))
      (either (read_apdu edition more))

module _ (edition : Edition) where
  finished : (k : ℕ) (s : List ℕ) → 0 < length s → 6 ≤ length s + k → read_apdu edition s ≡ Err 20 → (t : List ℕ) × Octets t × Accepted edition (s ++ t)
  finished zero s some h e = absurd (omega (arith, refusal_reason edition s 20 e))
  finished (suc k) s some h e =
      ⊎_elim (λ a. (1 ∷ [], octets_more 1 [] (lit< tt) octets_none, a)) (λ d.
      let l = length-append s (1 ∷ []) in
      let r = finished k (s ++ (1 ∷ [])) (omega arith) (omega arith) d in
      (1 ∷ r.0, octets_more 1 r.0 (lit< tt) r.1, rw (append_assoc s (1 ∷ []) r.0) at r.2))
      (one_more edition s some e)

  -- an unconfirmed request, where there is no octet yet
  begun : Accepted edition (16 ∷ 1 ∷ [])
  unfolding first_octet flag given
  begun = (record { pdu = Unconfirmed (record { choice = 1 }); parameters = [] }, (tt, tt), refl)

  not_accepted : (s : List ℕ) (n : ℕ) → read_apdu edition s ≡ Err n → Accepted edition s → ⊥
  not_accepted s n e a = let g = accepted_good edition s a in let z = g.1 in impossible (cc)

  pub ends_early : (s : List ℕ) → read_apdu edition s ≡ Err 20 → EndsEarly edition s
  ends_early [] e =
      let two : Octets (16 ∷ 1 ∷ []) = octets_more 16 (1 ∷ []) (lit< tt) (octets_more 1 [] (lit< tt) octets_none) in
      record { unfinished = not_accepted [] 20 e; rest = 16 ∷ 1 ∷ []; octets = two; finished = begun }
  ends_early (x ∷ s) e =
      let r = finished 6 (x ∷ s) (omega arith) (omega arith) e in
      record { unfinished = not_accepted (x ∷ s) 20 e; rest = r.0; octets = r.1; finished = r.2 }

  pub early_refused : (s : List ℕ) → EndsEarly edition s → read_apdu edition s ≡ Err 20
  early_refused s h =
      ⊎_elim
      (λ g. absurd (h.unfinished (good_accepted edition s g.0 g.1)))
      (λ b. by_test (eqb b.0 20)
      (λ d. b.1 ∙ ap Err (eqb-true b.0 20 d))
      (λ d. absurd (not_accepted (s ++ h.rest) b.0 (left_to_right edition s h.rest b.0 b.1 (eqb-false b.0 20 d)) h.finished)))
      (either (read_apdu edition s))
