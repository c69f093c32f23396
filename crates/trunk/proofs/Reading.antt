-- The receiver's step, folded over a trunk, gives what the reading by position gives.
use mathlib.Core.Path.{◌≡◌, refl, sym, ap, ap₂, ◌∙◌}
use mathlib.Core.Bool.{Bool, true, false}
use mathlib.Core.List.{List, [], ◌∷◌, ◌++◌, append_assoc, append-nil}
use Prim.Native.Nat.{ℕ, zero, suc, ◌+◌, ◌≤◌}
use native.Mathlib.Nat.{not-suc-le-zero}
use native.Mathlib.Numerals.{add-one}
use native.Mathlib.Omega.{arith}
use lib.Dec.{eqb, ltb}
use lib.ListN.{length, set, take, length-set, length-append}
use lib.Seq.{take-suc-set, take_all, take_at, length-take-le}
use borrow.Author.Tests.{lt-ltb, le-ltb, eq-eqb, ne_eqb, ltb-false, eqb-true}
use Rattle.octets.specs.Choice.{pick, both, by_test}
use Rattle.sums.specs.Sums.{header_run, header_step, header_start, header_left, data_run, data_step, data_start, data_left}
use Rattle.sums.proofs.Good.{run_append}
use Rattle.runs.specs.Run.{Event, Trace}
use Rattle.runs.specs.Run.Event.{octet, silence}
use Rattle.runs.specs.Run.Trace.{told, final}
use Rattle.runs.specs.Machine.{Machine, trace}
use Rattle.frames.specs.declared.Phase.TheVariants.{Hunting, Preamble, Header, Data}
use Rattle.frames.specs.declared.Receiver.{Receiver}
use Rattle.frames.specs.Step.{most, length_of, Stepped, whole, moved, step_in, silence_in}
use Rattle.trunk.specs.Reading.{Out, Kept, at, laid, Found, is_oct, ends55, find, one, span, Read, after_data, after_header, after_found, read_n}
use Rattle.trunk.specs.Reading.Out.{good, damage}
use Rattle.trunk.specs.Reading.Found.{found, nothing}
use Rattle.trunk.specs.Demand.{out_of}
use Rattle.trunk.proofs.Spans.{kept, laid_take, prefixed, prefixed_push, prefixed_none, laid_head, laid_store, laid_first, head_self, data_self, first_self}

-- ---- the step on an event, as a machine
abbrev pub on : Receiver → Event → Stepped
on r (octet x) = step_in r.link.phase r.link x r.store
on r silence = whole (moved r.link Hunting (silence_in r.link.phase)) r.store

abbrev pub machine : Machine Receiver Out
machine = record { out = λ r e. out_of (on r e).outcome (on r e).receiver; next = λ r e. (on r e).receiver }

abbrev pub steps : ℕ → Receiver → List Event → Trace Out Receiver
steps = trace machine

-- ---- hunting
abbrev hunt_to : Kept → Bool → Found → Trace Out Receiver
hunt_to w b nothing = final (at (pick b Preamble Hunting) w)
hunt_to w b (found q es) = steps (q + 1) (at (Header 0) w) es

ends_silence : (es : List Event) → ends55 (silence ∷ es) ≡ ends55 es
ends_silence [] = refl
ends_silence (e ∷ es) = refl

hunt : (w : Kept) (p : ℕ) (es : List Event) → steps p (at Hunting w) es ≡ hunt_to w (ends55 es) (find p es)
hunt w p [] = refl
hunt w p (silence ∷ es) = rw (ends_silence es) (hunt w (p + 1) es)
hunt w p (octet x ∷ []) = by_test (eqb x 0x55) (λ e. rw e) (λ e. rw e)
hunt w p (octet x ∷ silence ∷ es) =
    let ih = hunt w (p + 1 + 1) es in
    rw (ends_silence es) (by_test (eqb x 0x55) (λ e. rw e ih) (λ e. rw e ih))
hunt w p (octet x ∷ octet y ∷ es) =
    let ih = hunt w (p + 1) (octet y ∷ es) in
    by_test (eqb x 0x55) (λ e. rw e (by_test (eqb y 0xFF) (λ f. rw f) (λ f. rw f ih))) (λ e. rw e ih)

-- ---- spans. k reads on as the step does, where no more than m events are left
module _ (m : ℕ) (k : Read)
    (hk : (q : ℕ) (h : List ℕ) (c : ℕ) (s : List ℕ) (es : List Event) → length h ≡ 5 → length s ≡ most → length es ≤ m → steps q (at Hunting (kept h c s)) es ≡ k q (kept h c s) es) where
  -- the same, with what is kept written otherwise
  goes : (q : ℕ) (h : List ℕ) (c : ℕ) (s : List ℕ) (w : Kept) (es : List Event) → w ≡ kept h c s → length h ≡ 5 → length s ≡ most → length es ≤ m
      → steps q (at Hunting (kept h c s)) es ≡ k q w es
  goes q h c s w es e lh ls le = hk q h c s es lh ls le ∙ ap (λ (w : Kept). k q w es) (sym e)

  -- the second check octet
  second : (h : List ℕ) (c : ℕ) (s : List ℕ) (p : ℕ) (es : List Event) → length h ≡ 5 → length s ≡ most → length_of h ≤ most → length es ≤ m
      → steps p (at (Data (length_of h + 1)) (kept h c s)) es ≡ after_data k (kept h c s) (prefixed (take (length_of h) s ++ (c ∷ [])) (one p es))
  second h c s p [] lh ls n le =
      let part : length (take (length_of h) s) ≡ length_of h = length-take-le (length_of h) s (omega arith) in
      ap₂ (λ (g : ℕ) (w : Kept). final (at (Data g) w)) (simp (append-nil, length-append) (omega arith)) (sym (first_self h c s [] (omega arith)))
  second h c s p (silence ∷ es) lh ls n le = ap (told p (damage 4)) (goes (p + 1) h c s _ es (first_self h c s [] (omega arith)) lh ls (omega arith))
  second h c s p (octet b ∷ es) lh ls n le =
      let d = take (length_of h) s in
      let late : ltb (length_of h + 1) (length_of h) ≡ false = le-ltb (length_of h + 1) (length_of h) (omega arith) in
      let other : eqb (length_of h + 1) (length_of h) ≡ false = ne_eqb (length_of h + 1) (length_of h) (omega arith) in
      let part : length d ≡ length_of h = length-take-le (length_of h) s (omega arith) in
      let sums : data_run data_start ((d ++ (c ∷ [])) ++ (b ∷ [])) ≡ data_step (data_step (data_run data_start d) c) b =
      run_append data_step data_start (d ++ (c ∷ [])) (b ∷ []) ∙ ap (λ (r : ℕ). data_step r b) (run_append data_step data_start d (c ∷ [])) in
      let ih = goes (p + 1) h c s _ es (first_self h c s (b ∷ []) (omega arith)) lh ls (omega arith) in
      let same : take (length_of h) ((d ++ (c ∷ [])) ++ (b ∷ [])) ≡ d = rw (append_assoc d (c ∷ []) (b ∷ [])) (take_at d _ (length_of h) part) in
      rw (late, other, sums) (by_test (eqb (data_step (data_step (data_run data_start d) c) b) data_left)
      (λ e. rw e (ap₂ (λ (d : List ℕ) (t : Trace Out Receiver). told p (good h d) t) (sym same) ih))
      (λ e. rw e (ap (told p (damage 3)) ih)))

  -- the data and the first check octet
  body : (n got : ℕ) (h : List ℕ) (c : ℕ) (s : List ℕ) (p : ℕ) (es : List Event) → got + n ≡ length_of h → length h ≡ 5 → length s ≡ most → length_of h ≤ most → length es ≤ m
      → steps p (at (Data got) (kept h c s)) es ≡ after_data k (kept h c s) (prefixed (take got s) (span (suc n) p es))
  body n got h c s p [] g lh ls le lm =
      let part : length (take got s) ≡ got = length-take-le got s (omega arith) in
      ap₂ (λ (g : ℕ) (w : Kept). final (at (Data g) w)) (simp append-nil (omega arith)) (sym (data_self got h c s (omega arith) (omega arith)))
  body n got h c s p (silence ∷ es) g lh ls le lm = ap (told p (damage 4)) (goes (p + 1) h c s _ es (data_self got h c s (omega arith) (omega arith)) lh ls (omega arith))
  body zero got h c s p (octet b ∷ es) g lh ls le lm =
      let e : got ≡ length_of h = omega arith in
      let done : ltb got (length_of h) ≡ false = le-ltb got (length_of h) (omega arith) in
      let here : eqb got (length_of h) ≡ true = eq-eqb got (length_of h) e in
      let part : length (take (length_of h) s) ≡ length_of h = length-take-le (length_of h) s (omega arith) in
      rw (done, here, e)
      (second h b s (p + 1) es lh ls le (omega arith)
      ∙ laid_first k h b c s (take (length_of h) s ++ (b ∷ [])) (one (p + 1) es) (simp length-append (omega arith))
      ∙ ap (after_data k (kept h c s)) (prefixed_push (take (length_of h) s) b (one (p + 1) es)))
  body (suc n) got h c s p (octet b ∷ es) g lh ls le lm =
      let more : ltb got (length_of h) ≡ true = lt-ltb got (length_of h) (omega arith) in
      let part : length (take got s) ≡ got = length-take-le got s (omega arith) in
      let ih = body n (got + 1) h c (set s got b) (p + 1) es (omega arith) lh (length-set s got b ∙ ls) le (omega arith) in
      let grown : take (got + 1) (set s got b) ≡ take got s ++ (b ∷ []) = rw add-one (take-suc-set s got b (omega arith)) in
      rw more
      (ih
      ∙ ap (λ (l : List ℕ). after_data k (kept h c (set s got b)) (prefixed l (span (suc n) (p + 1) es))) grown
      ∙ laid_store k h c s (take got s ++ (b ∷ [])) got b (span (suc n) (p + 1) es) (omega arith) (simp length-append (omega arith))
      ∙ ap (after_data k (kept h c s)) (prefixed_push (take got s) b (span (suc n) (p + 1) es)))

  -- the header's check octet
  check : (h : List ℕ) (c : ℕ) (s : List ℕ) (p : ℕ) (es : List Event) → length h ≡ 5 → length s ≡ most → length es ≤ m
      → steps p (at (Header 5) (kept h c s)) es ≡ after_header k (kept h c s) (prefixed (take 5 h) (one p es))
  check h c s p [] lh ls lm =
      let part : length (take 5 h) ≡ 5 = length-take-le 5 h (omega arith) in
      ap₂ (λ (g : ℕ) (w : Kept). final (at (Header g) w)) (simp append-nil (omega arith)) (sym (head_self 5 h c s (omega arith) lh))
  check h c s p (silence ∷ es) lh ls lm = ap (told p (damage 4)) (goes (p + 1) h c s _ es (head_self 5 h c s (omega arith) lh) lh ls (omega arith))
  check h c s p (octet b ∷ es) lh ls lm =
      let ih = hk (p + 1) h c s es lh ls (omega arith) in
      let five : take 5 h ≡ h = take_all 5 h (omega arith) in
      let own : laid (take 5 (h ++ (b ∷ []))) h ≡ h = rw (take_at h (b ∷ []) 5 lh) (rw five at (laid_take 5 h (omega arith))) in
      rw (five, run_append header_step header_start h (b ∷ []), own)
      (by_test (eqb (header_step (header_run header_start h) b) header_left)
      (λ e. rw e (by_test (ltb most (length_of h))
      (λ t. rw t (ap (told p (damage 2)) ih))
      (λ t.
      let fits : length_of h ≤ most = ltb-false most (length_of h) t in
      rw t (by_test (eqb (length_of h) 0)
      (λ z.
      let z0 : length_of h ≡ 0 = eqb-true (length_of h) 0 z in
      rw z (ap₂ (λ (d : List ℕ) (t : Trace Out Receiver). told p (good h d) t) (ap (λ (n : ℕ). take n s) z0) ih))
      (λ z. rw (z, add-one (length_of h)) (body (length_of h) 0 h c s (p + 1) es (omega arith) lh ls fits (omega arith) ∙ ap (after_data k (kept h c s)) (prefixed_none (span (suc (length_of h)) (p + 1) es))))))))
      (λ e. rw e (ap (told p (damage 1)) ih)))

  -- the header
  pub header : (n got : ℕ) (h : List ℕ) (c : ℕ) (s : List ℕ) (p : ℕ) (es : List Event) → got + n ≡ 5 → length h ≡ 5 → length s ≡ most → length es ≤ m
      → steps p (at (Header got) (kept h c s)) es ≡ after_header k (kept h c s) (prefixed (take got h) (span n p es))
  header zero got h c s p es g lh ls lm =
      let e : got ≡ 5 = omega arith in
      rw e (check h c s p es lh ls lm)
  header (suc n) got h c s p [] g lh ls lm =
      let part : length (take got h) ≡ got = length-take-le got h (omega arith) in
      ap₂ (λ (g : ℕ) (w : Kept). final (at (Header g) w)) (simp append-nil (omega arith)) (sym (head_self got h c s (omega arith) lh))
  header (suc n) got h c s p (silence ∷ es) g lh ls lm = ap (told p (damage 4)) (goes (p + 1) h c s _ es (head_self got h c s (omega arith) lh) lh ls (omega arith))
  header (suc n) got h c s p (octet b ∷ es) g lh ls lm =
      let more : ltb got 5 ≡ true = lt-ltb got 5 (omega arith) in
      let part : length (take got h) ≡ got = length-take-le got h (omega arith) in
      let ih = header n (got + 1) (set h got b) c s (p + 1) es (omega arith) (length-set h got b ∙ lh) ls (omega arith) in
      let grown : take (got + 1) (set h got b) ≡ take got h ++ (b ∷ []) = rw add-one (take-suc-set h got b (omega arith)) in
      rw more
      (ih
      ∙ ap (λ (l : List ℕ). after_header k (kept (set h got b) c s) (prefixed l (span n (p + 1) es))) grown
      ∙ laid_head k h c s (take got h ++ (b ∷ [])) got b (span n (p + 1) es) (omega arith) (simp length-append (omega arith))
      ∙ ap (after_header k (kept h c s)) (prefixed_push (take got h) b (span n (p + 1) es)))

-- what follows a preamble is shorter
shorter : (w : Kept) (d : Bool) (m : ℕ) (k : Read) (p : ℕ) (es : List Event) → length es ≤ suc m
    → ((q : ℕ) (rest : List Event) → length rest ≤ m → steps q (at (Header 0) w) rest ≡ after_header k w (span 5 q rest))
    → hunt_to w d (find p es) ≡ after_found k w d (find p es)
shorter w d m k p [] l f = refl
shorter w d m k p (silence ∷ es) l f = shorter w d m k (p + 1) es (omega arith) f
shorter w d m k p (octet x ∷ []) l f = by_test (eqb x 0x55) (λ e. rw e) (λ e. rw e)
shorter w d m k p (octet x ∷ e ∷ es) l f =
    let ih = shorter w d m k (p + 1) (e ∷ es) (omega arith) f in
    by_test (both (eqb x 0x55) (is_oct 0xFF e)) (λ t. rw t (f (p + 1 + 1) es (omega arith))) (λ t. rw t ih)

pub by_position : (m : ℕ) (h : List ℕ) (c : ℕ) (s : List ℕ) (p : ℕ) (es : List Event) → length h ≡ 5 → length s ≡ most → length es ≤ m
    → steps p (at Hunting (kept h c s)) es ≡ read_n m p (kept h c s) es
by_position zero h c s p [] lh ls l = refl
by_position zero h c s p (e ∷ es) lh ls l = absurd (not-suc-le-zero l)
by_position (suc m) h c s p es lh ls l =
    hunt (kept h c s) p es
    ∙ shorter (kept h c s) (ends55 es) m (read_n m) p es l
    (λ q rest lr. header m (read_n m) (λ q h c s es lh ls le. by_position m h c s q es lh ls le) 5 0 h c s q rest (omega arith) lh ls lr
    ∙ ap (after_header (read_n m) (kept h c s)) (prefixed_none (span 5 q rest)))
