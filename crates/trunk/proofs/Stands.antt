-- Where a whole span stands, the reading tells its outcome and goes on behind it.
use mathlib.Core.Path.{◌≡◌, refl, sym, ap, ◌∙◌}
use mathlib.Core.List.{List, [], ◌∷◌, ◌++◌, append_assoc}
use Prim.Native.Nat.{ℕ, zero, suc, ◌+◌, ◌<◌, ◌≤◌}
use native.Mathlib.Nat.{not-suc-le-zero}
use native.Mathlib.Omega.{arith}
use lib.ListN.{length, take, length-append, length-take}
use lib.Seq.{take_at}
use borrow.Author.Tests.{lt-ltb, le-ltb, ne_eqb}
use Rattle.octets.specs.Choice.{impossible}
use Rattle.octets.specs.Reading.{Octets}
use Rattle.octets.specs.Splice.{splice_whole, splice_length}
use Rattle.sums.specs.Sums.{header_run, header_start, header_left, header_check, data_run, data_start, data_left, data_check}
use Rattle.sums.proofs.Good.{header_good, header_only, data_good, data_only}
use Rattle.runs.specs.Run.{Event}
use Rattle.runs.specs.Run.Event.{octet, silence}
use Rattle.runs.specs.Run.Trace.{told}
use Rattle.frames.specs.Layout.{head_of, frame_octets}
use Rattle.frames.specs.Step.{most, length_of}
use Rattle.trunk.specs.Reading.{Out, Kept, laid, with_head, with_data, ends55, span, Read, after_data, judged, after_header, after_found, read_n, came}
use Rattle.trunk.specs.Reading.Out.{good, damage}
use Rattle.trunk.specs.Reading.Span.{full, cut}
use Rattle.trunk.specs.Spans.{Bytes, NoPreamble, headed, Opens, Whole}
use Rattle.trunk.specs.Spans.Whole.{frame, bad_header, too_long, bad_data, cut_header, cut_data}
use Rattle.trunk.proofs.Spans.{kept, came_append, length_came}
use Rattle.trunk.proofs.Recording.{bytes_came, octets_left, octets_right, length_head_of, length_of_head_of}
use Rattle.trunk.proofs.Noise.{find_behind}

-- ---- spans of octets: all there, or cut by a silence
span_full : (n p : ℕ) (xs : List ℕ) (es : List Event) → length xs ≡ n + 1 → span n p (came xs ++ es) ≡ full xs (p + n) es
span_full zero p [] es e = absurd (omega arith)
span_full zero p (x ∷ []) es e = ap (λ (q : ℕ). full (x ∷ []) q es) (omega arith)
span_full zero p (x ∷ y ∷ xs) es e = absurd (omega arith)
span_full (suc n) p [] es e = absurd (omega arith)
span_full (suc n) p (x ∷ xs) es e = rw (span_full n (p + 1) xs es (omega arith)) (ap (λ (q : ℕ). full (x ∷ xs) q es) (omega arith))

span_cut : (n p : ℕ) (xs : List ℕ) (es : List Event) → length xs ≤ n → span n p (came xs ++ (silence ∷ es)) ≡ cut xs (p + length xs) es
span_cut zero p [] es l = ap (λ (q : ℕ). cut [] q es) (omega arith)
span_cut zero p (x ∷ xs) es l = absurd (not-suc-le-zero l)
span_cut (suc n) p [] es l = ap (λ (q : ℕ). cut [] q es) (omega arith)
span_cut (suc n) p (x ∷ xs) es l = rw (span_cut n (p + 1) xs es (omega arith)) (ap (λ (q : ℕ). cut (x ∷ xs) q es) (omega arith))

-- a header's check octet, and what follows it
pub head_on : (h : List ℕ) (c : ℕ) (xs : List ℕ) (es : List Event) → came (h ++ (c ∷ [])) ++ (came xs ++ es) ≡ came (h ++ (c ∷ xs)) ++ es
head_on h c xs es = sym (came_append (h ++ (c ∷ [])) xs es) ∙ ap (λ (l : List ℕ). came l ++ es) (append_assoc h (c ∷ []) xs)

-- lengths of what is kept
pub laid_length : (n : ℕ) (xs s : List ℕ) → n ≤ length s → length (laid (take n xs) s) ≡ length s
laid_length n xs s l = splice_length s 0 (take n xs) (simp length-take (omega arith))

-- ---- a header and what follows it, as the reading takes them
module _ (k : Read) (w : Kept) (lw : length w.head ≡ 5) where
  header_read : (h : List ℕ) (c p : ℕ) (more : List Event) → length h ≡ 5
      → after_header k w (span 5 p (came (h ++ (c ∷ [])) ++ more)) ≡ judged k (kept h w.first w.store) (h ++ (c ∷ [])) (p + 5) more
  header_read h c p more lh =
      let six = h ++ (c ∷ []) in
      let n : length six ≡ 6 = simp length-append (omega arith) in
      let own : laid (take 5 six) w.head ≡ h = rw (take_at h (c ∷ []) 5 lh) (splice_whole w.head h (omega arith)) in
      ap (after_header k w) (span_full 5 p six more (omega arith)) ∙ ap (λ (l : List ℕ). judged k (kept l w.first w.store) six (p + 5) more) own

  data_read : (h xs : List ℕ) (p : ℕ) (more : List Event) → Opens h
      → after_header k w (span 5 p (came (h ++ (header_check h ∷ xs)) ++ more))
      ≡ after_data k (kept h w.first w.store) (span (length_of h + 1) (p + 5 + 1) (came xs ++ more))
  data_read h xs p more o =
      let more-data : length_of h ≡ 0 → ⊥ = λ z. omega (arith, o.some) in
      ap (λ (l : List Event). after_header k w (span 5 p l)) (sym (head_on h (header_check h) xs more))
      ∙ header_read h (header_check h) p (came xs ++ more) o.five
      ∙ rw (header_good h, le-ltb most (length_of h) o.fits, ne_eqb (length_of h) 0 more-data)

-- ---- The reading that comes to the preamble of a span with w kept tells its outcome where it ends, and hunts on behind it with left kept.
pub record Tells (w : Kept) (xs : List Event) (o : Out) : Type 0 where
  pub rest : List Event
  pub opens : xs ≡ octet 0x55 ∷ octet 0xFF ∷ rest
  pub left : Kept
  pub head : length left.head ≡ 5
  pub store : length left.store ≡ most
  pub reads : (k : Read) (p z : ℕ) (more : List Event) → p + length rest ≡ z + 1
      → after_header k w (span 5 p (rest ++ more)) ≡ told z o (k (z + 1) left more)

module _ (w : Kept) (lw : length w.head ≡ 5) (ls : length w.store ≡ most) where
  tells_bad_header : (h : List ℕ) (c : ℕ) → length h ≡ 5 → (header_run header_start (h ++ (c ∷ [])) ≡ header_left → ⊥) → Tells w (came (0x55 ∷ 0xFF ∷ (h ++ (c ∷ [])))) (damage 1)
  tells_bad_header h c lh bad =
      let n : length (came (h ++ (c ∷ []))) ≡ 6 = simp (length_came, length-append) (omega arith) in
      record {
        rest = came (h ++ (c ∷ []));
        opens = refl;
        left = kept h w.first w.store;
        head = lh;
        store = ls;
        reads = λ k p z more e. header_read k w lw h c p more lh
            ∙ rw (ne_eqb (header_run header_start (h ++ (c ∷ []))) header_left bad)
            (ap (λ (z : ℕ). told z (damage 1) (k (z + 1) (kept h w.first w.store) more)) (omega arith));
      }

  tells_too_long : (h : List ℕ) → length h ≡ 5 → most < length_of h → Tells w (came (headed h [])) (damage 2)
  tells_too_long h lh long =
      let n : length (came (h ++ (header_check h ∷ []))) ≡ 6 = simp (length_came, length-append) (omega arith) in
      record {
        rest = came (h ++ (header_check h ∷ []));
        opens = refl;
        left = kept h w.first w.store;
        head = lh;
        store = ls;
        reads = λ k p z more e. header_read k w lw h (header_check h) p more lh
            ∙ rw (header_good h, lt-ltb most (length_of h) long) (ap (λ (z : ℕ). told z (damage 2) (k (z + 1) (kept h w.first w.store) more)) (omega arith));
      }

  tells_short : (h : List ℕ) → length h ≡ 5 → length_of h ≡ 0 → Tells w (came (headed h [])) (good h [])
  tells_short h lh none =
      let n : length (came (h ++ (header_check h ∷ []))) ≡ 6 = simp (length_came, length-append) (omega arith) in
      record {
        rest = came (h ++ (header_check h ∷ []));
        opens = refl;
        left = kept h w.first w.store;
        head = lh;
        store = ls;
        reads = λ k p z more e. header_read k w lw h (header_check h) p more lh
            ∙ rw (header_good h, none) (ap (λ (z : ℕ). told z (good h []) (k (z + 1) (kept h w.first w.store) more)) (omega arith));
      }

  -- data with their two check octets: b of both
  data_full : (h d b : List ℕ) (k : Read) (p z : ℕ) (more : List Event) → Opens h → length d ≡ length_of h → length b ≡ 2
      → p + length (came (h ++ (header_check h ∷ (d ++ b)))) ≡ z + 1
      → after_header k w (span 5 p (came (h ++ (header_check h ∷ (d ++ b))) ++ more))
      ≡ after_data k (kept h w.first w.store) (full (d ++ b) z more)
  data_full h d b k p z more o ld lb e =
      let n : length (came (h ++ (header_check h ∷ (d ++ b)))) ≡ length h + (1 + (length d + length b)) = simp (length_came, length-append) (omega arith) in
      let five : length h ≡ 5 = o.five in
      let m : length (d ++ b) ≡ length_of h + 1 + 1 = simp length-append (omega arith) in
      data_read k w lw h (d ++ b) p more o
      ∙ ap (after_data k (kept h w.first w.store)) (span_full (length_of h + 1) (p + 5 + 1) (d ++ b) more m ∙ ap (λ (z : ℕ). full (d ++ b) z more) (omega arith))

  fits_store : (h xs : List ℕ) → Opens h → length (laid (take (length_of h) xs) w.store) ≡ most
  fits_store h xs o = let f : length_of h ≤ most = o.fits in laid_length (length_of h) xs w.store (omega arith) ∙ ls

  tells_data : (h d b : List ℕ) → Opens h → length d ≡ length_of h → length b ≡ 2 → data_run data_start (d ++ b) ≡ data_left
      → Tells w (came (headed h (d ++ b))) (good h d)
  tells_data h d b o ld lb right =
      record {
        rest = came (h ++ (header_check h ∷ (d ++ b)));
        opens = refl;
        left = with_data (d ++ b) (kept h w.first w.store);
        head = o.five;
        store = fits_store h (d ++ b) o;
        reads = λ k p z more e. data_full h d b k p z more o ld lb e ∙ rw (right, take_at d b (length_of h) ld);
      }

  tells_bad_data : (h d b : List ℕ) → Opens h → length d ≡ length_of h → length b ≡ 2 → (data_run data_start (d ++ b) ≡ data_left → ⊥)
      → Tells w (came (headed h (d ++ b))) (damage 3)
  tells_bad_data h d b o ld lb bad =
      record {
        rest = came (h ++ (header_check h ∷ (d ++ b)));
        opens = refl;
        left = with_data (d ++ b) (kept h w.first w.store);
        head = o.five;
        store = fits_store h (d ++ b) o;
        reads = λ k p z more e. data_full h d b k p z more o ld lb e ∙ rw (ne_eqb (data_run data_start (d ++ b)) data_left bad);
      }

  tells_cut_header : (xs : List ℕ) → length xs < 6 → Tells w (came (0x55 ∷ 0xFF ∷ xs) ++ (silence ∷ [])) (damage 4)
  tells_cut_header xs l =
      let n : length (came xs ++ (silence ∷ [])) ≡ length xs + 1 = simp (length-append, length_came) (omega arith) in
      record {
        rest = came xs ++ (silence ∷ []);
        opens = refl;
        left = with_head xs w;
        head = laid_length 5 xs w.head (omega arith) ∙ lw;
        store = ls;
        reads = λ k p z more e. ap (λ (l : List Event). after_header k w (span 5 p l)) (append_assoc (came xs) (silence ∷ []) more)
            ∙ ap (after_header k w) (span_cut 5 p xs more (omega arith))
            ∙ ap (λ (z : ℕ). told z (damage 4) (k (z + 1) (with_head xs w) more)) (omega arith);
      }

  tells_cut_data : (h xs : List ℕ) → Opens h → length xs < length_of h + 2 → Tells w (came (headed h xs) ++ (silence ∷ [])) (damage 4)
  tells_cut_data h xs o l =
      let n : length (came (h ++ (header_check h ∷ xs)) ++ (silence ∷ [])) ≡ length h + (1 + length xs) + 1 = simp (length-append, length_came) (omega arith) in
      let five : length h ≡ 5 = o.five in
      let v = with_data xs (kept h w.first w.store) in
      record {
        rest = came (h ++ (header_check h ∷ xs)) ++ (silence ∷ []);
        opens = refl;
        left = v;
        head = five;
        store = fits_store h xs o;
        reads = λ k p z more e. ap (λ (l : List Event). after_header k w (span 5 p l)) (append_assoc (came (h ++ (header_check h ∷ xs))) (silence ∷ []) more)
            ∙ data_read k w lw h xs p (silence ∷ more) o
            ∙ ap (after_data k (kept h w.first w.store)) (span_cut (length_of h + 1) (p + 5 + 1) xs more (omega arith))
            ∙ ap (λ (z : ℕ). told z (damage 4) (k (z + 1) v more)) (omega arith);
      }

  head_of_opens : (kind to from n : ℕ) → 0 < n → n ≤ most → Opens (head_of kind to from n)
  head_of_opens kind to from n some fits =
      let e : length_of (head_of kind to from n) ≡ n = length_of_head_of kind to from n in
      record { five = length_head_of kind to from n; some = omega arith; fits = omega arith }

  length_check : (xs : List ℕ) → length (data_check xs) ≡ 2
  unfolding data_check
  length_check xs = refl

  tells_frame : (kind to from : ℕ) (d : List ℕ) → length d ≤ most → Octets (frame_octets kind to from d)
      → Tells w (came (frame_octets kind to from d)) (good (head_of kind to from (length d)) d)
  unfolding frame_octets
  tells_frame kind to from [] fits os = tells_short (head_of kind to from 0) (length_head_of kind to from 0) (length_of_head_of kind to from 0)
  tells_frame kind to from (x ∷ d) fits os =
      let h = head_of kind to from (length (x ∷ d)) in
      let all : Octets ((x ∷ d) ++ data_check (x ∷ d)) = λ i. octets_right h (header_check h ∷ ((x ∷ d) ++ data_check (x ∷ d))) (λ j. os (suc (suc j))) (suc i) in
      tells_data h (x ∷ d) (data_check (x ∷ d)) (head_of_opens kind to from (length (x ∷ d)) (omega arith) fits)
      (sym (length_of_head_of kind to from (length (x ∷ d))))
      (length_check (x ∷ d)) (data_good (x ∷ d) (octets_left (x ∷ d) (data_check (x ∷ d)) all))

  tells_wrong_header : (h : List ℕ) (c : ℕ) → length h ≡ 5 → (c ≡ header_check h → ⊥) → Octets (0x55 ∷ 0xFF ∷ (h ++ (c ∷ []))) → Tells w (came (0x55 ∷ 0xFF ∷ (h ++ (c ∷ [])))) (damage 1)
  tells_wrong_header h c lh bad os = tells_bad_header h c lh (λ e. bad (header_only h c (octets_right h (c ∷ []) (λ i. os (suc (suc i))) 0) e))

  tells_wrong_data : (h d : List ℕ) (a b : ℕ) → Opens h → length d ≡ length_of h → (a ∷ b ∷ [] ≡ data_check d → ⊥) → Octets (headed h (d ++ (a ∷ b ∷ [])))
      → Tells w (came (headed h (d ++ (a ∷ b ∷ [])))) (damage 3)
  tells_wrong_data h d a b o ld bad os =
      let all : Octets (d ++ (a ∷ b ∷ [])) = λ i. octets_right h (header_check h ∷ (d ++ (a ∷ b ∷ []))) (λ j. os (suc (suc j))) (suc i) in
      let two : Octets (a ∷ b ∷ []) = octets_right d (a ∷ b ∷ []) all in
      tells_bad_data h d (a ∷ b ∷ []) o ld refl (λ e. bad (data_only d (octets_left d (a ∷ b ∷ []) all) a b (two 0) (two 1) e))

  pub tells : {xs : List Event} {o : Out} (more : List Event) → Whole xs o → Bytes (xs ++ more) → Tells w xs o
  tells more (frame kind to from d fits) bs = tells_frame kind to from d fits (bytes_came (frame_octets kind to from d) more bs)
  tells more (bad_header h c lh bad) bs = tells_wrong_header h c lh bad (bytes_came (0x55 ∷ 0xFF ∷ (h ++ (c ∷ []))) more bs)
  tells more (too_long h lh long) bs = tells_too_long h lh long
  tells more (bad_data h d a b o ld bad) bs = tells_wrong_data h d a b o ld bad (bytes_came (headed h (d ++ (a ∷ b ∷ []))) more bs)
  tells more (cut_header xs l) bs = tells_cut_header xs l
  tells more (cut_data h xs o l) bs = tells_cut_data h xs o l

-- the same, noise before it
pub passed : {w : Kept} {xs : List Event} {o : Out} (t : Tells w xs o) (n : List Event) → NoPreamble n → (m p z : ℕ) (more : List Event)
    → p + (length n + length xs) ≡ z + 1
    → read_n (suc m) p w (n ++ (xs ++ more)) ≡ told z o (read_n m (z + 1) t.left more)
passed {w} {xs} t n np m p z more e =
    let long : length xs ≡ suc (suc (length t.rest)) = ap length t.opens in
    let all = n ++ (octet 0x55 ∷ octet 0xFF ∷ (t.rest ++ more)) in
    ap (λ (l : List Event). read_n (suc m) p w (n ++ (l ++ more))) t.opens
    ∙ ap (after_found (read_n m) w (ends55 all)) (find_behind n (t.rest ++ more) p np)
    ∙ t.reads (read_n m) (p + length n + 1 + 1) z more (omega arith)

-- a span has events
pub whole_some : {xs : List Event} {o : Out} → Whole xs o → 0 < length xs
unfolding frame_octets
whole_some (frame kind to from d fits) = omega arith
whole_some (bad_header h c lh bad) = omega arith
whole_some (too_long h lh long) = omega arith
whole_some (bad_data h d a b o ld bad) = omega arith
whole_some (cut_header xs l) = omega arith
whole_some (cut_data h xs o l) = omega arith

-- a span's damage has one of the four numbers
pub whole_number : {xs : List Event} {o : Out} → Whole xs o → (n : ℕ) → o ≡ damage n → (0 < n) × (n ≤ 4)
whole_number (frame kind to from d fits) n e = impossible (cc)
whole_number (bad_header h c lh bad) n e = let i : n ≡ 1 = cc in (omega arith, omega arith)
whole_number (too_long h lh long) n e = let i : n ≡ 2 = cc in (omega arith, omega arith)
whole_number (bad_data h d a b o ld bad) n e = let i : n ≡ 3 = cc in (omega arith, omega arith)
whole_number (cut_header xs l) n e = let i : n ≡ 4 = cc in (omega arith, omega arith)
whole_number (cut_data h xs o l) n e = let i : n ≡ 4 = cc in (omega arith, omega arith)
