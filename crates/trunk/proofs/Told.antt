-- What the reading tells is a whole span, behind events where no frame is open.
use mathlib.Core.Path.{◌≡◌, refl, sym, ap, subst, ◌∙◌}
use mathlib.Core.Bool.{Bool, true, false}
use mathlib.Core.Logic.{⊎_elim}
use mathlib.Core.List.{List, [], ◌∷◌, ◌++◌, append_assoc}
use mathlib.Core.Option.{none, some}
use Prim.Native.Nat.{ℕ, zero, suc, ◌+◌, ◌≤◌}
use native.Mathlib.Omega.{arith}
use lib.Dec.{eqb, ltb}
use lib.ListN.{length, get_or, take, length-append, take-append-drop, drop_of_length-le}
use lib.Seq.{drop-cons, length-take-le}
use borrow.Author.Tests.{ltb-true, ltb-false, eqb-true, eqb-false}
use Rattle.octets.specs.Choice.{pick, non, non_true, pick_cases, pick_which, impossible}
use Rattle.octets.specs.Reading.{Octets}
use Rattle.octets.specs.Splice.{splice_whole}
use Rattle.sums.specs.Sums.{header_run, header_start, header_left, header_check, data_run, data_start, data_left, data_check}
use Rattle.sums.proofs.Good.{header_good, header_only, data_good, data_only}
use Rattle.runs.specs.Run.{Event, Trace, ended}
use Rattle.runs.specs.Run.Event.{octet, silence}
use Rattle.runs.specs.Run.Trace.{told}
use Rattle.frames.specs.declared.Receiver.{Receiver}
use Rattle.frames.specs.Layout.{head_of, data_part, frame_octets}
use Rattle.frames.specs.Step.{most, length_of}
use Rattle.frames.proofs.Parts.{some_data}
use Rattle.trunk.specs.Reading.{Out, Kept, with_head, with_data, Found, ends55, Span, push, span, Read}
use Rattle.trunk.specs.Reading.{after_data, judged, after_header, after_found, read_n, came}
use Rattle.trunk.specs.Reading.Out.{good, damage}
use Rattle.trunk.specs.Reading.Span.{full, cut, open_ended}
use Rattle.trunk.specs.Spans.{Bytes, NoPreamble, headed, Opens, Whole, Free}
use Rattle.trunk.specs.Spans.Whole.{frame, bad_header, too_long, bad_data, cut_header, cut_data}
use Rattle.trunk.specs.Spans.Free.{noise, behind}
use Rattle.trunk.proofs.Spans.{length_came}
use Rattle.trunk.proofs.Recording.{bytes_came, bytes_behind, octets_left, octets_right, five}
use Rattle.trunk.proofs.Noise.{Finds, find_view}
use Rattle.trunk.proofs.Noise.Finds.{finds, lacks}
use Rattle.trunk.proofs.Stands.{head_on, laid_length}

-- ---- what a span of n + 1 octets from place p on is
pub data Spans (n p : ℕ) : List Event → Span → Type 0 where
  fills : {es : List Event} {q : ℕ} (xs : List ℕ) (more : List Event) → es ≡ came xs ++ more → length xs ≡ n + 1 → q ≡ p + n → Spans n p es (full xs q more)
  breaks : {es : List Event} {q : ℕ} (xs : List ℕ) (more : List Event) → es ≡ came xs ++ (silence ∷ more) → length xs ≤ n → q ≡ p + length xs
      → Spans n p es (cut xs q more)
  lasts : {es : List Event} (xs : List ℕ) → Spans n p es (open_ended xs)

pushed : (n p x : ℕ) (es : List Event) {sp : Span} → Spans n (p + 1) es sp → Spans (suc n) p (octet x ∷ es) (push x sp)
pushed n p x es (fills {q = q} xs more stands l place) = fills {q = q} (x ∷ xs) more (ap (λ (l : List Event). octet x ∷ l) stands) (omega arith) (omega arith)
pushed n p x es (breaks {q = q} xs more stands l place) = breaks {q = q} (x ∷ xs) more (ap (λ (l : List Event). octet x ∷ l) stands) (omega arith) (omega arith)
pushed n p x es (lasts xs) = lasts (x ∷ xs)

span_view : (n p : ℕ) (es : List Event) → Spans n p es (span n p es)
span_view zero p [] = lasts []
span_view zero p (silence ∷ es) = breaks {q = p} [] es refl (omega arith) (omega arith)
span_view zero p (octet x ∷ es) = fills {q = p} (x ∷ []) es refl (omega arith) (omega arith)
span_view (suc n) p [] = lasts []
span_view (suc n) p (silence ∷ es) = breaks {q = p} [] es refl (omega arith) (omega arith)
span_view (suc n) p (octet x ∷ es) = pushed n p x es (span_view n (p + 1) es)

-- ---- whole spans out of octets
frame_whole : (h d : List ℕ) → length h ≡ 5 → Octets h → length_of h ≡ length d → length d ≤ most → Whole (came (headed h (data_part d))) (good h d)
unfolding frame_octets
frame_whole h d lh os e fits =
    let own : h ≡ head_of (get_or h 0 0) (get_or h 1 0) (get_or h 2 0) (length d) = five h lh os ∙ ap (head_of (get_or h 0 0) (get_or h 1 0) (get_or h 2 0)) e in
    subst (λ (l : List ℕ). Whole (came (headed l (data_part d))) (good l d)) (sym own) (frame (get_or h 0 0) (get_or h 1 0) (get_or h 2 0) d fits)

last_one : (n : ℕ) (xs : List ℕ) → length xs ≡ n + 1 → xs ≡ take n xs ++ (get_or xs n 0 ∷ [])
last_one n xs e =
    sym (take-append-drop n xs)
    ∙ ap (λ (l : List ℕ). take n xs ++ l) (drop-cons xs n 0 (omega arith) ∙ ap (λ (l : List ℕ). get_or xs n 0 ∷ l) (drop_of_length-le xs {i = suc n} (omega arith)))

last_two_lem : (n : ℕ) (xs : List ℕ) → length xs ≡ n + 1 + 1 → xs ≡ take n xs ++ (get_or xs n 0 ∷ get_or xs (suc n) 0 ∷ [])
last_two_lem n xs e =
    sym (take-append-drop n xs)
    ∙ ap (λ (l : List ℕ). take n xs ++ l) (drop-cons xs n 0 (omega arith)
    ∙ ap (λ (l : List ℕ). get_or xs n 0 ∷ l)
    (drop-cons xs (suc n) 0 (omega arith) ∙ ap (λ (l : List ℕ). get_or xs (suc n) 0 ∷ l) (drop_of_length-le xs {i = suc (suc n)} (omega arith))))

-- data and two check octets, all there
module _ (h xs : List ℕ) (o : Opens h) (l : length xs ≡ length_of h + 1 + 1) (oh : Octets h) (ox : Octets xs) where
  abbrev body : List ℕ
  body = take (length_of h) xs

  abbrev first : ℕ
  first = get_or xs (length_of h) 0

  abbrev second : ℕ
  second = get_or xs (suc (length_of h)) 0

  parts : xs ≡ body ++ (first ∷ second ∷ [])
  parts = last_two_lem (length_of h) xs l

  body_octets : Octets body
  body_octets = octets_left body (first ∷ second ∷ []) (subst Octets parts ox)

  body_length : length body ≡ length_of h
  body_length = length-take-le (length_of h) xs (omega arith)

  right_data : data_run data_start xs ≡ data_left → Whole (came (headed h xs)) (good h body)
  right_data e =
      let check : first ∷ second ∷ [] ≡ data_check body =
      data_only body body_octets first second (ox (length_of h)) (ox (suc (length_of h))) (ap (data_run data_start) (sym parts) ∙ e) in
      let n : length body ≡ length_of h = body_length in
      let whole : xs ≡ data_part body = parts ∙ ap (λ (b : List ℕ). body ++ b) check ∙ sym (some_data body (λ z. omega (arith, z, o.some))) in
      subst (λ (b : List ℕ). Whole (came (headed h b)) (good h body)) (sym whole) (frame_whole h body o.five oh (sym n) (omega (arith, o.fits)))

  wrong_data : (data_run data_start xs ≡ data_left → ⊥) → Whole (came (headed h xs)) (damage 3)
  wrong_data bad =
      subst (λ (b : List ℕ). Whole (came (headed h b)) (damage 3)) (sym parts)
      (bad_data h body first second o body_length (λ e. bad (ap (data_run data_start) (parts ∙ ap (λ (b : List ℕ). body ++ b) e) ∙ data_good body body_octets)))

  data_whole : Whole (came (headed h xs)) (pick (eqb (data_run data_start xs) data_left) (good h body) (damage 3))
  data_whole =
      pick_cases (Whole (came (headed h xs))) (eqb (data_run data_start xs) data_left) (λ t. right_data (eqb-true (data_run data_start xs) data_left t))
      (λ t. wrong_data (eqb-false (data_run data_start xs) data_left t))

-- ---- Each outcome of a trace of es, whose first place is p, is a whole span's.
pub record From (p : ℕ) (es : List Event) (q : ℕ) (o : Out) : Type 0 where
  pub front : List Event
  pub span : List Event
  pub rest : List Event
  pub free : Free front
  pub whole : Whole span o
  pub stands : es ≡ front ++ (span ++ rest)
  pub ends : p + (length front + length span) ≡ q + 1

abbrev pub Sees : ℕ → List Event → Trace Out Receiver → Type 0
Sees p es t = (q : ℕ) (o : Out) → ended q t ≡ some o → From p es q o

-- a last state tells nothing
unseen : (p : ℕ) (es : List Event) (q : ℕ) (o : Out) → none ≡ some o → From p es q o
unseen p es q o e = impossible (cc)

pub regroup : (a b c d : List Event) → a ++ (b ++ (c ++ d)) ≡ (a ++ (b ++ c)) ++ d
regroup a b c d = simp append_assoc

module _ (p z : ℕ) (es n xs more : List Event) {o : Out} (np : NoPreamble n) (whole : Whole xs o) (stands : es ≡ n ++ (xs ++ more))
    (place : p + (length n + length xs) ≡ z + 1) where
  -- an outcome further on
  later_from : (q : ℕ) (o' : Out) → From (z + 1) more q o' → From p es q o'
  later_from q o' f =
      let ends : z + 1 + (length f.front + length f.span) ≡ q + 1 = f.ends in
      record {
        front = n ++ (xs ++ f.front);
        span = f.span;
        rest = f.rest;
        free = behind n np whole f.free;
        whole = f.whole;
        stands = stands ∙ ap (λ (l : List Event). n ++ (xs ++ l)) f.stands ∙ regroup n xs f.front (f.span ++ f.rest);
        ends = simp length-append (omega arith);
      }

  -- this one, or one further on
  sees_told : Bytes es → (t : Trace Out Receiver) → (Bytes more → Sees (z + 1) more t) → Sees p es (told z o t)
  sees_told bs t later q o' eq =
      ⊎_elim
      (λ c.
      let same : z ≡ q = eqb-true z q c.0 in
      let out : o ≡ o' = cc c.1 in
      record { front = n; span = xs; rest = more; free = noise np; whole = subst (Whole xs) out whole; stands = stands; ends = omega arith })
      (λ c. later_from q o' (later (bytes_behind xs more (bytes_behind n (xs ++ more) (subst Bytes stands bs))) q o' c.1))
      (pick_which (eqb z q) (some o) (ended q t) (some o') eq)

non_false : (a : Bool) → non a ≡ false → a ≡ true
non_false true e = refl
non_false false e = cc

-- ---- the reading of one preamble: k sees what is told behind it
module _ (k : Read) (sees : (z : ℕ) (v : Kept) (more : List Event) → length v.head ≡ 5 → Bytes more → Sees z more (k z v more))
    (p : ℕ) (es n : List Event) (np : NoPreamble n) (bs : Bytes es) where
  -- an outcome that k goes on from
  seen : (q : ℕ) (xs more : List Event) (v : Kept) {o : Out} → length v.head ≡ 5 → Whole xs o → es ≡ n ++ (xs ++ more) → p + (length n + length xs) ≡ q + 1
      → Sees p es (told q o (k (q + 1) v more))
  seen q xs more v lh whole stands place = sees_told p q es n xs more np whole stands place bs (k (q + 1) v more) (sees (q + 1) v more lh)

  -- data
  data_sees : (z : ℕ) (w : Kept) (rest : List Event) {sp : Span} → Opens w.head → es ≡ n ++ (came (headed w.head []) ++ rest) → z ≡ p + (length n + 8)
      → Spans (length_of w.head + 1) z rest sp → Sees p es (after_data k w sp)
  data_sees z w rest o stands place (lasts xs) = unseen p es
  data_sees z w rest o stands place (breaks {q = q} xs more there l at) =
      let h = w.head in
      let lh : length h ≡ 5 = o.five in
      let all : es ≡ n ++ ((came (headed h xs) ++ (silence ∷ [])) ++ more) =
      stands
      ∙ ap (λ (l : List Event). n ++ (octet 0x55 ∷ octet 0xFF ∷ l))
      (ap (λ (l : List Event). came (h ++ (header_check h ∷ [])) ++ l) there
      ∙ head_on h (header_check h) xs (silence ∷ more)
      ∙ sym (append_assoc (came (h ++ (header_check h ∷ xs))) (silence ∷ []) more)) in
      seen q (came (headed h xs) ++ (silence ∷ [])) more (with_data xs w) lh (cut_data h xs o (omega arith)) all (simp (length-append, length_came) (omega arith))
  data_sees z w rest o stands place (fills {q = q} xs more there l at) =
      let h = w.head in
      let lh : length h ≡ 5 = o.five in
      let all : es ≡ n ++ (came (headed h xs) ++ more) =
      stands
      ∙ ap (λ (l : List Event). n ++ (octet 0x55 ∷ octet 0xFF ∷ l))
      (ap (λ (l : List Event). came (h ++ (header_check h ∷ [])) ++ l) there ∙ head_on h (header_check h) xs more) in
      let os : Octets (headed h xs) = bytes_came (headed h xs) more (bytes_behind n (came (headed h xs) ++ more) (subst Bytes all bs)) in
      let oh : Octets h = octets_left h (header_check h ∷ xs) (λ i. os (suc (suc i))) in
      let ox : Octets xs = λ i. octets_right h (header_check h ∷ xs) (λ j. os (suc (suc j))) (suc i) in
      seen q (came (headed h xs)) more (with_data xs w) lh (data_whole h xs o l oh ox) all (simp (length-append, length_came) (omega arith))

  -- behind a good header check
  good_sees : (q : ℕ) (w : Kept) (more : List Event) → length w.head ≡ 5 → es ≡ n ++ (came (headed w.head []) ++ more) → q ≡ p + (length n + 7)
      → Sees p es
      (pick (ltb most (length_of w.head)) (told q (damage 2) (k (q + 1) w more))
      (pick (eqb (length_of w.head) 0) (told q (good w.head []) (k (q + 1) w more)) (after_data k w (span (length_of w.head + 1) (q + 1) more))))
  good_sees q w more lh stands place =
      let h = w.head in
      let size : length (came (h ++ (header_check h ∷ []))) ≡ 6 = simp (length_came, length-append) (omega arith) in
      let os : Octets (headed h []) = bytes_came (headed h []) more (bytes_behind n (came (headed h []) ++ more) (subst Bytes stands bs)) in
      let oh : Octets h = octets_left h (header_check h ∷ []) (λ i. os (suc (suc i))) in
      pick_cases (Sees p es) (ltb most (length_of h))
      (λ t. seen q (came (headed h [])) more w lh (too_long h lh (ltb-true most (length_of h) t)) stands (omega arith))
      (λ t. pick_cases (Sees p es) (eqb (length_of h) 0)
      (λ z. seen q (came (headed h [])) more w lh (frame_whole h [] lh oh (eqb-true (length_of h) 0 z) (omega arith)) stands (omega arith))
      (λ z.
      let some : length_of h ≡ 0 → ⊥ = eqb-false (length_of h) 0 z in
      data_sees (q + 1) w more (record { five = lh; some = omega arith; fits = ltb-false most (length_of h) t }) stands (omega arith)
      (span_view (length_of h + 1) (q + 1) more)))

  -- the header's check octet
  judged_sees : (q c : ℕ) (w : Kept) (more : List Event) → length w.head ≡ 5 → es ≡ n ++ (came (0x55 ∷ 0xFF ∷ (w.head ++ (c ∷ []))) ++ more)
      → q ≡ p + (length n + 7) → Sees p es (judged k w (w.head ++ (c ∷ [])) q more)
  judged_sees q c w more lh stands place =
      let h = w.head in
      let six = h ++ (c ∷ []) in
      let size : length (came six) ≡ 6 = simp (length_came, length-append) (omega arith) in
      let os : Octets (0x55 ∷ 0xFF ∷ six) = bytes_came (0x55 ∷ 0xFF ∷ six) more (bytes_behind n (came (0x55 ∷ 0xFF ∷ six) ++ more) (subst Bytes stands bs)) in
      let test = eqb (header_run header_start six) header_left in
      pick_cases (Sees p es) (non test)
      (λ t. seen q (came (0x55 ∷ 0xFF ∷ six)) more w lh
      (bad_header h c lh
      (λ e. eqb-false (header_run header_start six) header_left (non_true test t) (ap (λ (c : ℕ). header_run header_start (h ++ (c ∷ []))) e ∙ header_good h)))
      stands (omega arith))
      (λ t.
      let right : c ≡ header_check h =
      header_only h c (octets_right h (c ∷ []) (λ i. os (suc (suc i))) 0) (eqb-true (header_run header_start six) header_left (non_false test t)) in
      good_sees q w more lh (stands ∙ ap (λ (c : ℕ). n ++ (came (0x55 ∷ 0xFF ∷ (h ++ (c ∷ []))) ++ more)) right) place)

  -- the header
  header_sees : (z : ℕ) (w : Kept) (rest : List Event) {sp : Span} → length w.head ≡ 5 → es ≡ n ++ (octet 0x55 ∷ octet 0xFF ∷ rest) → z ≡ p + (length n + 2)
      → Spans 5 z rest sp → Sees p es (after_header k w sp)
  header_sees z w rest lw stands place (lasts xs) = unseen p es
  header_sees z w rest lw stands place (breaks {q = q} xs more there l at) =
      let all : es ≡ n ++ ((came (0x55 ∷ 0xFF ∷ xs) ++ (silence ∷ [])) ++ more) =
      stands ∙ ap (λ (l : List Event). n ++ (octet 0x55 ∷ octet 0xFF ∷ l)) (there ∙ sym (append_assoc (came xs) (silence ∷ []) more)) in
      seen q (came (0x55 ∷ 0xFF ∷ xs) ++ (silence ∷ [])) more (with_head xs w) (laid_length 5 xs w.head (omega arith) ∙ lw) (cut_header xs (omega arith)) all
      (simp (length-append, length_came) (omega arith))
  header_sees z w rest lw stands place (fills {q = q} xs more there l at) =
      let v = with_head xs w in
      let size : length (take 5 xs) ≡ 5 = length-take-le 5 xs (omega arith) in
      let own : v.head ≡ take 5 xs = splice_whole w.head (take 5 xs) (omega arith) in
      let six : xs ≡ v.head ++ (get_or xs 5 0 ∷ []) = last_one 5 xs l ∙ ap (λ (h : List ℕ). h ++ (get_or xs 5 0 ∷ [])) (sym own) in
      let all : es ≡ n ++ (came (0x55 ∷ 0xFF ∷ (v.head ++ (get_or xs 5 0 ∷ []))) ++ more) =
      stands ∙ ap (λ (l : List Event). n ++ (octet 0x55 ∷ octet 0xFF ∷ l)) (there ∙ ap (λ (l : List ℕ). came l ++ more) six) in
      subst (λ (l : List ℕ). Sees p es (judged k v l q more)) (sym six) (judged_sees q (get_or xs 5 0) v more (ap length own ∙ size) all (omega arith))

found_sees : (k : Read) → ((z : ℕ) (v : Kept) (more : List Event) → length v.head ≡ 5 → Bytes more → Sees z more (k z v more))
    → (p : ℕ) (es : List Event) (w : Kept) (b : Bool) {f : Found} → length w.head ≡ 5 → Bytes es → Finds p es f → Sees p es (after_found k w b f)
found_sees k sees p es w b lw bs (finds {q = q} n rest np stands place) =
    header_sees k sees p es n np bs (q + 1) w rest lw stands (omega arith) (span_view 5 (q + 1) rest)
found_sees k sees p es w b lw bs lacks = unseen p es

-- each outcome that the reading tells is a whole span's
pub read_sees : (m p : ℕ) (w : Kept) (es : List Event) → length w.head ≡ 5 → Bytes es → Sees p es (read_n m p w es)
read_sees zero p w es lw bs = unseen p es
read_sees (suc m) p w es lw bs = found_sees (read_n m) (λ z v more l b. read_sees m z v more l b) p es w (ends55 es) lw bs (find_view p es)
