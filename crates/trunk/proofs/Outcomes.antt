-- Outcomes exactly: the reading tells an outcome where a whole span of it stands, and nowhere else.
use mathlib.Core.Path.{◌≡◌, refl, sym, ap, subst, ◌∙◌}
use mathlib.Core.Logic.{◌↔◌}
use mathlib.Core.List.{List, ◌++◌}
use mathlib.Core.Option.{some}
use Prim.Native.Nat.{ℕ, suc, ◌+◌, ◌<◌, ◌≤◌}
use native.Mathlib.Nat.{le_refl}
use native.Mathlib.Omega.{arith}
use lib.ListN.{length, length-append}
use borrow.Author.Tests.{eq-eqb, ne_eqb}
use Rattle.runs.specs.Run.{Event, ended}
use Rattle.runs.specs.Run.Trace.{told}
use Rattle.frames.specs.declared.Phase.TheVariants.{Hunting}
use Rattle.frames.specs.Step.{most, fresh_of}
use Rattle.trunk.specs.Reading.{Out, Kept, at, read_n, reading_of, kept_of}
use Rattle.trunk.specs.Spans.{Bytes, NoPreamble, Whole, Free, OutcomeAt}
use Rattle.trunk.specs.Spans.Free.{noise, behind}
use Rattle.trunk.proofs.Reading.{steps, by_position}
use Rattle.trunk.proofs.Recording.{bytes_behind}
use Rattle.trunk.proofs.Stands.{Tells, tells, passed, whole_some}
use Rattle.trunk.proofs.Told.{regroup, read_sees}

-- the bound on preambles bounds nothing: any that is not below the events that are left gives the same reading
pub bound_free : (w : Kept) (p m : ℕ) (es : List Event) → length w.head ≡ 5 → length w.store ≡ most → length es ≤ m
    → read_n m p w es ≡ read_n (length es) p w es
bound_free w p m es lh ls l =
    sym (by_position m w.head w.first w.store p es lh ls l) ∙ by_position (length es) w.head w.first w.store p es lh ls (le_refl (length es))

-- ---- where a span stands: right behind noise, and further on
told_here : (m p q : ℕ) (w : Kept) (n xs rest : List Event) {o : Out} → length w.head ≡ 5 → length w.store ≡ most → NoPreamble n → Whole xs o
    → Bytes (n ++ (xs ++ rest)) → p + (length n + length xs) ≡ q + 1 → ended q (read_n (suc m) p w (n ++ (xs ++ rest))) ≡ some o
told_here m p q w n xs rest lw ls np whole bs e =
    let t = tells w lw ls rest whole (bytes_behind n (xs ++ rest) bs) in
    ap (ended q) (passed t n np m p q rest e) ∙ rw (eq-eqb q q refl)

told_later : (m p q : ℕ) {w : Kept} (n : List Event) {xs : List Event} (es : List Event) {o o' : Out} (t : Tells w xs o) → NoPreamble n
    → p + (length n + length xs) ≤ q → ended q (read_n m (p + (length n + length xs)) t.left es) ≡ some o'
    → ended q (read_n (suc m) p w (n ++ (xs ++ es))) ≡ some o'
told_later m p q n {xs} es t np l later =
    let long : length xs ≡ suc (suc (length t.rest)) = ap length t.opens in
    let z = p + (length n + suc (length t.rest)) in
    let place : p + (length n + length xs) ≡ z + 1 = omega arith in
    ap (ended q) (passed t n np m p z es place)
    ∙ rw (ne_eqb z q (omega arith)) (ap (λ (i : ℕ). ended q (read_n m i t.left es)) (sym place) ∙ later)

-- j preambles more than the spans of such events have
abbrev spans_and : {f : List Event} → Free f → ℕ → ℕ
spans_and (noise np) j = suc j
spans_and (behind n np whole fr) j = suc (spans_and fr j)

more_spans : {f : List Event} (fr : Free f) (j : ℕ) → j ≤ spans_and fr j
more_spans (noise np) j = omega arith
more_spans (behind n np whole fr) j = let l : j ≤ spans_and fr j = more_spans fr j in omega arith

stands_told : {f : List Event} (fr : Free f) {xs : List Event} {o : Out} → Whole xs o → (j p q : ℕ) (w : Kept) (rest : List Event)
    → length w.head ≡ 5 → length w.store ≡ most → Bytes (f ++ (xs ++ rest)) → p + (length f + length xs) ≡ q + 1 → ended q (read_n (spans_and fr j) p w (f ++ (xs ++ rest))) ≡ some o
stands_told (noise {es = n} np) {xs} whole j p q w rest lw ls bs e = told_here j p q w n xs rest lw ls np whole bs e
stands_told (behind n {xs = ys} {es = es} np other fr) {xs} whole j p q w rest lw ls bs e =
    let later = es ++ (xs ++ rest) in
    let split : (n ++ (ys ++ es)) ++ (xs ++ rest) ≡ n ++ (ys ++ later) = sym (regroup n ys es (xs ++ rest)) in
    let bs' : Bytes (ys ++ later) = bytes_behind n (ys ++ later) (subst Bytes split bs) in
    let t = tells w lw ls later other bs' in
    let size : length (n ++ (ys ++ es)) ≡ length n + (length ys + length es) = simp length-append in
    let some : 0 < length xs = whole_some whole in
    ap (λ (l : List Event). ended q (read_n (suc (spans_and fr j)) p w l)) split
    ∙ told_later (spans_and fr j) p q n later t np (omega arith)
    (stands_told fr whole j (p + (length n + length ys)) q t.left rest t.head t.store (bytes_behind ys later bs') (omega arith))

-- ---- both ways
module _ (w : Kept) (lw : length w.head ≡ 5) (ls : length w.store ≡ most) (es : List Event) (bs : Bytes es) (q : ℕ) (o : Out) where
  is_told : ended q (reading_of w es) ≡ some o → OutcomeAt es q o
  unfolding reading_of
  is_told e =
      let f = read_sees (length es) 0 w es lw bs q o e in
      let ends : 0 + (length f.front + length f.span) ≡ q + 1 = f.ends in
      record { front = f.front; span = f.span; rest = f.rest; free = f.free; whole = f.whole; stands = f.stands; ends = omega arith }

  is_there : OutcomeAt es q o → ended q (reading_of w es) ≡ some o
  unfolding reading_of
  is_there a =
      let ends : length a.front + length a.span ≡ q + 1 = a.ends in
      let m = spans_and a.free (length es) in
      ap (ended q) (sym (bound_free w 0 m es lw ls (more_spans a.free (length es))))
      ∙ ap (λ (l : List Event). ended q (read_n m 0 w l)) a.stands
      ∙ stands_told a.free a.whole (length es) 0 q w a.rest lw ls (subst Bytes a.stands bs) (omega arith)

  -- An outcome of the reading is o exactly when a whole span that ends in o stands there, with no frame open where it begins.
  pub outcomes_exactly : (ended q (reading_of w es) ≡ some o) ↔ OutcomeAt es q o
  outcomes_exactly = (is_told, is_there)

-- at one place ends one outcome
pub one_outcome : (es : List Event) → Bytes es → (q : ℕ) (o o' : Out) → OutcomeAt es q o → OutcomeAt es q o' → o ≡ o'
one_outcome es bs q o o' a b =
    let w = kept_of fresh_of in
    let x = is_there w refl refl es bs q o a in
    let y = is_there w refl refl es bs q o' b in
    cc

-- What a whole span, noise before it, does to the whole trace: the step tells its outcome and nothing else before it, and is hunting again behind it.
pub span_steps : {w : Kept} {xs : List Event} {o : Out} → length w.head ≡ 5 → length w.store ≡ most → (t : Tells w xs o) (n : List Event) → NoPreamble n
    → (p z : ℕ) (more : List Event) → p + (length n + length xs) ≡ z + 1
    → steps p (at Hunting w) (n ++ (xs ++ more)) ≡ told z o (steps (z + 1) (at Hunting t.left) more)
span_steps {w} {xs} {o} lw ls t n np p z more e =
    let all = n ++ (xs ++ more) in
    let m = length all in
    let v = t.left in
    let size : m ≡ length n + (length xs + length more) = simp length-append in
    by_position (suc m) w.head w.first w.store p all lw ls (omega arith)
    ∙ passed t n np m p z more e
    ∙ ap (told z o) (sym (by_position m v.head v.first v.store (z + 1) more t.head t.store (omega arith)))
