-- Spans, and what they lay over a store. Nothing here knows the receiver's step.
use mathlib.Core.Path.{◌≡◌, refl, sym, ap, ◌∙◌}
use mathlib.Core.List.{List, [], ◌∷◌, ◌++◌, append_assoc, append-nil}
use Prim.Native.Nat.{ℕ, zero, suc, ◌+◌, ◌<◌, ◌≤◌}
use native.Mathlib.Nat.{not-suc-le-zero, le_of_suc-le-suc}
use native.Mathlib.Omega.{arith}
use lib.ListN.{length, get_or, set, take, length-append, length-take, take-append-drop, get_or-eq_default}
use lib.Seq.{take_all, take_at, get_or_at, length-take-le, drop-set-lt}
use Rattle.octets.specs.Splice.{splice_front}
use lib.Dec.{eqb}
use Rattle.octets.specs.Choice.{pick}
use Rattle.sums.specs.Sums.{data_run, data_start, data_left}
use Rattle.runs.specs.Run.{Event}
use Rattle.runs.specs.Run.Event.{octet}
use Rattle.runs.specs.Run.Trace.{told, final}
use Rattle.frames.specs.declared.Phase.TheVariants.{Header, Data}
use Rattle.frames.specs.Step.{length_of}
use Rattle.trunk.specs.Reading.{Kept, at, laid, with_head, with_data, Span, push, Read, after_data, judged, after_header, came}
use Rattle.trunk.specs.Reading.Out.{good, damage}
use Rattle.trunk.specs.Reading.Span.{full, cut, open_ended}

abbrev pub kept : List ℕ → ℕ → List ℕ → Kept
kept h c s = record { head = h; first = c; store = s }

-- ---- octets as events
pub came_two : (xs ys : List ℕ) → came (xs ++ ys) ≡ came xs ++ came ys
came_two [] ys = refl
came_two (x ∷ xs) ys = ap (λ (l : List Event). octet x ∷ l) (came_two xs ys)

pub came_append : (xs ys : List ℕ) (es : List Event) → came (xs ++ ys) ++ es ≡ came xs ++ (came ys ++ es)
came_append xs ys es = ap (λ (l : List Event). l ++ es) (came_two xs ys) ∙ append_assoc (came xs) (came ys) es

pub length_came : (xs : List ℕ) → length (came xs) ≡ length xs
length_came [] = refl
length_came (x ∷ xs) = ap suc (length_came xs)

-- ---- laying
-- a store's own front leaves it
pub laid_take : (n : ℕ) (s : List ℕ) → n ≤ length s → laid (take n s) s ≡ s
laid_take n s l = splice_front s (take n s) ∙ rw (length-take-le n s l) (take-append-drop n s)

-- what is laid over does not matter
pub laid_set : (xs s : List ℕ) (i b : ℕ) → i < length xs → laid xs (set s i b) ≡ laid xs s
laid_set xs s i b l = splice_front (set s i b) xs ∙ rw (drop-set-lt (length xs) s i b l) (sym (splice_front s xs))

get_d_any : (xs : List ℕ) (n c d : ℕ) → n < length xs → get_or xs n c ≡ get_or xs n d
get_d_any [] n c d l = absurd (not-suc-le-zero l)
get_d_any (x ∷ xs) zero c d l = refl
get_d_any (x ∷ xs) (suc n) c d l = get_d_any xs n c d (le_of_suc-le-suc l)

-- ---- a span behind octets that are there already
abbrev pub prefixed : List ℕ → Span → Span
prefixed pre (full xs q es) = full (pre ++ xs) q es
prefixed pre (cut xs q es) = cut (pre ++ xs) q es
prefixed pre (open_ended xs) = open_ended (pre ++ xs)

pub prefixed_push : (pre : List ℕ) (x : ℕ) (sp : Span) → prefixed (pre ++ (x ∷ [])) sp ≡ prefixed pre (push x sp)
prefixed_push pre x (full xs q es) = ap (λ (l : List ℕ). full l q es) (append_assoc pre (x ∷ []) xs)
prefixed_push pre x (cut xs q es) = ap (λ (l : List ℕ). cut l q es) (append_assoc pre (x ∷ []) xs)
prefixed_push pre x (open_ended xs) = ap open_ended (append_assoc pre (x ∷ []) xs)

pub prefixed_none : (sp : Span) → prefixed [] sp ≡ sp
prefixed_none (full xs q es) = refl
prefixed_none (cut xs q es) = refl
prefixed_none (open_ended xs) = refl

-- ---- what is kept depends only on the octets that a span does not lay over
over_head : (h xs : List ℕ) (i b c : ℕ) (s : List ℕ) → i < 5 → i < length xs → with_head xs (kept (set h i b) c s) ≡ with_head xs (kept h c s)
over_head h xs i b c s l m = rw (laid_set (take 5 xs) h i b (simp length-take (omega arith)))

over_store : (h xs : List ℕ) (i b c : ℕ) (s : List ℕ) → i < length_of h → i < length xs → with_data xs (kept h c (set s i b)) ≡ with_data xs (kept h c s)
over_store h xs i b c s l m = rw (laid_set (take (length_of h) xs) s i b (simp length-take (omega arith)))

over_first : (h xs : List ℕ) (b c : ℕ) (s : List ℕ) → length_of h < length xs → with_data xs (kept h b s) ≡ with_data xs (kept h c s)
over_first h xs b c s l = rw (get_d_any xs (length_of h) b c l)

-- a header's reading behind pre looks at what is kept as pre leaves it
header_over : (k : Read) (v w : Kept) (pre : List ℕ) (sp : Span) → ((xs : List ℕ) → with_head (pre ++ xs) v ≡ with_head (pre ++ xs) w)
    → after_header k v (prefixed pre sp) ≡ after_header k w (prefixed pre sp)
header_over k v w pre (full xs q es) e = ap (λ (w : Kept). judged k w (pre ++ xs) q es) (e xs)
header_over k v w pre (cut xs q es) e = rw (e xs)
header_over k v w pre (open_ended xs) e = ap (λ (w : Kept). final (at (Header (length (pre ++ xs))) w)) (e xs)

-- and so does the reading of data, with one head
data_over : (k : Read) (h : List ℕ) (b c : ℕ) (s t pre : List ℕ) (sp : Span) → ((xs : List ℕ) → with_data (pre ++ xs) (kept h b s) ≡ with_data (pre ++ xs) (kept h c t))
    → after_data k (kept h b s) (prefixed pre sp) ≡ after_data k (kept h c t) (prefixed pre sp)
data_over k h b c s t pre (full xs q es) e =
    ap (λ (w : Kept). told q (pick (eqb (data_run data_start (pre ++ xs)) data_left) (good h (take (length_of h) (pre ++ xs))) (damage 3)) (k (q + 1) w es)) (e xs)
data_over k h b c s t pre (cut xs q es) e = rw (e xs)
data_over k h b c s t pre (open_ended xs) e = ap (λ (w : Kept). final (at (Data (length (pre ++ xs))) w)) (e xs)

-- an octet that pre has is laid already: in the head, in the store, as the first check octet
pub laid_head : (k : Read) (h : List ℕ) (c : ℕ) (s pre : List ℕ) (i b : ℕ) (sp : Span) → i < 5 → i < length pre
    → after_header k (kept (set h i b) c s) (prefixed pre sp) ≡ after_header k (kept h c s) (prefixed pre sp)
laid_head k h c s pre i b sp l m = header_over k _ _ pre sp (λ xs. over_head h (pre ++ xs) i b c s l (simp length-append (omega arith)))

pub laid_store : (k : Read) (h : List ℕ) (c : ℕ) (s pre : List ℕ) (i b : ℕ) (sp : Span) → i < length_of h → i < length pre
    → after_data k (kept h c (set s i b)) (prefixed pre sp) ≡ after_data k (kept h c s) (prefixed pre sp)
laid_store k h c s pre i b sp l m = data_over k h c c _ _ pre sp (λ xs. over_store h (pre ++ xs) i b c s l (simp length-append (omega arith)))

pub laid_first : (k : Read) (h : List ℕ) (b c : ℕ) (s pre : List ℕ) (sp : Span) → length_of h < length pre
    → after_data k (kept h b s) (prefixed pre sp) ≡ after_data k (kept h c s) (prefixed pre sp)
laid_first k h b c s pre sp l = data_over k h b c s s pre sp (λ xs. over_first h (pre ++ xs) b c s (simp length-append (omega arith)))

-- ---- a state's own octets leave it: got octets of its header, got octets of its data, all its data and the first check octet
pub head_self : (got : ℕ) (h : List ℕ) (c : ℕ) (s : List ℕ) → got ≤ 5 → length h ≡ 5 → with_head (take got h ++ []) (kept h c s) ≡ kept h c s
head_self got h c s l e =
    let n : length (take got h) ≡ got = length-take-le got h (omega arith) in
    rw (append-nil (take got h), take_all 5 (take got h) (omega arith), laid_take got h (omega arith))

pub data_self : (got : ℕ) (h : List ℕ) (c : ℕ) (s : List ℕ) → got ≤ length_of h → got ≤ length s → with_data (take got s ++ []) (kept h c s) ≡ kept h c s
data_self got h c s l m =
    let n : length (take got s) ≡ got = length-take-le got s m in
    rw (append-nil (take got s), take_all (length_of h) (take got s) (omega arith), laid_take got s m, get_or-eq_default (take got s) c {n = length_of h} (omega arith))

pub first_self : (h : List ℕ) (c : ℕ) (s xs : List ℕ) → length_of h ≤ length s → with_data ((take (length_of h) s ++ (c ∷ [])) ++ xs) (kept h c s) ≡ kept h c s
first_self h c s xs l =
    let whole : length (take (length_of h) s) ≡ length_of h = length-take-le (length_of h) s l in
    rw (append_assoc (take (length_of h) s) (c ∷ []) xs, take_at (take (length_of h) s) (c ∷ xs) (length_of h) whole, get_or_at (take (length_of h) s) c xs c (length_of h) whole, laid_take (length_of h) s l)
