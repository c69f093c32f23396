-- Reading on from a state is reading, from hunting, what it holds and then the trunk.
use mathlib.Core.Path.{◌≡◌, refl, sym, ap, ap₂, ◌∙◌}
use mathlib.Core.Bool.{true}
use mathlib.Core.List.{List, [], ◌∷◌, ◌++◌}
use Prim.Native.Nat.{ℕ, zero, suc, ◌+◌, ◌<◌, ◌≤◌}
use native.Mathlib.Nat.{zero-add, le_refl}
use native.Mathlib.Numerals.{add-one}
use native.Mathlib.Omega.{arith}
use lib.Dec.{ltb, leb, lit<}
use lib.ListN.{length, take, drop, length-append}
use lib.Seq.{drop-cons, set-get_or, take_all, length-take-le}
use borrow.Author.Tests.{lt-ltb, le-ltb, eq-eqb, ne_eqb, ltb-true, leb-true, leb-false}
use Rattle.octets.specs.Choice.{by_test}
use Rattle.sums.specs.Sums.{header_run, header_start, header_check}
use Rattle.sums.proofs.Good.{good, run_lt}
use Rattle.runs.specs.Run.{Event}
use Rattle.runs.specs.Run.Event.{octet}
use Rattle.frames.specs.declared.Phase.{Phase}
use Rattle.frames.specs.declared.Phase.TheVariants.{Hunting, Preamble, Header, Data}
use Rattle.frames.specs.declared.Receiver.{Receiver}
use Rattle.frames.specs.Step.{most, length_of, DataLeft, sound_in}
use Rattle.frames.proofs.Laws.{data_left_lem}
use Rattle.trunk.specs.Reading.{at, reading_of, data_held, pending, came, kept_of, held_of, read_from}
use Rattle.trunk.specs.Demand.{Sound}
use Rattle.trunk.proofs.Spans.{kept, came_append}
use Rattle.trunk.proofs.Reading.{steps, by_position}

-- octets that are there already are laid again, and change nothing
fill_header : (n got : ℕ) (h : List ℕ) (c : ℕ) (s : List ℕ) (p : ℕ) (es : List Event) → got + n ≤ 5 → length h ≡ 5
    → steps p (at (Header got) (kept h c s)) (came (take n (drop got h)) ++ es) ≡ steps (p + n) (at (Header (got + n)) (kept h c s)) es
fill_header zero got h c s p es l lh =
    ap₂ (λ (q g : ℕ). steps q (at (Header g) (kept h c s)) es) (omega arith) (omega arith)
fill_header (suc n) got h c s p es l lh =
    let more : ltb got 5 ≡ true = lt-ltb got 5 (omega arith) in
    rw (drop-cons h got 0 (omega arith), more, set-get_or h got 0, ← add-one got)
    (fill_header n (got + 1) h c s (p + 1) es (omega arith) lh
    ∙ ap₂ (λ (q g : ℕ). steps q (at (Header g) (kept h c s)) es) (omega arith) (omega arith))

fill_data : (n got : ℕ) (h : List ℕ) (c : ℕ) (s : List ℕ) (p : ℕ) (es : List Event) → got + n ≤ length_of h → length_of h ≤ length s
    → steps p (at (Data got) (kept h c s)) (came (take n (drop got s)) ++ es) ≡ steps (p + n) (at (Data (got + n)) (kept h c s)) es
fill_data zero got h c s p es l ls =
    ap₂ (λ (q g : ℕ). steps q (at (Data g) (kept h c s)) es) (omega arith) (omega arith)
fill_data (suc n) got h c s p es l ls =
    let more : ltb got (length_of h) ≡ true = lt-ltb got (length_of h) (omega arith) in
    rw (drop-cons s got 0 (omega arith), more, set-get_or s got 0, ← add-one got)
    (fill_data n (got + 1) h c s (p + 1) es (omega arith) ls
    ∙ ap₂ (λ (q g : ℕ). steps q (at (Data g) (kept h c s)) es) (omega arith) (omega arith))

-- the check octet that a head in data had
passed : (h : List ℕ) (c : ℕ) (s : List ℕ) (p : ℕ) (es : List Event) → 0 < length_of h → length_of h ≤ most
    → steps p (at (Header 5) (kept h c s)) (octet (header_check h) ∷ es) ≡ steps (p + 1) (at (Data 0) (kept h c s)) es
unfolding header_check
passed h c s p es some fits =
    rw (good (header_run header_start h) (run_lt header_start h (lit< tt)), le-ltb most (length_of h) fits, ne_eqb (length_of h) 0 (omega arith))

held : (got : ℕ) (h : List ℕ) (c : ℕ) (s : List ℕ) (p : ℕ) (es : List Event) → DataLeft got (length_of h) → length s ≡ most
    → steps p (at (Data 0) (kept h c s)) (came (data_held got (kept h c s)) ++ es) ≡ steps (p + got) (at (Data got) (kept h c s)) es
held got h c s p es d ls =
    by_test (leb got (length_of h))
    (λ t. rw t (fill_data got 0 h c s p es (let u : got ≤ length_of h = leb-true got (length_of h) t in omega arith) (omega (arith, d.fits))
    ∙ ap (λ (g : ℕ). steps (p + got) (at (Data g) (kept h c s)) es) (omega arith)))
    (λ t.
    let u : length_of h < got = leb-false got (length_of h) t in
    let e : got ≡ length_of h + 1 = omega (arith, d.left) in
    rw (t, came_append (take (length_of h) s) (c ∷ []) es)
    (fill_data (length_of h) 0 h c s p (octet c ∷ es) (omega arith) (omega (arith, d.fits))
    ∙ rw (zero-add (length_of h), le-ltb (length_of h) (length_of h) (omega arith), eq-eqb (length_of h) (length_of h) refl, e)
    (ap (λ (q : ℕ). steps q (at (Data (length_of h + 1)) (kept h c s)) es) (omega arith))))

held_length : (got : ℕ) (h : List ℕ) (c : ℕ) (s : List ℕ) → DataLeft got (length_of h) → length s ≡ most → length (data_held got (kept h c s)) ≡ got
held_length got h c s d ls =
    by_test (leb got (length_of h))
    (λ t. let u : got ≤ length_of h = leb-true got (length_of h) t in rw t (length-take-le got s (omega (arith, d.fits))))
    (λ t.
    let u : length_of h < got = leb-false got (length_of h) t in
    rw t (simp length-append (omega (arith, d.left, length-take-le (length_of h) s (omega (arith, d.fits))))))

-- from hunting, the octets that a state holds lead to that state
pub holds : (ph : Phase) (h : List ℕ) (c : ℕ) (s : List ℕ) (q : ℕ) (es : List Event) → sound_in ph h ≡ true → length h ≡ 5 → length s ≡ most
    → steps q (at Hunting (kept h c s)) (came (pending ph (kept h c s)) ++ es) ≡ steps (q + length (pending ph (kept h c s))) (at ph (kept h c s)) es
holds Hunting h c s q es so lh ls = ap (λ (p : ℕ). steps p (at Hunting (kept h c s)) es) (omega arith)
holds Preamble h c s q es so lh ls = refl
holds (Header got) h c s q es so lh ls =
    let l : got < 6 = ltb-true got 6 so in
    let n : length (take got h) ≡ got = length-take-le got h (omega arith) in
    fill_header got 0 h c s (q + 1 + 1) es (omega arith) lh
    ∙ ap₂ (λ (p g : ℕ). steps p (at (Header g) (kept h c s)) es) (omega arith) (omega arith)
holds (Data got) h c s q es so lh ls =
    let d = data_left_lem got (length_of h) so in
    let five : take 5 h ≡ h = take_all 5 h (omega arith) in
    let w = kept h c s in
    let rest = octet (header_check h) ∷ (came (data_held got w) ++ es) in
    let n = held_length got h c s d ls in
    let m = length-append h (header_check h ∷ data_held got w) in
    rw (came_append h (header_check h ∷ data_held got w) es)
    (ap (λ (l : List ℕ). steps (q + 1 + 1) (at (Header 0) w) (came l ++ rest)) (sym five)
    ∙ fill_header 5 0 h c s (q + 1 + 1) rest (omega arith) lh
    ∙ passed h c s (q + 1 + 1 + 5) (came (data_held got w) ++ es) d.some d.fits
    ∙ held got h c s (q + 1 + 1 + 5 + 1) es d ls
    ∙ ap (λ (p : ℕ). steps p (at (Data got) w) es) (omega arith))

-- from any state that 59 passes, the step folded over a trunk is the reading by position of what the state holds and the trunk
pub from_state : (r : Receiver) (es : List Event) → Sound r → steps (length (held_of r)) r es ≡ read_from r es
unfolding read_from reading_of
from_state r es so =
    let w = kept_of r in
    let all = came (held_of r) ++ es in
    ap (λ (p : ℕ). steps p r es) (omega arith)
    ∙ sym (holds r.link.phase w.head w.first w.store 0 es so.left so.head so.store)
    ∙ by_position (length all) w.head w.first w.store 0 all so.head so.store (le_refl (length all))
