-- Noise, and what a look for a preamble finds.
use mathlib.Core.Path.{◌≡◌, ap, ap₂, ◌∙◌}
use mathlib.Core.Bool.{true, false}
use mathlib.Core.List.{List, [], ◌∷◌, ◌++◌}
use Prim.Native.Nat.{ℕ, ◌+◌}
use native.Mathlib.Omega.{arith}
use lib.ListN.{length}
use borrow.Author.Tests.{eqb-true}
use Rattle.octets.specs.Choice.{both, both_left, both_right, both_false, by_test, pick_cases, impossible, not_so}
use Rattle.runs.specs.Run.{Event}
use Rattle.runs.specs.Run.Event.{octet, silence}
use Rattle.trunk.specs.Reading.{is_oct, starts, tail, Found, find}
use Rattle.trunk.specs.Reading.Found.{found, nothing}
use Rattle.trunk.specs.Spans.{NoPreamble}

is_octet : (n : ℕ) (e : Event) → is_oct n e ≡ true → e ≡ octet n
is_octet n (octet x) t = ap octet (eqb-true x n t)
is_octet n silence t = not_so t

-- a preamble in front
begun : (e : Event) (es : List Event) → both (is_oct 0x55 e) (starts 0xFF es) ≡ true → e ∷ es ≡ octet 0x55 ∷ octet 0xFF ∷ tail es
begun e [] t = not_so (both_right (is_oct 0x55 e) false t)
begun e (f ∷ es) t =
    ap₂ (λ (a b : Event). a ∷ b ∷ es) (is_octet 0x55 e (both_left (is_oct 0x55 e) (is_oct 0xFF f) t)) (is_octet 0xFF f (both_right (is_oct 0x55 e) (is_oct 0xFF f) t))

-- noise of no events; noise without its first event; noise with one event more in front
pub silent : NoPreamble []
silent [] rest e = impossible (cc)
silent (x ∷ front) rest e = impossible (cc)

shorter_noise : (e : Event) (n : List Event) → NoPreamble (e ∷ n) → NoPreamble n
shorter_noise e n np front rest same = np (e ∷ front) rest (ap (λ (l : List Event). e ∷ l) same)

longer_noise : (e : Event) (n es rest : List Event) → NoPreamble n → es ≡ n ++ (octet 0x55 ∷ octet 0xFF ∷ rest) → both (is_oct 0x55 e) (starts 0xFF es) ≡ false
    → NoPreamble (e ∷ n)
longer_noise e n es rest np stands t [] r same =
    let first : e ≡ octet 0x55 = cc in
    let next : n ≡ octet 0xFF ∷ r = cc in
    let all : es ≡ octet 0xFF ∷ (r ++ (octet 0x55 ∷ octet 0xFF ∷ rest)) = stands ∙ ap (λ (l : List Event). l ++ (octet 0x55 ∷ octet 0xFF ∷ rest)) next in
    let has : both (is_oct 0x55 e) (starts 0xFF es) ≡ true = ap₂ (λ (x : Event) (l : List Event). both (is_oct 0x55 x) (starts 0xFF l)) first all in
    impossible (cc)
longer_noise e n es rest np stands t (f ∷ front) r same = np front r (cc)

-- ---- what is found: a preamble behind noise; or there is none
pub data Finds (p : ℕ) : List Event → Found → Type 0 where
  finds : {es : List Event} {q : ℕ} (n rest : List Event) → NoPreamble n → es ≡ n ++ (octet 0x55 ∷ octet 0xFF ∷ rest) → q ≡ p + length n + 1
      → Finds p es (found q rest)
  lacks : {es : List Event} → Finds p es nothing

further : (p : ℕ) (e : Event) (es : List Event) {f : Found} → both (is_oct 0x55 e) (starts 0xFF es) ≡ false → Finds (p + 1) es f → Finds p (e ∷ es) f
further p e es t (finds {q = q} n rest np stands place) =
    finds {q = q} (e ∷ n) rest (longer_noise e n es rest np stands t) (ap (λ (l : List Event). e ∷ l) stands) (omega arith)
further p e es t lacks = lacks

pub find_view : (p : ℕ) (es : List Event) → Finds p es (find p es)
find_view p [] = lacks
find_view p (e ∷ es) =
    pick_cases (Finds p (e ∷ es)) (both (is_oct 0x55 e) (starts 0xFF es)) (λ t. finds {q = p + 1} [] (tail es) silent (begun e es t) (omega arith))
    (λ t. further p e es t (find_view (p + 1) es))

-- behind noise, the preamble that stands there is found
no_start : (e : Event) (n rest : List Event) → NoPreamble (e ∷ n) → both (is_oct 0x55 e) (starts 0xFF (n ++ (octet 0x55 ∷ octet 0xFF ∷ rest))) ≡ false
no_start e [] rest np = both_false (is_oct 0x55 e)
no_start e (f ∷ n) rest np = by_test (both (is_oct 0x55 e) (is_oct 0xFF f)) (λ t. absurd (np [] n (begun e (f ∷ n) t))) (λ t. t)

pub find_behind : (n rest : List Event) (p : ℕ) → NoPreamble n → find p (n ++ (octet 0x55 ∷ octet 0xFF ∷ rest)) ≡ found (p + length n + 1) rest
find_behind [] rest p np = ap (λ (q : ℕ). found q rest) (omega arith)
find_behind (e ∷ n) rest p np =
    rw (no_start e n rest np) (find_behind n rest (p + 1) (shorter_noise e n np) ∙ ap (λ (q : ℕ). found q rest) (omega arith))
