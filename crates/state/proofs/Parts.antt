-- A part of an area, octet by octet, and parts put together again.
use Prim.Native.Nat.{ℕ, zero, suc, ◌+◌, ◌-◌, ◌*◌, ◌/◌, ◌%◌, ◌≤◌, ◌<◌}
use native.Mathlib.Omega.{arith}
use mathlib.Core.Path.{◌≡◌, refl, sym, ap, ◌∙◌}
use mathlib.Core.Bool.{Bool, true, false}
use mathlib.Core.List.{List, [], ◌∷◌, ◌++◌}
use lib.ListN.{length, take, drop, length-drop, take-append-drop}
use lib.Seq.{drop-cons, drop-drop, take-length, length-take-le}
use Rattle.octets.specs.Choice.{both}
use Rattle.octets.specs.Reading.{oct, Octets}

-- n octets from a place on
abbrev pub run : List ℕ → ℕ → ℕ → List ℕ
run s i zero = []
run s i (suc n) = oct s i ∷ run s (suc i) n

pub cut_run : (s : List ℕ) (n i : ℕ) → i + n ≤ length s → take n (drop i s) ≡ run s i n
cut_run s zero i h = refl
cut_run s (suc n) i h =
    let b : i < length s = omega arith in
    rw (drop-cons s i 0 b) (ap (λ (l : List ℕ). oct s i ∷ l) (cut_run s n (suc i) (omega arith)))

pub run_all : (s : List ℕ) (n : ℕ) → length s ≡ n → run s 0 n ≡ s
run_all s n h = sym (cut_run s n 0 (omega arith)) ∙ rw (← h) (take-length s)

pub cut_size : (n at : ℕ) (o : List ℕ) → at + n ≤ length o → length (take n (drop at o)) ≡ n
cut_size n at o h = length-take-le n (drop at o) (rw length-drop (omega arith))

-- a part that is cut out by place and end
pub cut_by : {A : Type 0} (f : List ℕ → A) (o : List ℕ) (n : ℕ) {x : A} {at at' : ℕ} → at ≡ at' → x ≡ f (take (at + n - at) (drop at o)) → x ≡ f (take n (drop at' o))
cut_by f o n {x} {at} {at'} p e =
    let m : at + n - at ≡ n = omega arith in
    rw (← p) (rw m at e)

-- a part, with what stands behind it
pub cut_then : (o : List ℕ) (at n next : ℕ) → at + n ≡ next → take n (drop at o) ++ drop next o ≡ drop at o
cut_then o at n next e =
    let d : drop n (drop at o) ≡ drop next o = drop-drop n at o ∙ ap (λ (k : ℕ). drop k o) e in
    rw (← d) (take-append-drop n (drop at o))

pub join : {a a' b b' : List ℕ} → a ≡ a' → b ≡ b' → a ++ b ≡ a' ++ b'
join p q = rw (p, q)

-- two octets of a number that was made of them
module _ (s : List ℕ) (os : Octets s) where
  pub high_octet : (i j : ℕ) → (oct s i * 256 + oct s j) / 256 ≡ oct s i
  high_octet i j = let h = os j in omega arith

  pub low_octet : (i j : ℕ) → (oct s i * 256 + oct s j) % 256 ≡ oct s j
  low_octet i j = let h = os j in omega arith

  pub pair_below : (i j : ℕ) → oct s i * 256 + oct s j < 65536
  pair_below i j = let h = os i in let k = os j in omega arith

-- tests made one after the other, until one fails: r is what a test says, and q what the rest does
pub both_on : (a b r q : Bool) → r ≡ a → r ≡ true → q ≡ b → q ≡ both a b
both_on a b r q e t h = rw (← e, t) h

pub both_off : (a b r : Bool) → r ≡ a → r ≡ false → false ≡ both a b
both_off a b r e f = rw (← e, f)

pub both_last : (a r : Bool) → r ≡ a → r ≡ both a true
both_last true r e = e
both_last false r e = e

-- for `search (rules, one_by_one)`
pub ruleset one_by_one = (both_on, both_off, both_last)
