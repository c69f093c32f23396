-- A number and a length are read exactly where their octets stand.
use Prim.Native.Nat.{ℕ, ◌+◌, ◌-◌, ◌*◌, ◌/◌, ◌%◌, ◌≤◌, ◌<◌}
use native.Mathlib.Omega.{arith}
use mathlib.Core.Path.{◌≡◌, refl}
use mathlib.Core.List.{List, [], ◌∷◌}
use mathlib.Core.Bool.{true, false}
use lib.ListN.{length}
use lib.Dec.{ltb, leb, eqb}
use borrow.Author.Tests.{ltb-true, ltb-false, leb-false, eqb-true, le-ltb, lt-leb}
use Rattle.octets.specs.Choice.{pick_cases, by_test}
use Rattle.octets.specs.Reading.{oct, be16, Octets}
use Rattle.octets.specs.Has.{Has}
use Rattle.tags.specs.Types.{longest}
use Rattle.tags.specs.Reading.{number_at, two_at, four_at, length_at}
use Rattle.tags.specs.Layout.{high_bits, number_octets, low_bits, length_octets}
use Rattle.tags.specs.Head.{Field}
use Rattle.tags.specs.Head.Field.{Is, Bad}

-- the tag octet at a place holds the number n, with the octet after it where it needs one; q is the place after both
pub record NumberHas (s : List ℕ) (at n q : ℕ) : Type 0 where
  pub here : at < length s
  pub small : n ≤ 254
  pub high : oct s at / 16 ≡ high_bits n
  pub octets : Has s (at + 1) (number_octets n)
  pub after : q ≡ at + 1 + length (number_octets n)

-- length bits l, and octets at a place, hold the length v; q is the place after them
pub record LengthHas (s : List ℕ) (at l v q : ℕ) : Type 0 where
  pub small : v ≤ longest
  pub low : l ≡ low_bits v
  pub octets : Has s at (length_octets v)
  pub after : q ≡ at + length (length_octets v)

-- a field that is good stands in its octets
abbrev pub NumberStands : List ℕ → ℕ → Field → Type 0
NumberStands s at (Is n q) = NumberHas s at n q
NumberStands s at (Bad x) = Unit {0}

abbrev pub LengthStands : List ℕ → ℕ → ℕ → Field → Type 0
LengthStands s at l (Is v q) = LengthHas s at l v q
LengthStands s at l (Bad x) = Unit {0}

pub number_complete : (s : List ℕ) (at n q : ℕ) → NumberHas s at n q → number_at s at ≡ Is n q
unfolding number_at high_bits number_octets
number_complete s at n q w =
    by_test (ltb n 15)
    (λ h.
    let e : oct s at / 16 ≡ n = rw h at w.high in
    let d : q ≡ at + 1 = omega (arith, rw h at w.after) in
    rw (lt-leb (length s) at w.here, e, h, d))
    (λ h.
    let e : oct s at / 16 ≡ 15 = rw h at w.high in
    let f : Has s (at + 1) (n ∷ []) = rw h at w.octets in
    let d : q ≡ at + 2 = omega (arith, rw h at w.after) in
    rw (lt-leb (length s) at w.here, e, lt-leb (length s) (at + 1) f.0, f.1, h, le-ltb 254 n w.small, d))

pub number_sound : (s : List ℕ) → Octets s → (at : ℕ) → NumberStands s at (number_at s at)
unfolding number_at high_bits number_octets
number_sound s os at =
    pick_cases P (leb (length s) at) (λ _. tt) (λ h.
    pick_cases P (ltb (oct s at / 16) 15)
    (λ h1. record { here = omega (arith, leb-false); small = omega (arith, ltb-true); high = rw h1; octets = rw h1 (omega (arith, leb-false)); after = rw h1 (omega arith) }) (λ h1.
    pick_cases P (leb (length s) (at + 1)) (λ _. tt) (λ h2.
    pick_cases P (ltb (oct s (at + 1)) 15) (λ _. tt) (λ h3.
    pick_cases P (ltb 254 (oct s (at + 1))) (λ _. tt) (λ h4.
    record {
      here = omega (arith, leb-false);
      small = omega (arith, ltb-false);
      high = rw h3 (omega (arith, ltb-false, os at));
      octets = rw h3 (omega (arith, leb-false), refl, omega (arith, leb-false));
      after = rw h3 (omega arith);
    })))))
  where
    P : Field → Type 0
    P = NumberStands s at

pub length_complete : (s : List ℕ) (at l v q : ℕ) → LengthHas s at l v q → length_at s at l ≡ Is v q
unfolding length_at two_at low_bits length_octets
length_complete s at l v q w =
    by_test (ltb v 5)
    (λ h.
    let e : l ≡ v = rw h at w.low in
    let d : q ≡ at = omega (arith, rw h at w.after) in
    rw (e, h, d))
    (λ h.
    let e : l ≡ 5 = rw h at w.low in
    by_test (ltb v 254)
    (λ h2.
    let f : Has s at (v ∷ []) = rw (h, h2) at w.octets in
    let d : q ≡ at + 1 = omega (arith, rw (h, h2) at w.after) in
    rw (e, lt-leb (length s) at f.0, f.1, h, h2, d))
    (λ h2.
    let f : Has s at (254 ∷ v / 256 ∷ v % 256 ∷ []) = rw (h, h2) at w.octets in
    let d : q ≡ at + 1 + 2 = omega (arith, rw (h, h2) at w.after) in
    let g : v / 256 * 256 + v % 256 ≡ v = omega arith in
    rw (e, lt-leb (length s) at f.0, f.1, lt-leb (length s) (at + 1) f.2.0, lt-leb (length s) (at + 1 + 1) f.2.2.0, f.2.1, f.2.2.1, g, h2, le-ltb longest v w.small, d)))

-- after the length bits 5: one octet, two after 254, never four
module _ (s : List ℕ) (os : Octets s) (at : ℕ) (here : at < length s) where
  abbrev P : Field → Type 0
  P = LengthStands s at 5

  one_sound : ltb (oct s at) 5 ≡ false → ltb (oct s at) 254 ≡ true → P (Is (oct s at) (at + 1))
  unfolding low_bits length_octets
  one_sound h k = record { small = omega (arith, ltb-true); low = rw h; octets = rw (h, k) (here, refl, omega arith); after = rw (h, k) }

  two_sound : oct s at ≡ 254 → P (two_at s (at + 1))
  unfolding two_at low_bits length_octets
  two_sound e =
      pick_cases P (leb (length s) (at + 1)) (λ _. tt) (λ h.
      pick_cases P (leb (length s) (at + 1 + 1)) (λ _. tt) (λ h2.
      pick_cases P (ltb (be16 s (at + 1)) 254) (λ _. tt) (λ h3.
      pick_cases P (ltb longest (be16 s (at + 1))) (λ _. tt) (λ h4.
      let b : ltb (be16 s (at + 1)) 5 ≡ false = le-ltb (be16 s (at + 1)) 5 (omega (arith, ltb-false)) in
      record {
        small = omega (arith, ltb-false);
        low = rw b;
        octets = rw (b, h3) (here, e, (omega (arith, leb-false), omega (arith, os (at + 1 + 1)), (omega (arith, leb-false), omega (arith, os (at + 1 + 1)), omega (arith, leb-false))));
        after = rw (b, h3) (omega arith);
      }))))

  four_sound : P (four_at s (at + 1))
  unfolding four_at
  four_sound =
      pick_cases P (leb (length s) (at + 1)) (λ _. tt) (λ _.
      pick_cases P (ltb (length s - (at + 1)) 4) (λ _. tt) (λ _.
      pick_cases P (eqb (be16 s (at + 1)) 0) (λ _. tt) (λ _. tt)))

  long_sound : P (length_at s at 5)
  unfolding length_at
  long_sound =
      pick_cases P (leb (length s) at) (λ _. tt) (λ _.
      pick_cases P (ltb (oct s at) 5) (λ _. tt) (λ h.
      pick_cases P (ltb (oct s at) 254) (λ k. one_sound h k) (λ _.
      pick_cases P (eqb (oct s at) 254) (λ e. two_sound (eqb-true (oct s at) 254 e)) (λ _. four_sound))))

pub length_sound : (s : List ℕ) → Octets s → (at l : ℕ) → at ≤ length s → l < 6 → LengthStands s at l (length_at s at l)
unfolding length_at low_bits length_octets
length_sound s os at l w small =
    by_test (ltb l 5)
    (λ h. rw h (record { small = omega (arith, ltb-true); low = rw h; octets = rw h w; after = rw h (omega arith) })) (λ h.
    let e : l ≡ 5 = omega (arith, ltb-false l 5 h) in
    by_test (leb (length s) at) (λ k. rw (e, k) tt) (λ k. rw e (long_sound s os at (leb-false (length s) at k))))
