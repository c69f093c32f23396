-- Octets that are an address which a part of a header gives, asked where they stand: an absent one, all 0, and one that keeps the part's rules, 0 past its length.
use Prim.Native.Nat.{ℕ, ◌+◌, ◌-◌, ◌*◌, ◌≤◌, ◌<◌}
use native.Mathlib.Omega.{arith}
use mathlib.Core.Path.{◌≡◌, refl, sym, ap, ◌∙◌}
use mathlib.Core.Bool.{true, false}
use mathlib.Core.List.{List}
use lib.Bits.{bit_or}
use lib.Dec.{eqb, ltb}
use lib.ListN.{length, take, drop, get_or, length-drop, take-append-drop}
use lib.Seq.{get_or-take, get_or-drop, take_all, length-take-le}
use borrow.Author.Tests.{lt-ltb, ltb-true, ltb-false, eqb-true, eqb-false}
use Rattle.std.specs.List.{list_all}
use Rattle.std.proofs.lemmas.List.Elements.{All-get_or}
use Rattle.std.proofs.lemmas.List.Sums.{AllPass-from_list_all}
use Rattle.octets.specs.Choice.{given, not_so, by_test}
use Rattle.octets.specs.Reading.{oct}
use Rattle.npdu.specs.Address.{absent, part_address, gives}
use Rattle.npdu.specs.Layout.{zeros, cut}
use Rattle.npdu.specs.Valid.{PartValid}
use Rattle.npdu.proofs.AddressLaws.{part_gives}
use Rattle.state.specs.Slot.{address_size, address_at}
use Rattle.state.specs.Judging.{four_at}
use Rattle.state.proofs.Parts.{cut_run, cut_size}
use Rattle.state.proofs.Fours.{or_zero_lem, four_zeros}
use Rattle.state.proofs.Address.{run_zeros, address_none}

-- ---- the address octets past the length, up to number i, are 0
abbrev pub Past : List ℕ → ℕ → ℕ → ℕ → Type 0
Past s at len i = (k : ℕ) → len ≤ k → k < i → oct s (at + 4 + k) ≡ 0

-- all of them, asked at once; l is the length
pub past_rest : (s : List ℕ) (at len l : ℕ) → at + 11 ≤ length s → l ≡ len → list_all (λ (x : ℕ). eqb x 0) (take (at + 11 - (at + 4 + l)) (drop (at + 4 + l) s)) ≡ true → Past s at len 7
past_rest s at len l h e z k a b =
    let r = drop (at + 4 + l) s in
    let n = at + 11 - (at + 4 + l) in
    let i = k - len in
    let j : i < n = omega arith in
    let t : length (take n r) ≡ n = length-take-le n r (rw length-drop (omega arith)) in
    let p : eqb (get_or (take n r) i 0) 0 ≡ true = All-get_or (λ (x : ℕ). eqb x 0 ≡ true) (take n r) i 0 (rw t j) (AllPass-from_list_all (λ (x : ℕ). eqb x 0) (take n r) z) in
    let q : at + 4 + l + i ≡ at + 4 + k = omega arith in
    sym (get_or-take n r i 0 j ∙ get_or-drop (at + 4 + l) s i 0 ∙ ap (oct s) q) ∙ eqb-true _ 0 p

-- those past the first, in two numbers that overlap
pub past_one : (s : List ℕ) (at x y : ℕ) → x ≡ four_at s (at + 5) → y ≡ four_at s (at + 7) → bit_or x y ≡ 0 → Past s at 1 7
past_one s at x y e d z k a b =
    let o = or_zero_lem x y z in
    by_test (ltb k 5)
    (λ t. four_zeros s (at + 5) (sym e ∙ o.0) (at + 4 + k) (omega arith) (omega (arith, ltb-true k 5 t)))
    (λ f. four_zeros s (at + 7) (sym d ∙ o.1) (at + 4 + k) (omega (arith, ltb-false k 5 f)) (omega arith))

-- seven octets that are 0 past a length are as a reading shows them
cut_stays : (x : List ℕ) (len : ℕ) → length x ≡ 7 → len ≤ 7 → ((k : ℕ) → len ≤ k → k < 7 → oct x k ≡ 0) → cut len x ≡ x
unfolding cut
cut_stays x len seven h z =
    let n : length (drop len x) ≤ 7 - len = rw length-drop (omega arith) in
    let e : drop len x ≡ zeros (7 - len) =
    sym (take_all (7 - len) (drop len x) n) ∙ cut_run x (7 - len) len (omega arith) ∙ run_zeros x len (7 - len) (λ k a b. z k a (omega arith)) in
    rw (← e) (take-append-drop len x)

-- ---- the address at a place, and a part with a least length and a greatest network number
module _ (s : List ℕ) (at low top : ℕ) (there : at + address_size ≤ length s) where
  -- none: its eleven octets are 0
  absent_gives : gives low top absent ≡ true
  unfolding part_address given
  absent_gives = part_gives low top false 0 0 (zeros 7) (λ z. not_so z) refl

  -- its ten octets behind the first in three numbers, of which the last two overlap
  pub given_none : oct s at ≡ 0 → (x y z : ℕ) → x ≡ four_at s (at + 1) → y ≡ four_at s (at + 5) → z ≡ four_at s (at + 7) → bit_or (bit_or x y) z ≡ 0
      → gives low top (address_at s at) ≡ true
  given_none f x y z ex ey ez e = rw (address_none s at there each) absent_gives
    where
      u : (bit_or x y ≡ 0) × (z ≡ 0)
      u = or_zero_lem _ _ e

      v : (x ≡ 0) × (y ≡ 0)
      v = or_zero_lem _ _ u.0

      each : (k : ℕ) → at ≤ k → k < at + address_size → oct s k ≡ 0
      each k l h =
          by_test (eqb k at) (λ t. rw (eqb-true k at t) f) (λ n.
          by_test (ltb k (at + 5)) (λ t. four_zeros s (at + 1) (sym ex ∙ v.0) k (omega (arith, eqb-false k at n)) (omega (arith, ltb-true k (at + 5) t))) (λ m.
          by_test (ltb k (at + 9)) (λ t. four_zeros s (at + 5) (sym ey ∙ v.1) k (omega (arith, ltb-false k (at + 5) m)) (omega (arith, ltb-true k (at + 9) t)))
          (λ o. four_zeros s (at + 7) (sym ez ∙ u.1) k (omega (arith, ltb-false k (at + 9) o)) (omega arith))))

  -- one that is there
  pub given_there : (oct s at ≡ 0 → ⊥) → PartValid (oct s (at + 1) * 256 + oct s (at + 2)) (oct s (at + 3)) low top → Past s at (oct s (at + 3)) 7
      → gives low top (address_at s at) ≡ true
  unfolding address_at part_address given
  given_there n v p =
      let u : 0 < oct s at = omega arith in
      let x = take 7 (drop (at + 4) s) in
      let z : (k : ℕ) → oct s (at + 3) ≤ k → k < 7 → oct x k ≡ 0 = λ k a b. get_or-take 7 (drop (at + 4) s) k 0 b ∙ get_or-drop (at + 4) s k 0 ∙ p k a b in
      let c = cut_stays x (oct s (at + 3)) (cut_size 7 (at + 4) s (omega arith)) v.len_range z in
      rw (lt-ltb 0 (oct s at) u) (part_gives low top true (oct s (at + 1) * 256 + oct s (at + 2)) (oct s (at + 3)) x (λ _. v) c)
