-- An address's octets are that address, and octets that are an address are its octets, in a part of an area as in the whole.
use Prim.Native.Nat.{ℕ, zero, suc, ◌+◌, ◌*◌, ◌≤◌, ◌<◌}
use native.Mathlib.Omega.{arith}
use mathlib.Core.Path.{◌≡◌, refl, sym, ap, ◌∙◌}
use mathlib.Core.Bool.{Bool, true, false}
use mathlib.Core.List.{List, [], ◌∷◌, ◌++◌}
use lib.Dec.{ltb, leb, lit<}
use lib.ListN.{length, take, drop, length-append}
use lib.Seq.{take_at, take-take, drop-drop, drop-append-add, get_or-take, get_or-drop, get_or-append-add}
use borrow.Author.Tests.{leb-true}
use Rattle.octets.specs.Every.{octets_part}
use Rattle.octets.specs.Reading.{oct, Octets}
use Rattle.octets.specs.Splice.{splice}
use Rattle.npdu.specs.Address.{absent, AddressFits}
use Rattle.npdu.specs.Layout.{zeros}
use Rattle.npdu.specs.declared.Address.{Address}
use Rattle.records.specs.Flag.{flag}
use Rattle.records.proofs.Areas.{two_laid}
use Rattle.records.proofs.Networks.{two_back}
use Rattle.state.specs.Slot.{address_size, number_octets, address_octets, address_at}
use Rattle.state.specs.Judging.{four_at}
use Rattle.state.proofs.Parts.{run, cut_run, cut_size, high_octet, low_octet, pair_below}
use Rattle.state.proofs.Fours.{four_same}

-- ---- a flag's octet is that flag, and an octet of at most 1 is its flag's
pub flag_back : (b : Bool) → (ltb 0 (flag b) ≡ b) × (leb (flag b) 1 ≡ true)
flag_back true = (refl, refl)
flag_back false = (refl, refl)

pub flag_stands : (b : ℕ) → leb b 1 ≡ true → flag (ltb 0 b) ≡ b
flag_stands zero h = refl
flag_stands (suc zero) h = refl
flag_stands (suc (suc b)) h = let z = leb-true (suc (suc b)) 1 h in absurd (omega arith)

pub address_size_lem : (a : Address) → length a.octets ≡ 7 → length (address_octets a) ≡ address_size
unfolding address_octets
address_size_lem a h = rw (length-append, h)

-- ---- the octets of an address, behind others and in front of others, are that address
module _ (p q : List ℕ) (at : ℕ) (place : length p ≡ at) where
  octet_behind : (k : ℕ) → oct (p ++ q) (at + k) ≡ oct q k
  octet_behind k = rw (← place) (get_or-append-add p q k 0)

  first_behind : oct (p ++ q) at ≡ oct q 0
  first_behind = let z : at + 0 ≡ at = omega arith in ap (oct (p ++ q)) (sym z) ∙ octet_behind 0

  address_behind : address_at (p ++ q) at ≡ address_at q 0
  unfolding address_at
  address_behind =
      let d : drop (at + 4) (p ++ q) ≡ drop 4 q = rw (← place) (drop-append-add p q 4) in
      rw (first_behind, octet_behind 1, octet_behind 2, octet_behind 3, d)

address_first : (a : Address) (q : List ℕ) → length a.octets ≡ 7 → address_at (address_octets a ++ q) 0 ≡ a
unfolding address_at address_octets
address_first a q seven = rw ((flag_back a.present).0, two_back a.network, take_at a.octets q 7 seven)

module _ (p : List ℕ) (a : Address) (q : List ℕ) (at : ℕ) (place : length p ≡ at) where
  pub address_back : length a.octets ≡ 7 → address_at (p ++ (address_octets a ++ q)) at ≡ a
  address_back seven = address_behind p (address_octets a ++ q) at place ∙ address_first a q seven

  pub address_good : leb (oct (p ++ (address_octets a ++ q)) at) 1 ≡ true
  unfolding address_octets
  address_good = rw (first_behind p (address_octets a ++ q) at place) (flag_back a.present).1

-- ---- octets that are an address are its octets, and it fits them
module _ (s : List ℕ) (os : Octets s) (at : ℕ) (there : at + address_size ≤ length s) where
  pub address_stands : leb (oct s at) 1 ≡ true → address_octets (address_at s at) ≡ run s at address_size
  unfolding address_octets address_at
  address_stands g =
      let e₁ : at + 1 ≡ suc at = omega arith in
      let e₂ : at + 2 ≡ suc (suc at) = omega arith in
      let e₃ : at + 3 ≡ suc (suc (suc at)) = omega arith in
      let e₄ : at + 4 ≡ suc (suc (suc (suc at))) = omega arith in
      rw (high_octet s os, low_octet s os, flag_stands (oct s at) g, cut_run s 7 (at + 4) (omega arith), e₁, e₂, e₃, e₄)

  pub address_fits : AddressFits (address_at s at)
  unfolding address_at
  address_fits =
      record {
        network_fits = pair_below s os (at + 1) (at + 2);
        length_fits = os (at + 3);
        octets_fit = octets_part s (at + 4) 7 os;
        seven = cut_size 7 (at + 4) s (omega arith);
      }

-- ---- octets that are all 0 are no address
pub run_zeros : (s : List ℕ) (i n : ℕ) → ((k : ℕ) → i ≤ k → k < i + n → oct s k ≡ 0) → run s i n ≡ zeros n
run_zeros s i zero z = refl
run_zeros s i (suc n) z = rw (z i (omega arith) (omega arith), run_zeros s (suc i) n (λ k a b. z k (omega arith) (omega arith)))

pub address_none : (s : List ℕ) (at : ℕ) → at + address_size ≤ length s → ((k : ℕ) → at ≤ k → k < at + address_size → oct s k ≡ 0) → address_at s at ≡ absent
unfolding address_at absent
address_none s at h z =
    rw (
      z at (omega arith) (omega arith),
      z (at + 1) (omega arith) (omega arith),
      z (at + 2) (omega arith) (omega arith),
      z (at + 3) (omega arith) (omega arith),
      cut_run s 7 (at + 4) (omega arith),
      run_zeros s (at + 4) 7 (λ k a b. z k (omega arith) (omega arith)),
    )

-- ---- an address in a part of m octets is the address in the whole
cut_within : (k n m : ℕ) (s : List ℕ) → k + n ≤ m → take n (drop k (take m s)) ≡ take n (drop k s)
cut_within zero n m s h = take-take n m s (omega arith)
cut_within (suc k) n zero s h = absurd (omega arith)
cut_within (suc k) n (suc m) [] h = refl
cut_within (suc k) n (suc m) (x ∷ s) h = cut_within k n m s (omega arith)

module _ (s : List ℕ) (at m k : ℕ) (inside : k + address_size ≤ m) where
  octet_within : (j : ℕ) → j < address_size → oct (take m (drop at s)) (k + j) ≡ oct s (at + k + j)
  octet_within j h =
      let e : at + (k + j) ≡ at + k + j = omega arith in
      get_or-take m (drop at s) (k + j) 0 (omega arith) ∙ get_or-drop at s (k + j) 0 ∙ ap (oct s) e

  pub address_within : address_at (take m (drop at s)) k ≡ address_at s (at + k)
  unfolding address_at
  address_within =
      let f : oct (take m (drop at s)) k ≡ oct s (at + k) = get_or-take m (drop at s) k 0 (omega arith) ∙ get_or-drop at s k 0 in
      let e : at + (k + 4) ≡ at + k + 4 = omega arith in
      let c : take 7 (drop (k + 4) (take m (drop at s))) ≡ take 7 (drop (at + k + 4) s) =
      cut_within (k + 4) 7 m (drop at s) (omega arith) ∙ ap (take 7) (drop-drop (k + 4) at s) ∙ ap (λ (p : ℕ). take 7 (drop p s)) e in
      rw (f, octet_within 1 (lit< tt), octet_within 2 (lit< tt), octet_within 3 (lit< tt), c)

-- ---- one address at two places has the same octets behind its first, and four of them are one number
module _ (s : List ℕ) (os : Octets s) (p q : ℕ) (one : address_at s p ≡ address_at s q) where
  network_same : oct s (p + 1) * 256 + oct s (p + 2) ≡ oct s (q + 1) * 256 + oct s (q + 2)
  unfolding address_at
  network_same = ap (λ (a : Address). a.network) one

  length_same : oct s (p + 3) ≡ oct s (q + 3)
  unfolding address_at
  length_same = ap (λ (a : Address). a.length) one

  octets_same : take 7 (drop (p + 4) s) ≡ take 7 (drop (q + 4) s)
  unfolding address_at
  octets_same = ap (λ (a : Address). a.octets) one

  octet_same : (j : ℕ) → j < 7 → oct s (p + 4 + j) ≡ oct s (q + 4 + j)
  octet_same j h =
      sym (get_or-take 7 (drop (p + 4) s) j 0 h ∙ get_or-drop (p + 4) s j 0)
      ∙ ap (λ (l : List ℕ). oct l j) octets_same ∙ get_or-take 7 (drop (q + 4) s) j 0 h ∙ get_or-drop (q + 4) s j 0

  behind_same : (k : ℕ) → 1 ≤ k → k < address_size → oct s (p + k) ≡ oct s (q + k)
  behind_same zero l h = absurd (omega arith)
  behind_same (suc zero) l h = let e = network_same in let a = os (p + 2) in let b = os (q + 2) in omega arith
  behind_same (suc (suc zero)) l h = let e = network_same in let a = os (p + 2) in let b = os (q + 2) in omega arith
  behind_same (suc (suc (suc zero))) l h = length_same
  behind_same (suc (suc (suc (suc j)))) l h =
      let a : p + suc (suc (suc (suc j))) ≡ p + 4 + j = omega arith in
      let b : q + suc (suc (suc (suc j))) ≡ q + 4 + j = omega arith in
      rw (a, b) (octet_same j (omega arith))

  four_behind : (m : ℕ) → 1 ≤ m → m + 4 ≤ address_size → four_at s (p + m) ≡ four_at s (q + m)
  four_behind m l h =
      four_same s (p + m) (q + m) (λ k n.
      let x : p + m + k ≡ p + (m + k) = omega arith in
      let y : q + m + k ≡ q + (m + k) = omega arith in
      rw (x, y) (behind_same (m + k) (omega arith) (omega arith)))

-- so two that differ in such a number, x and y, are two; ten octets in three numbers, of which the last two overlap
module _ (s : List ℕ) (os : Octets s) (p q x y : ℕ) (n : x ≡ y → ⊥) where
  pub other_1 : x ≡ four_at s (p + 1) → y ≡ four_at s (q + 1) → address_at s p ≡ address_at s q → ⊥
  other_1 e d one = let f = four_behind s os p q one 1 (omega arith) (omega arith) in n (cc)

  pub other_5 : x ≡ four_at s (p + 5) → y ≡ four_at s (q + 5) → address_at s p ≡ address_at s q → ⊥
  other_5 e d one = let f = four_behind s os p q one 5 (omega arith) (omega arith) in n (cc)

  pub other_7 : x ≡ four_at s (p + 7) → y ≡ four_at s (q + 7) → address_at s p ≡ address_at s q → ⊥
  other_7 e d one = let f = four_behind s os p q one 7 (omega arith) (omega arith) in n (cc)

-- for `search (rules, address_ways)`
pub ruleset address_ways = (other_1, other_5, other_7)

-- ---- its parts, laid one after the other
pub address_laid : (area n : List ℕ) (a : Address) (at : ℕ) {l₁ l₂ : List ℕ} → at + address_size ≤ length area → length a.octets ≡ 7 → n ≡ number_octets a
    → l₁ ≡ splice area at n → l₂ ≡ splice l₁ (at + 4) a.octets → l₂ ≡ splice area at (address_octets a)
unfolding address_octets
address_laid area n a at h seven q e₁ e₂ = two_laid area at (at + 4) (number_octets a) a.octets (rw q at e₁) e₂ refl (omega arith)
