-- Arrays filled from an area, and areas filled part by part.
use Prim.Native.Nat.{ℕ, ◌+◌, ◌-◌, ◌≤◌}
use native.Mathlib.Omega.{arith}
use mathlib.Core.Path.{◌≡◌, sym, ◌∙◌}
use mathlib.Core.List.{List, ◌++◌, append_assoc}
use lib.ListN.{length, take, drop, length-append, length-drop}
use lib.Seq.{length-take-le}
use Rattle.octets.specs.Splice.{splice, splice_whole, splice_then}

-- octets laid over as many are all there is
pub laid_whole : (a s later : List ℕ) → length a ≡ length s → later ≡ splice a 0 s → later ≡ s
laid_whole a s later h e = e ∙ splice_whole a s h

-- a part of an area, copied into an array of its size
pub copied : (n at : ℕ) (a o later : List ℕ) → later ≡ splice a 0 (take n (drop at o)) → length a ≡ n → at + n ≤ length o → later ≡ take n (drop at o)
copied n at a o later e h k =
    let l : length (take n (drop at o)) ≡ n = length-take-le n (drop at o) (rw length-drop (omega arith)) in
    laid_whole a (take n (drop at o)) later (h ∙ sym l) e

-- the same by the part's end
pub copied_to : (at end n : ℕ) (a o later : List ℕ) → later ≡ splice a 0 (take (end - at) (drop at o)) → end - at ≡ n → length a ≡ n → at + n ≤ length o → later ≡ take n (drop at o)
copied_to at end n a o later e m h k = copied n at a o later (rw m at e) h k

-- two, three and four parts, one right after the other
pub two_laid : (area : List ℕ) {l₁ l₂ : List ℕ} (at₁ at₂ : ℕ) (a b : List ℕ) → l₁ ≡ splice area at₁ a → l₂ ≡ splice l₁ at₂ b → at₁ + length a ≡ at₂ → at₂ + length b ≤ length area → l₂ ≡ splice area at₁ (a ++ b)
two_laid area at₁ at₂ a b e₁ e₂ p h = splice_then area at₁ a b (omega arith) e₁ (rw p e₂)

pub three_laid : (area : List ℕ) {l₁ l₂ l₃ : List ℕ} (at₁ at₂ at₃ : ℕ) (a b c : List ℕ)
    → l₁ ≡ splice area at₁ a → l₂ ≡ splice l₁ at₂ b → l₃ ≡ splice l₂ at₃ c
    → at₁ + length a ≡ at₂ → at₂ + length b ≡ at₃ → at₃ + length c ≤ length area
    → l₃ ≡ splice area at₁ (a ++ (b ++ c))
three_laid area {l₁} {l₂} {l₃} at₁ at₂ at₃ a b c e₁ e₂ e₃ p q h =
    let ab : at₁ + length (a ++ b) ≡ at₃ = rw length-append (omega arith) in
    let s₂ : l₂ ≡ splice area at₁ (a ++ b) = two_laid area at₁ at₂ a b e₁ e₂ p (omega arith) in
    let s₃ : l₃ ≡ splice area at₁ ((a ++ b) ++ c) = two_laid area at₁ at₃ (a ++ b) c s₂ e₃ ab h in
    s₃ ∙ simp append_assoc

pub four_laid : (area : List ℕ) {l₁ l₂ l₃ l₄ : List ℕ} (at₁ at₂ at₃ at₄ : ℕ) (a b c d : List ℕ)
    → l₁ ≡ splice area at₁ a → l₂ ≡ splice l₁ at₂ b → l₃ ≡ splice l₂ at₃ c → l₄ ≡ splice l₃ at₄ d
    → at₁ + length a ≡ at₂ → at₂ + length b ≡ at₃ → at₃ + length c ≡ at₄ → at₄ + length d ≤ length area
    → l₄ ≡ splice area at₁ (a ++ (b ++ (c ++ d)))
four_laid area {l₁} {l₂} {l₃} {l₄} at₁ at₂ at₃ at₄ a b c d e₁ e₂ e₃ e₄ p q r h =
    let abc : at₁ + length (a ++ (b ++ c)) ≡ at₄ = rw (length-append, length-append) (omega arith) in
    let s₃ : l₃ ≡ splice area at₁ (a ++ (b ++ c)) = three_laid area at₁ at₂ at₃ a b c e₁ e₂ e₃ p q (omega arith) in
    let s₄ : l₄ ≡ splice area at₁ ((a ++ (b ++ c)) ++ d) = two_laid area at₁ at₄ (a ++ (b ++ c)) d s₃ e₄ abc h in
    s₄ ∙ simp append_assoc
