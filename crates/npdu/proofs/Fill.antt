-- An address copied to the front of seven zeros.
use Prim.Native.Nat.{ℕ, zero, suc, ◌+◌, ◌-◌, ◌≤◌}
use native.Mathlib.Omega.{arith}
use mathlib.Core.List.{List}
use mathlib.Core.Path.{◌≡◌, ap, ◌∙◌}
use lib.ListN.{length, take, drop, length-drop}
use lib.Seq.{length-take-le}
use Rattle.octets.specs.Splice.{splice, splice_front}
use Rattle.npdu.specs.Layout.{zeros, cut}
use Rattle.npdu.specs.Reading.{address_of}

drop_zeros : (n k : ℕ) → drop n (zeros k) ≡ zeros (k - n)
drop_zeros zero k = let e : k ≡ k - 0 = omega arith in ap zeros e
drop_zeros (suc n) zero = let e : 0 ≡ 0 - suc n = omega arith in ap zeros e
drop_zeros (suc n) (suc k) = let e : k - n ≡ suc k - suc n = omega arith in drop_zeros n k ∙ ap zeros e

pub filled : (s a : List ℕ) (at n : ℕ) → at + n ≤ length s → a ≡ splice (zeros 7) 0 (take (at + n - at) (drop at s)) → a ≡ address_of s at n
unfolding address_of cut
filled s a at n h e =
    let m : at + n - at ≡ n = omega arith in
    let l : length (take n (drop at s)) ≡ n = length-take-le n (drop at s) (rw length-drop (omega arith)) in
    let f : drop (length (take n (drop at s))) (zeros 7) ≡ zeros (7 - n) = rw l (drop_zeros n 7) in
    e ∙ rw m (splice_front (zeros 7) (take n (drop at s)) ∙ rw f)
