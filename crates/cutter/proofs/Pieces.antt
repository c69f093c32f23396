-- Octets laid piece by piece, and parameters taken part by part.
use Prim.Native.Nat.{ℕ, ◌+◌, ◌-◌, ◌*◌, ◌≤◌, min}
use native.Mathlib.Omega.{arith}
use native.Mathlib.Nat.{add-mul, one-mul}
use Rattle.std.specs.Prelude.{Result, Ok, Err, IsOk}
use mathlib.Core.Path.{◌≡◌, refl, sym, ◌∙◌}
use mathlib.Core.List.{List, [], ◌++◌, append_assoc, append-nil}
use lib.Dec.{ltb}
use lib.ListN.{length, take, drop, length-append, length-drop, drop_of_length-le}
use lib.Seq.{drop-drop, take_all, drop-length}
use borrow.Author.Tests.{le-ltb, ltb-true, ltb-false}
use Rattle.std.proofs.lemmas.List.{take_min}
use Rattle.octets.specs.Splice.{splice, splice_then, Put}
use Rattle.octets.specs.Choice.{by_test, impossible}
use Rattle.octets.specs.Laid.{Laid, answer_of, area_of}
use Rattle.octets.specs.Refusal.{numbered}
use Rattle.octets.specs.declared.refusal.Refusal.{Refusal}

-- what is written into the rest of an area, which holds it, lies at the place where the rest begins
module _ (out : List ℕ) (at : ℕ) {f : ℕ} {o later : List ℕ} (r : Result ℕ Refusal) (z : f ≡ 0) (h : at + length o ≤ length out)
    (l : Laid f o (take (length out - at) (drop at out)) (numbered r) later) where
  whole : take (length out - at) (drop at out) ≡ drop at out
  whole = take_all (length out - at) (drop at out) (rw length-drop (omega arith))

  room : length o ≤ length (drop at out)
  room = rw length-drop (omega arith)

  wrote : numbered r ≡ Ok (length o)
  unfolding answer_of
  wrote = l.answer ∙ rw (z, whole, le-ltb _ _ room)

  -- so it is not refused
  pub writes : IsOk r
  writes = found r wrote
    where
      found : (x : Result ℕ Refusal) → numbered x ≡ Ok (length o) → IsOk x
      found (Ok n) e = refl
      found (Err x) e = impossible (cc)

  pub put_laid : {n : ℕ} → r ≡ Ok n → Put out at o (at + n) (take at out ++ (later ++ drop (length out - at) (drop at out)))
  unfolding area_of splice
  put_laid {n} u =
      let w : Ok n ≡ Ok (length o) = rw u at wrote in
      let c : n ≡ length o = cc in
      let a : later ≡ o ++ drop (length o) (drop at out) = l.after ∙ rw (z, whole, le-ltb _ _ room) in
      let none : drop (length out - at) (drop at out) ≡ [] = drop_of_length-le (drop at out) {i = length out - at} (rw length-drop (omega arith)) in
      record { area = rw (none, append-nil, a, drop-drop) (sym (append_assoc (take at out) o (drop (at + length o) out))); after = rw c refl }

-- both headers and the part
pub put_three : {o₀ o₁ o₂ o₃ : List ℕ} {at p q : ℕ} (a b c : List ℕ) → at + length (a ++ (b ++ c)) ≤ length o₀ → Put o₀ at a p o₁ → Put o₁ p b q o₂ → o₃ ≡ splice o₂ q c → Put o₀ at (a ++ (b ++ c)) (q + length c) o₃
put_three {o₀} {o₁} {o₂} {o₃} {at} {p} {q} a b c h e₁ e₂ e₃ =
    let l : at + length a + length b + length c ≤ length o₀ = omega (arith, simp length-append at h) in
    let f : o₂ ≡ splice o₀ at (a ++ b) = splice_then o₀ at a b (omega arith) e₁.area (rw e₁.after at e₂.area) in
    let k : length (a ++ b) ≡ length a + length b = length-append a b in
    let s : q ≡ at + length (a ++ b) = omega (arith, e₁.after, e₂.after) in
    let g : o₃ ≡ splice o₀ at ((a ++ b) ++ c) = splice_then o₀ at (a ++ b) c (omega arith) f (rw s at e₃) in
    record { area = rw append_assoc at g; after = rw (length-append, length-append) (omega (arith, e₁.after, e₂.after)) }

-- as many as a part has from a place on, or the rest
pub part_taken : (each a m : ℕ) (params : List ℕ) → m ≡ min (length (take (length params - a) (drop a params))) each → take m (take (length params - a) (drop a params)) ≡ take each (drop a params)
part_taken each a m params e =
    let whole : take (length params - a) (drop a params) ≡ drop a params = take_all (length params - a) (drop a params) (rw length-drop (omega arith)) in
    let f : m ≡ min each (length (drop a params)) = omega (arith, rw whole at e) in
    rw (whole, f) (take_min each (drop a params))

-- a part from its place to its end, and what is left behind it
module _ (each from to : ℕ) (params : List ℕ) (h : from ≤ length params) (e : to ≡ from + min (length params - from) each) where
  pub end_range : (from ≤ to) × (to ≤ length params)
  end_range = (omega (arith, e), omega (arith, h, e))

  pub end_part : take (to - from) (drop from params) ≡ take each (drop from params)
  end_part =
      let whole : take (length params - from) (drop from params) ≡ drop from params = take_all (length params - from) (drop from params) (rw length-drop (omega arith)) in
      let m : to - from ≡ min (length (take (length params - from) (drop from params))) each = rw (whole, length-drop) (omega (arith, e)) in
      rw whole at (part_taken each from (to - from) params m)

  pub end_rest : (k : ℕ) → drop from params ≡ drop (k * each) params → drop to params ≡ drop ((k + 1) * each) params
  end_rest k d =
      let next : drop ((k + 1) * each) params ≡ drop (from + each) params =
      rw (add-mul k 1 each, one-mul, ← drop-drop each (k * each) params, ← d, drop-drop each from params) in
      by_test (ltb (length params - from) each)
      (λ q. let t : to ≡ length params = omega (arith, h, e, ltb-true (length params - from) each q) in
      rw (t, next) (drop-length params ∙ sym (drop_of_length-le params {i = from + each} (omega (arith, ltb-true (length params - from) each q)))))
      (λ q. let t : to ≡ from + each = omega (arith, e, ltb-false (length params - from) each q) in rw (t, next))
