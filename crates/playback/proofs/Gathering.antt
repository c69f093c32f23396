-- Octet records gathered one by one.
use Prim.Native.Nat.{ℕ, ◌+◌, ◌*◌, ◌-◌, ◌≤◌, ◌<◌}
use native.Mathlib.Omega.{arith}
use native.Mathlib.Numerals.{add-one}
use mathlib.Core.Path.{◌≡◌, refl, sym, ap, ◌∙◌}
use mathlib.Core.List.{List, [], ◌∷◌, ◌++◌, append_assoc}
use lib.ListN.{length, take, drop, set, length-set, length-drop}
use Rattle.std.proofs.lemmas.List.{get_or-drop}
use lib.Seq.{drop-cons, take-suc-set, length-take-le}
use Rattle.octets.specs.Reading.{oct}
use Rattle.runs.specs.Run.{octs}
use Rattle.collector.proofs.Content.{part_rest}
use Rattle.playback.specs.Layout.{record_size, record_octets}
use Rattle.playback.specs.Lent.{OctetFirst, Gathered}

-- the octet at a place and what follows it
next_there : (o : List ℕ) (at n : ℕ) → at < length o → at + 1 ≡ n → drop at o ≡ oct o at ∷ drop n o
next_there o at n h e = rw (← e, add-one) (drop-cons o at 0 h)

four_there : (o : List ℕ) (at : ℕ) → at + 4 ≤ length o → drop at o ≡ oct o at ∷ oct o (at + 1) ∷ oct o (at + 2) ∷ oct o (at + 3) ∷ drop (at + 4) o
four_there o at h =
    next_there o at (at + 1) (omega arith) refl
    ∙ ap (λ (x : List ℕ). oct o at ∷ x) (next_there o (at + 1) (at + 2) (omega arith) (omega arith)
    ∙ ap (λ (x : List ℕ). oct o (at + 1) ∷ x) (next_there o (at + 2) (at + 3) (omega arith) (omega arith)
    ∙ ap (λ (x : List ℕ). oct o (at + 2) ∷ x) (next_there o (at + 3) (at + 4) (omega arith) (omega arith))))

abbrev record_at : ℕ → List ℕ
record_at v = 0 ∷ v ∷ 0 ∷ 0 ∷ []

-- one octet more
one_more : (xs : List ℕ) (v : ℕ) → record_octets (octs (xs ++ (v ∷ []))) ≡ record_octets (octs xs) ++ record_at v
one_more [] v = refl
one_more (x ∷ xs) v = ap (λ (y : List ℕ). 0 ∷ x ∷ 0 ∷ 0 ∷ y) (one_more xs v)

module _ (o out : List ℕ) (n at : ℕ) (fits : n < length out) (there : at + 4 ≤ length o) (k : oct o at ≡ 0) (a : oct o (at + 2) ≡ 0) (b : oct o (at + 3) ≡ 0) where
  abbrev v : ℕ
  v = oct o (at + 1)

  record_there : drop at o ≡ record_at v ++ drop (at + 4) o
  record_there = rw (k, a, b) at (four_there o at there)

  front_more : o ≡ record_octets (octs (take n out)) ++ drop at o → o ≡ record_octets (octs (take (n + 1) (set out n v))) ++ drop (at + 4) o
  front_more h =
      let front = record_octets (octs (take n out)) in
      let t : take (n + 1) (set out n v) ≡ take n out ++ (v ∷ []) = rw (add-one n) (take-suc-set out n v fits) in
      let s : record_octets (octs (take (n + 1) (set out n v))) ≡ front ++ record_at v = ap (λ (xs : List ℕ). record_octets (octs xs)) t ∙ one_more (take n out) v in
      h ∙ ap (λ (x : List ℕ). front ++ x) record_there ∙ sym (append_assoc front (record_at v) (drop (at + 4) o)) ∙ ap (λ (x : List ℕ). x ++ drop (at + 4) o) (sym s)

pub gather_first : (o out : List ℕ) → OctetFirst o → 0 < length out → Gathered o (set out 0 (oct o 1)) 1
gather_first o out F l =
    record {
      some = omega arith;
      few = simp length-set (omega arith);
      within = omega (arith, F.whole);
      front = front_more o out 0 0 l F.whole F.kind F.third F.fourth refl;
    }

-- the octets behind those gathered, as the code lends them
abbrev left : List ℕ → ℕ → List ℕ
left o at = take (length o - at) (drop at o)

left_at : (o : List ℕ) (at i : ℕ) → oct (left o at) i ≡ oct o (at + i)
left_at o at i = ap (λ (s : List ℕ). oct s i) (part_rest o at) ∙ get_or-drop at o i 0

pub gather_more : (o out : List ℕ) (n : ℕ) → Gathered o out n → n < length out
    → (let s = left o (record_size * n) in 4 ≤ length s → oct s 0 ≡ 0 → oct s 2 ≡ 0 → oct s 3 ≡ 0 → Gathered o (set out n (oct s 1)) (n + 1))
gather_more o out n G l h k a b =
    let at = record_size * n in
    let r : length (drop at o) ≡ length o - at = length-drop at o in
    let m : 4 ≤ length (drop at o) = rw (part_rest o at) at h in
    let within : at + 4 ≤ length o = omega (arith, G.within) in
    let here : o ≡ record_octets (octs (take n out)) ++ drop at o = G.front in
    let z : at + 4 ≡ record_size * (n + 1) = omega arith in
    let e : at + 0 ≡ at = omega arith in
    let kind : oct o at ≡ 0 = sym (ap (oct o) e) ∙ sym (left_at o at 0) ∙ k in
    let third : oct o (at + 2) ≡ 0 = sym (left_at o at 2) ∙ a in
    let fourth : oct o (at + 3) ≡ 0 = sym (left_at o at 3) ∙ b in
    rw (left_at o at 1) (record {
      some = omega arith;
      few = simp length-set (omega arith);
      within = omega arith;
      front = rw z at (front_more o out n at l within kind third fourth here);
    })
