-- The contents: what their octets say, by the words of the rows.
use Prim.Native.Nat.{ℕ, ◌+◌, ◌-◌, ◌≤◌, ◌<◌}
use native.Mathlib.Omega.{arith}
use mathlib.Core.Path.{◌≡◌, refl}
use mathlib.Core.Logic.{◌⊎◌, inl, inr}
use mathlib.Core.List.{List}
use mathlib.Core.Bool.{Bool, true}
use lib.ListN.{length}
use lib.Dec.{ltb, leb, eqb}
use borrow.Author.Tests.{ltb-true, ltb-false, leb-true, leb-false, eqb-true, eqb-false, lt-ltb, le-ltb, lt-leb, le-leb, ne_eqb}
use Rattle.octets.specs.Choice.{pick, pick_cases, by_test, not_so}
use Rattle.octets.specs.Reading.{oct}
use Rattle.tags.specs.Types.{least}
use Rattle.tags.specs.Reading.{first_content, whole_at, sign_bad, signed_at, contents_at}
use Rattle.tags.specs.Rows.{Broken}
use Rattle.tags.specs.Rows.Broken.{leading_zero, sign_again, unknown_set, unused_over, unused_alone}
use Rattle.tags.proofs.Bounds.{contents_in}

-- ---- the contents
pub data ContentsSay (s : List ℕ) (q n v x : ℕ) : Type 0 where
  contents_good : x ≡ 0 → ContentsSay s q n v x
  contents_missing : x ≡ 30 → length s < q + v → ContentsSay s q n v x
  contents_broken : x ≡ 34 → Broken s q n v → ContentsSay s q n v x

sign_so : (a b : ℕ) → sign_bad a b ≡ true → ((a ≡ 0) × (b < 128)) ⊎ ((a ≡ 255) × (128 ≤ b))
unfolding sign_bad
sign_so a b =
    pick_cases S (eqb a 0) (λ e h. inl (eqb-true a 0 e, ltb-true b 128 h)) (λ e.
    pick_cases S (eqb a 255) (λ d h. inr (eqb-true a 255 d, leb-true 128 b h)) (λ d h. not_so h))
  where
    S : Bool → Type 0
    S x = x ≡ true → ((a ≡ 0) × (b < 128)) ⊎ ((a ≡ 255) × (128 ≤ b))

so_sign : (a b : ℕ) → ((a ≡ 0) × (b < 128)) ⊎ ((a ≡ 255) × (128 ≤ b)) → sign_bad a b ≡ true
unfolding sign_bad
so_sign a b (inl h) = rw (h.0, lt-ltb b 128 h.1)
so_sign a b (inr h) = rw (h.0, le-leb 128 b h.1)

module _ (s : List ℕ) (q n v : ℕ) (within : q ≤ length s) where
  abbrev C : ℕ → Type 0
  C = ContentsSay s q n v

  whole_says : C (whole_at s q v)
  unfolding whole_at
  whole_says = pick_cases C (ltb (length s - q) v) (λ h. contents_missing refl (omega (arith, ltb-true (length s - q) v h))) (λ _. contents_good refl)

  -- what the first octet breaks
  abbrev B : ℕ → Type 0
  B x = ltb 0 x ≡ true → C x

  broken : Broken s q n v → B 34
  broken w _ = contents_broken refl w

  fine : B 0
  fine _ = contents_good refl

  first_breaks : q < length s → B (first_content n v (oct s q))
  unfolding first_content
  first_breaks here =
      pick_cases B (eqb n 7) (λ e. pick_cases B (ltb 5 (oct s q)) (λ h. broken (unknown_set (eqb-true n 7 e) here (ltb-true 5 (oct s q) h))) (λ _. fine)) (λ _.
      pick_cases B (eqb n 8)
      (λ e. pick_cases B (ltb 7 (oct s q)) (λ h. broken (unused_over (eqb-true n 8 e) here (ltb-true 7 (oct s q) h))) (λ _.
      pick_cases B (eqb v 1)
      (λ d. pick_cases B (ltb 0 (oct s q)) (λ h. broken (unused_alone (eqb-true n 8 e) (eqb-true v 1 d) here (ltb-true 0 (oct s q) h))) (λ _. fine)) (λ _. fine))) (λ _.
      pick_cases B (eqb (oct s q) 0)
      (λ z. pick_cases B (ltb 1 v)
      (λ h. pick_cases B (eqb n 2) (λ e. broken (leading_zero (inl (eqb-true n 2 e)) (ltb-true 1 v h) here (eqb-true (oct s q) 0 z))) (λ _.
      pick_cases B (eqb n 9) (λ e. broken (leading_zero (inr (eqb-true n 9 e)) (ltb-true 1 v h) here (eqb-true (oct s q) 0 z))) (λ _. fine)))
      (λ _. fine)) (λ _. fine)))

  signed_says : n ≡ 3 → C (signed_at s q v)
  unfolding signed_at
  signed_says three =
      pick_cases C (ltb v 2) (λ _. whole_says) (λ h0.
      let two : 2 ≤ v = ltb-false v 2 h0 in
      pick_cases C (leb (length s) (q + 1)) (λ h. contents_missing refl (omega (arith, leb-true (length s) (q + 1) h))) (λ h1.
      pick_cases C (sign_bad (oct s q) (oct s (q + 1)))
      (λ h. contents_broken refl (sign_again three two (leb-false (length s) (q + 1) h1) (sign_so (oct s q) (oct s (q + 1)) h))) (λ _. whole_says)))

  pub contents_say : C (contents_at s q n v)
  unfolding contents_at
  contents_say =
      pick_cases C (eqb v 0) (λ _. contents_good refl) (λ h0.
      pick_cases C (leb (length s) q) (λ h. contents_missing refl (omega (arith, eqb-false v 0 h0, leb-true (length s) q h))) (λ h1.
      let here : q < length s = leb-false (length s) q h1 in
      pick_cases C (ltb 0 (first_content n v (oct s q))) (λ h. first_breaks here h) (λ _.
      pick_cases C (eqb n 3) (λ e. signed_says (eqb-true n 3 e)) (λ _. whole_says))))

-- the octet that decides: 34 whatever follows it
pub broken_is : (s : List ℕ) (q n v : ℕ) → least n ≤ v → Broken s q n v → contents_at s q n v ≡ 34
unfolding contents_at first_content signed_at least
broken_is s q n v low (leading_zero (inl e) two here z) = rw (e, ne_eqb v 0 (omega arith), lt-leb (length s) q here, z, lt-ltb 1 v two)
broken_is s q n v low (leading_zero (inr e) two here z) = rw (e, ne_eqb v 0 (omega arith), lt-leb (length s) q here, z, lt-ltb 1 v two)
broken_is s q n v low (sign_again e two next h) =
    let sign : sign_bad (oct s q) (oct s (q + 1)) ≡ true = so_sign (oct s q) (oct s (q + 1)) h in
    rw (e, ne_eqb v 0 (omega arith), lt-leb (length s) q (omega arith), le-ltb v 2 two, lt-leb (length s) (q + 1) next, sign, pick_none)
  where
    pick_none : ◌≡◌ {A = ℕ} (pick (eqb (oct s q) 0) (pick (ltb 1 v) 0 0) 0) 0
    pick_none = by_test (eqb (oct s q) 0) (λ d. rw d (by_test (ltb 1 v) (λ f. rw f) (λ f. rw f))) (λ d. rw d)
broken_is s q n v low (unknown_set e here h) = let one : 1 ≤ v = rw e at low in rw (e, ne_eqb v 0 (omega arith), lt-leb (length s) q here, lt-ltb 5 (oct s q) h)
broken_is s q n v low (unused_over e here h) = let one : 1 ≤ v = rw e at low in rw (e, ne_eqb v 0 (omega arith), lt-leb (length s) q here, lt-ltb 7 (oct s q) h)
broken_is s q n v low (unused_alone e one here h) =
    rw (e, one, lt-leb (length s) q here, lt-ltb 0 (oct s q) h) (by_test (ltb 7 (oct s q)) (λ f. rw f) (λ f. rw f))

-- where no octet decides, a missing one does
pub missing_is : (s : List ℕ) (q n v : ℕ) → q ≤ length s → (Broken s q n v → ⊥) → length s < q + v → contents_at s q n v ≡ 30
missing_is s q n v within none short = by (contents_at s q n v) refl (contents_say s q n v within)
  where
    by : (x : ℕ) → contents_at s q n v ≡ x → ContentsSay s q n v x → x ≡ 30
    by x e (contents_good z) = absurd (omega (arith, contents_in s q v within n (le-ltb 0 (contents_at s q n v) (omega arith))))
    by x e (contents_missing z h) = z
    by x e (contents_broken z b) = absurd (none b)
