-- A head looks at nothing before its place: behind other octets it is the same head, with its places moved.
use Prim.Native.Nat.{ℕ, ◌+◌, ◌-◌, ◌/◌, ◌%◌}
use native.Mathlib.Omega.{arith}
use mathlib.Core.Path.{◌≡◌, refl}
use mathlib.Core.List.{List, ◌++◌}
use mathlib.Core.Bool.{Bool}
use lib.ListN.{length, length-append}
use lib.Seq.{get_or-append-add}
use lib.Dec.{ltb, leb, eqb}
use borrow.Author.Tests.{leb-true, leb-false, ltb-true, ltb-false, lt-leb, le-leb, lt-ltb, le-ltb}
use Rattle.octets.specs.Choice.{pick, pick_two, by_test}
use Rattle.octets.specs.Reading.{oct, be16}
use Rattle.tags.specs.Types.{least, most, longest}
use Rattle.tags.specs.Reading.{and_then, number_at, two_at, four_at, length_at, first_rule, whole_at, signed_at, contents_at, context_at, application_at, head_at}
use Rattle.tags.specs.Head.{Field}
use Rattle.tags.specs.Head.Field.{Is, Bad}
use Rattle.tags.specs.Head.{Tag}
use Rattle.tags.specs.Head.Tag.{Item, Opening, Closing, Refused}

abbrev pub field_moved : ℕ → Field → Field
field_moved n (Is v p) = Is v (n + p)
field_moved n (Bad x) = Bad x

abbrev pub tag_moved : ℕ → Tag → Tag
tag_moved n (Item k c v p l) = Item k c v (n + p) l
tag_moved n (Opening c p) = Opening c (n + p)
tag_moved n (Closing c p) = Closing c (n + p)
tag_moved n (Refused x) = Refused x

pub moved_pick : {A : Type 0} (m : A → A) {x y x' y' : A} (b : Bool) → y ≡ m x → y' ≡ m x' → pick b y y' ≡ m (pick b x x')
moved_pick {A} m b e f = pick_two (λ (y x : A). y ≡ m x) b (λ _. e) (λ _. f)

module _ (a b : List ℕ) where
  there : (at : ℕ) → oct (a ++ b) (length a + at) ≡ oct b at
  there at = get_or-append-add a b at 0

  pub ends_there : (at : ℕ) → leb (length (a ++ b)) (length a + at) ≡ leb (length b) at
  ends_there at =
      by_test (leb (length b) at)
      (λ h. rw h (le-leb (length (a ++ b)) (length a + at) (omega (arith, leb-true (length b) at h, length-append a b))))
      (λ h. rw h (lt-leb (length (a ++ b)) (length a + at) (omega (arith, leb-false (length b) at h, length-append a b))))

  past_there : (at : ℕ) → ltb (length (a ++ b)) (length a + at) ≡ ltb (length b) at
  past_there at =
      by_test (ltb (length b) at)
      (λ h. rw h (lt-ltb (length (a ++ b)) (length a + at) (omega (arith, ltb-true (length b) at h, length-append a b))))
      (λ h. rw h (le-ltb (length (a ++ b)) (length a + at) (omega (arith, ltb-false (length b) at h, length-append a b))))

  left_there : (at : ℕ) → length (a ++ b) - (length a + at) ≡ length b - at
  left_there at = omega (arith, length-append a b)

  next_there : (at : ℕ) → length a + at + 1 ≡ length a + (at + 1)
  next_there at = omega arith

  number_moved : (at : ℕ) → number_at (a ++ b) (length a + at) ≡ field_moved (length a) (number_at b at)
  unfolding number_at
  number_moved at =
      let e : length a + at + 2 ≡ length a + (at + 2) = omega arith in
      let m = field_moved (length a) in
      rw (next_there at, ends_there at, there at, ends_there (at + 1), there (at + 1), e)
      (moved_pick m (leb (length b) at) refl
      (moved_pick m (ltb (oct b at / 16) 15) refl
      (moved_pick m (leb (length b) (at + 1)) refl
      (moved_pick m (ltb (oct b (at + 1)) 15) refl
      (moved_pick m (ltb 254 (oct b (at + 1))) refl refl)))))

  two_moved : (at : ℕ) → two_at (a ++ b) (length a + at) ≡ field_moved (length a) (two_at b at)
  unfolding two_at
  two_moved at =
      let e : length a + at + 2 ≡ length a + (at + 2) = omega arith in
      let m = field_moved (length a) in
      rw (next_there at, ends_there at, ends_there (at + 1), there at, there (at + 1), e)
      (moved_pick m (leb (length b) at) refl
      (moved_pick m (leb (length b) (at + 1)) refl
      (moved_pick m (ltb (be16 b at) 254) refl
      (moved_pick m (ltb longest (be16 b at)) refl refl))))

  four_moved : (at : ℕ) → four_at (a ++ b) (length a + at) ≡ field_moved (length a) (four_at b at)
  unfolding four_at
  four_moved at =
      let m = field_moved (length a) in
      rw (next_there at, ends_there at, left_there at, there at, there (at + 1))
      (moved_pick m (leb (length b) at) refl
      (moved_pick m (ltb (length b - at) 4) refl
      (moved_pick m (eqb (be16 b at) 0) refl refl)))

  length_moved : (at l : ℕ) → length_at (a ++ b) (length a + at) l ≡ field_moved (length a) (length_at b at l)
  unfolding length_at
  length_moved at l =
      let m = field_moved (length a) in
      rw (next_there at, ends_there at, there at)
      (moved_pick m (ltb l 5) refl
      (moved_pick m (leb (length b) at) refl
      (moved_pick m (ltb (oct b at) 5) refl
      (moved_pick m (ltb (oct b at) 254) refl
      (moved_pick m (eqb (oct b at) 254) (two_moved (at + 1)) (four_moved (at + 1)))))))

  whole_moved : (p len : ℕ) → whole_at (a ++ b) (length a + p) len ≡ whole_at b p len
  unfolding whole_at
  whole_moved p len = rw (left_there p)

  signed_moved : (p len : ℕ) → signed_at (a ++ b) (length a + p) len ≡ signed_at b p len
  unfolding signed_at
  signed_moved p len = rw (next_there p, ends_there (p + 1), there p, there (p + 1), whole_moved p len)

  contents_moved : (p n len : ℕ) → contents_at (a ++ b) (length a + p) n len ≡ contents_at b p n len
  unfolding contents_at
  contents_moved p n len = rw (ends_there p, there p, signed_moved p len, whole_moved p len)

  moved_then : (f g : Field) (k j : ℕ → ℕ → Tag) → g ≡ field_moved (length a) f → ((v q : ℕ) → j v (length a + q) ≡ tag_moved (length a) (k v q)) → and_then g j ≡ tag_moved (length a) (and_then f k)
  moved_then (Is v q) g k j e h = rw e (h v q)
  moved_then (Bad x) g k j e h = rw e

  context_moved : (l n p : ℕ) → context_at (a ++ b) l n (length a + p) ≡ tag_moved (length a) (context_at b l n p)
  unfolding context_at
  context_moved l n p =
      let m = tag_moved (length a) in
      moved_pick m (eqb l 6) refl
      (moved_pick m (eqb l 7) refl
      (moved_then (length_at b p l) (length_at (a ++ b) (length a + p) l) _ _ (length_moved p l) (λ v q.
      rw (past_there q, left_there q)
      (moved_pick m (ltb (length b) q) refl
      (moved_pick m (ltb (length b - q) v) refl refl)))))

  application_moved : (l n p : ℕ) → application_at (a ++ b) l n (length a + p) ≡ tag_moved (length a) (application_at b l n p)
  unfolding application_at
  application_moved l n p =
      let m = tag_moved (length a) in
      moved_pick m (ltb 12 n) refl
      (moved_pick m (eqb n 1) refl
      (moved_then (length_at b p l) (length_at (a ++ b) (length a + p) l) _ _ (length_moved p l) (λ v q.
      rw (contents_moved q n v)
      (moved_pick m (ltb v (least n)) refl
      (moved_pick m (ltb (most n) v) refl
      (moved_pick m (ltb 0 (contents_at b q n v)) refl refl))))))

  pub head_moved : (at : ℕ) → head_at (a ++ b) (length a + at) ≡ tag_moved (length a) (head_at b at)
  unfolding head_at
  head_moved at =
      let m = tag_moved (length a) in
      rw (ends_there at, there at)
      (moved_pick m (leb (length b) at) refl
      (moved_pick m (ltb 0 (first_rule (oct b at))) refl
      (moved_then (number_at b at) (number_at (a ++ b) (length a + at)) _ _ (number_moved at) (λ n p.
      moved_pick m (eqb (oct b at % 16 / 8) 1) (context_moved (oct b at % 8) n p) (application_moved (oct b at % 8) n p)))))
