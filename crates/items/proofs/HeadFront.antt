-- "Octets are judged left to right and a missing octet when it is reached": what a head says of the front of the octets, it says of all of them, unless an octet was missing.
use Prim.Native.Nat.{ℕ, ◌+◌, ◌/◌, ◌%◌, ◌<◌}
use native.Mathlib.Omega.{arith}
use mathlib.Core.List.{List, ◌++◌}
use mathlib.Core.Logic.{inl, inr}
use lib.ListN.{length}
use lib.Dec.{ltb, eqb}
use Rattle.octets.specs.Reading.{oct, refuse}
use Rattle.octets.specs.Front.{Front, front_same, front_pick, front_octet, front_reach, front_within, front_long}
use Rattle.tags.specs.Types.{least, most}
use Rattle.tags.specs.Reading.{and_then, number_at, two_at, four_at, length_at, first_rule, first_content, whole_at, sign_bad, signed_at, contents_at, context_at, application_at, head_at}
use Rattle.tags.specs.Head.{Field}
use Rattle.tags.specs.Head.Field.{Is, Bad}
use Rattle.tags.specs.Head.{Tag}
use Rattle.tags.specs.Head.Tag.{Item, Refused}

module _ (a b : List ℕ) where
  number_front : (at : ℕ) → Front (Bad 30) (number_at a at) (number_at (a ++ b) at)
  unfolding number_at
  number_front at =
      front_reach a b at (Bad 30) _ _ (λ h.
      rw (front_octet a b at h) (front_pick (ltb (oct a at / 16) 15) front_same
      (front_reach a b (at + 1) (Bad 30) _ _ (λ h1. rw (front_octet a b (at + 1) h1) front_same))))

  two_front : (at : ℕ) → Front (Bad 30) (two_at a at) (two_at (a ++ b) at)
  unfolding two_at
  two_front at = front_reach a b at (Bad 30) _ _ (λ h. front_reach a b (at + 1) (Bad 30) _ _ (λ h1. rw (front_octet a b at h, front_octet a b (at + 1) h1) front_same))

  four_front : (at : ℕ) → Front (Bad 30) (four_at a at) (four_at (a ++ b) at)
  unfolding four_at
  four_front at =
      front_reach a b at (Bad 30) _ _ (λ h.
      front_long a b at 4 (Bad 30) _ _ (λ l.
      let h1 : at + 1 < length a = omega arith in rw (front_octet a b at h, front_octet a b (at + 1) h1) front_same))

  length_front : (at l : ℕ) → Front (Bad 30) (length_at a at l) (length_at (a ++ b) at l)
  unfolding length_at
  length_front at l =
      front_pick (ltb l 5) front_same
      (front_reach a b at (Bad 30) _ _ (λ h.
      rw (front_octet a b at h) (front_pick (ltb (oct a at) 5) front_same
      (front_pick (ltb (oct a at) 254) front_same
      (front_pick (eqb (oct a at) 254) (two_front (at + 1)) (four_front (at + 1)))))))

  whole_front : (p len : ℕ) → Front 30 (whole_at a p len) (whole_at (a ++ b) p len)
  unfolding whole_at
  whole_front p len = front_long a b p len 30 0 0 (λ _. front_same)

  signed_front : (p len : ℕ) → Front 30 (signed_at a p len) (signed_at (a ++ b) p len)
  unfolding signed_at
  signed_front p len =
      front_pick (ltb len 2) (whole_front p len)
      (front_reach a b (p + 1) 30 _ _ (λ h.
      let h0 : p < length a = omega arith in
      rw (front_octet a b p h0, front_octet a b (p + 1) h) (front_pick (sign_bad (oct a p) (oct a (p + 1))) front_same (whole_front p len))))

  contents_front : (p n len : ℕ) → Front 30 (contents_at a p n len) (contents_at (a ++ b) p n len)
  unfolding contents_at
  contents_front p n len =
      front_pick (eqb len 0) front_same
      (front_reach a b p 30 _ _ (λ h.
      rw (front_octet a b p h) (front_pick (ltb 0 (first_content n len (oct a p))) front_same
      (front_pick (eqb n 3) (signed_front p len) (whole_front p len)))))

  front_then : (f g : Field) (k j : ℕ → ℕ → Tag) → Front (Bad 30) f g → ((v q : ℕ) → Front (Refused 30) (k v q) (j v q)) → Front (Refused 30) (and_then f k) (and_then g j)
  front_then f g k j (inl e) h = inl (rw e)
  front_then f g k j (inr e) h = rw e (go f)
    where
      go : (f : Field) → Front (Refused 30) (and_then f k) (and_then f j)
      go (Is v q) = h v q
      go (Bad x) = front_same

  context_front : (l n p : ℕ) → Front (Refused 30) (context_at a l n p) (context_at (a ++ b) l n p)
  unfolding context_at
  context_front l n p =
      front_pick (eqb l 6) front_same
      (front_pick (eqb l 7) front_same
      (front_then (length_at a p l) (length_at (a ++ b) p l) _ _ (length_front p l) (λ v q.
      front_within a b q (Refused 30) _ _ (λ _. front_long a b q v (Refused 30) _ _ (λ _. front_same)))))

  rule_front : (x y : ℕ) (t : Tag) → Front 30 x y → Front (Refused 30) (refuse (ltb 0 x) (Refused x) t) (refuse (ltb 0 y) (Refused y) t)
  rule_front x y t (inl e) = inl (rw e)
  rule_front x y t (inr e) = rw e front_same

  application_front : (l n p : ℕ) → Front (Refused 30) (application_at a l n p) (application_at (a ++ b) l n p)
  unfolding application_at
  application_front l n p =
      front_pick (ltb 12 n) front_same
      (front_pick (eqb n 1) front_same
      (front_then (length_at a p l) (length_at (a ++ b) p l) _ _ (length_front p l) (λ v q.
      front_pick (ltb v (least n)) front_same
      (front_pick (ltb (most n) v) front_same
      (rule_front (contents_at a q n v) (contents_at (a ++ b) q n v) (Item 0 n 0 q v) (contents_front q n v))))))

  pub head_front : (at : ℕ) → Front (Refused 30) (head_at a at) (head_at (a ++ b) at)
  unfolding head_at
  head_front at =
      front_reach a b at (Refused 30) _ _ (λ h.
      rw (front_octet a b at h) (front_pick (ltb 0 (first_rule (oct a at))) front_same
      (front_then (number_at a at) (number_at (a ++ b) at) _ _ (number_front at) (λ n p.
      front_pick (eqb (oct a at % 16 / 8) 1) (context_front (oct a at % 8) n p) (application_front (oct a at % 8) n p)))))
