-- The reading at a tag octet b whose class is known, by what else b is.
use Prim.Native.Nat.{ℕ, ◌+◌, ◌/◌, ◌%◌, ◌≤◌, ◌<◌}
use native.Mathlib.Omega.{arith}
use mathlib.Core.Path.{◌≡◌}
use mathlib.Core.List.{List}
use mathlib.Core.Logic.{◌⊎◌, inl, inr}
use lib.ListN.{length}
use lib.Dec.{ltb, leb, eqb}
use borrow.Author.Tests.{lt-ltb, le-ltb, le-leb, lt-leb, eq-eqb, ne_eqb, eqb-true, eqb-false, ltb-true, ltb-false}
use Rattle.octets.specs.Choice.{pick, by_test, both}
use Rattle.octets.specs.Reading.{oct}
use Rattle.tags.specs.Types.{least, most, right_length}
use Rattle.tags.specs.Tagged.{Tagged}
use Rattle.tags.specs.Reading.{number_at, length_at, first_content, contents_at, first_rule, context_at, application_at, head_at}
use Rattle.tags.specs.Head.Field.{Is, Bad}
use Rattle.tags.specs.Head.Tag.{Item, Refused}

-- a context tag: its number, then what its length bits say
pub at_context : (s : List ℕ) (at b n p : ℕ) → Tagged s at b 1 → Is n p ≡ number_at s at → context_at s (b % 8) n p ≡ head_at s at
unfolding head_at first_rule
at_context s at b n p t e = rw (lt-leb (length s) at t.there, ← t.octet, t.class, ← e)

pub at_context_bad : (s : List ℕ) (at b x : ℕ) → Tagged s at b 1 → Bad x ≡ number_at s at → Refused x ≡ head_at s at
unfolding head_at first_rule
at_context_bad s at b x t e = rw (lt-leb (length s) at t.there, ← t.octet, t.class, ← e)

module _ (s : List ℕ) (at b : ℕ) (t : Tagged s at b 0) where
  -- 31: "application number above 12"
  pub at_above : 12 < b / 16 → b / 16 < 15 → Refused 31 ≡ head_at s at
  unfolding head_at first_rule
  at_above w v = rw (lt-leb (length s) at t.there, ← t.octet, t.class, ne_eqb (b / 16) 15 (λ e. omega arith), lt-ltb 12 (b / 16) w)

  -- 32: "application 6 or 7; boolean 2 to 5"
  pub at_six : b / 16 ≤ 12 → 5 < b % 8 → Refused 32 ≡ head_at s at
  unfolding head_at first_rule
  at_six w v = rw (lt-leb (length s) at t.there, ← t.octet, t.class, ne_eqb (b / 16) 15 (λ e. omega arith), le-ltb 12 (b / 16) w, lt-ltb 5 (b % 8) v)

  pub at_boolean_bad : b / 16 ≡ 1 → 1 < b % 8 → Refused 32 ≡ head_at s at
  unfolding head_at first_rule
  at_boolean_bad e v =
      rw (lt-leb (length s) at t.there, ← t.octet, t.class, e, lt-ltb 1 (b % 8) v)
      (by_test (ltb 5 (b % 8)) (λ f. rw f) (λ f. rw f))

  -- "1 boolean, length bits 0 or 1 are the value, no contents"
  pub at_boolean : b / 16 ≡ 1 → b % 8 ≤ 1 → Item 0 1 (b % 8) (at + 1) 0 ≡ head_at s at
  unfolding head_at first_rule number_at application_at
  at_boolean e w = rw (lt-leb (length s) at t.there, ← t.octet, t.class, e, le-ltb 5 (b % 8) (omega arith), le-ltb 1 (b % 8) w)

  pub at_type : b / 16 ≤ 12 → b % 8 ≤ 5 → (b / 16 ≡ 1 → ⊥) → application_at s (b % 8) (b / 16) (at + 1) ≡ head_at s at
  unfolding head_at first_rule number_at
  at_type w v one = rw (lt-leb (length s) at t.there, ← t.octet, t.class, ne_eqb (b / 16) 15 (λ e. omega arith), le-ltb 12 (b / 16) w, le-ltb 5 (b % 8) v, ne_eqb (b / 16) 1 one, lt-ltb (b / 16) 15 (omega arith))

  -- the number 15: 32 at the tag octet, then 30 or 31 at the second
  pub at_last_six : b < 256 → 15 ≤ b / 16 → 5 < b % 8 → Refused 32 ≡ head_at s at
  unfolding head_at first_rule
  at_last_six u w v = rw (lt-leb (length s) at t.there, ← t.octet, t.class, eq-eqb (b / 16) 15 (omega arith), le-ltb (b % 8) 6 (omega arith))

  pub at_last_short : b < 256 → 15 ≤ b / 16 → b % 8 ≤ 5 → length s ≤ at + 1 → Refused 30 ≡ head_at s at
  unfolding head_at first_rule number_at
  at_last_short u w v h = rw (lt-leb (length s) at t.there, ← t.octet, t.class, eq-eqb (b / 16) 15 (omega arith), lt-ltb (b % 8) 6 (omega arith), le-ltb (b / 16) 15 w, le-leb (length s) (at + 1) h)

  pub at_last : b < 256 → 15 ≤ b / 16 → b % 8 ≤ 5 → at + 1 < length s → Refused 31 ≡ head_at s at
  unfolding head_at first_rule number_at application_at
  at_last u w v h =
      rw (lt-leb (length s) at t.there, ← t.octet, t.class, eq-eqb (b / 16) 15 (omega arith), lt-ltb (b % 8) 6 (omega arith), le-ltb (b / 16) 15 w, lt-leb (length s) (at + 1) h)
      (by_test (ltb (oct s (at + 1)) 15) (λ e. rw e) (λ e.
      by_test (ltb 254 (oct s (at + 1))) (λ f. rw (e, f)) (λ f. rw (e, f, lt-ltb 12 (oct s (at + 1)) (omega (arith, ltb-false (oct s (at + 1)) 15 e))))))

-- number by number, since many that a number is not are too many cases at once
past : (a n : ℕ) → a ≤ n → (n ≡ a → ⊥) → a + 1 ≤ n
past a n h other = omega arith

highest : (n : ℕ) → n ≤ 12 → 12 ≤ n → n ≡ 12
highest n u v = omega arith

-- what contents of type n break, their length first: from what they break as those of a type m of a to b octets
module _ (s : List ℕ) (p n len r : ℕ) where
  abbrev As : ℕ → ℕ → ℕ → Type 0
  As m a b = r ≡ pick (both (leb a len) (leb len b)) (contents_at s p m len) 33

  abbrev Judged : Type 0
  Judged = r ≡ pick (right_length n len) (contents_at s p n len) 33

  pub by_null : n ≡ 0 → As n 0 0 → Judged
  unfolding right_length least most
  by_null e h = rw e (rw e at h)

  pub by_unsigned : (n ≡ 2) ⊎ (n ≡ 9) → As 2 1 4 → Judged
  unfolding right_length least most contents_at first_content
  by_unsigned (inl e) h = rw e h
  by_unsigned (inr e) h = rw e h

  pub by_signed : n ≡ 3 → As n 1 4 → Judged
  unfolding right_length least most
  by_signed e h = rw e (rw e at h)

  pub by_double : n ≡ 5 → As n 8 8 → Judged
  unfolding right_length least most
  by_double e h = rw e (rw e at h)

  pub by_octets : n ≡ 6 → As n 0 16384 → Judged
  unfolding right_length least most
  by_octets e h = rw e (rw e at h)

  pub by_characters : n ≡ 7 → As n 1 16384 → Judged
  unfolding right_length least most
  by_characters e h = rw e (rw e at h)

  pub by_bits : n ≡ 8 → As n 1 16384 → Judged
  unfolding right_length least most
  by_bits e h = rw e (rw e at h)

  -- a real, and date, time and object as well
  pub by_four : As 4 4 4 → n ≤ 12 → (n ≡ 1 → ⊥) → (n ≡ 0 → ⊥) → ((n ≡ 2) ⊎ (n ≡ 9) → ⊥) → (n ≡ 3 → ⊥) → (n ≡ 5 → ⊥) → (n ≡ 6 → ⊥) → (n ≡ 7 → ⊥) → (n ≡ 8 → ⊥) → Judged
  unfolding right_length least most contents_at first_content
  by_four h w one null integer signed double octets characters bits =
      let from-four : 4 ≤ n = past 3 n (past 2 n (past 1 n (past 0 n (omega arith) null) one) (λ x. integer (inl x))) signed in
      by_test (eqb n 4) (λ x. rw (eqb-true n 4 x) h) (λ x.
      let from-seven : 7 ≤ n = past 6 n (past 5 n (past 4 n from-four (eqb-false n 4 x)) double) octets in
      let from-ten : 10 ≤ n = past 9 n (past 8 n (past 7 n from-seven characters) bits) (λ x. integer (inr x)) in
      by_test (eqb n 10) (λ y. rw (eqb-true n 10 y) h) (λ y.
      by_test (eqb n 11) (λ z. rw (eqb-true n 11 z) h) (λ z.
      let last : n ≡ 12 = highest n w (past 11 n (past 10 n from-ten (eqb-false n 10 y)) (eqb-false n 11 z)) in
      rw last h)))

-- an application item that is no boolean, by its length
module _ (s : List ℕ) (l n p : ℕ) (w : n ≤ 12) (one : n ≡ 1 → ⊥) where
  pub type_bad : (x : ℕ) → Bad x ≡ length_at s p l → Refused x ≡ application_at s l n p
  unfolding application_at
  type_bad x h = rw (le-ltb 12 n w, ne_eqb n 1 one, ← h)

  module _ (v q : ℕ) (h : Is v q ≡ length_at s p l) where
    -- by what the contents break, their length first. 33: "contents length wrong for its type"
    pub type_wrong : (x : ℕ) → x ≡ pick (right_length n v) (contents_at s q n v) 33 → 0 < x → Refused x ≡ application_at s l n p
    unfolding application_at right_length
    type_wrong x k u =
        rw (le-ltb 12 n w, ne_eqb n 1 one, ← h)
        (by_test (ltb v (least n))
        (λ f. let z : x ≡ 33 = rw (lt-leb (least n) v (ltb-true v (least n) f)) at k in rw (f, z))
        (λ f. let f' = le-leb (least n) v (ltb-false v (least n) f) in
        by_test (ltb (most n) v)
        (λ g. let z : x ≡ 33 = rw (f', lt-leb v (most n) (ltb-true (most n) v g)) at k in rw (f, g, z))
        (λ g. let z : x ≡ contents_at s q n v = rw (f', le-leb v (most n) (ltb-false (most n) v g)) at k in rw (f, g, ← z, lt-ltb 0 x u))))

    pub type_good : 0 ≡ pick (right_length n v) (contents_at s q n v) 33 → Item 0 n 0 q v ≡ application_at s l n p
    unfolding application_at right_length
    type_good k =
        rw (le-ltb 12 n w, ne_eqb n 1 one, ← h)
        (by_test (ltb v (least n))
        (λ f. let z : 0 ≡ 33 = rw (lt-leb (least n) v (ltb-true v (least n) f)) at k in absurd (omega arith))
        (λ f. let f' = le-leb (least n) v (ltb-false v (least n) f) in
        by_test (ltb (most n) v)
        (λ g. let z : 0 ≡ 33 = rw (f', lt-leb v (most n) (ltb-true (most n) v g)) at k in absurd (omega arith))
        (λ g. let z : 0 ≡ contents_at s q n v = rw (f', le-leb v (most n) (ltb-false (most n) v g)) at k in rw (f, g, ← z))))
