-- An item that the octets do not end and that has nine of them: its tag is all there, and what follows decides by its length alone.
use Prim.Native.Nat.{ℕ, ◌+◌, ◌-◌, ◌*◌, ◌/◌, ◌%◌, ◌≤◌, ◌<◌}
use native.Mathlib.Omega.{arith}
use mathlib.Core.Path.{◌≡◌, refl}
use mathlib.Core.List.{List, ◌++◌}
use mathlib.Core.Bool.{Bool, false}
use lib.ListN.{length, length-append, get_or-append}
use lib.Dec.{ltb, leb, eqb}
use borrow.Author.Tests.{lt-ltb, le-ltb, lt-leb, ltb-true, ltb-false, eqb-true, eqb-false}
use Rattle.octets.specs.Choice.{pick, pick_so, pick_two, by_test, impossible}
use Rattle.octets.specs.Reading.{oct, be16}
use Rattle.tags.specs.Types.{longest, least, most}
use Rattle.tags.specs.Reading.{and_then, number_at, two_at, four_at, length_at, first_rule, first_content, whole_at, sign_bad, signed_at, contents_at, context_at, application_at, head_at}
use Rattle.tags.specs.Head.{Tag}
use Rattle.tags.specs.Head.Tag.{Item, Opening, Closing, Refused}
use Rattle.tags.proofs.Refusals.{first_rule_lem, first_content_lem}
use Rattle.service_writer.specs.declared.judge.Cut.{Cut}
use Rattle.service_writer.specs.Judging.{cut_as, cut_length, cut_of}

pub cut_three : (s : List ℕ) (p k n v : ℕ) → 254 ≤ oct s p → v ≡ oct s (p + 1) * 256 + oct s (p + 2) → cut_as k n (p + 3) v ≡ cut_length s p k n
unfolding cut_length
cut_three s p k n v h e = let z : p + 1 + 1 ≡ p + 2 = omega arith in rw (le-ltb _ _ h, z, e)

-- another number than 30
abbrev Other : ℕ → Type 0
Other x = x ≡ 30 → ⊥

none : Other 0
none e = omega arith

-- a refusal with such a number
other : {X : Type 0} (x : ℕ) → (x ≡ 30 → ⊥) → Refused x ≡ Refused 30 → X
other x h e = absurd (h (let z : x ≡ 30 = cc in z))

-- Of the tag in the octets s, and the same tag with others behind them: where the first ends early, the second is the item if its contents end by then.
module _ (s b : List ℕ) where
  abbrev full : List ℕ
  full = s ++ b

  -- the item, where the contents are all there
  abbrev ended : Cut → Tag
  ended c = pick (ltb (length full) (c.place + c.len)) (Refused 30) (Item c.kind c.number 0 c.place c.len)

  -- its contents begin in the octets and end behind them
  pub record Reaches (c : Cut) (y : Tag) : Type 0 where
    pub tag : y ≡ ended c
    pub small : c.len ≤ longest
    pub long : 5 ≤ c.len
    pub begins : c.place ≤ length s
    pub ends : length s < c.place + c.len

  abbrev Late : Cut → Tag → Tag → Type 0
  Late c x y = x ≡ Refused 30 → Reaches c y

  late_other : (c : Cut) (x : ℕ) (y : Tag) → (x ≡ 30 → ⊥) → Late c (Refused x) y
  late_other c x y h e = other x h e

  late_item : (c : Cut) (k n v p l : ℕ) (y : Tag) → Late c (Item k n v p l) y
  late_item c k n v p l y e = impossible (cc)

  late_opening : (c : Cut) (n p : ℕ) (y : Tag) → Late c (Opening n p) y
  late_opening c n p y e = impossible (cc)

  late_closing : (c : Cut) (n p : ℕ) (y : Tag) → Late c (Closing n p) y
  late_closing c n p y e = impossible (cc)

  -- an octet that is there
  here : (i : ℕ) → i < length s → oct full i ≡ oct s i
  here i h = get_or-append s b 0 i h

  there : (i : ℕ) → i < length s → leb (length full) i ≡ false
  there i h = lt-leb (length full) i (omega (arith, length-append s b))

  -- whether the contents are all there, told in two ways
  left_test : (q v : ℕ) → q ≤ length s → ltb (length full - q) v ≡ ltb (length full) (q + v)
  left_test q v h =
      by_test (ltb (length full) (q + v))
      (λ e. rw e (lt-ltb (length full - q) v (omega (arith, ltb-true (length full) (q + v) e, length-append s b))))
      (λ e. rw e (le-ltb (length full - q) v (omega (arith, ltb-false (length full) (q + v) e, length-append s b))))

  -- the length, and then
  module _ (p k n : ℕ) (room : p + 7 ≤ length s) where
    abbrev cut : Cut
    cut = cut_length s p k n

    abbrev Long : (ℕ → ℕ → Tag) → (ℕ → ℕ → Tag) → Type 0
    Long f g = (v q : ℕ) → 5 ≤ v → v ≤ longest → q ≤ p + 3 → Late (cut_as k n q v) (f v q) (g v q)

    late_two : (f g : ℕ → ℕ → Tag) → Long f g → 254 ≤ oct s p → Late cut (and_then (two_at s (p + 1)) f) (and_then (two_at full (p + 1)) g)
    unfolding two_at cut_length
    late_two f g long h =
        let z : p + 1 + 2 ≡ p + 3 = omega arith in
        let a : p + 1 < length s = omega arith in
        let d : p + 1 + 1 < length s = omega arith in
        rw (le-ltb (oct s p) 254 h, z, lt-leb (length s) (p + 1) a, lt-leb (length s) (p + 1 + 1) d, there (p + 1) a, there (p + 1 + 1) d, here (p + 1) a, here (p + 1 + 1) d)
        (by_test (ltb (be16 s (p + 1)) 254) (λ e. rw e (late_other _ 32 _ (λ x. omega arith))) (λ e.
        by_test (ltb longest (be16 s (p + 1))) (λ e1. rw (e, e1) (late_other _ 33 _ (λ x. omega arith))) (λ e1.
        rw (e, e1) (long (be16 s (p + 1)) (p + 3) (omega (arith, ltb-false (be16 s (p + 1)) 254 e)) (ltb-false longest (be16 s (p + 1)) e1) (omega arith)))))

    late_four : (f g : ℕ → ℕ → Tag) → Late cut (and_then (four_at s (p + 1)) f) (and_then (four_at full (p + 1)) g)
    unfolding four_at
    late_four f g =
        let a : p + 1 < length s = omega arith in
        let d : p + 1 + 1 < length s = omega arith in
        rw (lt-leb (length s) (p + 1) a, le-ltb (length s - (p + 1)) 4 (omega arith), there (p + 1) a, le-ltb (length full - (p + 1)) 4 (omega (arith, length-append s b)), here (p + 1) a, here (p + 1 + 1) d)
        (by_test (eqb (be16 s (p + 1)) 0) (λ e. rw e (late_other _ 32 _ (λ x. omega arith))) (λ e. rw e (late_other _ 33 _ (λ x. omega arith))))

    late_length : (l : ℕ) (f g : ℕ → ℕ → Tag) → (l < 5 → Late cut (f l p) (g l p)) → Long f g → Late cut (and_then (length_at s p l) f) (and_then (length_at full p l) g)
    unfolding length_at cut_length
    late_length l f g short long =
        let a : p < length s = omega arith in
        by_test (ltb l 5) (λ e. rw e (short (ltb-true l 5 e))) (λ e.
        rw (e, lt-leb (length s) p a, there p a, here p a)
        (by_test (ltb (oct s p) 5) (λ e1. rw e1 (late_other _ 32 _ (λ x. omega arith))) (λ e1.
        by_test (ltb (oct s p) 254) (λ e2. rw (e1, e2) (long (oct s p) (p + 1) (ltb-false (oct s p) 5 e1) (omega (arith, ltb-true (oct s p) 254 e2)) (omega arith))) (λ e2.
        by_test (eqb (oct s p) 254) (λ e3. rw (e1, e2, e3) (rw e2 at (late_two f g long (ltb-false (oct s p) 254 e2)))) (λ e3. rw (e1, e2, e3) (rw e2 at (late_four f g)))))))

  -- a context item
  late_context : (p l n : ℕ) → p + 7 ≤ length s → Late (cut_length s p 1 n) (context_at s l n p) (context_at full l n p)
  unfolding context_at
  late_context p l n room =
      pick_two (Late (cut_length s p 1 n)) (eqb l 6) (λ _. late_opening _ n p _) (λ _.
      pick_two (Late (cut_length s p 1 n)) (eqb l 7) (λ _. late_closing _ n p _) (λ _.
      late_length p 1 n room l _ _
      (λ h. rw (le-ltb (length s) p (omega arith), le-ltb (length s - p) l (omega arith)) (late_item _ 1 n 0 p l _))
      (λ v q five most near.
      let inside : q ≤ length s = omega arith in
      rw (le-ltb (length s) q inside, le-ltb (length full) q (omega (arith, length-append s b)))
      (by_test (ltb (length s - q) v)
      (λ e. rw e (λ _. record { tag = rw (left_test q v inside); small = most; long = five; begins = inside; ends = omega (arith, ltb-true (length s - q) v e) }))
      (λ e. rw e (late_item _ 1 n 0 q v _))))))

  -- the contents of an application item, where its first two octets are there: missing ones decide last
  abbrev Missing : ℕ → ℕ → ℕ → ℕ → Type 0
  Missing q v x y = x ≡ 30 → (length s < q + v) × (y ≡ whole_at full q v)

  missing_whole : (q v : ℕ) → q ≤ length s → Missing q v (whole_at s q v) (whole_at full q v)
  unfolding whole_at
  missing_whole q v h e = let w = pick_so (ltb (length s - q) v) 30 0 30 (λ z. omega arith) e in (omega (arith, ltb-true (length s - q) v w.0), refl)

  missing_pick : (q v : ℕ) (t : Bool) {x y x' y' : ℕ} → Missing q v x y → Missing q v x' y' → Missing q v (pick t x x') (pick t y y')
  missing_pick q v t f g = pick_two (Missing q v) t (λ _. f) (λ _. g)

  missing_other : (q v x y : ℕ) → (x ≡ 30 → ⊥) → Missing q v x y
  missing_other q v x y h e = absurd (h e)

  missing : (q n v : ℕ) → q + 2 ≤ length s → Missing q v (contents_at s q n v) (contents_at full q n v)
  unfolding contents_at signed_at
  missing q n v room =
      let a : q < length s = omega arith in
      let d : q + 1 < length s = omega arith in
      let whole : Missing q v (whole_at s q v) (whole_at full q v) = missing_whole q v (omega arith) in
      rw (lt-leb (length s) q a, there q a, here q a, lt-leb (length s) (q + 1) d, there (q + 1) d, here (q + 1) d)
      (missing_pick q v (eqb v 0) (missing_other q v 0 0 (λ e. omega arith))
      (missing_pick q v (ltb 0 (first_content n v (oct s q))) (missing_other q v _ _ (first_content_lem Other none (λ e. omega arith) n v (oct s q)))
      (missing_pick q v (eqb n 3)
      (missing_pick q v (ltb v 2) whole (missing_pick q v (sign_bad (oct s q) (oct s (q + 1))) (missing_other q v 34 34 (λ e. omega arith)) whole))
      whole)))

  -- an application item
  late_rule : (q n v : ℕ) → q + 2 ≤ length s → (length s < q + v → 5 ≤ v) → v ≤ longest
      → Late (cut_as 0 n q v) (pick (ltb 0 (contents_at s q n v)) (Refused (contents_at s q n v)) (Item 0 n 0 q v)) (pick (ltb 0 (contents_at full q n v)) (Refused (contents_at full q n v)) (Item 0 n 0 q v))
  unfolding whole_at
  late_rule q n v room five most =
      let inside : q ≤ length s = omega arith in
      by_test (ltb 0 (contents_at s q n v))
      (λ e. rw e (λ d.
      let x : contents_at s q n v ≡ 30 = cc in
      let m = missing q n v room x in
      record {
        tag = rw (m.1, left_test q v inside) (by_test (ltb (length full) (q + v)) (λ f. rw f) (λ f. rw f));
        small = most;
        long = five m.0;
        begins = inside;
        ends = m.0;
      }))
      (λ e. rw e (late_item _ 0 n 0 q v _))

  late_application : (p l n : ℕ) → p + 7 ≤ length s → Late (cut_length s p 0 n) (application_at s l n p) (application_at full l n p)
  unfolding application_at
  late_application p l n room =
      let c : Cut = cut_length s p 0 n in
      pick_two (Late c) (ltb 12 n) (λ _. late_other c 31 _ (λ x. omega arith)) (λ _.
      pick_two (Late c) (eqb n 1) (λ _. late_item c 0 1 l p 0 _) (λ _.
      late_length p 0 n room l _ _
      (λ h.
      pick_two (Late c) (ltb l (least n)) (λ _. late_other c 33 _ (λ x. omega arith)) (λ _.
      pick_two (Late c) (ltb (most n) l) (λ _. late_other c 33 _ (λ x. omega arith)) (λ _.
      λ e. let r = late_rule p n l (omega arith) (λ x. absurd (omega arith)) (omega arith) e in absurd (omega (arith, r.ends)))))
      (λ v q five fits near.
      pick_two (Late (cut_as 0 n q v)) (ltb v (least n)) (λ _. late_other _ 33 _ (λ x. omega arith)) (λ _.
      pick_two (Late (cut_as 0 n q v)) (ltb (most n) v) (λ _. late_other _ 33 _ (λ x. omega arith)) (λ _.
      late_rule q n v (omega arith) (λ _. five) fits)))))

  -- any item
  late_class : (t p n : ℕ) → p + 7 ≤ length s → Late (cut_length s p (t % 16 / 8) n) (pick (eqb (t % 16 / 8) 1) (context_at s (t % 8) n p) (application_at s (t % 8) n p)) (pick (eqb (t % 16 / 8) 1) (context_at full (t % 8) n p) (application_at full (t % 8) n p))
  late_class t p n room =
      pick_two (Late (cut_length s p (t % 16 / 8) n)) (eqb (t % 16 / 8) 1)
      (λ e. let k : t % 16 / 8 ≡ 1 = eqb-true (t % 16 / 8) 1 e in rw k (late_context p (t % 8) n room))
      (λ e. let d = eqb-false (t % 16 / 8) 1 e in let k : t % 16 / 8 ≡ 0 = omega arith in rw k (late_application p (t % 8) n room))

  late_head : (at : ℕ) → at + 9 ≤ length s → Late (cut_of s at) (head_at s at) (head_at full at)
  unfolding head_at number_at cut_of
  late_head at room =
      let a : at < length s = omega arith in
      let d : at + 1 < length s = omega arith in
      let t : ℕ = oct s at in
      rw (lt-leb (length s) at a, there at a, here at a, lt-leb (length s) (at + 1) d, there (at + 1) d, here (at + 1) d)
      (pick_two (Late _) (ltb 0 (first_rule t)) (λ _. late_other _ (first_rule t) _ (first_rule_lem Other none (λ e. omega arith) (λ e. omega arith) t)) (λ _.
      by_test (ltb (t / 16) 15) (λ e. rw e (late_class t (at + 1) (t / 16) (omega arith))) (λ e.
      rw e
      (by_test (ltb (oct s (at + 1)) 15) (λ f. rw f (late_other _ 31 _ (λ x. omega arith))) (λ f.
      by_test (ltb 254 (oct s (at + 1))) (λ g. rw (f, g) (late_other _ 31 _ (λ x. omega arith))) (λ g.
      rw (f, g) (late_class t (at + 2) (oct s (at + 1)) (omega arith))))))))

  -- "a missing octet when it is reached": an item that nine octets do not end is the one that its tag says, if octets enough follow
  pub cut_head : (at : ℕ) → at + 9 ≤ length s → head_at s at ≡ Refused 30 → Reaches (cut_of s at) (head_at full at)
  cut_head at room e = late_head at room e
