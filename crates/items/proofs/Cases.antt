-- What listing answers and leaves, by the reading and the area's size; and what an answer of it says of both.
use Prim.Native.Nat.{ℕ, ◌*◌, ◌≤◌, ◌<◌}
use native.Mathlib.Omega.{arith}
use mathlib.Core.Path.{◌≡◌, refl, ap, subst, ◌∙◌}
use mathlib.Core.List.{List, [], ◌∷◌, ◌++◌}
use lib.ListN.{length, drop}
use lib.Dec.{ltb}
use borrow.Author.Tests.{ltb-true, ltb-false, lt-ltb, le-ltb}
use Rattle.octets.specs.Choice.{by_test}
use Rattle.octets.specs.Splice.{splice, splice_nil, splice_front, splice_length}
use Rattle.items.specs.Records.{Rec, records_octets}
use Rattle.items.specs.Reading.{Out, items_of}
use Rattle.items.specs.Reading.Out.{good, bad}
use Rattle.items.specs.Listing.{Many, ReadAs, listed_of, listing, Listed}
use Rattle.items.specs.Answers.{Tally}
use Rattle.items.specs.Answers.Tally.{Items, Small}
use Rattle.items.proofs.RecordOctets.{records_length}

-- 12 octets an item
many_octets : {o : Out} {n : ℕ} (z : Many o n) → length (records_octets z.0) ≡ 12 * n
many_octets z = records_length z.0 ∙ ap (λ (n : ℕ). 12 * n) z.3

-- ---- the answer
module _ (size : ℕ) (o : Out) where
  pub items_so : (n : ℕ) → Many o n → 12 * n ≤ size → listed_of size o ≡ Items n
  unfolding listed_of
  items_so n z h = let l : length (records_octets z.0) ≤ size = omega (arith, many_octets z) in rw (z.2, le-ltb _ _ l, z.3)

  pub small_so : (n : ℕ) → Many o n → size < 12 * n → listed_of size o ≡ Small n
  unfolding listed_of
  small_so n z h = let l : size < length (records_octets z.0) = omega (arith, many_octets z) in rw (z.2, lt-ltb _ _ l, z.3)

  pub refused_so : (x : ℕ) → o ≡ bad x → listed_of size o ≡ Tally.Refused x
  unfolding listed_of
  refused_so x e = rw e

-- what each case says; every answer says it
abbrev Says : ℕ → Out → Tally → Type 0
Says size o (Items n) = Many o n × (12 * n ≤ size)
Says size o (Small n) = Many o n × (size < 12 * n)
Says size o (Tally.Refused x) = o ≡ bad x

says : (size : ℕ) (o : Out) → Says size o (listed_of size o)
unfolding listed_of
says size (good rs end) =
    let q = records_length rs in
    let octets = length (records_octets rs) in
    by_test (ltb size octets)
    (λ t. let l : size < octets = ltb-true size octets t in rw t ((rs, end, refl, refl), omega arith))
    (λ t. let l : octets ≤ size = ltb-false size octets t in rw t ((rs, end, refl, refl), omega arith))
says size (bad x) = refl

-- ---- the area
module _ (area : List ℕ) (o : Out) where
  pub refused_left : (x : ℕ) → o ≡ bad x → listing area o ≡ area
  unfolding listing
  refused_left x e = rw e

  pub small_left : (n : ℕ) → Many o n → length area < 12 * n → listing area o ≡ area
  unfolding listing
  small_left n z h = let l : length area < length (records_octets z.0) = omega (arith, many_octets z) in rw (z.2, lt-ltb _ _ l)

  pub items_laid : (n : ℕ) (z : Many o n) → 12 * n ≤ length area → listing area o ≡ splice area 0 (records_octets z.0)
  unfolding listing
  items_laid n z h = let l : length (records_octets z.0) ≤ length area = omega (arith, many_octets z) in rw (z.2, le-ltb _ _ l)

  pub items_left : (n : ℕ) (z : Many o n) → 12 * n ≤ length area → listing area o ≡ records_octets z.0 ++ drop (12 * n) area
  items_left n z h = items_laid n z h ∙ splice_front area (records_octets z.0) ∙ rw (many_octets z)

-- no records are none
no_octets : (rs : List Rec) → length rs ≡ 0 → records_octets rs ≡ []
unfolding records_octets
no_octets [] h = refl
no_octets (r ∷ rs) h = absurd (omega arith)

pub none_left : (area : List ℕ) (o : Out) → Many o 0 → listing area o ≡ area
none_left area o z = items_laid area o 0 z (omega arith) ∙ rw (no_octets z.0 z.3) (splice_nil area 0)

kept : (area : List ℕ) (o : Out) → length (listing area o) ≡ length area
unfolding listing
kept area (good rs end) =
    by_test (ltb (length area) (length (records_octets rs)))
    (λ t. rw t)
    (λ t. let l = ltb-false (length area) (length (records_octets rs)) t in rw t (splice_length area 0 (records_octets rs) (omega arith)))
kept area (bad x) = refl

-- ---- listing
module _ (s area later : List ℕ) (r : Tally) (w : Listed s area r later) where
  pub items_given : (n : ℕ) → ReadAs s n → 12 * n ≤ length area → r ≡ Items n
  items_given n z h = w.answer ∙ items_so (length area) (items_of s) n z h

  pub small_given : (n : ℕ) → ReadAs s n → length area < 12 * n → r ≡ Small n
  small_given n z h = w.answer ∙ small_so (length area) (items_of s) n z h

  pub refused_given : (x : ℕ) → items_of s ≡ bad x → r ≡ Tally.Refused x
  refused_given x e = w.answer ∙ refused_so (length area) (items_of s) x e

  listed_says : Says (length area) (items_of s) r
  listed_says = rw w.answer (says (length area) (items_of s))

  pub items_say : {n : ℕ} → r ≡ Items n → ReadAs s n × (12 * n ≤ length area)
  items_say e = subst (Says (length area) (items_of s)) e listed_says

  pub small_says : {n : ℕ} → r ≡ Small n → ReadAs s n × (length area < 12 * n)
  small_says e = subst (Says (length area) (items_of s)) e listed_says

  pub refused_says : {x : ℕ} → r ≡ Tally.Refused x → items_of s ≡ bad x
  refused_says e = subst (Says (length area) (items_of s)) e listed_says

  pub area_kept : length later ≡ length area
  area_kept = ap length w.after ∙ kept area (items_of s)
