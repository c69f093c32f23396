-- One head is read exactly where an item that keeps the rules stands.
use Prim.Native.Nat.{ℕ, zero, suc, ◌+◌, ◌-◌, ◌*◌, ◌/◌, ◌%◌, ◌≤◌, ◌<◌}
use native.Mathlib.Omega.{arith}
use mathlib.Core.Path.{◌≡◌, refl, sym, ap, ◌∙◌}
use mathlib.Core.List.{List, [], ◌∷◌, ◌++◌}
use mathlib.Core.Bool.{Bool, true, false}
use lib.ListN.{length, take, drop, get_or, length-append, length-drop}
use lib.Seq.{length-take-le}
use lib.Dec.{ltb, leb, eqb}
use borrow.Author.Tests.{ltb-true, ltb-false, leb-true, eqb-true, eqb-false, lt-ltb, le-ltb, lt-leb, eq-eqb, ne_eqb}
use Rattle.octets.specs.Choice.{pick_cases, by_test, both, both_true}
use Rattle.octets.specs.Reading.{oct, Octets}
use Rattle.octets.specs.Has.{Has, has_bound, has_append, has_left, has_right, has_take}
use Rattle.tags.specs.Types.{longest, least, most}
use Rattle.tags.specs.Reading.{number_at, length_at, first_rule, contents_at, context_at, application_at, head_at}
use Rattle.tags.specs.Layout.{Thing, high_bits, number_octets, low_bits, length_octets, encode, Application, Valid, good_contents, tag_length, contents_of, tag_of, Good, Stands}
use Rattle.tags.specs.Layout.Thing.{application, boolean, context, opening, closing}
use Rattle.tags.specs.Head.{Tag}
use Rattle.tags.specs.Head.Tag.{Item, Opening, Closing}
use Rattle.tags.proofs.Bounds.{and_then_lem, contents_in, first_bits, boolean_bits}
use Rattle.tags.proofs.Spelling.{NumberHas, LengthHas, NumberStands, LengthStands, number_complete, number_sound, length_complete, length_sound}
use Rattle.tags.proofs.Rule.{contents_exact}

-- the octets of an item: those of its tag, and its contents
pub encode_length : (t : Thing) → length (encode t) ≡ tag_length t + length (contents_of t)
unfolding encode tag_length
encode_length (application n xs) = simp length-append (omega arith)
encode_length (boolean v) = refl
encode_length (context n xs) = simp length-append (omega arith)
encode_length (opening n) = omega arith
encode_length (closing n) = omega arith

-- no item is without octets
pub encode_some : (t : Thing) → 0 < length (encode t)
unfolding encode
encode_some (application n xs) = omega arith
encode_some (boolean v) = omega arith
encode_some (context n xs) = omega arith
encode_some (opening n) = omega arith
encode_some (closing n) = omega arith

-- where the octets of an item stand, its contents stand after its tag
pub contents_stand : (s : List ℕ) (at : ℕ) (t : Thing) → Has s at (encode t) → Has s (at + tag_length t) (contents_of t)
unfolding encode tag_length
contents_stand s at (application n xs) h =
    let e : at + (1 + length (length_octets (length xs))) ≡ at + 1 + length (length_octets (length xs)) = omega arith in
    rw e (has_right s (at + 1) (length_octets (length xs)) xs h.2)
contents_stand s at (boolean v) h = h.2
contents_stand s at (context n xs) h =
    let e : at + (1 + length (number_octets n) + length (length_octets (length xs))) ≡ at + 1 + length (number_octets n) + length (length_octets (length xs)) = omega arith in
    rw e (has_right s (at + 1 + length (number_octets n)) (length_octets (length xs)) xs (has_right s (at + 1) (number_octets n) (length_octets (length xs) ++ xs) h.2))
contents_stand s at (opening n) h = omega (arith, has_bound s (at + 1) (number_octets n) h.2)
contents_stand s at (closing n) h = omega (arith, has_bound s (at + 1) (number_octets n) h.2)

-- an item's tag is no refusal
pub tag_good : (at : ℕ) (t : Thing) → Good (tag_of at t)
unfolding tag_of
tag_good at (application n xs) = tt
tag_good at (boolean v) = tt
tag_good at (context n xs) = tt
tag_good at (opening n) = tt
tag_good at (closing n) = tt

pub low_small : (l : ℕ) → low_bits l ≤ 5
unfolding low_bits
low_small l = pick_cases (λ x. x ≤ 5) (ltb l 5) (λ h. omega (arith, ltb-true)) (λ _. omega arith)

pub high_small : (n : ℕ) → high_bits n ≤ 15
unfolding high_bits
high_small n = pick_cases (λ x. x ≤ 15) (ltb n 15) (λ h. omega (arith, ltb-true)) (λ _. omega arith)

-- a table whose entries are all up to m
abbrev up_to : ℕ → List ℕ → Bool
up_to m [] = true
up_to m (x ∷ xs) = both (leb x m) (up_to m xs)

table_up_to : (m : ℕ) (xs : List ℕ) → up_to m xs ≡ true → (n : ℕ) → get_or xs n 0 ≤ m
table_up_to m [] e n = omega arith
table_up_to m (x ∷ xs) e zero = leb-true x m (both_true (leb x m) (up_to m xs) e).0
table_up_to m (x ∷ xs) e (suc n) = table_up_to m xs (both_true (leb x m) (up_to m xs) e).1 n

-- no type's contents are over 16,384
pub most_longest : (n : ℕ) → most n ≤ longest
unfolding most
most_longest n = table_up_to longest (0 ∷ 0 ∷ 4 ∷ 4 ∷ 4 ∷ 8 ∷ longest ∷ longest ∷ longest ∷ 4 ∷ 4 ∷ 4 ∷ 4 ∷ []) refl n

pub least_small : (n : ℕ) → least n ≤ longest
unfolding least
least_small n = table_up_to longest (0 ∷ 0 ∷ 1 ∷ 1 ∷ 4 ∷ 8 ∷ 0 ∷ 1 ∷ 1 ∷ 1 ∷ 4 ∷ 4 ∷ 4 ∷ []) refl n

-- the tag octet of a context item: bits 7-4 the number, bit 3, and low in bits 2-0
module _ (s : List ℕ) (at n low : ℕ) (small : low < 8) (ok : n ≤ 254) (here : at < length s) (is : oct s at ≡ high_bits n * 16 + 8 + low) (has : Has s (at + 1) (number_octets n)) where
  context_head : head_at s at ≡ context_at s low n (at + 1 + length (number_octets n))
  unfolding head_at first_rule
  context_head =
      let e16 : oct s at / 16 ≡ high_bits n = omega arith in
      let e8 : oct s at % 16 / 8 ≡ 1 = omega arith in
      let em : oct s at % 8 ≡ low = omega arith in
      let num : NumberHas s at n (at + 1 + length (number_octets n)) = record { here = here; small = ok; high = e16; octets = has; after = refl } in
      rw (lt-leb (length s) at here, e8, number_complete s at n (at + 1 + length (number_octets n)) num, em)

context_complete : (s : List ℕ) (at n : ℕ) (xs : List ℕ) → Valid (context n xs) → Has s at (encode (context n xs)) → head_at s at ≡ tag_of at (context n xs)
unfolding encode tag_of tag_length context_at
context_complete s at n xs ok h =
    let l : ℕ = length xs in
    let p : ℕ = at + 1 + length (number_octets n) in
    let q : ℕ = p + length (length_octets l) in
    let rest = has_right s (at + 1) (number_octets n) (length_octets l ++ xs) h.2 in
    let end = has_bound s q xs (has_right s p (length_octets l) xs rest) in
    let sm = low_small l in
    let len : LengthHas s p (low_bits l) l q = record { small = ok.1; low = refl; octets = has_left s p (length_octets l) xs (omega arith) rest; after = refl } in
    let place : at + (1 + length (number_octets n) + length (length_octets l)) ≡ q = omega arith in
    context_head s at n (low_bits l) (omega arith) ok.0 h.0 h.1 (has_left s (at + 1) (number_octets n) (length_octets l ++ xs) (omega (arith, h.0)) h.2)
    ∙ rw (ne_eqb (low_bits l) 6 (omega arith), ne_eqb (low_bits l) 7 (omega arith), length_complete s p (low_bits l) l q len, le-ltb (length s) q (omega arith), le-ltb (length s - q) l (omega arith), place)

-- the tag octet of an application item breaks no rule of its own
first_fine : (n l b : ℕ) → n ≤ 12 → (n ≡ 1 → l ≤ 1) → l ≤ 5 → b ≡ n * 16 + l → first_rule b ≡ 0
unfolding first_rule
first_fine n l b h k w e =
    let e8 : b % 16 / 8 ≡ 0 = omega arith in
    let e16 : b / 16 ≡ n = omega arith in
    let em : b % 8 ≡ l = omega arith in
    by_test (eqb n 1)
    (λ d. rw (e8, e16, em, eqb-true n 1 d, le-ltb 5 l w, le-ltb 1 l (k (eqb-true n 1 d))))
    (λ d. rw (e8, e16, em, ne_eqb n 15 (omega arith), le-ltb 12 n h, le-ltb 5 l w, d))

-- the tag octet of an application item: a number below 15 is all in it
application_head : (s : List ℕ) (at n l : ℕ) → n ≤ 12 → (n ≡ 1 → l ≤ 1) → l ≤ 5 → at < length s → oct s at ≡ n * 16 + l → head_at s at ≡ application_at s l n (at + 1)
unfolding head_at high_bits number_octets
application_head s at n l h k w here is =
    let e8 : oct s at % 16 / 8 ≡ 0 = omega arith in
    let e16 : oct s at / 16 ≡ n = omega arith in
    let em : oct s at % 8 ≡ l = omega arith in
    let b : ltb n 15 ≡ true = lt-ltb n 15 (omega arith) in
    let num : NumberHas s at n (at + 1) = record { here = here; small = omega arith; high = rw b e16; octets = rw b (omega arith); after = rw b (omega arith) } in
    rw (lt-leb (length s) at here, first_fine n l (oct s at) h k w is, number_complete s at n (at + 1) num, e8, em)

application_complete : (s : List ℕ) (at n : ℕ) (xs : List ℕ) → Application n xs → Has s at (encode (application n xs)) → head_at s at ≡ tag_of at (application n xs)
unfolding encode tag_of tag_length application_at
application_complete s at n xs a h =
    let l : ℕ = length xs in
    let q : ℕ = at + 1 + length (length_octets l) in
    let short : l ≤ longest = omega (arith, a.high, most_longest n) in
    let len : LengthHas s (at + 1) (low_bits l) l q = record { small = short; low = refl; octets = has_left s (at + 1) (length_octets l) xs (omega (arith, h.0)) h.2; after = refl } in
    let fine : contents_at s q n l ≡ 0 = eqb-true (contents_at s q n l) 0 (contents_exact s q n xs (has_right s (at + 1) (length_octets l) xs h.2) a.low ∙ a.rule) in
    let place : at + (1 + length (length_octets l)) ≡ q = omega arith in
    application_head s at n (low_bits l) a.known (λ e. absurd (a.other e)) (low_small l) h.0 h.1
    ∙ rw (le-ltb 12 n a.known, ne_eqb n 1 a.other, length_complete s (at + 1) (low_bits l) l q len, le-ltb l (least n) a.low, le-ltb (most n) l a.high, fine, place)

-- an item that stands at a place is read there
pub head_complete : (s : List ℕ) (at : ℕ) (t : Thing) → Valid t → Has s at (encode t) → head_at s at ≡ tag_of at t
unfolding encode tag_of tag_length context_at application_at
head_complete s at (application n xs) ok h = application_complete s at n xs ok h
head_complete s at (boolean v) ok h = application_head s at 1 v (omega arith) (λ _. ok) (omega arith) h.0 h.1
head_complete s at (context n xs) ok h = context_complete s at n xs ok h
head_complete s at (opening n) ok h =
    let place : at + (1 + length (number_octets n)) ≡ at + 1 + length (number_octets n) = omega arith in
    rw place (context_head s at n 6 (omega arith) ok h.0 (omega (arith, h.1)) h.2)
head_complete s at (closing n) ok h =
    let place : at + (1 + length (number_octets n)) ≡ at + 1 + length (number_octets n) = omega arith in
    rw place (context_head s at n 7 (omega arith) ok h.0 (omega (arith, h.1)) h.2)

-- the number's octets lie within
number_end : (s : List ℕ) (at n p : ℕ) → NumberHas s at n p → p ≤ length s
number_end s at n p w = omega (arith, has_bound s (at + 1) (number_octets n) w.octets)

-- what a tag without the context bit is, whose number is up to 12: it is all in the tag octet
module _ (s : List ℕ) (at n p : ℕ) (w : NumberHas s at n p) (known : n ≤ 12) where
  all_high : oct s at / 16 ≡ n
  unfolding high_bits
  all_high = rw (lt-ltb n 15 (omega arith)) at w.high

  all_here : p ≡ at + 1
  unfolding number_octets
  all_here = let e : p ≡ at + 1 + 0 = rw (lt-ltb n 15 (omega arith)) at w.after in omega arith

-- octets at a place are those of an item, given its fields
context_has : (s : List ℕ) (at n p v q : ℕ) (xs : List ℕ) → oct s at % 16 / 8 ≡ 1 → NumberHas s at n p → LengthHas s p (oct s at % 8) v q → length xs ≡ v → Has s q xs
    → Has s at (encode (context n xs)) × (Item 1 n 0 q v ≡ tag_of at (context n xs))
unfolding encode tag_of tag_length
context_has s at n p v q xs bit w z e h =
    let place : at + (1 + length (number_octets n) + length (length_octets v)) ≡ q = omega arith in
    let rest : Has s p (length_octets v ++ xs) = has_append s p (length_octets v) xs z.octets (rw z.after at h) in
    rw e ((w.here, omega arith, has_append s (at + 1) (number_octets n) (length_octets v ++ xs) w.octets (rw w.after at rest)), rw place)

application_has : (s : List ℕ) (at n p v q : ℕ) (xs : List ℕ) → n ≤ 12 → (oct s at % 16 / 8 ≡ 1 → ⊥) → NumberHas s at n p → LengthHas s p (oct s at % 8) v q → length xs ≡ v → Has s q xs
    → Has s at (encode (application n xs)) × (Item 0 n 0 q v ≡ tag_of at (application n xs))
unfolding encode tag_of tag_length
application_has s at n p v q xs known bit w z e h =
    let high = all_high s at n p w known in
    let here = all_here s at n p w known in
    let place : at + (1 + length (length_octets v)) ≡ q = omega arith in
    let rest : Has s p (length_octets v ++ xs) = has_append s p (length_octets v) xs z.octets (rw z.after at h) in
    rw e ((w.here, omega arith, rw here at rest), rw place)

module _ (s : List ℕ) (os : Octets s) (at : ℕ) where
  -- a head that is good is that of an item which stands there
  abbrev Sound : Tag → Type 0
  Sound u = Good u → Stands s at u

  -- what is cut out there
  cut : (q v : ℕ) → q + v ≤ length s → length (take v (drop q s)) ≡ v
  cut q v h = length-take-le v (drop q s) (rw length-drop (omega arith))

  context_sound : (n p : ℕ) → NumberHas s at n p → oct s at % 16 / 8 ≡ 1 → Sound (context_at s (oct s at % 8) n p)
  unfolding context_at encode tag_of tag_length
  context_sound n p w bit =
      let place : p ≡ at + (1 + length (number_octets n)) = omega arith in
      pick_cases Sound (eqb (oct s at % 8) 6) (λ e _. (opening n, w.small, (w.here, omega (arith, eqb-true), w.octets), ap (Opening n) place)) (λ e6.
      pick_cases Sound (eqb (oct s at % 8) 7) (λ e _. (closing n, w.small, (w.here, omega (arith, eqb-true), w.octets), ap (Closing n) place)) (λ e7.
      let small : oct s at % 8 < 6 = omega (arith, eqb-false) in
      and_then_lem Sound (LengthStands s p (oct s at % 8)) (length_at s p (oct s at % 8)) (length_sound s os p (oct s at % 8) (number_end s at n p w) small) (λ v q z.
      pick_cases Sound (ltb (length s) q) (λ _ g. absurd g) (λ h1.
      pick_cases Sound (ltb (length s - q) v) (λ _ g. absurd g) (λ h2 _.
      let within : q + v ≤ length s = omega (arith, ltb-false) in
      let r = context_has s at n p v q (take v (drop q s)) bit w z (cut q v within) (has_take s q v within) in
      (context n (take v (drop q s)), (w.small, rw (cut q v within) z.small), r.0, r.1)))) (λ _ _ g. absurd g)))

  application_sound : (n p : ℕ) → NumberHas s at n p → (oct s at % 16 / 8 ≡ 1 → ⊥) → ltb 0 (first_rule (oct s at)) ≡ false → Sound (application_at s (oct s at % 8) n p)
  unfolding application_at encode tag_of tag_length
  application_sound n p w bit first =
      pick_cases Sound (ltb 12 n) (λ _ g. absurd g) (λ h12.
      let known : n ≤ 12 = ltb-false 12 n h12 in
      let high = all_high s at n p w known in
      let here = all_here s at n p w known in
      pick_cases Sound (eqb n 1) (λ e _.
      let one : oct s at / 16 ≡ 1 = high ∙ eqb-true n 1 e in
      (boolean (oct s at % 8), boolean_bits (oct s at) bit one first, (w.here, omega arith, omega (arith, w.here)), rw here)) (λ e1.
      let small : oct s at % 8 < 6 = omega (arith, first_bits (oct s at) bit (omega arith) first) in
      and_then_lem Sound (LengthStands s p (oct s at % 8)) (length_at s p (oct s at % 8)) (length_sound s os p (oct s at % 8) (number_end s at n p w) small) (λ v q z.
      pick_cases Sound (ltb v (least n)) (λ _ g. absurd g) (λ h1.
      pick_cases Sound (ltb (most n) v) (λ _ g. absurd g) (λ h2.
      pick_cases Sound (ltb 0 (contents_at s q n v)) (λ _ g. absurd g) (λ h3 _.
      let within : q + v ≤ length s = contents_in s q v (omega (arith, has_bound s p (length_octets v) z.octets)) n h3 in
      judged n p v q (take v (drop q s)) w z known bit (eqb-false n 1 e1) (cut q v within) (has_take s q v within) h1 h2 h3)))) (λ _ _ g. absurd g)))
    where
      judged : (n p v q : ℕ) (xs : List ℕ) → NumberHas s at n p → LengthHas s p (oct s at % 8) v q → n ≤ 12 → (oct s at % 16 / 8 ≡ 1 → ⊥) → (n ≡ 1 → ⊥) → length xs ≡ v → Has s q xs
          → ltb v (least n) ≡ false → ltb (most n) v ≡ false → ltb 0 (contents_at s q n v) ≡ false → Stands s at (Item 0 n 0 q v)
      judged n p v q xs w z known bit other e h h1 h2 h3 =
          let low : least n ≤ length xs = omega (arith, ltb-false) in
          let none : contents_at s q n (length xs) ≡ 0 = rw e (omega (arith, ltb-false 0 (contents_at s q n v) h3)) in
          let rule : good_contents n xs ≡ true = sym (contents_exact s q n xs h low) ∙ eq-eqb (contents_at s q n (length xs)) 0 none in
          let r = application_has s at n p v q xs known bit w z e h in
          (application n xs, record { known = known; other = other; low = low; high = omega (arith, ltb-false); rule = rule }, r.0, r.1)

  -- what is read is an item that stands there
  pub head_sound : Good (head_at s at) → Stands s at (head_at s at)
  unfolding head_at
  head_sound =
      pick_cases Sound (leb (length s) at) (λ _ g. absurd g) (λ _.
      pick_cases Sound (ltb 0 (first_rule (oct s at))) (λ _ g. absurd g) (λ first.
      and_then_lem Sound (NumberStands s at) (number_at s at) (number_sound s os at) (λ n p w.
      pick_cases Sound (eqb (oct s at % 16 / 8) 1)
      (λ e. context_sound n p w (eqb-true (oct s at % 16 / 8) 1 e))
      (λ e. application_sound n p w (eqb-false (oct s at % 16 / 8) 1 e) first)) (λ _ _ g. absurd g)))
