-- A head is refused with a number exactly when the page's row says so.
use Prim.Native.Nat.{ℕ, ◌+◌, ◌-◌, ◌/◌, ◌%◌, ◌≤◌, ◌<◌}
use native.Mathlib.Omega.{arith}
use mathlib.Core.Path.{◌≡◌, refl, sym, subst, ◌∙◌}
use mathlib.Core.Logic.{◌⊎◌, inl, inr, ◌↔◌}
use mathlib.Core.List.{List}
use lib.ListN.{length}
use lib.Dec.{ltb, leb, eqb}
use borrow.Author.Tests.{ltb-true, ltb-false, leb-true, leb-false, eqb-true, eqb-false, lt-ltb, le-ltb, lt-leb, le-leb, ne_eqb}
use Rattle.octets.specs.Choice.{pick, pick_cases, by_test}
use Rattle.octets.specs.Reading.{oct, Octets}
use Rattle.tags.specs.Types.{longest, least, most}
use Rattle.tags.specs.Reading.{and_then, number_at, length_at, first_rule, contents_at, context_at, application_at, head_at}
use Rattle.tags.specs.Rows.{number_bits, length_bits, IsContext, BitsFine, NumberTo, LengthCut, LengthTo, TypeTag, ContextTag, Tagged, Early, WrongNumber, NotShortest, WrongLength, WrongContents, Given}
use Rattle.tags.specs.Rows.NumberTo.{number_inside, number_next}
use Rattle.tags.specs.Rows.Spelled.{one_octet, two_octets, four_octets}
use Rattle.tags.specs.Rows.LengthCut.{cut_first, cut_two, cut_four}
use Rattle.tags.specs.Rows.LengthTo.{length_inside, length_next}
use Rattle.tags.specs.Rows.Early.{no_octet, no_number, no_length, no_contents, no_context}
use Rattle.tags.specs.Rows.WrongNumber.{next_wrong, type_above, next_above}
use Rattle.tags.specs.Rows.NotShortest.{longer_form, six_seven, boolean_over}
use Rattle.tags.specs.Rows.WrongLength.{wrong_length, over_length}
use Rattle.tags.specs.Rows.WrongContents.{rule_broken}
use Rattle.tags.specs.Rows.Given.{thirty, thirty_one, thirty_two, thirty_three, thirty_four}
use Rattle.tags.specs.Head.{Tag}
use Rattle.tags.specs.Head.Tag.{Item, Refused}
use Rattle.tags.proofs.Bounds.{and_then_lem}
use Rattle.tags.proofs.Exact.{most_longest}
use Rattle.tags.proofs.Refusals.{TagHas}
use Rattle.tags.proofs.NumberRows.{Plain, Fine, FirstSays, first_says, first_none, NumberBad, NumberSays, number_says, number_is, number_bad, number_within}
use Rattle.tags.proofs.NumberRows.FirstSays.{first_fine, first_type, first_six, first_boolean}
use Rattle.tags.proofs.NumberRows.NumberBad.{number_missing, number_wrong}
use Rattle.tags.proofs.LengthRows.{LengthBad, LengthSays, length_says, length_is, length_bad, length_within}
use Rattle.tags.proofs.LengthRows.LengthBad.{length_missing, length_longer, length_over}
use Rattle.tags.proofs.ContentsRows.{ContentsSay, contents_say, broken_is, missing_is}
use Rattle.tags.proofs.ContentsRows.ContentsSay.{contents_good, contents_missing, contents_broken}

-- ---- what is refused, by a row
bits_fine : (b : ℕ) → Fine b → BitsFine b
bits_fine b (inl c) = inl c
bits_fine b (inr a) = inr a.bits

plain_of : (b : ℕ) → Fine b → (b % 16 / 8 ≡ 1 → ⊥) → Plain b
plain_of b (inl c) not = absurd (not c)
plain_of b (inr a) not = a

module _ (s : List ℕ) (os : Octets s) (at : ℕ) where
  abbrev b : ℕ
  b = oct s at

  abbrev P : Tag → Type 0
  P = TagHas (λ x. Given x s at)

  length_given : (p x : ℕ) → Tagged s at p → LengthBad s (b % 8) p x → Given x s at
  length_given p x t (length_missing e five c) = thirty e (no_length p t five c)
  length_given p x t (length_longer e five v low q sp less) = thirty_two e (longer_form p v low q t five sp less)
  length_given p x t (length_over e v q to more) = thirty_three e (over_length p v q t to more)

  number_given : Fine b → (x : ℕ) → NumberBad s at x → Given x s at
  number_given f x (number_missing e n end) = thirty e (no_number end n (bits_fine b f))
  number_given f x (number_wrong e n next w) = thirty_one e (next_wrong next n (bits_fine b f) w)

  context_given : at < length s → (n p : ℕ) → NumberTo s at n p → IsContext b → P (context_at s (b % 8) n p)
  unfolding context_at
  context_given here n p w bit =
      pick_cases P (eqb (b % 8) 6) (λ _. tt) (λ e6.
      pick_cases P (eqb (b % 8) 7) (λ _. tt) (λ e7.
      let five : b % 8 ≤ 5 = omega (arith, eqb-false (b % 8) 6 e6, eqb-false (b % 8) 7 e7) in
      let t : ContextTag s at n p = record { here = here; class = bit; number = w; bits = five } in
      and_then_lem P (LengthSays s (b % 8) p) (length_at s p (b % 8)) (length_says s os (b % 8) p (number_within s at n p here w) five) (λ v q z.
      pick_cases P (ltb (length s) q) (λ h. absurd (omega (arith, ltb-true (length s) q h, z.2))) (λ _.
      pick_cases P (ltb (length s - q) v) (λ h. thirty refl (no_context n p v q t z.0 z.1 (omega (arith, ltb-true (length s - q) v h)))) (λ _. tt)))
      (λ x z. length_given p x (inr (n, t)) z)))

  contents_given : (n p v q x : ℕ) (u : Tag) → TypeTag s at n p → LengthTo s (b % 8) p v q → least n ≤ v → v ≤ most n → contents_at s q n v ≡ x → P u → ContentsSay s q n v x
      → P (pick (ltb 0 x) (Refused x) u)
  contents_given n p v q x u t to low high d ok (contents_good e) = rw e ok
  contents_given n p v q x u t to low high d ok (contents_missing e h) =
      rw e (thirty refl (no_contents n p v q t to low high (λ w. omega (arith, broken_is s q n v low w)) h))
  contents_given n p v q x u t to low high d ok (contents_broken e w) = rw e (thirty_four refl (rule_broken n p v q t to low high w))

  application_given : at < length s → Plain b → (n p : ℕ) → NumberTo s at n p → P (application_at s (b % 8) n p)
  unfolding application_at
  application_given here a n p w =
      pick_cases P (ltb 12 n) (λ h. above (ltb-true 12 n h) w a.number) (λ h0.
      pick_cases P (eqb n 1) (λ _. tt) (λ h1.
      let t : TypeTag s at n p = typed (ltb-false 12 n h0) (eqb-false n 1 h1) w in
      and_then_lem P (LengthSays s (b % 8) p) (length_at s p (b % 8)) (length_says s os (b % 8) p (number_within s at n p here w) a.bits) (λ v q z.
      pick_cases P (ltb v (least n)) (λ h. thirty_three refl (wrong_length n p v q t z.0 (inl (ltb-true v (least n) h)))) (λ h2.
      pick_cases P (ltb (most n) v) (λ h. thirty_three refl (wrong_length n p v q t z.0 (inr (ltb-true (most n) v h)))) (λ h3.
      let low : least n ≤ v = ltb-false v (least n) h2 in
      let high : v ≤ most n = ltb-false (most n) v h3 in
      contents_given n p v q (contents_at s q n v) (Item 0 n 0 q v) t z.0 low high refl tt (contents_say s q n v z.2))))
      (λ x z. length_given p x (inl (n, t)) z)))
    where
      above : 12 < n → NumberTo s at n p → (number_bits b ≡ 15) ⊎ (number_bits b ≤ 12) → Given 31 s at
      above h (number_inside m e d) (inl f) = absurd (omega arith)
      above h (number_inside m e d) (inr f) = absurd (omega arith)
      above h (number_next f next low high e d) _ = thirty_one refl (next_above next a.class f a.bits low high)

      typed : n ≤ 12 → (n ≡ 1 → ⊥) → NumberTo s at n p → TypeTag s at n p
      typed known other (number_inside m e d) =
          record { here = here; class = a.class; number = sym e; known = known; other = other; bits = a.bits; after = d }
      typed known other (number_next f next low high e d) = absurd (omega arith)

  first_given : at < length s → (x : ℕ) (u : Tag) → (Fine b → P u) → FirstSays b x → P (pick (ltb 0 x) (Refused x) u)
  first_given here x u k (first_fine e f) = rw e (k f)
  first_given here x u k (first_type e app low high) = rw e (thirty_one refl (type_above here app low high))
  first_given here x u k (first_six e app n six) = rw e (thirty_two refl (six_seven here app n six))
  first_given here x u k (first_boolean e app one two five) = rw e (thirty_two refl (boolean_over here app one two five))

  pub rows_sound : TagHas (λ x. Given x s at) (head_at s at)
  unfolding head_at
  rows_sound =
      pick_cases P (leb (length s) at) (λ h. thirty refl (no_octet (leb-true (length s) at h))) (λ h0.
      let here : at < length s = leb-false (length s) at h0 in
      first_given here (first_rule b) _ (λ f.
      and_then_lem P (NumberSays s at) (number_at s at) (number_says s os at here) (λ n p w.
      pick_cases P (eqb (b % 16 / 8) 1)
      (λ e. context_given here n p w (eqb-true (b % 16 / 8) 1 e))
      (λ e. application_given here (plain_of b f (eqb-false (b % 16 / 8) 1 e)) n p w))
      (λ x z. number_given f x z)) (first_says b (os at)))

  -- ---- and what a row says is refused so
  past : at < length s → Fine b
      → head_at s at ≡ and_then (number_at s at) (λ n p. pick (eqb (b % 16 / 8) 1) (context_at s (b % 8) n p) (application_at s (b % 8) n p))
  unfolding head_at
  past here f = rw (lt-leb (length s) at here, first_none b f)

  first_refused : at < length s → (x : ℕ) → 0 < x → first_rule b ≡ x → head_at s at ≡ Refused x
  unfolding head_at
  first_refused here x some e = rw (lt-leb (length s) at here, e, lt-ltb 0 x some)

  number_refused : at < length s → Fine b → (x : ℕ) → NumberBad s at x → head_at s at ≡ Refused x
  number_refused here f x w = past here f ∙ rw (number_bad s at x here w)

  context_is : (n p : ℕ) → ContextTag s at n p
      → head_at s at ≡ and_then (length_at s p (b % 8)) (λ v q. pick (ltb (length s) q) (Refused 30) (pick (ltb (length s - q) v) (Refused 30) (Item 1 n 0 q v)))
  unfolding context_at
  context_is n p t =
      past t.here (inl t.class) ∙ rw (number_is s at n p t.here t.number, t.class, ne_eqb (b % 8) 6 (omega arith), ne_eqb (b % 8) 7 (omega arith))

  -- a type's length, and then its contents
  abbrev by_type : ℕ → ℕ → ℕ → Tag
  by_type n v q =
      pick (ltb v (least n)) (Refused 33) (pick (ltb (most n) v) (Refused 33) (pick (ltb 0 (contents_at s q n v)) (Refused (contents_at s q n v)) (Item 0 n 0 q v)))

  type_is : (n p : ℕ) → TypeTag s at n p → head_at s at ≡ and_then (length_at s p (b % 8)) (by_type n)
  unfolding application_at
  type_is n p t =
      let f : Plain b = record { class = t.class; bits = t.bits; number = inr (omega arith); boolean = λ one. absurd (t.other (omega arith)) } in
      let w : NumberTo s at n p = number_inside (omega arith) (sym t.number) t.after in
      past t.here (inr f) ∙ rw (number_is s at n p t.here w, t.class, le-ltb 12 n t.known, ne_eqb n 1 t.other)

  length_refused : (p x : ℕ) → Tagged s at p → LengthBad s (b % 8) p x → head_at s at ≡ Refused x
  length_refused p x (inl (n, t)) w = type_is n p t ∙ rw (length_bad s os (b % 8) p x w)
  length_refused p x (inr (n, t)) w = context_is n p t ∙ rw (length_bad s os (b % 8) p x w)

  fine_of : number_bits b ≡ 15 → BitsFine b → Fine b
  fine_of n (inl c) = inl c
  fine_of n (inr five) =
      by_test (eqb (b % 16 / 8) 1) (λ e. inl (eqb-true (b % 16 / 8) 1 e))
      (λ e. inr (record { class = omega (arith, eqb-false (b % 16 / 8) 1 e); bits = five; number = inl n; boolean = λ one. absurd (omega arith) }))

  type_within : (n p v q : ℕ) → TypeTag s at n p → LengthTo s (b % 8) p v q → q ≤ length s
  type_within n p v q t to = length_within s (b % 8) p v q (omega arith) to

  early_is : Early s at → head_at s at ≡ Refused 30
  unfolding head_at
  early_is (no_octet h) = rw (le-leb (length s) at h)
  early_is (no_number end n f) = number_refused (omega arith) (fine_of n f) 30 (number_missing refl n end)
  early_is (no_length p t five c) = length_refused p 30 t (length_missing refl five c)
  early_is (no_contents n p v q t to low high none short) =
      let small : v ≤ longest = omega (arith, most_longest n) in
      let early : contents_at s q n v ≡ 30 = missing_is s q n v (type_within n p v q t to) none short in
      type_is n p t ∙ rw (length_is s (b % 8) p v q to small, le-ltb v (least n) low, le-ltb (most n) v high, early)
  early_is (no_context n p v q t to small short) =
      let within : q ≤ length s = length_within s (b % 8) p v q (number_within s at n p t.here t.number) to in
      context_is n p t ∙ rw (length_is s (b % 8) p v q to small, le-ltb (length s) q within, lt-ltb (length s - q) v (omega arith))

  wrong_number_is : WrongNumber s at → head_at s at ≡ Refused 31
  unfolding application_at first_rule
  wrong_number_is (next_wrong next n f w) = number_refused (omega arith) (fine_of n f) 31 (number_wrong refl n next w)
  wrong_number_is (type_above here app low high) = first_refused here 31 (omega arith) (rw (app, ne_eqb (b / 16) 15 (omega arith), lt-ltb 12 (b / 16) low))
  wrong_number_is (next_above next app n five low high) =
      let here : at < length s = omega arith in
      let f : Plain b = record { class = app; bits = five; number = inl n; boolean = λ one. absurd (omega arith) } in
      let w : NumberTo s at (oct s (at + 1)) (at + 2) = number_next n next low high refl refl in
      past here (inr f) ∙ rw (number_is s at (oct s (at + 1)) (at + 2) here w, app, lt-ltb 12 (oct s (at + 1)) (omega arith))

  not_shortest_is : NotShortest s at → head_at s at ≡ Refused 32
  unfolding first_rule
  not_shortest_is (longer_form p v low q t five sp less) = length_refused p 32 t (length_longer refl five v low q sp less)
  not_shortest_is (six_seven here app (inl known) six) =
      first_refused here 32 (omega arith) (rw (app, ne_eqb (b / 16) 15 (omega arith), le-ltb 12 (b / 16) known, lt-ltb 5 (b % 8) six))
  not_shortest_is (six_seven here app (inr n) six) = first_refused here 32 (omega arith) (rw (app, n, le-ltb (b % 8) 6 six))
  not_shortest_is (boolean_over here app one two five) = first_refused here 32 (omega arith) (rw (app, one, le-ltb 5 (b % 8) five, lt-ltb 1 (b % 8) two))

  -- a length that is not over 16,384, and wrong for its type
  type_wrong : (n p v q : ℕ) → TypeTag s at n p → LengthTo s (b % 8) p v q → v ≤ longest → by_type n v q ≡ Refused 33 → head_at s at ≡ Refused 33
  type_wrong n p v q t to small e = type_is n p t ∙ rw (length_is s (b % 8) p v q to small) e

  wrong_length_is : WrongLength s at → head_at s at ≡ Refused 33
  wrong_length_is (over_length p v q t to more) = length_refused p 33 t (length_over refl v q to more)
  wrong_length_is (wrong_length n p v q t to wrong) =
      by_test (ltb longest v) (λ h. length_refused p 33 (inl (n, t)) (length_over refl v q to (ltb-true longest v h))) (λ h.
      type_wrong n p v q t to (ltb-false longest v h) (by wrong))
    where
      by : (v < least n) ⊎ (most n < v) → by_type n v q ≡ Refused 33
      by (inl low) = rw (lt-ltb v (least n) low)
      by (inr high) = by_test (ltb v (least n)) (λ e. rw e) (λ e. rw (e, lt-ltb (most n) v high))

  wrong_contents_is : WrongContents s at → head_at s at ≡ Refused 34
  wrong_contents_is (rule_broken n p v q t to low high w) =
      type_is n p t ∙ rw (length_is s (b % 8) p v q to (omega (arith, most_longest n)), le-ltb v (least n) low, le-ltb (most n) v high, broken_is s q n v low w)

  pub rows_complete : (x : ℕ) → Given x s at → head_at s at ≡ Refused x
  rows_complete x (thirty e w) = rw e (early_is w)
  rows_complete x (thirty_one e w) = rw e (wrong_number_is w)
  rows_complete x (thirty_two e w) = rw e (not_shortest_is w)
  rows_complete x (thirty_three e w) = rw e (wrong_length_is w)
  rows_complete x (thirty_four e w) = rw e (wrong_contents_is w)

  -- refused with a number exactly when its row says so
  pub rows_exact : (x : ℕ) → (head_at s at ≡ Refused x) ↔ Given x s at
  rows_exact x = (λ e. subst P e rows_sound, λ w. rows_complete x w)

-- how far the number and the length go
number_near : (s : List ℕ) (at n p : ℕ) → NumberTo s at n p → p ≤ at + 2
number_near s at n p (number_inside low e d) = omega arith
number_near s at n p (number_next f next low high e d) = omega arith

length_near : (s : List ℕ) (l p v q : ℕ) → LengthTo s l p v q → q ≤ p + 5
length_near s l p v q (length_inside low e d) = omega arith
length_near s l p v q (length_next five low (one_octet here top e m d) more) = omega arith
length_near s l p v q (length_next five low (two_octets room f e m d) more) = omega arith
length_near s l p v q (length_next five low (four_octets room f e m d) more) = omega arith

-- an item that ends early is short: two octets at most for the tag octet and the number, five for the length, and its contents
pub early_short : (s : List ℕ) (at : ℕ) → Early s at → length s < at + 16391
early_short s at (no_octet h) = omega arith
early_short s at (no_number end n f) = omega arith
early_short s at (no_length p t five c) = omega (arith, cut p c, near p t)
  where
    cut : (p : ℕ) → LengthCut s p → length s ≤ p + 4
    cut p (cut_first h) = omega arith
    cut p (cut_two here f h) = omega arith
    cut p (cut_four here f h) = omega arith

    near : (p : ℕ) → Tagged s at p → p ≤ at + 2
    near p (inl (n, t)) = omega arith
    near p (inr (n, t)) = number_near s at n p t.number
early_short s at (no_contents n p v q t to low high none short) = omega (arith, length_near s (length_bits (oct s at)) p v q to, t.after, most_longest n)
early_short s at (no_context n p v q t to small short) = omega (arith, length_near s (length_bits (oct s at)) p v q to, number_near s at n p t.number)
