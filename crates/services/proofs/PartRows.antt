-- The parts of a layout as they are read among items: each refuses with the number of the offence that the page's words say.
use Rattle.std.specs.Prelude.{Err}
use Prim.Native.Nat.{ℕ, zero, suc, ◌+◌, ◌≤◌}
use native.Mathlib.Omega.{arith}
use mathlib.Core.Path.{◌≡◌, refl, sym, ap, subst, ◌∙◌}
use mathlib.Core.Logic.{⊎_elim}
use mathlib.Core.List.{List, [], ◌∷◌, ◌++◌}
use mathlib.Core.Bool.{true, false}
use lib.ListN.{length}
use borrow.Author.Tests.{eq-eqb}
use Rattle.octets.specs.Choice.{pick, pick_cases, by_test, impossible, not_so}
use Rattle.octets.specs.Has.{Has}
use Rattle.tags.specs.Layout.{Thing, Valid, encode, tag_length}
use Rattle.tags.specs.Layout.Thing.{application, boolean, context, opening, closing}
use Rattle.items.specs.Records.{Rec, rec}
use Rattle.items.specs.Reading.{most_items}
use Rattle.items.specs.Grammar.{Balanced, record_of, records_from}
use Rattle.services.specs.Parts.{Answer, Then, is, present, wanted, number_of, last}
use Rattle.services.specs.Parts as parts
use Rattle.services.specs.Layout.{valued}
use Rattle.services.specs.Rows.{Rule, number_in, Keeps, Wanted, item_of, rule_of, Comes, Optional, Behind, brings}
use Rattle.services.specs.Rows.Rule.{nothing}
use Rattle.services.specs.Rows.Breaks.{wrong_length, longer_form, out_of_range}
use Rattle.services.specs.Rows.Wanted.{in_context, of_type, group, optional, limits}
use Rattle.services.specs.declared.Service.{Service}
use Rattle.services.specs.declared.Span.{Span}
use Rattle.services.proofs.Spelling.{stands_value}
use Rattle.services.proofs.Groups.{balanced_more, split}
use Rattle.services.proofs.Things.{Here, Shape, contexts, applications, contents_here, here_next, records_are, part_reads, valued_append, opens, group_reads, group_left}
use Rattle.services.proofs.Offences.{Says, says_after, says_good, says_missing, says_broken, says_there, says_absent}
use Rattle.services.proofs.Rules.{Judges}

-- the last part was read
pub last_says : (v : Service) (at : ℕ) (ts : List Thing) → Says [] ts (last v (records_from at 0 ts))
unfolding last records_from
last_says v at [] = says_good v
last_says v at (t ∷ ts) = says_after t ts

-- a part of one item
pub record Single (w : Wanted) (kind number : ℕ) : Type 0 where
  pub shape : Shape kind number (item_of w)
  pub only : (rest us : List Thing) → Behind w rest us → rest ≡ us
  pub own : (rest : List Thing) → Behind w rest rest

pub in_context_lem : (n : ℕ) (r : Rule) → Single (in_context n r) 1 n
in_context_lem n r = record { shape = contexts n; only = λ rest us e. e; own = λ rest. refl }

pub of_type_lem : (n : ℕ) (r : Rule) → (n ≡ 1 → ⊥) → Single (of_type n r) 0 n
of_type_lem n r other = record { shape = applications n other; only = λ rest us e. e; own = λ rest. refl }

pub an_option : (n : ℕ) (r : Rule) → Single (optional n r) 1 n
an_option n r = record { shape = contexts n; only = λ rest us e. e; own = λ rest. refl }

pub the_limits : Single limits 1 0
the_limits = record { shape = contexts 0; only = λ rest us e. e; own = λ rest. refl }

-- a list begins with one item
same_head : {t u : Thing} {ts us : List Thing} → t ∷ ts ≡ u ∷ us → t ≡ u
same_head e = cc

module _ (o : List ℕ) (w : Wanted) (kind number : ℕ) (single : Single w kind number) (ws : List Wanted) where
  abbrev behind : ℕ → List ℕ → ℕ
  behind at xs = at + length (encode (item_of w xs))

  abbrev contents_at : ℕ → List ℕ → ℕ
  contents_at at xs = at + tag_length (item_of w xs)

  own_kind : (at : ℕ) (xs : List ℕ) → is kind number (record_of at 0 (item_of w xs)) ≡ true
  own_kind at xs = rw (single.shape.own at xs, eq-eqb kind kind refl, eq-eqb number number refl)

  -- an item of another kind or number is not the wanted one
  not_comes : (at : ℕ) (t : Thing) (ts : List Thing) → is kind number (record_of at 0 t) ≡ false → Comes w (t ∷ ts) → ⊥
  not_comes at t ts e (xs, (rest, d)) = not_so (sym e ∙ rw (same_head d) (own_kind at xs))

  none_comes : Comes w [] → ⊥
  none_comes (xs, (rest, d)) = impossible (cc)

  module _ (rule : Rec → ℕ) (next : Then) where
    abbrev part : ℕ → List Thing → Answer
    part at ts = wanted kind number rule (number_of o) next (records_from at 0 ts)

    -- what the rule says of contents that stand in the octets
    abbrev Judged : Type 0
    Judged = (at : ℕ) (xs : List ℕ) → Valid (item_of w xs) → Has o (contents_at at xs) xs → Judges (rule_of w) xs (rule (rec kind number 0 0 (contents_at at xs) (length xs)))

    -- what is said behind the part, from the number in it on
    abbrev Onward : Type 0
    Onward = (at : ℕ) (xs : List ℕ) (rest : List Thing) → Here o (behind at xs) rest → Says (brings w xs ++ ws) rest (next (number_in xs) (records_from (behind at xs) 0 rest))

    breaks_is : (at : ℕ) (xs : List ℕ) (rest : List Thing) → Here o at (item_of w xs ∷ rest) → rule (rec kind number 0 0 (contents_at at xs) (length xs)) ≡ 41 → part at (item_of w xs ∷ rest) ≡ Err 41
    unfolding wanted
    breaks_is at xs rest h e = rw (records_are o kind number (item_of w) single.shape at xs rest h, eq-eqb kind kind refl, eq-eqb number number refl, e)

    keeps_is : (at : ℕ) (xs : List ℕ) (rest : List Thing) → Here o at (item_of w xs ∷ rest) → rule (rec kind number 0 0 (contents_at at xs) (length xs)) ≡ 0
        → part at (item_of w xs ∷ rest) ≡ next (number_in xs) (records_from (behind at xs) 0 rest)
    keeps_is at xs rest h e =
        part_reads o kind number (item_of w) single.shape at xs rest h rule next e
        ∙ rw (stands_value o (contents_at at xs) xs (contents_here o kind number (item_of w) single.shape at xs rest h))

    found_says : Judged → Onward → (at : ℕ) (xs : List ℕ) (rest : List Thing) → Here o at (item_of w xs ∷ rest) → Says (w ∷ ws) (item_of w xs ∷ rest) (part at (item_of w xs ∷ rest))
    found_says judged onward at xs rest h =
        ⊎_elim
        (λ k.
        subst (Says (w ∷ ws) (item_of w xs ∷ rest)) (sym (keeps_is at xs rest h k.0))
        (says_there w ws _ xs rest refl _ k.1
        (λ us b. subst (λ (vs : List Thing). Says (brings w xs ++ ws) vs (next (number_in xs) (records_from (behind at xs) 0 rest))) (single.only rest us b) (onward at xs rest (here_next o kind number (item_of w) single.shape at xs rest h)))
        rest (single.own rest)))
        (λ k. subst (Says (w ∷ ws) (item_of w xs ∷ rest)) (sym (breaks_is at xs rest h k.0)) (says_broken w ws _ xs rest refl k.1))
        (judged at xs h.valid.0 (contents_here o kind number (item_of w) single.shape at xs rest h))

    -- an item of the wanted kind and number
    told : Judged → Onward → (at : ℕ) (t : Thing) (ts : List Thing) → is kind number (record_of at 0 t) ≡ true → Here o at (t ∷ ts) → Says (w ∷ ws) (t ∷ ts) (part at (t ∷ ts))
    told judged onward at t ts e =
        let g = single.shape.only at t e in
        subst (λ (u : Thing). Here o at (u ∷ ts) → Says (w ∷ ws) (u ∷ ts) (part at (u ∷ ts))) (sym g.1) (found_says judged onward at g.0 ts)

    -- ---- a required part
    pub part_says : Judged → Onward → (Optional w → ⊥) → (at : ℕ) (ts : List Thing) → Here o at ts → Says (w ∷ ws) ts (part at ts)
    unfolding wanted records_from
    part_says judged onward required at [] h = says_missing w ws [] required none_comes
    part_says judged onward required at (t ∷ ts) h =
        by_test (is kind number (record_of at 0 t)) (λ e. told judged onward at t ts e h) (λ e. subst (Says (w ∷ ws) (t ∷ ts)) (rw e) (says_missing w ws (t ∷ ts) required (not_comes at t ts e)))

-- ---- an optional part: what is said where it is absent is said of the parts behind it
module _ (o : List ℕ) (w : Wanted) (number : ℕ) (single : Single w 1 number) (ws : List Wanted) (rule : Rec → ℕ) (next : Then) where
  pub option_says : Judged o w 1 number single ws rule next → Onward o w 1 number single ws rule next → Optional w → (a : Answer) (at : ℕ) (ts : List Thing) → Here o at ts → Says ws ts a
      → Says (w ∷ ws) ts (pick (present number (records_from at 0 ts)) (wanted 1 number rule (number_of o) next (records_from at 0 ts)) a)
  unfolding present records_from
  option_says judged onward option a at [] h later = says_absent w ws [] a option (none_comes o w 1 number single ws) later
  option_says judged onward option a at (t ∷ ts) h later =
      pick_cases (Says (w ∷ ws) (t ∷ ts)) (is 1 number (record_of at 0 t))
      (λ e. told o w 1 number single ws rule next judged onward at t ts e h)
      (λ e. says_absent w ws (t ∷ ts) a option (not_comes o w 1 number single ws at t ts e) later)

-- ---- a group
-- what is behind a group's own closing closes nothing that it did not open
closed : (c m k : ℕ) (groups : List ℕ) (inner us : List Thing) → Balanced m groups inner → Balanced k (groups ++ (c ∷ [])) (inner ++ (closing c ∷ us)) → (j : ℕ) × (j ≤ k) × Balanced j [] us
closed c m zero [] [] us a b = absurd b
closed c m (suc k) [] [] us a b = (k, omega arith, b.1)
closed c m k (n ∷ groups) [] us a b = absurd a
closed c zero k groups (t ∷ inner) us a b = absurd a
closed c (suc m) zero groups (t ∷ inner) us a b = absurd b
closed c (suc m) (suc k) groups (application n xs ∷ inner) us a b = let r = closed c m k groups inner us a b in (r.0, omega (arith, r.1), r.2)
closed c (suc m) (suc k) groups (boolean v ∷ inner) us a b = let r = closed c m k groups inner us a b in (r.0, omega (arith, r.1), r.2)
closed c (suc m) (suc k) groups (context n xs ∷ inner) us a b = let r = closed c m k groups inner us a b in (r.0, omega (arith, r.1), r.2)
closed c (suc m) (suc k) groups (opening n ∷ inner) us a b = let r = closed c m k (n ∷ groups) inner us a.1 b.1 in (r.0, omega (arith, r.1), r.2)
closed c (suc m) (suc k) [] (closing n ∷ inner) us a b = absurd a
closed c (suc m) (suc k) (g ∷ groups) (closing n ∷ inner) us a b = let r = closed c m k groups inner us a.1 b.1 in (r.0, omega (arith, r.1), r.2)

nothing_broken : Keeps nothing []
nothing_broken (wrong_length z) = z
nothing_broken (longer_form z) = z
nothing_broken (out_of_range z) = z

module _ (o : List ℕ) (ws : List Wanted) (next : Span → List Rec → Answer) (onward : (v : Span) (at : ℕ) (us : List Thing) → Here o at us → Says ws us (next v (records_from at 0 us))) where
  abbrev value : ℕ → List Thing → Answer
  value at ts = parts.group 3 next (records_from at 0 ts)

  inside : (at : ℕ) (ts us inner : List Thing) → opening 3 ∷ ts ≡ valued inner ++ us → (k : ℕ) → k ≤ most_items → Balanced k (3 ∷ []) (inner ++ (closing 3 ∷ us)) → Balanced most_items [] inner → Here o at (opening 3 ∷ ts) → Says ws us (value at (opening 3 ∷ ts))
  inside at ts us inner z k most b whole h =
      let j = closed 3 most_items k [] inner us whole b in
      let g : Here o at (valued inner ++ us) = subst (Here o at) z h in
      subst (λ (vs : List Thing). Says ws us (value at vs)) (sym z)
      (subst (Says ws us) (sym (group_reads o at inner us g whole next)) (onward _ _ us (group_left o at inner us g whole j.0 (omega (arith, j.1)) j.2)))

  opened : (at : ℕ) (ts : List Thing) (k : ℕ) → k ≤ most_items → Balanced k [] (opening 3 ∷ ts) → Here o at (opening 3 ∷ ts) → Says (group 3 ∷ ws) (opening 3 ∷ ts) (value at (opening 3 ∷ ts))
  opened at ts zero most b h = absurd b
  opened at ts (suc k) most b h =
      let s = split 3 k [] ts b.1 in
      says_there (group 3) ws (opening 3 ∷ ts) [] ts refl (value at (opening 3 ∷ ts)) nothing_broken
      (λ us e. inside at ts us e.0 (ap (λ (vs : List Thing). opening 3 ∷ vs) e.1 ∙ sym (valued_append e.0 us)) k (omega arith) (subst (Balanced k (3 ∷ [])) e.1 b.1) e.2 h)
      s.rest (s.inner, s.things, balanced_more k most_items (omega arith) [] s.inner s.whole)

  no_opening : (at : ℕ) (t : Thing) (ts : List Thing) → is 2 3 (record_of at 0 t) ≡ false → Comes (group 3) (t ∷ ts) → ⊥
  unfolding record_of
  no_opening at t ts e (xs, (rest, d)) = let z : t ≡ opening 3 = same_head d in not_so (sym e ∙ rw z)

  no_item : Comes (group 3) [] → ⊥
  no_item (xs, (rest, d)) = impossible (cc)

  pub group_says : (at : ℕ) (ts : List Thing) → Here o at ts → Says (group 3 ∷ ws) ts (value at ts)
  unfolding parts.group records_from
  group_says at [] h = says_missing (group 3) ws [] (λ e. e) no_item
  group_says at (t ∷ ts) h =
      by_test (is 2 3 (record_of at 0 t))
      (λ e. subst (λ (u : Thing). Here o at (u ∷ ts) → Says (group 3 ∷ ws) (u ∷ ts) (value at (u ∷ ts))) (sym (opens at t e)) (λ g. opened at ts g.room g.most g.balanced g) h)
      (λ e. subst (Says (group 3 ∷ ws) (t ∷ ts)) (rw e) (says_missing (group 3) ws (t ∷ ts) (λ e. e) (no_opening at t ts e)))
