-- The test of a record kind by kind is the test of a record; what a good record's item is, and how long it is.
use Prim.Native.Nat.{ℕ, suc, ◌-◌, ◌≤◌}
use native.Mathlib.Omega.{arith}
use mathlib.Core.Path.{◌≡◌, refl, sym, ◌∙◌}
use mathlib.Core.List.{List, [], ◌∷◌}
use mathlib.Core.Bool.{Bool, true, false}
use lib.ListN.{length, length-take, length-drop}
use lib.Dec.{ltb, leb, eqb}
use borrow.Author.Tests.{eqb-true, eqb-false, eq-eqb, leb-true, le-leb}
use Rattle.octets.specs.Choice.{pick_so, both, by_test, both_true, impossible}
use Rattle.tags.specs.Types.{longest, least, most}
use Rattle.tags.specs.Layout.{Thing}
use Rattle.tags.specs.Layout.Thing.{application, boolean, context, opening, closing}
use Rattle.items.specs.Records.{Rec, thing_of}
use Rattle.items.specs.Reading.{deepest}
use Rattle.items.specs.Grammar.{record_of}
use Rattle.item_judge.specs.Judge.{good_record}
use Rattle.item_judge.specs.Meaning.{named}
use Rattle.item_judge.specs.Kinds.{inside_test, boolean_rule, application_rule, type_rule, context_rule, bracket_rule, closing_rule, contents_rule, kind_rule}
use Rattle.item_judge.proofs.Good.{Good, good_record_lem, record_good}

pub same_test : (a b : Bool) → (a ≡ true → b ≡ true) → (b ≡ true → a ≡ true) → a ≡ b
same_test true b f g = sym (f refl)
same_test false true f g = g refl
same_test false false f g = refl

-- the contents are as many as the record says exactly where they lie in the source
pub inside_len : (source : List ℕ) (r : Rec) → inside_test (length source) r.place r.len ≡ true → r.len ≡ length (named source r)
unfolding inside_test
inside_len source r e =
    by_test (eqb r.len 0)
    (λ z. let n : r.len ≡ 0 = eqb-true _ _ z in rw n)
    (λ z. let a = pick_so (leb r.place (length source)) (leb r.len (length source - r.place)) false true (λ w. impossible (cc)) (rw z at e) in
    simp (length-take, length-drop) (omega (arith, leb-true r.place (length source) a.0, leb-true r.len (length source - r.place) a.1)))

pub len_inside : (source : List ℕ) (r : Rec) → r.len ≡ length (named source r) → inside_test (length source) r.place r.len ≡ true
unfolding inside_test
len_inside source r e =
    by_test (eqb r.len 0) (λ z. rw z)
    (λ z. let n : r.len ≡ 0 → ⊥ = eqb-false r.len 0 z in
    let l = simp (length-take, length-drop) at e in
    rw (z, le-leb r.place (length source) (omega arith)) (le-leb r.len (length source - r.place) (omega arith)))

module _ (source groups : List ℕ) (r : Rec) where
  -- a record's test, where it names the item t
  pub tests_good : (t : Thing) → thing_of source r ≡ t → good_record source groups r ≡ true → Good groups r t
  tests_good t e g = rw e at (good_record_lem source groups r g)

  pub good_tests : (t : Thing) → thing_of source r ≡ t → Good groups r t → good_record source groups r ≡ true
  good_tests t e g = record_good source groups r (rw e g)

  pub rule_boolean : thing_of source r ≡ boolean r.value → r.kind ≡ 0 → r.number ≡ 1 → good_record source groups r ≡ boolean_rule (length groups) r
  unfolding boolean_rule record_of
  rule_boolean e k n =
      same_test _ _
      (λ a. let g = tests_good (boolean r.value) e a in
      rw (eq-eqb _ _ g.fields.2, le-leb _ _ g.valid) (eq-eqb _ _ g.fields.4))
      (λ b. let x = both_true (eqb r.depth (length groups)) _ b in
      let y = both_true (leb r.value 1) _ x.1 in
      good_tests (boolean r.value) e (record { fields = (k, n, eqb-true _ _ x.0, refl, eqb-true _ _ y.1); valid = leb-true _ _ y.0; fits = refl }))

  pub rule_application : thing_of source r ≡ application r.number (named source r) → r.kind ≡ 0 → (r.number ≡ 1 → ⊥) → good_record source groups r ≡ application_rule source (length groups) r
  unfolding application_rule type_rule contents_rule record_of
  rule_application e k n =
      same_test _ _
      (λ a. let g = tests_good (application r.number (named source r)) e a in
      let l = g.fields.4 in
      rw (
        eq-eqb _ _ g.fields.2,
        eq-eqb _ _ g.fields.3,
        le-leb r.number 12 g.valid.known,
        le-leb (least r.number) r.len (omega (arith, g.valid.low, l)),
        le-leb r.len (most r.number) (omega (arith, g.valid.high, l)),
        len_inside source r l,
      ) g.valid.rule)
      (λ b. let x1 = both_true (eqb r.depth (length groups)) _ b in
      let x2 = both_true (eqb r.value 0) _ x1.1 in
      let x3 = both_true (leb r.number 12) _ x2.1 in
      let x4 = both_true (leb (least r.number) r.len) _ x3.1 in
      let x5 = both_true (leb r.len (most r.number)) _ x4.1 in
      let x6 = both_true (inside_test (length source) r.place r.len) _ x5.1 in
      let l = inside_len source r x6.0 in
      let low : least r.number ≤ length (named source r) = omega (arith, leb-true (least r.number) r.len x4.0, l) in
      let high : length (named source r) ≤ most r.number = omega (arith, leb-true r.len (most r.number) x5.0, l) in
      good_tests (application r.number (named source r)) e (record {
        fields = (k, refl, eqb-true _ _ x1.0, eqb-true _ _ x2.0, l);
        valid = record { known = leb-true _ _ x3.0; other = n; low = low; high = high; rule = x6.1 };
        fits = refl;
      }))

  pub rule_context : thing_of source r ≡ context r.number (named source r) → r.kind ≡ 1 → good_record source groups r ≡ context_rule source (length groups) r
  unfolding context_rule record_of
  rule_context e k =
      same_test _ _
      (λ a. let g = tests_good (context r.number (named source r)) e a in
      let l = g.fields.4 in
      rw (eq-eqb _ _ g.fields.2, eq-eqb _ _ g.fields.3, le-leb r.number 254 g.valid.0, le-leb r.len longest (omega (arith, g.valid.1, l))) (len_inside source r l))
      (λ b. let x1 = both_true (eqb r.depth (length groups)) _ b in
      let x2 = both_true (eqb r.value 0) _ x1.1 in
      let x3 = both_true (leb r.number 254) _ x2.1 in
      let x4 = both_true (leb r.len longest) _ x3.1 in
      let l = inside_len source r x4.1 in
      let high : length (named source r) ≤ longest = omega (arith, leb-true r.len longest x4.0, l) in
      good_tests (context r.number (named source r)) e (record { fields = (k, refl, eqb-true _ _ x1.0, eqb-true _ _ x2.0, l); valid = (leb-true _ _ x3.0, high); fits = refl }))

  pub rule_opening : thing_of source r ≡ opening r.number → r.kind ≡ 2 → good_record source groups r ≡ both (ltb (length groups) deepest) (bracket_rule (length groups) r)
  unfolding bracket_rule record_of
  rule_opening e k =
      same_test _ _
      (λ a. let g = tests_good (opening r.number) e a in
      rw (g.fits, eq-eqb _ _ g.fields.2, eq-eqb _ _ g.fields.3, le-leb r.number 254 g.valid) (eq-eqb _ _ g.fields.4))
      (λ b. let x0 = both_true (ltb (length groups) deepest) _ b in
      let x1 = both_true (eqb r.depth (length groups)) _ x0.1 in
      let x2 = both_true (eqb r.value 0) _ x1.1 in
      let x3 = both_true (leb r.number 254) _ x2.1 in
      good_tests (opening r.number) e (record { fields = (k, refl, eqb-true _ _ x1.0, eqb-true _ _ x2.0, eqb-true _ _ x3.1); valid = leb-true _ _ x3.0; fits = x0.0 }))

pub rule_closing : (source groups : List ℕ) (r : Rec) → thing_of source r ≡ closing r.number → r.kind ≡ 3 → good_record source groups r ≡ closing_rule groups r
unfolding bracket_rule record_of
rule_closing source [] r e k = same_test _ _ (λ a. (tests_good source [] r (closing r.number) e a).fits) (λ b. impossible (cc))
rule_closing source (m ∷ outer) r e k =
    let d : suc (length outer) - 1 ≡ length outer = omega arith in
    same_test _ _
    (λ a. let g = tests_good source (m ∷ outer) r (closing r.number) e a in
    rw (g.fits, eq-eqb r.depth (length outer) (g.fields.2 ∙ d), eq-eqb _ _ g.fields.3, le-leb r.number 254 g.valid) (eq-eqb _ _ g.fields.4))
    (λ b. let x0 = both_true (eqb r.number m) _ b in
    let x1 = both_true (eqb r.depth (length outer)) _ x0.1 in
    let x2 = both_true (eqb r.value 0) _ x1.1 in
    let x3 = both_true (leb r.number 254) _ x2.1 in
    good_tests source (m ∷ outer) r (closing r.number) e
    (record { fields = (k, refl, eqb-true _ _ x1.0 ∙ sym d, eqb-true _ _ x2.0, eqb-true _ _ x3.1); valid = leb-true _ _ x3.0; fits = x0.0 }))

-- a kind above 3 names no item
pub rule_none : (source groups : List ℕ) (r : Rec) → thing_of source r ≡ closing r.number → (r.kind ≡ 3 → ⊥) → good_record source groups r ≡ false
unfolding record_of
rule_none source groups r e k = same_test _ _ (λ a. elim (k (tests_good source groups r (closing r.number) e a).fields.0) [ ]) (λ b. impossible (cc))

-- the test kind by kind is the test
pub kind_rule_lem : (source groups : List ℕ) (r : Rec) → good_record source groups r ≡ kind_rule source groups r
unfolding kind_rule thing_of
kind_rule_lem source groups r =
    by_test (eqb r.kind 0)
    (λ k. by_test (eqb r.number 1)
    (λ n. rw (k, n) (rule_boolean source groups r (rw (k, n)) (eqb-true _ _ k) (eqb-true _ _ n)))
    (λ n. rw (k, n) (rule_application source groups r (rw (k, n)) (eqb-true _ _ k) (eqb-false _ _ n))))
    (λ k0. by_test (eqb r.kind 1)
    (λ k. rw (k0, k) (rule_context source groups r (rw (k0, k)) (eqb-true _ _ k)))
    (λ k1. by_test (eqb r.kind 2)
    (λ k. rw (k0, k1, k) (rule_opening source groups r (rw (k0, k1, k)) (eqb-true _ _ k)))
    (λ k2. by_test (eqb r.kind 3)
    (λ k. rw (k0, k1, k2, k) (rule_closing source groups r (rw (k0, k1, k2)) (eqb-true _ _ k)))
    (λ k3. rw (k0, k1, k2, k3) (rule_none source groups r (rw (k0, k1, k2)) (eqb-false _ _ k3))))))
