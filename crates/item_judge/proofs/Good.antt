-- Good records are those of items that keep the rules and the grammar, and the other way round.
use Prim.Native.Nat.{ℕ, zero, suc, ◌+◌, ◌≤◌}
use native.Mathlib.Omega.{arith}
use mathlib.Core.Path.{◌≡◌, refl, sym, ap, ◌∙◌}
use mathlib.Core.Logic.{inl, inr}
use mathlib.Core.List.{List, [], ◌∷◌}
use mathlib.Core.Bool.{true}
use lib.ListN.{length, length-take, length-drop}
use lib.Dec.{eqb}
use borrow.Author.Tests.{eqb-true, eqb-false, eq-eqb, ltb-true, lt-ltb}
use Rattle.octets.specs.Choice.{pick_case, by_test, both_true, impossible}
use Rattle.tags.specs.Layout.{Thing, Valid, contents_of, encode}
use Rattle.tags.specs.Layout.Thing.{application, boolean, context, opening, closing}
use Rattle.tags.specs.Decide.{valid_thing, valid_test, test_valid}
use Rattle.items.specs.Records.{Rec, thing_of, things_of}
use Rattle.items.specs.Reading.{deepest}
use Rattle.items.specs.Grammar.{Balanced, AllValid, record_of, records_from, depth_after}
use Rattle.item_judge.specs.Judge.{alike, stands, open_after, good_record, good_from}
use Rattle.item_judge.specs.Meaning.{named, Inside, AllInside, Alike, AllAlike}

-- two records that differ in their places at most
abbrev pub Fields : Rec → Rec → Type 0
Fields r s = (r.kind ≡ s.kind) × (r.number ≡ s.number) × (r.depth ≡ s.depth) × (r.value ≡ s.value) × (r.len ≡ s.len)

pub alike_fields : (r s : Rec) → alike r s ≡ true → Fields r s
unfolding alike
alike_fields r s e =
    let a = both_true (eqb r.kind s.kind) _ e in
    let b = both_true (eqb r.number s.number) _ a.1 in
    let c = both_true (eqb r.depth s.depth) _ b.1 in
    let d = both_true (eqb r.value s.value) _ c.1 in
    (eqb-true _ _ a.0, eqb-true _ _ b.0, eqb-true _ _ c.0, eqb-true _ _ d.0, eqb-true _ _ d.1)

pub fields_alike : (r s : Rec) → Fields r s → alike r s ≡ true
unfolding alike
fields_alike r s f = rw (eq-eqb _ _ f.0, eq-eqb _ _ f.1, eq-eqb _ _ f.2, eq-eqb _ _ f.3) (eq-eqb _ _ f.4)

-- the record of an item at another place
pub other_place : (at d : ℕ) (t : Thing) → Fields (record_of 0 d t) (record_of at d t)
unfolding record_of
other_place at d (application n xs) = (refl, refl, refl, refl, refl)
other_place at d (boolean v) = (refl, refl, refl, refl, refl)
other_place at d (context n xs) = (refl, refl, refl, refl, refl)
other_place at d (opening n) = (refl, refl, refl, refl, refl)
other_place at d (closing n) = (refl, refl, refl, refl, refl)

pub record_len : (at d : ℕ) (t : Thing) → (record_of at d t).len ≡ length (contents_of t)
unfolding record_of
record_len at d (application n xs) = refl
record_len at d (boolean v) = refl
record_len at d (context n xs) = refl
record_len at d (opening n) = refl
record_len at d (closing n) = refl

-- a record that has the length of its item's contents names them, and inside the source
pub named_contents : (source : List ℕ) (r : Rec) → r.len ≡ length (contents_of (thing_of source r)) → named source r ≡ contents_of (thing_of source r)
unfolding thing_of
named_contents source r =
    pick_case (λ (t : Thing). r.len ≡ length (contents_of t) → named source r ≡ contents_of t) (eqb r.kind 0)
    (pick_case (λ (t : Thing). r.len ≡ length (contents_of t) → named source r ≡ contents_of t) (eqb r.number 1) (λ e. rw e) (λ e. refl))
    (pick_case (λ (t : Thing). r.len ≡ length (contents_of t) → named source r ≡ contents_of t) (eqb r.kind 1) (λ e. refl)
    (pick_case (λ (t : Thing). r.len ≡ length (contents_of t) → named source r ≡ contents_of t) (eqb r.kind 2) (λ e. rw e) (λ e. rw e)))

pub inside_of : (source : List ℕ) (r : Rec) → r.len ≡ length (named source r) → Inside source r
inside_of source r e =
    by_test (eqb r.len 0) (λ z. inl (eqb-true _ _ z))
    (λ z. inr (omega (arith, simp (length-take, length-drop) at e, eqb-false r.len 0 z)))

-- what may stand inside these groups, and what is open after it
pub stands_balanced : (k : ℕ) (groups : List ℕ) (t : Thing) (ts : List Thing) → stands groups t ≡ true → Balanced k (open_after groups t) ts → Balanced (suc k) groups (t ∷ ts)
stands_balanced k groups (application n xs) ts e b = b
stands_balanced k groups (boolean v) ts e b = b
stands_balanced k groups (context n xs) ts e b = b
stands_balanced k groups (opening n) ts e b = (ltb-true (length groups) deepest e, b)
stands_balanced k [] (closing n) ts e b = impossible (cc)
stands_balanced k (m ∷ outer) (closing n) ts e b = (eqb-true n m e, b)

pub balanced_stands : (k : ℕ) (groups : List ℕ) (t : Thing) (ts : List Thing) → Balanced (suc k) groups (t ∷ ts) → (stands groups t ≡ true) × Balanced k (open_after groups t) ts
balanced_stands k groups (application n xs) ts b = (refl, b)
balanced_stands k groups (boolean v) ts b = (refl, b)
balanced_stands k groups (context n xs) ts b = (refl, b)
balanced_stands k groups (opening n) ts b = (lt-ltb (length groups) deepest b.0, b.1)
balanced_stands k [] (closing n) ts b = elim b [ ]
balanced_stands k (m ∷ outer) (closing n) ts b = (eq-eqb n m b.0, b.1)

pub depth_after_lem : (groups : List ℕ) (t : Thing) → stands groups t ≡ true → depth_after (length groups) t ≡ length (open_after groups t)
depth_after_lem groups (application n xs) e = refl
depth_after_lem groups (boolean v) e = refl
depth_after_lem groups (context n xs) e = refl
depth_after_lem groups (opening n) e = omega arith
depth_after_lem [] (closing n) e = refl
depth_after_lem (m ∷ outer) (closing n) e = omega arith

-- what a good record of an item is
pub record Good (groups : List ℕ) (r : Rec) (t : Thing) : Type 0 where
  pub fields : Fields r (record_of 0 (length groups) t)
  pub valid : Valid t
  pub fits : stands groups t ≡ true

pub good_record_lem : (source groups : List ℕ) (r : Rec) → good_record source groups r ≡ true → Good groups r (thing_of source r)
unfolding good_record
good_record_lem source groups r e =
    let a = both_true (alike r (record_of 0 (length groups) (thing_of source r))) _ e in
    let b = both_true (valid_thing (thing_of source r)) _ a.1 in
    record { fields = alike_fields _ _ a.0; valid = valid_test _ b.0; fits = b.1 }

pub record_good : (source groups : List ℕ) (r : Rec) → Good groups r (thing_of source r) → good_record source groups r ≡ true
unfolding good_record
record_good source groups r g =
    let t = thing_of source r in
    rw (fields_alike r (record_of 0 (length groups) t) g.fields, test_valid t g.valid) g.fits

pub good_more : (source groups : List ℕ) (r : Rec) (rs : List Rec) → good_from source groups (r ∷ rs) ≡ true → Good groups r (thing_of source r) × (good_from source (open_after groups (thing_of source r)) rs ≡ true)
unfolding good_from
good_more source groups r rs e = let a = both_true (good_record source groups r) _ e in (good_record_lem source groups r a.0, a.1)

pub good_len : (groups : List ℕ) (r : Rec) (t : Thing) → Good groups r t → r.len ≡ length (contents_of t)
good_len groups r t g = g.fields.4 ∙ record_len 0 (length groups) t

pub good_named : (source groups : List ℕ) (r : Rec) → Good groups r (thing_of source r) → named source r ≡ contents_of (thing_of source r)
good_named source groups r g = named_contents source r (good_len groups r (thing_of source r) g)

-- good records name contents inside the source
pub good_inside : (source groups : List ℕ) (rs : List Rec) → good_from source groups rs ≡ true → AllInside source rs
good_inside source groups [] e = tt
good_inside source groups (r ∷ rs) e =
    let a = good_more source groups r rs e in
    (inside_of source r (good_len groups r (thing_of source r) a.0 ∙ ap length (sym (good_named source groups r a.0))), good_inside source (open_after groups (thing_of source r)) rs a.1)

-- good records name items that keep the rules and the grammar
pub good_valid : (source groups : List ℕ) (rs : List Rec) → good_from source groups rs ≡ true → AllValid (things_of source rs)
unfolding things_of
good_valid source groups [] e = tt
good_valid source groups (r ∷ rs) e =
    let a = good_more source groups r rs e in (a.0.valid, good_valid source (open_after groups (thing_of source r)) rs a.1)

pub good_balanced : (k : ℕ) (source groups : List ℕ) (rs : List Rec) → length rs ≤ k → good_from source groups rs ≡ true → Balanced k groups (things_of source rs)
unfolding things_of good_from
good_balanced k source [] [] h e = tt
good_balanced k source (m ∷ outer) [] h e = let z : suc (length outer) ≡ 0 = eqb-true _ _ e in omega arith
good_balanced zero source groups (r ∷ rs) h e = absurd (omega arith)
good_balanced (suc k) source groups (r ∷ rs) h e =
    let a = good_more source groups r rs e in
    stands_balanced k groups (thing_of source r) (things_of source rs) a.0.fits (good_balanced k source (open_after groups (thing_of source r)) rs (omega arith) a.1)

-- and whose records, at any place, they are
pub good_records_lem : (source o groups : List ℕ) (at : ℕ) (rs : List Rec) → good_from source groups rs ≡ true → things_of o (records_from at (length groups) (things_of source rs)) ≡ things_of source rs
    → AllAlike source o rs (records_from at (length groups) (things_of source rs))
unfolding things_of records_from
good_records_lem source o groups at [] e w = tt
good_records_lem source o groups at (r ∷ rs) e w =
    let t = thing_of source r in
    let d = length groups in
    let s = record_of at d t in
    let a = good_more source groups r rs e in
    let same : thing_of o s ≡ t = cc in
    let others : things_of o (records_from (at + length (encode t)) (depth_after d t) (things_of source rs)) ≡ things_of source rs = cc in
    let k = depth_after_lem groups t a.0.fits in
    let len : s.len ≡ length (contents_of (thing_of o s)) = rw same (record_len at d t) in
    let f = a.0.fields in
    let g = other_place at d t in (
      record {
        kind = f.0 ∙ g.0;
        number = f.1 ∙ g.1;
        depth = f.2 ∙ g.2;
        value = f.3 ∙ g.3;
        len = f.4 ∙ g.4;
        contents = good_named source groups r a.0 ∙ sym (named_contents o s len ∙ ap contents_of same);
      },
      rw k (good_records_lem source o (open_after groups t) (at + length (encode t)) rs a.1 (rw k at others)),
    )

-- records that name the same, all but their places, name the same items
pub same_thing : (source o : List ℕ) (r s : Rec) → Alike source o r s → thing_of source r ≡ thing_of o s
unfolding thing_of
same_thing source o r s a = rw (a.kind, a.number, a.value, a.contents)

pub same_things : (source o : List ℕ) (rs ss : List Rec) → AllAlike source o rs ss → things_of source rs ≡ things_of o ss
unfolding things_of
same_things source o [] [] a = refl
same_things source o [] (s ∷ ss) a = elim a [ ]
same_things source o (r ∷ rs) [] a = elim a [ ]
same_things source o (r ∷ rs) (s ∷ ss) a = rw (same_thing source o r s a.0, same_things source o rs ss a.1)

-- records that are those of items which keep the rules and the grammar are good, and not more than these
pub grammar_good : (k : ℕ) (source o groups : List ℕ) (at : ℕ) (rs : List Rec) (ts : List Thing) → AllAlike source o rs (records_from at (length groups) ts) → things_of source rs ≡ ts
    → AllValid ts → Balanced k groups ts → (good_from source groups rs ≡ true) × (length rs ≤ k)
unfolding things_of records_from good_from
grammar_good k source o [] at [] [] a e v b = (refl, omega arith)
grammar_good k source o (m ∷ outer) at [] [] a e v b = elim b [ ]
grammar_good k source o groups at [] (t ∷ ts) a e v b = elim a [ ]
grammar_good k source o groups at (r ∷ rs) [] a e v b = elim a [ ]
grammar_good zero source o [] at (r ∷ rs) (t ∷ ts) a e v b = elim b [ ]
grammar_good zero source o (m ∷ outer) at (r ∷ rs) (t ∷ ts) a e v b = elim b [ ]
grammar_good (suc k) source o groups at (r ∷ rs) (t ∷ ts) a e v b =
    let d = length groups in
    let same : thing_of source r ≡ t = cc in
    let others : things_of source rs ≡ ts = cc in
    let p = balanced_stands k groups t ts b in
    let n = depth_after_lem groups t p.0 in
    let f = other_place at d t in
    let x = a.0 in
    let fields : Fields r (record_of 0 d t) = (x.kind ∙ sym f.0, x.number ∙ sym f.1, x.depth ∙ sym f.2, x.value ∙ sym f.3, x.len ∙ sym f.4) in
    let g : good_record source groups r ≡ true = record_good source groups r (record { fields = rw same fields; valid = rw same v.0; fits = rw same p.0 }) in
    let h = grammar_good k source o (open_after groups t) (at + length (encode t)) rs ts (rw n at a.1) others v.1 p.1 in
    (rw (g, same) h.0, omega (arith, h.1))
