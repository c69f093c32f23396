-- The parts of a service among items: what is read of the items that stand from a place on, and what stands there where a part was read.
use Rattle.std.specs.Prelude.{Ok, Err}
use Prim.Native.Nat.{ℕ, zero, suc, ◌+◌, ◌-◌, ◌≤◌}
use native.Mathlib.Omega.{arith}
use mathlib.Core.Path.{◌≡◌, refl, sym, ap, subst, ◌∙◌}
use mathlib.Core.List.{List, [], ◌∷◌, ◌++◌, append_assoc, append-nil}
use mathlib.Core.Bool.{Bool, true, false}
use lib.ListN.{length, length-append}
use lib.Dec.{ltb}
use borrow.Author.Tests.{eq-eqb, eqb-true, ltb-false}
use Rattle.octets.specs.Choice.{non, pick_not, by_test, impossible, not_so}
use Rattle.octets.specs.Reading.{Octets}
use Rattle.octets.specs.Has.{Has, has_left, has_right, has_bound, has_cut}
use Rattle.octets.specs.Numbers.{value_at}
use Rattle.tags.specs.Layout.{Thing, encode, tag_length, contents_of, number_octets}
use Rattle.tags.specs.Layout.Thing.{application, boolean, context, opening, closing}
use Rattle.tags.proofs.Exact.{contents_stand}
use Rattle.items.specs.Records.{Rec, rec}
use Rattle.items.specs.Reading.{most_items}
use Rattle.items.specs.Grammar.{encode_all, Balanced, AllValid, record_of, depth_after, records_from}
use Rattle.services.specs.Parts.{Answer, Then, is, present, wanted, number_of, number_rule, any_number, optional_number, group, last}
use Rattle.services.specs.Layout.{shortest, optional, valued}
use Rattle.services.specs.Shows.{value_octets}
use Rattle.services.specs.declared.Service.{Service}
use Rattle.services.specs.declared.Span.{Span}
use Rattle.services.proofs.Places.{number_kept}
use Rattle.services.proofs.Spelling.{spelled, shortest_value, shortest_keeps}
use Rattle.services.proofs.Groups.{balanced_more, split, past}

-- good and refused are never both
pub never : {X : Type 0} (x : ℕ) (v : Service) → Err x ≡ Ok v → X
never x v e = impossible (cc)

-- these items stand from a place on, with no group open
pub record Here (o : List ℕ) (at : ℕ) (ts : List Thing) : Type 0 where
  pub valid : AllValid ts
  pub stands : Has o at (encode_all ts)
  pub inside : at ≤ length o
  pub room : ℕ
  pub most : room ≤ most_items
  pub balanced : Balanced room [] ts

-- items with contents, of one kind and number
pub record Shape (kind number : ℕ) (make : List ℕ → Thing) : Type 0 where
  pub own : (at : ℕ) (xs : List ℕ) → record_of at 0 (make xs) ≡ rec kind number 0 0 (at + tag_length (make xs)) (length xs)
  pub only : (at : ℕ) (t : Thing) → is kind number (record_of at 0 t) ≡ true → (xs : List ℕ) × (t ≡ make xs)
  pub flat : (xs : List ℕ) → depth_after 0 (make xs) ≡ 0
  pub holds : (xs : List ℕ) → contents_of (make xs) ≡ xs
  pub peel : (k : ℕ) (xs : List ℕ) (ts : List Thing) → Balanced k [] (make xs ∷ ts) → (j : ℕ) × (j ≤ k) × Balanced j [] ts

pub contexts : (n : ℕ) → Shape 1 n (context n)
unfolding record_of
contexts n = record { own = λ at xs. refl; only = only; flat = λ xs. refl; holds = λ xs. refl; peel = peel }
  where
    only : (at : ℕ) (t : Thing) → is 1 n (record_of at 0 t) ≡ true → (xs : List ℕ) × (t ≡ context n xs)
    only at (application m xs) e = not_so e
    only at (boolean v) e = not_so e
    only at (context m xs) e = (xs, rw (eqb-true m n e))
    only at (opening m) e = not_so e
    only at (closing m) e = not_so e

    peel : (k : ℕ) (xs : List ℕ) (ts : List Thing) → Balanced k [] (context n xs ∷ ts) → (j : ℕ) × (j ≤ k) × Balanced j [] ts
    peel zero xs ts b = absurd b
    peel (suc k) xs ts b = (k, omega arith, b)

pub applications : (n : ℕ) → (n ≡ 1 → ⊥) → Shape 0 n (application n)
unfolding record_of
applications n other = record { own = λ at xs. refl; only = only; flat = λ xs. refl; holds = λ xs. refl; peel = peel }
  where
    only : (at : ℕ) (t : Thing) → is 0 n (record_of at 0 t) ≡ true → (xs : List ℕ) × (t ≡ application n xs)
    only at (application m xs) e = (xs, rw (eqb-true m n e))
    only at (boolean v) e = absurd (other (sym (eqb-true 1 n e)))
    only at (context m xs) e = not_so e
    only at (opening m) e = not_so e
    only at (closing m) e = not_so e

    peel : (k : ℕ) (xs : List ℕ) (ts : List Thing) → Balanced k [] (application n xs ∷ ts) → (j : ℕ) × (j ≤ k) × Balanced j [] ts
    peel zero xs ts b = absurd b
    peel (suc k) xs ts b = (k, omega arith, b)

-- the wanted item, where the reading accepts
fits_so : (b : Bool) → non b ≡ false → b ≡ true
fits_so true e = refl
fits_so false e = sym e

wanted_good : (kind number : ℕ) (rule value : Rec → ℕ) (next : Then) (r : Rec) (rest : List Rec) (v : Service) → wanted kind number rule value next (r ∷ rest) ≡ Ok v
    → (is kind number r ≡ true) × (rule r ≡ 0) × (next (value r) rest ≡ Ok v)
unfolding wanted
wanted_good kind number rule value next r rest v e =
    let a = pick_not (non (is kind number r)) (Err 40) _ (Ok v) (never 40 v) e in
    let b = pick_not (ltb 0 (rule r)) (Err (rule r)) (next (value r) rest) (Ok v) (never (rule r) v) a.1 in
    let z = ltb-false 0 (rule r) b.0 in
    (fits_so (is kind number r) a.0, omega arith, b.1)

wanted_goes : (kind number : ℕ) (rule value : Rec → ℕ) (next : Then) (r : Rec) (rest : List Rec) → is kind number r ≡ true → rule r ≡ 0 → wanted kind number rule value next (r ∷ rest) ≡ next (value r) rest
unfolding wanted
wanted_goes kind number rule value next r rest f k = rw (f, k)

module _ (o : List ℕ) (kind number : ℕ) (make : List ℕ → Thing) (shape : Shape kind number make) where
  abbrev after : ℕ → List ℕ → ℕ
  after at xs = at + length (encode (make xs))

  abbrev place : ℕ → List ℕ → ℕ
  place at xs = at + tag_length (make xs)

  -- its contents, and what stands behind it
  module _ (at : ℕ) (xs : List ℕ) (ts : List Thing) (h : Here o at (make xs ∷ ts)) where
    head_stands : Has o at (encode (make xs))
    unfolding encode_all
    head_stands = has_left o at (encode (make xs)) (encode_all ts) h.inside h.stands

    pub contents_here : Has o (place at xs) xs
    contents_here = subst (Has o (place at xs)) (shape.holds xs) (contents_stand o at (make xs) head_stands)

    pub here_next : Here o (after at xs) ts
    unfolding encode_all
    here_next =
        let p = shape.peel h.room xs ts h.balanced in
        record {
          valid = h.valid.1;
          stands = has_right o at (encode (make xs)) (encode_all ts) h.stands;
          inside = has_bound o at (encode (make xs)) head_stands;
          room = p.0;
          most = omega (arith, p.1, h.most);
          balanced = p.2;
        }

    -- the records from there on
    pub records_are : records_from at 0 (make xs ∷ ts) ≡ rec kind number 0 0 (place at xs) (length xs) ∷ records_from (after at xs) 0 ts
    unfolding records_from
    records_are = rw (shape.own at xs, shape.flat xs)

    -- a part that keeps its rule is read
    pub part_reads : (rule : Rec → ℕ) (next : Then) → rule (rec kind number 0 0 (place at xs) (length xs)) ≡ 0
        → wanted kind number rule (number_of o) next (records_from at 0 (make xs ∷ ts)) ≡ next (value_at o (place at xs) (length xs)) (records_from (after at xs) 0 ts)
    part_reads rule next k = rw records_are (wanted_goes kind number rule (number_of o) next _ _ (rw (eq-eqb kind kind refl, eq-eqb number number refl)) k)

  -- a part that was read
  pub record Part (rule : Rec → ℕ) (next : Then) (at : ℕ) (ts : List Thing) (v : Service) : Type 0 where
    pub contents : List ℕ
    pub rest : List Thing
    pub things : ts ≡ make contents ∷ rest
    pub kept : rule (rec kind number 0 0 (place at contents) (length contents)) ≡ 0
    pub stands : Has o (place at contents) contents
    pub goes : next (value_at o (place at contents) (length contents)) (records_from (after at contents) 0 rest) ≡ Ok v
    pub left : Here o (after at contents) rest

  part_of : (rule : Rec → ℕ) (next : Then) (at : ℕ) (xs : List ℕ) (ts : List Thing) (v : Service) → Here o at (make xs ∷ ts) → wanted kind number rule (number_of o) next (records_from at 0 (make xs ∷ ts)) ≡ Ok v → Part rule next at (make xs ∷ ts) v
  part_of rule next at xs ts v h e =
      let w = wanted_good kind number rule (number_of o) next _ _ v (rw (records_are at xs ts h) at e) in
      record { contents = xs; rest = ts; things = refl; kept = w.1; stands = contents_here at xs ts h; goes = w.2; left = here_next at xs ts h }

  pub part_read : (rule : Rec → ℕ) (next : Then) (at : ℕ) (ts : List Thing) (v : Service) → Here o at ts → wanted kind number rule (number_of o) next (records_from at 0 ts) ≡ Ok v → Part rule next at ts v
  unfolding records_from wanted
  part_read rule next at [] v h e = never 40 v e
  part_read rule next at (t ∷ ts) v h e =
      let w = wanted_good kind number rule (number_of o) next (record_of at 0 t) _ v e in
      let g = shape.only at t w.0 in
      subst (λ (x : Thing). Here o at (x ∷ ts) → wanted kind number rule (number_of o) next (records_from at 0 (x ∷ ts)) ≡ Ok v → Part rule next at (x ∷ ts) v) (sym g.1) (part_of rule next at g.0 ts v) h e

  -- a number that was read
  pub record Number (low high : ℕ) (next : Then) (at : ℕ) (ts : List Thing) (v : Service) : Type 0 where
    pub value : ℕ
    pub rest : List Thing
    pub things : ts ≡ make (shortest value) ∷ rest
    pub least : low ≤ value
    pub most : value ≤ high
    pub goes : next value (records_from (after at (shortest value)) 0 rest) ≡ Ok v
    pub left : Here o (after at (shortest value)) rest

  pub number_read : Octets o → (low high : ℕ) (next : Then) (at : ℕ) (ts : List Thing) (v : Service) → Here o at ts → wanted kind number (number_rule o low high) (number_of o) next (records_from at 0 ts) ≡ Ok v → Number low high next at ts v
  number_read os low high next at ts v h e =
      let p = part_read (number_rule o low high) next at ts v h e in
      let k = number_kept o low high _ p.kept in
      let x : ℕ = value_at o (place at p.contents) (length p.contents) in
      let s : p.contents ≡ shortest x = spelled o os low high (place at p.contents) p.contents p.stands k in
      record {
        value = x;
        rest = p.rest;
        things = p.things ∙ ap (λ (xs : List ℕ). make xs ∷ p.rest) s;
        least = k.least;
        most = k.most;
        goes = subst (λ (xs : List ℕ). next x (records_from (after at xs) 0 p.rest) ≡ Ok v) s p.goes;
        left = subst (λ (xs : List ℕ). Here o (after at xs) p.rest) s p.left;
      }

  -- a number in its range is read
  pub number_reads : (low high x : ℕ) (next : Then) (at : ℕ) (ts : List Thing) → x ≤ any_number → low ≤ x → x ≤ high → Here o at (make (shortest x) ∷ ts)
      → wanted kind number (number_rule o low high) (number_of o) next (records_from at 0 (make (shortest x) ∷ ts)) ≡ next x (records_from (after at (shortest x)) 0 ts)
  number_reads low high x next at ts any a b h =
      let c = contents_here at (shortest x) ts h in
      part_reads at (shortest x) ts h (number_rule o low high) next (shortest_keeps o (place at (shortest x)) x any c low high kind number 0 0 a b)
      ∙ ap (λ (y : ℕ). next y (records_from (after at (shortest x)) 0 ts)) (shortest_value o (place at (shortest x)) x any c)

-- an optional number
module _ (o : List ℕ) (n low high : ℕ) (next : Bool → ℕ → List Rec → Answer) where
  abbrev behind : ℕ → Bool → ℕ → ℕ
  behind at here x = at + length (encode_all (optional here n x))

  pub record Option (at : ℕ) (ts : List Thing) (v : Service) : Type 0 where
    pub here : Bool
    pub value : ℕ
    pub rest : List Thing
    pub things : ts ≡ optional here n value ++ rest
    pub range : here ≡ true → (low ≤ value) × (value ≤ high)
    pub absent : here ≡ false → value ≡ 0
    pub goes : next here value (records_from (behind at here value) 0 rest) ≡ Ok v
    pub left : Here o (behind at here value) rest

  behind_one : (at x : ℕ) → at + length (encode (context n (shortest x))) ≡ behind at true x
  unfolding encode_all
  behind_one at x = rw append-nil

  behind_none : (at : ℕ) → at ≡ behind at false 0
  unfolding encode_all
  behind_none at = omega arith

  pub option_read : Octets o → (at : ℕ) (ts : List Thing) (v : Service) → Here o at ts → optional_number o n low high next (records_from at 0 ts) ≡ Ok v → Option at ts v
  unfolding optional_number
  option_read os at ts v h e =
      by_test (present n (records_from at 0 ts))
      (λ p.
      let w = number_read o 1 n (context n) (contexts n) os low high (next true) at ts v h (rw p at e) in
      record {
        here = true;
        value = w.value;
        rest = w.rest;
        things = w.things;
        range = λ _. (w.least, w.most);
        absent = λ f. not_so (sym f);
        goes = subst (λ (y : ℕ). next true w.value (records_from y 0 w.rest) ≡ Ok v) (behind_one at w.value) w.goes;
        left = subst (λ (y : ℕ). Here o y w.rest) (behind_one at w.value) w.left;
      })
      (λ p.
      record {
        here = false;
        value = 0;
        rest = ts;
        things = refl;
        range = λ f. not_so f;
        absent = λ _. refl;
        goes = subst (λ (y : ℕ). next false 0 (records_from y 0 ts) ≡ Ok v) (behind_none at) (rw p at e);
        left = subst (λ (y : ℕ). Here o y ts) (behind_none at) h;
      })

  present_is : (at x : ℕ) (ts : List Thing) → present n (records_from at 0 (context n (shortest x) ∷ ts)) ≡ true
  unfolding present records_from record_of
  present_is at x ts = eq-eqb n n refl

  -- one that is there in its range, and one that is absent where another item comes next, are read
  pub option_reads : (here : Bool) (x at : ℕ) (ts : List Thing) → x ≤ any_number → (here ≡ true → (low ≤ x) × (x ≤ high)) → (here ≡ false → x ≡ 0) → present n (records_from at 0 ts) ≡ false → Here o at (optional here n x ++ ts)
      → (optional_number o n low high next (records_from at 0 (optional here n x ++ ts)) ≡ next here x (records_from (behind at here x) 0 ts)) × Here o (behind at here x) ts
  unfolding optional_number
  option_reads true x at ts any range absent other h =
      let r = range refl in
      let p : present n (records_from at 0 (context n (shortest x) ∷ ts)) ≡ true = present_is at x ts in
      (rw (p, ← behind_one at x) (number_reads o 1 n (context n) (contexts n) low high x (next true) at ts any r.0 r.1 h), rw (← behind_one at x) (here_next o 1 n (context n) (contexts n) at (shortest x) ts h))
  option_reads false x at ts any range absent other h =
      let z = absent refl in
      (rw (other, z, ← behind_none at), rw (← behind_none at) h)

-- after the last item
pub last_read : (at : ℕ) (ts : List Thing) (w v : Service) → last w (records_from at 0 ts) ≡ Ok v → (ts ≡ []) × (w ≡ v)
unfolding last records_from
last_read at [] w v e = (refl, (let z : w ≡ v = cc in z))
last_read at (t ∷ ts) w v e = never _ v e

-- a number that was read last
pub record LastNumber (make : List ℕ → Thing) (low high : ℕ) (build : ℕ → Service) (ts : List Thing) (v : Service) : Type 0 where
  pub value : ℕ
  pub things : ts ≡ make (shortest value) ∷ []
  pub least : low ≤ value
  pub most : value ≤ high
  pub service : build value ≡ v

pub last_number : (o : List ℕ) → Octets o → (kind number : ℕ) (make : List ℕ → Thing) → Shape kind number make → (low high : ℕ) (build : ℕ → Service) (at : ℕ) (ts : List Thing) (v : Service) → Here o at ts
    → wanted kind number (number_rule o low high) (number_of o) (λ x. last (build x)) (records_from at 0 ts) ≡ Ok v → LastNumber make low high build ts v
last_number o os kind number make shape low high build at ts v h e =
    let a = number_read o kind number make shape os low high (λ x. last (build x)) at ts v h e in
    let l = last_read _ a.rest (build a.value) v a.goes in
    record { value = a.value; things = a.things ∙ ap (λ (us : List Thing). make (shortest a.value) ∷ us) l.0; least = a.least; most = a.most; service = l.1 }

pub last_reads : (at : ℕ) (w : Service) → last w (records_from at 0 []) ≡ Ok w
unfolding last records_from
last_reads at w = refl

-- what is behind items that stand somewhere
opening_length : length (encode (opening 3)) ≡ 1
unfolding encode number_octets
opening_length = refl

closing_length : length (encode (closing 3)) ≡ 1
unfolding encode number_octets
closing_length = refl

opening_tag : tag_length (opening 3) ≡ 1
unfolding tag_length number_octets
opening_tag = refl

closing_tag : tag_length (closing 3) ≡ 1
unfolding tag_length number_octets
closing_tag = refl

pub encode_append : (ts us : List Thing) → encode_all (ts ++ us) ≡ encode_all ts ++ encode_all us
unfolding encode_all
encode_append [] us = refl
encode_append (t ∷ ts) us = rw (encode_append ts us) (sym (append_assoc (encode t) (encode_all ts) (encode_all us)))

pub valid_left : (ts us : List Thing) → AllValid (ts ++ us) → AllValid ts
valid_left [] us v = tt
valid_left (t ∷ ts) us v = (v.0, valid_left ts us v.1)

pub valid_right : (ts us : List Thing) → AllValid (ts ++ us) → AllValid us
valid_right [] us v = v
valid_right (t ∷ ts) us v = valid_right ts us v.1

pub valued_valid : (inner : List Thing) → AllValid (valued inner) → AllValid inner
unfolding valued
valued_valid inner v = valid_left inner (closing 3 ∷ []) v.1

pub valued_length : (inner : List Thing) → length (encode_all (valued inner)) ≡ length (encode_all inner) + 2
unfolding valued encode_all
valued_length inner =
    let a = opening_length in
    let b = closing_length in
    simp (length-append, encode_append, append-nil) (omega arith)

pub valued_append : (inner rest : List Thing) → valued inner ++ rest ≡ opening 3 ∷ (inner ++ (closing 3 ∷ rest))
unfolding valued
valued_append inner rest = simp append_assoc

-- a group 3 among items
module _ (o : List ℕ) (at : ℕ) (inner rest : List Thing) (h : Here o at (valued inner ++ rest)) (whole : Balanced most_items [] inner) where
  abbrev span : Span
  span = record { at = at + 1; len = length (encode_all inner) }

  octets_are : Has o at (encode (opening 3) ++ (encode_all inner ++ (encode (closing 3) ++ encode_all rest)))
  unfolding encode_all
  octets_are = simp encode_append at (rw (valued_append inner rest) at h.stands)

  pub value_cut : value_octets o span ≡ encode_all inner
  value_cut =
      let tail : List ℕ = encode (closing 3) ++ encode_all rest in
      let a : Has o (at + 1) (encode_all inner ++ tail) = rw opening_length at (has_right o at (encode (opening 3)) (encode_all inner ++ tail) octets_are) in
      let i : at + 1 ≤ length o = omega (arith, opening_length, has_bound o at (encode (opening 3)) (has_left o at (encode (opening 3)) (encode_all inner ++ tail) h.inside octets_are)) in
      has_cut o (at + 1) (encode_all inner) (has_left o (at + 1) (encode_all inner) tail i a)

  next_same : (next : Span → List Rec → Answer) (a b l m p q : ℕ) → a ≡ b → l ≡ m → p ≡ q → next (record { at = a; len = l }) (records_from p 0 rest) ≡ next (record { at = b; len = m }) (records_from q 0 rest)
  next_same next a b l m p q e f g = rw (e, f, g)

  pub group_reads : (next : Span → List Rec → Answer) → group 3 next (records_from at 0 (valued inner ++ rest)) ≡ next span (records_from (at + length (encode_all (valued inner))) 0 rest)
  unfolding group records_from record_of
  group_reads next =
      let p = past (λ end. next (record { at = at + tag_length (opening 3); len = end - 1 - (at + tag_length (opening 3)) })) 3 rest most_items (at + length (encode (opening 3))) [] inner whole in
      let a = opening_length in
      let b = closing_length in
      let c = opening_tag in
      let d = closing_tag in
      let l = valued_length inner in
      rw (valued_append inner rest) (p ∙ next_same next _ _ _ _ _ _ (omega arith) (omega arith) (omega arith))

  -- what stands behind it
  pub group_left : (j : ℕ) → j ≤ most_items → Balanced j [] rest → Here o (at + length (encode_all (valued inner))) rest
  group_left j most b =
      let s : Has o at (encode_all (valued inner) ++ encode_all rest) = rw encode_append at h.stands in
      record {
        valid = valid_right (valued inner) rest h.valid;
        stands = has_right o at (encode_all (valued inner)) (encode_all rest) s;
        inside = has_bound o at (encode_all (valued inner)) (has_left o at (encode_all (valued inner)) (encode_all rest) h.inside s);
        room = j;
        most = most;
        balanced = b;
      }

-- a group 3 that was read
pub record Grouped (o : List ℕ) (next : Span → List Rec → Answer) (at : ℕ) (ts : List Thing) (v : Service) : Type 0 where
  pub inner : List Thing
  pub rest : List Thing
  pub things : ts ≡ valued inner ++ rest
  pub whole : Balanced most_items [] inner
  pub octets : value_octets o (record { at = at + 1; len = length (encode_all inner) }) ≡ encode_all inner
  pub goes : next (record { at = at + 1; len = length (encode_all inner) }) (records_from (at + length (encode_all (valued inner))) 0 rest) ≡ Ok v
  pub left : Here o (at + length (encode_all (valued inner))) rest

grouped : (o : List ℕ) (next : Span → List Rec → Answer) (at : ℕ) (inner rest : List Thing) (v : Service) → Here o at (valued inner ++ rest) → Balanced most_items [] inner → (j : ℕ) → j ≤ most_items → Balanced j [] rest
    → group 3 next (records_from at 0 (valued inner ++ rest)) ≡ Ok v → Grouped o next at (valued inner ++ rest) v
grouped o next at inner rest v h whole j most b e =
    record {
      inner = inner;
      rest = rest;
      things = refl;
      whole = whole;
      octets = value_cut o at inner rest h whole;
      goes = sym (group_reads o at inner rest h whole next) ∙ e;
      left = group_left o at inner rest h whole j most b;
    }

-- only an opening 3 begins it
pub opens : (at : ℕ) (t : Thing) → is 2 3 (record_of at 0 t) ≡ true → t ≡ opening 3
unfolding record_of
opens at (application m xs) e = not_so e
opens at (boolean v) e = not_so e
opens at (context m xs) e = not_so e
opens at (opening m) e = rw (eqb-true m 3 e)
opens at (closing m) e = not_so e

group_of : (o : List ℕ) (next : Span → List Rec → Answer) (at : ℕ) (ts : List Thing) (v : Service) → (k : ℕ) → k ≤ most_items → Balanced k [] (opening 3 ∷ ts) → Here o at (opening 3 ∷ ts) → group 3 next (records_from at 0 (opening 3 ∷ ts)) ≡ Ok v → Grouped o next at (opening 3 ∷ ts) v
group_of o next at ts v zero small b h e = absurd b
group_of o next at ts v (suc k) small b h e =
    let s = split 3 k [] ts b.1 in
    let z : opening 3 ∷ ts ≡ valued s.inner ++ s.rest = ap (λ (us : List Thing). opening 3 ∷ us) s.things ∙ sym (valued_append s.inner s.rest) in
    subst (λ (us : List Thing). Here o at us → group 3 next (records_from at 0 us) ≡ Ok v → Grouped o next at us v) (sym z)
    (λ h e. grouped o next at s.inner s.rest v h (balanced_more k most_items (omega arith) [] s.inner s.whole) s.room (omega (arith, s.most)) s.behind e) h e

pub group_read : (o : List ℕ) (next : Span → List Rec → Answer) (at : ℕ) (ts : List Thing) (v : Service) → Here o at ts → group 3 next (records_from at 0 ts) ≡ Ok v → Grouped o next at ts v
unfolding group records_from
group_read o next at [] v h e = never 40 v e
group_read o next at (t ∷ ts) v h e =
    let w = pick_not (non (is 2 3 (record_of at 0 t))) (Err 40) _ (Ok v) (never 40 v) e in
    let z = opens at t (fits_so (is 2 3 (record_of at 0 t)) w.0) in
    subst (λ (u : Thing). Here o at (u ∷ ts) → group 3 next (records_from at 0 (u ∷ ts)) ≡ Ok v → Grouped o next at (u ∷ ts) v) (sym z) (λ h e. group_of o next at ts v h.room h.most h.balanced h e) h e
