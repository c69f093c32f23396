-- What a step answers, exactly: an item, a group or the end where it stands there; 35 on a closing tag.
use Prim.Native.Nat.{ℕ, ◌+◌, ◌≤◌, ◌<◌}
use native.Mathlib.Omega.{arith}
use mathlib.Core.Path.{◌≡◌, refl, sym, ap, subst, ◌∙◌}
use mathlib.Core.Logic.{◌↔◌}
use mathlib.Core.List.{List, [], ◌∷◌, ◌++◌}
use lib.ListN.{length, length-append}
use lib.Dec.{ltb, leb}
use borrow.Author.Tests.{ltb-true, ltb-false, leb-true, leb-false}
use Rattle.octets.specs.Choice.{by_test, impossible}
use Rattle.octets.specs.Reading.{Octets}
use Rattle.octets.specs.Has.{Has, has_bound, has_left}
use Rattle.tags.specs.Types.{longest}
use Rattle.tags.specs.Reading.{head_at}
use Rattle.tags.specs.Layout.{Thing, Good, encode, Valid, tag_of, tag_length}
use Rattle.tags.specs.Layout.Thing.{application, boolean, context, opening, closing}
use Rattle.tags.specs.Head.{Tag}
use Rattle.tags.proofs.Refusals.{TagHas, refusals_have}
use Rattle.tags.proofs.Exact.{encode_length, encode_some, head_complete, head_sound}
use Rattle.items.specs.Records.{Rec, rec}
use Rattle.items.specs.Reading.{Out, item_at, end_of}
use Rattle.items.specs.Reading.Out.{good, bad}
use Rattle.items.specs.Grammar.{encode_all, AllValid, Grammar, record_of, records_from}
use Rattle.items.specs.OneItem.{Single, OneItem, StandsOne}
use Rattle.items.specs.OneItem.OneItem.{single, group}
use Rattle.items.proofs.Longest.{one_within}
use Rattle.items.proofs.OneItem.{one_stands, stands_one}
use Rattle.reader.specs.Answers.{Step}
use Rattle.reader.specs.Answers.Step.{Item, Group, End, Refused}
use Rattle.reader.specs.Reading.{shown, judged, step_of}
use Rattle.reader.specs.Stands.{ItemStands, group_of, GroupStands, ClosingStands}
use Rattle.reader.proofs.Heads.{step_over, step_end, step_by, step_item, step_group, step_closing, step_refused}

-- a step by a record, and the record that a step shows
abbrev item_by : Rec → ℕ → Step
item_by r next = Item r.kind r.number r.value r.place r.len next

abbrev record_by : Step → Rec
record_by (Item k n v p l next) = rec k n 0 v p l
record_by (Group n p next) = rec 2 n 0 0 p 0
record_by End = rec 0 0 0 0 0 0
record_by (Refused x) = rec 0 0 0 0 0 0

abbrev next_by : Step → ℕ
next_by (Item k n v p l next) = next
next_by (Group n p next) = next
next_by End = 0
next_by (Refused x) = 0

outside : (at : ℕ) (t : Thing) → Single t → (next : ℕ) → record_by (item_by (record_of at 0 t) next) ≡ record_of at 0 t
unfolding record_of
outside at (application n xs) z next = refl
outside at (boolean v) z next = refl
outside at (context n xs) z next = refl
outside at (opening n) z next = absurd z
outside at (closing n) z next = absurd z

-- ---- what an item's own tag is
single_tag : (at : ℕ) (t : Thing) (k n v p l : ℕ) → tag_of at t ≡ Tag.Item k n v p l → Single t
unfolding tag_of
single_tag at (application n' xs) k n v p l e = tt
single_tag at (boolean x) k n v p l e = tt
single_tag at (context n' xs) k n v p l e = tt
single_tag at (opening m) k n v p l e = impossible (cc)
single_tag at (closing m) k n v p l e = impossible (cc)

single_opens : (at : ℕ) (t : Thing) → Single t → (n p : ℕ) → tag_of at t ≡ Tag.Opening n p → ⊥
unfolding tag_of
single_opens at (application n' xs) z n p e = impossible (cc)
single_opens at (boolean x) z n p e = impossible (cc)
single_opens at (context n' xs) z n p e = impossible (cc)
single_opens at (opening m) z n p e = z
single_opens at (closing m) z n p e = z

opening_tag : (at m n p : ℕ) → tag_of at (opening m) ≡ Tag.Opening n p → (m ≡ n) × (p ≡ at + length (encode (opening m)))
unfolding tag_of
opening_tag at m n p e =
    let z : at + tag_length (opening m) ≡ p = cc in
    (cc, omega (arith, encode_length (opening m)))

opening_stands : (at : ℕ) (t : Thing) (n p : ℕ) → tag_of at t ≡ Tag.Opening n p → t ≡ opening n
unfolding tag_of
opening_stands at (application n' xs) n p e = impossible (cc)
opening_stands at (boolean x) n p e = impossible (cc)
opening_stands at (context n' xs) n p e = impossible (cc)
opening_stands at (opening m) n p e = let z : m ≡ n = cc in ap opening z
opening_stands at (closing m) n p e = impossible (cc)

closing_stands : (at : ℕ) (t : Thing) (n p : ℕ) → tag_of at t ≡ Tag.Closing n p → t ≡ closing n
unfolding tag_of
closing_stands at (application n' xs) n p e = impossible (cc)
closing_stands at (boolean x) n p e = impossible (cc)
closing_stands at (context n' xs) n p e = impossible (cc)
closing_stands at (opening m) n p e = impossible (cc)
closing_stands at (closing m) n p e = let z : m ≡ n = cc in ap closing z

-- ---- what an opening leads to: a group that was read, or a refusal
opened : (m q : ℕ) (o : Out) (n p next : ℕ) → judged (Tag.Opening m q) (end_of o) ≡ Group n p next → (rs : List Rec) × (o ≡ good rs next) × (m ≡ n) × (q ≡ p)
unfolding judged shown end_of
opened m q (good rs end) n p next e = (rs, (let z : end ≡ next = cc in ap (good rs) z), cc, cc)
opened m q (bad x) n p next e = impossible (cc)

opened_item : {X : Type 0} (m q : ℕ) (o : Out) (k n v p l next : ℕ) → judged (Tag.Opening m q) (end_of o) ≡ Item k n v p l next → X
unfolding judged shown end_of
opened_item m q (good rs end) k n v p l next e = impossible (cc)
opened_item m q (bad x) k n v p l next e = impossible (cc)

-- no octet that stands there is the end
judged_end : {X : Type 0} (t : Tag) (o : Out) → judged t (end_of o) ≡ End → X
unfolding judged shown end_of
judged_end (Tag.Item k n v p l) (good rs end) e = impossible (cc)
judged_end (Tag.Opening n p) (good rs end) e = impossible (cc)
judged_end (Tag.Closing n p) (good rs end) e = impossible (cc)
judged_end (Tag.Refused x) (good rs end) e = impossible (cc)
judged_end t (bad x) e = impossible (cc)

module _ (s : List ℕ) (at : ℕ) where
  -- a step that is neither 39 nor the end was judged by an octet that stands there
  there : (r : Step) → step_of s at ≡ r → (r ≡ Refused 39 → ⊥) → (r ≡ End → ⊥) → (length s ≤ longest) × (at < length s)
  there r e other some =
      by_test (ltb longest (length s))
      (λ b. absurd (other (sym e ∙ step_over s at (ltb-true _ _ b))))
      (λ b.
      let short = ltb-false _ _ b in
      by_test (leb (length s) at)
      (λ a. absurd (some (sym e ∙ step_end s at short (leb-true _ _ a))))
      (λ a. (short, leb-false _ _ a)))

  module _ (short : length s ≤ longest) where
    module _ (h : at < length s) where
      -- a single item that stands there
      single_step : (t : Thing) → Single t → head_at s at ≡ tag_of at t → step_of s at ≡ item_by (record_of at 0 t) (at + length (encode t))
      unfolding tag_of record_of
      single_step (application n xs) z e =
          let q : at + length (encode (application n xs)) ≡ at + tag_length (application n xs) + length xs = omega (arith, encode_length (application n xs)) in
          rw q (step_item s at short h _ _ _ _ _ e)
      single_step (boolean v) z e =
          let q : at + length (encode (boolean v)) ≡ at + tag_length (boolean v) + 0 = omega (arith, encode_length (boolean v)) in
          rw q (step_item s at short h _ _ _ _ _ e)
      single_step (context n xs) z e =
          let q : at + length (encode (context n xs)) ≡ at + tag_length (context n xs) + length xs = omega (arith, encode_length (context n xs)) in
          rw q (step_item s at short h _ _ _ _ _ e)
      single_step (opening n) z e = absurd z
      single_step (closing n) z e = absurd z

  -- ---- an item
  module _ (k n v p l next : ℕ) where
    stands_item : length s ≤ longest → ItemStands s at k n v p l next → step_of s at ≡ Item k n v p l next
    stands_item short w =
        let t = w.thing in
        let h : at < length s = omega (arith, has_bound s at (encode t) w.stands, encode_some t) in
        single_step short h t w.single (head_complete s at t w.valid w.stands)
        ∙ ap (λ (r : Rec). item_by r (at + length (encode t))) w.shown ∙ ap (Item k n v p l) (sym w.ends)

    shows_single : (t : Thing) → Single t → Valid t → Has s at (encode t) → step_of s at ≡ item_by (record_of at 0 t) (at + length (encode t)) → step_of s at ≡ Item k n v p l next
        → ItemStands s at k n v p l next
    shows_single t z v w e q =
        let d = sym e ∙ q in
        record {
          thing = t;
          single = z;
          valid = v;
          stands = w;
          shown = sym (outside at t z (at + length (encode t))) ∙ ap record_by d;
          ends = sym (ap next_by d);
        }

    by_tag : Octets s → length s ≤ longest → at < length s → step_of s at ≡ Item k n v p l next → (u : Tag) → head_at s at ≡ u → ItemStands s at k n v p l next
    by_tag os short h q (Tag.Item c x y a b) e =
        let g = head_sound s os at (subst Good (sym e) tt) in
        let z = single_tag at g.0 c x y a b (sym g.3 ∙ e) in
        shows_single g.0 z g.1 g.2 (single_step short h g.0 z g.3) q
    by_tag os short h q (Tag.Opening m a) e = opened_item m a (item_at s at) k n v p l next (rw e at (sym (step_by s at short h) ∙ q))
    by_tag os short h q (Tag.Closing m a) e = (let z = sym q ∙ step_closing s at short h m a e in impossible (cc))
    by_tag os short h q (Tag.Refused x) e = (let z = sym q ∙ step_refused s at short h x e in impossible (cc))

    item_stands : Octets s → step_of s at ≡ Item k n v p l next → (length s ≤ longest) × ItemStands s at k n v p l next
    item_stands os q =
        let w = there (Item k n v p l next) q (λ e. impossible (cc)) (λ e. impossible (cc)) in
        (w.0, by_tag os w.0 w.1 q (head_at s at) refl)

    pub item_exact : Octets s → (step_of s at ≡ Item k n v p l next) ↔ ((length s ≤ longest) × ItemStands s at k n v p l next)
    item_exact os = (item_stands os, λ w. stands_item w.0 w.1)

  -- ---- a group
  module _ (n p next : ℕ) where
    stands_group : Octets s → length s ≤ longest → GroupStands s at n p next → step_of s at ≡ Group n p next
    unfolding end_of encode_all tag_of
    stands_group os short w =
        let ts = group_of n w.inner in
        let rs = records_from at 0 ts in
        let one : StandsOne s at ts rs next = record { one = group n w.inner w.closed refl; grammar = w.grammar; stands = w.stands; ends = w.ends; records = refl } in
        let read : item_at s at ≡ good rs next = sym (one_within s at short) ∙ stands_one s os at rs next short ts one in
        let h : at < length s = omega (arith, has_bound s at (encode_all ts) w.stands, length-append (encode (opening n)) (encode_all (w.inner ++ (closing n ∷ []))), encode_some (opening n)) in
        let v : Valid (opening n) = w.grammar.valid.0 in
        let tag = head_complete s at (opening n) v (has_left s at (encode (opening n)) (encode_all (w.inner ++ (closing n ∷ []))) (omega arith) w.stands) in
        let a : at + tag_length (opening n) ≡ p = omega (arith, encode_length (opening n), w.inside) in
        step_group s at short h n p next (rw a at tag) (ap end_of read)

    module _ (tag : head_at s at ≡ Tag.Opening n p) (ts : List Thing) (rs : List Rec) (w : StandsOne s at ts rs next) where
      -- the tag of its first item
      first_tag : (t : Thing) (us : List Thing) → ts ≡ t ∷ us → tag_of at t ≡ Tag.Opening n p
      unfolding encode_all
      first_tag t us e =
          let h : Has s at (encode t ++ encode_all us) = subst (λ (x : List Thing). Has s at (encode_all x)) e w.stands in
          let v : Valid t = (subst AllValid e w.grammar.valid).0 in
          let b = has_bound s at (encode t ++ encode_all us) h in
          sym (head_complete s at t v (has_left s at (encode t) (encode_all us) (omega arith) h)) ∙ tag

      by_one : OneItem ts → GroupStands s at n p next
      by_one (single t z e) = absurd (single_opens at t z n p (first_tag t [] e))
      by_one (group m inner b e) =
          let g = opening_tag at m n p (first_tag (opening m) (inner ++ (closing m ∷ [])) e) in
          let stood : GroupStands s at m p next = record {
            inner = inner;
            closed = b;
            grammar = subst Grammar e w.grammar;
            stands = subst (λ (x : List Thing). Has s at (encode_all x)) e w.stands;
            inside = g.1;
            ends = w.ends ∙ ap (λ (x : List Thing). at + length (encode_all x)) e;
          } in
          subst (λ (x : ℕ). GroupStands s at x p next) g.0 stood

    module _ (os : Octets s) (short : length s ≤ longest) (h : at < length s) (q : step_of s at ≡ Group n p next) where
      by_opening : (m a : ℕ) → head_at s at ≡ Tag.Opening m a → GroupStands s at n p next
      by_opening m a e =
          let o = opened m a (item_at s at) n p next (rw e at (sym (step_by s at short h) ∙ q)) in
          let f = one_stands s os at o.0 next (one_within s at short ∙ o.1) in
          by_one (rw (← o.2, ← o.3) e) f.1 o.0 f.2 f.2.one

      group_tag : (u : Tag) → head_at s at ≡ u → GroupStands s at n p next
      group_tag (Tag.Item c x y a b) e = (let z = sym q ∙ step_item s at short h c x y a b e in impossible (cc))
      group_tag (Tag.Opening m a) e = by_opening m a e
      group_tag (Tag.Closing m a) e = (let z = sym q ∙ step_closing s at short h m a e in impossible (cc))
      group_tag (Tag.Refused x) e = (let z = sym q ∙ step_refused s at short h x e in impossible (cc))

    group_stands : Octets s → step_of s at ≡ Group n p next → (length s ≤ longest) × GroupStands s at n p next
    group_stands os q =
        let w = there (Group n p next) q (λ e. impossible (cc)) (λ e. impossible (cc)) in
        (w.0, group_tag os w.0 w.1 q (head_at s at) refl)

    pub group_exact : Octets s → (step_of s at ≡ Group n p next) ↔ ((length s ≤ longest) × GroupStands s at n p next)
    group_exact os = (group_stands os, λ w. stands_group os w.0 w.1)

  -- ---- the end, and a closing tag
  ended : step_of s at ≡ End → (length s ≤ longest) × (length s ≤ at)
  ended q =
      by_test (ltb longest (length s))
      (λ b. (let z = sym q ∙ step_over s at (ltb-true _ _ b) in impossible (cc)))
      (λ b.
      let short = ltb-false _ _ b in
      by_test (leb (length s) at)
      (λ a. (short, leb-true _ _ a))
      (λ a. judged_end (head_at s at) (item_at s at) (sym (step_by s at short (leb-false _ _ a)) ∙ q)))

  pub end_exact : (step_of s at ≡ End) ↔ ((length s ≤ longest) × (length s ≤ at))
  end_exact = (ended, λ w. step_end s at w.0 w.1)

  pub closing_refused : length s ≤ longest → ClosingStands s at → step_of s at ≡ Refused 35
  unfolding tag_of
  closing_refused short w =
      let t = closing w.number in
      let h : at < length s = omega (arith, has_bound s at (encode t) w.stands, encode_some t) in
      step_closing s at short h w.number (at + tag_length t) (head_complete s at t w.valid w.stands)

  -- where no group opens, 35 is given on a closing tag alone
  module _ (os : Octets s) (none : (n : ℕ) → Valid (opening n) → Has s at (encode (opening n)) → ⊥) where
    by_closing : length s ≤ longest → at < length s → step_of s at ≡ Refused 35 → (u : Tag) → head_at s at ≡ u → ClosingStands s at
    by_closing short h q (Tag.Item c x y a b) e = (let z = sym q ∙ step_item s at short h c x y a b e in impossible (cc))
    by_closing short h q (Tag.Opening m a) e =
        let g = head_sound s os at (subst Good (sym e) tt) in
        let z = opening_stands at g.0 m a (sym g.3 ∙ e) in
        absurd (none m (subst Valid z g.1) (subst (λ (t : Thing). Has s at (encode t)) z g.2))
    by_closing short h q (Tag.Closing m a) e =
        let g = head_sound s os at (subst Good (sym e) tt) in
        let z = closing_stands at g.0 m a (sym g.3 ∙ e) in
        record { number = m; valid = subst Valid z g.1; stands = subst (λ (t : Thing). Has s at (encode t)) z g.2 }
    by_closing short h q (Tag.Refused x) e =
        let d : Refused 35 ≡ Refused x = sym q ∙ step_refused s at short h x e in
        let z : x ≡ 35 = cc in
        let low : x ≤ 34 = subst (TagHas (λ n. n ≤ 34)) e (refusals_have (λ n. n ≤ 34) (λ n a b. b) s at) in
        absurd (omega arith)

    closing_there : step_of s at ≡ Refused 35 → (length s ≤ longest) × ClosingStands s at
    closing_there q =
        let w = there (Refused 35) q (λ e. (let z : ◌≡◌ {A = ℕ} 35 39 = cc in omega arith)) (λ e. impossible (cc)) in
        (w.0, by_closing w.0 w.1 q (head_at s at) refl)

    pub closing_exact : (step_of s at ≡ Refused 35) ↔ ((length s ≤ longest) × ClosingStands s at)
    closing_exact = (closing_there, λ w. closing_refused w.0 w.1)
