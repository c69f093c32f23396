-- Each number of a step exactly when: what refuses it is the offence behind a good front.
use Prim.Native.Nat.{ℕ, zero, suc, ◌+◌, ◌-◌, ◌≤◌, ◌<◌}
use native.Mathlib.Omega.{arith}
use mathlib.Core.Path.{◌≡◌, refl, sym, ap, subst, ◌∙◌}
use mathlib.Core.Logic.{◌↔◌, ◌⊎◌, inl, inr, ⊎_elim}
use mathlib.Core.List.{List, [], ◌∷◌, ◌++◌}
use lib.ListN.{length, length-append}
use lib.Dec.{ltb, leb, eqb}
use borrow.Author.Tests.{ltb-true, ltb-false, leb-true, leb-false, lt-leb, le-leb, eqb-true, eqb-false, eq-eqb, ne_eqb}
use Rattle.octets.specs.Choice.{by_test, impossible, pick_which}
use Rattle.octets.specs.Reading.{Octets}
use Rattle.octets.specs.Has.{Has, has_bound, has_append, has_left, has_right}
use Rattle.tags.specs.Types.{longest}
use Rattle.tags.specs.Reading.{head_at}
use Rattle.tags.specs.Layout.{Thing, Good, Stands, encode, Valid, tag_of}
use Rattle.tags.specs.Layout.Thing.{application, boolean, context, opening, closing}
use Rattle.tags.specs.Rows.{Given}
use Rattle.tags.specs.Head.{Tag}
use Rattle.tags.proofs.Exact.{encode_some, head_complete, head_sound}
use Rattle.tags.proofs.Rows.{rows_exact}
use Rattle.items.specs.Records.{Rec}
use Rattle.items.specs.Reading.{Out, more, closes, step, within, item_at, one_at, end_of, most_items, deepest}
use Rattle.items.specs.Reading.Out.{good, bad}
use Rattle.items.specs.Grammar.{encode_all, AllValid, record_of}
use Rattle.items.specs.OneItem.{Single}
use Rattle.items.proofs.Machine.{more_bad, within_done}
use Rattle.items.proofs.Longest.{one_over, one_within}
use Rattle.items.proofs.Exact.{simple_step, open_step, close_step}
use Rattle.reader.specs.Answers.Step.{Refused}
use Rattle.reader.specs.Reading.{shown, judged, step_of}
use Rattle.reader.specs.Rows.{Leads, Front, Offence, Row}
use Rattle.reader.specs.Rows.Front.{nothing, opened}
use Rattle.reader.specs.Rows.Offence.{group_open, too_many, other_closing, too_deep, tag}
use Rattle.reader.proofs.Heads.{step_over, step_end, step_by, step_item, step_open, step_closing, step_refused}

-- ---- refusals of what comes behind a record
more_refused : (rs : List Rec) (o : Out) (x : ℕ) → more rs o ≡ bad x → o ≡ bad x
unfolding more
more_refused rs (good ys end) x e = impossible (cc)
more_refused rs (bad y) x e = e

good_not : {X : Type 0} (rs : List Rec) (end x : ℕ) → good rs end ≡ bad x → X
good_not rs end x e = impossible (cc)

same_number : (y x : ℕ) → bad y ≡ bad x → x ≡ y
same_number y x e = cc

-- ---- offences at the place where they stand
here : (s : List ℕ) (at i : ℕ) (gs : List ℕ) (x : ℕ) → Offence s at i gs x → Offence s (at + length (encode_all [])) (i + 0) gs x
unfolding encode_all
here s at i gs x o = let p : at + 0 ≡ at = omega arith in let q : i + 0 ≡ i = omega arith in rw (p, q) o

-- from a place in groups on: the items in front of the offence, behind i others
record Meets (s : List ℕ) (at i : ℕ) (gs : List ℕ) (x : ℕ) : Type 0 where
  items : List Thing
  groups : List ℕ
  leads : Leads gs items groups
  most : i + length items ≤ most_items
  valid : AllValid items
  stands : Has s at (encode_all items)
  offence : Offence s (at + length (encode_all items)) (i + length items) groups x

meets_here : (s : List ℕ) (at i : ℕ) (gs : List ℕ) (x : ℕ) → i ≤ most_items → at ≤ length s → Offence s at i gs x → Meets s at i gs x
unfolding encode_all
meets_here s at i gs x m h o = record { items = []; groups = gs; leads = refl; most = omega arith; valid = tt; stands = h; offence = here s at i gs x o }

-- one item in front
meets_more : (s : List ℕ) (at i : ℕ) (gs behind : List ℕ) (x : ℕ) (t : Thing) → Valid t → Has s at (encode t) → ((ts : List Thing) (gs' : List ℕ) → Leads behind ts gs' → Leads gs (t ∷ ts) gs')
    → Meets s (at + length (encode t)) (i + 1) behind x → Meets s at i gs x
unfolding encode_all
meets_more s at i gs behind x t v h l m =
    let p : at + length (encode t) + length (encode_all m.items) ≡ at + length (encode t ++ encode_all m.items) = omega (arith, length-append (encode t) (encode_all m.items)) in
    let q : i + 1 + length m.items ≡ i + suc (length m.items) = omega arith in
    record {
      items = t ∷ m.items;
      groups = m.groups;
      leads = l m.items m.groups m.leads;
      most = omega (arith, m.most);
      valid = (v, m.valid);
      stands = has_append s at (encode t) (encode_all m.items) h m.stands;
      offence = rw (p, q) at m.offence;
    }

module _ (s : List ℕ) (os : Octets s) (x : ℕ) where
  abbrev Refuses : (ℕ → List ℕ → Out) → ℕ → Type 0
  Refuses rest i = (at m : ℕ) (gs : List ℕ) → at ≤ length s → rest at (m ∷ gs) ≡ bad x → Meets s at i (m ∷ gs) x

  -- a tag stands there, or is refused
  tag_there : (at : ℕ) (u : Tag) → head_at s at ≡ u → Stands s at (head_at s at) ⊎ ((y : ℕ) × (head_at s at ≡ Tag.Refused y))
  tag_there at (Tag.Item k n v p l) e = inl (head_sound s os at (subst Good (sym e) tt))
  tag_there at (Tag.Opening n p) e = inl (head_sound s os at (subst Good (sym e) tt))
  tag_there at (Tag.Closing n p) e = inl (head_sound s os at (subst Good (sym e) tt))
  tag_there at (Tag.Refused y) e = inr (y, e)

  given : (at y : ℕ) → head_at s at ≡ Tag.Refused y → x ≡ y → Given x s at
  given at y e z = (rows_exact s os at x).0 (e ∙ ap Tag.Refused (sym z))

  -- one tag that stands in a group, and what follows it; where no group is open nothing is refused
  module _ (rest : ℕ → List ℕ → Out) (i : ℕ) (room : i < most_items) (ih : Refuses rest (i + 1)) (done : (at : ℕ) → rest at [] ≡ good [] at) where
    single_refused : (at m : ℕ) (gs : List ℕ) (t : Thing) → Single t → Valid t → Has s at (encode t)
        → ((ts : List Thing) (gs' : List ℕ) → Leads (m ∷ gs) ts gs' → Leads (m ∷ gs) (t ∷ ts) gs') → step rest (tag_of at t) (m ∷ gs) ≡ bad x → Meets s at i (m ∷ gs) x
    single_refused at m gs t z v h l e =
        meets_more s at i (m ∷ gs) (m ∷ gs) x t v h l
        (ih (at + length (encode t)) m gs (has_bound s at (encode t) h) (more_refused (record_of at (length (m ∷ gs)) t ∷ []) _ x (sym (simple_step rest at (m ∷ gs) t z) ∙ e)))

    opening_refused : (at m : ℕ) (gs : List ℕ) (n : ℕ) → Valid (opening n) → Has s at (encode (opening n)) → step rest (tag_of at (opening n)) (m ∷ gs) ≡ bad x → Meets s at i (m ∷ gs) x
    opening_refused at m gs n v h e =
        let b = has_bound s at (encode (opening n)) h in
        ⊎_elim
        (λ w. meets_here s at i (m ∷ gs) x (omega arith) (omega arith) (too_deep (same_number 37 x w.1) room n v h (leb-true _ _ w.0)))
        (λ w. meets_more s at i (m ∷ gs) (n ∷ m ∷ gs) x (opening n) v h (λ ts gs' l. (leb-false _ _ w.0, l)) (ih (at + length (encode (opening n))) n (m ∷ gs) b (more_refused _ _ x w.1)))
        (pick_which (leb deepest (length (m ∷ gs))) (bad 37) _ (bad x) (sym (open_step rest at (m ∷ gs) n) ∙ e))

    own_closing : (at m : ℕ) (gs : List ℕ) (n : ℕ) → Valid (closing n) → Has s at (encode (closing n)) → n ≡ m → rest (at + length (encode (closing n))) gs ≡ bad x → Meets s at i (m ∷ gs) x
    own_closing at m [] n v h own e = good_not [] _ x (sym (done (at + length (encode (closing n)))) ∙ e)
    own_closing at m (l ∷ gs) n v h own e =
        meets_more s at i (m ∷ l ∷ gs) (l ∷ gs) x (closing n) v h (λ ts gs' w. (own, w)) (ih (at + length (encode (closing n))) l gs (has_bound s at (encode (closing n)) h) e)

    closing_refused : (at m : ℕ) (gs : List ℕ) (n : ℕ) → Valid (closing n) → Has s at (encode (closing n)) → step rest (tag_of at (closing n)) (m ∷ gs) ≡ bad x → Meets s at i (m ∷ gs) x
    closing_refused at m gs n v h e =
        let b = has_bound s at (encode (closing n)) h in
        ⊎_elim
        (λ w. own_closing at m gs n v h (eqb-true n m w.0) (more_refused _ _ x w.1))
        (λ w. meets_here s at i (m ∷ gs) x (omega arith) (omega arith) (other_closing (same_number 35 x w.1) room n v h (eqb-false n m w.0)))
        (pick_which (eqb n m) _ (bad 35) (bad x) (sym (close_step rest at m gs n) ∙ e))

    thing_refused : (at m : ℕ) (gs : List ℕ) (t : Thing) → Valid t → Has s at (encode t) → step rest (tag_of at t) (m ∷ gs) ≡ bad x → Meets s at i (m ∷ gs) x
    thing_refused at m gs (application n xs) v h e = single_refused at m gs (application n xs) tt v h (λ ts gs' l. l) e
    thing_refused at m gs (boolean y) v h e = single_refused at m gs (boolean y) tt v h (λ ts gs' l. l) e
    thing_refused at m gs (context n xs) v h e = single_refused at m gs (context n xs) tt v h (λ ts gs' l. l) e
    thing_refused at m gs (opening n) v h e = opening_refused at m gs n v h e
    thing_refused at m gs (closing n) v h e = closing_refused at m gs n v h e

    tag_refused : (at m : ℕ) (gs : List ℕ) → at < length s → step rest (head_at s at) (m ∷ gs) ≡ bad x → Meets s at i (m ∷ gs) x
    unfolding step
    tag_refused at m gs h e =
        ⊎_elim
        (λ g. thing_refused at m gs g.0 g.1 g.2 (rw g.3 at e))
        (λ g. meets_here s at i (m ∷ gs) x (omega arith) (omega arith) (tag room h (given at g.0 g.1 (same_number g.0 x (rw g.1 at e)))))
        (tag_there at (head_at s at) refl)

  within_meets : (k i : ℕ) → k + i ≡ most_items → Refuses (within k s) i
  unfolding within
  within_meets zero i c at m gs h e =
      ⊎_elim
      (λ w. meets_here s at i (m ∷ gs) x (omega arith) h (group_open (same_number 36 x w.1) (omega arith) (leb-true _ _ w.0)))
      (λ w. meets_here s at i (m ∷ gs) x (omega arith) h (too_many (same_number 38 x w.1) (leb-false _ _ w.0) (omega arith)))
      (pick_which (leb (length s) at) (bad 36) (bad 38) (bad x) e)
  within_meets (suc k) i c at m gs h e =
      ⊎_elim
      (λ w. meets_here s at i (m ∷ gs) x (omega arith) h (group_open (same_number 36 x w.1) (omega arith) (leb-true _ _ w.0)))
      (λ w. tag_refused (within k s) i (omega arith) (within_meets k (i + 1) (omega arith)) (within_done k s) at m gs (leb-false _ _ w.0) w.1)
      (pick_which (leb (length s) at) (bad 36) _ (bad x) e)

  -- ---- the first tag, where no group is open
  abbrev last : ℕ
  last = most_items - 1

  row_none : (at : ℕ) → at ≤ length s → Offence s at 0 [] x → Row s at x
  unfolding encode_all
  row_none at h o =
      let p : at + 0 ≡ at = omega arith in
      record { front = []; groups = []; leads = nothing refl refl; most = omega arith; valid = tt; stands = h; offence = rw p o }

  row_opened : (at n : ℕ) → Valid (opening n) → Has s at (encode (opening n)) → Meets s (at + length (encode (opening n))) 1 (n ∷ []) x → Row s at x
  unfolding encode_all
  row_opened at n v h m =
      let t = opening n in
      let p : at + length (encode t) + length (encode_all m.items) ≡ at + length (encode t ++ encode_all m.items) = omega (arith, length-append (encode t) (encode_all m.items)) in
      let q : 1 + length m.items ≡ suc (length m.items) = omega arith in
      record {
        front = t ∷ m.items;
        groups = m.groups;
        leads = opened n m.items refl m.leads;
        most = omega (arith, m.most);
        valid = (v, m.valid);
        stands = has_append s at (encode t) (encode_all m.items) h m.stands;
        offence = rw (p, q) at m.offence;
      }

  -- a single item is whole
  whole_not : {X : Type 0} (at : ℕ) (t : Thing) → Single t → step (within last s) (tag_of at t) [] ≡ bad x → X
  whole_not at t z e =
      good_not [] _ x (sym (within_done last s (at + length (encode t))) ∙ more_refused (record_of at 0 t ∷ []) _ x (sym (simple_step (within last s) at [] t z) ∙ e))

  first_thing : (at : ℕ) → at < length s → (t : Thing) → Valid t → Has s at (encode t) → step (within last s) (tag_of at t) [] ≡ bad x → Row s at x
  unfolding tag_of step closes
  first_thing at h (application n xs) v w e = whole_not at (application n xs) tt e
  first_thing at h (boolean y) v w e = whole_not at (boolean y) tt e
  first_thing at h (context n xs) v w e = whole_not at (context n xs) tt e
  first_thing at h (opening n) v w e =
      ⊎_elim
      (λ z. absurd (omega (arith, leb-true deepest 0 z.0)))
      (λ z. row_opened at n v w (within_meets last 1 (omega arith) (at + length (encode (opening n))) n [] (has_bound s at (encode (opening n)) w) (more_refused _ _ x z.1)))
      (pick_which (leb deepest 0) (bad 37) _ (bad x) (sym (open_step (within last s) at [] n) ∙ e))
  first_thing at h (closing n) v w e = row_none at (omega arith) (other_closing (same_number 35 x e) (omega arith) n v w (λ z. z))

  item_row : (at : ℕ) → at < length s → item_at s at ≡ bad x → Row s at x
  unfolding item_at step
  item_row at h e =
      ⊎_elim
      (λ g. first_thing at h g.0 g.1 g.2 (rw g.3 at e))
      (λ g. row_none at (omega arith) (tag (omega arith) h (given at g.0 g.1 (same_number g.0 x (rw g.1 at e)))))
      (tag_there at (head_at s at) refl)

-- ---- an offence behind a good front is what refuses
within_steps : (k : ℕ) (s : List ℕ) (at m : ℕ) (gs : List ℕ) → at < length s → within (suc k) s at (m ∷ gs) ≡ step (within k s) (head_at s at) (m ∷ gs)
unfolding within
within_steps k s at m gs h = rw (lt-leb _ _ h)

module _ (s : List ℕ) (os : Octets s) (x : ℕ) where
  -- a thing that stands at a place is its tag there
  at_thing : (k at m : ℕ) (gs : List ℕ) (t : Thing) → Valid t → Has s at (encode t) → within (suc k) s at (m ∷ gs) ≡ step (within k s) (tag_of at t) (m ∷ gs)
  at_thing k at m gs t v h =
      let b : at < length s = omega (arith, has_bound s at (encode t) h, encode_some t) in
      within_steps k s at m gs b ∙ rw (head_complete s at t v h)

  offends : (k i at m : ℕ) (gs : List ℕ) → k + i ≡ most_items → Offence s at i (m ∷ gs) x → within k s at (m ∷ gs) ≡ bad x
  unfolding within step
  offends zero i at m gs c (group_open e _ h) = rw (le-leb _ _ h, e)
  offends (suc k) i at m gs c (group_open e _ h) = rw (le-leb _ _ h, e)
  offends zero i at m gs c (too_many e h many) = rw (lt-leb _ _ h, e)
  offends (suc k) i at m gs c (too_many e h many) = absurd (omega arith)
  offends zero i at m gs c (other_closing e room n v h other) = absurd (omega arith)
  offends (suc k) i at m gs c (other_closing e room n v h other) = at_thing k at m gs (closing n) v h ∙ close_step (within k s) at m gs n ∙ rw (ne_eqb n m other, e)
  offends zero i at m gs c (too_deep e room n v h deep) = absurd (omega arith)
  offends (suc k) i at m gs c (too_deep e room n v h deep) = at_thing k at m gs (opening n) v h ∙ open_step (within k s) at (m ∷ gs) n ∙ rw (le-leb deepest (length (m ∷ gs)) deep, e)
  offends zero i at m gs c (tag room h g) = absurd (omega arith)
  offends (suc k) i at m gs c (tag room h g) = within_steps k s at m gs h ∙ rw ((rows_exact s os at x).1 g)

  -- an item in front of it
  module _ (k at m : ℕ) (gs : List ℕ) (t : Thing) (v : Valid t) (h : Has s at (encode t)) where
    single_on : Single t → within k s (at + length (encode t)) (m ∷ gs) ≡ bad x → within (suc k) s at (m ∷ gs) ≡ bad x
    single_on z e = at_thing k at m gs t v h ∙ simple_step (within k s) at (m ∷ gs) t z ∙ rw (e, more_bad)

  opening_on : (k at m : ℕ) (gs : List ℕ) (n : ℕ) → Valid (opening n) → Has s at (encode (opening n)) → length (m ∷ gs) < deepest
      → within k s (at + length (encode (opening n))) (n ∷ m ∷ gs) ≡ bad x → within (suc k) s at (m ∷ gs) ≡ bad x
  opening_on k at m gs n v h deep e = at_thing k at m gs (opening n) v h ∙ open_step (within k s) at (m ∷ gs) n ∙ rw (lt-leb deepest (length (m ∷ gs)) deep, e, more_bad)

  closing_on : (k at m l : ℕ) (gs : List ℕ) (n : ℕ) → Valid (closing n) → Has s at (encode (closing n)) → n ≡ m
      → within k s (at + length (encode (closing n))) (l ∷ gs) ≡ bad x → within (suc k) s at (m ∷ l ∷ gs) ≡ bad x
  closing_on k at m l gs n v h own e = at_thing k at m (l ∷ gs) (closing n) v h ∙ close_step (within k s) at m (l ∷ gs) n ∙ rw (eq-eqb n m own, e, more_bad)

  -- what is known of the items in front, and of those behind the first
  abbrev Known : ℕ → ℕ → List Thing → List ℕ → Type 0
  Known at i ts gs = AllValid ts × Has s at (encode_all ts) × Offence s (at + length (encode_all ts)) (i + length ts) gs x

  known_next : (at i : ℕ) (t : Thing) (ts : List Thing) (gs : List ℕ) → Known at i (t ∷ ts) gs → Known (at + length (encode t)) (i + 1) ts gs
  unfolding encode_all
  known_next at i t ts gs w =
      let p : at + length (encode t ++ encode_all ts) ≡ at + length (encode t) + length (encode_all ts) = omega (arith, length-append (encode t) (encode_all ts)) in
      let q : i + suc (length ts) ≡ i + 1 + length ts = omega arith in
      (w.0.1, has_right s at (encode t) (encode_all ts) w.1, rw (p, q) at w.2)

  known_first : (at i : ℕ) (t : Thing) (ts : List Thing) (gs : List ℕ) → Known at i (t ∷ ts) gs → Valid t × Has s at (encode t)
  unfolding encode_all
  known_first at i t ts gs w =
      let b = has_bound s at (encode t ++ encode_all ts) w.1 in
      (w.0.0, has_left s at (encode t) (encode_all ts) (omega arith) w.1)

  known_here : (at i : ℕ) (gs : List ℕ) → Known at i [] gs → Offence s at i gs x
  unfolding encode_all
  known_here at i gs w = let p : at + 0 ≡ at = omega arith in let q : i + 0 ≡ i = omega arith in rw (p, q) at w.2

  goes : (k i at m : ℕ) (gs : List ℕ) (ts : List Thing) (gs' : List ℕ) → k + i ≡ most_items → i + length ts ≤ most_items → Leads (m ∷ gs) ts gs' → Known at i ts gs'
      → within k s at (m ∷ gs) ≡ bad x
  goes k i at m gs [] gs' c room l w = offends k i at m gs c (subst (λ (g : List ℕ). Offence s at i g x) (sym l) (known_here at i gs' w))
  goes zero i at m gs (t ∷ ts) gs' c room l w = absurd (omega arith)
  goes (suc k) i at m gs (application n xs ∷ ts) gs' c room l w =
      let t = application n xs in
      let f = known_first at i t ts gs' w in
      single_on k at m gs t f.0 f.1 tt (goes k (i + 1) (at + length (encode t)) m gs ts gs' (omega arith) (omega arith) l (known_next at i t ts gs' w))
  goes (suc k) i at m gs (boolean y ∷ ts) gs' c room l w =
      let t = boolean y in
      let f = known_first at i t ts gs' w in
      single_on k at m gs t f.0 f.1 tt (goes k (i + 1) (at + length (encode t)) m gs ts gs' (omega arith) (omega arith) l (known_next at i t ts gs' w))
  goes (suc k) i at m gs (context n xs ∷ ts) gs' c room l w =
      let t = context n xs in
      let f = known_first at i t ts gs' w in
      single_on k at m gs t f.0 f.1 tt (goes k (i + 1) (at + length (encode t)) m gs ts gs' (omega arith) (omega arith) l (known_next at i t ts gs' w))
  goes (suc k) i at m gs (opening n ∷ ts) gs' c room l w =
      let t = opening n in
      let f = known_first at i t ts gs' w in
      opening_on k at m gs n f.0 f.1 l.0 (goes k (i + 1) (at + length (encode t)) n (m ∷ gs) ts gs' (omega arith) (omega arith) l.1 (known_next at i t ts gs' w))
  goes (suc k) i at m [] (closing n ∷ ts) gs' c room l w = absurd l
  goes (suc k) i at m (g ∷ gs) (closing n ∷ ts) gs' c room l w =
      let t = closing n in
      let f = known_first at i t ts gs' w in
      closing_on k at m g gs n f.0 f.1 l.0 (goes k (i + 1) (at + length (encode t)) g gs ts gs' (omega arith) (omega arith) l.1 (known_next at i t ts gs' w))

  -- the first tag
  first_offends : (at : ℕ) → Offence s at 0 [] x → item_at s at ≡ bad x
  unfolding item_at step closes tag_of
  first_offends at (group_open e some h) = absurd (omega arith)
  first_offends at (too_many e h many) = absurd (omega arith)
  first_offends at (other_closing e room n v h other) = rw (head_complete s at (closing n) v h, e)
  first_offends at (too_deep e room n v h deep) = absurd (omega arith)
  first_offends at (tag room h g) = rw ((rows_exact s os at x).1 g)

  first_opens : (at n : ℕ) (us : List Thing) (gs : List ℕ) → length (opening n ∷ us) ≤ most_items → Leads (n ∷ []) us gs → Known at 0 (opening n ∷ us) gs → item_at s at ≡ bad x
  unfolding item_at
  first_opens at n us gs room l w =
      let t = opening n in
      let f = known_first at 0 t us gs w in
      rw (head_complete s at t f.0 f.1) (open_step (within (most_items - 1) s) at [] n
      ∙ rw (goes (most_items - 1) 1 (at + length (encode t)) n [] us gs (omega arith) (omega arith) l (known_next at 0 t us gs w), more_bad))

  known_row : (at : ℕ) (r : Row s at x) → Known at 0 r.front r.groups
  known_row at r = let q : length r.front ≡ 0 + length r.front = omega arith in (r.valid, r.stands, rw q at r.offence)

  row_item : (at : ℕ) (r : Row s at x) → Front r.front r.groups → item_at s at ≡ bad x
  row_item at r (nothing e f) =
      first_offends at (known_here at 0 [] (subst (Known at 0 []) f (subst (λ (ts : List Thing). Known at 0 ts r.groups) e (known_row at r))))
  row_item at r (opened n us e l) =
      first_opens at n us r.groups (subst (λ (ts : List Thing). length ts ≤ most_items) e r.most) l (subst (λ (ts : List Thing). Known at 0 ts r.groups) e (known_row at r))

-- ---- a step is refused as the item is
same_refusal : (y x : ℕ) → Refused y ≡ Refused x → x ≡ y
same_refusal y x e = cc

opened_refused : (n p : ℕ) (o : Out) (x : ℕ) → judged (Tag.Opening n p) (end_of o) ≡ Refused x → o ≡ bad x
unfolding judged shown end_of
opened_refused n p (good rs end) x e = impossible (cc)
opened_refused n p (bad y) x e = ap bad (sym (same_refusal y x e))

module _ (s : List ℕ) (at x : ℕ) where
  module _ (short : length s ≤ longest) (h : at < length s) where
    by_opening : step_of s at ≡ Refused x → (n p : ℕ) → head_at s at ≡ Tag.Opening n p → item_at s at ≡ bad x
    by_opening q n p e = opened_refused n p (item_at s at) x (rw e at (sym (step_by s at short h) ∙ q))

    item_refused : step_of s at ≡ Refused x → (u : Tag) → head_at s at ≡ u → item_at s at ≡ bad x
    unfolding item_at step closes
    item_refused q (Tag.Item k n v p l) e = (let z = sym q ∙ step_item s at short h k n v p l e in impossible (cc))
    item_refused q (Tag.Opening n p) e = by_opening q n p e
    item_refused q (Tag.Closing n p) e = rw (e, same_refusal 35 x (sym (step_closing s at short h n p e) ∙ q))
    item_refused q (Tag.Refused y) e = rw (e, same_refusal y x (sym (step_refused s at short h y e) ∙ q))

  abbrev Why : Type 0
  Why = ((x ≡ 39) × (longest < length s)) ⊎ ((length s ≤ longest) × (at < length s) × Row s at x)

  why : Octets s → step_of s at ≡ Refused x → Why
  why os q =
      by_test (ltb longest (length s))
      (λ b. let over = ltb-true _ _ b in inl (same_refusal 39 x (sym (step_over s at over) ∙ q), over))
      (λ b.
      let short = ltb-false _ _ b in
      by_test (leb (length s) at)
      (λ a. (let z = sym q ∙ step_end s at short (leb-true _ _ a) in impossible (cc)))
      (λ a. let h = leb-false _ _ a in inr (short, h, item_row s os x at h (item_refused short h q (head_at s at) refl))))

  because : Octets s → Why → step_of s at ≡ Refused x
  unfolding end_of
  because os (inl w) = step_over s at w.1 ∙ ap Refused (sym w.0)
  because os (inr w) = step_open s at w.0 w.1 x (ap end_of (row_item s os x at w.2 w.2.leads))

  pub steps_rows : Octets s → (step_of s at ≡ Refused x) ↔ (((x ≡ 39) × (longest < length s)) ⊎ ((length s ≤ longest) × (at < length s) × Row s at x))
  steps_rows os = (why os, because os)

  -- two rows have one number
  pub rows_one : Octets s → length s ≤ longest → at < length s → (y : ℕ) → Row s at x → Row s at y → x ≡ y
  rows_one os short h y r q = same_number y x (sym (row_item s os y at q q.leads) ∙ row_item s os x at r r.leads)

  -- ---- one item by itself: at the end, and past it, an item "ends early"
  abbrev WhyOne : Type 0
  WhyOne = ((x ≡ 39) × (longest < length s)) ⊎ ((length s ≤ longest) × (((x ≡ 30) × (length s ≤ at)) ⊎ ((at < length s) × Row s at x)))

  past_end : length s ≤ at → item_at s at ≡ bad 30
  unfolding item_at step head_at
  past_end h = rw (le-leb _ _ h)

  why_one : Octets s → one_at s at ≡ bad x → WhyOne
  why_one os q =
      by_test (ltb longest (length s))
      (λ b. let over = ltb-true _ _ b in inl (same_number 39 x (sym (one_over s at over) ∙ q), over))
      (λ b.
      let short = ltb-false _ _ b in
      let e = sym (one_within s at short) ∙ q in
      inr (
        short,
        by_test (leb (length s) at)
            (λ a. let h = leb-true _ _ a in inl (same_number 30 x (sym (past_end h) ∙ e), h))
            (λ a. let h = leb-false _ _ a in inr (h, item_row s os x at h e)),
      ))

  because_one : Octets s → WhyOne → one_at s at ≡ bad x
  because_one os (inl w) = one_over s at w.1 ∙ ap bad (sym w.0)
  because_one os (inr w) =
      one_within s at w.0
      ∙ ⊎_elim (λ e. past_end e.1 ∙ ap bad (sym e.0)) (λ r. row_item s os x at r.1 r.1.leads) w.1

  pub one_rows : Octets s
      → (one_at s at ≡ bad x) ↔ (((x ≡ 39) × (longest < length s)) ⊎ ((length s ≤ longest) × (((x ≡ 30) × (length s ≤ at)) ⊎ ((at < length s) × Row s at x))))
  one_rows os = (why_one os, because_one os)
