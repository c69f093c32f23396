-- A walk over good octets meets exactly the items and groups that stand in no group.
use Prim.Native.Nat.{ℕ, zero, suc, ◌+◌, ◌≤◌, ◌<◌}
use native.Mathlib.Omega.{arith}
use mathlib.Core.Path.{◌≡◌, refl, sym, ap, subst, ◌∙◌}
use mathlib.Core.List.{List, [], ◌∷◌, ◌++◌}
use lib.ListN.{length}
use lib.Dec.{leb}
use borrow.Author.Tests.{leb-true, leb-false, ne_eqb}
use Rattle.octets.specs.Choice.{by_test}
use Rattle.tags.specs.Types.{longest}
use Rattle.tags.specs.Reading.{head_at}
use Rattle.tags.specs.Head.{Tag}
use Rattle.tags.proofs.Bounds.{TagIn}
use Rattle.items.specs.Records.{Rec, rec}
use Rattle.items.specs.Reading.{items_of, item_at, end_of}
use Rattle.items.specs.Reading.Out.{good}
use Rattle.items.specs.Answers.{One}
use Rattle.items.specs.Left.{Left, AllDeep}
use Rattle.items.proofs.Steps.{tag_in}
use Rattle.items.proofs.Longest.{items_within}
use Rattle.items.proofs.Left.{left_all, left_end, left_item, left_group, left_closing, left_refused}
use Rattle.reader.specs.Answers.{Step}
use Rattle.reader.specs.Answers.Step.{Item, Group, End, Refused}
use Rattle.reader.specs.Reading.{step_of}
use Rattle.reader.specs.Walking.{Meets, Walk, outermost}
use Rattle.reader.proofs.Heads.{step_end, step_item, step_group}

-- what lies in a group is passed over, and its closing
outer_past : (inner : List Rec) → AllDeep inner → (n to : ℕ) (rs : List Rec) → outermost (inner ++ (rec 3 n 0 0 to 0 ∷ rs)) ≡ outermost rs
unfolding outermost
outer_past [] d n to rs = refl
outer_past (r ∷ inner) d n to rs = rw (ne_eqb r.depth 0 (omega (arith, d.0))) (outer_past inner d.1 n to rs)

outer_first : (k n v p l : ℕ) (rs : List Rec) → k ≤ 2 → outermost (rec k n 0 v p l ∷ rs) ≡ rec k n 0 v p l ∷ outermost rs
unfolding outermost
outer_first k n v p l rs h = rw (ne_eqb k 3 (omega arith))

module _ (s : List ℕ) (short : length s ≤ longest) where
  -- one step of it, where the walk goes on from every later place
  module _ (at : ℕ) (here : at < length s) (on : (to : ℕ) → at < to → (rs : List Rec) → Left s to rs → Walk s to (outermost rs)) (rs : List Rec) (w : Left s at rs) where
    goes : (r : Rec) (st : Step) (to : ℕ) (rest : List Rec) → outermost rs ≡ r ∷ outermost rest → step_of s at ≡ st → Meets st r to → at < to → Left s to rest → Walk s at (outermost rs)
    goes r st to rest z e m h left = subst (Walk s at) (sym z) (to, subst (λ (x : Step). Meets x r to) (sym e) m, on to h rest left)

    goes_item : (k n v p l : ℕ) → head_at s at ≡ Tag.Item k n v p l → Walk s at (outermost rs)
    goes_item k n v p l e =
        let b : TagIn s at (Tag.Item k n v p l) = tag_in s at e in
        let g = left_item s at rs w k n v p l e in
        let z = ap outermost g.1 ∙ outer_first k n v p l g.0 (omega (arith, b.class)) in
        goes (rec k n 0 v p l) (Item k n v p l (p + l)) (p + l) g.0 z (step_item s at short here k n v p l e) (refl, refl) (omega (arith, b.on)) g.2

    goes_group : (n p : ℕ) → head_at s at ≡ Tag.Opening n p → Walk s at (outermost rs)
    unfolding end_of
    goes_group n p e =
        let b : TagIn s at (Tag.Opening n p) = tag_in s at e in
        let o = left_group s at rs w n p e in
        let c = o.closes in
        let f : end_of (item_at s at) ≡ One.Next c.to = rw o.item in
        let past = ap outermost c.all ∙ outer_past c.inner c.deep n c.to c.rest in
        let z = ap outermost o.own ∙ outer_first 2 n 0 p 0 o.others (omega arith) ∙ ap (λ (x : List Rec). rec 2 n 0 0 p 0 ∷ x) past in
        goes (rec 2 n 0 0 p 0) (Group n p c.to) c.to c.rest z (step_group s at short here n p c.to e f) (refl, refl) (omega (arith, b.on, c.on)) c.left

    goes_on : (t : Tag) → head_at s at ≡ t → Walk s at (outermost rs)
    goes_on (Tag.Item k n v p l) e = goes_item k n v p l e
    goes_on (Tag.Opening n p) e = goes_group n p e
    goes_on (Tag.Closing n p) e = absurd (left_closing s at rs w n p e)
    goes_on (Tag.Refused x) e = absurd (left_refused s at rs w here x e)

  ends : (at : ℕ) → length s ≤ at → (rs : List Rec) → Left s at rs → Walk s at (outermost rs)
  unfolding outermost
  ends at h rs w = subst (λ (x : List Rec). Walk s at (outermost x)) (sym (left_end s at rs w h)) (step_end s at short h)

  -- by the octets left
  walks : (k at : ℕ) → length s ≤ at + k → (rs : List Rec) → Left s at rs → Walk s at (outermost rs)
  walks zero at h rs w = ends at (omega arith) rs w
  walks (suc k) at h rs w =
      by_test (leb (length s) at)
      (λ b. ends at (leb-true (length s) at b) rs w)
      (λ b. goes_on at (leb-false (length s) at b) (λ to g. walks k to (omega arith)) rs w (head_at s at) refl)

  -- from wherever such records are left of good octets, and from the start
  pub walk_left : (at : ℕ) (rs : List Rec) → Left s at rs → Walk s at (outermost rs)
  walk_left at rs w = walks (length s) at (omega arith) rs w

module _ (s : List ℕ) where
  pub walk_all : (rs : List Rec) (end : ℕ) → items_of s ≡ good rs end → Walk s 0 (outermost rs)
  walk_all rs end e = walk_left s (items_within s rs end e) 0 rs (left_all s rs end e)

  -- any two walks from a place meet the same
  meets_one : (st : Step) (r r' : Rec) (to to' : ℕ) → Meets st r to → Meets st r' to' → (r ≡ r') × (to ≡ to')
  meets_one (Item k n v p l next) r r' to to' m m' = (m.0 ∙ sym m'.0, m.1 ∙ sym m'.1)
  meets_one (Group n p next) r r' to to' m m' = (m.0 ∙ sym m'.0, m.1 ∙ sym m'.1)
  meets_one End r r' to to' m m' = absurd m
  meets_one (Refused x) r r' to to' m m' = absurd m

  pub walk_one : (at : ℕ) (rs qs : List Rec) → Walk s at rs → Walk s at qs → rs ≡ qs
  walk_one at [] [] a b = refl
  walk_one at [] (q ∷ qs) a b = absurd (subst (λ (x : Step). Meets x q b.0) a b.1)
  walk_one at (r ∷ rs) [] a b = absurd (subst (λ (x : Step). Meets x r a.0) b a.1)
  walk_one at (r ∷ rs) (q ∷ qs) a b =
      let m = meets_one (step_of s at) r q a.0 b.0 a.1 b.1 in
      rw (m.0, walk_one b.0 rs qs (subst (λ (x : ℕ). Walk s x rs) m.1 a.2) b.2)
