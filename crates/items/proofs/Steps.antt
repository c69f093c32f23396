-- What one tag, one item and one group do to a reading.
use Prim.Native.Nat.{ℕ, suc, ◌+◌, ◌≤◌, ◌<◌}
use native.Mathlib.Omega.{arith}
use mathlib.Core.Path.{◌≡◌, refl, sym, subst, ◌∙◌}
use mathlib.Core.List.{List, [], ◌∷◌, ◌++◌}
use lib.ListN.{length, length-append}
use borrow.Author.Tests.{lt-leb, le-leb, eq-eqb, ne_eqb}
use Rattle.tags.specs.Reading.{head_at}
use Rattle.tags.specs.Head.{Tag}
use Rattle.tags.specs.Head.Tag.{Item, Opening, Closing}
use Rattle.tags.proofs.Bounds.{TagIn, head_in}
use Rattle.items.specs.Records.{Rec, rec}
use Rattle.items.specs.Reading.{closes, step, most_items, deepest}
use Rattle.items.specs.Cycle.{Rest, begins, Inside, Went, Stops, Shut, from_item, from_group, ItemSays, GroupSays, put_record, put_records}
use Rattle.items.specs.Answers.{Step}
use Rattle.items.specs.Answers.Step.{Next, Closed, Refused}
use Rattle.items.proofs.Machine.{more_more, more_bad}

-- a head that was read lies within the octets
pub tag_in : (s : List ℕ) (at : ℕ) {t : Tag} → head_at s at ≡ t → TagIn s at t
tag_in s at e = subst (TagIn s at) e (head_in s at)

-- records laid in two parts
pub put_append : (area : List ℕ) (i : ℕ) (a b : List Rec) → put_records area i (a ++ b) ≡ put_records (put_records area i a) (i + length a) b
unfolding put_records
put_append area i [] b = let e : i + 0 ≡ i = omega arith in rw e
put_append area i (r ∷ a) b = let e : i + suc (length a) ≡ i + 1 + length a = omega arith in rw (e, put_append (put_record area i r) (i + 1) a b)

pub put_next : (l l1 l2 : List ℕ) (i k : ℕ) (rs qs : List Rec) → l1 ≡ put_records l i rs → k ≡ i + length rs → l2 ≡ put_records l1 k qs → l2 ≡ put_records l i (rs ++ qs)
put_next l l1 l2 i k rs qs e h e2 = e2 ∙ rw (e, h) (sym (put_append l i rs qs))

put_one : (l : List ℕ) (i : ℕ) (r : Rec) → put_records l i (r ∷ []) ≡ put_record l i r
unfolding put_records
put_one l i r = refl

put_more : (l : List ℕ) (i : ℕ) (r : Rec) (rs : List Rec) → put_records l i (r ∷ rs) ≡ put_records (put_record l i r) (i + 1) rs
unfolding put_records
put_more l i r rs = refl

-- an item begins after i others
module _ (s : List ℕ) (at i d : ℕ) where
  pub item_over : most_items ≤ i → Stops s d (from_item s at i) 38
  unfolding begins
  item_over h rest within groups l = rw (le-leb _ _ h)

  module _ (room : i < most_items) where
    pub item_no : (x : ℕ) → head_at s at ≡ Tag.Refused x → Stops s d (from_item s at i) x
    unfolding begins step
    item_no x e rest within groups l = rw (lt-leb _ _ room, e)

    pub item_deep : (n p : ℕ) → head_at s at ≡ Opening n p → deepest ≤ d → Stops s d (from_item s at i) 37
    unfolding begins step
    item_deep n p e h rest within groups l = rw (lt-leb _ _ room, e, l, le-leb _ _ h)

    pub item_shut : (n p : ℕ) (area : List ℕ) → head_at s at ≡ Closing n p → ItemSays s at d i area area (Closed n p (i + 1))
    item_shut n p area e =
        let b : TagIn s at (Closing n p) = tag_in s at e in
        (record { on = omega arith; inside = omega arith; tag = e; count = refl; most = omega arith }, refl)

    pub item_plain : (k n v p l : ℕ) (area later : List ℕ) → head_at s at ≡ Item k n v p l → later ≡ put_record area i (rec k n d v p l) → ItemSays s at d i area later (Next (p + l) (i + 1))
    unfolding begins step
    item_plain k n v p l area later e w =
        let b : TagIn s at (Item k n v p l) = tag_in s at e in (
          rec k n d v p l ∷ [],
          record { on = omega arith; inside = omega arith; count = omega arith; most = omega arith; same = λ rest within groups h. rw (lt-leb _ _ room, e, h) },
          w ∙ sym (put_one area i (rec k n d v p l)),
        )

    module _ (n p : ℕ) (e : head_at s at ≡ Opening n p) (h : d < deepest) where
      pub went_open : {to j : ℕ} (rs : List Rec) → Went s d (from_group p n (i + 1)) p (i + 1) to j rs → Went s d (from_item s at i) at i to j (rec 2 n d 0 p 0 ∷ rs)
      unfolding begins step
      went_open {to} {j} rs w =
          let b : TagIn s at (Opening n p) = tag_in s at e in
          record {
            on = omega (arith, w.on);
            inside = w.inside;
            count = omega (arith, w.count);
            most = w.most;
            same = λ rest within groups l. rw (lt-leb _ _ room, e, l, lt-leb _ _ h, w.same rest within groups l) (sym (more_more (rec 2 n d 0 p 0 ∷ []) rs (rest j to groups)));
          }

      pub item_open : (l l1 l2 : List ℕ) → l1 ≡ put_record l i (rec 2 n d 0 p 0) → (r : Step) → GroupSays s p n d (i + 1) l1 l2 r → ItemSays s at d i l l2 r
      unfolding begins step
      item_open l l1 l2 e1 (Next to j) w = (rec 2 n d 0 p 0 ∷ w.0, went_open w.0 w.1, w.2 ∙ rw e1 (sym (put_more l i (rec 2 n d 0 p 0) w.0)))
      item_open l l1 l2 e1 (Closed m to j) w = absurd w
      item_open l l1 l2 e1 (Refused x) w = λ rest within groups g. rw (lt-leb _ _ room, e, g, lt-leb _ _ h, w rest within groups g, more_bad)

-- in group n, after i items
module _ (s : List ℕ) (at n d i : ℕ) where
  -- past the end
  pub group_end : length s ≤ at → Stops s d (from_group at n i) 36
  group_end h rest within groups l = within i at n groups ∙ rw (le-leb _ _ h)

  in_depth : (groups : List ℕ) → length groups ≡ d → length (n ∷ groups) ≡ d + 1
  in_depth groups l = omega arith

  module _ (here : at < length s) (l l1 : List ℕ) (q : Step) (says : ItemSays s at (d + 1) i l l1 q) where
    goes : (rest : Rest) → Inside s rest → (groups : List ℕ) → rest i at (n ∷ groups) ≡ begins s rest i at (n ∷ groups)
    goes rest within groups = within i at n groups ∙ rw (lt-leb _ _ here)

    pub group_no : (x : ℕ) → q ≡ Refused x → Stops s d (from_group at n i) x
    group_no x e rest within groups g = goes rest within groups ∙ (subst (ItemSays s at (d + 1) i l l1) e says) rest within (n ∷ groups) (in_depth groups g)

    went_next : {p k to j : ℕ} (rs qs : List Rec) → Went s (d + 1) (from_item s at i) at i p k rs → Went s d (from_group p n k) p k to j qs → Went s d (from_group at n i) at i to j (rs ++ qs)
    went_next {p} {k} {to} {j} rs qs v w =
        record {
          on = omega (arith, v.on, w.on);
          inside = w.inside;
          count = omega (arith, v.count, w.count, length-append rs qs);
          most = w.most;
          same = λ rest within groups g. goes rest within groups ∙ v.same rest within (n ∷ groups) (in_depth groups g) ∙ rw (w.same rest within groups g) (sym (more_more rs qs (rest j to groups)));
        }

    -- an item of the group, and then the rest of it
    pub group_next : (p k : ℕ) → q ≡ Next p k → (l2 : List ℕ) (r : Step) → GroupSays s p n d k l1 l2 r → GroupSays s at n d i l l2 r
    group_next p k e l2 (Next to j) w =
        let v = subst (ItemSays s at (d + 1) i l l1) e says in
        (v.0 ++ w.0, went_next v.0 w.0 v.1 w.1, put_next l l1 l2 i k v.0 w.0 v.2 v.1.count w.2)
    group_next p k e l2 (Closed m to j) w = absurd w
    group_next p k e l2 (Refused x) w =
        let v = subst (ItemSays s at (d + 1) i l l1) e says in
        λ rest within groups g. goes rest within groups ∙ v.1.same rest within (n ∷ groups) (in_depth groups g) ∙ rw (w rest within groups g, more_bad)

    pub group_other : (m p k : ℕ) → q ≡ Closed m p k → (m ≡ n → ⊥) → Stops s d (from_group at n i) 35
    unfolding begins step closes
    group_other m p k e h rest within groups g =
        let v = subst (ItemSays s at (d + 1) i l l1) e says in
        goes rest within groups ∙ rw (lt-leb most_items i (omega (arith, v.0.count, v.0.most)), v.0.tag, ne_eqb _ _ h)

    went_shut : (p k : ℕ) → Shut s at i n p k → Went s d (from_group at n i) at i p k (rec 3 n d 0 p 0 ∷ [])
    unfolding begins step closes
    went_shut p k v =
        record {
          on = v.on;
          inside = v.inside;
          count = omega (arith, v.count);
          most = v.most;
          same = λ rest within groups g. goes rest within groups ∙ rw (lt-leb most_items i (omega (arith, v.count, v.most)), v.tag, eq-eqb n n refl, g, v.count);
        }

    -- its closing number
    pub group_shut : (m p k : ℕ) → q ≡ Closed m p k → m ≡ n → (l2 : List ℕ) → l2 ≡ put_record l1 i (rec 3 n d 0 p 0) → GroupSays s at n d i l l2 (Next p k)
    group_shut m p k e h l2 e2 =
        let v = subst (ItemSays s at (d + 1) i l l1) e says in
        (rec 3 n d 0 p 0 ∷ [], went_shut p k (subst (λ x. Shut s at i x p k) h v.0), e2 ∙ rw v.1 (sym (put_one l i (rec 3 n d 0 p 0))))

-- an item that was read goes on and stays inside
pub item_past : (s : List ℕ) (at d i : ℕ) (l l1 : List ℕ) (q : Step) → ItemSays s at d i l l1 q → (p k : ℕ) → q ≡ Next p k → (at < p) × (p ≤ length s)
item_past s at d i l l1 q says p k e = let v = subst (ItemSays s at d i l l1) e says in (v.1.on, v.1.inside)

-- and so does a group
pub group_past : (s : List ℕ) (at n d i : ℕ) (l l1 : List ℕ) (q : Step) → GroupSays s at n d i l l1 q → (p k : ℕ) → q ≡ Next p k → (at < p) × (p ≤ length s)
group_past s at n d i l l1 q says p k e = let v = subst (GroupSays s at n d i l l1) e says in (v.1.on, v.1.inside)
