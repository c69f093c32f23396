-- The reading to the end and the reading of one item are readings that the item and group readers speak of.
use Prim.Native.Nat.{ℕ, zero, suc, ◌+◌, ◌-◌, ◌≤◌, ◌<◌}
use native.Mathlib.Omega.{arith}
use mathlib.Core.Path.{◌≡◌, refl, sym, ap, subst, ◌∙◌}
use mathlib.Core.List.{List, [], ◌∷◌, ◌++◌, append-nil}
use mathlib.Core.Bool.{true, false}
use lib.ListN.{length, length-append}
use lib.Dec.{leb}
use borrow.Author.Tests.{lt-leb, le-leb, lt-ltb, le-ltb, leb-true, leb-false}
use Rattle.octets.specs.Choice.{by_test}
use Rattle.octets.specs.Reading.{reach}
use Rattle.tags.specs.Types.{longest}
use Rattle.tags.specs.Reading.{head_at}
use Rattle.tags.specs.Head.{Tag}
use Rattle.tags.specs.Head.Tag.{Item, Opening, Closing}
use Rattle.items.specs.Records.{Rec, rec}
use Rattle.items.specs.Reading.{Out, more, ending, closes, step, walk, items_of, counted, within, item_at, end_of, most_items}
use Rattle.items.specs.Reading.Out.{good, bad}
use Rattle.items.specs.Cycle.{Ran, Rest, begins, Inside, ItemSays, GroupSays, put_record, put_records}
use Rattle.items.specs.Answers.{One}
use Rattle.items.specs.Answers.{Tally}
use Rattle.items.specs.Answers.Tally.{Items}
use Rattle.items.specs.Answers.{Step}
use Rattle.items.specs.Answers.Step.{Next, Closed, Refused}
use Rattle.items.proofs.Machine.{more_more, more_bad, more_none, never, within_done}
use Rattle.items.proofs.Steps.{put_next, went_open, item_open}

abbrev pub to_end : List ℕ → Rest
to_end s i at groups = walk (most_items - i) s at groups

abbrev pub to_close : List ℕ → Rest
to_close s i at groups = within (most_items - i) s at groups

-- how many items may still begin
full : (i : ℕ) → leb most_items i ≡ true → most_items - i ≡ zero
full i h = omega (arith, leb-true most_items i h)

room : (i : ℕ) → leb most_items i ≡ false → most_items - i ≡ suc (most_items - (i + 1))
room i h = omega (arith, leb-false most_items i h)

pub walk_goes : (s : List ℕ) (i at : ℕ) (groups : List ℕ) → to_end s i at groups ≡ reach s at (ending at groups) (begins s (to_end s) i at groups)
unfolding walk begins
walk_goes s i at groups = by_test (leb most_items i) (λ h. rw (full i h, h)) (λ h. rw (room i h, h))

pub walk_inside : (s : List ℕ) → Inside s (to_end s)
unfolding ending
walk_inside s i at n outer = walk_goes s i at (n ∷ outer)

pub within_inside : (s : List ℕ) → Inside s (to_close s)
unfolding within begins
within_inside s i at n outer = by_test (leb most_items i) (λ h. rw (full i h, h)) (λ h. rw (room i h, h))

pub one_begins : (s : List ℕ) (at : ℕ) → item_at s at ≡ begins s (to_close s) 0 at []
unfolding item_at begins
one_begins s at = refl

-- the reading so far: these records, which are put into the area, and then what follows at p after k items
pub record Sofar (s area later : List ℕ) (p k : ℕ) (rs : List Rec) : Type 0 where
  pub count : k ≡ length rs
  pub same : walk most_items s 0 [] ≡ more rs (to_end s k p [])
  pub laid : later ≡ put_records area 0 rs

abbrev pub Reached : List ℕ → List ℕ → List ℕ → ℕ → ℕ → Type 0
Reached s area later p k = (rs : List Rec) × Sofar s area later p k rs

pub reached_none : (s area : List ℕ) → Reached s area area 0 0
unfolding put_records
reached_none s area = ([], record { count = refl; same = sym (more_none (walk most_items s 0 [])); laid = refl })

module _ (s area l : List ℕ) (p k : ℕ) (r : Reached s area l p k) where
  pub reached_end : length s ≤ p → walk most_items s 0 [] ≡ good r.0 p
  unfolding ending more
  reached_end h = r.1.same ∙ rw (walk_goes s k p [], le-leb _ _ h) (ap (λ (x : List Rec). good x p) (append-nil r.0))

  module _ (here : p < length s) (l1 : List ℕ) (q : Step) (says : ItemSays s p 0 k l l1 q) where
    goes : walk most_items s 0 [] ≡ more r.0 (begins s (to_end s) k p [])
    goes = r.1.same ∙ rw (walk_goes s k p [], lt-leb _ _ here)

    pub reached_next : (to j : ℕ) → q ≡ Next to j → Reached s area l1 to j
    reached_next to j e =
        let v = subst (ItemSays s p 0 k l l1) e says in (
          r.0 ++ v.0,
          record {
            count = omega (arith, r.1.count, v.1.count, length-append r.0 v.0);
            same = goes ∙ rw (v.1.same (to_end s) (walk_inside s) [] refl) (sym (more_more r.0 v.0 (to_end s j to [])));
            laid = put_next area l l1 0 k r.0 v.0 r.1.laid (omega (arith, r.1.count)) v.2;
          },
        )

    pub reached_no : (x : ℕ) → q ≡ Refused x → walk most_items s 0 [] ≡ bad x
    reached_no x e = goes ∙ rw ((subst (ItemSays s p 0 k l l1) e says) (to_end s) (walk_inside s) [] refl, more_bad)

    pub reached_shut : (n to j : ℕ) → q ≡ Closed n to j → walk most_items s 0 [] ≡ bad 35
    unfolding begins step closes
    reached_shut n to j e =
        let v = subst (ItemSays s p 0 k l l1) e says in
        goes ∙ rw (lt-leb most_items k (omega (arith, v.0.count, v.0.most)), v.0.tag, more_bad)

-- what the reading of all items promises, for each way in which it ends
pub ran_long : (s area : List ℕ) → longest < length s → Ran s area (Tally.Refused 39) area
unfolding items_of counted
ran_long s area h =
    let e : items_of s ≡ bad 39 = rw (lt-ltb _ _ h) in
    record { answer = rw e; laid = λ rs end g. never 39 rs end (sym e ∙ g) }

module _ (s area later : List ℕ) (h : length s ≤ longest) where
  items_are : {o : Out} → walk most_items s 0 [] ≡ o → items_of s ≡ o
  unfolding items_of
  items_are e = rw (le-ltb _ _ h, e)

  pub ran_bad : (x : ℕ) → walk most_items s 0 [] ≡ bad x → Ran s area (Tally.Refused x) later
  unfolding counted
  ran_bad x w = let e = items_are w in record { answer = rw e; laid = λ rs end g. never x rs end (sym e ∙ g) }

  pub ran_good : (p k : ℕ) → Reached s area later p k → length s ≤ p → Ran s area (Items k) later
  unfolding counted
  ran_good p k r w =
      let e = items_are (reached_end s area later p k r w) in
      record { answer = rw (e, r.1.count); laid = λ rs end g. let z : r.0 ≡ rs = cc in r.1.laid ∙ rw z }

-- what reading one item answers, by the tag at the place
module _ (s : List ℕ) (at : ℕ) where
  pub one_bad : (x : ℕ) → Tag.Refused x ≡ head_at s at → One.Refused x ≡ end_of (item_at s at)
  unfolding end_of item_at step
  one_bad x e = rw (← e)

  pub one_shut : (n p : ℕ) → Closing n p ≡ head_at s at → One.Refused 35 ≡ end_of (item_at s at)
  unfolding end_of item_at step closes
  one_shut n p e = rw (← e)

  pub one_alone : (k n v p l : ℕ) → Item k n v p l ≡ head_at s at → One.Next (p + l) ≡ end_of (item_at s at)
  unfolding end_of more item_at step
  one_alone k n v p l e = rw (← e, within_done (most_items - 1) s (p + l))

  -- and, of a group, by its end
  module _ (n p : ℕ) (e : Opening n p ≡ head_at s at) (l l1 : List ℕ) where
    pub one_next : (to j : ℕ) → GroupSays s p n 0 1 l l1 (Next to j) → One.Next to ≡ end_of (item_at s at)
    unfolding end_of more
    one_next to j g =
        let v = went_open s at 0 0 (omega arith) n p (sym e) (omega arith) g.0 g.1 in
        rw (one_begins s at, v.same (to_close s) (within_inside s) [] refl, within_done (most_items - j) s to)

    pub one_no : (x : ℕ) → GroupSays s p n 0 1 l l1 (Refused x) → One.Refused x ≡ end_of (item_at s at)
    unfolding end_of
    one_no x g =
        let v = item_open s at 0 0 (omega arith) n p (sym e) (omega arith) [] (put_record [] 0 (rec 2 n 0 0 p 0)) [] refl (Refused x) g in
        rw (one_begins s at, v (to_close s) (within_inside s) [] refl)
