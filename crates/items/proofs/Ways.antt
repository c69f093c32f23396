-- The ways through the functions that read items: what each promises, from what the calls in it promise and the tests that it took.
use Prim.Native.Nat.{ℕ, ◌+◌, ◌-◌, ◌^◌, ◌≤◌, ◌<◌}
use native.Mathlib.Omega.{arith}
use mathlib.Core.Path.{◌≡◌, refl, sym, subst, ◌∙◌}
use mathlib.Core.List.{List, []}
use lib.ListN.{length}
use mir.Syntax.{w64}
use mir.Val.{Fits}
use Rattle.tags.specs.Types.{longest}
use Rattle.tags.specs.Reading.{head_at}
use Rattle.tags.specs.declared.Tag.{Tag as Told}
use Rattle.tags.specs.Head.{Tag, seen_as}
use Rattle.tags.specs.Head.Tag.{Item, Opening, Closing}
use Rattle.tags.proofs.Bounds.{TagIn}
use Rattle.items.specs.Records.{rec}
use Rattle.items.specs.Reading.{most_items, deepest}
use Rattle.items.specs.Cycle.{Ran, Stops, from_item, from_group, ItemSays, GroupSays, put_record}
use Rattle.items.specs.Answers.{Tally}
use Rattle.items.specs.Answers.Tally.{Items}
use Rattle.items.specs.Answers.{Step}
use Rattle.items.specs.Answers.Step.{Next, Closed, Refused}
use Rattle.items.proofs.Steps
use Rattle.items.proofs.Walk.{Reached, reached_none, reached_next, reached_no, reached_shut, ran_bad, ran_good}

-- what a head that was matched says
pub seen : (s : List ℕ) (at : ℕ) (t u : Told) → seen_as t ≡ head_at s at → t ≡ u → seen_as u ≡ head_at s at
seen s at t u e q = subst (λ (w : Told). seen_as w ≡ head_at s at) q e

-- ---- the item at a place, after i others
module _ (s : List ℕ) (at : ℕ) where
  pub item_fits : (k n v p l : ℕ) → Item k n v p l ≡ head_at s at → length s < 2 ^ 64 → Fits w64 (p + l)
  item_fits k n v p l q h = let b : TagIn s at (Item k n v p l) = Steps.tag_in s at (sym q) in record { fits = omega (arith, b.within) }

  -- what follows the item, or the group that it opens, is fewer octets
  pub fewer_item : (k n v p l : ℕ) → Item k n v p l ≡ head_at s at → length s - (p + l) < length s - at
  fewer_item k n v p l q = let b : TagIn s at (Item k n v p l) = Steps.tag_in s at (sym q) in omega (arith, b.on, b.within)

  pub fewer_inside : (n p : ℕ) → Opening n p ≡ head_at s at → length s - p < length s - at
  fewer_inside n p q = let b : TagIn s at (Opening n p) = Steps.tag_in s at (sym q) in omega (arith, b.on, b.within)

  pub fewer_behind : (n p : ℕ) → Opening n p ≡ head_at s at → (d i : ℕ) (l l1 : List ℕ) (to k : ℕ) → GroupSays s p n d i l l1 (Next to k) → length s - to < length s - at
  fewer_behind n p q d i l l1 to k g = omega (arith, fewer_inside n p q, Steps.group_past s p n d i l l1 (Next to k) g to k refl)

  module _ (i d : ℕ) (room : i < most_items) where
    pub item_refused : (x : ℕ) → Tag.Refused x ≡ head_at s at → Stops s d (from_item s at i) x
    item_refused x q = Steps.item_no s at i d room x (sym q)

    pub item_deeper : (n p : ℕ) → Opening n p ≡ head_at s at → deepest ≤ d → Stops s d (from_item s at i) 37
    item_deeper n p q h = Steps.item_deep s at i d room n p (sym q) h

    pub item_closing : (n p : ℕ) → Closing n p ≡ head_at s at → (area : List ℕ) → ItemSays s at d i area area (Closed n p (i + 1))
    item_closing n p q area = Steps.item_shut s at i d room n p area (sym q)

    pub item_alone : (k n v p l : ℕ) → Item k n v p l ≡ head_at s at → (area later : List ℕ) → later ≡ put_record area i (rec k n d v p l)
        → ItemSays s at d i area later (Next (p + l) (i + 1))
    item_alone k n v p l q area later h = Steps.item_plain s at i d room k n v p l area later (sym q) h

    pub item_opens : (n p : ℕ) → Opening n p ≡ head_at s at → d < deepest → (l l1 l2 : List ℕ) → l1 ≡ put_record l i (rec 2 n d 0 p 0) → (r : Step)
        → GroupSays s p n d (i + 1) l1 l2 r → ItemSays s at d i l l2 r
    item_opens n p q h l l1 l2 f r g = Steps.item_open s at i d room n p (sym q) h l l1 l2 f r g

-- ---- group n, read from `from` on after j items into the area l₀: at a later place, after i items, what is said of the rest is said of the whole
pub record Within (s : List ℕ) (from n d j : ℕ) (l₀ l : List ℕ) (at i : ℕ) : Type 0 where
  pub onward : from ≤ at
  pub kept : length l ≡ length l₀
  pub whole : (later : List ℕ) (r : Step) → GroupSays s at n d i l later r → GroupSays s from n d j l₀ later r

pub within_none : (s : List ℕ) (from n d j : ℕ) (l : List ℕ) → Within s from n d j l l from j
within_none s from n d j l = record { onward = omega arith; kept = refl; whole = λ later r w. w }

module _ (s : List ℕ) (from n d j : ℕ) (l₀ l : List ℕ) (at i : ℕ) (so : Within s from n d j l₀ l at i) where
  pub group_ends : length s ≤ at → Stops s d (from_group from n j) 36
  group_ends h = so.whole [] (Refused 36) (Steps.group_end s at n d i h)

  module _ (here : at < length s) where
    goes : (l1 : List ℕ) (q : Step) → ItemSays s at (d + 1) i l l1 q → (p k : ℕ) → q ≡ Next p k → length l1 ≡ length l → Within s from n d j l₀ l1 p k
    goes l1 q says p k e h =
        record {
          onward = omega (arith, Steps.item_past s at (d + 1) i l l1 q says p k e, so.onward);
          kept = h ∙ so.kept;
          whole = λ later r w. so.whole later r (Steps.group_next s at n d i here l l1 q says p k e later r w);
        }

    stops : (x : ℕ) → Stops s (d + 1) (from_item s at i) x → Stops s d (from_group from n j) x
    stops x says = so.whole [] (Refused x) (Steps.group_no s at n d i here l l (Refused x) says x refl)

    pub group_over : most_items ≤ i → Stops s d (from_group from n j) 38
    group_over h = stops 38 (Steps.item_over s at i (d + 1) h)

    -- by the tag at the place
    module _ (room : i < most_items) where
      pub group_refuses : (x : ℕ) → Tag.Refused x ≡ head_at s at → Stops s d (from_group from n j) x
      group_refuses x q = stops x (item_refused s at i (d + 1) room x q)

      pub group_alone : (k m v p len : ℕ) → Item k m v p len ≡ head_at s at → (l1 : List ℕ) → l1 ≡ put_record l i (rec k m (d + 1) v p len) → length l1 ≡ length l
          → Within s from n d j l₀ l1 (p + len) (i + 1)
      group_alone k m v p len q l1 f h = goes l1 (Next (p + len) (i + 1)) (item_alone s at i (d + 1) room k m v p len q l l1 f) (p + len) (i + 1) refl h

      pub group_deeper : (m p : ℕ) → Opening m p ≡ head_at s at → deepest ≤ d + 1 → Stops s d (from_group from n j) 37
      group_deeper m p q h = stops 37 (item_deeper s at i (d + 1) room m p q h)

      -- a group in it is read in a smaller turn
      pub group_falls : (m p : ℕ) → Opening m p ≡ head_at s at → (u : ℕ) → length s - from ≡ u → length s - p < u
      group_falls m p q u h = omega (arith, fewer_inside s at m p q, so.onward)

      -- and, of the number m, after its opening
      module _ (m p : ℕ) (q : Opening m p ≡ head_at s at) (h : d + 1 < deepest) (l1 l2 : List ℕ) (f : l1 ≡ put_record l i (rec 2 m (d + 1) 0 p 0)) where
        inner : (r : Step) → GroupSays s p m (d + 1) (i + 1) l1 l2 r → ItemSays s at (d + 1) i l l2 r
        inner r g = item_opens s at i (d + 1) room m p q h l l1 l2 f r g

        pub group_opens : (to k : ℕ) → GroupSays s p m (d + 1) (i + 1) l1 l2 (Next to k) → length l1 ≡ length l → length l2 ≡ length l1 → Within s from n d j l₀ l2 to k
        group_opens to k g one two = goes l2 (Next to k) (inner (Next to k) g) to k refl (two ∙ one)

        pub group_inner : (x : ℕ) → GroupSays s p m (d + 1) (i + 1) l1 l2 (Refused x) → Stops s d (from_group from n j) x
        group_inner x g = stops x (inner (Refused x) g)

      pub group_shuts : (m p : ℕ) → Closing m p ≡ head_at s at → m ≡ n → (later : List ℕ) → later ≡ put_record l i (rec 3 n d 0 p 0) → GroupSays s from n d j l₀ later (Next p (i + 1))
      group_shuts m p q own later f =
          so.whole later (Next p (i + 1))
          (Steps.group_shut s at n d i here l l (Closed m p (i + 1)) (item_closing s at i (d + 1) room m p q l) m p (i + 1) refl own later f)

      pub group_differs : (m p : ℕ) → Closing m p ≡ head_at s at → (m ≡ n → ⊥) → Stops s d (from_group from n j) 35
      group_differs m p q other =
          so.whole [] (Refused 35)
          (Steps.group_other s at n d i here l l (Closed m p (i + 1)) (item_closing s at i (d + 1) room m p q l) m p (i + 1) refl other)

-- ---- all items: read up to p, k of them, into the area
pub record Through (s area later : List ℕ) (p k : ℕ) : Type 0 where
  pub reached : Reached s area later p k
  pub kept : length later ≡ length area

pub through_none : (s area : List ℕ) → Through s area area 0 0
through_none s area = record { reached = reached_none s area; kept = refl }

module _ (s area l : List ℕ) (p k : ℕ) (w : Through s area l p k) where
  pub run_ends : length s ≤ longest → length s ≤ p → Ran s area (Items k) l
  run_ends h f = ran_good s area l h p k w.reached f

  module _ (here : p < length s) where
    on : (l1 : List ℕ) (q : Step) → ItemSays s p 0 k l l1 q → (to j : ℕ) → q ≡ Next to j → length l1 ≡ length l → Through s area l1 to j
    on l1 q says to j e h = record { reached = reached_next s area l p k w.reached here l1 q says to j e; kept = h ∙ w.kept }

    ends : length s ≤ longest → (x : ℕ) → Stops s 0 (from_item s p k) x → (later : List ℕ) → Ran s area (Tally.Refused x) later
    ends h x says later = ran_bad s area later h x (reached_no s area l p k w.reached here l (Refused x) says x refl)

    pub run_over : length s ≤ longest → most_items ≤ k → (later : List ℕ) → Ran s area (Tally.Refused 38) later
    run_over h f later = ends h 38 (Steps.item_over s p k 0 f) later

    -- by the tag at the place
    module _ (room : k < most_items) where
      pub run_stops : (x : ℕ) → Tag.Refused x ≡ head_at s p → length s ≤ longest → (later : List ℕ) → Ran s area (Tally.Refused x) later
      run_stops x q h later = ends h x (item_refused s p k 0 room x q) later

      pub run_shut : (n to : ℕ) → Closing n to ≡ head_at s p → length s ≤ longest → (later : List ℕ) → Ran s area (Tally.Refused 35) later
      run_shut n to q h later =
          ran_bad s area later h 35
          (reached_shut s area l p k w.reached here l (Closed n to (k + 1)) (item_closing s p k 0 room n to q l) n to (k + 1) refl)

      pub run_alone : (c n v to len : ℕ) → Item c n v to len ≡ head_at s p → (l1 : List ℕ) → l1 ≡ put_record l k (rec c n 0 v to len) → length l1 ≡ length l
          → Through s area l1 (to + len) (k + 1)
      run_alone c n v to len q l1 f h = on l1 (Next (to + len) (k + 1)) (item_alone s p k 0 room c n v to len q l l1 f) (to + len) (k + 1) refl h

      module _ (n from : ℕ) (q : Opening n from ≡ head_at s p) (l1 l2 : List ℕ) (f : l1 ≡ put_record l k (rec 2 n 0 0 from 0)) where
        opened : (r : Step) → GroupSays s from n 0 (k + 1) l1 l2 r → ItemSays s p 0 k l l2 r
        opened r g = item_opens s p k 0 room n from q (omega arith) l l1 l2 f r g

        pub run_opens : (to j : ℕ) → GroupSays s from n 0 (k + 1) l1 l2 (Next to j) → length l1 ≡ length l → length l2 ≡ length l1 → Through s area l2 to j
        run_opens to j g one two = on l2 (Next to j) (opened (Next to j) g) to j refl (two ∙ one)

        pub run_inner : (x : ℕ) → GroupSays s from n 0 (k + 1) l1 l2 (Refused x) → length s ≤ longest → (later : List ℕ) → Ran s area (Tally.Refused x) later
        run_inner x g h later = ends h x (opened (Refused x) g) later
