-- How many items a reading has: at most 2,048, and none exactly where there are no octets.
use Prim.Native.Nat.{ℕ, zero, suc, ◌+◌, ◌-◌, ◌≤◌}
use native.Mathlib.Omega.{arith}
use mathlib.Core.Path.{◌≡◌, refl, subst}
use mathlib.Core.List.{List, [], ◌∷◌}
use lib.ListN.{length}
use lib.Dec.{ltb, leb, eqb}
use borrow.Author.Tests.{lt-leb}
use Rattle.octets.specs.Choice.{pick_case}
use Rattle.tags.specs.Types.{longest}
use Rattle.tags.specs.Reading.{head_at}
use Rattle.tags.specs.Head.{Tag}
use Rattle.tags.specs.Head.Tag.{Item, Opening, Closing, Refused}
use Rattle.items.specs.Records.{Rec}
use Rattle.items.specs.Reading.{Out, more, ending, closes, step, walk, items_of, most_items, deepest}
use Rattle.items.specs.Reading.Out.{good, bad}
use Rattle.items.specs.Listing.{ReadAs}

-- ---- at most k
abbrev AtMost : ℕ → Out → Type 0
AtMost k (good rs end) = length rs ≤ k
AtMost k (bad x) = Unit {0}

one_more : (r : Rec) (k : ℕ) (o : Out) → AtMost k o → AtMost (suc k) (more (r ∷ []) o)
unfolding more
one_more r k (good rs end) h = omega arith
one_more r k (bad x) h = tt

ending_most : (k at : ℕ) (groups : List ℕ) → AtMost k (ending at groups)
unfolding ending
ending_most k at [] = omega arith
ending_most k at (n ∷ outer) = tt

step_most : (k : ℕ) (rest : ℕ → List ℕ → Out) → ((at : ℕ) (groups : List ℕ) → AtMost k (rest at groups)) → (t : Tag) (groups : List ℕ) → AtMost (suc k) (step rest t groups)
unfolding step closes
step_most k rest f (Item c n v p l) groups = one_more _ k _ (f (p + l) groups)
step_most k rest f (Opening n p) groups = pick_case (AtMost (suc k)) (leb deepest (length groups)) tt (one_more _ k _ (f p (n ∷ groups)))
step_most k rest f (Closing n p) [] = tt
step_most k rest f (Closing n p) (m ∷ outer) = pick_case (AtMost (suc k)) (eqb n m) (one_more _ k _ (f p outer)) tt
step_most k rest f (Refused x) groups = tt

walk_most : (k : ℕ) (s : List ℕ) (at : ℕ) (groups : List ℕ) → AtMost k (walk k s at groups)
unfolding walk
walk_most zero s at groups = pick_case (AtMost 0) (leb (length s) at) (ending_most 0 at groups) tt
walk_most (suc k) s at groups =
    pick_case (AtMost (suc k)) (leb (length s) at) (ending_most (suc k) at groups) (step_most k (walk k s) (walk_most k s) (head_at s at) groups)

items_most : (s : List ℕ) → AtMost most_items (items_of s)
unfolding items_of
items_most s = pick_case (AtMost most_items) (ltb longest (length s)) tt (walk_most most_items s 0 [])

pub read_most : (s : List ℕ) (n : ℕ) → ReadAs s n → n ≤ most_items
read_most s n w = let h : length w.0 ≤ most_items = subst (AtMost most_items) w.2 (items_most s) in omega (arith, w.3)

-- ---- none
abbrev Some : Out → Type 0
Some (good [] end) = ⊥
Some (good (r ∷ rs) end) = Unit {0}
Some (bad x) = Unit {0}

more_some : (r : Rec) (o : Out) → Some (more (r ∷ []) o)
unfolding more
more_some r (good rs end) = tt
more_some r (bad x) = tt

step_some : (rest : ℕ → List ℕ → Out) (t : Tag) (groups : List ℕ) → Some (step rest t groups)
unfolding step closes
step_some rest (Item c n v p l) groups = more_some _ _
step_some rest (Opening n p) groups = pick_case Some (leb deepest (length groups)) tt (more_some _ _)
step_some rest (Closing n p) [] = tt
step_some rest (Closing n p) (m ∷ outer) = pick_case Some (eqb n m) (more_some _ _) tt
step_some rest (Refused x) groups = tt

walk_some : (k x : ℕ) (xs : List ℕ) → Some (walk (suc k) (x ∷ xs) 0 [])
unfolding walk
walk_some k x xs = rw (lt-leb (length (x ∷ xs)) 0 (omega arith)) (step_some (walk k (x ∷ xs)) (head_at (x ∷ xs) 0) [])

items_some : (x : ℕ) (xs : List ℕ) → Some (items_of (x ∷ xs))
unfolding items_of
items_some x xs = pick_case Some (ltb longest (length (x ∷ xs))) tt (walk_some (most_items - 1) x xs)

pub read_none : (s : List ℕ) → ReadAs s 0 → s ≡ []
read_none [] w = refl
read_none (x ∷ xs) ([], end, e, k) = absurd (subst Some e (items_some x xs))
read_none (x ∷ xs) (r ∷ rs, end, e, k) = absurd (omega arith)

pub none_read : ReadAs [] 0
unfolding items_of walk ending
none_read = ([], 0, refl, refl)
