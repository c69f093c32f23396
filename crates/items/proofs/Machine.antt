-- Laws of the reading: records put before it, its end, its next tag.
use Prim.Native.Nat.{ℕ, zero, suc, ◌≤◌, ◌<◌}
use mathlib.Core.Path.{◌≡◌, refl, ap}
use mathlib.Core.List.{List, [], ◌∷◌, ◌++◌, append_assoc}
use lib.ListN.{length}
use borrow.Author.Tests.{lt-leb, le-leb}
use Rattle.octets.specs.Choice.{impossible}
use Rattle.tags.specs.Reading.{head_at}
use Rattle.items.specs.Records.{Rec}
use Rattle.items.specs.Reading.{Out, more, ending, step, walk, within}
use Rattle.items.specs.Reading.Out.{good, bad}

pub more_more : (a b : List Rec) (o : Out) → more (a ++ b) o ≡ more a (more b o)
unfolding more
more_more a b (good ys end) = ap (λ (x : List Rec). good x end) (append_assoc a b ys)
more_more a b (bad x) = refl

pub more_bad : (a : List Rec) (x : ℕ) → more a (bad x) ≡ bad x
unfolding more
more_bad a x = refl

pub more_none : (o : Out) → more [] o ≡ o
unfolding more
more_none (good ys end) = refl
more_none (bad x) = refl

pub more_records : (r : Rec) (rs : List Rec) (end : ℕ) → more (r ∷ []) (good rs end) ≡ good (r ∷ rs) end
unfolding more
more_records r rs end = refl

-- good and bad are never both
pub never : {X : Type 0} (x : ℕ) (rs : List Rec) (end : ℕ) → bad x ≡ good rs end → X
never x rs end e = impossible (cc)

pub more_good : (r : Rec) (o : Out) (rs : List Rec) (end : ℕ) → more (r ∷ []) o ≡ good rs end → (qs : List Rec) × (o ≡ good qs end) × (rs ≡ r ∷ qs)
unfolding more
more_good r (good ys z) rs end e = (ys, (let q : good ys z ≡ good ys end = ap (good ys) (cc) in q), (let q : rs ≡ r ∷ ys = cc in q))
more_good r (bad x) rs end e = never x rs end e

pub walk_ends : (k : ℕ) (s : List ℕ) (at : ℕ) (groups : List ℕ) → length s ≤ at → walk k s at groups ≡ ending at groups
unfolding walk
walk_ends zero s at groups h = rw (le-leb _ _ h)
walk_ends (suc k) s at groups h = rw (le-leb _ _ h)

pub walk_steps : (k : ℕ) (s : List ℕ) (at : ℕ) (groups : List ℕ) → at < length s → walk (suc k) s at groups ≡ step (walk k s) (head_at s at) groups
unfolding walk
walk_steps k s at groups h = rw (lt-leb _ _ h)

-- with no group open there is nothing left of the item
pub within_done : (k : ℕ) (s : List ℕ) (at : ℕ) → within k s at [] ≡ good [] at
unfolding within
within_done zero s at = refl
within_done (suc k) s at = refl
