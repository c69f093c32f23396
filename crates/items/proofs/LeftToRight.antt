-- "Octets are judged left to right": the front decides once it refuses, and the rest depends on the open numbers and the count alone.
use Prim.Native.Nat.{ℕ, zero, suc, ◌+◌, ◌≤◌, ◌<◌}
use native.Mathlib.Omega.{arith}
use mathlib.Core.Path.{◌≡◌, refl, sym}
use mathlib.Core.List.{List, [], ◌∷◌, ◌++◌}
use mathlib.Core.Bool.{Bool}
use mathlib.Core.Logic.{⊎_elim}
use lib.ListN.{length, length-append}
use lib.Dec.{leb, eqb}
use borrow.Author.Tests.{lt-leb, leb-false, le-ltb}
use Rattle.octets.specs.Choice.{pick, pick_two, by_test}
use Rattle.tags.specs.Types.{longest}
use Rattle.tags.specs.Reading.{head_at}
use Rattle.tags.specs.Head.{Tag}
use Rattle.tags.specs.Head.Tag.{Item, Opening, Closing, Refused}
use Rattle.items.specs.Records.{Rec, rec}
use Rattle.items.specs.Reading.{Out, more, ending, closes, step, walk, items_of, most_items, deepest}
use Rattle.items.specs.Reading.Out.{good, bad}
use Rattle.items.proofs.Machine.{never, more_bad}
use Rattle.items.proofs.HeadFront.{head_front}
use Rattle.items.proofs.HeadMoved.{tag_moved, head_moved, moved_pick, ends_there}

-- a refusal passes the records before it
pub more_refused : (rs : List Rec) (o : Out) (x : ℕ) → more rs o ≡ bad x → o ≡ bad x
unfolding more
more_refused rs (good ys end) x e = never x (rs ++ ys) end (sym e)
more_refused rs (bad y) x e = e

-- A refusal that is not of a missing octet (30, 36) stands, whatever follows.
module _ (a b : List ℕ) (x : ℕ) (whole : x ≡ 30 → ⊥) (closed : x ≡ 36 → ⊥) where
  end_front : (at : ℕ) (groups : List ℕ) → ending at groups ≡ bad x → ⊥
  unfolding ending
  end_front at [] e = never x [] at (sym e)
  end_front at (n ∷ groups) e = closed (let z : x ≡ 36 = cc in z)

  pick_front : (t : Bool) {o o' p p' : Out} → (o ≡ bad x → p ≡ bad x) → (o' ≡ bad x → p' ≡ bad x) → pick t o o' ≡ bad x → pick t p p' ≡ bad x
  pick_front t f g = pick_two (λ (o p : Out). o ≡ bad x → p ≡ bad x) t (λ _. f) (λ _. g)

  more_front : (rs : List Rec) (o p : Out) → (o ≡ bad x → p ≡ bad x) → more rs o ≡ bad x → more rs p ≡ bad x
  more_front rs o p f e = rw (f (more_refused rs o x e)) (more_bad rs x)

  step_front : (rest later : ℕ → List ℕ → Out) → ((at : ℕ) (groups : List ℕ) → rest at groups ≡ bad x → later at groups ≡ bad x) → (t : Tag) (groups : List ℕ) → step rest t groups ≡ bad x → step later t groups ≡ bad x
  unfolding step closes
  step_front rest later f (Item c n v p l) groups = more_front _ _ _ (f (p + l) groups)
  step_front rest later f (Opening n p) groups = pick_front (leb deepest (length groups)) (λ e. e) (more_front _ _ _ (f p (n ∷ groups)))
  step_front rest later f (Closing n p) [] = λ e. e
  step_front rest later f (Closing n p) (m ∷ groups) = pick_front (eqb n m) (more_front _ _ _ (f p groups)) (λ e. e)
  step_front rest later f (Refused y) groups = λ e. e

  -- before the end of the front, both are at the same octet
  both_here : (at : ℕ) (groups : List ℕ) (o p : Out) → (o ≡ bad x → p ≡ bad x) → pick (leb (length a) at) (ending at groups) o ≡ bad x → pick (leb (length (a ++ b)) at) (ending at groups) p ≡ bad x
  both_here at groups o p f e =
      by_test (leb (length a) at) (λ h. absurd (end_front at groups (rw h at e))) (λ h.
      let l : at < length (a ++ b) = omega (arith, leb-false (length a) at h, length-append a b) in
      rw (lt-leb _ _ l) (f (rw h at e)))

  head_same : (at : ℕ) (groups : List ℕ) (rest : ℕ → List ℕ → Out) → step rest (head_at a at) groups ≡ bad x → head_at (a ++ b) at ≡ head_at a at
  unfolding step
  head_same at groups rest e = ⊎_elim (λ h. absurd (whole (let z : bad 30 ≡ bad x = rw h at e in let y : x ≡ 30 = cc in y))) (λ h. h) (head_front a b at)

  pub walk_front : (k at : ℕ) (groups : List ℕ) → walk k a at groups ≡ bad x → walk k (a ++ b) at groups ≡ bad x
  unfolding walk
  walk_front zero at groups = both_here at groups (bad 38) (bad 38) (λ e. e)
  walk_front (suc k) at groups = both_here at groups _ _ (λ e. rw (head_same at groups (walk k a) e) (step_front (walk k a) (walk k (a ++ b)) (walk_front k) (head_at a at) groups e))

  pub items_front : length (a ++ b) ≤ longest → items_of a ≡ bad x → items_of (a ++ b) ≡ bad x
  unfolding items_of
  items_front h e =
      let l : length a ≤ longest = omega (arith, length-append a b) in
      rw (le-ltb _ _ h) (walk_front most_items 0 [] (rw (le-ltb _ _ l) at e))

-- Behind other octets the reading is the same, with its places moved.
abbrev pub record_moved : ℕ → Rec → Rec
record_moved n r = rec r.kind r.number r.depth r.value (n + r.place) r.len

unfoldable pub records_moved : ℕ → List Rec → List Rec
records_moved n [] = []
records_moved n (r ∷ rs) = record_moved n r ∷ records_moved n rs

unfoldable pub out_moved : ℕ → Out → Out
out_moved n (good rs end) = good (records_moved n rs) (n + end)
out_moved n (bad x) = bad x

more_moved : (n : ℕ) (r : Rec) (o p : Out) → p ≡ out_moved n o → more (record_moved n r ∷ []) p ≡ out_moved n (more (r ∷ []) o)
unfolding more out_moved records_moved
more_moved n r (good rs end) p e = rw e
more_moved n r (bad x) p e = rw e

step_moved : (n : ℕ) (rest later : ℕ → List ℕ → Out) → ((at : ℕ) (groups : List ℕ) → later (n + at) groups ≡ out_moved n (rest at groups)) → (t : Tag) (groups : List ℕ) → step later (tag_moved n t) groups ≡ out_moved n (step rest t groups)
unfolding step closes out_moved
step_moved n rest later f (Item c x v p l) groups = let e : n + p + l ≡ n + (p + l) = omega arith in rw e (more_moved n (rec c x (length groups) v p l) (rest (p + l) groups) (later (n + (p + l)) groups) (f (p + l) groups))
step_moved n rest later f (Opening x p) groups = moved_pick (out_moved n) (leb deepest (length groups)) refl (more_moved n (rec 2 x (length groups) 0 p 0) (rest p (x ∷ groups)) (later (n + p) (x ∷ groups)) (f p (x ∷ groups)))
step_moved n rest later f (Closing x p) [] = refl
step_moved n rest later f (Closing x p) (m ∷ groups) = moved_pick (out_moved n) (eqb x m) (more_moved n (rec 3 x (length groups) 0 p 0) (rest p groups) (later (n + p) groups) (f p groups)) refl
step_moved n rest later f (Refused x) groups = refl

ending_moved : (n at : ℕ) (groups : List ℕ) → ending (n + at) groups ≡ out_moved n (ending at groups)
unfolding ending out_moved records_moved
ending_moved n at [] = refl
ending_moved n at (m ∷ groups) = refl

-- "the open numbers" and the count of items are all that the rest depends on
pub walk_moved : (a b : List ℕ) (k at : ℕ) (groups : List ℕ) → walk k (a ++ b) (length a + at) groups ≡ out_moved (length a) (walk k b at groups)
unfolding walk out_moved
walk_moved a b zero at groups = rw (ends_there a b at) (moved_pick (out_moved (length a)) (leb (length b) at) (ending_moved (length a) at groups) refl)
walk_moved a b (suc k) at groups =
    rw (ends_there a b at, head_moved a b at)
    (moved_pick (out_moved (length a)) (leb (length b) at) (ending_moved (length a) at groups) (step_moved (length a) (walk k b) (walk k (a ++ b)) (walk_moved a b k) (head_at b at) groups))
