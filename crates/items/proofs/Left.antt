-- Going through the items of a good reading one by one, a whole group at a time.
use Prim.Native.Nat.{ℕ, zero, suc, ◌+◌, ◌-◌, ◌≤◌, ◌<◌}
use native.Mathlib.Omega.{arith}
use mathlib.Core.Path.{◌≡◌, refl, sym, ap, ◌∙◌}
use mathlib.Core.List.{List, [], ◌∷◌, ◌++◌}
use mathlib.Core.Bool.{false}
use lib.ListN.{length}
use lib.Dec.{ltb, leb, eqb}
use borrow.Author.Tests.{lt-leb, eqb-true}
use Rattle.octets.specs.Choice.{pick_not, pick_so}
use Rattle.tags.specs.Types.{longest}
use Rattle.tags.specs.Reading.{head_at}
use Rattle.tags.specs.Head.{Tag}
use Rattle.tags.specs.Head.Tag.{Item, Opening, Closing, Refused}
use Rattle.tags.proofs.Bounds.{TagIn, head_in}
use Rattle.items.specs.Records.{Rec, rec}
use Rattle.items.specs.Reading.{Out, more, ending, closes, step, walk, items_of, within, item_at, most_items, deepest}
use Rattle.items.specs.Reading.Out.{good, bad}
use Rattle.items.specs.Left.{Left, Closes, Opens}
use Rattle.items.proofs.Steps.{tag_in}
use Rattle.items.proofs.Machine.{never, more_good, more_records, walk_ends, walk_steps, within_done}

pub left_all : (s : List ℕ) (rs : List Rec) (end : ℕ) → items_of s ≡ good rs end → Left s 0 rs
unfolding items_of
left_all s rs end e =
    let w = pick_not (ltb longest (length s)) (bad 39) (walk most_items s 0 []) (good rs end) (never 39 rs end) e in
    record { room = most_items; last = end; most = omega arith; inside = omega arith; reading = w.1 }

-- the outermost of the open groups is n
abbrev Outermost : ℕ → List ℕ → Type 0
Outermost n [] = ⊥
Outermost n (m ∷ []) = m ≡ n
Outermost n (m ∷ l ∷ groups) = Outermost n (l ∷ groups)

-- from inside a group to its closing; reading one item alone, with room for as many, goes there too
record Through (s : List ℕ) (k at n : ℕ) (run : (ℕ → List ℕ → Out) → Out) (rs : List Rec) : Type 0 where
  past : Closes s at n rs
  alone : (j : ℕ) → k ≤ j → run (within j s) ≡ good (past.inner ++ (rec 3 n 0 0 past.to 0 ∷ [])) past.to

module _ (s : List ℕ) (n : ℕ) where
  -- its closing
  through_end : (k at p : ℕ) (rs qs : List Rec) (end : ℕ) → k ≤ most_items → at < p → p ≤ length s → rs ≡ rec 3 n 0 0 p 0 ∷ qs → walk k s p [] ≡ good qs end
      → Through s k at n (λ rest. more (rec 3 n 0 0 p 0 ∷ []) (rest p [])) rs
  through_end k at p rs qs end small h b e w =
      record {
        past = record { inner = []; rest = qs; to = p; all = e; deep = tt; on = h; left = record { room = k; last = end; most = small; inside = b; reading = w } };
        alone = λ j _. rw (within_done j s p, more_records);
      }

  through_as : {k at : ℕ} {run same : (ℕ → List ℕ → Out) → Out} {rs : List Rec} → ((rest : ℕ → List ℕ → Out) → same rest ≡ run rest) → Through s k at n run rs → Through s k at n same rs
  through_as f t = record { past = t.past; alone = λ j h. f (within j s) ∙ t.alone j h }

  module _ (k : ℕ) (ih : (at : ℕ) (groups : List ℕ) → Outermost n groups → (rs : List Rec) (end : ℕ) → walk k s at groups ≡ good rs end → Through s k at n (λ rest. rest at groups) rs) where
    -- one record more, in the group
    through_more : (at p : ℕ) (groups : List ℕ) → Outermost n groups → (r : Rec) → 0 < r.depth → at < p → (rs : List Rec) (end : ℕ) → more (r ∷ []) (walk k s p groups) ≡ good rs end
        → Through s k at n (λ rest. more (r ∷ []) (rest p groups)) rs
    through_more at p groups o r d h rs end e =
        let g = more_good r (walk k s p groups) rs end e in
        let t = ih p groups o g.0 end g.1 in
        let c = t.past in
        record {
          past = record { inner = r ∷ c.inner; rest = c.rest; to = c.to; all = g.2 ∙ ap (λ (x : List Rec). r ∷ x) c.all; deep = (d, c.deep); on = omega (arith, c.on); left = c.left };
          alone = λ j w. rw (t.alone j w, more_records);
        }

    through_tag : k ≤ most_items → (at : ℕ) (t : Tag) → TagIn s at t → (groups : List ℕ) → Outermost n groups → (rs : List Rec) (end : ℕ) → step (walk k s) t groups ≡ good rs end
        → Through s k at n (λ rest. step rest t groups) rs
    unfolding step closes
    through_tag small at t b [] o rs end e = absurd o
    through_tag small at (Item c x v p l) b (m ∷ groups) o rs end e = through_more at (p + l) (m ∷ groups) o (rec c x (length (m ∷ groups)) v p l) (omega arith) (omega arith) rs end e
    through_tag small at (Opening x p) b (m ∷ groups) o rs end e =
        let w = pick_not (leb deepest (length (m ∷ groups))) (bad 37) _ (good rs end) (never 37 rs end) e in
        through_as (λ rest. rw w.0) (through_more at p (x ∷ m ∷ groups) o (rec 2 x (length (m ∷ groups)) 0 p 0) (omega arith) (omega arith) rs end w.1)
    through_tag small at (Closing x p) b (m ∷ []) o rs end e =
        let w = pick_so (eqb x m) _ (bad 35) (good rs end) (never 35 rs end) e in
        let c : x ≡ n = eqb-true x m w.0 ∙ o in
        let g = more_good (rec 3 x 0 0 p 0) (walk k s p []) rs end w.1 in
        through_as (λ rest. rw (w.0, c)) (through_end k at p rs g.0 end small b.on b.within (g.2 ∙ ap (λ (y : ℕ). rec 3 y 0 0 p 0 ∷ g.0) c) g.1)
    through_tag small at (Closing x p) b (m ∷ l ∷ groups) o rs end e =
        let w = pick_so (eqb x m) _ (bad 35) (good rs end) (never 35 rs end) e in
        through_as (λ rest. rw w.0) (through_more at p (l ∷ groups) o (rec 3 x (length (l ∷ groups)) 0 p 0) (omega arith) b.on rs end w.1)
    through_tag small at (Refused x) b (m ∷ groups) o rs end e = never x rs end e

  again : (k at m : ℕ) (groups : List ℕ) (o : Out) → leb (length s) at ≡ false → ((j : ℕ) → k ≤ j → step (within j s) (head_at s at) (m ∷ groups) ≡ o) → (j : ℕ) → suc k ≤ j → within j s at (m ∷ groups) ≡ o
  unfolding within
  again k at m groups o h f zero w = absurd (omega arith)
  again k at m groups o h f (suc j) w = rw h (f j (omega arith))

  through : (k : ℕ) → k ≤ most_items → (at : ℕ) (groups : List ℕ) → Outermost n groups → (rs : List Rec) (end : ℕ) → walk k s at groups ≡ good rs end → Through s k at n (λ rest. rest at groups) rs
  unfolding walk ending
  through zero small at [] o rs end e = absurd o
  through zero small at (m ∷ groups) o rs end e = never 38 rs end (pick_not (leb (length s) at) (bad 36) (bad 38) (good rs end) (never 36 rs end) e).1
  through (suc k) small at [] o rs end e = absurd o
  through (suc k) small at (m ∷ groups) o rs end e =
      let w = pick_not (leb (length s) at) (bad 36) _ (good rs end) (never 36 rs end) e in
      let less : k ≤ most_items = omega arith in
      let t = through_tag k (through k less) less at (head_at s at) (head_in s at) (m ∷ groups) o rs end w.1 in
      record { past = t.past; alone = again k at m groups _ w.0 t.alone }

-- what is left where an item begins
module _ (s : List ℕ) (at : ℕ) (rs : List Rec) (w : Left s at rs) where
  pub left_end : length s ≤ at → rs ≡ []
  unfolding ending
  left_end h = let e : ending at [] ≡ good rs w.last = sym (walk_ends w.room s at [] h) ∙ w.reading in let z : rs ≡ [] = cc in z

  here : at < length s → (k : ℕ) × (k < most_items) × (step (walk k s) (head_at s at) [] ≡ good rs w.last)
  unfolding walk
  here h = go w.room w.most w.reading
    where
      go : (k : ℕ) → k ≤ most_items → walk k s at [] ≡ good rs w.last → (k : ℕ) × (k < most_items) × (step (walk k s) (head_at s at) [] ≡ good rs w.last)
      go zero b e = never 38 rs w.last (rw (lt-leb _ _ h) at e)
      go (suc k) b e = (k, omega arith, sym (walk_steps k s at [] h) ∙ e)

  pub left_refused : at < length s → (x : ℕ) → head_at s at ≡ Refused x → ⊥
  unfolding step
  left_refused h x e = let g = here h in never x rs w.last (rw e at g.2)

  pub left_closing : (x p : ℕ) → head_at s at ≡ Closing x p → ⊥
  unfolding step closes
  left_closing x p e =
      let b : TagIn s at (Closing x p) = tag_in s at e in
      let g = here (omega arith) in
      never 35 rs w.last (rw e at g.2)

  pub left_item : (c x v p l : ℕ) → head_at s at ≡ Item c x v p l → (rest : List Rec) × (rs ≡ rec c x 0 v p l ∷ rest) × Left s (p + l) rest
  unfolding step
  left_item c x v p l e =
      let b : TagIn s at (Item c x v p l) = tag_in s at e in
      let g = here (omega arith) in
      let m = more_good (rec c x 0 v p l) (walk g.0 s (p + l) []) rs w.last (rw e at g.2) in
      (m.0, m.2, record { room = g.0; last = w.last; most = omega (arith, g.1); inside = b.within; reading = m.1 })

  opens : (n p : ℕ) → head_at s at ≡ Opening n p → (k : ℕ) → k < most_items → (qs : List Rec) → rs ≡ rec 2 n 0 0 p 0 ∷ qs → Through s k p n (λ rest. rest p (n ∷ [])) qs → Opens s at n p rs
  unfolding step item_at
  opens n p e k h qs own t = record { others = qs; own = own; closes = t.past; item = rw (e, t.alone (most_items - 1) (omega arith), more_records) }

  pub left_group : (n p : ℕ) → head_at s at ≡ Opening n p → Opens s at n p rs
  unfolding step
  left_group n p e =
      let b : TagIn s at (Opening n p) = tag_in s at e in
      let g = here (omega arith) in
      let m = more_good (rec 2 n 0 0 p 0) (walk g.0 s p (n ∷ [])) rs w.last (rw e at g.2) in
      opens n p e g.0 g.1 m.0 m.2 (through s n g.0 (omega (arith, g.1)) p (n ∷ []) refl m.0 w.last m.1)

-- one item that is no group
pub one_item : (s : List ℕ) (at c x v p l : ℕ) → head_at s at ≡ Item c x v p l → item_at s at ≡ good (rec c x 0 v p l ∷ []) (p + l)
unfolding item_at step
one_item s at c x v p l e = rw (e, within_done (most_items - 1) s (p + l), more_records)
