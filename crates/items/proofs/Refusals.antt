-- The numbers of items are 30 to 39: what holds of 30 to 38 holds of every refusal of one item within 16,384 octets, and with 39 of every refusal of a run of them.
use Prim.Native.Nat.{ℕ, zero, suc, ◌+◌, ◌-◌, ◌≤◌}
use native.Mathlib.Omega.{arith}
use mathlib.Core.List.{List, [], ◌∷◌}
use lib.ListN.{length}
use lib.Dec.{ltb, leb, eqb}
use Rattle.octets.specs.Choice.{pick_case}
use Rattle.tags.specs.Types.{longest}
use Rattle.tags.specs.Reading.{head_at}
use Rattle.tags.specs.Head.{Tag}
use Rattle.tags.specs.Head.Tag.{Item, Opening, Closing, Refused}
use Rattle.tags.proofs.Refusals.{TagHas, refusals_have}
use Rattle.items.specs.Records.{Rec}
use Rattle.items.specs.Reading.{Out, more, ending, closes, step, walk, within, while_open, items_of, item_at, most_items, deepest}
use Rattle.items.specs.Reading.Out.{good, bad}

abbrev pub OutHas : (ℕ → Type 0) → Out → Type 0
OutHas P (good rs end) = Unit {0}
OutHas P (bad x) = P x

more_has : (P : ℕ → Type 0) (rs : List Rec) (o : Out) → OutHas P o → OutHas P (more rs o)
unfolding more
more_has P rs (good ys end) h = tt
more_has P rs (bad x) h = h

open_has : (P : ℕ → Type 0) (at : ℕ) (groups : List ℕ) (o : Out) → OutHas P o → OutHas P (while_open at groups o)
open_has P at [] o h = tt
open_has P at (n ∷ outer) o h = h

module _ (P : ℕ → Type 0) (all : (n : ℕ) → 30 ≤ n → n ≤ 38 → P n) where
  abbrev Has : Out → Type 0
  Has = OutHas P

  p35 : P 35
  p35 = all 35 (omega arith) (omega arith)

  p36 : P 36
  p36 = all 36 (omega arith) (omega arith)

  p38 : P 38
  p38 = all 38 (omega arith) (omega arith)

  pub head_has : (s : List ℕ) (at : ℕ) → TagHas P (head_at s at)
  head_has s at = refusals_have P (λ n low high. all n low (omega arith)) s at

  ending_has : (at : ℕ) (groups : List ℕ) → Has (ending at groups)
  unfolding ending
  ending_has at [] = tt
  ending_has at (n ∷ outer) = p36

  step_has : (rest : ℕ → List ℕ → Out) → ((at : ℕ) (groups : List ℕ) → Has (rest at groups)) → (t : Tag) → TagHas P t → (groups : List ℕ) → Has (step rest t groups)
  unfolding step closes
  step_has rest f (Item k n v p l) h groups = more_has P _ _ (f (p + l) groups)
  step_has rest f (Opening n p) h groups = pick_case Has (leb deepest (length groups)) (all 37 (omega arith) (omega arith)) (more_has P _ _ (f p (n ∷ groups)))
  step_has rest f (Closing n p) h [] = p35
  step_has rest f (Closing n p) h (m ∷ outer) = pick_case Has (eqb n m) (more_has P _ _ (f p outer)) p35
  step_has rest f (Refused x) h groups = h

  pub walk_has : (k : ℕ) (s : List ℕ) (at : ℕ) (groups : List ℕ) → OutHas P (walk k s at groups)
  unfolding walk
  walk_has zero s at groups = pick_case Has (leb (length s) at) (ending_has at groups) p38
  walk_has (suc k) s at groups = pick_case Has (leb (length s) at) (ending_has at groups) (step_has (walk k s) (walk_has k s) (head_at s at) (head_has s at) groups)

  within_has : (k : ℕ) (s : List ℕ) (at : ℕ) (groups : List ℕ) → Has (within k s at groups)
  unfolding within
  within_has zero s at groups = open_has P at groups _ (pick_case Has (leb (length s) at) p36 p38)
  within_has (suc k) s at groups = open_has P at groups _ (pick_case Has (leb (length s) at) p36 (step_has (within k s) (within_has k s) (head_at s at) (head_has s at) groups))

  pub item_has : (s : List ℕ) (at : ℕ) → OutHas P (item_at s at)
  unfolding item_at
  item_has s at = step_has (within (most_items - 1) s) (within_has (most_items - 1) s) (head_at s at) (head_has s at) []

pub items_have : (P : ℕ → Type 0) → ((n : ℕ) → 30 ≤ n → n ≤ 39 → P n) → (s : List ℕ) → OutHas P (items_of s)
unfolding items_of
items_have P all s = pick_case (OutHas P) (ltb longest (length s)) (all 39 (omega arith) (omega arith)) (walk_has P (λ n low high. all n low (omega arith)) most_items s 0 [])
