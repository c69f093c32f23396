-- A good item, and the good rest of a group, end further on and inside the octets.
use Prim.Native.Nat.{ℕ, zero, suc, ◌+◌, ◌-◌, ◌≤◌, ◌<◌}
use native.Mathlib.Omega.{arith}
use mathlib.Core.Path.{◌≡◌}
use mathlib.Core.List.{List, [], ◌∷◌}
use lib.ListN.{length}
use lib.Dec.{leb, eqb}
use Rattle.octets.specs.Choice.{pick_not, pick_so}
use Rattle.tags.specs.Reading.{head_at}
use Rattle.tags.specs.Head.{Tag}
use Rattle.tags.proofs.Bounds.{TagIn, head_in}
use Rattle.items.specs.Records.{Rec, rec}
use Rattle.items.specs.Reading.{Out, closes, step, within, item_at, most_items, deepest}
use Rattle.items.specs.Reading.Out.{good, bad}
use Rattle.items.proofs.Machine.{never, more_good}

-- an open group has its closing still to come
abbrev pub Past : ℕ → List ℕ → ℕ → Type 0
Past at [] end = at ≤ end
Past at (n ∷ outer) end = at < end

not_before : (at : ℕ) (groups : List ℕ) (end : ℕ) → Past at groups end → at ≤ end
not_before at [] end h = h
not_before at (n ∷ outer) end h = omega arith

module _ (s : List ℕ) where
  abbrev Ends : (ℕ → List ℕ → Out) → Type 0
  Ends rest = (at : ℕ) (groups : List ℕ) (rs : List Rec) (end : ℕ) → at ≤ length s → rest at groups ≡ good rs end → Past at groups end × (end ≤ length s)

  -- one tag, and what follows it
  step_past : (rest : ℕ → List ℕ → Out) → Ends rest → (at : ℕ) (t : Tag) → TagIn s at t → (groups : List ℕ) (rs : List Rec) (end : ℕ) → step rest t groups ≡ good rs end → (at < end) × (end ≤ length s)
  unfolding step closes
  step_past rest on at (Tag.Item k n v p l) b groups rs end e =
      let g = more_good (rec k n (length groups) v p l) (rest (p + l) groups) rs end e in
      let m = on (p + l) groups g.0 end b.within g.1 in
      (omega (arith, b.on, not_before (p + l) groups end m.0), m.1)
  step_past rest on at (Tag.Opening n p) b groups rs end e =
      let w = pick_not (leb deepest (length groups)) (bad 37) _ (good rs end) (never 37 rs end) e in
      let g = more_good (rec 2 n (length groups) 0 p 0) (rest p (n ∷ groups)) rs end w.1 in
      let m = on p (n ∷ groups) g.0 end b.within g.1 in
      (omega (arith, b.on, m.0), m.1)
  step_past rest on at (Tag.Closing n p) b [] rs end e = never 35 rs end e
  step_past rest on at (Tag.Closing n p) b (m ∷ outer) rs end e =
      let w = pick_so (eqb n m) _ (bad 35) (good rs end) (never 35 rs end) e in
      let g = more_good (rec 3 n (length outer) 0 p 0) (rest p outer) rs end w.1 in
      let m = on p outer g.0 end b.within g.1 in
      (omega (arith, b.on, not_before p outer end m.0), m.1)
  step_past rest on at (Tag.Refused x) b groups rs end e = never x rs end e

  pub within_past : (k : ℕ) → Ends (within k s)
  unfolding within
  within_past zero at [] rs end h e = let z : at ≡ end = cc in (omega arith, omega arith)
  within_past zero at (n ∷ outer) rs end h e = never 38 rs end (pick_not (leb (length s) at) (bad 36) (bad 38) (good rs end) (never 36 rs end) e).1
  within_past (suc k) at [] rs end h e = let z : at ≡ end = cc in (omega arith, omega arith)
  within_past (suc k) at (n ∷ outer) rs end h e =
      let w = pick_not (leb (length s) at) (bad 36) _ (good rs end) (never 36 rs end) e in
      step_past (within k s) (within_past k) at (head_at s at) (head_in s at) (n ∷ outer) rs end w.1

  pub item_past : (at : ℕ) (rs : List Rec) (end : ℕ) → item_at s at ≡ good rs end → (at < end) × (end ≤ length s)
  unfolding item_at
  item_past at rs end e = step_past (within (most_items - 1) s) (within_past (most_items - 1)) at (head_at s at) (head_in s at) [] rs end e
