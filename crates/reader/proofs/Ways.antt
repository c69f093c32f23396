-- The ways through a step: what it answers, from what the calls in it answer and the tests that it took.
use Prim.Native.Nat.{ℕ, ◌+◌, ◌≤◌, ◌<◌, ◌^◌}
use native.Mathlib.Omega.{arith}
use mathlib.Core.Path.{◌≡◌, sym}
use mathlib.Core.List.{List}
use lib.ListN.{length}
use mir.Syntax.{w64}
use mir.Val.{Fits}
use Rattle.tags.specs.Types.{longest}
use Rattle.tags.specs.Reading.{head_at}
use Rattle.tags.specs.Head.{Tag}
use Rattle.tags.proofs.Bounds.{TagIn}
use Rattle.items.specs.Reading.{item_at, end_of}
use Rattle.items.specs.Answers.{One}
use Rattle.items.proofs.Steps.{tag_in}
use Rattle.reader.specs.Answers.Step.{Item, Group, End, Refused}
use Rattle.reader.specs.Reading.{step_of}
use Rattle.reader.proofs.Heads

module _ (s : List ℕ) (at : ℕ) where
  pub over : longest < length s → Refused 39 ≡ step_of s at
  over h = sym (Heads.step_over s at h)

  pub ended : length s ≤ longest → length s ≤ at → End ≡ step_of s at
  ended short h = sym (Heads.step_end s at short h)

  -- by the tag at the place
  pub item_fits : (k n v p l : ℕ) → Tag.Item k n v p l ≡ head_at s at → length s < 2 ^ 64 → Fits w64 (p + l)
  item_fits k n v p l e h = let b : TagIn s at (Tag.Item k n v p l) = tag_in s at (sym e) in record { fits = omega (arith, b.within) }

  module _ (short : length s ≤ longest) (h : at < length s) where
    pub item : (k n v p l : ℕ) → Tag.Item k n v p l ≡ head_at s at → (z : ℕ) → z ≡ k → Item z n v p l (p + l) ≡ step_of s at
    item k n v p l e z f = rw f (sym (Heads.step_item s at short h k n v p l (sym e)))

    pub closing : (n p : ℕ) → Tag.Closing n p ≡ head_at s at → Refused 35 ≡ step_of s at
    closing n p e = sym (Heads.step_closing s at short h n p (sym e))

    pub refused : (x : ℕ) → Tag.Refused x ≡ head_at s at → Refused x ≡ step_of s at
    refused x e = sym (Heads.step_refused s at short h x (sym e))

    -- and by what the item reader answers
    pub group : (n p to : ℕ) → Tag.Opening n p ≡ head_at s at → One.Next to ≡ end_of (item_at s at) → Group n p to ≡ step_of s at
    group n p to e f = sym (Heads.step_group s at short h n p to (sym e) (sym f))

    pub opened : (x : ℕ) → One.Refused x ≡ end_of (item_at s at) → Refused x ≡ step_of s at
    opened x f = sym (Heads.step_open s at short h x (sym f))

pub ruleset steps = (over, ended)
