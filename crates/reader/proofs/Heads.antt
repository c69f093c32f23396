-- The step at a place by the tag that stands there.
use Prim.Native.Nat.{ℕ, ◌+◌, ◌≤◌, ◌<◌}
use mathlib.Core.Path.{◌≡◌}
use mathlib.Core.List.{List}
use lib.ListN.{length}
use borrow.Author.Tests.{lt-ltb, le-ltb, lt-leb, le-leb}
use Rattle.tags.specs.Types.{longest}
use Rattle.tags.specs.Reading.{head_at}
use Rattle.tags.specs.Head.{Tag}
use Rattle.items.specs.Reading.{item_at, step, closes, end_of}
use Rattle.items.specs.Answers.{One}
use Rattle.items.proofs.Left.{one_item}
use Rattle.reader.specs.Answers.Step.{Item, Group, End, Refused}
use Rattle.reader.specs.Reading.{shown, judged, step_of}

module _ (s : List ℕ) (at : ℕ) where
  pub step_over : longest < length s → step_of s at ≡ Refused 39
  unfolding step_of
  step_over h = rw (lt-ltb _ _ h)

  module _ (short : length s ≤ longest) where
    pub step_end : length s ≤ at → step_of s at ≡ End
    unfolding step_of
    step_end h = rw (le-ltb _ _ short, le-leb _ _ h)

    module _ (h : at < length s) where
      -- by what the item reader answers
      pub step_by : step_of s at ≡ judged (head_at s at) (end_of (item_at s at))
      unfolding step_of
      step_by = rw (le-ltb _ _ short, lt-leb _ _ h)

      pub step_item : (k n v p l : ℕ) → head_at s at ≡ Tag.Item k n v p l → step_of s at ≡ Item k n v p l (p + l)
      unfolding judged shown end_of
      step_item k n v p l e = rw (step_by, one_item s at k n v p l e, e)

      pub step_group : (n p to : ℕ) → head_at s at ≡ Tag.Opening n p → end_of (item_at s at) ≡ One.Next to → step_of s at ≡ Group n p to
      unfolding judged shown
      step_group n p to e f = rw (step_by, f, e)

      pub step_open : (x : ℕ) → end_of (item_at s at) ≡ One.Refused x → step_of s at ≡ Refused x
      unfolding judged
      step_open x f = rw (step_by, f)

      pub step_closing : (n p : ℕ) → head_at s at ≡ Tag.Closing n p → step_of s at ≡ Refused 35
      unfolding end_of item_at step closes
      step_closing n p e = step_open 35 (rw e)

      pub step_refused : (x : ℕ) → head_at s at ≡ Tag.Refused x → step_of s at ≡ Refused x
      unfolding end_of item_at step
      step_refused x e = step_open x (rw e)
