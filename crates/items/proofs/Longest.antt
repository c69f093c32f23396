-- 39 is judged first, of one item too: over 16,384 octets it is refused, within them it is read.
use Prim.Native.Nat.{ℕ, ◌≤◌, ◌<◌}
use mathlib.Core.Path.{◌≡◌, sym, ap, ◌∙◌}
use mathlib.Core.List.{List, []}
use lib.Dec.{ltb}
use lib.ListN.{length}
use borrow.Author.Tests.{lt-ltb, le-ltb, ltb-false}
use Rattle.octets.specs.Choice.{pick_not}
use Rattle.tags.specs.Types.{longest}
use Rattle.items.specs.Records.{Rec}
use Rattle.items.specs.Reading.{walk, items_of, item_at, one_at, end_of, most_items}
use Rattle.items.specs.Reading.Out.{good, bad}
use Rattle.items.specs.Answers.{One}
use Rattle.items.proofs.Machine.{never}

-- what is read as items lies within them
pub items_within : (s : List ℕ) (rs : List Rec) (end : ℕ) → items_of s ≡ good rs end → length s ≤ longest
unfolding items_of
items_within s rs end e = ltb-false longest (length s) (pick_not (ltb longest (length s)) (bad 39) (walk most_items s 0 []) (good rs end) (never 39 rs end) e).0

module _ (s : List ℕ) (at : ℕ) where
  pub one_over : longest < length s → one_at s at ≡ bad 39
  unfolding one_at
  one_over h = rw (lt-ltb _ _ h)

  pub one_within : length s ≤ longest → one_at s at ≡ item_at s at
  unfolding one_at
  one_within h = rw (le-ltb _ _ h)

  -- what is read lies within them
  pub one_read : (rs : List Rec) (end : ℕ) → one_at s at ≡ good rs end → (length s ≤ longest) × (item_at s at ≡ good rs end)
  unfolding one_at
  one_read rs end e =
      let w = pick_not (ltb longest (length s)) (bad 39) (item_at s at) (good rs end) (never 39 rs end) e in
      (ltb-false longest (length s) w.0, w.1)

  -- the ways through the call
  pub answer_over : longest < length s → One.Refused 39 ≡ end_of (one_at s at)
  unfolding end_of
  answer_over h = rw (one_over h)

  pub answer_within : length s ≤ longest → (r : One) → r ≡ end_of (item_at s at) → r ≡ end_of (one_at s at)
  answer_within h r e = e ∙ ap end_of (sym (one_within h))
