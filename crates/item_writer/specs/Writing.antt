-- What laying a record's item asks of the record: a good one has it.
use Rattle.std.specs.Prelude.{ℕ, ◌+◌, ◌≤◌, ◌≡◌, List, true, length}
use Rattle.tags.specs.Types.{longest}
use Rattle.items.specs.Records.{Rec}
use Rattle.item_judge.specs.Kinds.{inside_test}
use Rattle.item_judge.specs.OneLayout.{layout}

pub record Ready (source : List ℕ) (r : Rec) (at : ℕ) (out : List ℕ) : Type 0 where
  pub value : r.value ≤ 1
  pub short : r.len ≤ longest
  pub inside : inside_test (length source) r.place r.len ≡ true
  pub room : at + length (layout source r) ≤ length out
