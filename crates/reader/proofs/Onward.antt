-- Every step goes on and stays inside, so that stepping through any octets comes to the end or to a refusal.
use Prim.Native.Nat.{ℕ, ◌≤◌, ◌<◌}
use mathlib.Core.Path.{◌≡◌, refl}
use mathlib.Core.Logic.{inl, inr}
use mathlib.Core.List.{List}
use lib.ListN.{length}
use lib.Dec.{ltb, leb}
use borrow.Author.Tests.{ltb-true, leb-true, leb-false}
use Rattle.octets.specs.Choice.{pick_cases}
use Rattle.tags.specs.Types.{longest}
use Rattle.tags.specs.Reading.{head_at}
use Rattle.tags.specs.Head.{Tag}
use Rattle.items.specs.Records.{Rec}
use Rattle.items.specs.Reading.{Out, item_at, end_of}
use Rattle.items.specs.Reading.Out.{good, bad}
use Rattle.items.proofs.Onward.{item_past}
use Rattle.reader.specs.Reading.{shown, judged, step_of}
use Rattle.reader.specs.Walking.{Onward}

module _ (s : List ℕ) where
  judged_on : (at : ℕ) → at < length s → (t : Tag) (o : Out) → ((rs : List Rec) (end : ℕ) → o ≡ good rs end → (at < end) × (end ≤ length s)) → Onward s at (judged t (end_of o))
  unfolding judged shown end_of
  judged_on at h (Tag.Item k n v p l) (good rs end) f = f rs end refl
  judged_on at h (Tag.Opening n p) (good rs end) f = f rs end refl
  judged_on at h (Tag.Closing n p) (good rs end) f = inl h
  judged_on at h (Tag.Refused x) (good rs end) f = inl h
  judged_on at h t (bad x) f = inl h

  pub step_on : (at : ℕ) → Onward s at (step_of s at)
  unfolding step_of
  step_on at =
      pick_cases (Onward s at) (ltb longest (length s))
      (λ b. inr (refl, ltb-true longest (length s) b))
      (λ _. pick_cases (Onward s at) (leb (length s) at)
      (λ b. leb-true (length s) at b)
      (λ b. judged_on at (leb-false (length s) at b) (head_at s at) (item_at s at) (item_past s at)))
