-- Every refusal of a reading or of a writer's fields is one of the page's rows for it.
use Prim.Native.Nat.{ℕ, ◌≤◌, ◌<◌}
use native.Mathlib.Omega.{arith}
use mathlib.Core.Path.{◌≡◌, refl, sym, subst, ◌∙◌}
use mathlib.Core.Logic.{◌⊎◌, inl, inr, ◌↔◌}
use mathlib.Core.List.{List, []}
use mathlib.Core.Bool.{Bool}
use lib.ListN.{length}
use lib.Dec.{ltb, leb, eqb}
use borrow.Author.Tests.{ltb-true, ltb-false, lt-ltb, le-ltb}
use Rattle.octets.specs.Choice.{pick_case, given_cases, by_test, impossible}
use Rattle.tags.specs.Types.{longest}
use Rattle.tags.specs.Reading.{head_at}
use Rattle.tags.specs.Head.{Tag}
use Rattle.tags.specs.Head.Tag.{Item, Opening, Closing}
use Rattle.tags.proofs.Refusals.{TagHas}
use Rattle.items.specs.Reading.{Out, walk, items_of, item_at, one_at, end_of, most_items}
use Rattle.items.specs.Reading.Out.{good, bad}
use Rattle.items.specs.Answers.{One as OneItem}
use Rattle.items.proofs.Refusals.{OutHas, head_has, walk_has, item_has}
use Rattle.items.proofs.Longest.{one_over, one_within}
use Rattle.reader.specs.Reading.{shown, judged, step_of}
use Rattle.reader.specs.Answers.{Step}
use Rattle.reader.proofs.Heads.{step_over}
use Rattle.npdu.specs.Fault.{part_rules, part_fault, sooner, fault_of}
use Rattle.npdu.specs.Reading.{read_npdu, refused_by}
use Rattle.npdu.proofs.Outcome as Network
use Rattle.apdu.proofs.Exact as Header
use Rattle.apdu.proofs.FirstFault.{fault_range}
use Rattle.demands.specs.Words.{Between}
use Rattle.demands.specs.Demands.{NetworkNumbers, HeaderNumbers, ItemNumbers, NetworkWriterNumbers, HeaderWriterNumbers}

-- a number of an item, 30 to 38
abbrev Row : ℕ → Type 0
Row n = Between 30 38 n

rows : (n : ℕ) → 30 ≤ n → n ≤ 38 → Row n
rows n low high = (low, high)

-- ---- items
item_refused : (n : ℕ) (o : Out) → OutHas Row o → end_of o ≡ OneItem.Refused n → Row n
unfolding end_of
item_refused n (good rs end) h e = impossible (cc)
item_refused n (bad x) h e = let z : x ≡ n = cc in rw (← z) h

-- 39 first: over 16,384 octets the answer is 39, within them a refusal is one of the rows
module _ {A : Type 0} (not : ℕ → A) (apart : (n : ℕ) → not n ≡ not 39 → n ≡ 39) (s : List ℕ) (a : A) (over : longest < length s → a ≡ not 39)
    (within : length s ≤ longest → (n : ℕ) → a ≡ not n → Row n) where
  thirty_nine : ((n : ℕ) → a ≡ not n → Between 30 39 n) × ((a ≡ not 39) ↔ (longest < length s))
  thirty_nine =
      by_test (ltb longest (length s))
      (λ t.
      let h = ltb-true _ _ t in
      let e = over h in
      (λ n q. (let z = apart n (sym q ∙ e) in (omega arith, omega arith)), (λ _. h, λ _. e)))
      (λ t.
      let h = ltb-false _ _ t in
      (λ n q. (let z = within h n q in (omega (arith, z.0), omega (arith, z.1))), (λ q. absurd (omega (arith, (within h 39 q).1)), λ l. absurd (omega arith))))

-- ---- the reading of all items
bad_walk : (n : ℕ) (o : Out) → OutHas Row o → o ≡ bad n → Row n
bad_walk n o h e = subst (OutHas Row) e h

pub tags_numbers : (s : List ℕ) → ((n : ℕ) → items_of s ≡ bad n → Between 30 39 n) × ((items_of s ≡ bad 39) ↔ (longest < length s))
unfolding items_of
tags_numbers s =
    thirty_nine bad (λ n e. cc) s (items_of s)
    (λ h. rw (lt-ltb _ _ h))
    (λ h n q. bad_walk n (walk most_items s 0 []) (walk_has Row rows most_items s 0 []) (rw (le-ltb _ _ h) at q))

pub bad_row : (s : List ℕ) (n : ℕ) → items_of s ≡ bad n → Between 30 39 n
bad_row s = (tags_numbers s).0

-- ---- one item, and the reader value
abbrev StepRow : Step → Type 0
StepRow (Step.Item k n v p l next) = Unit {0}
StepRow (Step.Group n p next) = Unit {0}
StepRow Step.End = Unit {0}
StepRow (Step.Refused x) = Row x

judged_row : (t : Tag) → TagHas Row t → (o : Out) → OutHas Row o → StepRow (judged t (end_of o))
unfolding judged shown end_of
judged_row (Item k n v p l) h (good rs end) w = tt
judged_row (Opening n p) h (good rs end) w = tt
judged_row (Closing n p) h (good rs end) w = (omega arith, omega arith)
judged_row (Tag.Refused x) h (good rs end) w = h
judged_row t h (bad x) w = w

at_row : (s : List ℕ) (at : ℕ) → length s ≤ longest → StepRow (step_of s at)
unfolding step_of
at_row s at h =
    rw (le-ltb _ _ h) (pick_case StepRow (leb (length s) at) tt (judged_row (head_at s at) (head_has Row rows s at) (item_at s at) (item_has Row rows s at)))

pub item_numbers : ItemNumbers
unfolding end_of
item_numbers s at =
    let one = thirty_nine OneItem.Refused (λ n e. cc) s (end_of (one_at s at))
    (λ h. rw (one_over s at h))
    (λ h n q. item_refused n (item_at s at) (item_has Row rows s at) (rw (one_within s at h) at q)) in
    let step = thirty_nine Step.Refused (λ n e. cc) s (step_of s at) (step_over s at) (λ h n q. subst StepRow q (at_row s at h)) in
    (one.0, one.1, step.0, step.1)

-- ---- headers
pub network_numbers : NetworkNumbers
network_numbers s = by (Network.outcome s).either
  where
    by : ((read_npdu s).refused ≡ 0) ⊎ Network.Refusal (read_npdu s) → ((read_npdu s).refused ≡ 0) ⊎ (Between 10 14 (read_npdu s).refused × (read_npdu s ≡ refused_by (read_npdu s).refused))
    by (inl e) = inl e
    by (inr r) = inr (r.number, r.blank)

pub header_numbers : HeaderNumbers
header_numbers edition s n e = Header.refusal_range edition s n e

-- ---- the fields of a header to be written
abbrev Twelve : ℕ → Type 0
Twelve n = (n ≡ 0) ⊎ Between 12 14 n

part_numbers : (here : Bool) (net len low top : ℕ) → Twelve (part_fault here net len low top)
unfolding part_fault part_rules
part_numbers here net len low top =
    let r14 : Twelve 14 = inr (omega arith, omega arith) in
    let r13 : Twelve 13 = inr (omega arith, omega arith) in
    given_cases Twelve here _ _ (λ _. pick_case Twelve (eqb net 0) r14 (pick_case Twelve (ltb top net) r14 (pick_case Twelve (ltb len low) r13 (pick_case Twelve (ltb 7 len) r13 (inl refl))))) (λ _. inl refl)

pub network_writer_numbers : NetworkWriterNumbers
unfolding fault_of sooner
network_writer_numbers h =
    pick_case Twelve (ltb 3 h.priority) (inr (omega arith, omega arith))
    (pick_case Twelve (eqb (part_fault h.dest h.dnet h.dlen 0 65535) 0) (part_numbers h.source h.snet h.slen 1 65534) (part_numbers h.dest h.dnet h.dlen 0 65535))

pub header_writer_numbers : HeaderWriterNumbers
header_writer_numbers = fault_range
