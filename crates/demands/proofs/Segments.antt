-- What a segment changes, by its answer.
use Prim.Native.Nat.{ℕ, ◌+◌, ◌*◌, ◌≤◌, ◌<◌}
use native.Mathlib.Omega.{arith}
use mathlib.Core.Path.{◌≡◌, refl, sym, ap, ◌∙◌}
use mathlib.Core.Logic.{◌⊎◌, inl, inr}
use mathlib.Core.Bool.{true, false}
use mathlib.Core.List.{List}
use mathlib.Core.Option.{Option, none, some}
use lib.Dec.{eqb, ltb}
use lib.ListN.{length, set}
use borrow.Author.Tests.{ltb-false, eqb-true, eqb-false}
use Rattle.octets.specs.Choice.{both, non, pick_case, pick_cases, by_test, pick_false, pick_true, impossible}
use Rattle.octets.specs.Splice.{splice}
use Rattle.messages.specs.Slots.{room, Segment, Slot, Box, boxed, lowest, or_else, is_some, empty, slot_at, open_to, is_free, slot_of}
use Rattle.messages.specs.Rows.{Answer, Done, starts_at, awaiting, starts, kept, lost, free_at, record_at, settle, settled, fitted, before, rows, rebuild}
use Rattle.messages.specs.Rows.Answer.{refused, taken, completed}
use Rattle.messages.proofs.Lowest.{lowest_some}
use Rattle.messages.proofs.Starts.{starts_new, next_is}
use Rattle.messages.proofs.Tests.{never}
use Rattle.rebuild.specs.View.{keys, view, segment_of}
use Rattle.rebuild.specs.Calls as Rebuild
use Rattle.rebuild.specs.declared.Key.{Key}
use Rattle.rebuild.specs.Calls.Step.{Refused}
use Rattle.rebuild.proofs.Seen.{view_one}
use Rattle.rebuild.proofs.Giving.{gives_by, taking_60, taking_on}
use Rattle.demands.specs.Words.{Between, in_front, waits, SegmentLaid, SegmentChanges}
use Rattle.demands.specs.Demands.{SegmentDoes, TakeDoes, FreeDoes}

-- the numbers of a refused segment
pub refusal_row : {n : ℕ} {A B : Type 0} → (Between 50 53 n × A) ⊎ ((n ≡ 54) × B) → Between 50 54 n
refusal_row (inl x) = (x.0.0, omega (arith, x.0.1))
refusal_row (inr x) = (omega (arith, x.0), omega (arith, x.0))

-- the record that is awaited, in the page's words
pub waits_is : (g : Segment Key) (n : ℕ) → awaiting keys g n ≡ waits g n
waits_is g n = rw (next_is g.number)

module _ (g : Segment Key) (b : Box Key) where
  abbrev Does : Done Key → Type 0
  Does d = SegmentChanges g b d.answer d.box.slots d.box.area

  keeps : (n : ℕ) → Between 50 53 n → Does (kept n b)
  keeps n h = (refl, inl (h, refl))

  loses : (n : ℕ) (o : Option ℕ) → slot_of keys g.key b.slots ≡ o → n ≡ 54 → Does (lost keys n o b)
  loses n o e h = (refl, inr (h, ap (λ (x : Option ℕ). free_at keys x b.slots) (sym e)))

  settles : (i n : ℕ) → i < length b.slots → n ≡ in_front g b i → n + length g.octets ≤ room → Does (settle keys g i n b)
  settles i n l e f = rw (e, waits_is g (in_front g b i + length g.octets)) (pick_case Does g.mor laid laid)
    where
      laid : {t : Slot Key} → SegmentLaid g b i (in_front g b i + length g.octets) t (set b.slots i t) (splice b.area (room * i + in_front g b i) g.octets)
      laid = record { slot = l; total = refl; fits = rw e at f; laid = refl; records = refl }

  -- the slot that a segment goes to: its key's, or the lowest free one where the key is not open
  abbrev Goes : Option ℕ → ℕ → Type 0
  Goes x n = (i : ℕ) → x ≡ some i → (i < length b.slots) × (n ≡ in_front g b i)

  goes : (o : Option ℕ) → slot_of keys g.key b.slots ≡ o → both (non (starts keys g o (record_at keys b.slots o))) (non (is_some o)) ≡ false
      → Goes (or_else o (lowest (is_free keys) b.slots)) (before keys g o (record_at keys b.slots o))
  goes none e z i q =
      let next = (slot_at keys b.slots i).next in
      let anew : starts_at g.number false 0 ≡ true = by_test (starts_at g.number false 0) (λ t. t) (λ t. never (sym (rw t at z))) in
      let here : starts_at g.number false next ≡ true = starts_new g.number next ∙ sym (starts_new g.number 0) ∙ anew in
      ((lowest_some (is_free keys) (empty keys) b.slots i q).0, rw anew (sym (rw (e, here))))
  goes (some j) e z i q =
      let s : j ≡ i = cc in
      ((lowest_some (open_to keys g.key) (empty keys) b.slots i (e ∙ q)).0, sym (ap (λ (o : Option ℕ). before keys g o (slot_at keys b.slots j)) e) ∙ ap (in_front g b) s)

  finds : (x : Option ℕ) (n : ℕ) → Goes x n → n + length g.octets ≤ room → Does (settled keys g x n b)
  finds none n h f = keeps 50 (omega arith, omega arith)
  finds (some i) n h f = settles i n (h i refl).0 (h i refl).1 f

  fits : (o : Option ℕ) → slot_of keys g.key b.slots ≡ o → (n : ℕ) → Goes (or_else o (lowest (is_free keys) b.slots)) n → Does (fitted keys g o n b)
  fits o e n h =
      pick_cases Does (ltb room (n + length g.octets)) (λ _. loses 54 o e refl) (λ f.
      finds (or_else o (lowest (is_free keys) b.slots)) n h (ltb-false room (n + length g.octets) f))

  by_rows : (o : Option ℕ) → slot_of keys g.key b.slots ≡ o → Does (rows keys g o (record_at keys b.slots o) b)
  by_rows o e =
      let t = record_at keys b.slots o in
      let anew = starts keys g o t in
      let later = both (is_some o) (non anew) in
      pick_cases Does (both (non anew) (non (is_some o))) (λ _. keeps 51 (omega arith, omega arith)) (λ z.
      pick_case Does (both later (non (eqb g.number t.next))) (keeps 52 (omega arith, omega arith))
      (pick_case Does (both later (non (eqb g.choice t.choice))) (keeps 53 (omega arith, omega arith)) (fits o e (before keys g o t) (goes o e z))))

pub segment_does : SegmentDoes
unfolding rebuild
segment_does g b = by_rows g b (slot_of keys g.key b.slots) refl

-- ---- rebuild::take: its own refusals are 50 to 54, so 60 is the area's alone
not_sixty : (g : Segment Key) (b : Box Key) (w : Answer) (slots : List (Slot Key)) (area : List ℕ) → SegmentChanges g b w slots area → Rebuild.step_of w ≡ Refused 60 → ⊥
not_sixty g b (refused n) slots area h e = let z : n ≡ 60 = cc in by h.1 z
  where
    by : (Between 50 53 n × (slots ≡ b.slots)) ⊎ ((n ≡ 54) × (slots ≡ free_at keys (slot_of keys g.key b.slots) b.slots)) → n ≡ 60 → ⊥
    by (inl x) z = omega (arith, x.0.1)
    by (inr x) z = omega (arith, x.0)
not_sixty g b (taken i n) slots area h e = impossible (cc)
not_sixty g b (completed i n) slots area h e = impossible (cc)

pub take_does : TakeDoes
take_does t g o area r later h =
    by_test (eqb (length area) 65536)
    (λ e.
    let z : length area ≡ 65536 = eqb-true _ _ e in
    let b = boxed (view t) area in
    let k = gives_by (sym (taking_on t g o area z)) h in
    let d = rebuild keys (segment_of g o) b in
    let no : r.answer ≡ Refused 60 → ⊥ = λ q. not_sixty (segment_of g o) b d.answer d.box.slots d.box.area (segment_does (segment_of g o) b) (sym k.answer ∙ q) in
    ((λ q. absurd (no q), λ n. absurd (n z)), λ q. absurd (no q), λ _. k))
    (λ e.
    let n : length area ≡ 65536 → ⊥ = eqb-false _ _ e in
    let k = gives_by (sym (taking_60 t g o area n)) h in
    ((λ _. n, λ _. k.answer), λ _. (view_one r.slots t k.slots, k.area), λ z. absurd (n z)))

pub free_does : FreeDoes
free_does t s r h = (
  λ u. (h.number ∙ pick_true _ 0 56 u, h.slots ∙ pick_true _ _ _ u),
  λ u. (h.number ∙ pick_false _ 0 56 u, view_one r.slots t (h.slots ∙ pick_false _ _ _ u)),
)
