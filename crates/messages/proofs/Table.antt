-- A segment is answered exactly as the table's words say, where no two open slots have one key.
use mathlib.Core.Path.{◌≡◌, refl, sym, ap, ap₂, subst, ◌∙◌}
use mathlib.Core.Bool.{true, false}
use mathlib.Core.Option.{Option, none, some}
use mathlib.Core.Logic.{◌↔◌, inl, inr}
use Prim.Native.Nat.{ℕ, ◌+◌, ◌<◌}
use native.Mathlib.Omega.{arith}
use lib.Dec.{eqb, ltb}
use lib.ListN.{length}
use borrow.Author.Tests.{eqb-true, eqb-false, eq-eqb, ltb-true, ltb-false}
use Rattle.octets.specs.Choice.{by_test, pick_cases, non_true, not_so, impossible}
use Rattle.messages.specs.Slots.{room, Keys, KeyLaws, Segment, Box, lowest, or_else, empty, slot_at, is_free, slot_of}
use Rattle.messages.specs.Rows.{Answer, Done, starts, starts_in, kept, lost, record_at, settled, fitted, rows, rebuild}
use Rattle.messages.specs.Rows.Answer.{refused, taken, completed}
use Rattle.messages.specs.Sound.{Apart}
use Rattle.messages.specs.Table.{Table, First, NoRow, OpenAt, Open, NotZero, Starts, InFront, Total, Words51, Words52, Words53, Words54, Words50, table, LowestFree, Goes, Answers}
use Rattle.messages.specs.Table.Table.{end, row}
use Rattle.messages.specs.Table.Answers.{refuses, takes, completes}
use Rattle.messages.proofs.Tests.{non_false}
use Rattle.messages.proofs.Starts.{starts_zero, starts_new, restarts_other, goes_on_awaited}
use Rattle.messages.proofs.Lowest.{lowest_some, lowest_none, lowest_least}
use Rattle.messages.proofs.Keyed.{slot_some, slot_none}
use Rattle.messages.proofs.Rows.{new_51, new_start, open_restart, open_52, open_53, open_on}

-- ---- a table gives one number or none
pub first_one : (t : Table) (m n : ℕ) → First t m → First t n → m ≡ n
first_one end m n f h = absurd f
first_one (row k P t) m n (inl x) (inl y) = x.1 ∙ sym y.1
first_one (row k P t) m n (inl x) (inr y) = absurd (y.0 x.0)
first_one (row k P t) m n (inr x) (inl y) = absurd (x.0 y.0)
first_one (row k P t) m n (inr x) (inr y) = first_one t m n x.1 y.1

pub first_none : (t : Table) (n : ℕ) → First t n → NoRow t → ⊥
first_none end n f h = f
first_none (row k P t) n (inl x) h = h.0 x.0
first_none (row k P t) n (inr x) h = first_none t n x.1 h.1

module _ {Key : Type 0} (K : Keys Key) (L : KeyLaws K) (g : Segment Key) (b : Box Key) (apart : Apart K b.slots) where
  -- ---- one slot, one total
  open_one : (i j : ℕ) → OpenAt K g b i → OpenAt K g b j → i ≡ j
  open_one i j x y = apart i j x.slot y.slot x.used y.used (x.mine ∙ sym y.mine)

  free_one : (i j : ℕ) → LowestFree K g b i → LowestFree K g b j → i ≡ j
  free_one i j x y =
      by_test (ltb i j)
      (λ t. not_so (sym x.free ∙ y.below i (ltb-true i j t)))
      (λ t.
      by_test (ltb j i)
      (λ u. not_so (sym y.free ∙ x.below j (ltb-true j i u)))
      (λ u. omega (arith, ltb-false i j t, ltb-false j i u)))

  goes_one : (i j : ℕ) → Goes K g b i → Goes K g b j → i ≡ j
  goes_one i j (inl x) (inl y) = open_one i j x y
  goes_one i j (inl x) (inr y) = absurd (y.0 (i, x))
  goes_one i j (inr x) (inl y) = absurd (x.0 (j, y))
  goes_one i j (inr x) (inr y) = free_one i j x.1 y.1

  front_one : (m n : ℕ) → InFront K g b m → InFront K g b n → m ≡ n
  front_one m n (inl x) (inl y) = x.1 ∙ sym y.1
  front_one m n (inl x) (inr y) = absurd (y.0 x.0)
  front_one m n (inr x) (inl y) = absurd (x.0 y.0)
  front_one m n (inr x) (inr y) =
      let p = x.1 in
      let q = y.1 in
      p.2 ∙ ap (λ (i : ℕ). (slot_at K b.slots i).held) (open_one p.0 q.0 p.1 q.1) ∙ sym q.2

  total_one : (m n : ℕ) → Total K g b m → Total K g b n → m ≡ n
  total_one m n x y = x.2 ∙ ap (λ (k : ℕ). k + length g.octets) (front_one x.0 y.0 x.1 y.1) ∙ sym y.2

  one : (w v : Answer) → Answers K g b w → Answers K g b v → w ≡ v
  one w v (refuses m f) (refuses n h) = ap refused (first_one (table K g b) m n f h)
  one w v (refuses m f) (takes i n z q s t) = absurd (first_none (table K g b) m f z)
  one w v (refuses m f) (completes i n z q s t) = absurd (first_none (table K g b) m f z)
  one w v (takes i n z q s t) (refuses m f) = absurd (first_none (table K g b) m f z)
  one w v (takes i n z q s t) (takes j m z' q' s' t') = ap₂ taken (goes_one i j s s') (total_one n m t t')
  one w v (takes i n z q s t) (completes j m z' q' s' t') = not_so (sym q' ∙ q)
  one w v (completes i n z q s t) (refuses m f) = absurd (first_none (table K g b) m f z)
  one w v (completes i n z q s t) (takes j m z' q' s' t') = not_so (sym q ∙ q')
  one w v (completes i n z q s t) (completes j m z' q' s' t') = ap₂ completed (goes_one i j s s') (total_one n m t t')

  -- ---- the rows, in their order
  abbrev Told : Done Key → Type 0
  Told d = Answers K g b d.answer

  keeps : (m : ℕ) → First (table K g b) m → Told (kept m b)
  keeps m f = refuses m f

  loses : (m : ℕ) (o : Option ℕ) → First (table K g b) m → Told (lost K m o b)
  loses m o f = refuses m f

  -- where a segment goes: to a slot, or nowhere by 50's words
  abbrev Lands : Option ℕ → Type 0
  Lands none = Words50 K g b
  Lands (some i) = Goes K g b i × (Words50 K g b → ⊥)

  module _ (no1 : Words51 K g b → ⊥) (no2 : Words52 K g b → ⊥) (no3 : Words53 K g b → ⊥) (n : ℕ) (front : InFront K g b n) where
    total : Total K g b (n + length g.octets)
    total = (n, front, refl)

    laid : (Words54 K g b → ⊥) → (x : Option ℕ) → Lands x → Told (settled K g x n b)
    laid no4 none w = keeps 50 (inr (no1, inr (no2, inr (no3, inr (no4, inl (w, refl))))))
    laid no4 (some i) w =
        let z : NoRow (table K g b) = (no1, (no2, (no3, (no4, (w.1, tt))))) in
        pick_cases Told g.mor (λ q. takes i (n + length g.octets) z q w.0 total) (λ q. completes i (n + length g.octets) z q w.0 total)

    fit : (o : Option ℕ) → Lands (or_else o (lowest (is_free K) b.slots)) → Told (fitted K g o n b)
    fit o w =
        pick_cases Told (ltb room (n + length g.octets))
        (λ r. loses 54 o (inr (no1, inr (no2, inr (no3, inl ((n + length g.octets, total, ltb-true _ _ r), refl))))))
        (λ r.
        let no4 : Words54 K g b → ⊥ = λ w4. omega (arith, total_one w4.0 (n + length g.octets) w4.1 total, w4.2, ltb-false room (n + length g.octets) r) in
        laid no4 (or_else o (lowest (is_free K) b.slots)) w)

  -- ---- by the slot of the key
  is_open : (i : ℕ) → slot_of K g.key b.slots ≡ some i → OpenAt K g b i
  is_open i e =
      let at = slot_some K L g.key b.slots i e in
      record { slot = at.0; used = at.1; mine = at.2 }

  not_open_lem : slot_of K g.key b.slots ≡ none → Open K g b → ⊥
  not_open_lem e x =
      slot_none K L g.key b.slots e x.0 x.1.slot x.1.used x.1.mine

  -- number 0 of a key that is not open
  lands_new : g.number ≡ 0 → (Open K g b → ⊥) → (x : Option ℕ) → lowest (is_free K) b.slots ≡ x → Lands x
  lands_new z shut none e = (z, shut, λ i l. non_false (slot_at K b.slots i).used (lowest_none (is_free K) (empty K) b.slots i e l))
  lands_new z shut (some i) e =
      let at = lowest_some (is_free K) (empty K) b.slots i e in
      let free : (slot_at K b.slots i).used ≡ false = non_true _ at.1 in
      (inr (shut, record { slot = at.0; free = free; below = λ j l. non_false (slot_at K b.slots j).used (lowest_least (is_free K) (empty K) b.slots i e j l) }), λ w. not_so (sym free ∙ w.2 i at.0))

  -- ---- whether it starts is what the words say
  next_of : (i j : ℕ) → OpenAt K g b i → OpenAt K g b j → (slot_at K b.slots i).next ≡ (slot_at K b.slots j).next
  next_of i j x y = ap (λ (k : ℕ). (slot_at K b.slots k).next) (open_one i j x y)

  anew_so : (o : Option ℕ) → slot_of K g.key b.slots ≡ o → starts K g o (record_at K b.slots o) ≡ true → Starts K g b
  anew_so none e s = (starts_zero g.number false 0 s, λ w. not_open_lem e (w.0, w.1))
  anew_so (some i) e s =
      let t = slot_at K b.slots i in
      (starts_zero g.number true t.next s, λ w. restarts_other g.number t.next s (next_of i w.0 (is_open i e) w.1 ∙ w.2))

  anew_not : (o : Option ℕ) → slot_of K g.key b.slots ≡ o → starts K g o (record_at K b.slots o) ≡ false → Starts K g b → ⊥
  anew_not none e s w = not_so (sym s ∙ starts_new g.number 0 ∙ eq-eqb g.number 0 w.0)
  anew_not (some i) e s w = w.1 (i, is_open i e, goes_on_awaited g.number (slot_at K b.slots i).next s w.0)

  pub starts_exactly : (starts_in K g b ≡ true) ↔ Starts K g b
  starts_exactly =
      let o = slot_of K g.key b.slots in
      (anew_so o refl, λ w. by_test (starts_in K g b) (λ t. t) (λ t. absurd (anew_not o refl t w)))

  -- ---- the answer, by the slot of the key
  by_slot : (o : Option ℕ) → slot_of K g.key b.slots ≡ o → Told (rows K g o (record_at K b.slots o) b)
  by_slot none e =
      let shut = not_open_lem e in
      by_test (starts K g none (empty K))
      (λ s.
      let yes = anew_so none e s in
      rw (new_start K g b s)
      (fit (λ w. w.0 yes.0) (λ w. shut (w.0, w.1)) (λ w. shut (w.0, w.1)) 0 (inl (yes, refl)) none (lands_new yes.0 shut (lowest (is_free K) b.slots) refl)))
      (λ s. rw (new_51 K g b s) (keeps 51 (inl ((λ z. anew_not none e s (z, λ w. shut (w.0, w.1)), shut), refl))))
  by_slot (some i) e =
      let t = slot_at K b.slots i in
      let is = is_open i e in
      let no1 : Words51 K g b → ⊥ = λ w. w.1 (i, is) in
      let lands : Lands (some i) = (inl is, λ w. w.1 (i, is)) in
      by_test (starts K g (some i) t)
      (λ s.
      let yes = anew_so (some i) e s in
      rw (open_restart K g b i t s) (fit no1 (λ w. w.2 yes.0) (λ w. w.2 yes) 0 (inl (yes, refl)) (some i) lands))
      (λ s.
      let no = anew_not (some i) e s in
      by_test (eqb g.number t.next)
      (λ n.
      let no2 : Words52 K g b → ⊥ = λ w. w.3 (eqb-true g.number t.next n ∙ next_of i w.0 is w.1) in
      by_test (eqb g.choice t.choice)
      (λ c.
      let no3 : Words53 K g b → ⊥ = λ w. w.3 (eqb-true g.choice t.choice c ∙ ap (λ (k : ℕ). (slot_at K b.slots k).choice) (open_one i w.0 is w.1)) in
      rw (open_on K g b i t s n c) (fit no1 no2 no3 t.held (inr (no, (i, is, refl))) (some i) lands))
      (λ c. rw (open_53 K g b i t s n c) (keeps 53 (inr (no1, inr (no2, inl ((i, is, no, eqb-false g.choice t.choice c), refl)))))))
      (λ n.
      let other : g.number ≡ t.next → ⊥ = eqb-false g.number t.next n in
      let nz : NotZero K g b = λ z. other (z ∙ sym (goes_on_awaited g.number t.next s z)) in
      rw (open_52 K g b i t s n) (keeps 52 (inr (no1, inl ((i, is, nz, other), refl))))))

  answered : Told (rebuild K g b)
  unfolding rebuild
  answered = by_slot (slot_of K g.key b.slots) refl

  -- each of 51, 52, 53, 54, 50 exactly when its words hold and no row before it does; taken or complete exactly when none does, by MOR
  pub by_the_table : (w : Answer) → ((rebuild K g b).answer ≡ w) ↔ Answers K g b w
  by_the_table w = (λ e. subst (Answers K g b) e answered, λ h. one (rebuild K g b).answer w answered h)

  -- ---- the slot that a segment goes to is there; if it is open it has the segment's key, and no other slot is open to that
  pub goes_inside : (i : ℕ) → Goes K g b i → i < length b.slots
  goes_inside i (inl x) = x.slot
  goes_inside i (inr x) = x.1.slot

  pub goes_own : (i : ℕ) → Goes K g b i → (slot_at K b.slots i).used ≡ true → (slot_at K b.slots i).key ≡ g.key
  goes_own i (inl x) u = x.mine
  goes_own i (inr x) u = not_so (sym x.1.free ∙ u)

  pub goes_sole : (i : ℕ) → Goes K g b i → (j : ℕ) → j < length b.slots → (slot_at K b.slots j).used ≡ true → (slot_at K b.slots j).key ≡ g.key → j ≡ i
  goes_sole i (inl x) j l u k = apart j i l x.slot u x.used (k ∙ sym x.mine)
  goes_sole i (inr x) j l u k = absurd (x.0 (j, record { slot = l; used = u; mine = k }))

  -- a segment that was taken has MOR; one that completed has none, and went to the slot that the words say
  mor_more : (w : Answer) → Answers K g b w → (i n : ℕ) → w ≡ taken i n → g.mor ≡ true
  mor_more w (refuses m f) i n e = impossible (cc)
  mor_more w (takes j m z q s t) i n e = q
  mor_more w (completes j m z q s t) i n e = impossible (cc)

  mor_last : (w : Answer) → Answers K g b w → (i n : ℕ) → w ≡ completed i n → (g.mor ≡ false) × Goes K g b i
  mor_last w (refuses m f) i n e = impossible (cc)
  mor_last w (takes j m z q s t) i n e = impossible (cc)
  mor_last w (completes j m z q s t) i n e = let same : j ≡ i = cc in (q, subst (Goes K g b) same s)

  pub mor_taken : (i n : ℕ) → (rebuild K g b).answer ≡ taken i n → g.mor ≡ true
  mor_taken i n e = mor_more (rebuild K g b).answer answered i n e

  pub mor_completed : (i n : ℕ) → (rebuild K g b).answer ≡ completed i n → (g.mor ≡ false) × Goes K g b i
  mor_completed i n e = mor_last (rebuild K g b).answer answered i n e
