-- What document 01 says of rebuilding, one law for each sentence.
use mathlib.Core.Path.{◌≡◌, refl, sym, ap, ◌∙◌}
use mathlib.Core.Bool.{true, false}
use mathlib.Core.Option.{Option, none, some}
use mathlib.Core.Logic.{◌⊎◌, inl, inr}
use Prim.Native.Nat.{ℕ, ◌+◌, ◌*◌, ◌<◌, ◌≤◌}
use native.Mathlib.Omega.{arith}
use lib.Dec.{eqb, ltb}
use lib.ListN.{length, set, take, drop}
use lib.Seq.{get_or-set_same}
use borrow.Author.Tests.{eqb-true, eqb-false, eq-eqb, ne_eqb, le-ltb, ltb-true, ltb-false}
use Rattle.octets.specs.Choice.{by_test, pick_case, impossible}
use Rattle.octets.specs.Splice.{splice, splice_before, splice_behind}
use Rattle.messages.specs.Slots.{room, part, Keys, KeyLaws, Segment, Slot, Box, boxed, lowest, empty, slot_at, is_free, slot_of}
use Rattle.messages.specs.Rows.{Answer, Done, kept, awaiting, settle, settled, fitted, rows, rebuild}
use Rattle.messages.specs.Rows.Answer.{refused, taken, completed}
use Rattle.messages.specs.Sound.{Good}
use Rattle.messages.specs.History.{touches}
use Rattle.messages.proofs.Step.{Step, stepped, fits, elsewhere}
use Rattle.messages.proofs.Step.Step.{stays, frees, took}
use Rattle.messages.proofs.Rows.{rebuild_open, rebuild_new, new_start, open_restart, open_52, open_53, open_on, fitted_on}
use Rattle.messages.proofs.Starts.{starts_other, starts_open, starts_next, starts_new, next_other}
use Rattle.messages.proofs.Alone.{find_set}

module _ {Key : Type 0} (K : Keys Key) (g : Segment Key) (b : Box Key) where
  -- a segment of a key that is open in slot i, with the record t
  module _ (i : ℕ) (e : slot_of K g.key b.slots ≡ some i) (t : Slot Key) (is : slot_at K b.slots i ≡ t) where
    by_record : rebuild K g b ≡ rows K g (some i) t b
    by_record = rebuild_open K g b i e ∙ ap (λ (x : Slot Key). rows K g (some i) x b) is

    -- 52: a repeated or late segment changes nothing
    pub repeated : (g.number ≡ 0 → ⊥) → (g.number ≡ t.next → ⊥) → rebuild K g b ≡ kept 52 b
    repeated z n = by_record ∙ open_52 K g b i t (starts_other g.number true t.next (ne_eqb g.number 0 z)) (ne_eqb g.number t.next n)

    -- number 0 restarts the key in its slot, but where 0 is the next number: whatever its choice, and whether or not another slot is free
    pub restart : g.number ≡ 0 → (t.next ≡ 0 → ⊥) → rebuild K g b ≡ fitted K g (some i) 0 b
    restart z n = by_record ∙ open_restart K g b i t (starts_open g.number t.next (ne_eqb t.next 0 n) ∙ eq-eqb g.number 0 z)

    -- the next number goes on, "Number 0 continues an open key whose next number is 0": with the slot's choice behind what it holds, with another it is 53
    pub continue : g.number ≡ t.next → g.choice ≡ t.choice → rebuild K g b ≡ fitted K g (some i) t.held b
    continue n c = by_record ∙ open_on K g b i t (starts_next g.number t.next n) (eq-eqb g.number t.next n) (eq-eqb g.choice t.choice c)

    pub other_choice_lem : g.number ≡ t.next → (g.choice ≡ t.choice → ⊥) → rebuild K g b ≡ kept 53 b
    other_choice_lem n c = by_record ∙ open_53 K g b i t (starts_next g.number t.next n) (eq-eqb g.number t.next n) (ne_eqb g.choice t.choice c)

  -- "otherwise the search stops at the lowest free slot"
  pub start : (i : ℕ) → slot_of K g.key b.slots ≡ none → lowest (is_free K) b.slots ≡ some i → g.number ≡ 0 → 0 + length g.octets ≤ room → rebuild K g b ≡ settle K g i 0 b
  start i e s z f =
      rebuild_new K g b e
      ∙ new_start K g b (starts_new g.number 0 ∙ eq-eqb g.number 0 z)
      ∙ fitted_on K g b none 0 (le-ltb room (0 + length g.octets) f)
      ∙ ap (λ (o : Option ℕ). settled K g o 0 b) s

module _ {Key : Type 0} (K : Keys Key) (L : KeyLaws K) (g : Segment Key) (b : Box Key) (G : Good K b) where
  -- ---- a refusal lays nothing, and leaves the slots as they were unless it is 54
  abbrev Refusal : ℕ → Done Key → Type 0
  Refusal m d = d.answer ≡ refused m → (d.box.area ≡ b.area) × ((m ≡ 54 → ⊥) → d.box ≡ b)

  refusal_by : (d : Done Key) → Step K g b d → (m : ℕ) → Refusal m d
  refusal_by d (stays k) m = λ e. (refl, λ x. refl)
  refusal_by d (frees i l q) m = λ e. let s : m ≡ 54 = cc in (refl, λ x. absurd (x s))
  refusal_by d (took i n P) m = pick_case (Refusal m) g.mor (λ e. impossible (cc)) (λ e. impossible (cc))

  pub refusal : (m : ℕ) → (rebuild K g b).answer ≡ refused m → ((rebuild K g b).box.area ≡ b.area) × ((m ≡ 54 → ⊥) → (rebuild K g b).box ≡ b)
  refusal m = refusal_by (rebuild K g b) (stepped K L g b G) m

  -- ---- an answer names one of the slots, and no more octets than a slot has
  abbrev Within : Answer → Type 0
  Within (refused m) = Unit {0}
  Within (taken i n) = (i < length b.slots) × (n ≤ room)
  Within (completed i n) = (i < length b.slots) × (n ≤ room)

  within_by : (d : Done Key) → Step K g b d → Within d.answer
  within_by d (stays m) = tt
  within_by d (frees i l q) = tt
  within_by d (took i n P) = pick_case (λ (d : Done Key). Within d.answer) g.mor (P.inside, P.fits) (P.inside, P.fits)

  pub within_taken : (i n : ℕ) → (rebuild K g b).answer ≡ taken i n → (i < length b.slots) × (n ≤ room)
  within_taken i n e = rw e at (within_by (rebuild K g b) (stepped K L g b G))

  pub within_completed : (i n : ℕ) → (rebuild K g b).answer ≡ completed i n → (i < length b.slots) × (n ≤ room)
  within_completed i n e = rw e at (within_by (rebuild K g b) (stepped K L g b G))

  -- ---- a slot's segments never change octets outside its 16,384
  abbrev Outside : ℕ → Done Key → Type 0
  Outside i d = touches d.answer i ≡ true → (take (room * i) d.box.area ≡ take (room * i) b.area) × (drop (room * i + room) d.box.area ≡ drop (room * i + room) b.area)

  outside_by : (i : ℕ) (d : Done Key) → Step K g b d → Outside i d
  outside_by i d (stays m) = λ e. (refl, refl)
  outside_by i d (frees j l q) = λ e. (refl, refl)
  outside_by i d (took j n P) = pick_case (Outside i) g.mor away away
    where
      away : eqb j i ≡ true → (let a = splice b.area (room * j + n) g.octets in (take (room * i) a ≡ take (room * i) b.area) × (drop (room * i + room) a ≡ drop (room * i + room) b.area))
      away e =
          let s : j ≡ i = eqb-true j i e in
          let f = fits K g b G j n P in
          let w = P.fits in
          (splice_before b.area (room * j + n) g.octets (room * i) (omega arith) (omega arith), splice_behind b.area (room * j + n) g.octets (room * i + room) (omega arith) (omega arith))

  pub outside : (i : ℕ) → touches (rebuild K g b).answer i ≡ true
      → (let a = (rebuild K g b).box.area in (take (room * i) a ≡ take (room * i) b.area) × (drop (room * i + room) a ≡ drop (room * i + room) b.area))
  outside i = outside_by i (rebuild K g b) (stepped K L g b G)

  -- other slots' octets stay
  abbrev Stays : ℕ → Done Key → Type 0
  Stays j d = touches d.answer j ≡ false → part (room * j) room d.box.area ≡ part (room * j) room b.area

  stays_by : (j : ℕ) → j < length b.slots → (d : Done Key) → Step K g b d → Stays j d
  stays_by j l d (stays m) = λ e. refl
  stays_by j l d (frees i h q) = λ e. refl
  stays_by j l d (took i n P) =
      let stay : eqb i j ≡ false → part (room * j) room (splice b.area (room * i + n) g.octets) ≡ part (room * j) room b.area =
      λ e. let ne : i ≡ j → ⊥ = eqb-false i j e in elsewhere K g b G i n j P l (λ q. ne (sym q)) room (omega arith) in
      pick_case (Stays j) g.mor stay stay

  pub others : (j : ℕ) → j < length b.slots → touches (rebuild K g b).answer j ≡ false → part (room * j) room (rebuild K g b).box.area ≡ part (room * j) room b.area
  others j l = stays_by j l (rebuild K g b) (stepped K L g b G)

  -- ---- a segment that was taken and comes again is late: 52, and nothing changes
  abbrev Again : ℕ → ℕ → Done Key → Type 0
  Again i n d = d.answer ≡ taken i n → (g.number ≡ 0 → ⊥) → rebuild K g d.box ≡ kept 52 d.box

  again_by : (i n : ℕ) (d : Done Key) → Step K g b d → Again i n d
  again_by i n d (stays m) = λ e. impossible (cc)
  again_by i n d (frees j l q) = λ e. impossible (cc)
  again_by i n d (took j m P) =
      pick_case (Again i n) g.mor
      (λ e z.
      let t : Slot Key = awaiting K g (m + length g.octets) in
      let b' : Box Key = boxed (set b.slots j t) (splice b.area (room * j + m) g.octets) in
      repeated K g b' j (find_set K L b.slots j g.key P.inside P.sole t (L.self g.key)) t (get_or-set_same b.slots j t (empty K) P.inside) z (next_other g.number))
      (λ e. impossible (cc))

  pub again : (i n : ℕ) → (rebuild K g b).answer ≡ taken i n → (g.number ≡ 0 → ⊥) → rebuild K g (rebuild K g b).box ≡ kept 52 (rebuild K g b).box
  again i n = again_by i n (rebuild K g b) (stepped K L g b G)

-- two keys never share octets of the area: what two open slots hold lies apart
pub disjoint : {Key : Type 0} (K : Keys Key) (b : Box Key) → Good K b → (i j : ℕ) → i < length b.slots → j < length b.slots → ((slot_at K b.slots i).key ≡ (slot_at K b.slots j).key → ⊥)
    → (room * i + (slot_at K b.slots i).held ≤ room * j) ⊎ (room * j + (slot_at K b.slots j).held ≤ room * i)
disjoint K b G i j li lj ne =
    let hi = G.holds i li in
    let hj = G.holds j lj in
    by_test (ltb i j)
    (λ t. let l : i < j = ltb-true i j t in inl (omega arith))
    (λ t.
    by_test (eqb i j)
    (λ e. let s : i ≡ j = eqb-true i j e in absurd (ne (ap (λ (n : ℕ). (slot_at K b.slots n).key) s)))
    (λ e. let d : i ≡ j → ⊥ = eqb-false i j e in let l : j ≤ i = ltb-false i j t in let m : j < i = omega arith in inr (omega arith)))
