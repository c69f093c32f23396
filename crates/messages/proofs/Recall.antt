-- What a key awaits by the history is what it awaits by its slot: so a segment starts a message by the one exactly where it does by the other.
use mathlib.Core.Path.{◌≡◌, refl, sym, ap, ap₂, subst, ◌∙◌}
use mathlib.Core.Bool.{Bool, true, false}
use mathlib.Core.List.{List, [], ◌∷◌, ◌++◌}
use mathlib.Core.Option.{Option, none, some}
use Prim.Native.Nat.{ℕ, zero}
use lib.Dec.{eqb, ltb}
use lib.ListN.{length}
use borrow.Author.Tests.{eqb-true, eq-eqb}
use Rattle.octets.specs.Choice.{pick, both, non, by_test, pick_case, pick_two, both_left, both_right, not_so}
use Rattle.messages.specs.Slots.{room, Keys, KeyLaws, Segment, Slot, Box, boxed, is_some, above, empty, slot_at, open_to, slot_of}
use Rattle.messages.specs.Rows.{Answer, starts_at, next_number, starts, starts_in, record_at, rebuild, forget}
use Rattle.messages.specs.Rows.Answer.{refused, taken, completed}
use Rattle.messages.specs.Sound.{Good}
use Rattle.messages.specs.Alone.{Open, Reply, Gone, gone, opened, next_of, choice_of, octets_of, view_at, view, crowded, reply_of, alone, is_at}
use Rattle.messages.specs.Alone.Reply.{refuses, takes, gives}
use Rattle.messages.specs.History.{Log, leaves, or_zero, awaited, starting, standing, past, after}
use Rattle.messages.specs.History.Deed.{forgetting}
use Rattle.messages.specs.History.Entry.{said, dropped, stood}
use Rattle.messages.proofs.Lowest.{lowest_some, lowest_none}
use Rattle.messages.proofs.Step.{there}
use Rattle.messages.proofs.Alone.{differs, others_view, by_itself, forget_view}

-- the number that an open message awaits
abbrev pub next_in : Option Open → Option ℕ
next_in none = none
next_in (some v) = some v.next

-- `leaves` by an answer without its slot
abbrev leaves_by : ℕ → Reply → Option ℕ → Option ℕ
leaves_by number (refuses n) was = pick (eqb n 54) none was
leaves_by number (takes n) was = some (next_number number)
leaves_by number (gives o) was = none

leaves_by_lem : (number : ℕ) (w : Answer) (a : List ℕ) (was : Option ℕ) → leaves number w was ≡ leaves_by number (reply_of w a) was
leaves_by_lem number (refused n) a was = refl
leaves_by_lem number (taken i n) a was = refl
leaves_by_lem number (completed i n) a was = refl

-- what a key awaits after a reply
record Leaves (number : ℕ) (was : Option ℕ) (x : Gone) : Type 0 where
  is : next_in x.left ≡ leaves_by number x.reply was

alone_leaves : {Key : Type 0} (g : Segment Key) (v : Option Open) (full : Bool) → Leaves g.number (next_in v) (alone g v full)
alone_leaves g v full =
    let P : Gone → Type 0 = Leaves g.number (next_in v) in
    let at : (x : Gone) → next_in x.left ≡ leaves_by g.number x.reply (next_in v) → P x = λ x e. record { is = e } in
    let anew = starts_at g.number (opened v) (next_of v) in
    let later = both (opened v) (non anew) in
    let whole = pick anew [] (octets_of v) ++ g.octets in
    pick_case P (both (non anew) (non (opened v))) (at (gone (refuses 51) v) refl)
    (pick_case P (both later (non (eqb g.number (next_of v)))) (at (gone (refuses 52) v) refl)
    (pick_case P (both later (non (eqb g.choice (choice_of v)))) (at (gone (refuses 53) v) refl)
    (pick_case P (ltb room (length whole)) (at (gone (refuses 54) none) refl)
    (pick_case P (both (non (opened v)) full) (at (gone (refuses 50) v) refl)
    (pick_case P g.mor (at (gone (takes (length whole)) (some (record { next = next_number g.number; choice = g.choice; octets = whole }))) refl) (at (gone (gives whole) none) refl))))))

module _ {Key : Type 0} (K : Keys Key) where
  -- the history and the slots agree on every key
  abbrev pub Recalls : Log Key → Box Key → Type 0
  Recalls log b = (k : Key) → awaited K k log ≡ next_in (view K k b)

  by_slot : (g : Segment Key) (b : Box Key) (o : Option ℕ)
      → starts_at g.number (is_some (next_in (view_at K b o))) (or_zero (next_in (view_at K b o))) ≡ starts K g o (record_at K b.slots o)
  by_slot g b none = refl
  by_slot g b (some i) = refl

  -- a segment starts alike by two histories that await the same
  pub starting_by : (a c : Log Key) (g : Segment Key) → awaited K g.key a ≡ awaited K g.key c → starting K g a ≡ starting K g c
  starting_by a c g e = ap (λ (x : Option ℕ). starts_at g.number (is_some x) (or_zero x)) e

  pub starting_starts : (log : Log Key) (g : Segment Key) (b : Box Key) → Recalls log b → starting K g log ≡ starts_in K g b
  starting_starts log g b R = ap (λ (x : Option ℕ). starts_at g.number (is_some x) (or_zero x)) (R g.key) ∙ by_slot g b (slot_of K g.key b.slots)

  -- ---- at the start
  next_up : (t : Slot Key) (s : List (Slot Key)) (a : List ℕ) (o : Option ℕ) → next_in (view_at K (boxed s a) o) ≡ next_in (view_at K (boxed (t ∷ s) a) (above o))
  next_up t s a none = refl
  next_up t s a (some i) = refl

  stood_next : (u : Bool) (t : Slot Key) (s : List (Slot Key)) (a : List ℕ) (k : Key) → awaited K k (standing s) ≡ next_in (view_at K (boxed (t ∷ s) a) (above (slot_of K k s)))
      → awaited K k (pick u (stood t.key t.next ∷ standing s) (standing s)) ≡ next_in (view_at K (boxed (t ∷ s) a) (pick (both u (K.same t.key k)) (some zero) (above (slot_of K k s))))
  stood_next true t s a k e = pick_two (λ (x y : Option ℕ). x ≡ next_in (view_at K (boxed (t ∷ s) a) y)) (K.same t.key k) (λ _. refl) (λ _. e)
  stood_next false t s a k e = e

  pub recalls_start : (s : List (Slot Key)) (a : List ℕ) → Recalls (standing s) (boxed s a)
  recalls_start [] a k = refl
  recalls_start (t ∷ s) a k = stood_next t.used t s a k (recalls_start s a k ∙ next_up t s a (slot_of K k s))

  -- ---- a forget order
  dropped_next : (u : Bool) (j k : Key) (log : Log Key) (v : Option Open) → awaited K k log ≡ next_in v
      → awaited K k (pick u (dropped j ∷ log) log) ≡ next_in (pick (both u (K.same j k)) none v)
  dropped_next true j k log v e = pick_two (λ (x : Option ℕ) (y : Option Open). x ≡ next_in y) (K.same j k) (λ _. refl) (λ _. e)
  dropped_next false j k log v e = e

  module _ (L : KeyLaws K) (b : Box Key) (G : Good K b) (log : Log Key) (R : Recalls log b) where
    -- slot i is the key's exactly where it is open to it
    module _ (i : ℕ) (k : Key) where
      here : (o : Option ℕ) → slot_of K k b.slots ≡ o → open_to K k (slot_at K b.slots i) ≡ true → is_at i o ≡ true
      here none e h = not_so (sym (lowest_none (open_to K k) (empty K) b.slots i e (there K b.slots i (both_left _ _ h))) ∙ h)
      here (some j) e h =
          let at = lowest_some (open_to K k) (empty K) b.slots j e in
          let x = slot_at K b.slots i in
          let y = slot_at K b.slots j in
          let u = both_left x.used _ h in
          eq-eqb i j (G.apart i j (there K b.slots i u) at.0 u (both_left y.used _ at.1)
          (L.only x.key k (both_right x.used _ h) ∙ sym (L.only y.key k (both_right y.used _ at.1))))

      away : (o : Option ℕ) → slot_of K k b.slots ≡ o → open_to K k (slot_at K b.slots i) ≡ false → is_at i o ≡ false
      away none e h = refl
      away (some j) e h =
          let at = lowest_some (open_to K k) (empty K) b.slots j e in
          by_test (eqb i j) (λ q. not_so (sym h ∙ ap (λ (n : ℕ). open_to K k (slot_at K b.slots n)) (eqb-true i j q) ∙ at.1)) (λ q. q)

      at_slot : is_at i (slot_of K k b.slots) ≡ open_to K k (slot_at K b.slots i)
      at_slot =
          let o = slot_of K k b.slots in
          by_test (open_to K k (slot_at K b.slots i)) (λ h. here o refl h ∙ sym h) (λ h. away o refl h ∙ sym h)

    pub recalls_forget : (i : ℕ) → Recalls (after K (forgetting i) (past log b)).log (forget K i b)
    recalls_forget i k =
        let t = slot_at K b.slots i in
        dropped_next t.used t.key k log (view K k b) (R k)
        ∙ sym (ap next_in (forget_view K L k i b G ∙ ap (λ (x : Bool). pick x none (view K k b)) (at_slot i k)))

    -- ---- a segment
    module _ (g : Segment Key) where
      recall_own : awaited K g.key (said g (rebuild K g b).answer ∷ log) ≡ next_in (view K g.key (rebuild K g b).box)
      recall_own =
          let d = rebuild K g b in
          let v = view K g.key b in
          let A = by_itself K L g b G in
          rw (L.self g.key)
          (leaves_by_lem g.number d.answer d.box.area (awaited K g.key log)
          ∙ ap₂ (leaves_by g.number) A.reply (R g.key)
          ∙ sym (alone_leaves g v (crowded K b)).is
          ∙ sym (ap next_in A.left))

      pub recalls_segment : Recalls (said g (rebuild K g b).answer ∷ log) (rebuild K g b).box
      recalls_segment k =
          by_test (K.same g.key k)
          (λ e. subst (λ (k : Key). awaited K k (said g (rebuild K g b).answer ∷ log) ≡ next_in (view K k (rebuild K g b).box)) (L.only g.key k e) recall_own)
          (λ e. rw e (R k ∙ sym (ap next_in (others_view K L g b G k (differs K L g.key k e)))))
