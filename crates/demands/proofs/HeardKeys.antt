-- The key that a slot is open to as it is heard is the one that it has, and the history that is heard says of every key what the recording's own says.
use Prim.Native.Nat.{ℕ, ◌<◌}
use native.Mathlib.Omega.{arith}
use mathlib.Core.Path.{◌≡◌, refl, sym, ap, ◌∙◌}
use mathlib.Core.Logic.{◌⊎◌, inl, inr}
use mathlib.Core.Bool.{true}
use mathlib.Core.List.{List, [], ◌∷◌}
use mathlib.Core.Option.{Option, none, some}
use lib.Dec.{eqb}
use lib.ListN.{length, set}
use borrow.Author.Tests.{eq-eqb, ne_eqb}
use Rattle.octets.specs.Choice.{pick, pick_case, by_test}
use Rattle.messages.specs.Slots.{Segment, Slot, Box, boxed, empty, slot_at, slot_of}
use Rattle.messages.specs.Rows as Rows
use Rattle.messages.specs.Rows.{Answer, rebuild, forgotten}
use Rattle.messages.specs.Rows.Answer.{refused, taken, completed}
use Rattle.messages.specs.Sound.{Apart, Good}
use Rattle.messages.specs.Table.{Goes}
use Rattle.messages.specs.History.{Log, accepted, leaves, awaited, begun, since, standing, past, after}
use Rattle.messages.specs.History.Deed.{forgetting}
use Rattle.messages.specs.History.Entry.{said, dropped}
use Rattle.messages.proofs.Keyed.{slot_some, slot_none}
use Rattle.messages.proofs.Step.{Seen, seen, there, good_rebuild, good_forget}
use Rattle.messages.proofs.Table.{goes_own, goes_sole, mor_completed}
use Rattle.rebuild.specs.View.{keys}
use Rattle.rebuild.specs.declared.Key.{Key}
use Rattle.rebuild.proofs.Page.{key_laws}
use Rattle.demands.specs.Words.{Between, waits, SegmentChanges}
use Rattle.demands.specs.Completed.{open_key, without, key_behind, heard_key, heard_forget}
use Rattle.demands.proofs.Segments.{segment_does}

-- ---- a slot's key without another one, and without itself
without_other : (k : Key) (t : Slot Key) → (t.used ≡ true → t.key ≡ k → ⊥) → without k (open_key t) ≡ open_key t
without_other k t h =
    by_test t.used
    (λ u. by_test (keys.same t.key k) (λ s. absurd (h u (key_laws.only t.key k s))) (λ s. rw (u, s)))
    (λ u. rw u)

without_own : (k : Key) (t : Slot Key) → (t.used ≡ true → t.key ≡ k) → without k (open_key t) ≡ none
without_own k t h =
    by_test t.used
    (λ u. let s : keys.same t.key k ≡ true = rw (h u) (key_laws.self k) in rw (u, s))
    (λ u. rw u)

-- ---- slot i set free, the only one that is open to the key k if any is
freed_keys : (s : List (Slot Key)) (k : Key) (i : ℕ) → i < length s → ((slot_at keys s i).used ≡ true → (slot_at keys s i).key ≡ k)
    → ((j : ℕ) → j < length s → (slot_at keys s j).used ≡ true → (slot_at keys s j).key ≡ k → j ≡ i)
    → (j : ℕ) → open_key (slot_at keys (set s i (empty keys)) j) ≡ without k (open_key (slot_at keys s j))
freed_keys s k i l own sole j = by (seen keys s i (empty keys) j l)
  where
    by : Seen keys s i (empty keys) j → open_key (slot_at keys (set s i (empty keys)) j) ≡ without k (open_key (slot_at keys s j))
    by (inl x) = rw (x.1, x.0) (sym (without_own k (slot_at keys s i) own))
    by (inr x) = rw x.1 (sym (without_other k (slot_at keys s j) (λ u q. x.0 (sole j (there keys s j u) u q))))

-- ---- a segment: each slot's key behind it is the one that its answer tells
module _ (g : Segment Key) (b : Box Key) (apart : Apart keys b.slots) where
  abbrev Tells : Answer → List (Slot Key) → Type 0
  Tells w slots = (j : ℕ) → open_key (slot_at keys slots j) ≡ key_behind j g.key w (open_key (slot_at keys b.slots j))

  -- 54
  freed : (o : Option ℕ) → slot_of keys g.key b.slots ≡ o → Tells (refused 54) (Rows.free_at keys o b.slots)
  freed none e = λ j.
      sym (without_other g.key (slot_at keys b.slots j) (λ u k. slot_none keys key_laws g.key b.slots e j (there keys b.slots j u) u k))
  freed (some i) e =
      let at = slot_some keys key_laws g.key b.slots i e in
      freed_keys b.slots g.key i at.0 (λ _. at.2) (λ j l u k. apart j i l at.0 u at.1 (k ∙ sym at.2))

  -- taken into slot i
  taken_keys : (i n : ℕ) → i < length b.slots → Tells (taken i n) (set b.slots i (waits g n))
  taken_keys i n l j = by (seen keys b.slots i (waits g n) j l)
    where
      by : Seen keys b.slots i (waits g n) j → open_key (slot_at keys (set b.slots i (waits g n)) j) ≡ pick (eqb i j) (some g.key) (open_key (slot_at keys b.slots j))
      by (inl x) = rw (x.1, eq-eqb i j (sym x.0))
      by (inr x) = rw (x.1, ne_eqb i j (λ e. x.0 (sym e)))

  by_answer : (w : Answer) (slots : List (Slot Key)) (area : List ℕ) → SegmentChanges g b w slots area → ((i n : ℕ) → w ≡ completed i n → Goes keys g b i) → Tells w slots
  by_answer (refused n) slots area h goes = refusal h.1
    where
      refusal : (Between 50 53 n × (slots ≡ b.slots)) ⊎ ((n ≡ 54) × (slots ≡ Rows.free_at keys (slot_of keys g.key b.slots) b.slots)) → Tells (refused n) slots
      refusal (inl x) j = rw (x.1, ne_eqb n 54 (λ e. omega (arith, x.0.1, e)))
      refusal (inr x) j = rw (x.1, x.0) (freed (slot_of keys g.key b.slots) refl j)
  by_answer (taken i n) slots area h goes = λ j. rw h.records (taken_keys i n h.slot j)
  by_answer (completed i n) slots area h goes = λ j.
      let at = goes i n refl in
      rw h.records (freed_keys b.slots g.key i h.slot (goes_own keys key_laws g b apart i at) (goes_sole keys key_laws g b apart i at) j)

  rebuild_tells : (let d = rebuild keys g b in Tells d.answer d.box.slots)
  rebuild_tells =
      let d = rebuild keys g b in
      by_answer d.answer d.box.slots d.box.area (segment_does g b) (λ i n e. (mor_completed keys key_laws g b apart i n e).1)

-- ---- two answers that say the same but for a length, and for the slot where a message was completed
pub data Alike : Answer → Answer → Type 0 where
  both_refused : (n : ℕ) → Alike (refused n) (refused n)
  both_taken : (i n m : ℕ) → Alike (taken i n) (taken i m)
  both_completed : (i j n m : ℕ) → Alike (completed i n) (completed j m)

alike_accepted : {w v : Answer} → Alike w v → accepted w ≡ accepted v
alike_accepted (both_refused n) = refl
alike_accepted (both_taken i n m) = refl
alike_accepted (both_completed i j n m) = refl

alike_leaves : {w v : Answer} → Alike w v → (number : ℕ) (x : Option ℕ) → leaves number w x ≡ leaves number v x
alike_leaves (both_refused n) number x = refl
alike_leaves (both_taken i n m) number x = refl
alike_leaves (both_completed i j n m) number x = refl

alike_behind : {w v : Answer} → Alike w v → (i : ℕ) (k : Key) (x : Option Key) → key_behind i k w x ≡ key_behind i k v x
alike_behind (both_refused n) i k x = refl
alike_behind (both_taken j n m) i k x = refl
alike_behind (both_completed j l n m) i k x = refl

-- ---- two histories that say the same of every key
pub record Says (k : Key) (a b : Log Key) : Type 0 where
  pub since : since keys k a ≡ since keys k b
  pub begun : begun keys k a ≡ begun keys k b
  pub awaited : awaited keys k a ≡ awaited keys k b

abbrev pub Same : Log Key → Log Key → Type 0
Same a b = (k : Key) → Says k a b

pub same_said : (g : Segment Key) (w v : Answer) (a b : Log Key) → Alike w v → Same a b → Same (said g w ∷ a) (said g v ∷ b)
same_said g w v a b e h k =
    let ok = alike_accepted e in
    let start = (h g.key).awaited in
    record {
      since = rw (ok, start, (h k).since);
      begun = rw (ok, start, (h k).begun);
      awaited = rw ((h k).awaited, alike_leaves e g.number (awaited keys k b));
    }

same_dropped : (j : Key) (a b : Log Key) → Same a b → Same (dropped j ∷ a) (dropped j ∷ b)
same_dropped j a b h k = record { since = (h k).since; begun = (h k).begun; awaited = rw (h k).awaited }

-- ---- the slots s as they are heard, start: at the run's start
module _ (start : List (Slot Key)) where
  pub record Tied (s : List (Slot Key)) (a : List ℕ) (log heard : Log Key) : Type 0 where
    pub good : Good keys (boxed s a)
    pub same : Same log heard
    pub known : (i : ℕ) → heard_key start i heard ≡ open_key (slot_at keys s i)

  -- at the start both histories are the slots that stand open
  known_start : (ts : List (Slot Key)) (i : ℕ) → heard_key start i (standing ts) ≡ open_key (slot_at keys start i)
  known_start [] i = refl
  known_start (t ∷ ts) i = pick_case (λ (l : Log Key). heard_key start i l ≡ open_key (slot_at keys start i)) t.used (known_start ts i) (known_start ts i)

  pub tied_start : (a : List ℕ) → Good keys (boxed start a) → Tied start a (standing start) (standing start)
  tied_start a G = record { good = G; same = λ k. record { since = refl; begun = refl; awaited = refl }; known = known_start start }

  module _ (s : List (Slot Key)) (a : List ℕ) (log heard : Log Key) (T : Tied s a log heard) where
    -- a segment, heard with an answer like its own
    pub tied_said : (g : Segment Key) (v : Answer)
        → (let d = rebuild keys g (boxed s a) in Alike d.answer v → Tied d.box.slots d.box.area (said g d.answer ∷ log) (said g v ∷ heard))
    tied_said g v e =
        let b : Box Key = boxed s a in
        let d = rebuild keys g b in
        record {
          good = good_rebuild keys key_laws g b T.good;
          same = same_said g d.answer v log heard e T.same;
          known = λ i. sym (alike_behind e i g.key (heard_key start i heard)) ∙ ap (key_behind i g.key d.answer) (T.known i) ∙ sym (rebuild_tells g b T.good.apart i);
        }

    -- a forget order
    pub tied_forget : (i : ℕ) → Tied (forgotten keys i s) a (after keys (forgetting i) (past log (boxed s a))).log (heard_forget (heard_key start i heard) heard)
    unfolding Rows.forget
    tied_forget i =
        let t = slot_at keys s i in
        let G = good_forget keys i (boxed s a) T.good in
        by_test t.used
        (λ u.
        let is : heard_key start i heard ≡ some t.key = T.known i ∙ rw u in
        let l = there keys s i u in
        rw (u, is) (record {
          good = rw u at G;
          same = same_dropped t.key log heard T.same;
          known = λ j. ap (without t.key) (T.known j) ∙ sym (freed_keys s t.key i l (λ _. refl) (λ j m v k. T.good.apart j i m l v u k) j);
        }))
        (λ u. let is : heard_key start i heard ≡ none = T.known i ∙ rw u in rw (u, is) T)
