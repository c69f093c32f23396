-- 59's test says what Good says, and passes every state that is reached.
use mathlib.Core.Path.{◌≡◌, refl, sym, ap, ◌∙◌}
use mathlib.Core.Bool.{Bool, true, false}
use mathlib.Core.Logic.{inl, inr}
use mathlib.Core.List.{List, [], ◌∷◌}
use Prim.Native.Nat.{ℕ, zero, suc, ◌+◌, ◌*◌, ◌<◌, ◌≤◌}
use native.Mathlib.Nat.{not-suc-le-zero, le_of_suc-le-suc}
use native.Mathlib.Numerals.{add-one}
use native.Mathlib.Omega.{arith}
use lib.Dec.{eqb, leb}
use lib.ListN.{length, set, drop, replicate, drop_of_length-le, length-set, length-replicate}
use lib.Seq.{drop-cons}
use borrow.Author.Tests.{eqb-true, eq-eqb, le-leb, lt-leb, leb-true}
use Rattle.octets.specs.Choice.{both, non, by_test, pick_case, pick_cases, both_left, both_right, both_false, non_true, true_both}
use Rattle.messages.specs.Slots.{room, Keys, KeyLaws, Segment, Slot, Box, boxed, lowest, is_some, empty, slot_at, open_to}
use Rattle.messages.specs.Rows.{Done, awaiting, rebuild, forgotten, forget}
use Rattle.messages.specs.Sound.{Apart, Good, strange, Known, twice, sound, passes, sized_for}
use Rattle.messages.specs.History.{Deed, Past, past, after, runs, standing, from_start}
use Rattle.messages.specs.History.Deed.{segment, forgetting}
use Rattle.messages.proofs.Tests.{never, some_true, none_false}
use Rattle.messages.proofs.Lowest.{lowest_some, lowest_none}
use Rattle.messages.proofs.Step.{Step, stepped, Seen, seen, there, good_rebuild, good_forget}
use Rattle.messages.proofs.Step.Step.{stays, frees, took}

-- ---- the test, a slot at a time
module _ {Key : Type 0} (K : Keys Key) (s : List (Slot Key)) (i : ℕ) where
  abbrev here : Slot Key
  here = slot_at K s i

  -- what is asked of slot i and of those from n on
  abbrev Asked : ℕ → Bool
  Asked n = both (leb here.held room) (both (non (strange K here)) (both (non (twice K here (drop n s))) (sound K (drop n s))))

  sound_at : i < length s → sound K (drop i s) ≡ Asked (i + 1)
  sound_at h = rw (drop-cons s i (empty K) h) (ap Asked (sym (add-one i)))

  pub sound_over : i < length s → room < here.held → sound K (drop i s) ≡ false
  sound_over h o = sound_at h ∙ rw (lt-leb here.held room o)

  pub sound_strange : i < length s → here.held ≤ room → strange K here ≡ true → sound K (drop i s) ≡ false
  sound_strange h o k = sound_at h ∙ rw (le-leb here.held room o, k)

  pub sound_twice : i < length s → here.held ≤ room → strange K here ≡ false → twice K here (drop (i + 1) s) ≡ true → sound K (drop i s) ≡ false
  sound_twice h o k t = sound_at h ∙ rw (le-leb here.held room o, k, t)

  pub sound_on : i < length s → here.held ≤ room → strange K here ≡ false → twice K here (drop (i + 1) s) ≡ false → sound K (drop i s) ≡ sound K (drop (i + 1) s)
  sound_on h o k t = sound_at h ∙ rw (le-leb here.held room o, k, t)

  pub sound_end : length s ≤ i → sound K (drop i s) ≡ true
  sound_end h = rw (drop_of_length-le s h)

-- ---- it says what Good says, and that open slots' keys are given
module _ {Key : Type 0} (K : Keys Key) (L : KeyLaws K) where
  abbrev Small : List (Slot Key) → Type 0
  Small s = (i : ℕ) → i < length s → (slot_at K s i).held ≤ room

  -- what it says of the first slot and of the rest
  record Parted (t : Slot Key) (ts : List (Slot Key)) : Type 0 where
    held : t.held ≤ room
    known : strange K t ≡ false
    once : twice K t ts ≡ false
    rest : sound K ts ≡ true

  parted : (t : Slot Key) (ts : List (Slot Key)) → sound K (t ∷ ts) ≡ true → Parted t ts
  parted t ts e =
      let e₁ = both_right (leb t.held room) _ e in
      let e₂ = both_right (non (strange K t)) _ e₁ in
      record {
        held = leb-true t.held room (both_left (leb t.held room) _ e);
        known = non_true _ (both_left (non (strange K t)) _ e₁);
        once = non_true _ (both_left (non (twice K t ts)) _ e₂);
        rest = both_right (non (twice K t ts)) _ e₂;
      }

  small : (s : List (Slot Key)) → sound K s ≡ true → Small s
  small [] e i l = absurd (not-suc-le-zero l)
  small (t ∷ ts) e zero l = (parted t ts e).held
  small (t ∷ ts) e (suc i) l = small ts (parted t ts e).rest i (le_of_suc-le-suc l)

  known_by : (s : List (Slot Key)) → sound K s ≡ true → Known K s
  known_by [] e i l = absurd (not-suc-le-zero l)
  known_by (t ∷ ts) e zero l = (parted t ts e).known
  known_by (t ∷ ts) e (suc i) l = known_by ts (parted t ts e).rest i (le_of_suc-le-suc l)

  -- the first slot's key is in no later open slot
  sole : (t : Slot Key) (ts : List (Slot Key)) → sound K (t ∷ ts) ≡ true → t.used ≡ true → (j : ℕ) → j < length ts → (slot_at K ts j).used ≡ true → (slot_at K ts j).key ≡ t.key → ⊥
  sole t ts e u j l v k =
      let nowhere : is_some (lowest (open_to K t.key) ts) ≡ false = rw u at (parted t ts e).once in
      let off = lowest_none (open_to K t.key) (empty K) ts j (none_false (lowest (open_to K t.key) ts) nowhere) l in
      let is : open_to K t.key (slot_at K ts j) ≡ true = rw (v, k) (L.self t.key) in
      never (sym off ∙ is)

  apart_by : (s : List (Slot Key)) → sound K s ≡ true → Apart K s
  apart_by [] e i j li lj u v k = absurd (not-suc-le-zero li)
  apart_by (t ∷ ts) e zero zero li lj u v k = refl
  apart_by (t ∷ ts) e zero (suc j) li lj u v k = absurd (sole t ts e u j (le_of_suc-le-suc lj) v (sym k))
  apart_by (t ∷ ts) e (suc i) zero li lj u v k = absurd (sole t ts e v i (le_of_suc-le-suc li) u k)
  apart_by (t ∷ ts) e (suc i) (suc j) li lj u v k = ap suc (apart_by ts (parted t ts e).rest i j (le_of_suc-le-suc li) (le_of_suc-le-suc lj) u v k)

  -- and back
  tests : (s : List (Slot Key)) → Small s → Known K s → Apart K s → sound K s ≡ true
  tests [] h n d = refl
  tests (t ∷ ts) h n d =
      true_both _ _ (le-leb t.held room (h zero (omega arith)))
      (true_both _ _ (ap non (n zero (omega arith)))
      (true_both _ _ no (tests ts (λ i l. h (suc i) (omega arith)) (λ i l. n (suc i) (omega arith)) (λ i j li lj u v k. let e : suc i ≡ suc j = d (suc i) (suc j) (omega arith) (omega arith) u v k in omega arith))))
    where
      no : non (twice K t ts) ≡ true
      no =
          by_test (twice K t ts)
          (λ e.
          let u = both_left t.used _ e in
          let at = some_true (lowest (open_to K t.key) ts) (both_right t.used _ e) in
          let is = lowest_some (open_to K t.key) (empty K) ts at.0 at.1 in
          let x = slot_at K ts at.0 in
          let z : zero ≡ suc at.0 = d zero (suc at.0) (omega arith) (omega (arith, is.0)) u (both_left x.used _ is.1) (sym (L.only x.key t.key (both_right x.used _ is.1))) in
          absurd (omega arith))
          (λ e. rw e)

  pub good_of_lem : (n : ℕ) (s : List (Slot Key)) (a : List ℕ) → passes K n s ≡ true → sized_for n a ≡ true → Good K (boxed s a)
  good_of_lem n s a p z =
      let len : length s ≡ n = eqb-true (length s) n (both_left (eqb (length s) n) _ p) in
      let e : sound K s ≡ true = both_right (eqb (length s) n) _ p in
      record { sized = eqb-true (length a) (room * n) z ∙ ap (λ (k : ℕ). room * k) (sym len); holds = small s e; apart = apart_by s e }

  pub of_good : (n : ℕ) (b : Box Key) → length b.slots ≡ n → Known K b.slots → Good K b → (passes K n b.slots ≡ true) × (sized_for n b.area ≡ true)
  of_good n b len N G = (
    true_both _ _ (eq-eqb (length b.slots) n len) (tests b.slots G.holds N G.apart),
    eq-eqb (length b.area) (room * n) (G.sized ∙ ap (λ (k : ℕ). room * k) len),
  )

  -- there are as many slots as before
  count_by : (g : Segment Key) (b : Box Key) (d : Done Key) → Step K g b d → length d.box.slots ≡ length b.slots
  count_by g b d (stays m) = refl
  count_by g b d (frees i l q) = length-set b.slots i (empty K)
  count_by g b d (took i n P) = pick_case (λ (d : Done Key). length d.box.slots ≡ length b.slots) g.mor (length-set b.slots i _) (length-set b.slots i (empty K))

  counted : (n : ℕ) (s : List (Slot Key)) → passes K n s ≡ true → length s ≡ n
  counted n s p = eqb-true (length s) n (both_left (eqb (length s) n) _ p)

  knows : (n : ℕ) (s : List (Slot Key)) → passes K n s ≡ true → Known K s
  knows n s p = known_by s (both_right (eqb (length s) n) _ p)

  -- a free slot asks nothing of its key; nor does a slot that a given key is put into
  known_set : (s : List (Slot Key)) (i : ℕ) (t : Slot Key) → i < length s → Known K s → strange K t ≡ false → Known K (set s i t)
  known_set s i t l N h j m = at (seen K s i t j l)
    where
      at : Seen K s i t j → strange K (slot_at K (set s i t) j) ≡ false
      at (inl x) = rw x.1 h
      at (inr x) = rw x.1 (N j (rw (length-set s i t) at m))

  free_known : strange K (empty K) ≡ false
  free_known = both_false (non (K.given K.nil))

  known_step : (g : Segment Key) (b : Box Key) → K.given g.key ≡ true → Known K b.slots → (d : Done Key) → Step K g b d → Known K d.box.slots
  known_step g b k N d (stays m) = N
  known_step g b k N d (frees i l q) = known_set b.slots i (empty K) l N free_known
  known_step g b k N d (took i n P) =
      pick_case (λ (d : Done Key). Known K d.box.slots) g.mor
      (known_set b.slots i (awaiting K g (n + length g.octets)) P.inside N (rw k)) (known_set b.slots i (empty K) P.inside N free_known)

  -- a segment of a key that a header gives, and a forget order, keep what 59 and 60 ask
  pub passes_rebuild : (n : ℕ) (g : Segment Key) (s : List (Slot Key)) (a : List ℕ) → K.given g.key ≡ true → passes K n s ≡ true → sized_for n a ≡ true
      → (let b = (rebuild K g (boxed s a)).box in (passes K n b.slots ≡ true) × (sized_for n b.area ≡ true))
  passes_rebuild n g s a k p z =
      let G = good_of_lem n s a p z in
      let S = stepped K L g (boxed s a) G in
      of_good n (rebuild K g (boxed s a)).box (count_by g (boxed s a) (rebuild K g (boxed s a)) S ∙ counted n s p)
      (known_step g (boxed s a) k (knows n s p) (rebuild K g (boxed s a)) S) (good_rebuild K L g (boxed s a) G)

  pub passes_forget : (n i : ℕ) (s : List (Slot Key)) → passes K n s ≡ true → passes K n (forgotten K i s) ≡ true
  unfolding forget
  passes_forget n i s p =
      let a : List ℕ = replicate (room * n) 0 in
      let G = good_of_lem n s a p (eq-eqb (length a) (room * n) (length-replicate (room * n) 0)) in
      let count : length (forgotten K i s) ≡ length s = pick_case (λ (t : List (Slot Key)). length t ≡ length s) (slot_at K s i).used (length-set s i (empty K)) refl in
      let N = knows n s p in
      let left : Known K (forgotten K i s) = pick_cases (λ (t : List (Slot Key)). Known K t) (slot_at K s i).used (λ u. known_set s i (empty K) (there K s i u) N free_known) (λ _. N) in
      (of_good n (forget K i (boxed s a)) (count ∙ counted n s p) left (good_forget K i (boxed s a) G)).0

  -- every segment's key is one that a header gives
  abbrev pub Given : List (Deed Key) → Type 0
  Given [] = Unit {0}
  Given (segment g ∷ ds) = (K.given g.key ≡ true) × Given ds
  Given (forgetting i ∷ ds) = Given ds

  -- 59 and 60 pass every state that a run reaches
  reaches : (n : ℕ) (ds : List (Deed Key)) → Given ds → (p : Past Key) → passes K n p.box.slots ≡ true → sized_for n p.box.area ≡ true
      → (let b = (runs K p ds).box in (passes K n b.slots ≡ true) × (sized_for n b.area ≡ true))
  unfolding forget
  reaches n [] k p h z = (h, z)
  reaches n (segment g ∷ ds) k p h z = let x = passes_rebuild n g p.box.slots p.box.area k.0 h z in reaches n ds k.1 (after K (segment g) p) x.0 x.1
  reaches n (forgetting i ∷ ds) k p h z = reaches n ds k (after K (forgetting i) p) (passes_forget n i p.box.slots h) z

  pub reached : (n : ℕ) (s : List (Slot Key)) (a : List ℕ) → passes K n s ≡ true → sized_for n a ≡ true → (ds : List (Deed Key)) → Given ds
      → (let b = (from_start K (boxed s a) ds).box in (passes K n b.slots ≡ true) × (sized_for n b.area ≡ true))
  reached n s a h z ds k = reaches n ds k (past (standing s) (boxed s a)) h z
