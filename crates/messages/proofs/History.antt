-- A completed message is its key's accepted segments since the latest starting segment 0, joined.
use mathlib.Core.Path.{◌≡◌, refl, sym, ap, ap₂, ◌∙◌}
use mathlib.Core.Bool.{true, false}
use mathlib.Core.List.{List, [], ◌∷◌, ◌++◌, append_assoc, append-nil}
use mathlib.Core.Logic.{◌⊎◌, inl, inr}
use Prim.Native.Nat.{ℕ, ◌+◌, ◌*◌, ◌%◌, ◌<◌}
use native.Mathlib.Numerals.{add-one}
use native.Mathlib.Omega.{arith}
use lib.ListN.{length, set, drop, length-set, length-append, length-drop}
use lib.Seq.{length-take-le}
use Rattle.octets.specs.Choice.{by_test, pick_case, impossible}
use Rattle.octets.specs.Splice.{splice, splice_length}
use Rattle.messages.specs.Slots.{room, part, Keys, KeyLaws, Segment, Slot, Box, boxed, empty, slot_at}
use Rattle.messages.specs.Rows.{Answer, Done, next_number, awaiting, rebuild, forget}
use Rattle.messages.specs.Rows.Answer.{refused, taken, completed}
use Rattle.messages.specs.Sound.{Good}
use Rattle.messages.specs.History.{Deed, Log, accepted, of, starting, standing, begun, since, joined, numbers, sequence, Rebuilt, Past, past, after, runs, from_start}
use Rattle.messages.specs.History.Deed.{segment, forgetting}
use Rattle.messages.specs.History.Entry.{said, dropped}
use Rattle.messages.proofs.Tests.{never}
use Rattle.messages.proofs.Area.{part_grown}
use Rattle.messages.proofs.Starts.{starts_zero, next_counts}
use Rattle.messages.proofs.Step.{Begins, Follows, Place, Step, stepped, Seen, seen, fits, elsewhere, there, good_rebuild, good_forget}
use Rattle.messages.proofs.Step.Step.{stays, frees, took}
use Rattle.messages.proofs.Recall.{Recalls, starting_starts, recalls_start, recalls_segment, recalls_forget}

joined_append : {Key : Type 0} (gs : List (Segment Key)) (g : Segment Key) → joined (gs ++ (g ∷ [])) ≡ joined gs ++ g.octets
joined_append [] g = append-nil g.octets
joined_append (h ∷ gs) g = ap (λ (l : List ℕ). h.octets ++ l) (joined_append gs g) ∙ sym (append_assoc h.octets (joined gs) g.octets)

numbers_append : {Key : Type 0} (gs : List (Segment Key)) (g : Segment Key) → numbers (gs ++ (g ∷ [])) ≡ numbers gs ++ (g.number ∷ [])
numbers_append [] g = refl
numbers_append (h ∷ gs) g = ap (λ (l : List ℕ). h.number ∷ l) (numbers_append gs g)

-- segments and one more
length_more : {Key : Type 0} (gs : List (Segment Key)) (g : Segment Key) → length (gs ++ (g ∷ [])) ≡ length gs + 1
length_more gs g = length-append gs (g ∷ [])

sequence_more : {Key : Type 0} (gs : List (Segment Key)) (g : Segment Key) → numbers gs ≡ sequence (length gs) → g.number ≡ length gs % 256
    → numbers (gs ++ (g ∷ [])) ≡ sequence (length (gs ++ (g ∷ [])))
sequence_more gs g old n =
    numbers_append gs g
    ∙ ap₂ (λ (l : List ℕ) (k : ℕ). l ++ (k ∷ [])) old n
    ∙ sym (ap sequence (length_more gs g ∙ add-one (length gs)))

-- octets are the message of a key so far, its numbers are 0, 1, .., 255, 0, 1, .., and n comes next
pub record Whole {Key : Type 0} (K : Keys Key) (k : Key) (log : Log Key) (xs : List ℕ) (n : ℕ) : Type 0 where
  pub octets : xs ≡ joined (since K k log)
  pub order : numbers (since K k log) ≡ sequence (length (since K k log))
  pub next : n ≡ length (since K k log) % 256

module _ {Key : Type 0} (K : Keys Key) where
  -- the slot's message, so far as it was begun in the history, is what the slot holds
  abbrev pub Tells : Log Key → Slot Key → ℕ → List ℕ → Type 0
  Tells log t j a = t.used ≡ true → begun K t.key log ≡ true → Whole K t.key log (part (room * j) t.held a) t.next

  abbrev pub Told : Log Key → Box Key → Type 0
  Told log b = (j : ℕ) → j < length b.slots → Tells log (slot_at K b.slots j) j b.area

  -- what is not an accepted segment of a key says nothing new of it
  carry : (log : Log Key) (k : Key) (g : Segment Key) (w : Answer) (xs : List ℕ) (n : ℕ) → of K k g w ≡ false → (begun K k log ≡ true → Whole K k log xs n)
      → begun K k (said g w ∷ log) ≡ true → Whole K k (said g w ∷ log) xs n
  carry log k g w xs n off f bg =
      let m = f (rw off at bg) in
      record { octets = rw off m.octets; order = rw off m.order; next = rw off m.next }

  tells_none : (log : Log Key) (j : ℕ) (a : List ℕ) → Tells log (empty K) j a
  tells_none log j a u bg = never u

  -- one slot set, the others and their octets as they were
  told_set : (log : Log Key) (b : Box Key) (i : ℕ) → i < length b.slots → (t : Slot Key) (a : List ℕ) → Tells log t i a
      → ((j : ℕ) → j < length b.slots → (j ≡ i → ⊥) → Tells log (slot_at K b.slots j) j a) → Told log (boxed (set b.slots i t) a)
  told_set log b i h t a new old j l = at (seen K b.slots i t j h)
    where
      at : Seen K b.slots i t j → Tells log (slot_at K (set b.slots i t) j) j a
      at (inl x) = rw (x.1, x.0) new
      at (inr x) = rw x.1 (old j (rw (length-set b.slots i t) at l) x.0)

  module _ (L : KeyLaws K) (g : Segment Key) (b : Box Key) (G : Good K b) (log : Log Key) (T : Told log b) (R : Recalls K log b) where
    -- the slot that took the segment
    grown : (i n : ℕ) (w : Answer) → accepted w ≡ true → Place K g b i n → begun K g.key (said g w ∷ log) ≡ true
        → Whole K g.key (said g w ∷ log) (part (room * i) (n + length g.octets) (splice b.area (room * i + n) g.octets)) (next_number g.number)
    grown i n w ok P bg = by P.how
      where
        laid : part (room * i) (n + length g.octets) (splice b.area (room * i + n) g.octets) ≡ part (room * i) n b.area ++ g.octets
        laid = part_grown b.area (room * i) n g.octets (fits K g b G i n P)

        by : Begins K g b i n ⊎ Follows K g b i n
            → Whole K g.key (said g w ∷ log) (part (room * i) (n + length g.octets) (splice b.area (room * i + n) g.octets)) (next_number g.number)
        by (inl h) =
            let anew : starting K g log ≡ true = starting_starts K log g b R ∙ h.anew in
            let z : g.number ≡ 0 = starts_zero g.number _ _ anew in
            record {
              octets = rw (ok, L.self g.key, anew) (laid ∙ rw h.none_before (sym (append-nil g.octets)));
              order = rw (ok, L.self g.key, anew) (ap (λ (k : ℕ). k ∷ []) z);
              next = rw (ok, L.self g.key, anew) (next_counts 0 g.number z);
            }
        by (inr h) =
            let later : starting K g log ≡ false = starting_starts K log g b R ∙ h.later in
            let old : begun K g.key log ≡ true = rw (ok, L.self g.key, later) at bg in
            let was = T i P.inside h.used (rw h.mine old) in
            let octs : part (room * i) n b.area ≡ joined (since K g.key log) =
            ap (λ (k : ℕ). part (room * i) k b.area) h.held ∙ was.octets ∙ ap (λ (k : Key). joined (since K k log)) h.mine in
            let ords : numbers (since K g.key log) ≡ sequence (length (since K g.key log)) = rw h.mine at was.order in
            let turn : g.number ≡ length (since K g.key log) % 256 = h.next ∙ was.next ∙ ap (λ (k : Key). length (since K k log) % 256) h.mine in
            record {
              octets = rw (ok, L.self g.key, later) (laid ∙ ap (λ (l : List ℕ). l ++ g.octets) octs ∙ sym (joined_append (since K g.key log) g));
              order = rw (ok, L.self g.key, later) (sequence_more (since K g.key log) g ords turn);
              next = rw (ok, L.self g.key, later) (next_counts (length (since K g.key log)) g.number turn ∙ ap (λ (k : ℕ). k % 256) (sym (length_more (since K g.key log) g)));
            }

    -- the others
    rest : (i n : ℕ) → Place K g b i n → (w : Answer) → accepted w ≡ true → (j : ℕ) → j < length b.slots → (j ≡ i → ⊥)
        → Tells (said g w ∷ log) (slot_at K b.slots j) j (splice b.area (room * i + n) g.octets)
    rest i n P w ok j l ne u bg =
        let t = slot_at K b.slots j in
        let off : of K t.key g w ≡ false = rw ok (by_test (K.same g.key t.key) (λ s. absurd (ne (P.sole j l u (sym (L.only g.key t.key s))))) (λ s. s)) in
        rw (elsewhere K g b G i n j P l ne t.held (G.holds j l)) (carry log t.key g w _ _ off (T j l u) bg)

    refusal : (m j : ℕ) → j < length b.slots → Tells (said g (refused m) ∷ log) (slot_at K b.slots j) j b.area
    refusal m j l u bg = carry log (slot_at K b.slots j).key g (refused m) _ _ refl (T j l u) bg

    told_by_lem : (d : Done Key) → Step K g b d → Told (said g d.answer ∷ log) d.box
    told_by_lem d (stays m) = refusal m
    told_by_lem d (frees i h q) = told_set (said g (refused 54) ∷ log) b i h (empty K) b.area (tells_none (said g (refused 54) ∷ log) i b.area) (λ j l ne. refusal 54 j l)
    told_by_lem d (took i n P) =
        let total = n + length g.octets in
        let a = splice b.area (room * i + n) g.octets in
        pick_case (λ (d : Done Key). Told (said g d.answer ∷ log) d.box) g.mor
        (told_set (said g (taken i total) ∷ log) b i P.inside (awaiting K g total) a (λ u bg. grown i n (taken i total) refl P bg) (rest i n P (taken i total) refl))
        (told_set (said g (completed i total) ∷ log) b i P.inside (empty K) a (tells_none (said g (completed i total) ∷ log) i a) (rest i n P (completed i total) refl))

    -- the message that a segment completes
    abbrev Ended : ℕ → ℕ → Done Key → Type 0
    Ended i n d = d.answer ≡ completed i n → begun K g.key (said g d.answer ∷ log) ≡ true
        → Whole K g.key (said g d.answer ∷ log) (part (room * i) n d.box.area) (next_number g.number) × (length (part (room * i) n d.box.area) ≡ n)

    ended_by : (d : Done Key) → Step K g b d → (i n : ℕ) → Ended i n d
    ended_by d (stays m) i n = λ e bg. impossible (cc)
    ended_by d (frees j h q) i n = λ e bg. impossible (cc)
    ended_by d (took j m P) i n =
        pick_case (Ended i n) g.mor
        (λ e bg. impossible (cc))
        (λ e bg.
        let pi : i ≡ j = cc in
        let pn : n ≡ m + length g.octets = cc in
        let a = splice b.area (room * j + m) g.octets in
        let f = fits K g b G j m P in
        let size : length a ≡ length b.area = splice_length b.area (room * j + m) g.octets f in
        let long : length (part (room * j) (m + length g.octets) a) ≡ m + length g.octets = length-take-le (m + length g.octets) (drop (room * j) a) (simp length-drop (omega arith)) in
        rw (pi, pn) (grown j m (completed j (m + length g.octets)) refl P bg, long))

  -- ---- a run: one part of it after another
  pub runs_append : (ds es : List (Deed Key)) (p : Past Key) → runs K p (ds ++ es) ≡ runs K (runs K p ds) es
  runs_append [] es p = refl
  runs_append (d ∷ ds) es p = runs_append ds es (after K d p)

  module _ (L : KeyLaws K) where
    -- 59 and 60 pass what a run leaves, and each open slot whose message was begun in it holds that message so far
    pub record Sure (p : Past Key) : Type 0 where
      pub good : Good K p.box
      pub told : Told p.log p.box
      pub recalls : Recalls K p.log p.box

    -- a forget order that freed a slot says nothing of messages
    forgot : (log : Log Key) (k : Key) (t : Slot Key) (j : ℕ) (a : List ℕ) → Tells log t j a → Tells (dropped k ∷ log) t j a
    forgot log k t j a T u bg = let w = T u bg in record { octets = w.octets; order = w.order; next = w.next }

    told_forget : (p : Past Key) → Told p.log p.box → (i : ℕ) → Told (after K (forgetting i) p).log (forget K i p.box)
    unfolding forget
    told_forget p T i =
        let b = p.box in
        let t = slot_at K b.slots i in
        by_test t.used
        (λ u.
        let log : Log Key = dropped t.key ∷ p.log in
        rw u (told_set log b i (there K b.slots i u) (empty K) b.area (tells_none log i b.area) (λ j l ne. forgot p.log t.key (slot_at K b.slots j) j b.area (T j l))))
        (λ u. rw u T)

    -- no message was begun in the run as it starts
    begun_none : (s : List (Slot Key)) (k : Key) → begun K k (standing s) ≡ false
    begun_none [] k = refl
    begun_none (t ∷ s) k = pick_case (λ (log : Log Key). begun K k log ≡ false) t.used (begun_none s k) (begun_none s k)

    pub sure_after : (d : Deed Key) (p : Past Key) → Sure p → Sure (after K d p)
    sure_after (segment g) p s =
        record {
          good = good_rebuild K L g p.box s.good;
          told = told_by_lem L g p.box s.good p.log s.told s.recalls (rebuild K g p.box) (stepped K L g p.box s.good);
          recalls = recalls_segment K L p.box s.good p.log s.recalls g;
        }
    sure_after (forgetting n) p s =
        record { good = good_forget K n p.box s.good; told = told_forget p s.told n; recalls = recalls_forget K L p.box s.good p.log s.recalls n }

    pub sure_runs : (ds : List (Deed Key)) (p : Past Key) → Sure p → Sure (runs K p ds)
    sure_runs [] p s = s
    sure_runs (d ∷ ds) p s = sure_runs ds (after K d p) (sure_after d p s)

    pub sure : (b : Box Key) → Good K b → (ds : List (Deed Key)) → Sure (from_start K b ds)
    sure b G ds =
        let log = standing b.slots in
        sure_runs ds (past log b)
        (record { good = G; told = λ j l u bg. never (sym (begun_none b.slots (slot_at K b.slots j).key) ∙ bg); recalls = recalls_start K b.slots b.area })

    -- "Each message begun and completed in the run is its key's accepted segments since its latest starting segment 0, joined in order of acceptance."
    pub completes : (b : Box Key) → Good K b → (ds : List (Deed Key)) (g : Segment Key) (i n : ℕ)
        → (let p = from_start K b ds in let q = after K (segment g) p in
        (rebuild K g p.box).answer ≡ completed i n → begun K g.key q.log ≡ true → Rebuilt K g.key q.log q.box.area i n)
    completes b G ds g i n e bg =
        let s = sure b G ds in
        let p = from_start K b ds in
        let all = ended_by L g p.box s.good p.log s.told s.recalls (rebuild K g p.box) (stepped K L g p.box s.good) i n e bg in
        let w = all.0 in
        record { octets = w.octets; total = sym all.1 ∙ ap length w.octets; order = w.order }
