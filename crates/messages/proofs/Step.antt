-- What one segment does: nothing, a slot lost, or its octets laid in one slot. Every law of rebuilding goes by these three.
use mathlib.Core.Path.{◌≡◌, refl, sym, ap, ◌∙◌}
use mathlib.Core.Bool.{true, false}
use mathlib.Core.List.{List}
use mathlib.Core.Option.{Option, none, some}
use mathlib.Core.Logic.{◌⊎◌, inl, inr}
use Prim.Native.Nat.{ℕ, ◌+◌, ◌*◌, ◌<◌, ◌≤◌}
use native.Mathlib.Omega.{arith}
use lib.Dec.{eqb, ltb}
use lib.ListN.{length, set, length-set, get_or-eq_default}
use lib.Seq.{get_or-set_same, get_or-set_other}
use borrow.Author.Tests.{eqb-true, eqb-false, ltb-true, ltb-false}
use Rattle.octets.specs.Choice.{by_test, pick_cases}
use Rattle.octets.specs.Splice.{splice, splice_length}
use Rattle.messages.specs.Slots.{room, part, Keys, KeyLaws, Segment, Slot, Box, lowest, or_else, empty, slot_at, is_free, slot_of}
use Rattle.messages.specs.Rows.{Done, starts, starts_in, kept, lost, record_at, settle, settled, fitted, rows, rebuild, forget}
use Rattle.messages.specs.Sound.{Apart, Good}
use Rattle.messages.proofs.Tests.{never}
use Rattle.messages.proofs.Area.{part_before, part_behind}
use Rattle.messages.proofs.Lowest.{lowest_some}
use Rattle.messages.proofs.Keyed.{slot_some, slot_none}

module _ {Key : Type 0} (K : Keys Key) where
  -- a segment that starts a message in slot i; a later one behind what the slot holds
  pub record Begins (g : Segment Key) (b : Box Key) (i n : ℕ) : Type 0 where
    pub anew : starts_in K g b ≡ true
    pub none_before : n ≡ 0

  pub record Follows (g : Segment Key) (b : Box Key) (i n : ℕ) : Type 0 where
    pub later : starts_in K g b ≡ false
    pub used : (slot_at K b.slots i).used ≡ true
    pub mine : (slot_at K b.slots i).key ≡ g.key
    pub next : g.number ≡ (slot_at K b.slots i).next
    pub held : n ≡ (slot_at K b.slots i).held

  pub record Place (g : Segment Key) (b : Box Key) (i n : ℕ) : Type 0 where
    pub inside : i < length b.slots
    pub fits : n + length g.octets ≤ room
    pub sole : (j : ℕ) → j < length b.slots → (slot_at K b.slots j).used ≡ true → (slot_at K b.slots j).key ≡ g.key → j ≡ i
    pub mine : (slot_at K b.slots i).used ≡ true → (slot_at K b.slots i).key ≡ g.key
    pub how : Begins g b i n ⊎ Follows g b i n

  pub data Step (g : Segment Key) (b : Box Key) : Done Key → Type 0 where
    stays : (m : ℕ) → Step g b (kept m b)
    frees : (i : ℕ) → i < length b.slots → (slot_at K b.slots i).key ≡ g.key → Step g b (lost K 54 (some i) b)
    took : (i n : ℕ) → Place g b i n → Step g b (settle K g i n b)

  module _ (L : KeyLaws K) (g : Segment Key) (b : Box Key) (G : Good K b) where
    -- the key is not open
    pub nowhere : slot_of K g.key b.slots ≡ none → (i j : ℕ) → j < length b.slots → (slot_at K b.slots j).used ≡ true → (slot_at K b.slots j).key ≡ g.key → j ≡ i
    nowhere e i j l u k = absurd (slot_none K L g.key b.slots e j l u k)

    -- whether it starts, by the slot of its key
    pub starts_by : (o : Option ℕ) → slot_of K g.key b.slots ≡ o → starts_in K g b ≡ starts K g o (record_at K b.slots o)
    starts_by o e = ap (λ (o : Option ℕ). starts K g o (record_at K b.slots o)) e

    -- a free slot, for a key that is not open
    pub placed : slot_of K g.key b.slots ≡ none → starts_in K g b ≡ true → 0 + length g.octets ≤ room → (i : ℕ) → lowest (is_free K) b.slots ≡ some i → Place g b i 0
    placed e z f i q =
        let at = lowest_some (is_free K) (empty K) b.slots i q in
        record { inside = at.0; fits = f; sole = nowhere e i; mine = λ u. never (rw u at at.1); how = inl (record { anew = z; none_before = refl }) }

    -- the key's own slot
    pub record Found (i : ℕ) : Type 0 where
      pub inside : i < length b.slots
      pub used : (slot_at K b.slots i).used ≡ true
      pub mine : (slot_at K b.slots i).key ≡ g.key
      pub sole : (j : ℕ) → j < length b.slots → (slot_at K b.slots j).used ≡ true → (slot_at K b.slots j).key ≡ g.key → j ≡ i

    pub found : (i : ℕ) → slot_of K g.key b.slots ≡ some i → Found i
    found i e =
        let at = slot_some K L g.key b.slots i e in
        record { inside = at.0; used = at.1; mine = at.2; sole = λ j l u k. G.apart j i l at.0 u at.1 (k ∙ sym at.2) }

    pub restarts : (i : ℕ) → Found i → starts_in K g b ≡ true → 0 + length g.octets ≤ room → Place g b i 0
    restarts i F z f = record { inside = F.inside; fits = f; sole = F.sole; mine = λ u. F.mine; how = inl (record { anew = z; none_before = refl }) }

    pub goes_on : (i : ℕ) → Found i → starts_in K g b ≡ false → eqb g.number (slot_at K b.slots i).next ≡ true → (slot_at K b.slots i).held + length g.octets ≤ room
        → Place g b i (slot_at K b.slots i).held
    goes_on i F z n f =
        record {
          inside = F.inside;
          fits = f;
          sole = F.sole;
          mine = λ u. F.mine;
          how = inr (record { later = z; used = F.used; mine = F.mine; next = eqb-true g.number (slot_at K b.slots i).next n; held = refl });
        }

    fresh : slot_of K g.key b.slots ≡ none → starts_in K g b ≡ true → 0 + length g.octets ≤ room → (o : Option ℕ) → lowest (is_free K) b.slots ≡ o → Step g b (settled K g o 0 b)
    fresh e z f none q = stays 50
    fresh e z f (some i) q = took i 0 (placed e z f i q)

    -- the row 54, and what comes behind it
    fit : (o : Option ℕ) (n : ℕ) → Step g b (lost K 54 o b)
        → (n + length g.octets ≤ room → Step g b (settled K g (or_else o (lowest (is_free K) b.slots)) n b)) → Step g b (fitted K g o n b)
    fit o n gone on =
        pick_cases (λ (d : Done Key). Step g b d) (ltb room (n + length g.octets)) (λ t. gone) (λ t. on (ltb-false room (n + length g.octets) t))

    go : (o : Option ℕ) → slot_of K g.key b.slots ≡ o → Step g b (rows K g o (record_at K b.slots o) b)
    go none e =
        by_test (starts K g none (empty K))
        (λ z. rw z (fit none 0 (stays 54) (λ f. fresh e (starts_by none e ∙ z) f (lowest (is_free K) b.slots) refl)))
        (λ z. rw z (stays 51))
    go (some i) e =
        let F = found i e in
        let t = slot_at K b.slots i in
        let gone : Step g b (lost K 54 (some i) b) = frees i F.inside F.mine in
        by_test (starts K g (some i) t)
        (λ z. rw z (fit (some i) 0 gone (λ f. took i 0 (restarts i F (starts_by (some i) e ∙ z) f))))
        (λ z. rw z (by_test (eqb g.number t.next)
        (λ n. rw n (by_test (eqb g.choice t.choice)
        (λ c. rw c (fit (some i) t.held gone (λ f. took i t.held (goes_on i F (starts_by (some i) e ∙ z) n f))))
        (λ c. rw c (stays 53))))
        (λ n. rw n (stays 52))))

    pub stepped : Step g b (rebuild K g b)
    unfolding rebuild
    stepped = go (slot_of K g.key b.slots) refl

  -- ---- a slot set anew
  abbrev pub Seen : List (Slot Key) → ℕ → Slot Key → ℕ → Type 0
  Seen s i t j = ((j ≡ i) × (slot_at K (set s i t) j ≡ t)) ⊎ ((j ≡ i → ⊥) × (slot_at K (set s i t) j ≡ slot_at K s j))

  pub seen : (s : List (Slot Key)) (i : ℕ) (t : Slot Key) (j : ℕ) → i < length s → Seen s i t j
  seen s i t j l =
      by_test (eqb j i)
      (λ e. let q : j ≡ i = eqb-true j i e in inl (q, ap (slot_at K (set s i t)) q ∙ get_or-set_same s i t (empty K) l))
      (λ e. let q : j ≡ i → ⊥ = eqb-false j i e in inr (q, get_or-set_other s i j t (empty K) q))

  -- no two open slots have one key then, where no other slot is open to its new key
  module _ (s : List (Slot Key)) (A : Apart K s) (i : ℕ) (inside : i < length s) (t : Slot Key)
      (sole : t.used ≡ true → (j : ℕ) → j < length s → (slot_at K s j).used ≡ true → (slot_at K s j).key ≡ t.key → j ≡ i) where
    apart_seen : (p q : ℕ) → p < length s → q < length s → Seen s i t p → Seen s i t q
        → (slot_at K (set s i t) p).used ≡ true → (slot_at K (set s i t) q).used ≡ true → (slot_at K (set s i t) p).key ≡ (slot_at K (set s i t) q).key → p ≡ q
    apart_seen p q lp lq (inl x) (inl y) up uq e = x.0 ∙ sym y.0
    apart_seen p q lp lq (inl x) (inr y) up uq e =
        let j : q ≡ i = sole (rw x.1 at up) q lq (rw y.1 at uq) (sym (rw (x.1, y.1) at e)) in
        x.0 ∙ sym j
    apart_seen p q lp lq (inr x) (inl y) up uq e =
        let j : p ≡ i = sole (rw y.1 at uq) p lp (rw x.1 at up) (rw (x.1, y.1) at e) in
        j ∙ sym y.0
    apart_seen p q lp lq (inr x) (inr y) up uq e = A p q lp lq (rw x.1 at up) (rw y.1 at uq) (rw (x.1, y.1) at e)

    pub apart_set : Apart K (set s i t)
    apart_set p q lp lq = let len = length-set s i t in apart_seen p q (rw len at lp) (rw len at lq) (seen s i t p inside) (seen s i t q inside)

  module _ (b : Box Key) (G : Good K b) (i : ℕ) (inside : i < length b.slots) (t : Slot Key) (a : List ℕ) (size : length a ≡ length b.area)
      (small : t.held ≤ room)
      (sole : t.used ≡ true → (j : ℕ) → j < length b.slots → (slot_at K b.slots j).used ≡ true → (slot_at K b.slots j).key ≡ t.key → j ≡ i) where
    small_set : (p : ℕ) → p < length b.slots → Seen b.slots i t p → (slot_at K (set b.slots i t) p).held ≤ room
    small_set p l (inl x) = rw x.1 small
    small_set p l (inr x) = rw x.1 (G.holds p l)

    pub good_set : Good K (record { slots = set b.slots i t; area = a })
    good_set =
        let len = length-set b.slots i t in
        record {
          sized = size ∙ G.sized ∙ ap (λ (n : ℕ). room * n) (sym len);
          holds = λ p l. small_set p (rw len at l) (seen b.slots i t p inside);
          apart = apart_set b.slots G.apart i inside t sole;
        }

  -- ---- 59 passes whatever a segment or a forget order leaves
  module _ (g : Segment Key) (b : Box Key) (G : Good K b) where
    pub fits : (i n : ℕ) → Place g b i n → room * i + n + length g.octets ≤ length b.area
    fits i n P = let l = P.inside in let f = P.fits in let s = G.sized in omega arith

    -- another slot's octets
    pub elsewhere : (i n j : ℕ) → Place g b i n → j < length b.slots → (j ≡ i → ⊥) → (m : ℕ) → m ≤ room
        → part (room * j) m (splice b.area (room * i + n) g.octets) ≡ part (room * j) m b.area
    elsewhere i n j P l ne m small =
        let f = P.fits in
        by_test (ltb j i)
        (λ t.
        let u : j < i = ltb-true j i t in
        part_before b.area (room * i + n) g.octets (fits i n P) (room * j) m (omega arith))
        (λ t.
        let u : i ≤ j = ltb-false j i t in
        part_behind b.area (room * i + n) g.octets (fits i n P) (room * j) m (omega arith))

    good_by : (d : Done Key) → Step g b d → Good K d.box
    good_by d (stays m) = G
    good_by d (frees i l q) = good_set b G i l (empty K) b.area refl (omega arith) (λ z. never z)
    good_by d (took i n P) =
        let a = splice b.area (room * i + n) g.octets in
        let size : length a ≡ length b.area = splice_length b.area (room * i + n) g.octets (fits i n P) in
        by_test g.mor
        (λ m. rw m (good_set b G i P.inside _ a size P.fits (λ z. P.sole)))
        (λ m. rw m (good_set b G i P.inside (empty K) a size (omega arith) (λ z. never z)))

  pub good_rebuild : KeyLaws K → (g : Segment Key) (b : Box Key) → Good K b → Good K (rebuild K g b).box
  good_rebuild L g b G = good_by g b G (rebuild K g b) (stepped L g b G)

  -- an open slot is one of the slots
  pub there : (s : List (Slot Key)) (i : ℕ) → (slot_at K s i).used ≡ true → i < length s
  there s i u =
      by_test (ltb i (length s)) (λ t. ltb-true i (length s) t)
      (λ t.
      let out : slot_at K s i ≡ empty K = get_or-eq_default s (empty K) {n = i} (ltb-false i (length s) t) in
      let f : false ≡ true = rw out at u in
      never f)

  pub good_forget : (i : ℕ) (b : Box Key) → Good K b → Good K (forget K i b)
  unfolding forget
  good_forget i b G =
      by_test (slot_at K b.slots i).used
      (λ u. rw u (good_set b G i (there b.slots i u) (empty K) b.area refl (omega arith) (λ z. never z)))
      (λ u. rw u G)
