-- Other keys don't matter.
use mathlib.Core.Path.{◌≡◌, refl, sym, ap, ap₂, subst, ◌∙◌}
use mathlib.Core.Bool.{Bool, true, false}
use mathlib.Core.List.{List, [], ◌∷◌, ◌++◌}
use mathlib.Core.Option.{Option, none, some}
use mathlib.Core.Logic.{inl, inr}
use Prim.Native.Nat.{ℕ, ◌+◌, ◌*◌, ◌<◌, ◌≤◌}
use native.Mathlib.Omega.{arith}
use lib.Dec.{eqb, ltb}
use lib.ListN.{length, set, drop, length-set, length-append, length-drop}
use lib.Seq.{length-take-le, get_or-set_same, get_or-set_other}
use borrow.Author.Tests.{eqb-true, eqb-false, ltb-false}
use Rattle.octets.specs.Choice.{pick, non, by_test, pick_case, both_left, both_right}
use Rattle.octets.specs.Splice.{splice}
use Rattle.messages.specs.Slots.{room, part, Keys, KeyLaws, Segment, Slot, Box, lowest, or_else, is_some, empty, slot_at, open_to, is_free, slot_of}
use Rattle.messages.specs.Rows.{Done, starts_at, next_number, starts, starts_in, kept, lost, awaiting, record_at, settle, settled, rows, rebuild, forget}
use Rattle.messages.specs.Sound.{Good}
use Rattle.messages.specs.Alone.{Open, Reply, Gone, gone, view_at, view, crowded, reply_of, alone, Own, is_at, own, replies, single, NoFifty}
use Rattle.messages.specs.Alone.Reply.{refuses, takes, gives}
use Rattle.messages.specs.History.{Deed}
use Rattle.messages.specs.History.Deed.{segment, forgetting}
use Rattle.messages.proofs.Tests.{never}
use Rattle.messages.proofs.Area.{part_grown}
use Rattle.messages.proofs.Lowest.{lowest_some, lowest_none, lowest_set, lowest_sole, lowest_no}
use Rattle.messages.proofs.Step.{Place, Step, stepped, fits, elsewhere, there, Seen, seen, starts_by, placed, found, restarts, goes_on, good_rebuild, good_forget}
use Rattle.messages.proofs.Step.Step.{stays, frees, took}

module _ {Key : Type 0} (K : Keys Key) (L : KeyLaws K) where
  -- keys that the comparison tells apart
  pub differs : (j k : Key) → K.same j k ≡ false → j ≡ k → ⊥
  differs j k e q = never (sym e ∙ subst (λ (x : Key). K.same j x ≡ true) q (L.self j))

  closed : (k : Key) (t : Slot Key) → (t.used ≡ true → t.key ≡ k → ⊥) → open_to K k t ≡ false
  closed k t h =
      by_test t.used
      (λ u. rw u (by_test (K.same t.key k) (λ s. absurd (h u (L.only t.key k s))) (λ s. s)))
      (λ u. rw u)

  -- the key's slot after one is set, where no other has the key
  module _ (s : List (Slot Key)) (i : ℕ) (k : Key) (l : i < length s) (sole : (j : ℕ) → j < length s → (slot_at K s j).used ≡ true → (slot_at K s j).key ≡ k → j ≡ i) where
    only_here : (t : Slot Key) (j : ℕ) → j < length s → Seen K s i t j → open_to K k (slot_at K (set s i t) j) ≡ true → j ≡ i
    only_here t j m (inl x) q = x.0
    only_here t j m (inr x) q =
        let y = slot_at K s j in
        let q' : open_to K k y ≡ true = rw x.1 at q in
        sole j m (both_left y.used _ q') (L.only y.key k (both_right y.used _ q'))

    not_here : (j : ℕ) → j < length s → Seen K s i (empty K) j → open_to K k (slot_at K (set s i (empty K)) j) ≡ true → ⊥
    not_here j m (inl x) q = never (rw x.1 at q)
    not_here j m (inr x) q = x.0 (only_here (empty K) j m (inr x) q)

    pub find_set : (t : Slot Key) → open_to K k t ≡ true → slot_of K k (set s i t) ≡ some i
    find_set t h =
        let len = length-set s i t in
        lowest_sole (open_to K k) (empty K) (set s i t) i (rw len l) (rw (get_or-set_same s i t (empty K) l) h)
        (λ j m q. only_here t j (rw len at m) (seen K s i t j l) q)

    pub lose_set : slot_of K k (set s i (empty K)) ≡ none
    lose_set =
        let len = length-set s i (empty K) in
        lowest_no (open_to K k) (empty K) (set s i (empty K)) (λ j m q. not_here j (rw len at m) (seen K s i (empty K) j l) q)

  -- V1: a segment of another key
  module _ (g : Segment Key) (b : Box Key) (G : Good K b) (k : Key) (other : g.key ≡ k → ⊥) where
    -- slot i, which had that key or was free, is set to one that is not k's; octets elsewhere stay
    set_view : (i : ℕ) → i < length b.slots → ((slot_at K b.slots i).used ≡ true → (slot_at K b.slots i).key ≡ g.key) → (t : Slot Key) → (t.used ≡ true → t.key ≡ g.key)
        → (a : List ℕ) → ((j : ℕ) → j < length b.slots → (j ≡ i → ⊥) → (m : ℕ) → m ≤ room → part (room * j) m a ≡ part (room * j) m b.area)
        → view K k (record { slots = set b.slots i t; area = a }) ≡ view K k b
    set_view i l was t new a stay =
        let off = closed k (slot_at K b.slots i) (λ u q. other (sym (was u) ∙ q)) in
        let off' = closed k t (λ u q. other (sym (new u) ∙ q)) in
        rw (lowest_set (open_to K k) (empty K) b.slots i t l off off') (same (slot_of K k b.slots) refl)
      where
        same : (o : Option ℕ) → slot_of K k b.slots ≡ o → view_at K (record { slots = set b.slots i t; area = a }) o ≡ view_at K b o
        same none e = refl
        same (some j) e =
            let at = lowest_some (open_to K k) (empty K) b.slots j e in
            let x = slot_at K b.slots j in
            let u : x.used ≡ true = both_left x.used _ at.1 in
            let q : x.key ≡ k = L.only x.key k (both_right x.used _ at.1) in
            let ne : j ≡ i → ⊥ = λ z. other (sym (was (subst (λ (n : ℕ). (slot_at K b.slots n).used ≡ true) z u)) ∙ subst (λ (n : ℕ). (slot_at K b.slots n).key ≡ k) z q) in
            rw (get_or-set_other b.slots i j t (empty K) ne, stay j at.0 ne x.held (G.holds j at.0))

    view_by : (d : Done Key) → Step K g b d → view K k d.box ≡ view K k b
    view_by d (stays m) = refl
    view_by d (frees i l q) = set_view i l (λ u. q) (empty K) (λ z. never z) b.area (λ j m ne c small. refl)
    view_by d (took i n P) =
        let stay : (j : ℕ) → j < length b.slots → (j ≡ i → ⊥) → (c : ℕ) → c ≤ room → part (room * j) c (splice b.area (room * i + n) g.octets) ≡ part (room * j) c b.area =
        λ j m ne c small. elsewhere K g b G i n j P m ne c small in
        pick_case (λ (d : Done Key). view K k d.box ≡ view K k b) g.mor
        (set_view i P.inside P.mine _ (λ z. refl) _ stay)
        (set_view i P.inside P.mine (empty K) (λ z. never z) _ stay)

  -- a segment of one key leaves another key's message as it was
  pub others_view : (g : Segment Key) (b : Box Key) → Good K b → (k : Key) → (g.key ≡ k → ⊥) → view K k (rebuild K g b).box ≡ view K k b
  others_view g b G k other = view_by g b G k other (rebuild K g b) (stepped K L g b G)

  -- V2: a segment of the key itself
  module _ (g : Segment Key) (b : Box Key) (G : Good K b) where
    pub record Agrees (d : Done Key) (x : Gone) : Type 0 where
      pub reply : reply_of d.answer d.box.area ≡ x.reply
      pub left : view K g.key d.box ≡ x.left

    agree_case : (m : Bool) {d e : Done Key} {x y : Gone} → Agrees d x → Agrees e y → Agrees (pick m d e) (pick m x y)
    agree_case true p q = p
    agree_case false p q = q

    -- no other slot is open to the key
    settle_view : (i n : ℕ) (xs : List ℕ) → Place K g b i n → part (room * i) n b.area ≡ xs → length xs ≡ n
        → (let whole = xs ++ g.octets in
        Agrees (settle K g i n b)
        (pick g.mor (gone (takes (length whole)) (some (record { next = next_number g.number; choice = g.choice; octets = whole }))) (gone (gives whole) none)))
    settle_view i n xs P e len =
        let total : n + length g.octets ≡ length (xs ++ g.octets) = sym (length-append xs g.octets ∙ ap (λ (k : ℕ). k + length g.octets) len) in
        let area = splice b.area (room * i + n) g.octets in
        let whole : part (room * i) (n + length g.octets) area ≡ xs ++ g.octets = part_grown b.area (room * i) n g.octets (fits K g b G i n P) ∙ ap (λ (l : List ℕ). l ++ g.octets) e in
        let t : Slot Key = awaiting K g (n + length g.octets) in
        let at : slot_at K (set b.slots i t) i ≡ t = get_or-set_same b.slots i t (empty K) P.inside in
        let found : slot_of K g.key (set b.slots i t) ≡ some i = find_set b.slots i g.key P.inside P.sole t (L.self g.key) in
        let lost : slot_of K g.key (set b.slots i (empty K)) ≡ none = lose_set b.slots i g.key P.inside P.sole in
        agree_case g.mor
        (record { reply = ap takes total; left = rw (found, at) (ap (λ (l : List ℕ). some (record { next = next_number g.number; choice = g.choice; octets = l })) whole) })
        (record { reply = ap gives whole; left = rw lost })

    -- the rows, in step
    fresh : slot_of K g.key b.slots ≡ none → starts_in K g b ≡ true → 0 + length g.octets ≤ room → (o : Option ℕ) → lowest (is_free K) b.slots ≡ o
        → Agrees (settled K g o 0 b) (pick (non (is_some o)) (gone (refuses 50) none)
        (pick g.mor (gone (takes (length g.octets)) (some (record { next = next_number g.number; choice = g.choice; octets = g.octets }))) (gone (gives g.octets) none)))
    fresh e z f none q = record { reply = refl; left = rw e }
    fresh e z f (some i) q = settle_view i 0 [] (placed K L g b G e z f i q) refl refl

    -- 54's test, and what comes behind it: n octets stand in the slot, and they are xs
    fit : (o : Option ℕ) (n : ℕ) (xs : List ℕ) → length xs ≡ n → (x : Gone) → Agrees (lost K 54 o b) (gone (refuses 54) none)
        → (n + length g.octets ≤ room → Agrees (settled K g (or_else o (lowest (is_free K) b.slots)) n b) x)
        → Agrees (pick (ltb room (n + length g.octets)) (lost K 54 o b) (settled K g (or_else o (lowest (is_free K) b.slots)) n b))
        (pick (ltb room (length (xs ++ g.octets))) (gone (refuses 54) none) x)
    fit o n xs len x gone on =
        let total : length (xs ++ g.octets) ≡ n + length g.octets = length-append xs g.octets ∙ ap (λ (k : ℕ). k + length g.octets) len in
        by_test (ltb room (n + length g.octets))
        (λ r. let r' : ltb room (length (xs ++ g.octets)) ≡ true = rw total r in rw (r, r') gone)
        (λ r. let r' : ltb room (length (xs ++ g.octets)) ≡ false = rw total r in rw (r, r') (on (ltb-false room (n + length g.octets) r)))

    go : (o : Option ℕ) → slot_of K g.key b.slots ≡ o → Agrees (rows K g o (record_at K b.slots o) b) (alone g (view_at K b o) (crowded K b))
    go none e =
        let same : (m : ℕ) → Agrees (kept m b) (gone (refuses m) none) = λ m. record { reply = refl; left = rw e } in
        by_test (starts K g none (empty K))
        (λ z. rw z (fit none 0 [] refl _ (same 54) (λ f. fresh e (starts_by K L g b G none e ∙ z) f (lowest (is_free K) b.slots) refl)))
        (λ z. rw z (same 51))
    go (some i) e =
        let F = found K L g b G i e in
        let t = slot_at K b.slots i in
        let xs = part (room * i) t.held b.area in
        let inside = F.inside in
        let size = G.sized in
        let small = G.holds i inside in
        let held : length xs ≡ t.held = length-take-le t.held (drop (room * i) b.area) (simp length-drop (omega arith)) in
        let same : (m : ℕ) → Agrees (kept m b) (gone (refuses m) (view_at K b (some i))) = λ m. record { reply = refl; left = rw e } in
        let away : Agrees (lost K 54 (some i) b) (gone (refuses 54) none) = record { reply = refl; left = rw (lose_set b.slots i g.key inside F.sole) } in
        let anew = starts_by K L g b G (some i) e in
        by_test (starts K g (some i) t)
        (λ z. rw z (fit (some i) 0 [] refl _ away (λ f. settle_view i 0 [] (restarts K L g b G i F (anew ∙ z) f) refl refl)))
        (λ z. rw z (by_test (eqb g.number t.next)
        (λ n. rw n (agree_case (non (eqb g.choice t.choice)) (same 53)
        (fit (some i) t.held xs held _ away (λ f. settle_view i t.held xs (goes_on K L g b G i F (anew ∙ z) n f) refl held))))
        (λ n. rw n (same 52))))

    -- a segment's answer, apart from the slot's number, and what its key has open after it, hang on what the key had open, and on whether a slot is free
    pub by_itself : Agrees (rebuild K g b) (alone g (view K g.key b) (crowded K b))
    unfolding rebuild
    by_itself = go (slot_of K g.key b.slots) refl

-- ---- where a slot was free, it matters no more
alone_free : {Key : Type 0} (g : Segment Key) (v : Option Open) (full : Bool) → ((alone g v full).reply ≡ refuses 50 → ⊥) → alone g v full ≡ alone g v false
alone_free g (some v) full h = refl
alone_free g none false h = refl
alone_free g none true h =
    by_test (starts_at g.number false 0)
    (λ z. by_test (ltb room (length g.octets))
    (λ r. rw (z, r))
    (λ r. absurd (h (rw (z, r)))))
    (λ z. rw z)

module _ {Key : Type 0} (K : Keys Key) (L : KeyLaws K) (k : Key) where
  -- a forget order
  forget_at : (i : ℕ) (b : Box Key) → Good K b → (o : Option ℕ) → slot_of K k b.slots ≡ o → view K k (forget K i b) ≡ pick (is_at i o) none (view_at K b o)
  unfolding forget
  forget_at i b G none e =
      by_test (slot_at K b.slots i).used
      (λ u.
      let l = there K b.slots i u in
      let off = lowest_none (open_to K k) (empty K) b.slots i e l in
      rw (u, lowest_set (open_to K k) (empty K) b.slots i (empty K) l off refl, e))
      (λ u. rw (u, e))
  forget_at i b G (some j) e =
      let at = lowest_some (open_to K k) (empty K) b.slots j e in
      let t = slot_at K b.slots j in
      let uj : t.used ≡ true = both_left t.used _ at.1 in
      let kj : t.key ≡ k = L.only t.key k (both_right t.used _ at.1) in
      by_test (eqb i j)
      (λ q.
      let z : i ≡ j = eqb-true i j q in
      let gone : slot_of K k (set b.slots j (empty K)) ≡ none = lose_set K L b.slots j k at.0 (λ m l u c. G.apart m j l at.0 u uj (c ∙ sym kj)) in
      rw (q, z, uj, gone))
      (λ q.
      let ne : i ≡ j → ⊥ = eqb-false i j q in
      let ne' : j ≡ i → ⊥ = λ z. ne (sym z) in
      by_test (slot_at K b.slots i).used
      (λ u.
      let l = there K b.slots i u in
      let off = closed K L k (slot_at K b.slots i) (λ v c. ne (G.apart i j l at.0 u uj (c ∙ sym kj))) in
      rw (q, u, lowest_set (open_to K k) (empty K) b.slots i (empty K) l off refl, e, get_or-set_other b.slots i j (empty K) (empty K) ne'))
      (λ u. rw (q, u, e)))

  pub forget_view : (i : ℕ) (b : Box Key) → Good K b → view K k (forget K i b) ≡ pick (is_at i (slot_of K k b.slots)) none (view K k b)
  forget_view i b G = forget_at i b G (slot_of K k b.slots) refl

  -- the answers to a key's segments are those that they would have by themselves, if none is answered 50
  pub separate : (ds : List (Deed Key)) (b : Box Key) → Good K b → NoFifty (replies K k b ds) → replies K k b ds ≡ single (view K k b) (own K k b ds)
  separate [] b G nf = refl
  separate (segment g ∷ ds) b G nf =
      let b' = (rebuild K g b).box in
      let G' = good_rebuild K L g b G in
      by_test (K.same g.key k)
      (λ e.
      let q : g.key ≡ k = L.only g.key k e in
      let A = by_itself K L g b G in
      let nf' : NoFifty (reply_of (rebuild K g b).answer b'.area ∷ replies K k b' ds) = rw e at nf in
      let full = crowded K b in
      let said = A.reply ∙ ap (λ (k : Key). (alone g (view K k b) full).reply) q in
      let left : view K k b' ≡ (alone g (view K k b) full).left = subst (λ (k : Key). view K k b' ≡ (alone g (view K k b) full).left) q A.left in
      let fr = alone_free g (view K k b) full (λ r. nf'.0 (said ∙ r)) in
      rw e
      (ap₂ (λ (r : Reply) (rs : List Reply). r ∷ rs) (said ∙ ap (λ (x : Gone). x.reply) fr)
      (separate ds b' G' nf'.1 ∙ ap (λ (v : Option Open). single v (own K k b' ds)) (left ∙ ap (λ (x : Gone). x.left) fr))))
      (λ e.
      rw e (separate ds b' G' (rw e at nf) ∙ ap (λ (v : Option Open). single v (own K k b' ds)) (others_view K L g b G k (differs K L g.key k e))))
  separate (forgetting i ∷ ds) b G nf =
      let b' = forget K i b in
      let ih = separate ds b' (good_forget K i b G) nf in
      by_test (is_at i (slot_of K k b.slots))
      (λ e. let v : view K k b' ≡ none = rw e at (forget_view i b G) in rw e (ih ∙ ap (λ (v : Option Open). single v (own K k b' ds)) v))
      (λ e. let v : view K k b' ≡ view K k b = rw e at (forget_view i b G) in rw e (ih ∙ ap (λ (v : Option Open). single v (own K k b' ds)) v))

  -- two runs that agree on the key, whatever else they do
  pub undisturbed : (b c : Box Key) → Good K b → Good K c → view K k b ≡ view K k c → (ds es : List (Deed Key)) → own K k b ds ≡ own K k c es
      → NoFifty (replies K k b ds) → NoFifty (replies K k c es) → replies K k b ds ≡ replies K k c es
  undisturbed b c G H v ds es o nb nc =
      separate ds b G nb ∙ ap₂ (λ (v : Option Open) (os : List (Own Key)). single v os) v o ∙ sym (separate es c H nc)
