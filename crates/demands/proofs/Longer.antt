-- Messages longer than 256 segments: what number 0 does to an open key, the known fault, and that no number of segments is too many.
use Prim.Native.Nat.{ℕ, suc, ◌+◌, ◌*◌, ◌%◌, ◌≤◌, ◌<◌}
use native.Mathlib.Omega.{arith}
use mathlib.Core.Path.{◌≡◌, refl, sym, ap, subst, ◌∙◌}
use mathlib.Core.Logic.{◌↔◌, inl, inr}
use mathlib.Core.Bool.{true, false}
use mathlib.Core.List.{List, [], ◌∷◌, ◌++◌, append_assoc, append-nil}
use mathlib.Core.Option.{some}
use lib.Dec.{eqb}
use lib.ListN.{length, set, length-set, length-append}
use lib.Seq.{get_or-set_same}
use borrow.Author.Tests.{eqb-true, eqb-false, lt-ltb, le-ltb}
use Rattle.octets.specs.Choice.{non, by_test}
use Rattle.octets.specs.Splice.{splice, splice_length}
use Rattle.messages.specs.Slots.{room, part, Segment, Slot, Box, boxed, empty, slot_at, is_free, slot_of}
use Rattle.messages.specs.Rows.{Answer, Done, done, settle, fitted, rebuild}
use Rattle.messages.specs.Rows.Answer.{taken, completed}
use Rattle.messages.specs.History.{joined}
use Rattle.messages.specs.Table.{OpenAt, AwaitsZero, Goes}
use Rattle.messages.proofs.Lowest.{lowest_first}
use Rattle.messages.proofs.Keyed.{slot_sole, slot_shut}
use Rattle.messages.proofs.Area.{part_grown}
use Rattle.messages.proofs.Starts.{next_counts, next_is}
use Rattle.messages.proofs.Rows.{fitted_54, fitted_on, settle_more, settle_last}
use Rattle.messages.proofs.Step.{apart_set}
use Rattle.messages.proofs.Table.{goes_inside, goes_sole}
use Rattle.messages.proofs.Laws.{repeated, restart, continue, other_choice_lem, start}
use Rattle.rebuild.specs.View.{keys}
use Rattle.rebuild.specs.declared.Key.{Key}
use Rattle.rebuild.proofs.Page.{key_laws}
use Rattle.demands.specs.Words.{SegmentChanges, waits}
use Rattle.demands.specs.SegmentRows.{OneSlotEach}
use Rattle.demands.specs.Longer.{LaidBehind, OpenIn, ZeroGoesOn, JoinedThere, Ahead, behind, AnyNumber}
use Rattle.demands.proofs.Segments.{waits_is, segment_does}
use Rattle.demands.proofs.SegmentRows.{apart_of, one_each_of}

-- ---- a segment that goes to slot i behind n octets
module _ (g : Segment Key) (b : Box Key) (i n : ℕ) where
  -- with MOR: its box then
  abbrev then : Box Key
  then = boxed (set b.slots i (waits g (n + length g.octets))) (splice b.area (room * i + n) g.octets)

  settled_more : g.mor ≡ true → settle keys g i n b ≡ done (taken i (n + length g.octets)) then.slots then.area
  settled_more m = settle_more keys g b i n m ∙ ap (λ (x : Slot Key). done (taken i (n + length g.octets)) (set b.slots i x) then.area) (waits_is g (n + length g.octets))

  -- the row 54, then MOR
  laid_behind : (d : Done Key) → d ≡ fitted keys g (some i) n b → LaidBehind g b i n d
  laid_behind d e =
      record {
        over = λ h. e ∙ fitted_54 keys g b (some i) n (lt-ltb room (n + length g.octets) h);
        more = λ h m. e ∙ fitted_on keys g b (some i) n (le-ltb room (n + length g.octets) h) ∙ settled_more m;
        last = λ h m. e ∙ fitted_on keys g b (some i) n (le-ltb room (n + length g.octets) h) ∙ settle_last keys g b i n m;
      }

  -- its octets stand there, behind those
  part_laid_lem : i < length b.slots → length b.area ≡ room * length b.slots → n + length g.octets ≤ room
      → part (room * i) (n + length g.octets) then.area ≡ part (room * i) n b.area ++ g.octets
  part_laid_lem l size f = part_grown b.area (room * i) n g.octets (omega arith)

  -- and its key is open there then, and in no other slot
  module _ (one : OneSlotEach b.slots) (goes : Goes keys g b i) where
    inside : i < length b.slots
    inside = goes_inside keys key_laws g b (apart_of b.slots one) i goes

    open_then : (h : Segment Key) → h.key ≡ g.key → OpenIn h then i (waits g (n + length g.octets))
    open_then h key =
        let x = waits g (n + length g.octets) in
        let apart = apart_of b.slots one in
        let at : slot_at keys then.slots i ≡ x = get_or-set_same b.slots i x (empty keys) inside in
        record {
          one_each = one_each_of then.slots (apart_set keys b.slots apart i inside x (λ _. goes_sole keys key_laws g b apart i goes));
          here = record { slot = rw (length-set b.slots i x) inside; used = rw at; mine = rw at (sym key) };
          is = at;
        }

    sized_then : length b.area ≡ room * length b.slots → n + length g.octets ≤ room → length then.area ≡ room * length then.slots
    sized_then size f =
        let l = inside in
        splice_length b.area (room * i + n) g.octets (omega arith) ∙ size ∙ ap (λ (m : ℕ). room * m) (sym (length-set b.slots i (waits g (n + length g.octets))))

-- ---- a segment whose key is open in slot i
module _ (g : Segment Key) (b : Box Key) (i : ℕ) (t : Slot Key) (own : OpenIn g b i t) where
  found : slot_of keys g.key b.slots ≡ some i
  found = let h = own.here in slot_sole keys key_laws g.key b.slots (apart_of b.slots own.one_each) i h.slot h.used h.mine

  -- the next number with the slot's choice; number 0 at another next number
  goes_on : g.number ≡ t.next → g.choice ≡ t.choice → LaidBehind g b i t.held (rebuild keys g b)
  goes_on n c = laid_behind g b i t.held (rebuild keys g b) (continue keys g b i found t own.is n c)

  restarts : g.number ≡ 0 → (t.next ≡ 0 → ⊥) → LaidBehind g b i 0 (rebuild keys g b)
  restarts z n = laid_behind g b i 0 (rebuild keys g b) (restart keys g b i found t own.is z n)

  -- where octets are held a restart is answered with fewer
  told_on : g.number ≡ 0 → g.mor ≡ true → 0 < t.held → t.held + length g.octets ≤ room
      → (rebuild keys g b).answer ≡ taken i (t.held + length g.octets) → t.next ≡ 0
  told_on z m h f e =
      by_test (eqb t.next 0) (λ y. eqb-true t.next 0 y) (λ y.
      let anew = ap (λ (d : Done Key). d.answer) ((restarts z (eqb-false t.next 0 y)).more (omega arith) m) in
      let same : taken i (t.held + length g.octets) ≡ taken i (0 + length g.octets) = sym e ∙ anew in
      let n : t.held + length g.octets ≡ 0 + length g.octets = cc in
      absurd (omega arith))

  laid : length b.area ≡ room * length b.slots → g.number ≡ t.next → g.choice ≡ t.choice → t.held + length g.octets ≤ room
      → part (room * i) (t.held + length g.octets) (rebuild keys g b).box.area ≡ part (room * i) t.held b.area ++ g.octets
  laid size n c f =
      let m = t.held + length g.octets in
      let stands = part_laid_lem g b i t.held own.here.slot size f in
      by_test g.mor
      (λ q. ap (λ (d : Done Key). part (room * i) m d.box.area) ((goes_on n c).more f q) ∙ stands)
      (λ q. ap (λ (d : Done Key). part (room * i) m d.box.area) ((goes_on n c).last f q) ∙ stands)

  left : g.mor ≡ true → g.number ≡ t.next → g.choice ≡ t.choice → t.held + length g.octets ≤ room → (rebuild keys g b).box ≡ then g b i t.held
  left m n c f = ap (λ (d : Done Key). d.box) ((goes_on n c).more f m)

-- ---- the record that a segment leaves
awaits_by : (g : Segment Key) (b : Box Key) (i n : ℕ) (w : Answer) (slots : List (Slot Key)) (area : List ℕ) → SegmentChanges g b w slots area → w ≡ taken i n
    → (slot_at keys slots i).next ≡ (g.number + 1) % 256
awaits_by g b i n w slots area c e =
    let l = subst (λ (w : Answer). SegmentChanges g b w slots area) e c in
    rw (l.records, get_or-set_same b.slots i (waits g n) (empty keys) l.slot)

awaits_zero : (g : Segment Key) (b : Box Key) (i n : ℕ) → g.number < 256 → (rebuild keys g b).answer ≡ taken i n
    → ((slot_at keys (rebuild keys g b).box.slots i).next ≡ 0) ↔ (g.number ≡ 255)
awaits_zero g b i n l e =
    let d = rebuild keys g b in
    let next = awaits_by g b i n d.answer d.box.slots d.box.area (segment_does g b) e in
    (λ z. let m : (g.number + 1) % 256 ≡ 0 = sym next ∙ z in omega arith, λ z. next ∙ rw z)

pub zero_goes_on : ZeroGoesOn
zero_goes_on =
    record {
      goes_on = λ g b i t own z n c. goes_on g b i t own (z ∙ sym n) c;
      other_choice_lem = λ g b i t own z n c. other_choice_lem keys g b i (found g b i t own) t own.is (z ∙ sym n) c;
      other_number_lem = λ g b i t own z n. repeated keys g b i (found g b i t own) t own.is z (λ e. z (e ∙ n));
      restarts = restarts;
      exactly = λ g b i t own z m c h f. (told_on g b i t own z m h f, λ n. ap (λ (d : Done Key). d.answer) ((goes_on g b i t own (z ∙ sym n) c).more f m));
      awaits = awaits_zero;
    }

-- ---- a new message of two segments that begins where 0 is awaited
module _ (g h : Segment Key) (b : Box Key) (i : ℕ) (t : Slot Key) (size : length b.area ≡ room * length b.slots) (own : OpenIn g b i t) (key : h.key ≡ g.key)
    (awaited : t.next ≡ 0) (zero : g.number ≡ 0) (mor : g.mor ≡ true) (choice : g.choice ≡ t.choice) (one : h.number ≡ 1) (last : h.mor ≡ false)
    (same : h.choice ≡ t.choice) (fits : t.held + length g.octets + length h.octets ≤ room) where
  abbrev box : Box Key
  box = then g b i t.held

  open_box : OpenIn h box i (waits g (t.held + length g.octets))
  open_box = open_then g b i t.held own.one_each (inl own.here) h key

  second : h.number ≡ (g.number + 1) % 256
  second = one ∙ sym (rw zero)

  both_joined : (let d = rebuild keys h (rebuild keys g b).box in
      let n = t.held + length g.octets + length h.octets in
      (d.answer ≡ completed i n) × (part (room * i) n d.box.area ≡ part (room * i) t.held b.area ++ (g.octets ++ h.octets)))
  both_joined =
      let x = waits g (t.held + length g.octets) in
      rw (left g b i t own mor (zero ∙ sym awaited) choice (omega arith)) (
        ap (λ (d : Done Key). d.answer) ((goes_on h box i x open_box second (same ∙ sym choice)).last fits last),
        laid h box i x open_box (sized_then g b i t.held own.one_each (inl own.here) size (omega arith)) second (same ∙ sym choice) fits
            ∙ ap (λ (l : List ℕ). l ++ h.octets) (part_laid_lem g b i t.held own.here.slot size (omega arith))
            ∙ append_assoc (part (room * i) t.held b.area) g.octets h.octets,
      )

-- the same segment once more finds 1 awaited
comes_again : (g : Segment Key) (b : Box Key) (i : ℕ) (t : Slot Key) → OpenIn g b i t → g.number ≡ 0 → t.next ≡ 0 → g.mor ≡ true → g.choice ≡ t.choice
    → t.held + length g.octets ≤ room → LaidBehind g (rebuild keys g b).box i 0 (rebuild keys g (rebuild keys g b).box)
comes_again g b i t own z n m c f =
    let x = waits g (t.held + length g.octets) in
    let awaits : x.next ≡ 1 = rw z in
    rw (left g b i t own m (z ∙ sym n) c f)
    (restarts g (then g b i t.held) i x (open_then g b i t.held own.one_each (inl own.here) g refl) z (λ e. omega (arith, awaits, e)))

pub joined_there : JoinedThere
joined_there = record { laid = λ g b i t size own z n c f. laid g b i t own size (z ∙ sym n) c f; joined = both_joined; again = comes_again }

-- ---- a message of any number of segments
-- the record of a slot that holds the octets of n of them
abbrev holding : Key → ℕ → ℕ → List ℕ → Slot Key
holding k choice n xs = record { used = true; key = k; next = n % 256; choice = choice; held = length xs }

record Held (b : Box Key) (i : ℕ) (k : Key) (choice n : ℕ) (xs : List ℕ) : Type 0 where
  one_each : OneSlotEach b.slots
  sized : length b.area ≡ room * length b.slots
  inside : i < length b.slots
  is : slot_at keys b.slots i ≡ holding k choice n xs
  octets : part (room * i) (length xs) b.area ≡ xs

module _ (i : ℕ) (k : Key) (choice : ℕ) where
  -- one more with MOR that goes to the slot, behind these octets
  laid_held : (b : Box Key) (g : Segment Key) (n : ℕ) (xs : List ℕ) → OneSlotEach b.slots → length b.area ≡ room * length b.slots → Goes keys g b i
      → g.key ≡ k → g.choice ≡ choice → g.number ≡ n % 256 → length xs + length g.octets ≤ room → part (room * i) (length xs) b.area ≡ xs
      → (rebuild keys g b).box ≡ then g b i (length xs) → Held (rebuild keys g b).box i k choice (n + 1) (xs ++ g.octets)
  laid_held b g n xs one size goes key c number f old e =
      let long : length (xs ++ g.octets) ≡ length xs + length g.octets = length-append xs g.octets in
      let next : (g.number + 1) % 256 ≡ (n + 1) % 256 = sym (next_is g.number) ∙ next_counts n g.number number in
      let O = open_then g b i (length xs) one goes g refl in
      rw e (record {
        one_each = O.one_each;
        sized = sized_then g b i (length xs) one goes size f;
        inside = O.here.slot;
        is = O.is ∙ rw (key, c, next, long);
        octets = rw long (part_laid_lem g b i (length xs) (inside g b i (length xs) one goes) size f ∙ ap (λ (o : List ℕ). o ++ g.octets) old);
      })

  -- the next of them finds the slot
  held_open : (b : Box Key) (n : ℕ) (xs : List ℕ) → Held b i k choice n xs → (g : Segment Key) → g.key ≡ k → OpenIn g b i (holding k choice n xs)
  held_open b n xs H g e = record { one_each = H.one_each; here = record { slot = H.inside; used = rw H.is; mine = rw H.is (sym e) }; is = H.is }

  held_more_lem : (b : Box Key) (n : ℕ) (xs : List ℕ) → Held b i k choice n xs → (g : Segment Key) → g.key ≡ k → g.choice ≡ choice → g.number ≡ n % 256 → g.mor ≡ true
      → length xs + length g.octets ≤ room → Held (rebuild keys g b).box i k choice (n + 1) (xs ++ g.octets)
  held_more_lem b n xs H g key c number m f =
      let O = held_open b n xs H g key in
      laid_held b g n xs H.one_each H.sized (inl O.here) key c number f H.octets (left g b i (holding k choice n xs) O m number c f)

  held_all : (b : Box Key) (n : ℕ) (xs : List ℕ) → Held b i k choice n xs → (gs : List (Segment Key)) → Ahead k choice n gs → length xs + length (joined gs) ≤ room
      → Held (behind b gs) i k choice (n + length gs) (xs ++ joined gs)
  held_all b n xs H [] a f =
      let z : n + 0 ≡ n = omega arith in
      rw (append-nil xs, z) H
  held_all b n xs H (g ∷ gs) a f =
      let long = length-append g.octets (joined gs) in
      let longer = length-append xs g.octets in
      let z : n + 1 + length gs ≡ n + length (g ∷ gs) = omega arith in
      let more = held_more_lem b n xs H g a.0 a.1 a.2 a.3 (omega (arith, f, long)) in
      subst (λ (m : ℕ). Held (behind b (g ∷ gs)) i k choice m (xs ++ joined (g ∷ gs))) z
      (subst (λ (o : List ℕ). Held (behind b (g ∷ gs)) i k choice (n + 1 + length gs) o) (append_assoc xs g.octets (joined gs))
      (held_all (rebuild keys g b).box (n + 1) (xs ++ g.octets) more gs a.4 (omega (arith, f, long, longer))))

  -- the last of them completes
  held_last : (b : Box Key) (n : ℕ) (xs : List ℕ) → Held b i k choice n xs → (h : Segment Key) → h.key ≡ k → h.choice ≡ choice → h.number ≡ n % 256 → h.mor ≡ false
      → length xs + length h.octets ≤ room
      → (let d = rebuild keys h b in
      let m = length xs + length h.octets in
      (d.answer ≡ completed i m) × (part (room * i) m d.box.area ≡ xs ++ h.octets))
  held_last b n xs H h key c number m f =
      let t = holding k choice n xs in
      let O = held_open b n xs H h key in
      (ap (λ (d : Done Key). d.answer) ((goes_on h b i t O number c).last f m), laid h b i t O H.sized number c f ∙ ap (λ (o : List ℕ). o ++ h.octets) H.octets)

-- ---- its first segment: it restarts its key, which does not await 0, or starts it in the lowest free slot
first_laid : (g : Segment Key) (b : Box Key) (i : ℕ) → OneSlotEach b.slots → (AwaitsZero keys g b → ⊥) → Goes keys g b i → g.number ≡ 0 → 0 + length g.octets ≤ room
    → rebuild keys g b ≡ settle keys g i 0 b
first_laid g b i one anew (inl x) z f =
    let own : OpenIn g b i (slot_at keys b.slots i) = record { one_each = one; here = x; is = refl } in
    restart keys g b i (found g b i (slot_at keys b.slots i) own) (slot_at keys b.slots i) refl z (λ n. anew (i, x, n))
    ∙ fitted_on keys g b (some i) 0 (le-ltb room (0 + length g.octets) f)
first_laid g b i one anew (inr x) z f =
    start keys g b i (slot_shut keys key_laws g.key b.slots (λ j l u k. x.0 (j, record { slot = l; used = u; mine = k })))
    (lowest_first (is_free keys) (empty keys) b.slots i x.1.slot (ap non x.1.free) (λ j l. ap non (x.1.below j l))) z f

-- segments of one key go to one slot
open_of_lem : (g h : Segment Key) (b : Box Key) → g.key ≡ h.key → (i : ℕ) → OpenAt keys h b i → OpenAt keys g b i
open_of_lem g h b e i x = record { slot = x.slot; used = x.used; mine = x.mine ∙ sym e }

goes_of : (g h : Segment Key) (b : Box Key) → g.key ≡ h.key → (i : ℕ) → Goes keys h b i → Goes keys g b i
goes_of g h b e i (inl x) = inl (open_of_lem g h b e i x)
goes_of g h b e i (inr x) = inr (λ o. x.0 (o.0, open_of_lem h g b (sym e) o.0 o.1), record { slot = x.1.slot; free = x.1.free; below = x.1.below })

pub any_number_lem : AnyNumber
any_number_lem b i [] h w =
    let f = w.fits in
    let goes = w.slot in
    let done = first_laid h b i w.one_each w.anew goes w.number f ∙ settle_last keys h b i 0 w.last in
    rw done (refl, part_laid_lem h b i 0 (goes_inside keys key_laws h b (apart_of b.slots w.one_each) i goes) w.area f)
any_number_lem b i (g ∷ gs) h w =
    let a = w.ahead in
    let long = length-append g.octets (joined gs) in
    let f = w.fits in
    let goes = goes_of g h b a.0 i w.slot in
    let anew : AwaitsZero keys g b → ⊥ = λ o. w.anew (o.0, open_of_lem h g b (sym a.0) o.0 o.1, o.2) in
    let first = first_laid g b i w.one_each anew goes a.2 (omega (arith, f, long)) ∙ settled_more g b i 0 a.3 in
    let one = laid_held i h.key h.choice b g 0 [] w.one_each w.area goes a.0 a.1 a.2 (omega (arith, f, long)) refl (ap (λ (d : Done Key). d.box) first) in
    let all = held_all i h.key h.choice (rebuild keys g b).box 1 g.octets one gs a.4 (omega (arith, f, long)) in
    let number : h.number ≡ (1 + length gs) % 256 = w.number ∙ ap (λ (m : ℕ). m % 256) (suc_is (length gs)) in
    held_last i h.key h.choice (behind b (g ∷ gs)) (1 + length gs) (joined (g ∷ gs)) all h refl refl number w.last f
  where
    suc_is : (n : ℕ) → suc n ≡ 1 + n
    suc_is n = omega arith
