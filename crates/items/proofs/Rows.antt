-- A run of items is refused with a number exactly when the page's row says so: the good items in front are those that the reading passed.
use Prim.Native.Nat.{ℕ, zero, suc, ◌+◌, ◌≤◌, ◌<◌}
use native.Mathlib.Omega.{arith}
use mathlib.Core.Path.{◌≡◌, refl, sym, ap, subst, ◌∙◌}
use mathlib.Core.Bool.{true, false}
use mathlib.Core.Logic.{◌⊎◌, inl, inr, ◌↔◌}
use mathlib.Core.List.{List, [], ◌∷◌, ◌++◌, append_assoc}
use lib.ListN.{length, drop, length-append, take-append-drop}
use lib.Seq.{get_or-drop, get_or-append-add}
use lib.Dec.{ltb, leb, eqb}
use borrow.Author.Tests.{leb-true, leb-false, ltb-true, ltb-false, eqb-true, eqb-false, lt-leb, le-leb, lt-ltb, le-ltb, eq-eqb, ne_eqb}
use Rattle.octets.specs.Choice.{pick_cases, pick_which, by_test}
use Rattle.octets.specs.Reading.{Octets}
use Rattle.octets.specs.Has.{Has, has_cut, has_left, all_has}
use Rattle.tags.specs.Types.{longest}
use Rattle.tags.specs.Reading.{head_at}
use Rattle.tags.specs.Layout.{Thing, Good, Stands, encode, Valid, tag_of}
use Rattle.tags.specs.Layout.Thing.{application, boolean, context, opening, closing}
use Rattle.tags.specs.Rows.{Given}
use Rattle.tags.specs.Head.{Tag}
use Rattle.tags.specs.Head.Tag.{Item, Opening, Closing, Refused}
use Rattle.tags.proofs.Exact.{encode_some, head_complete, head_sound}
use Rattle.tags.proofs.Refusals.{TagHas}
use Rattle.tags.proofs.Rows.{rows_sound, rows_complete}
use Rattle.items.specs.Records.{Rec}
use Rattle.items.specs.Reading.{Out, more, ending, closes, step, walk, items_of, most_items, deepest}
use Rattle.items.specs.Reading.Out.{good, bad}
use Rattle.items.specs.Grammar.{encode_all, AllValid, record_of}
use Rattle.items.specs.Rows.{Leads, Innermost, Behind, Row}
use Rattle.items.specs.Rows.Behind.{ends_open, one_more, closes_other, opens_deeper, breaks}
use Rattle.items.specs.Rows.Row.{too_long, offends}
use Rattle.items.proofs.Machine.{more_bad, never, walk_ends, walk_steps}
use Rattle.items.specs.OneItem.{Single}
use Rattle.items.proofs.Exact.{simple_step, open_step, close_step}
use Rattle.items.proofs.LeftToRight.{more_refused, out_moved, walk_moved}

-- ---- octets in front and behind
none_left : (o : List ℕ) → length o ≤ 0 → o ≡ []
none_left [] h = refl
none_left (x ∷ o) h = absurd (omega arith)

stands_first : (o xs : List ℕ) → Has o 0 xs → o ≡ xs ++ drop (length xs) o
stands_first o xs h = sym (take-append-drop (length xs) o) ∙ ap (λ (l : List ℕ). l ++ drop (length xs) o) (has_cut o 0 xs h)

octets_left : (o : List ℕ) (n : ℕ) → Octets o → Octets (drop n o)
octets_left o n os i = rw (get_or-drop n o i 0) (os (n + i))

octets_behind : (a b : List ℕ) → Octets (a ++ b) → Octets b
octets_behind a b os i = rw (get_or-append-add a b i 0) at (os (length a + i))

-- ---- a refusal behind other octets
moved_refused : (n : ℕ) (q : Out) (x : ℕ) → out_moved n q ≡ bad x → q ≡ bad x
unfolding out_moved
moved_refused n (good rs end) x e = never x _ _ (sym e)
moved_refused n (bad y) x e = e

module _ (a b : List ℕ) (k : ℕ) (gs : List ℕ) (x : ℕ) where
  seam : 0 + length a ≡ length a + 0
  seam = omega arith

  refused_behind : walk k b 0 gs ≡ bad x → walk k (a ++ b) (0 + length a) gs ≡ bad x
  unfolding out_moved
  refused_behind e = rw (seam, walk_moved a b k 0 gs, e)

  behind_refused : walk k (a ++ b) (0 + length a) gs ≡ bad x → walk k b 0 gs ≡ bad x
  behind_refused e = moved_refused (length a) (walk k b 0 gs) x (sym (walk_moved a b k 0 gs) ∙ (rw seam at e))

-- ---- what is refused breaks a row: from open groups, after i items, the good items in front and what stands behind them
record Found (x i : ℕ) (gs o : List ℕ) : Type 0 where
  things : List Thing
  later : List ℕ
  left : List ℕ
  octets : o ≡ encode_all things ++ left
  valid : AllValid things
  leads : Leads gs things later
  most : i + length things ≤ 2048
  behind : Behind x (i + length things) later left

found_here : (x i : ℕ) (gs o : List ℕ) → i ≤ 2048 → Behind x i gs o → Found x i gs o
unfolding encode_all
found_here x i gs o h b =
    let e : i ≡ i + 0 = omega arith in
    record { things = []; later = gs; left = o; octets = refl; valid = tt; leads = refl; most = omega arith; behind = subst (λ (j : ℕ). Behind x j gs o) e b }

found_end : (x i : ℕ) (gs o : List ℕ) → i ≤ 2048 → length o ≤ 0 → ending 0 gs ≡ bad x → Found x i gs o
unfolding ending
found_end x i [] o h none e = never x _ _ (sym e)
found_end x i (n ∷ outer) o h none e =
    let z : x ≡ 36 = cc in found_here x i (n ∷ outer) o h (ends_open z (none_left o none) (omega arith))

-- an item, and what is found behind it
found_item : (x i : ℕ) (gs o : List ℕ) (t : Thing) → Valid t → Has o 0 (encode t) → (gs' : List ℕ) → ((ts : List Thing) (later : List ℕ) → Leads gs' ts later → Leads gs (t ∷ ts) later)
    → Found x (i + 1) gs' (drop (length (encode t)) o) → Found x i gs o
unfolding encode_all
found_item x i gs o t v h gs' l f =
    let e : i + 1 + length f.things ≡ i + suc (length f.things) = omega arith in
    record {
      things = t ∷ f.things;
      later = f.later;
      left = f.left;
      octets = stands_first o (encode t) h ∙ ap (λ (q : List ℕ). encode t ++ q) f.octets ∙ sym (append_assoc (encode t) (encode_all f.things) f.left);
      valid = (v, f.valid);
      leads = l f.things f.later f.leads;
      most = omega (arith, f.most);
      behind = subst (λ (j : ℕ). Behind x j f.later f.left) e f.behind;
    }

module _ (x k i : ℕ) (c : suc k + i ≡ 2048) (ih : (gs o : List ℕ) → Octets o → length gs ≤ 16 → walk k o 0 gs ≡ bad x → Found x (i + 1) gs o) (gs o : List ℕ) (os : Octets o) (d : length gs ≤ 16) where
  module _ (t : Thing) (v : Valid t) (h : Has o 0 (encode t)) where
    -- the reading goes on behind the item, with these groups open
    onward : (gs' : List ℕ) → length gs' ≤ 16 → ((ts : List Thing) (later : List ℕ) → Leads gs' ts later → Leads gs (t ∷ ts) later) → (rs : List Rec)
        → more rs (walk k o (0 + length (encode t)) gs') ≡ bad x → Found x i gs o
    onward gs' d' l rs e =
        let w = more_refused rs (walk k o (0 + length (encode t)) gs') x e in
        let z = subst (λ (s : List ℕ). walk k s (0 + length (encode t)) gs' ≡ bad x) (stands_first o (encode t) h) w in
        let r : List ℕ = drop (length (encode t)) o in
        found_item x i gs o t v h gs' l (ih gs' r (octets_left o (length (encode t)) os) d' (behind_refused (encode t) r k gs' x z))

    found_simple : Single t → ((ts : List Thing) (later : List ℕ) → Leads gs ts later → Leads gs (t ∷ ts) later) → step (walk k o) (tag_of 0 t) gs ≡ bad x → Found x i gs o
    found_simple p l e = onward gs d l (record_of 0 (length gs) t ∷ []) (sym (simple_step (walk k o) 0 gs t p) ∙ e)

-- a good tag: its item is passed, or is the offence
found_tag : (x k i : ℕ) → suc k + i ≡ 2048 → ((gs o : List ℕ) → Octets o → length gs ≤ 16 → walk k o 0 gs ≡ bad x → Found x (i + 1) gs o)
    → (gs o : List ℕ) → Octets o → length gs ≤ 16 → (t : Thing) → Valid t → Has o 0 (encode t) → step (walk k o) (tag_of 0 t) gs ≡ bad x → Found x i gs o
unfolding step tag_of closes
found_tag x k i c ih gs o os d (application n xs) v h e = found_simple x k i c ih gs o os d (application n xs) v h tt (λ ts later l. l) e
found_tag x k i c ih gs o os d (boolean b) v h e = found_simple x k i c ih gs o os d (boolean b) v h tt (λ ts later l. l) e
found_tag x k i c ih gs o os d (context n xs) v h e = found_simple x k i c ih gs o os d (context n xs) v h tt (λ ts later l. l) e
found_tag x k i c ih gs o os d (opening n) v h e = by (pick_which (leb deepest (length gs)) (bad 37) _ (bad x) (sym (open_step (walk k o) 0 gs n) ∙ e))
  where
    by : ((leb deepest (length gs) ≡ true) × (bad 37 ≡ bad x)) ⊎ ((leb deepest (length gs) ≡ false) × (more (record_of 0 (length gs) (opening n) ∷ []) (walk k o (0 + length (encode (opening n))) (n ∷ gs)) ≡ bad x)) → Found x i gs o
    by (inl (full, z)) = let y : x ≡ 37 = cc in found_here x i gs o (omega arith) (opens_deeper y (omega arith) n (drop (length (encode (opening n))) o) v (stands_first o (encode (opening n)) h) (omega (arith, leb-true deepest (length gs) full)))
    by (inr (fits, w)) = let l : length gs < 16 = leb-false deepest (length gs) fits in onward x k i c ih gs o os d (opening n) v h (n ∷ gs) (omega arith) (λ ts later q. (l, q)) _ w
found_tag x k i c ih [] o os d (closing n) v h e =
    let y : x ≡ 35 = cc in found_here x i [] o (omega arith) (closes_other y (omega arith) n (drop (length (encode (closing n))) o) v (stands_first o (encode (closing n)) h) (λ z. z))
found_tag x k i c ih (m ∷ gs) o os d (closing n) v h e = by (pick_which (eqb n m) _ (bad 35) (bad x) (sym (close_step (walk k o) 0 m gs n) ∙ e))
  where
    by : ((eqb n m ≡ true) × (more (record_of 0 (suc (length gs)) (closing n) ∷ []) (walk k o (0 + length (encode (closing n))) gs) ≡ bad x)) ⊎ ((eqb n m ≡ false) × (bad 35 ≡ bad x)) → Found x i (m ∷ gs) o
    by (inl (same, w)) = onward x k i c ih (m ∷ gs) o os d (closing n) v h gs (omega arith) (λ ts later q. (eqb-true n m same, q)) _ w
    by (inr (other, z)) = let y : x ≡ 35 = cc in found_here x i (m ∷ gs) o (omega arith) (closes_other y (omega arith) n (drop (length (encode (closing n))) o) v (stands_first o (encode (closing n)) h) (eqb-false n m other))

-- a tag: good, or its own row
found_head : (x k i : ℕ) → suc k + i ≡ 2048 → ((gs o : List ℕ) → Octets o → length gs ≤ 16 → walk k o 0 gs ≡ bad x → Found x (i + 1) gs o)
    → (gs o : List ℕ) → Octets o → length gs ≤ 16 → 0 < length o → (u : Tag) → (Good u → Stands o 0 u) → TagHas (λ y. Given y o 0) u → step (walk k o) u gs ≡ bad x → Found x i gs o
unfolding step
found_head x k i c ih gs o os d some (Refused y) f g e =
    let z : y ≡ x = cc in found_here x i gs o (omega arith) (breaks (omega arith) some (subst (λ n. Given n o 0) z g))
found_head x k i c ih gs o os d some (Item a n v p l) f g e =
    let s = f tt in found_tag x k i c ih gs o os d s.0 s.1 s.2 (subst (λ (u : Tag). step (walk k o) u gs ≡ bad x) s.3 e)
found_head x k i c ih gs o os d some (Opening n p) f g e =
    let s = f tt in found_tag x k i c ih gs o os d s.0 s.1 s.2 (subst (λ (u : Tag). step (walk k o) u gs ≡ bad x) s.3 e)
found_head x k i c ih gs o os d some (Closing n p) f g e =
    let s = f tt in found_tag x k i c ih gs o os d s.0 s.1 s.2 (subst (λ (u : Tag). step (walk k o) u gs ≡ bad x) s.3 e)

found : (x k i : ℕ) → k + i ≡ 2048 → (gs o : List ℕ) → Octets o → length gs ≤ 16 → walk k o 0 gs ≡ bad x → Found x i gs o
unfolding walk
found x zero i c gs o os d =
    pick_cases (λ (q : Out). q ≡ bad x → Found x i gs o) (leb (length o) 0)
    (λ h e. found_end x i gs o (omega arith) (leb-true (length o) 0 h) e)
    (λ h e. let z : x ≡ 38 = cc in found_here x i gs o (omega arith) (one_more z (omega arith) (leb-false (length o) 0 h)))
found x (suc k) i c gs o os d =
    pick_cases (λ (q : Out). q ≡ bad x → Found x i gs o) (leb (length o) 0)
    (λ h e. found_end x i gs o (omega arith) (leb-true (length o) 0 h) e)
    (λ h e. found_head x k i c (found x k (i + 1) (omega arith)) gs o os d (leb-false (length o) 0 h) (head_at o 0) (head_sound o os 0) (rows_sound o os 0) e)

-- ---- and what breaks a row is refused so
module _ (t : Thing) (v : Valid t) (b : List ℕ) where
  some_first : 0 < length (encode t ++ b)
  some_first = omega (arith, encode_some t, length-append (encode t) b)

  head_first : head_at (encode t ++ b) 0 ≡ tag_of 0 t
  head_first = head_complete (encode t ++ b) 0 t v (has_left (encode t ++ b) 0 (encode t) b (omega arith) (all_has (encode t ++ b)))

  read_first : (k : ℕ) (gs : List ℕ) → walk (suc k) (encode t ++ b) 0 gs ≡ step (walk k (encode t ++ b)) (tag_of 0 t) gs
  read_first k gs = walk_steps k (encode t ++ b) 0 gs some_first ∙ rw head_first

closes_refused : (k n : ℕ) → Valid (closing n) → (b gs : List ℕ) → (Innermost n gs → ⊥) → walk (suc k) (encode (closing n) ++ b) 0 gs ≡ bad 35
unfolding step tag_of closes
closes_refused k n v b [] other = read_first (closing n) v b k []
closes_refused k n v b (m ∷ gs) other = read_first (closing n) v b k (m ∷ gs) ∙ close_step (walk k (encode (closing n) ++ b)) 0 m gs n ∙ rw (ne_eqb n m other)

opens_refused : (k n : ℕ) → Valid (opening n) → (b gs : List ℕ) → length gs ≡ 16 → walk (suc k) (encode (opening n) ++ b) 0 gs ≡ bad 37
opens_refused k n v b gs e = read_first (opening n) v b k gs ∙ open_step (walk k (encode (opening n) ++ b)) 0 gs n ∙ rw (le-leb deepest (length gs) (omega arith))

ends_refused : (k : ℕ) (gs : List ℕ) → 0 < length gs → walk k [] 0 gs ≡ bad 36
unfolding ending
ends_refused k [] h = absurd (omega arith)
ends_refused k (n ∷ outer) h = walk_ends k [] 0 (n ∷ outer) (omega arith)

tag_refused : (k : ℕ) (gs r : List ℕ) (x : ℕ) → Octets r → 0 < length r → Given x r 0 → walk (suc k) r 0 gs ≡ bad x
unfolding step
tag_refused k gs r x os some g = walk_steps k r 0 gs some ∙ rw (rows_complete r os 0 x g)

full_refused : (gs r : List ℕ) → 0 < length r → walk zero r 0 gs ≡ bad 38
unfolding walk
full_refused gs r some = rw (lt-leb (length r) 0 some)

behind_is : (x k i : ℕ) (gs r : List ℕ) → k + i ≡ 2048 → Octets r → Behind x i gs r → walk k r 0 gs ≡ bad x
behind_is x k i gs r c os (ends_open e none h) = rw (e, none) (ends_refused k gs h)
behind_is x zero i gs r c os (one_more e full some) = rw e (full_refused gs r some)
behind_is x (suc k) i gs r c os (one_more e full some) = absurd (omega arith)
behind_is x zero i gs r c os (closes_other e fewer n b v o other) = absurd (omega arith)
behind_is x (suc k) i gs r c os (closes_other e fewer n b v o other) = rw (e, o) (closes_refused k n v b gs other)
behind_is x zero i gs r c os (opens_deeper e fewer n b v o full) = absurd (omega arith)
behind_is x (suc k) i gs r c os (opens_deeper e fewer n b v o full) = rw (e, o) (opens_refused k n v b gs full)
behind_is x zero i gs r c os (breaks fewer some g) = absurd (omega arith)
behind_is x (suc k) i gs r c os (breaks fewer some g) = tag_refused k gs r x os some g

module _ (x k : ℕ) (t : Thing) (v : Valid t) (b : List ℕ) where
  -- what is refused behind an item is refused
  passes : (gs gs' : List ℕ) (rs : List Rec) → step (walk k (encode t ++ b)) (tag_of 0 t) gs ≡ more rs (walk k (encode t ++ b) (0 + length (encode t)) gs') → walk k b 0 gs' ≡ bad x
      → walk (suc k) (encode t ++ b) 0 gs ≡ bad x
  passes gs gs' rs e w = read_first t v b k gs ∙ e ∙ rw (refused_behind (encode t) b k gs' x w) (more_bad rs x)

  passes_simple : (gs : List ℕ) → Single t → walk k b 0 gs ≡ bad x → walk (suc k) (encode t ++ b) 0 gs ≡ bad x
  passes_simple gs p w = passes gs gs _ (simple_step (walk k (encode t ++ b)) 0 gs t p) w

-- one item more in front
refused_first : (x k : ℕ) (t : Thing) (ts : List Thing) (gs later b : List ℕ) → Valid t → Leads gs (t ∷ ts) later → ((gs' : List ℕ) → Leads gs' ts later → walk k b 0 gs' ≡ bad x)
    → walk (suc k) (encode t ++ b) 0 gs ≡ bad x
refused_first x k (application n xs) ts gs later b v l ih = passes_simple x k (application n xs) v b gs tt (ih gs l)
refused_first x k (boolean a) ts gs later b v l ih = passes_simple x k (boolean a) v b gs tt (ih gs l)
refused_first x k (context n xs) ts gs later b v l ih = passes_simple x k (context n xs) v b gs tt (ih gs l)
refused_first x k (opening n) ts gs later b v l ih =
    passes x k (opening n) v b gs (n ∷ gs) (record_of 0 (length gs) (opening n) ∷ []) (open_step (walk k (encode (opening n) ++ b)) 0 gs n ∙ rw (lt-leb deepest (length gs) l.0)) (ih (n ∷ gs) l.1)
refused_first x k (closing n) ts [] later b v l ih = absurd l
refused_first x k (closing n) ts (m ∷ gs) later b v l ih =
    passes x k (closing n) v b (m ∷ gs) gs (record_of 0 (suc (length gs)) (closing n) ∷ []) (close_step (walk k (encode (closing n) ++ b)) 0 m gs n ∙ rw (eq-eqb n m l.0)) (ih gs l.1)

refused : (x k i : ℕ) (gs : List ℕ) (ts : List Thing) (later r : List ℕ) → k + i ≡ 2048 → AllValid ts → Leads gs ts later → Octets r → i + length ts ≤ 2048
    → Behind x (i + length ts) later r → walk k (encode_all ts ++ r) 0 gs ≡ bad x
unfolding encode_all
refused x k i gs [] later r c v l os h b = rw l (behind_is x k (i + 0) later r (omega arith) os b)
refused x zero i gs (t ∷ ts) later r c v l os h b = absurd (omega arith)
refused x (suc k) i gs (t ∷ ts) later r c v l os h b =
    let e : i + suc (length ts) ≡ i + 1 + length ts = omega arith in
    let w : Behind x (i + 1 + length ts) later r = subst (λ (j : ℕ). Behind x j later r) e b in
    rw (append_assoc (encode t) (encode_all ts) r)
    (refused_first x k t ts gs later (encode_all ts ++ r) v.0 l (λ gs' q. refused x k (i + 1) gs' ts later r (omega arith) v.1 q os (omega arith) w))

-- ---- "No. | Given exactly when", over a run of items
row_of : (x : ℕ) (o : List ℕ) → length o ≤ 16384 → Found x 0 [] o → Row x o
row_of x o short f =
    let e : 0 + length f.things ≡ length f.things = omega arith in
    offends short f.things f.later f.left (record { octets = f.octets; valid = f.valid; leads = f.leads; most = omega (arith, f.most) })
    (subst (λ (j : ℕ). Behind x j f.later f.left) e f.behind)

row_is : (x : ℕ) (o : List ℕ) → Octets o → Row x o → items_of o ≡ bad x
unfolding items_of
row_is x o os (too_long e long) = rw (lt-ltb longest (length o) long, e)
row_is x o os (offends short ts gs r f b) =
    let e : length ts ≡ 0 + length ts = omega arith in
    let left : Octets r = octets_behind (encode_all ts) r (subst Octets f.octets os) in
    let w = refused x most_items 0 [] ts gs r (omega arith) f.valid f.leads left (omega (arith, f.most)) (subst (λ (j : ℕ). Behind x j gs r) e b) in
    rw (le-ltb longest (length o) short) (subst (λ (s : List ℕ). walk most_items s 0 [] ≡ bad x) (sym f.octets) w)

pub rows_exact : (o : List ℕ) → Octets o → (x : ℕ) → (items_of o ≡ bad x) ↔ Row x o
unfolding items_of
rows_exact o os x = (
  λ e. by_test (ltb longest (length o)) (λ h. let z : bad 39 ≡ bad x = rw h at e in let y : x ≡ 39 = cc in too_long y (ltb-true longest (length o) h)) (λ h.
      row_of x o (ltb-false longest (length o) h) (found x most_items 0 (omega arith) [] o os (omega arith) (rw h at e))),
  row_is x o os,
)

-- two rows that a run breaks have one number
pub rows_one : (o : List ℕ) → Octets o → (x y : ℕ) → Row x o → Row y o → x ≡ y
rows_one o os x y a b = let e : bad x ≡ bad y = sym (row_is x o os a) ∙ row_is y o os b in cc
