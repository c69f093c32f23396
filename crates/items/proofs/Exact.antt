-- The octets that are read as items are exactly those that lists of good items are written as.
use Prim.Native.Nat.{ℕ, zero, suc, ◌+◌, ◌-◌, ◌≤◌, ◌<◌}
use native.Mathlib.Omega.{arith}
use native.Mathlib.Numerals.{add-one}
use mathlib.Core.Path.{◌≡◌, refl, sym, ap, subst, ◌∙◌}
use mathlib.Core.List.{List, [], ◌∷◌, ◌++◌}
use lib.ListN.{length, length-append}
use lib.Dec.{ltb, leb, eqb}
use borrow.Author.Tests.{leb-true, leb-false, ltb-false, lt-leb, le-ltb, eq-eqb, eqb-true, ne_eqb}
use Rattle.octets.specs.Choice.{pick, pick_cases, pick_not, pick_so}
use Rattle.octets.specs.Reading.{Octets}
use Rattle.octets.specs.Has.{Has, has_bound, has_append, has_left, has_right, has_all, all_has, has_cut}
use Rattle.octets.specs.Exact.{Exactly}
use Rattle.tags.specs.Types.{longest}
use Rattle.tags.specs.Reading.{head_at}
use Rattle.tags.specs.Layout.{Thing, Good, encode, Valid, tag_of, tag_length}
use Rattle.tags.specs.Layout.Thing.{application, boolean, context, opening, closing}
use Rattle.tags.specs.Head.{Tag}
use Rattle.tags.specs.Head.Tag.{Item, Opening, Closing, Refused}
use Rattle.tags.proofs.Exact.{encode_length, encode_some, contents_stand, head_complete, head_sound}
use Rattle.items.specs.Records.{Rec, thing_of, things_of}
use Rattle.items.specs.Reading.{Out, more, ending, closes, step, walk, items_of, most_items, deepest}
use Rattle.items.specs.Reading.Out.{good, bad}
use Rattle.items.specs.Grammar.{encode_all, Balanced, AllValid, Grammar, record_of, depth_after, records_from, Reads}
use Rattle.items.specs.OneItem.{Single}
use Rattle.items.proofs.Machine.{more_records, more_good, never, walk_ends, walk_steps}

-- what reading an item's own tag does
pub simple_step : (rest : ℕ → List ℕ → Out) (at : ℕ) (groups : List ℕ) (t : Thing) → Single t → step rest (tag_of at t) groups ≡ more (record_of at (length groups) t ∷ []) (rest (at + length (encode t)) groups)
unfolding step tag_of record_of
simple_step rest at groups (application n xs) p = let e : at + length (encode (application n xs)) ≡ at + tag_length (application n xs) + length xs = omega (arith, encode_length (application n xs)) in rw e
simple_step rest at groups (boolean v) p = let e : at + length (encode (boolean v)) ≡ at + tag_length (boolean v) + 0 = omega (arith, encode_length (boolean v)) in rw e
simple_step rest at groups (context n xs) p = let e : at + length (encode (context n xs)) ≡ at + tag_length (context n xs) + length xs = omega (arith, encode_length (context n xs)) in rw e
simple_step rest at groups (opening n) p = absurd p
simple_step rest at groups (closing n) p = absurd p

pub open_step : (rest : ℕ → List ℕ → Out) (at : ℕ) (groups : List ℕ) (n : ℕ) → step rest (tag_of at (opening n)) groups ≡ pick (leb deepest (length groups)) (bad 37) (more (record_of at (length groups) (opening n) ∷ []) (rest (at + length (encode (opening n))) (n ∷ groups)))
unfolding step tag_of record_of
open_step rest at groups n = let e : at + length (encode (opening n)) ≡ at + tag_length (opening n) = omega (arith, encode_length (opening n)) in rw e

pub close_step : (rest : ℕ → List ℕ → Out) (at m : ℕ) (groups : List ℕ) (n : ℕ) → step rest (tag_of at (closing n)) (m ∷ groups) ≡ pick (eqb n m) (more (record_of at (suc (length groups)) (closing n) ∷ []) (rest (at + length (encode (closing n))) groups)) (bad 35)
unfolding step tag_of record_of closes
close_step rest at m groups n =
    let e : at + length (encode (closing n)) ≡ at + tag_length (closing n) = omega (arith, encode_length (closing n)) in
    let d : suc (length groups) - 1 ≡ length groups = omega arith in
    rw (e, d)

pub simple_depth : (d : ℕ) (t : Thing) → Single t → depth_after d t ≡ d
simple_depth d (application n xs) p = refl
simple_depth d (boolean v) p = refl
simple_depth d (context n xs) p = refl
simple_depth d (opening n) p = absurd p
simple_depth d (closing n) p = absurd p

-- Written items read back.
module _ (s : List ℕ) (at : ℕ) (t : Thing) (ts : List Thing) (v : Valid t) (h : Has s at (encode t ++ encode_all ts)) (e : at + length (encode t ++ encode_all ts) ≡ length s) where
  begins_here : at < length s
  begins_here = omega (arith, encode_some t, length-append (encode t) (encode_all ts))

  head_is : head_at s at ≡ tag_of at t
  head_is = head_complete s at t v (has_left s at (encode t) (encode_all ts) (omega (arith, begins_here)) h)

  -- what holds once the rest stands behind the item and ends the octets
  onward : {X : Type 0} → (Has s (at + length (encode t)) (encode_all ts) → at + length (encode t) + length (encode_all ts) ≡ length s → X) → X
  onward f = f (has_right s at (encode t) (encode_all ts) h) (omega (arith, length-append (encode t) (encode_all ts)))

  read_here : (k : ℕ) (groups : List ℕ) → walk (suc k) s at groups ≡ step (walk k s) (tag_of at t) groups
  read_here k groups = walk_steps k s at groups begins_here ∙ rw head_is

  read_simple : (k : ℕ) (groups : List ℕ) → Single t → walk k s (at + length (encode t)) groups ≡ good (records_from (at + length (encode t)) (length groups) ts) (length s) → walk (suc k) s at groups ≡ good (records_from at (length groups) (t ∷ ts)) (length s)
  unfolding records_from
  read_simple k groups p ih = read_here k groups ∙ rw (simple_step (walk k s) at groups t p, ih, simple_depth (length groups) t p, more_records)

pub complete : (k : ℕ) (s : List ℕ) (at : ℕ) (groups : List ℕ) (ts : List Thing) → Balanced k groups ts → AllValid ts → Has s at (encode_all ts) → at + length (encode_all ts) ≡ length s → walk k s at groups ≡ good (records_from at (length groups) ts) (length s)
unfolding encode_all records_from ending
complete k s at [] [] b v h e = let z : at ≡ length s = omega arith in walk_ends k s at [] (omega arith) ∙ rw z
complete k s at (n ∷ groups) [] b v h e = absurd b
complete zero s at groups (t ∷ ts) b v h e = absurd b
complete (suc k) s at groups (application n xs ∷ ts) b v h e =
    let t = application n xs in read_simple s at t ts v.0 h e k groups tt (onward s at t ts v.0 h e (complete k s (at + length (encode t)) groups ts b v.1))
complete (suc k) s at groups (boolean x ∷ ts) b v h e =
    let t = boolean x in read_simple s at t ts v.0 h e k groups tt (onward s at t ts v.0 h e (complete k s (at + length (encode t)) groups ts b v.1))
complete (suc k) s at groups (context n xs ∷ ts) b v h e =
    let t = context n xs in read_simple s at t ts v.0 h e k groups tt (onward s at t ts v.0 h e (complete k s (at + length (encode t)) groups ts b v.1))
complete (suc k) s at groups (opening n ∷ ts) b v h e =
    let t = opening n in
    let ih = onward s at t ts v.0 h e (complete k s (at + length (encode t)) (n ∷ groups) ts b.1 v.1) in
    read_here s at t ts v.0 h e k groups ∙ open_step (walk k s) at groups n ∙ rw (lt-leb deepest (length groups) b.0, ih, add-one (length groups), more_records)
complete (suc k) s at [] (closing n ∷ ts) b v h e = absurd b
complete (suc k) s at (m ∷ groups) (closing n ∷ ts) b v h e =
    let t = closing n in
    let ih = onward s at t ts v.0 h e (complete k s (at + length (encode t)) groups ts b.1 v.1) in
    let d : suc (length groups) - 1 ≡ length groups = omega arith in
    read_here s at t ts v.0 h e k (m ∷ groups) ∙ close_step (walk k s) at m groups n ∙ rw (eq-eqb n m b.0, ih, d, more_records)

-- Octets that are read were written so: the items that stand there, from open groups to none.
pub record Found (k : ℕ) (s : List ℕ) (at : ℕ) (groups : List ℕ) (rs : List Rec) (end : ℕ) : Type 0 where
  pub things : List Thing
  pub balanced : Balanced k groups things
  pub valid : AllValid things
  pub stands : Has s at (encode_all things)
  pub ends : at + length (encode_all things) ≡ length s
  pub records : rs ≡ records_from at (length groups) things
  pub last : end ≡ length s

found_none : (k : ℕ) (s : List ℕ) (at : ℕ) (groups : List ℕ) (rs : List Rec) (end : ℕ) → at ≤ length s → length s ≤ at → ending at groups ≡ good rs end → Found k s at groups rs end
unfolding ending encode_all records_from
found_none k s at [] rs end a b e =
    let z : at ≡ end = cc in
    record { things = []; balanced = tt; valid = tt; stands = a; ends = omega arith; records = (let q : rs ≡ [] = cc in q); last = omega arith }
found_none k s at (n ∷ groups) rs end a b e = never 36 rs end e

module _ (s : List ℕ) (k : ℕ) (ih : (at : ℕ) (groups : List ℕ) (rs : List Rec) (end : ℕ) → at ≤ length s → walk k s at groups ≡ good rs end → Found k s at groups rs end) where
  module _ (at : ℕ) (t : Thing) (v : Valid t) (h : Has s at (encode t)) (groups : List ℕ) (rs : List Rec) (end : ℕ) where
    -- an item, and what is found behind it
    found_more : (behind : List ℕ) → length behind ≡ depth_after (length groups) t → ((ts : List Thing) → Balanced k behind ts → Balanced (suc k) groups (t ∷ ts))
        → more (record_of at (length groups) t ∷ []) (walk k s (at + length (encode t)) behind) ≡ good rs end → Found (suc k) s at groups rs end
    unfolding encode_all records_from
    found_more behind d b e =
        let m = more_good (record_of at (length groups) t) (walk k s (at + length (encode t)) behind) rs end e in
        let f = ih (at + length (encode t)) behind m.0 end (has_bound s at (encode t) h) m.1 in
        record {
          things = t ∷ f.things;
          balanced = b f.things f.balanced;
          valid = (v, f.valid);
          stands = has_append s at (encode t) (encode_all f.things) h f.stands;
          ends = omega (arith, length-append (encode t) (encode_all f.things), f.ends);
          records = m.2 ∙ ap (λ (q : List Rec). record_of at (length groups) t ∷ q) (f.records ∙ ap (λ (x : ℕ). records_from (at + length (encode t)) x f.things) d);
          last = f.last;
        }

    found_simple : Single t → ((ts : List Thing) → Balanced k groups ts → Balanced (suc k) groups (t ∷ ts)) → step (walk k s) (tag_of at t) groups ≡ good rs end → Found (suc k) s at groups rs end
    found_simple p b e = found_more groups (sym (simple_depth (length groups) t p)) b (sym (simple_step (walk k s) at groups t p) ∙ e)

  found_tag : (at : ℕ) (t : Thing) → Valid t → Has s at (encode t) → (groups : List ℕ) (rs : List Rec) (end : ℕ) → step (walk k s) (tag_of at t) groups ≡ good rs end → Found (suc k) s at groups rs end
  unfolding step tag_of closes
  found_tag at (application n xs) v h groups rs end e = found_simple at (application n xs) v h groups rs end tt (λ ts b. b) e
  found_tag at (boolean x) v h groups rs end e = found_simple at (boolean x) v h groups rs end tt (λ ts b. b) e
  found_tag at (context n xs) v h groups rs end e = found_simple at (context n xs) v h groups rs end tt (λ ts b. b) e
  found_tag at (opening n) v h groups rs end e =
      let w = pick_not (leb deepest (length groups)) (bad 37) _ (good rs end) (never 37 rs end) (sym (open_step (walk k s) at groups n) ∙ e) in
      found_more at (opening n) v h groups rs end (n ∷ groups) (omega arith) (λ ts b. (leb-false deepest (length groups) w.0, b)) w.1
  found_tag at (closing n) v h [] rs end e = never 35 rs end e
  found_tag at (closing n) v h (m ∷ groups) rs end e =
      let w = pick_so (eqb n m) _ (bad 35) (good rs end) (never 35 rs end) (sym (close_step (walk k s) at m groups n) ∙ e) in
      found_more at (closing n) v h (m ∷ groups) rs end groups (omega arith) (λ ts b. (eqb-true n m w.0, b)) w.1

-- a reading that goes on past a head was refused nothing there
pub good_head : (rest : ℕ → List ℕ → Out) (u : Tag) (groups : List ℕ) (rs : List Rec) (end : ℕ) → step rest u groups ≡ good rs end → Good u
unfolding step
good_head rest (Item c n v p l) groups rs end e = tt
good_head rest (Opening n p) groups rs end e = tt
good_head rest (Closing n p) groups rs end e = tt
good_head rest (Refused x) groups rs end e = never x rs end e

module _ (s : List ℕ) (os : Octets s) where
  found_here : (k at : ℕ) (groups : List ℕ) (rs : List Rec) (end : ℕ) → ((at : ℕ) (groups : List ℕ) (rs : List Rec) (end : ℕ) → at ≤ length s → walk k s at groups ≡ good rs end → Found k s at groups rs end)
      → step (walk k s) (head_at s at) groups ≡ good rs end → Found (suc k) s at groups rs end
  found_here k at groups rs end ih e =
      let r = head_sound s os at (good_head (walk k s) (head_at s at) groups rs end e) in
      found_tag s k ih at r.0 r.1 r.2 groups rs end (rw r.3 at e)

  pub sound : (k at : ℕ) (groups : List ℕ) (rs : List Rec) (end : ℕ) → at ≤ length s → walk k s at groups ≡ good rs end → Found k s at groups rs end
  unfolding walk
  sound zero at groups rs end a =
      pick_cases (λ (o : Out). o ≡ good rs end → Found zero s at groups rs end) (leb (length s) at)
      (λ h e. found_none zero s at groups rs end a (leb-true _ _ h) e)
      (λ _ e. never 38 rs end e)
  sound (suc k) at groups rs end a =
      pick_cases (λ (o : Out). o ≡ good rs end → Found (suc k) s at groups rs end) (leb (length s) at)
      (λ h e. found_none (suc k) s at groups rs end a (leb-true _ _ h) e)
      (λ _ e. found_here k at groups rs end (sound k) e)

-- The items that the records name are those that stand there.
thing_named : (s : List ℕ) (at d : ℕ) (t : Thing) → Valid t → Has s at (encode t) → thing_of s (record_of at d t) ≡ t
unfolding thing_of record_of
thing_named s at d (application n xs) v h = rw (ne_eqb n 1 v.other, has_cut s (at + tag_length (application n xs)) xs (contents_stand s at (application n xs) h))
thing_named s at d (boolean x) v h = refl
thing_named s at d (context n xs) v h = rw (has_cut s (at + tag_length (context n xs)) xs (contents_stand s at (context n xs) h))
thing_named s at d (opening n) v h = refl
thing_named s at d (closing n) v h = refl

pub things_named : (s : List ℕ) (at d : ℕ) (ts : List Thing) → AllValid ts → Has s at (encode_all ts) → at ≤ length s → things_of s (records_from at d ts) ≡ ts
unfolding things_of records_from encode_all
things_named s at d [] v h a = refl
things_named s at d (t ∷ ts) v h a =
    let k = has_left s at (encode t) (encode_all ts) a h in
    rw (thing_named s at d t v.0 k, things_named s (at + length (encode t)) (depth_after d t) ts v.1 (has_right s at (encode t) (encode_all ts) h) (has_bound s at (encode t) k))

pub records_named : (ts : List Thing) → Grammar ts → things_of (encode_all ts) (records_from 0 0 ts) ≡ ts
records_named ts g = things_named (encode_all ts) 0 0 ts g.valid (all_has (encode_all ts)) (omega arith)

-- what octets that are read as items are: written from items of the grammar, of which the records are the reading's
pub record Written (o : List ℕ) (rs : List Rec) (end : ℕ) : Type 0 where
  pub things : List Thing
  pub grammar : Grammar things
  pub octets : o ≡ encode_all things
  pub records : rs ≡ records_from 0 0 things
  pub named : things_of o rs ≡ things
  pub last : end ≡ length o

pub written : (o : List ℕ) → Octets o → (rs : List Rec) (end : ℕ) → items_of o ≡ good rs end → Written o rs end
unfolding items_of
written o os rs end e =
    let w = pick_not (ltb longest (length o)) (bad 39) (walk most_items o 0 []) (good rs end) (never 39 rs end) e in
    let f = sound o os most_items 0 [] rs end (omega arith) w.1 in
    let q : o ≡ encode_all f.things = has_all o (encode_all f.things) f.stands (omega (arith, f.ends)) in
    record {
      things = f.things;
      grammar = record { valid = f.valid; balanced = f.balanced; short = omega (arith, ltb-false longest (length o) w.0, f.ends) };
      octets = q;
      records = f.records;
      named = ap (things_of o) f.records ∙ (things_named o 0 0 f.things f.valid f.stands (omega arith));
      last = f.last;
    }

pub reads : (ts : List Thing) → Grammar ts → items_of (encode_all ts) ≡ good (records_from 0 0 ts) (length (encode_all ts))
unfolding items_of
reads ts g = rw (le-ltb longest (length (encode_all ts)) g.short) (complete most_items (encode_all ts) 0 [] ts g.balanced g.valid (all_has (encode_all ts)) (omega arith))

-- Octets are read as these items exactly when the items keep the grammar and the octets are their layout.
pub exact : Exactly Reads Grammar encode_all
exact =
    record {
      sound = λ o ts os r. let w = written o os r.records (length o) r.accepted in let e : w.things ≡ ts = sym w.named ∙ r.named in (subst Grammar e w.grammar, w.octets ∙ ap encode_all e);
      complete = λ ts g. record { records = records_from 0 0 ts; accepted = reads ts g; named = records_named ts g };
    }

-- the records of a reading are those of the items that they name, and it ends with the octets
pub records_are : (o : List ℕ) → Octets o → (rs : List Rec) (end : ℕ) → items_of o ≡ good rs end → (rs ≡ records_from 0 0 (things_of o rs)) × (end ≡ length o)
records_are o os rs end e = let w = written o os rs end e in (w.records ∙ ap (records_from 0 0) (sym w.named), w.last)
