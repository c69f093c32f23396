-- One item is read at a place exactly when one whole item stands there: its octets, its end and its records.
use Prim.Native.Nat.{ℕ, zero, suc, ◌+◌, ◌-◌, ◌≤◌, ◌<◌}
use native.Mathlib.Omega.{arith}
use mathlib.Core.Path.{◌≡◌, refl, sym, ap, subst, ◌∙◌}
use mathlib.Core.Logic.{◌↔◌}
use mathlib.Core.List.{List, [], ◌∷◌, ◌++◌}
use lib.ListN.{length, length-append}
use lib.Dec.{leb, eqb}
use borrow.Author.Tests.{leb-false, lt-leb, eq-eqb, eqb-true}
use Rattle.octets.specs.Choice.{pick_not, pick_so}
use Rattle.octets.specs.Reading.{Octets}
use Rattle.octets.specs.Has.{Has, has_bound, has_append, has_left, has_right}
use Rattle.tags.specs.Types.{longest}
use Rattle.tags.specs.Reading.{head_at}
use Rattle.tags.specs.Layout.{Thing, encode, Valid, tag_of}
use Rattle.tags.specs.Layout.Thing.{application, boolean, context, opening, closing}
use Rattle.tags.proofs.Exact.{encode_some, head_complete, head_sound}
use Rattle.items.specs.Records.{Rec}
use Rattle.items.specs.Reading.{Out, more, closes, step, within, item_at, one_at, most_items, deepest}
use Rattle.items.specs.Reading.Out.{good, bad}
use Rattle.items.specs.Grammar.{encode_all, AllValid, record_of, depth_after, records_from}
use Rattle.items.specs.OneItem.{Single, StandsOne}
use Rattle.items.proofs.Machine.{more_records, more_good, never, within_done}
use Rattle.items.proofs.Longest.{one_within, one_read}
use Rattle.items.proofs.Closing.{Behind, Closing, none_closed, behind_one, behind_balanced, one_first}
use Rattle.items.proofs.Exact.{simple_step, open_step, close_step, simple_depth, good_head}

-- ---- the items that stand somewhere, and what the reading gives of them
abbrev good_of : ℕ → ℕ → List Thing → Out
good_of at d ts = good (records_from at d ts) (at + length (encode_all ts))

abbrev Standing : List ℕ → ℕ → List Thing → Type 0
Standing s at ts = AllValid ts × Has s at (encode_all ts)

-- ---- written items read back: over any reading `rest` of which P says what follows
module _ (s : List ℕ) (P : List ℕ → List Thing → Type 0) (rest : ℕ → List ℕ → Out)
    (ih : (at : ℕ) (groups : List ℕ) (ts : List Thing) → P groups ts → Standing s at ts → rest at groups ≡ good_of at (length groups) ts) where
  module _ (at : ℕ) (t : Thing) (ts : List Thing) (w : Standing s at (t ∷ ts)) where
    -- the rest, behind the item
    follows : (groups : List ℕ) → P groups ts → rest (at + length (encode t)) groups ≡ good_of (at + length (encode t)) (length groups) ts
    unfolding encode_all
    follows groups p = ih (at + length (encode t)) groups ts p (w.0.1, has_right s at (encode t) (encode_all ts) w.1)

    -- the item's record in front of the rest's
    joins : (d e : ℕ) → e ≡ depth_after d t → more (record_of at d t ∷ []) (good_of (at + length (encode t)) e ts) ≡ good_of at d (t ∷ ts)
    unfolding encode_all records_from
    joins d e q =
        let z : at + length (encode t) + length (encode_all ts) ≡ at + length (encode t ++ encode_all ts) = omega (arith, length-append (encode t) (encode_all ts)) in
        rw (more_records, q, z)

    reads_single : (groups : List ℕ) → Single t → P groups ts → step rest (tag_of at t) groups ≡ good_of at (length groups) (t ∷ ts)
    reads_single groups p c = simple_step rest at groups t p ∙ rw (follows groups c) (joins (length groups) (length groups) (sym (simple_depth (length groups) t p)))

  reads_tag : (at : ℕ) (groups : List ℕ) (t : Thing) (ts : List Thing) → Behind P groups t ts → Standing s at (t ∷ ts) → step rest (tag_of at t) groups ≡ good_of at (length groups) (t ∷ ts)
  reads_tag at groups (application n xs) ts b w = reads_single at (application n xs) ts w groups tt b
  reads_tag at groups (boolean v) ts b w = reads_single at (boolean v) ts w groups tt b
  reads_tag at groups (context n xs) ts b w = reads_single at (context n xs) ts w groups tt b
  reads_tag at groups (opening n) ts b w =
      open_step rest at groups n ∙ rw (lt-leb deepest (length groups) b.0, follows at (opening n) ts w (n ∷ groups) b.1) (joins at (opening n) ts w (length groups) (suc (length groups)) (omega arith))
  reads_tag at [] (closing n) ts b w = absurd b
  reads_tag at (m ∷ groups) (closing n) ts b w =
      close_step rest at m groups n ∙ rw (eq-eqb n m b.0, follows at (closing n) ts w groups b.1) (joins at (closing n) ts w (suc (length groups)) (length groups) (omega arith))

  reads_here : (at : ℕ) (groups : List ℕ) (t : Thing) (ts : List Thing) → Behind P groups t ts → Standing s at (t ∷ ts) → at ≤ length s → step rest (head_at s at) groups ≡ good_of at (length groups) (t ∷ ts)
  unfolding encode_all
  reads_here at groups t ts b w h = rw (head_complete s at t w.0.0 (has_left s at (encode t) (encode_all ts) h w.1)) (reads_tag at groups t ts b w)

some_there : (s : List ℕ) (at : ℕ) (t : Thing) (ts : List Thing) → Has s at (encode_all (t ∷ ts)) → at < length s
unfolding encode_all
some_there s at t ts h = omega (arith, encode_some t, length-append (encode t) (encode_all ts), has_bound s at (encode t ++ encode_all ts) h)

within_steps : (k : ℕ) (s : List ℕ) (at n : ℕ) (groups : List ℕ) → at < length s → within (suc k) s at (n ∷ groups) ≡ step (within k s) (head_at s at) (n ∷ groups)
unfolding within
within_steps k s at n groups h = rw (lt-leb _ _ h)

within_reads : (k : ℕ) (s : List ℕ) (at : ℕ) (groups : List ℕ) (ts : List Thing) → Closing k groups ts → Standing s at ts → within k s at groups ≡ good_of at (length groups) ts
unfolding encode_all records_from
within_reads zero s at [] [] c w = let z : at ≡ at + 0 = omega arith in within_done zero s at ∙ rw (← z)
within_reads zero s at [] (t ∷ ts) c w = absurd c
within_reads zero s at (n ∷ groups) ts c w = absurd c
within_reads (suc k) s at [] [] c w = let z : at ≡ at + 0 = omega arith in within_done (suc k) s at ∙ rw (← z)
within_reads (suc k) s at [] (t ∷ ts) c w = absurd c
within_reads (suc k) s at (n ∷ groups) [] c w = absurd c
within_reads (suc k) s at (n ∷ groups) (t ∷ ts) c w =
    let h = some_there s at t ts w.1 in
    within_steps k s at n groups h ∙ reads_here s (Closing k) (within k s) (within_reads k s) at (n ∷ groups) t ts c w (omega arith)

-- ---- octets that are read were written so
record Found (s : List ℕ) (P : List Thing → Type 0) (at d : ℕ) (rs : List Rec) (end : ℕ) : Type 0 where
  things : List Thing
  so : P things
  valid : AllValid things
  stands : Has s at (encode_all things)
  last : end ≡ at + length (encode_all things)
  records : rs ≡ records_from at d things

-- an item in front, and then what P says of the rest
abbrev Front : (List ℕ → List Thing → Type 0) → List ℕ → List Thing → Type 0
Front P groups [] = ⊥
Front P groups (t ∷ ts) = Behind P groups t ts

module _ (s : List ℕ) (P : List ℕ → List Thing → Type 0) (rest : ℕ → List ℕ → Out)
    (ih : (at : ℕ) (groups : List ℕ) (rs : List Rec) (end : ℕ) → at ≤ length s → rest at groups ≡ good rs end → Found s (P groups) at (length groups) rs end) where
  module _ (at : ℕ) (t : Thing) (v : Valid t) (h : Has s at (encode t)) (groups : List ℕ) (rs : List Rec) (end : ℕ) where
    found_more : (behind : List ℕ) → length behind ≡ depth_after (length groups) t → ((ts : List Thing) → P behind ts → Behind P groups t ts)
        → more (record_of at (length groups) t ∷ []) (rest (at + length (encode t)) behind) ≡ good rs end → Found s (Front P groups) at (length groups) rs end
    unfolding encode_all records_from
    found_more behind d b e =
        let m = more_good (record_of at (length groups) t) (rest (at + length (encode t)) behind) rs end e in
        let f = ih (at + length (encode t)) behind m.0 end (has_bound s at (encode t) h) m.1 in
        record {
          things = t ∷ f.things;
          so = b f.things f.so;
          valid = (v, f.valid);
          stands = has_append s at (encode t) (encode_all f.things) h f.stands;
          last = omega (arith, length-append (encode t) (encode_all f.things), f.last);
          records = m.2 ∙ ap (λ (q : List Rec). record_of at (length groups) t ∷ q) (f.records ∙ ap (λ (x : ℕ). records_from (at + length (encode t)) x f.things) d);
        }

    found_single : Single t → ((ts : List Thing) → P groups ts → Behind P groups t ts) → step rest (tag_of at t) groups ≡ good rs end → Found s (Front P groups) at (length groups) rs end
    found_single p b e = found_more groups (sym (simple_depth (length groups) t p)) b (sym (simple_step rest at groups t p) ∙ e)

  found_tag : (at : ℕ) (t : Thing) → Valid t → Has s at (encode t) → (groups : List ℕ) (rs : List Rec) (end : ℕ) → step rest (tag_of at t) groups ≡ good rs end
      → Found s (Front P groups) at (length groups) rs end
  unfolding step tag_of closes
  found_tag at (application n xs) v h groups rs end e = found_single at (application n xs) v h groups rs end tt (λ ts b. b) e
  found_tag at (boolean x) v h groups rs end e = found_single at (boolean x) v h groups rs end tt (λ ts b. b) e
  found_tag at (context n xs) v h groups rs end e = found_single at (context n xs) v h groups rs end tt (λ ts b. b) e
  found_tag at (opening n) v h groups rs end e =
      let w = pick_not (leb deepest (length groups)) (bad 37) _ (good rs end) (never 37 rs end) (sym (open_step rest at groups n) ∙ e) in
      found_more at (opening n) v h groups rs end (n ∷ groups) (omega arith) (λ ts b. (leb-false deepest (length groups) w.0, b)) w.1
  found_tag at (closing n) v h [] rs end e = never 35 rs end e
  found_tag at (closing n) v h (m ∷ groups) rs end e =
      let w = pick_so (eqb n m) _ (bad 35) (good rs end) (never 35 rs end) (sym (close_step rest at m groups n) ∙ e) in
      found_more at (closing n) v h (m ∷ groups) rs end groups (omega arith) (λ ts b. (eqb-true n m w.0, b)) w.1

  found_here : Octets s → (at : ℕ) (groups : List ℕ) (rs : List Rec) (end : ℕ) → step rest (head_at s at) groups ≡ good rs end → Found s (Front P groups) at (length groups) rs end
  found_here os at groups rs end e =
      let r = head_sound s os at (good_head rest (head_at s at) groups rs end e) in
      found_tag at r.0 r.1 r.2 groups rs end (rw r.3 at e)

found_as : {s : List ℕ} {P Q : List Thing → Type 0} {at d : ℕ} {rs : List Rec} {end : ℕ} → ((ts : List Thing) → P ts → Q ts) → Found s P at d rs end → Found s Q at d rs end
found_as f w = record { things = w.things; so = f w.things w.so; valid = w.valid; stands = w.stands; last = w.last; records = w.records }

front_closing : (k n : ℕ) (groups : List ℕ) (ts : List Thing) → Front (Closing k) (n ∷ groups) ts → Closing (suc k) (n ∷ groups) ts
front_closing k n groups [] c = absurd c
front_closing k n groups (t ∷ ts) c = c

found_none : (s : List ℕ) (k at : ℕ) (rs : List Rec) (end : ℕ) → at ≤ length s → good [] at ≡ good rs end → Found s (Closing k []) at 0 rs end
unfolding encode_all records_from
found_none s k at rs end h e =
    let z : at ≡ end = cc in
    record { things = []; so = none_closed k; valid = tt; stands = h; last = omega arith; records = (let q : rs ≡ [] = cc in q) }

module _ (s : List ℕ) (os : Octets s) where
  within_found : (k at : ℕ) (groups : List ℕ) (rs : List Rec) (end : ℕ) → at ≤ length s → within k s at groups ≡ good rs end → Found s (Closing k groups) at (length groups) rs end
  unfolding within
  within_found zero at [] rs end h e = found_none s zero at rs end h e
  within_found zero at (n ∷ groups) rs end h e = never 38 rs end (pick_not (leb (length s) at) (bad 36) (bad 38) (good rs end) (never 36 rs end) e).1
  within_found (suc k) at [] rs end h e = found_none s (suc k) at rs end h e
  within_found (suc k) at (n ∷ groups) rs end h e =
      let w = pick_not (leb (length s) at) (bad 36) _ (good rs end) (never 36 rs end) e in
      found_as (front_closing k n groups) (found_here s (Closing k) (within k s) (within_found k) os at (n ∷ groups) rs end w.1)

-- ---- one item
abbrev last : ℕ
last = most_items - 1

module _ (s : List ℕ) (os : Octets s) (at : ℕ) (rs : List Rec) (end : ℕ) where
  by_found : length s ≤ longest → Found s (Front (Closing last) []) at 0 rs end → (ts : List Thing) × StandsOne s at ts rs end
  by_found short f = go f.things refl f.so
    where
      go : (ts : List Thing) → f.things ≡ ts → Front (Closing last) [] ts → (ts : List Thing) × StandsOne s at ts rs end
      go [] e c = absurd c
      go (t ∷ ts) e c = (
        t ∷ ts,
        record {
          one = behind_one last (omega arith) t ts c;
          grammar = record {
            valid = rw e at f.valid;
            balanced = behind_balanced last t ts c;
            short = rw e at (let b = has_bound s at (encode_all f.things) f.stands in let z : length (encode_all f.things) ≤ longest = omega arith in z);
          };
          stands = rw e at f.stands;
          ends = rw e at f.last;
          records = rw e at f.records;
        },
      )

  pub one_stands : one_at s at ≡ good rs end → (length s ≤ longest) × (ts : List Thing) × StandsOne s at ts rs end
  unfolding item_at
  one_stands e =
      let w = one_read s at rs end e in
      let f = by_found w.0 (found_here s (Closing last) (within last s) (within_found s os last) os at [] rs end w.1) in
      (w.0, f.0, f.1)

  pub stands_one : length s ≤ longest → (ts : List Thing) → StandsOne s at ts rs end → one_at s at ≡ good rs end
  unfolding item_at
  stands_one short ts w =
      let f = one_first last ts w.one w.grammar.balanced in
      let a : Standing s at (f.first ∷ f.rest) = (subst AllValid f.all w.grammar.valid, subst (λ (us : List Thing). Has s at (encode_all us)) f.all w.stands) in
      let h = some_there s at f.first f.rest a.1 in
      one_within s at short
      ∙ reads_here s (Closing last) (within last s) (within_reads last s) at [] f.first f.rest f.behind a (omega arith)
      ∙ rw (← f.all, ← w.records, ← w.ends)

-- exactly when
pub one_exact : (s : List ℕ) → Octets s → (at : ℕ) (rs : List Rec) (end : ℕ) → (one_at s at ≡ good rs end) ↔ ((length s ≤ longest) × (ts : List Thing) × StandsOne s at ts rs end)
one_exact s os at rs end = (one_stands s os at rs end, λ w. stands_one s os at rs end w.0 w.1 w.2)
