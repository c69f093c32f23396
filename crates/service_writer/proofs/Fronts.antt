-- Reading the octets of a target, a value and an optional priority: the target's items and the opening are read, and the rest decides.
use Prim.Native.Nat.{ℕ, suc, ◌+◌, ◌*◌, ◌≤◌, ◌<◌}
use native.Mathlib.Omega.{arith}
use mathlib.Core.Path.{◌≡◌, refl, sym, ap, subst, ◌∙◌}
use mathlib.Core.List.{List, [], ◌∷◌, ◌++◌, append-nil, append_assoc}
use mathlib.Core.Bool.{Bool, true, false}
use lib.ListN.{length, length-append}
use lib.Dec.{ltb, eqb}
use borrow.Author.Tests.{le-ltb}
use Rattle.octets.specs.Choice.{pick, pick_case, both, non, by_test}
use Rattle.octets.specs.Has.{Has, has_left, has_right, has_bound, all_has}
use Rattle.octets.specs.Numbers.{width_of, length_digits, width_range}
use Rattle.tags.specs.Types.{longest}
use Rattle.tags.specs.Layout.{Thing, encode, high_bits, number_octets, tag_of, tag_length}
use Rattle.tags.specs.Layout.Thing.{context, opening, closing}
use Rattle.tags.proofs.Exact.{encode_length, encode_some, head_complete}
use Rattle.items.specs.Records.{Rec, rec}
use Rattle.items.specs.Reading.{Out, more, step, walk, items_of, most_items}
use Rattle.items.specs.Reading.Out.{good, bad}
use Rattle.items.specs.Grammar.{encode_all, AllValid, Balanced, record_of, records_from}
use Rattle.items.proofs.Machine.{more_more, more_none, walk_steps}
use Rattle.services.specs.Parts.{Answer, is, present, wanted, object_rule, number_rule, number_of, any_number, optional_number, after_group, group, last}
use Rattle.services.specs.Reading.{last_instance, target, target_parts, layout_for, after_tags, read_service}
use Rattle.services.specs.Reading as service
use Rattle.services.specs.Layout.{Pointed, Pointing, shortest, pointed}
use Rattle.services.specs.Shows.{pointed_of}
use Rattle.services.specs.declared.Service.{Service}
use Rattle.services.specs.declared.Target.{Target}
use Rattle.services.proofs.Things.{Here}
use Rattle.services.proofs.Pointed.{target_of, target_reads}
use Rattle.service_writer.specs.Layout.{ranked, front_of, behind_of, room_of}
use Rattle.service_writer.specs.Fault.{refusal_of, read_fault}
use Rattle.service_writer.specs.declared.judge.Phase.TheVariants.{Inside, Behind, Done}
use Rattle.std.specs.Prelude.{Ok, Err}
use Rattle.service_writer.specs.Judging.{shut_of, rank_of, phase_after, phase_fault, left_fault, out_fault}
use Rattle.service_writer.proofs.Items.{ranked_parts}
use Rattle.service_writer.proofs.Phases.{fault_moved}

-- The layout behind the opening, record by record.
module _ (o : List ℕ) (request : Bool) where
  left_wrong : (x : ℕ) (rs : List Rec) → left_fault o request (Err x) rs ≡ x
  unfolding left_fault phase_fault phase_after
  left_wrong x [] = refl
  left_wrong x (r ∷ rs) = left_wrong x rs

  last_fault : (v : Service) (rs : List Rec) → refusal_of (last v rs) ≡ left_fault o request (Ok Done) rs
  unfolding last refusal_of left_fault phase_fault phase_after
  last_fault v [] = refl
  last_fault v (r ∷ rs) = sym (left_wrong 42 rs)

  rank_fault : (f : Bool → ℕ → Service) (rs : List Rec) → refusal_of (optional_number o 4 1 16 (λ here v. last (f here v)) rs) ≡ left_fault o request (Ok Behind) rs
  unfolding optional_number present wanted refusal_of left_fault phase_fault phase_after last rank_of
  rank_fault f [] = refl
  rank_fault f (r ∷ rs) =
      by_test (is 1 4 r)
      (λ e. rw e (by_test (ltb 0 (number_rule o 1 16 r)) (λ d. rw d (sym (left_wrong (number_rule o 1 16 r) rs))) (λ d. rw d (last_fault (f true (number_of o r)) rs))))
      (λ e. rw e (sym (left_wrong 42 rs)))

  after_fault : (f : ℕ → List Rec → Answer) → ((end : ℕ) (rs : List Rec) → refusal_of (f end rs) ≡ left_fault o request (shut_of request) rs) → (rs : List Rec) → refusal_of (after_group f rs) ≡ left_fault o request (Ok Inside) rs
  unfolding after_group refusal_of left_fault phase_fault phase_after
  after_fault f g [] = refl
  after_fault f g (r ∷ rs) =
      by_test (both (eqb r.kind 3) (eqb r.depth 0)) (λ e. rw e (g r.place rs)) (λ e. rw e (after_fault f g rs))

-- Context items, one after the other.
abbrev Contexts : List Thing → Type 0
Contexts [] = Unit {0}
Contexts (context n xs ∷ ts) = Contexts ts
Contexts (Thing.application n xs ∷ ts) = ⊥
Contexts (Thing.boolean v ∷ ts) = ⊥
Contexts (opening n ∷ ts) = ⊥
Contexts (closing n ∷ ts) = ⊥

context_step : (rest : ℕ → List ℕ → Out) (at n : ℕ) (xs groups : List ℕ) → step rest (tag_of at (context n xs)) groups ≡ more (record_of at (length groups) (context n xs) ∷ []) (rest (at + length (encode (context n xs))) groups)
unfolding step tag_of record_of
context_step rest at n xs groups = let e : at + length (encode (context n xs)) ≡ at + tag_length (context n xs) + length xs = omega (arith, encode_length (context n xs)) in rw e

walk_contexts : (s : List ℕ) (k at : ℕ) (ts : List Thing) → Contexts ts → AllValid ts → at ≤ length s → Has s at (encode_all ts) → walk (length ts + k) s at [] ≡ more (records_from at 0 ts) (walk k s (at + length (encode_all ts)) [])
unfolding encode_all records_from
walk_contexts s k at [] c v b h = let e : at + 0 ≡ at = omega arith in let z : 0 + k ≡ k = omega arith in rw (e, z) (sym (more_none (walk k s at [])))
walk_contexts s k at (context n xs ∷ ts) c v b h =
    let t : Thing = context n xs in
    let a : Has s at (encode t) = has_left s at (encode t) (encode_all ts) b h in
    let l : at + length (encode t ++ encode_all ts) ≡ at + length (encode t) + length (encode_all ts) = omega (arith, length-append (encode t) (encode_all ts)) in
    let here : at < length s = omega (arith, has_bound s at (encode t) a, encode_some t) in
    let ih = walk_contexts s k (at + length (encode t)) ts c v.1 (has_bound s at (encode t) a) (has_right s at (encode t) (encode_all ts) h) in
    let z : suc (length ts) + k ≡ suc (length ts + k) = omega arith in
    ap (λ (j : ℕ). walk j s at []) z ∙ walk_steps (length ts + k) s at [] here
    ∙ rw (head_complete s at t v.0 a, context_step (walk (length ts + k) s) at n xs [], ih, l)
    (sym (more_more (record_of at 0 t ∷ []) (records_from (at + length (encode t)) 0 ts) (walk k s (at + length (encode t) + length (encode_all ts)) [])))
walk_contexts s k at (Thing.application n xs ∷ ts) c v b h = absurd c
walk_contexts s k at (Thing.boolean x ∷ ts) c v b h = absurd c
walk_contexts s k at (opening n ∷ ts) c v b h = absurd c
walk_contexts s k at (closing n ∷ ts) c v b h = absurd c

option_append : (o : List ℕ) (n low high : ℕ) (next : Bool → ℕ → List Rec → Answer) (xs rs : List Rec) → present n rs ≡ false → optional_number o n low high next (xs ++ rs) ≡ optional_number o n low high (λ here v ys. next here v (ys ++ rs)) xs
unfolding optional_number present wanted
option_append o n low high next [] rs e = rw e
option_append o n low high next (x ∷ xs) rs e = refl

parts_append : (o : List ℕ) (next : Target → List Rec → Answer) (a b : Rec) (xs rs : List Rec) → present 2 rs ≡ false → target_parts o next (a ∷ b ∷ (xs ++ rs)) ≡ target_parts o (λ t ys. next t (ys ++ rs)) (a ∷ b ∷ xs)
unfolding target_parts wanted
parts_append o next a b xs rs e =
    ap (λ (z : Answer).
    pick (non (is 1 0 a)) (Err 40)
    (pick (ltb 0 (object_rule a)) (Err (object_rule a))
    (pick (non (is 1 1 b)) (Err 40)
    (pick (ltb 0 (number_rule o 0 any_number b)) (Err (number_rule o 0 any_number b)) z))))
    (option_append o 2 0 any_number (λ indexed index. next (target (number_of o a) (number_of o b) indexed index)) xs rs e)

-- The target: it is read whatever follows, where no index that is absent comes next.
module _ (p : Pointed) (ok : Pointing p) where
  pointed_contexts : Contexts (pointed p)
  unfolding pointed
  pointed_contexts = pick_case Contexts p.indexed tt tt

  short : (v : ℕ) → length (shortest v) ≤ longest
  short v = omega (arith, length_digits (width_of v) v, width_range v)

  pointed_valid : AllValid (pointed p)
  unfolding pointed
  pointed_valid =
      ((omega arith, omega (arith, length_digits 4 (p.object * 4194304 + p.instance))), ((omega arith, short p.property), pick_case AllValid p.indexed ((omega arith, short p.index), tt) tt))

  pointed_count : length (pointed p) ≡ pick p.indexed 3 2
  unfolding pointed
  pointed_count = by_test p.indexed (λ e. rw e) (λ e. rw e)

  pointed_balanced : Balanced 3 [] (pointed p)
  unfolding pointed
  pointed_balanced = pick_case (Balanced 1 []) p.indexed tt tt

  target_append : (o : List ℕ) (next : Target → List Rec → Answer) (rs : List Rec) → present 2 rs ≡ false → target_parts o next (records_from 0 0 (pointed p) ++ rs) ≡ target_parts o (λ t ys. next t (ys ++ rs)) (records_from 0 0 (pointed p))
  unfolding pointed records_from
  target_append o next rs e = parts_append o next _ _ _ rs e

  -- octets that begin with it
  module _ (o : List ℕ) (stands : Has o 0 (encode_all (pointed p))) where
    here : Here o 0 (pointed p ++ [])
    here = rw append-nil (record { valid = pointed_valid; stands = stands; inside = omega arith; room = 3; most = omega arith; balanced = pointed_balanced })

    target_front : (next : Target → List Rec → Answer) (rs : List Rec) → present 2 rs ≡ false → target_parts o next (records_from 0 0 (pointed p) ++ rs) ≡ next (target_of p) rs
    unfolding records_from present
    target_front next rs e =
        let r = target_reads o (λ t ys. next t (ys ++ rs)) 0 p [] ok here (λ y. refl) in
        target_append o next rs e ∙ (rw append-nil at r.0)

-- What the tags and then the layout say, of records in front and those that are left.
tags_fault : (o : List ℕ) (request : Bool) (f : List Rec → Answer) (front : List Rec) (r : Rec) → ((rs : List Rec) → refusal_of (f (front ++ (r ∷ rs))) ≡ left_fault o request (Ok Inside) rs) → (out : Out) → refusal_of (after_tags f (more front (more (r ∷ []) out))) ≡ out_fault o request (Ok Inside) out
unfolding more out_fault refusal_of
tags_fault o request f front r h (good rs end) = h rs
tags_fault o request f front r h (bad x) = refl

opening_octet : encode (opening 3) ≡ 62 ∷ []
unfolding encode high_bits number_octets
opening_octet = refl

-- a target and the opening of group 3, and octets behind them
module _ (p : Pointed) (ok : Pointing p) (rest : List ℕ) where
  abbrev target_octets : List ℕ
  target_octets = encode_all (pointed p)

  abbrev all : List ℕ
  all = target_octets ++ (62 ∷ rest)

  stands : Has all 0 target_octets
  stands = has_left all 0 target_octets (62 ∷ rest) (omega arith) (all_has all)

  opens : Has all (length target_octets) (encode (opening 3))
  opens =
      let h : Has all (0 + length target_octets) (62 ∷ rest) = has_right all 0 target_octets (62 ∷ rest) (all_has all) in
      let z : 0 + length target_octets ≡ length target_octets = omega arith in
      rw opening_octet (has_left all (length target_octets) (62 ∷ []) rest (omega (arith, length-append target_octets (62 ∷ rest))) (rw z at h))

  open_walk : (left : ℕ) → walk (suc left) all (length target_octets) [] ≡ more (rec 2 3 0 0 (length target_octets + 1) 0 ∷ []) (walk left all (length target_octets + 1) (3 ∷ []))
  unfolding step tag_of tag_length number_octets
  open_walk left = walk_steps left all (length target_octets) [] (omega (arith, length-append target_octets (62 ∷ rest))) ∙ rw (head_complete all (length target_octets) (opening 3) (omega arith) opens)

  front_walk : (left : ℕ) → most_items ≡ length (pointed p) + suc left → walk most_items all 0 [] ≡ more (records_from 0 0 (pointed p)) (more (rec 2 3 0 0 (length target_octets + 1) 0 ∷ []) (walk left all (length target_octets + 1) (3 ∷ [])))
  front_walk left e =
      let z : 0 + length target_octets ≡ length target_octets = omega arith in
      ap (λ (j : ℕ). walk j all 0 []) e ∙ walk_contexts all (suc left) 0 (pointed p) (pointed_contexts p ok) (pointed_valid p ok) (omega arith) stands
      ∙ ap (more (records_from 0 0 (pointed p))) (ap (λ (at : ℕ). walk (suc left) all at []) z ∙ open_walk left)

  layout_front : (request : Bool) (place : ℕ) (rs : List Rec) → refusal_of (layout_for (pick request 0 3) (pick request 15 12) all (records_from 0 0 (pointed p) ++ (rec 2 3 0 0 place 0 ∷ rs))) ≡ left_fault all request (Ok Inside) rs
  unfolding layout_for service.read_property_ack service.write_property group present shut_of
  layout_front true place rs = ap refusal_of (target_front p ok all stands _ (rec 2 3 0 0 place 0 ∷ rs) refl) ∙ after_fault all true _ (λ end ys. rank_fault all true _ ys) rs
  layout_front false place rs = ap refusal_of (target_front p ok all stands _ (rec 2 3 0 0 place 0 ∷ rs) refl) ∙ after_fault all false _ (λ end ys. last_fault all false _ ys) rs

  -- "the number that reading their output would give"
  pub front_fault_lem : (request : Bool) (left : ℕ) → most_items ≡ length (pointed p) + suc left → length all ≤ longest → read_fault (pick request 0 3) (pick request 15 12) all ≡ out_fault rest request (Ok Inside) (walk left rest 0 (3 ∷ []))
  unfolding read_service items_of
  front_fault_lem request left e small =
      let a : List ℕ = target_octets ++ (62 ∷ []) in
      let same : all ≡ a ++ rest = sym (append_assoc target_octets (62 ∷ []) rest) in
      let l : length target_octets + 1 ≡ length a + 0 = omega (arith, length-append target_octets (62 ∷ [])) in
      rw (le-ltb longest (length all) small, front_walk left e)
      (tags_fault all request _ (records_from 0 0 (pointed p)) _ (layout_front request _) (walk left all (length target_octets + 1) (3 ∷ []))
      ∙ ap (λ (at : ℕ). out_fault all request (Ok Inside) (walk left all at (3 ∷ []))) l
      ∙ ap (λ (o : List ℕ). out_fault o request (Ok Inside) (walk left o (length a + 0) (3 ∷ []))) same
      ∙ fault_moved a rest request (Ok Inside) left 0 (3 ∷ []))

-- the target as it is read: "Fields of absent optional parts are not looked at, and are read as 0."
abbrev point : Target → Pointed
point t = record { object = t.object; instance = t.instance; property = t.property; indexed = t.indexed; index = pick t.indexed t.index 0 }

point_same : (t : Target) → pointed (pointed_of t) ≡ pointed (point t)
unfolding pointed
point_same t = by_test t.indexed (λ e. rw e) (λ e. rw e)

module _ (t : Target) (narrow : (t.object ≤ 1023) × (t.instance ≤ last_instance)) (property : t.property ≤ any_number) (index : t.index ≤ any_number) where
  point_ok : Pointing (point t)
  point_ok = record { object = narrow.0; instance = narrow.1; property = property; index = pick_case (λ (x : ℕ). x ≤ any_number) t.indexed index (omega arith); absent = λ e. rw e }

  point_room : most_items ≡ length (pointed (point t)) + suc (room_of t)
  unfolding room_of
  point_room = rw (pointed_count (point t) point_ok) (by_test t.indexed (λ e. rw e) (λ e. rw e))

  -- The number that reading a target, a value and an optional priority gives is that of the value with what stands behind it.
  pub ranked_fault_lem : (request : Bool) (value : List ℕ) (here : Bool) (priority : ℕ) → length (ranked t value here priority) ≤ longest
      → read_fault (pick request 0 3) (pick request 15 12) (ranked t value here priority) ≡ out_fault (value ++ behind_of here priority) request (Ok Inside) (walk (room_of t) (value ++ behind_of here priority) 0 (3 ∷ []))
  unfolding front_of
  ranked_fault_lem request value here priority small =
      let rest : List ℕ = value ++ behind_of here priority in
      let o : List ℕ = encode_all (pointed (point t)) ++ (62 ∷ rest) in
      let e : ranked t value here priority ≡ o = ranked_parts t value here priority ∙ rw (opening_octet, point_same t) (append_assoc (encode_all (pointed (point t))) (62 ∷ []) rest) in
      ap (read_fault (pick request 0 3) (pick request 15 12)) e ∙ front_fault_lem (point t) point_ok rest request (room_of t) point_room (subst (λ (x : List ℕ). length x ≤ longest) e small)
