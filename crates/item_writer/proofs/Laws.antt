-- One item after another: what is laid, and what is left to lay.
use Rattle.std.specs.Prelude.{Ok, Err}
use Prim.Native.Nat.{ℕ, suc, ◌+◌, ◌-◌, ◌/◌, ◌%◌, ◌≤◌, ◌<◌}
use native.Mathlib.Omega.{arith}
use mathlib.Core.Path.{◌≡◌, refl, sym, ap, ◌∙◌}
use mathlib.Core.List.{List, [], ◌∷◌, ◌++◌, append_assoc}
use mathlib.Core.Bool.{true, false}
use lib.ListN.{length, length-append}
use lib.Dec.{leb, eqb}
use borrow.Author.Tests.{eqb-true, eqb-false, ne_eqb, leb-true}
use Rattle.octets.specs.Choice.{pick, pick_so, pick_not, both_true, impossible}
use Rattle.octets.specs.Splice.{splice, splice_nil, splice_length, splice_join, splice_then, Put}
use Rattle.tags.specs.Layout.{Thing, number_octets, length_octets}
use Rattle.tags.specs.Layout.Thing.{application, boolean, context, opening, closing}
use Rattle.items.specs.Records.{Rec, record_at, records_at, thing_of, things_of}
use Rattle.items.specs.Reading.{most_items}
use Rattle.items.specs.Grammar.{encode_all, record_of}
use Rattle.item_judge.specs.Judge.{records_in, good_from, good_records, write_fault, open_after, judged}
use Rattle.item_judge.specs.Meaning.{named}
use Rattle.item_judge.specs.Kinds.{inside_test}
use Rattle.item_judge.specs.OneLayout.{layout}
use Rattle.item_judge.proofs.Good.{Good, good_more, good_len, good_named}
use Rattle.item_judge.proofs.ByKind.{inside_len, len_inside}
use Rattle.item_judge.proofs.Lay.{lay_thing, good_short}
use Rattle.item_judge.proofs.Walk.{records_next}
use Rattle.item_writer.specs.Writing.{Ready}

-- a tag octet, two parts after it, and the contents
pub put_parts : (o₀ o₁ o₂ o₃ o₄ : List ℕ) (at t a b l : ℕ) (n m xs : List ℕ) → length xs ≡ l → at + (1 + length n + length m + l) ≤ length o₀
    → o₁ ≡ splice o₀ at (t ∷ []) → Put o₁ (at + 1) n a o₂ → Put o₂ a m b o₃ → o₄ ≡ splice o₃ b xs → Put o₀ at (t ∷ (n ++ (m ++ xs))) (b + l) o₄
put_parts o₀ o₁ o₂ o₃ o₄ at t a b l n m xs len h e₁ e₂ e₃ e₄ =
    let f₂ : o₂ ≡ splice o₀ at (t ∷ n) = splice_then o₀ at (t ∷ []) n (omega arith) e₁ e₂.area in
    let ea : a ≡ at + length (t ∷ n) = omega (arith, e₂.after) in
    let f₃ : o₃ ≡ splice o₀ at ((t ∷ n) ++ m) = splice_then o₀ at (t ∷ n) m (omega arith) f₂ (rw ea at e₃.area) in
    let lm : length ((t ∷ n) ++ m) ≡ suc (length n) + length m = length-append (t ∷ n) m in
    let eb : b ≡ at + length ((t ∷ n) ++ m) = omega (arith, e₃.after) in
    let f₄ : o₄ ≡ splice o₀ at (((t ∷ n) ++ m) ++ xs) = splice_then o₀ at ((t ∷ n) ++ m) xs (omega arith) f₃ (rw eb at e₄) in
    record { area = rw append_assoc at f₄; after = simp length-append (omega (arith, e₂.after, e₃.after)) }

-- how long the layout is
pub layout_length : (source : List ℕ) (r : Rec) → inside_test (length source) r.place r.len ≡ true → length (layout source r) ≡ 1 + length (number_octets r.number) + length (length_octets r.len) + r.len
unfolding layout
layout_length source r e =
    let l = inside_len source r e in
    simp (length-append, ← l) (omega arith)

-- contents that are there lie in the source
pub inside_bound : (size place len : ℕ) → inside_test size place len ≡ true → (len ≡ 0 → ⊥) → place + len ≤ size
unfolding inside_test
inside_bound size place len e h =
    let a = pick_so (leb place size) (leb len (size - place)) false true (λ w. impossible (cc)) (rw (ne_eqb len 0 h) at e) in
    omega (arith, leb-true place size a.0, leb-true len (size - place) a.1)

-- the room and the contents of a record that is ready
pub ready_room : {source : List ℕ} {r : Rec} {at : ℕ} {out : List ℕ} → Ready source r at out → at + (1 + length (number_octets r.number) + length (length_octets r.len) + r.len) ≤ length out
ready_room {source} {r} h = omega (arith, h.room, layout_length source r h.inside)

pub ready_len : {source : List ℕ} {r : Rec} {at : ℕ} {out : List ℕ} → Ready source r at out → length (named source r) ≡ r.len
ready_len {source} {r} h = sym (inside_len source r h.inside)

-- n records are left at p, to be laid from at on; all before them are laid
pub record Laying (area source out₀ out : List ℕ) (at p n : ℕ) : Type 0 where
  pub groups : List ℕ
  pub good : good_from source groups (records_at area p n) ≡ true
  pub room : at + length (encode_all (things_of source (records_at area p n))) ≤ length out
  pub same : length out ≡ length out₀
  pub result : splice out at (encode_all (things_of source (records_at area p n))) ≡ splice out₀ 0 (encode_all (things_of source (records_in area)))

-- a good record's value
good_value : (groups : List ℕ) (r : Rec) (t : Thing) → Good groups r t → r.value ≤ 1
unfolding record_of
good_value groups r (application n xs) g = omega (arith, g.fields.3)
good_value groups r (boolean v) g = omega (arith, g.fields.3, g.valid)
good_value groups r (context n xs) g = omega (arith, g.fields.3)
good_value groups r (opening n) g = omega (arith, g.fields.3)
good_value groups r (closing n) g = omega (arith, g.fields.3)

module _ (area source out₀ out : List ℕ) (at p n : ℕ) (k : Rec) (e : k ≡ record_at area p) (h : 0 < n) (l : Laying area source out₀ out at p n) where
  next_good : Good l.groups (record_at area p) (thing_of source (record_at area p)) × (good_from source (open_after l.groups (thing_of source (record_at area p))) (records_at area (p + 12) (n - 1)) ≡ true)
  next_good = good_more source l.groups (record_at area p) (records_at area (p + 12) (n - 1)) (rw (records_next area p n h) at l.good)

  -- the octets left are the next item's and those after it
  next_octets : encode_all (things_of source (records_at area p n)) ≡ layout source (record_at area p) ++ encode_all (things_of source (records_at area (p + 12) (n - 1)))
  unfolding things_of encode_all
  next_octets = rw (records_next area p n h, lay_thing source l.groups (record_at area p) next_good.0)

  pub laying_ready : Ready source k at out
  laying_ready =
      let g = next_good.0 in
      let r = record_at area p in
      let s : at + length (layout source r) ≤ length out = omega (arith, l.room, ap length next_octets, length-append (layout source r) (encode_all (things_of source (records_at area (p + 12) (n - 1))))) in
      rw e (record {
        value = good_value l.groups r (thing_of source r) g;
        short = good_short source l.groups r (thing_of source r) g;
        inside = len_inside source r (good_len l.groups r (thing_of source r) g ∙ ap length (sym (good_named source l.groups r g)));
        room = s;
      })

  pub laying_next : (at₁ : ℕ) (out₁ : List ℕ) → Put out at (layout source k) at₁ out₁ → Laying area source out₀ out₁ at₁ (p + 12) (n - 1)
  laying_next at₁ out₁ w =
      let r = record_at area p in
      let rest : List ℕ = encode_all (things_of source (records_at area (p + 12) (n - 1))) in
      let sum : at + length (layout source r) + length rest ≤ length out = omega (arith, l.room, ap length next_octets, length-append (layout source r) rest) in
      let v : Put out at (layout source r) at₁ out₁ = rw e at w in
      let len : length out₁ ≡ length out = rw v.area (splice_length out at (layout source r) (omega arith)) in
      record {
        groups = open_after l.groups (thing_of source r);
        good = next_good.1;
        room = omega (arith, v.after);
        same = len ∙ l.same;
        result = rw (v.area, v.after, splice_join out at (layout source r) rest sum) (rw next_octets at l.result);
      }

pub laying_end : (area source out₀ out : List ℕ) (at p n : ℕ) → n ≡ 0 → Laying area source out₀ out at p n → out ≡ splice out₀ 0 (encode_all (things_of source (records_in area)))
unfolding records_at things_of encode_all
laying_end area source out₀ out at p n z l = sym (splice_nil out at) ∙ rw z at l.result

pub laying_start : (area source out : List ℕ) → good_from source [] (records_in area) ≡ true → length (encode_all (things_of source (records_in area))) ≤ length out → Laying area source out out 0 0 (length area / 12)
laying_start area source out g h = record { groups = []; good = g; room = omega arith; same = refl; result = refl }

-- what judging said
pub judged_takes : (area source : List ℕ) (size : ℕ) → Ok size ≡ judged area source → (write_fault area source ≡ 0) × (size ≡ length (encode_all (things_of source (records_in area)))) × (good_from source [] (records_in area) ≡ true)
unfolding judged write_fault good_records
judged_takes area source size e =
    let rs = records_in area in
    let o : ℕ = length (encode_all (things_of source rs)) in
    let a = pick_so (eqb (write_fault area source) 0) (Ok o) (Err (write_fault area source)) (Ok size) (λ w. impossible (cc)) (sym e) in
    let f : write_fault area source ≡ 0 = eqb-true _ _ a.0 in
    let b = pick_so (eqb (length area % 12) 0) (pick (good_records source rs) 0 62) 62 0 (λ z. absurd (omega arith)) f in
    let g = pick_so (good_records source rs) 0 62 0 (λ z. absurd (omega arith)) b.1 in
    let h = both_true (leb (length rs) most_items) _ g.0 in
    let same : Ok o ≡ Ok size = a.1 in
    (f, (let z : size ≡ o = cc in z), (both_true (good_from source [] rs) _ h.1).0)

pub judged_refused : (area source : List ℕ) (x : ℕ) → Err x ≡ judged area source → (write_fault area source ≡ x) × (x ≡ 0 → ⊥)
unfolding judged
judged_refused area source x e =
    let f : ℕ = write_fault area source in
    let a = pick_not (eqb f 0) (Ok (length (encode_all (things_of source (records_in area))))) (Err f) (Err x) (λ w. impossible (cc)) (sym e) in
    let same : Err f ≡ Err x = a.1 in
    let z : f ≡ x = cc in
    (z, (λ w. eqb-false f 0 a.0 (z ∙ w)))
