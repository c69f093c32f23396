-- No two open slots of one key, quickly, of their octets where they stand: a law for each way through the tests.
use Prim.Native.Nat.{ℕ, zero, suc, ◌+◌, ◌<◌}
use native.Mathlib.Omega.{arith}
use mathlib.Core.Path.{◌≡◌, refl, sym, ap, ◌∙◌}
use mathlib.Core.Bool.{true, false}
use mathlib.Core.List.{List}
use Rattle.octets.specs.Choice.{both_false, true_both, pick_same, by_test}
use Rattle.octets.specs.Reading.{oct}
use Rattle.rebuild.specs.View.{same_key}
use Rattle.rebuild.specs.declared.Key.{Key}
use Rattle.rebuild.proofs.Page.{key_laws}
use Rattle.collector.specs.Calls.{slot_count}
use Rattle.state.specs.Slot.{address_at}
use Rattle.state.specs.Layout.{slot_place}
use Rattle.state.specs.Calls.{slot_at}
use Rattle.state.specs.Judging.{one_key, apart, apart_from, alone, pairs_fair, four_at}
use Rattle.state.proofs.Fours.{four_same}
use Rattle.state.proofs.SlotFair.{slot_used, slot_source, slot_destination, slot_kind, slot_invoke, slot_from, slot_to}

-- ---- slot j against slot i: another number in any place of a key's parts is another key; a slot that is not open is open with none
other_apart : (o : List ℕ) (i j : ℕ) → ((slot_at o i).key ≡ (slot_at o j).key → ⊥) → apart o i j ≡ true
unfolding apart one_key
other_apart o i j n =
    let x = (slot_at o i).key in
    let y = (slot_at o j).key in
    let f : same_key x y ≡ false = by_test (same_key x y) (λ t. absurd (n (key_laws.only x y t))) (λ f. f) in
    rw (f, both_false (slot_at o j).used)

module _ (o : List ℕ) (i j a b : ℕ) (p : a ≡ slot_place i) (q : b ≡ slot_place j) where
  -- the first four parts; x and y: their numbers
  front_octets_lem : (slot_at o i).key ≡ (slot_at o j).key → (k : ℕ) → k < 4 → oct o (a + 1 + k) ≡ oct o (b + 1 + k)
  front_octets_lem e zero h =
      let u : a + 1 + 0 ≡ a + 1 = omega arith in
      let v : b + 1 + 0 ≡ b + 1 = omega arith in
      rw (u, v) (sym (slot_source o i a p) ∙ ap (λ (k : Key). k.source) e ∙ slot_source o j b q)
  front_octets_lem e (suc zero) h =
      let u : a + 1 + 1 ≡ a + 2 = omega arith in
      let v : b + 1 + 1 ≡ b + 2 = omega arith in
      rw (u, v) (sym (slot_destination o i a p) ∙ ap (λ (k : Key). k.destination) e ∙ slot_destination o j b q)
  front_octets_lem e (suc (suc zero)) h =
      let u : a + 1 + 2 ≡ a + 3 = omega arith in
      let v : b + 1 + 2 ≡ b + 3 = omega arith in
      rw (u, v) (sym (slot_kind o i a p) ∙ ap (λ (k : Key). k.kind) e ∙ slot_kind o j b q)
  front_octets_lem e (suc (suc (suc zero))) h =
      let u : a + 1 + 3 ≡ a + 4 = omega arith in
      let v : b + 1 + 3 ≡ b + 4 = omega arith in
      rw (u, v) (sym (slot_invoke o i a p) ∙ ap (λ (k : Key). k.invoke) e ∙ slot_invoke o j b q)
  front_octets_lem e (suc (suc (suc (suc k)))) h = absurd (omega arith)

  pub front_apart : (x y : ℕ) → (x ≡ y → ⊥) → x ≡ four_at o (a + 1) → y ≡ four_at o (b + 1) → apart o i j ≡ true
  front_apart x y n u v = other_apart o i j (λ e. let one = four_same o (a + 1) (b + 1) (front_octets_lem e) in n (cc))

  -- either address
  pub from_apart : (address_at o (a + 9) ≡ address_at o (b + 9) → ⊥) → apart o i j ≡ true
  from_apart n = other_apart o i j (λ e. n (sym (slot_from o i a p) ∙ ap (λ (k : Key). k.from) e ∙ slot_from o j b q))

  pub to_apart : (address_at o (a + 20) ≡ address_at o (b + 20) → ⊥) → apart o i j ≡ true
  to_apart n = other_apart o i j (λ e. n (sym (slot_to o i a p) ∙ ap (λ (k : Key). k.to) e ∙ slot_to o j b q))

pub free_apart : (o : List ℕ) (i j b : ℕ) → b ≡ slot_place j → oct o b ≡ 0 → apart o i j ≡ true
unfolding apart
free_apart o i j b q z = rw (slot_used o j b q, z)

-- for `search (rules, alike_ways)`
pub ruleset alike_ways = (front_apart, free_apart)

-- ---- six pairs are all of them
module _ (o : List ℕ) where
  has_alone : (i n : ℕ) → apart_from o i (suc i) n ≡ true → alone o i n ≡ true
  unfolding alone
  has_alone i n e = rw e (pick_same (slot_at o i).used true)

  pub pairs_apart : apart o 0 1 ≡ true → apart o 0 2 ≡ true → apart o 0 3 ≡ true → apart o 1 2 ≡ true → apart o 1 3 ≡ true → apart o 2 3 ≡ true → pairs_fair o 0 slot_count ≡ true
  pairs_apart a b c d e f =
      true_both _ _ (has_alone 0 3 (true_both _ _ a (true_both _ _ b (true_both _ _ c refl))))
      (true_both _ _ (has_alone 1 2 (true_both _ _ d (true_both _ _ e refl)))
      (true_both _ _ (has_alone 2 1 (true_both _ _ f refl))
      (true_both _ _ (has_alone 3 0 refl) refl)))

  -- w, x, y, z: the first four parts of their keys as numbers, no two the same
  pub all_unlike : (w x y z : ℕ) → w ≡ four_at o (slot_place 0 + 1) → x ≡ four_at o (slot_place 1 + 1) → y ≡ four_at o (slot_place 2 + 1) → z ≡ four_at o (slot_place 3 + 1)
      → (w ≡ x → ⊥) → (w ≡ y → ⊥) → (w ≡ z → ⊥) → (x ≡ y → ⊥) → (x ≡ z → ⊥) → (y ≡ z → ⊥) → pairs_fair o 0 slot_count ≡ true
  all_unlike w x y z a b c d p q r s t u =
      pairs_apart
      (front_apart o 0 1 (slot_place 0) (slot_place 1) refl refl w x p a b)
      (front_apart o 0 2 (slot_place 0) (slot_place 2) refl refl w y q a c)
      (front_apart o 0 3 (slot_place 0) (slot_place 3) refl refl w z r a d)
      (front_apart o 1 2 (slot_place 1) (slot_place 2) refl refl x y s b c)
      (front_apart o 1 3 (slot_place 1) (slot_place 3) refl refl x z t b d)
      (front_apart o 2 3 (slot_place 2) (slot_place 3) refl refl y z u c d)
