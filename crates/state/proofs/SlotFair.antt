-- 59 of a slot by itself, asked of its octets where they stand: what the quick tests say of it when they say yes.
use Prim.Native.Nat.{ℕ, zero, suc, ◌+◌, ◌*◌, ◌≤◌, ◌<◌}
use native.Mathlib.Omega.{arith}
use mathlib.Core.Path.{◌≡◌, refl, ap, ◌∙◌}
use mathlib.Core.Bool.{true, false}
use mathlib.Core.List.{List}
use lib.Bits.{bit_or}
use lib.Dec.{eqb, ltb, lit<, lit≤}
use lib.ListN.{length, drop}
use lib.Seq.{get_or-take, get_or-drop}
use borrow.Author.Tests.{le-leb, eqb-true, eqb-false}
use Rattle.octets.specs.Choice.{non, both_false, true_both, by_test}
use Rattle.octets.specs.Reading.{oct, Octets}
use Rattle.npdu.specs.Address.{absent, gives, gives_source, gives_destination}
use Rattle.messages.specs.Slots.{room}
use Rattle.messages.specs.Sound.{strange}
use Rattle.rebuild.specs.View.{keys, given_key, seen}
use Rattle.rebuild.proofs.Given.{unaddressed_given}
use Rattle.collector.specs.Calls.{slot_count}
use Rattle.state.specs.Slot.{address_at, front_size, slot_size, slot_good, slot_of}
use Rattle.state.specs.Layout.{slot_place, state_size, slot_part}
use Rattle.state.specs.Calls.{good_at, slot_at}
use Rattle.state.specs.Judging.{slot_fair, slots_fair, alone, pairs_fair, Over, NoAddress, AllFair}
use Rattle.state.proofs.Parts.{cut_size}
use Rattle.state.proofs.Fours.{or_left, or_right}
use Rattle.state.proofs.Address.{address_none, address_within}

-- slot i, which stands at a place
module _ (o : List ℕ) (i at : ℕ) (place : at ≡ slot_place i) where
  -- ---- its octet k, and what the octets say
  pub slot_octet : (k : ℕ) → k < slot_size → oct (slot_part o i) k ≡ oct o (at + k)
  slot_octet k h = rw place (get_or-take slot_size (drop (slot_place i) o) k 0 h ∙ get_or-drop (slot_place i) o k 0)

  slot_first : oct (slot_part o i) 0 ≡ oct o at
  slot_first = let z : at + 0 ≡ at = omega arith in slot_octet 0 (lit< tt) ∙ ap (oct o) z

  pub slot_used : (slot_at o i).used ≡ ltb 0 (oct o at)
  unfolding slot_at slot_of
  slot_used = rw slot_first

  pub slot_source : (slot_at o i).key.source ≡ oct o (at + 1)
  unfolding slot_at slot_of
  slot_source = slot_octet 1 (lit< tt)

  pub slot_destination : (slot_at o i).key.destination ≡ oct o (at + 2)
  unfolding slot_at slot_of
  slot_destination = slot_octet 2 (lit< tt)

  pub slot_kind : (slot_at o i).key.kind ≡ oct o (at + 3)
  unfolding slot_at slot_of
  slot_kind = slot_octet 3 (lit< tt)

  pub slot_invoke : (slot_at o i).key.invoke ≡ oct o (at + 4)
  unfolding slot_at slot_of
  slot_invoke = slot_octet 4 (lit< tt)

  pub slot_from : (slot_at o i).key.from ≡ address_at o (at + 9)
  unfolding slot_at slot_of
  slot_from = rw place (address_within o (slot_place i) slot_size 9 (lit≤ tt))

  pub slot_to : (slot_at o i).key.to ≡ address_at o (at + 20)
  unfolding slot_at slot_of
  slot_to = rw place (address_within o (slot_place i) slot_size 20 (lit≤ tt))

  slot_held : (slot_at o i).held ≡ oct o (at + 7) * 256 + oct o (at + 8)
  unfolding slot_at slot_of
  slot_held = rw (slot_octet 7 (lit< tt), slot_octet 8 (lit< tt))

  slot_good_lem : oct o at ≤ 1 → oct o (at + 9) ≤ 1 → oct o (at + 20) ≤ 1 → good_at o i ≡ true
  unfolding good_at slot_good
  slot_good_lem a b c =
      rw (slot_first, slot_octet 9 (lit< tt), slot_octet 20 (lit< tt))
      (true_both _ _ (le-leb (oct o at) 1 a) (true_both _ _ (le-leb (oct o (at + 9)) 1 b) (le-leb (oct o (at + 20)) 1 c)))

  -- ---- the quick tests: a high octet below 64 is enough, 64 * 256 being 16,384
  module _ (os : Octets o) (small : oct o (at + 7) ≤ 63) where
    fair_by : good_at o i ≡ true → strange keys (seen (slot_at o i)) ≡ false → slot_fair o i ≡ true
    unfolding slot_fair
    fair_by g s =
        let l = os (at + 8) in
        rw (g, s, slot_held) (le-leb (oct o (at + 7) * 256 + oct o (at + 8)) room (omega arith))

    -- free
    pub plain_free : oct o at ≡ 0 → oct o (at + 9) ≤ 1 → oct o (at + 20) ≤ 1 → slot_fair o i ≡ true
    plain_free f a b =
        let s : strange keys (seen (slot_at o i)) ≡ false = rw (slot_used, f) (both_false (non (given_key (slot_at o i).key))) in
        fair_by (slot_good_lem (omega arith) a b) s

    -- without addresses
    module _ (size : length o ≡ state_size) (below : i < slot_count) (none : NoAddress o at) where
      part_long : length (slot_part o i) ≡ slot_size
      part_long = cut_size slot_size (slot_place i) o (omega arith)

      part_zeros : (k : ℕ) → front_size ≤ k → k < slot_size → oct (slot_part o i) k ≡ 0
      part_zeros k a b = slot_octet k b ∙ none k a b

      from_none : (slot_at o i).key.from ≡ absent
      unfolding slot_at slot_of
      from_none = address_none (slot_part o i) 9 (omega (arith, part_long)) (λ k a b. part_zeros k (omega arith) (omega arith))

      to_none : (slot_at o i).key.to ≡ absent
      unfolding slot_at slot_of
      to_none = address_none (slot_part o i) 20 (omega (arith, part_long)) (λ k a b. part_zeros k (omega arith) (omega arith))

      pub plain_open : oct o at ≤ 1 → slot_fair o i ≡ true
      plain_open u =
          let a = none 9 (omega arith) (omega arith) in
          let b = none 20 (omega arith) (omega arith) in
          let s : strange keys (seen (slot_at o i)) ≡ false = rw (unaddressed_given (slot_at o i).key from_none to_none) in
          fair_by (slot_good_lem u (omega arith) (omega arith)) s

    -- with addresses that a header gives
    pub routed_open : oct o at ≤ 1 → oct o (at + 9) ≤ 1 → oct o (at + 20) ≤ 1 → gives 1 65534 (address_at o (at + 9)) ≡ true → gives 0 65535 (address_at o (at + 20)) ≡ true
        → slot_fair o i ≡ true
    unfolding given_key gives_source gives_destination
    routed_open u a b f t =
        let s : strange keys (seen (slot_at o i)) ≡ false = rw (slot_from, slot_to, f, t) in
        fair_by (slot_good_lem u a b) s

-- ---- octet k of the four slots, one over the other: none is above the outcome
over_one : (o : List ℕ) (k r : ℕ) → oct o (slot_place 0 + k) ≤ r → oct o (slot_place 1 + k) ≤ r → oct o (slot_place 2 + k) ≤ r → oct o (slot_place 3 + k) ≤ r → Over o k r
over_one o k r a b c d zero h = a
over_one o k r a b c d (suc zero) h = b
over_one o k r a b c d (suc (suc zero)) h = c
over_one o k r a b c d (suc (suc (suc zero))) h = d
over_one o k r a b c d (suc (suc (suc (suc i)))) h = absurd (omega arith)

pub over_four : (o : List ℕ) (k : ℕ)
    → Over o k (bit_or (bit_or (bit_or (oct o (slot_place 0 + k)) (oct o (slot_place 1 + k))) (oct o (slot_place 2 + k))) (oct o (slot_place 3 + k)))
over_four o k i h =
    let a = oct o (slot_place 0 + k) in
    let b = oct o (slot_place 1 + k) in
    let c = oct o (slot_place 2 + k) in
    let d = oct o (slot_place 3 + k) in
    over_one o k (bit_or (bit_or (bit_or a b) c) d)
    (omega (arith, or_left a b, or_left (bit_or a b) c, or_left (bit_or (bit_or a b) c) d))
    (omega (arith, or_right a b, or_left (bit_or a b) c, or_left (bit_or (bit_or a b) c) d))
    (omega (arith, or_right (bit_or a b) c, or_left (bit_or (bit_or a b) c) d))
    (or_right (bit_or (bit_or a b) c) d)
    i h

-- ---- each slot by itself, one after the other
pub fair_more : (o : List ℕ) (i : ℕ) → ((j : ℕ) → j < i → slot_fair o j ≡ true) → slot_fair o i ≡ true → (j : ℕ) → j < i + 1 → slot_fair o j ≡ true
fair_more o i f t j h = by_test (eqb j i) (λ e. rw (eqb-true j i e) t) (λ e. f j (omega (arith, eqb-false j i e)))

pub all_fair : (o : List ℕ) → ((j : ℕ) → j < slot_count → slot_fair o j ≡ true) → slots_fair o 0 slot_count ≡ true
all_fair o f =
    true_both _ _ (f 0 (lit< tt)) (true_both _ _ (f 1 (lit< tt)) (true_both _ _ (f 2 (lit< tt)) (true_both _ _ (f 3 (lit< tt)) refl)))

-- ---- no slot has an address: a and b are the octets 0 and 7 of the four, one over the other
module _ (o : List ℕ) (a b : ℕ) (os : Octets o) (size : length o ≡ state_size) (flags : Over o 0 a) (one : a ≤ 1) (held : Over o 7 b) (small : b ≤ 63)
    (none : (i : ℕ) → i < slot_count → NoAddress o (slot_place i)) where
  pub all_plain : slots_fair o 0 slot_count ≡ true
  all_plain =
      all_fair o (λ i l.
      let z : slot_place i + 0 ≡ slot_place i = omega arith in
      let f : oct o (slot_place i) ≤ a = rw z at (flags i l) in
      let m = held i l in
      plain_open o i (slot_place i) refl os (omega arith) size l (none i l) (omega arith))

-- four slots, one by one
pub none_four : (o : List ℕ) → NoAddress o (slot_place 0) → NoAddress o (slot_place 1) → NoAddress o (slot_place 2) → NoAddress o (slot_place 3)
    → (i : ℕ) → i < slot_count → NoAddress o (slot_place i)
none_four o a b c d zero h = a
none_four o a b c d (suc zero) h = b
none_four o a b c d (suc (suc zero)) h = c
none_four o a b c d (suc (suc (suc zero))) h = d
none_four o a b c d (suc (suc (suc (suc i)))) h = absurd (omega arith)

-- ---- all four slots free: a, b, c, d are their octets 0, 9, 20 and 7, one over the other
module _ (o : List ℕ) (a b c d : ℕ) (os : Octets o) (free : Over o 0 a) (none : a ≡ 0) (from : Over o 9 b) (one : b ≤ 1) (to : Over o 20 c) (two : c ≤ 1)
    (held : Over o 7 d) (small : d < 64) where
  first_free : (i : ℕ) → i < slot_count → oct o (slot_place i) ≡ 0
  first_free i h =
      let z : slot_place i + 0 ≡ slot_place i = omega arith in
      let f : oct o (slot_place i) ≤ a = rw z at (free i h) in
      omega arith

  each_alone : (i n : ℕ) → i + n ≤ slot_count → pairs_fair o i n ≡ true
  unfolding alone
  each_alone i zero h = refl
  each_alone i (suc n) h = rw (slot_used o i (slot_place i) refl, first_free i (omega arith)) (each_alone (suc i) n (omega arith))

  pub all_free : AllFair o
  all_free =
      record {
        slots = all_fair o (λ i l.
            let f = from i l in
            let t = to i l in
            let m = held i l in
            plain_free o i (slot_place i) refl os (omega arith) (first_free i l) (omega arith) (omega arith));
        pairs = each_alone 0 slot_count (omega arith);
      }
