-- Judging record after record: what is left to judge decides the whole.
use Rattle.std.specs.Prelude.{Ok, Err}
use Prim.Native.Nat.{ℕ, zero, suc, ◌+◌, ◌-◌, ◌/◌, ◌%◌, ◌≤◌, ◌<◌}
use native.Mathlib.Omega.{arith}
use native.Mathlib.Nat.{zero-add, add-zero, add_assoc}
use mathlib.Core.Path.{◌≡◌, refl, sym, ap, ◌∙◌}
use mathlib.Core.List.{List, [], ◌∷◌}
use mathlib.Core.Bool.{true, false}
use lib.ListN.{length, length-append}
use lib.Dec.{leb, eqb}
use borrow.Author.Tests.{eq-eqb, ne_eqb, le-leb, lt-leb}
use Rattle.octets.specs.Choice.{pick, pick_case, both_false}
use Rattle.tags.specs.Types.{longest}
use Rattle.items.specs.Records.{Rec, record_at, records_at, thing_of, things_of}
use Rattle.items.specs.Reading.{most_items, deepest}
use Rattle.items.specs.Grammar.{encode_all}
use Rattle.item_judge.specs.Judge.{records_in, good_record, good_from, good_records, write_fault, judged}
use Rattle.item_judge.specs.Kinds.{kind_rule, groups_after}
use Rattle.item_judge.specs.OneLayout.{size_of}
use Rattle.item_judge.proofs.Good.{good_record_lem}
use Rattle.item_judge.proofs.ByKind.{kind_rule_lem}
use Rattle.item_judge.proofs.Lay.{lay_size, good_short, good_room, good_some, good_after}

pub records_next : (s : List ℕ) (p n : ℕ) → 0 < n → records_at s p n ≡ record_at s p ∷ records_at s (p + 12) (n - 1)
unfolding records_at
records_next s p zero h = absurd (omega arith)
records_next s p (suc n) h = let e : suc n - 1 ≡ n = omega arith in rw e

pub records_length : (s : List ℕ) (p n : ℕ) → length (records_at s p n) ≡ n
unfolding records_at
records_length s p zero = refl
records_length s p (suc n) = ap suc (records_length s (p + 12) n)

-- with these groups open, after items of so many octets, n records are left at p: they decide whether all are good, and how long all items are
pub record Judging (area source groups : List ℕ) (size p n : ℕ) : Type 0 where
  pub rest : good_from source [] (records_in area) ≡ good_from source groups (records_at area p n)
  pub octets : length (encode_all (things_of source (records_in area))) ≡ size + length (encode_all (things_of source (records_at area p n)))

pub judging_start : (area source : List ℕ) → Judging area source [] 0 0 (length area / 12)
judging_start area source = record { rest = refl; octets = sym (zero-add _) }

-- what a good record allows
pub kind_facts : (source groups : List ℕ) (k : Rec) → kind_rule source groups k ≡ true → (k.len ≤ longest) × ((k.kind ≡ 2 → length groups < deepest) × (k.kind ≡ 3 → 0 < length groups))
kind_facts source groups k e =
    let g = good_record_lem source groups k (kind_rule_lem source groups k ∙ e) in
    let t = thing_of source k in
    (good_short source groups k t g, (good_room source groups k t g, good_some groups k t g))

-- refused where the test fails, and else the octets
pub judged_bad : (area source : List ℕ) → good_records source (records_in area) ≡ false → Err 62 ≡ judged area source
unfolding judged write_fault
judged_bad area source e = rw e (pick_case (λ (f : ℕ). Err 62 ≡ pick (eqb f 0) (Ok (length (encode_all (things_of source (records_in area))))) (Err f)) (eqb (length area % 12) 0) refl refl)

pub judged_part : (area source : List ℕ) → (length area % 12 ≡ 0 → ⊥) → Err 62 ≡ judged area source
unfolding judged write_fault
judged_part area source h = rw (ne_eqb _ _ h)

pub judged_many : (area source : List ℕ) → most_items < length area / 12 → Err 62 ≡ judged area source
unfolding good_records
judged_many area source h = judged_bad area source (rw (records_length area 0 (length area / 12), lt-leb _ _ h))

module _ (area source groups : List ℕ) (size p n : ℕ) where
  pub judging_next : (k : Rec) → k ≡ record_at area p → 0 < n → kind_rule source groups k ≡ true → Judging area source groups size p n
      → Judging area source (groups_after k.kind k.number groups) (size + size_of k.number k.len) (p + 12) (n - 1)
  unfolding good_from things_of encode_all
  judging_next k e h t j =
      let good : good_record source groups (record_at area p) ≡ true = kind_rule_lem source groups (record_at area p) ∙ rw (← e) t in
      let g = good_record_lem source groups (record_at area p) good in
      rw e (record {
        rest = j.rest ∙ rw (records_next area p n h, good, good_after groups (record_at area p) (thing_of source (record_at area p)) g);
        octets = j.octets ∙ rw (records_next area p n h) (simp (length-append, lay_size source groups (record_at area p) g, add_assoc));
      })

  pub judging_bad : (k : Rec) → k ≡ record_at area p → 0 < n → kind_rule source groups k ≡ false → Judging area source groups size p n → Err 62 ≡ judged area source
  unfolding good_records good_from
  judging_bad k e h t j =
      let bad : good_record source groups (record_at area p) ≡ false = kind_rule_lem source groups (record_at area p) ∙ rw (← e) t in
      let f : good_from source [] (records_in area) ≡ false = j.rest ∙ rw (records_next area p n h, bad) in
      judged_bad area source (rw f (both_false (leb (length (records_in area)) most_items)))

  -- the end, with a group open; too long; and good
  pub judging_open : n ≡ 0 → 0 < length groups → Judging area source groups size p n → Err 62 ≡ judged area source
  unfolding good_records good_from records_at
  judging_open z h j =
      let f : good_from source [] (records_in area) ≡ false = j.rest ∙ rw (z, ne_eqb (length groups) 0 (λ e. absurd (omega arith))) in
      judged_bad area source (rw f (both_false (leb (length (records_in area)) most_items)))

  all_octets : n ≡ 0 → Judging area source groups size p n → length (encode_all (things_of source (records_in area))) ≡ size
  unfolding records_at things_of encode_all
  all_octets z j = j.octets ∙ rw (z, add-zero)

  pub judging_long : n ≡ 0 → longest < size → Judging area source groups size p n → Err 62 ≡ judged area source
  unfolding good_records
  judging_long z h j =
      judged_bad area source (rw (all_octets z j, lt-leb size longest h, both_false (good_from source [] (records_in area))) (both_false (leb (length (records_in area)) most_items)))

  pub judging_end : n ≡ 0 → length groups ≡ 0 → size ≤ longest → length area % 12 ≡ 0 → length area / 12 ≤ most_items → Judging area source groups size p n → Ok size ≡ judged area source
  unfolding judged write_fault good_records good_from records_at
  judging_end z none h whole few j =
      let f : good_from source [] (records_in area) ≡ true = j.rest ∙ rw (z, none) in
      rw (eq-eqb _ _ whole, records_length area 0 (length area / 12), le-leb _ _ few, f, all_octets z j, le-leb size longest h)
