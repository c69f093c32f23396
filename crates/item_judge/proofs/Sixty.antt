-- 62 is what the page says: no octets read as these records with these contents.
use Prim.Native.Nat.{ℕ, ◌%◌}
use native.Mathlib.Omega.{arith}
use mathlib.Core.Path.{◌≡◌, refl, sym, ap, ◌∙◌}
use mathlib.Core.Logic.{◌⊎◌, inl, inr, ⊎_elim}
use mathlib.Core.List.{List, []}
use mathlib.Core.Bool.{true}
use lib.ListN.{length}
use lib.Dec.{leb, eqb}
use borrow.Author.Tests.{eqb-true, eq-eqb, leb-true, le-leb}
use Rattle.octets.specs.Choice.{pick, pick_so, pick_case, both_true}
use Rattle.octets.specs.Reading.{Octets}
use Rattle.items.specs.Records.{Rec, things_of}
use Rattle.items.specs.Reading.{most_items}
use Rattle.items.specs.Grammar.{Grammar, encode_all, records_from}
use Rattle.items.proofs.Exact.{written, reads, records_named}
use Rattle.item_judge.specs.Judge.{records_in, good_from, good_records, write_fault}
use Rattle.item_judge.specs.Meaning.{ReadingOf, Writable}
use Rattle.item_judge.proofs.Good.{good_inside, good_valid, good_balanced, good_records_lem, grammar_good, same_things}
use Rattle.item_judge.proofs.Octets.{octets_all}

-- good records name items of the grammar
pub good_grammar : (source : List ℕ) (rs : List Rec) → good_records source rs ≡ true → Grammar (things_of source rs)
unfolding good_records
good_grammar source rs e =
    let a = both_true (leb (length rs) most_items) _ e in
    let b = both_true (good_from source [] rs) _ a.1 in
    record {
      valid = good_valid source [] rs b.0;
      balanced = good_balanced most_items source [] rs (leb-true _ _ a.0) b.0;
      short = leb-true _ _ b.1;
    }

-- "what was written reads back as the same items"
pub good_reading : (source : List ℕ) → Octets source → (rs : List Rec) → good_records source rs ≡ true → ReadingOf source rs (encode_all (things_of source rs))
unfolding good_records
good_reading source os rs e =
    let g = good_grammar source rs e in
    let a = both_true (leb (length rs) most_items) _ e in
    let b = both_true (good_from source [] rs) _ a.1 in
    record {
      octets = octets_all source os rs g.valid;
      records = records_from 0 0 (things_of source rs);
      accepted = reads (things_of source rs) g;
      same = good_records_lem source (encode_all (things_of source rs)) [] 0 rs b.0 (records_named (things_of source rs) g);
    }

-- octets that read as the records are the layout of the items that these name, and the records are good
pub reading_good : (source : List ℕ) (rs : List Rec) (o : List ℕ) → ReadingOf source rs o → (good_records source rs ≡ true) × (o ≡ encode_all (things_of source rs))
unfolding good_records
reading_good source rs o r =
    let w = written o r.octets r.records (length o) r.accepted in
    let g = w.grammar in
    let named : things_of source rs ≡ w.things = same_things source o rs r.records r.same ∙ w.named in
    let h = grammar_good most_items source o [] 0 rs w.things (rw w.records at r.same) named g.valid g.balanced in
    (rw (le-leb (length rs) most_items h.1, h.0, named) (le-leb _ _ g.short), w.octets ∙ ap encode_all (sym named))

-- so there are no two such runs of octets
pub one_reading : (source : List ℕ) (rs : List Rec) (o p : List ℕ) → ReadingOf source rs o → ReadingOf source rs p → o ≡ p
one_reading source rs o p r q = (reading_good source rs o r).1 ∙ sym (reading_good source rs p q).1

-- what writing takes is what the page says
pub takes_writable : (area source : List ℕ) → Octets source → write_fault area source ≡ 0 → Writable area source
unfolding write_fault good_records
takes_writable area source os e =
    let rs = records_in area in
    let a = pick_so (eqb (length area % 12) 0) (pick (good_records source rs) 0 62) 62 0 (λ z. absurd (omega arith)) e in
    let b = pick_so (good_records source rs) 0 62 0 (λ z. absurd (omega arith)) a.1 in
    let c = both_true (leb (length rs) most_items) _ b.0 in
    record {
      whole = eqb-true _ _ a.0;
      inside = good_inside source [] rs (both_true (good_from source [] rs) _ c.1).0;
      result = encode_all (things_of source rs);
      reading = good_reading source os rs b.0;
    }

pub writable_takes : (area source : List ℕ) → Writable area source → write_fault area source ≡ 0
unfolding write_fault
writable_takes area source w = rw (eq-eqb _ _ w.whole, (reading_good source (records_in area) w.result w.reading).0)

-- all else is 62
pub fault_either : (area source : List ℕ) → (write_fault area source ≡ 0) ⊎ (write_fault area source ≡ 62)
unfolding write_fault
fault_either area source =
    pick_case (λ (f : ℕ). (f ≡ 0) ⊎ (f ≡ 62)) (eqb (length area % 12) 0)
    (pick_case (λ (f : ℕ). (f ≡ 0) ⊎ (f ≡ 62)) (good_records source (records_in area)) (inl refl) (inr refl)) (inr refl)

pub sixty_two : (area source : List ℕ) → Octets source → (write_fault area source ≡ 62 → Writable area source → ⊥) × ((Writable area source → ⊥) → write_fault area source ≡ 62)
sixty_two area source os = (
  (λ e w. omega (arith, e, writable_takes area source w)),
  (λ h. ⊎_elim (λ z. elim (h (takes_writable area source os z)) [ ]) (λ z. z) (fault_either area source)),
)
