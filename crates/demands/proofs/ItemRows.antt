-- The rows 30 to 39 over a run of items, and its records: what the statements of specs/ItemRows say, from the laws of items.
use Prim.Native.Nat.{ℕ, zero, suc, ◌+◌, ◌-◌, ◌≤◌, ◌<◌}
use native.Mathlib.Omega.{arith}
use mathlib.Core.Path.{◌≡◌, refl, sym, ap, subst, ◌∙◌}
use mathlib.Core.Logic.{inl, inr}
use mathlib.Core.List.{List, [], ◌∷◌, ◌++◌, append-nil}
use lib.ListN.{length, length-append}
use Rattle.octets.specs.Reading.{Octets}
use Rattle.octets.specs.Every.{octets_none, octets_more, octets_join}
use Rattle.octets.specs.Numbers.{digits, digits_four}
use Rattle.octets.specs.Splice.{splice}
use Rattle.tags.specs.Types.{least, most}
use Rattle.tags.specs.Reading.{number_at, two_at, four_at, length_at, first_rule, first_content, whole_at, sign_bad, signed_at, contents_at, context_at, application_at, head_at}
use Rattle.tags.specs.Layout.{Thing, Valid, encode, good_contents, high_bits, number_octets, low_bits, length_octets, tag_length}
use Rattle.tags.specs.Layout.Thing.{application, opening, closing}
use Rattle.tags.proofs.Exact.{encode_length}
use Rattle.items.specs.Records.{rec, record_octets, records_octets}
use Rattle.items.specs.Reading.{Out, more, ending, closes, step, walk, items_of}
use Rattle.items.specs.Reading.Out.{good, bad}
use Rattle.items.specs.Grammar.{encode_all, Balanced, AllValid, Grammar, record_of, records_from}
use Rattle.items.specs.Listing.{refusal_in, ReadAs, listed_of, listing, Listed}
use Rattle.items.specs.Rows.{Leads, Row}
use Rattle.items.specs.Rows.Behind.{one_more, ends_open}
use Rattle.items.specs.Rows.Row.{offends}
use Rattle.items.proofs.Cases.{small_given, refused_given}
use Rattle.items.proofs.Exact.{reads, written}
use Rattle.items.proofs.LeftToRight.{items_front}
use Rattle.items.proofs.ListedRecords.{records_count, read_things, records_listed, listed_written}
use Rattle.items.proofs.Rows.{rows_exact}
use Rattle.demands.specs.ItemRows.{ItemRows, Verdict, ItemsOneRow, ItemsCount, ItemsLeftToRight, ItemsRecords, ListedRecords, RecordsOf, RecordsLaid, RecordsWorked, Needs, Refuses, times, ItemsWorked, ItemsMost}

pub item_rows : ItemRows
item_rows = rows_exact

-- ---- exactly one
module _ (o : List ℕ) (os : Octets o) where
  verdict : (q : Out) → items_of o ≡ q → Verdict o (refusal_in q)
  verdict (good rs end) e = let w = written o os rs end e in inl (refl, (w.things, w.grammar, w.octets))
  verdict (bad x) e = inr ((rows_exact o os x).0 e)

  verdict_is : (x : ℕ) → Verdict o x → x ≡ refusal_in (items_of o)
  verdict_is x (inl (z, (ts, g, e))) = z ∙ sym (ap refusal_in (ap items_of e ∙ reads ts g))
  verdict_is x (inr w) = sym (ap refusal_in ((rows_exact o os x).1 w))

pub items_one_row : ItemsOneRow
items_one_row o os =
    record { answer = refusal_in (items_of o); allowed = verdict o os (items_of o) refl; same = λ x y a b. verdict_is o os x a ∙ sym (verdict_is o os y b) }

-- ---- the count
things_read : (o : List ℕ) → Octets o → (n : ℕ) → ReadAs o n → (ts : List Thing) × Grammar ts × (o ≡ encode_all ts) × (length ts ≡ n)
things_read o os n z =
    let w = written o os z.0 z.1 z.2 in
    (w.things, w.grammar, w.octets, sym (records_count 0 0 w.things) ∙ sym (ap length w.records) ∙ z.3)

pub items_count : ItemsCount
items_count o os n = (things_read o os n, λ w. rw (w.2, ← w.3) (read_things w.0 w.1))

-- ---- left to right
pub items_left_to_right : ItemsLeftToRight
items_left_to_right o more x short whole closed e = items_front o more x whole closed short e

-- ---- records
pub items_records : ItemsRecords
items_records = (reads, λ o os rs end e. let w = written o os rs end e in (w.things, w.grammar, w.octets, w.records, w.last))

less : (d : ℕ) → d + 1 - 1 ≡ d
less d = omega arith

pub records_of : RecordsOf
unfolding record_of records_from
records_of =
    record {
      none = λ at d. refl;
      next = λ at d t ts. refl;
      tag = encode_length;
      of_application = λ at d n xs. refl;
      of_boolean = λ at d v. refl;
      of_context = λ at d n xs. refl;
      of_opening = λ at d n. refl;
      of_closing = λ at d n. ap (λ (e : ℕ). rec 3 n e 0 (at + tag_length (closing n)) 0) (less d);
      alone = λ d n v xs. (refl, refl, refl);
      opens = λ d n. (refl, less d);
    }

pub records_laid : RecordsLaid
unfolding records_octets record_octets
records_laid = (refl, λ k n d v p l rs. rw (digits_four p, digits_four l))

pub listed_records : ListedRecords
listed_records = (records_listed, listed_written)

-- ---- by computation
pub records_worked : RecordsWorked
unfolding record_octets records_octets digits encode_all encode high_bits number_octets low_bits length_octets tag_length record_of records_from listed_of listing splice items_of walk step closes ending more head_at number_at length_at two_at four_at first_rule first_content contents_at whole_at sign_bad signed_at context_at application_at least most
records_worked = record { twelve = refl; layout = refl; records = refl; read = refl; answers = (refl, refl, refl, refl); short = refl; listed = refl }

pub items_worked : ItemsWorked
unfolding records_octets record_octets digits listed_of times items_of walk step closes ending more head_at number_at length_at two_at four_at first_rule first_content contents_at whole_at sign_bad signed_at context_at application_at least most
items_worked =
    record {
      closing = (refl, refl, refl, refl, refl, refl, refl, refl);
      extended = (refl, refl, refl);
      left_open_lem = (refl, refl, refl, refl);
      deep = (refl, refl, refl, refl, refl, refl, refl);
      tags = (refl, refl, refl, refl, refl);
    }

-- ---- 2,048 items, by the laws
null : Thing
null = application 0 []

nulls : ℕ → List Thing
nulls zero = []
nulls (suc n) = null ∷ nulls n

null_valid : Valid (application 0 [])
unfolding least most good_contents
null_valid = record { known = omega arith; other = λ e. absurd (omega arith); low = omega arith; high = omega arith; rule = refl }

nulls_valid : (n : ℕ) → AllValid (nulls n)
unfolding nulls null
nulls_valid zero = tt
nulls_valid (suc n) = (null_valid, nulls_valid n)

nulls_balanced : (n : ℕ) → Balanced n [] (nulls n)
unfolding nulls null
nulls_balanced zero = tt
nulls_balanced (suc n) = nulls_balanced n

nulls_lead : (n : ℕ) (gs : List ℕ) → Leads gs (nulls n) gs
unfolding nulls null
nulls_lead zero gs = refl
nulls_lead (suc n) gs = nulls_lead n gs

nulls_length : (n : ℕ) → length (nulls n) ≡ n
unfolding nulls
nulls_length zero = refl
nulls_length (suc n) = ap suc (nulls_length n)

nulls_octets : (n : ℕ) → encode_all (nulls n) ≡ times n 0
unfolding nulls null encode_all encode low_bits length_octets times
nulls_octets zero = refl
nulls_octets (suc n) = ap (λ (l : List ℕ). 0 ∷ l) (nulls_octets n)

times_length : (n x : ℕ) → length (times n x) ≡ n
unfolding times
times_length zero x = refl
times_length (suc n) x = ap suc (times_length n x)

times_octets : (n x : ℕ) → x < 256 → Octets (times n x)
unfolding times
times_octets zero x h = octets_none
times_octets (suc n) x h = octets_more x (times n x) h (times_octets n x h)

-- listing that is lent no octets
none_lent : (o : List ℕ) → Listed o [] (listed_of 0 (items_of o)) (listing [] (items_of o))
none_lent o = record { answer = refl; after = refl }

nulls_needed : (n : ℕ) → 0 < n → Grammar (nulls n) → Needs (times n 0) n
nulls_needed n some g =
    let w : ReadAs (times n 0) n = rw (← nulls_octets n) (subst (ReadAs (encode_all (nulls n))) (nulls_length n) (read_things (nulls n) g)) in
    small_given (times n 0) [] _ _ (none_lent (times n 0)) n w (omega arith)

nulls_grammar : Grammar (nulls 2048)
nulls_grammar =
    record { valid = nulls_valid 2048; balanced = nulls_balanced 2048; short = omega (arith, ap length (nulls_octets 2048), times_length 2048 0) }

nulls_over : (r : List ℕ) → 0 < length r → length r ≤ 14336 → Row 38 (times 2048 0 ++ r)
nulls_over r some short =
    offends (omega (arith, length-append (times 2048 0) r, times_length 2048 0)) (nulls 2048) [] r
    (record {
      octets = ap (λ (l : List ℕ). l ++ r) (sym (nulls_octets 2048));
      valid = nulls_valid 2048;
      leads = nulls_lead 2048 [];
      most = omega (arith, nulls_length 2048);
    })
    (one_more refl (nulls_length 2048) some)

-- 3E is an opening of group 3
opening_octets : (ts : List Thing) → encode_all (opening 3 ∷ ts) ≡ 62 ∷ encode_all ts
unfolding encode_all encode high_bits number_octets
opening_octets ts = refl

nulls_open : Row 36 (62 ∷ times 2047 0)
nulls_open =
    offends (omega (arith, times_length 2047 0)) (opening 3 ∷ nulls 2047) (3 ∷ []) []
    (record {
      octets = octets;
      valid = (omega arith, nulls_valid 2047);
      leads = (omega arith, nulls_lead 2047 (3 ∷ []));
      most = omega (arith, nulls_length 2047);
    })
    (ends_open refl refl (omega arith))
  where
    octets : 62 ∷ times 2047 0 ≡ encode_all (opening 3 ∷ nulls 2047) ++ []
    octets = ap (λ (l : List ℕ). 62 ∷ l) (sym (nulls_octets 2047)) ∙ sym (opening_octets (nulls 2047)) ∙ sym (append-nil (encode_all (opening 3 ∷ nulls 2047)))

refused : (o : List ℕ) {x : ℕ} → items_of o ≡ bad x → Refuses o x
refused o {x} e = refused_given o [] _ _ (none_lent o) x e

pub items_most : ItemsMost
items_most =
    record {
      most = nulls_needed 2048 (omega arith) nulls_grammar;
      over = λ r os some short. refused (times 2048 0 ++ r) ((item_rows (times 2048 0 ++ r) (octets_join (times 2048 0) r (times_octets 2048 0 (omega arith)) os) 38).1 (nulls_over r some short));
      unclosed = refused (62 ∷ times 2047 0) ((item_rows (62 ∷ times 2047 0) (octets_more 62 (times 2047 0) (omega arith) (times_octets 2047 0 (omega arith))) 36).1 nulls_open);
    }
