-- "what was written reads back as the same items", and what was listed is written back to the same octets.
use Rattle.std.specs.Prelude.{Ok}
use Prim.Native.Nat.{ℕ, zero, suc, ◌+◌, ◌*◌, ◌/◌, ◌%◌, ◌≤◌}
use native.Mathlib.Omega.{arith}
use mathlib.Core.Path.{◌≡◌, refl, sym, ap, ◌∙◌}
use mathlib.Core.List.{List, [], ◌∷◌}
use mathlib.Core.Bool.{true}
use lib.ListN.{length, take, drop}
use lib.Seq.{take-append_seam, length-take-le, get_or-take}
use borrow.Author.Tests.{eq-eqb}
use Rattle.octets.specs.Reading.{Octets}
use Rattle.octets.specs.Numbers.{value_at, value_shift}
use Rattle.octets.specs.Laid.{Laid, laid_wrote}
use Rattle.items.specs.Records.{Rec, record_at, records_at, things_of}
use Rattle.items.specs.Reading.{items_of}
use Rattle.items.specs.Reading.Out.{good}
use Rattle.items.specs.Grammar.{encode_all}
use Rattle.items.specs.Listing.{Listed}
use Rattle.items.specs.Answers.Tally.{Items}
use Rattle.items.proofs.Exact.{records_are}
use Rattle.items.proofs.Back.{listed_back}
use Rattle.items.proofs.Cases.{items_say, area_kept}
use Rattle.item_judge.specs.Judge.{records_in, good_records, write_fault}
use Rattle.item_judge.specs.Meaning.{AllAlike, ReadingOf}
use Rattle.item_judge.proofs.Sixty.{takes_writable, reading_good}

-- what a writer that wrote n octets promised
pub wrote : (f : ℕ) (o area : List ℕ) (n : ℕ) (later : List ℕ) → Laid f o area (Ok n) later → (f ≡ 0) × (n ≡ length o) × (take n later ≡ o)
wrote f o area n later w =
    let t = laid_wrote f n o area later w in
    (t.0, t.1, rw (t.1, t.2) (take-append_seam o (drop (length o) area)))

-- the octets that were written are read as the records, places apart, with the contents that these name
pub written_reads : (area source out : List ℕ) (n : ℕ) (later : List ℕ) → Octets source → Laid (write_fault area source) (encode_all (things_of source (records_in area))) out (Ok n) later
    → ReadingOf source (records_in area) (take n later)
written_reads area source out n later os w =
    let t = wrote _ _ _ n later w in
    let v = takes_writable area source os t.0 in
    let e : v.result ≡ encode_all (things_of source (records_in area)) = (reading_good source (records_in area) v.result v.reading).1 in
    rw (t.2, ← e) v.reading

-- a part of a record area has the records of the area
record_in : (s : List ℕ) (m p : ℕ) → p + 12 ≤ m → record_at (take m s) p ≡ record_at s p
unfolding record_at
record_in s m p h =
    let part : (q : ℕ) → q + 4 ≤ m → value_at (take m s) q 4 ≡ value_at s q 4 = λ q k. value_shift (take m s) s q q 4 (λ j w. get_or-take m s (q + j) 0 (omega arith)) in
    rw (get_or-take m s p 0 (omega arith), get_or-take m s (p + 1) 0 (omega arith), get_or-take m s (p + 2) 0 (omega arith), get_or-take m s (p + 3) 0 (omega arith), part (p + 4) (omega arith), part (p + 8) (omega arith))

records_in_lem : (s : List ℕ) (m p n : ℕ) → p + 12 * n ≤ m → records_at (take m s) p n ≡ records_at s p n
unfolding records_at
records_in_lem s m p zero h = refl
records_in_lem s m p (suc n) h = rw (record_in s m p (omega arith), records_in_lem s m (p + 12) n (omega arith))

all_same : (o : List ℕ) (rs : List Rec) → AllAlike o o rs rs
all_same o [] = tt
all_same o (r ∷ rs) = (record { kind = refl; number = refl; depth = refl; value = refl; len = refl; contents = refl }, all_same o rs)

-- the records of a reading, with the octets themselves as the source, are good and name what was read
pub reading_writes : (o : List ℕ) → Octets o → (rs : List Rec) (end : ℕ) → items_of o ≡ good rs end → (good_records o rs ≡ true) × (o ≡ encode_all (things_of o rs))
reading_writes o os rs end e =
    let l = records_are o os rs end e in
    reading_good o rs o (record { octets = os; records = rs; accepted = e ∙ ap (good rs) l.1; same = all_same o rs })

-- "Headers, tags and parameters that were read write back to the same octets": what listing laid, with the octets as the source, is written as these octets
pub listed_writes : (o lent listed : List ℕ) (n : ℕ) → Octets o → Listed o lent (Items n) listed
    → (write_fault (take (12 * n) listed) o ≡ 0) × (encode_all (things_of o (records_in (take (12 * n) listed))) ≡ o)
unfolding write_fault
listed_writes o lent listed n os w =
    let b = listed_back o os lent listed n w in
    let room : 12 * n ≤ length listed = omega (arith, (items_say o lent listed (Items n) w refl).1, area_kept o lent listed (Items n) w) in
    let len : length (take (12 * n) listed) ≡ 12 * n = length-take-le (12 * n) listed room in
    let whole : length (take (12 * n) listed) % 12 ≡ 0 = rw len (omega arith) in
    let many : length (take (12 * n) listed) / 12 ≡ n = rw len (omega arith) in
    let recs : records_in (take (12 * n) listed) ≡ records_at listed 0 n = ap (records_at (take (12 * n) listed) 0) many ∙ records_in_lem listed (12 * n) 0 n (omega arith) in
    let g = reading_writes o os (records_at listed 0 n) b.0 b.1 in
    (rw (eq-eqb _ _ whole, recs, g.0), rw recs (sym g.1))
