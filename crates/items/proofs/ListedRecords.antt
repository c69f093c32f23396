-- What listing leaves in the area: the records of the items that stand there, twelve octets each, and the octets past them as they were.
use Prim.Native.Nat.{ℕ, suc, ◌+◌, ◌*◌, ◌≤◌}
use mathlib.Core.Path.{◌≡◌, refl, sym, ap, ◌∙◌}
use mathlib.Core.List.{List, [], ◌∷◌, ◌++◌}
use lib.ListN.{length, drop}
use Rattle.octets.specs.Reading.{Octets}
use Rattle.tags.specs.Layout.{Thing, encode}
use Rattle.items.specs.Records.{Rec, records_octets}
use Rattle.items.specs.Reading.{items_of}
use Rattle.items.specs.Grammar.{encode_all, Grammar, depth_after, records_from}
use Rattle.items.specs.Listing.{ReadAs, Listed}
use Rattle.items.specs.Answers.{Tally}
use Rattle.items.specs.Answers.Tally.{Items}
use Rattle.items.proofs.Cases.{items_given, items_say, items_left}
use Rattle.items.proofs.Exact.{reads, written}

-- "one 12-octet record an item"
pub records_count : (at d : ℕ) (ts : List Thing) → length (records_from at d ts) ≡ length ts
unfolding records_from
records_count at d [] = refl
records_count at d (t ∷ ts) = ap suc (records_count (at + length (encode t)) (depth_after d t) ts)

-- items of the grammar are read as so many
pub read_things : (ts : List Thing) → Grammar ts → ReadAs (encode_all ts) (length ts)
read_things ts g = (records_from 0 0 ts, length (encode_all ts), reads ts g, records_count 0 0 ts)

-- items of the grammar, with room for their records
pub records_listed : (ts : List Thing) → Grammar ts → (area later : List ℕ) (r : Tally) → Listed (encode_all ts) area r later → 12 * length ts ≤ length area
    → (r ≡ Items (length ts)) × (later ≡ records_octets (records_from 0 0 ts) ++ drop (12 * length ts) area)
unfolding read_things
records_listed ts g area later r w room =
    let z = read_things ts g in
    (items_given (encode_all ts) area later r w (length ts) z room, w.after ∙ items_left area (items_of (encode_all ts)) (length ts) z room)

-- and whatever was listed is so
pub listed_written : (o : List ℕ) → Octets o → (area later : List ℕ) (n : ℕ) → Listed o area (Items n) later
    → (ts : List Thing) × Grammar ts × (o ≡ encode_all ts) × (n ≡ length ts) × (later ≡ records_octets (records_from 0 0 ts) ++ drop (12 * n) area)
listed_written o os area later n w =
    let ((rs, end, e, k), fits) = items_say o area later (Items n) w refl in
    let t = written o os rs end e in
    let c : n ≡ length t.things = sym k ∙ ap length t.records ∙ records_count 0 0 t.things in
    let l : later ≡ records_octets rs ++ drop (12 * n) area = w.after ∙ items_left area (items_of o) n (rs, end, e, k) fits in
    (t.things, t.grammar, t.octets, c, l ∙ ap (λ (q : List Rec). records_octets q ++ drop (12 * n) area) t.records)
