-- What listing wrote reads back as the records of the reading.
use Prim.Native.Nat.{ℕ, ◌+◌, ◌≤◌}
use native.Mathlib.Omega.{arith}
use mathlib.Core.Path.{◌≡◌, refl, sym, ap, subst, ◌∙◌}
use mathlib.Core.List.{List, [], ◌∷◌}
use lib.ListN.{length, length-append, take, drop}
use Rattle.octets.specs.Reading.{Octets}
use Rattle.octets.specs.Has.{Has, has_take}
use Rattle.octets.specs.Splice.{splice, splice_inside, splice_length}
use Rattle.tags.specs.Types.{longest}
use Rattle.tags.specs.Layout.{Thing, encode}
use Rattle.tags.specs.Layout.Thing.{application, boolean, context, opening, closing}
use Rattle.tags.proofs.Exact.{encode_length}
use Rattle.items.specs.Records.{Rec, records_octets, records_at}
use Rattle.items.specs.Reading.{items_of}
use Rattle.items.specs.Reading.Out.{good}
use Rattle.items.specs.Grammar.{encode_all, record_of, depth_after, records_from}
use Rattle.items.specs.Listing.{Listed}
use Rattle.items.specs.Answers.Tally.{Items}
use Rattle.items.proofs.RecordOctets.{Fits, AllFit, records_length, records_back}
use Rattle.items.proofs.Cases.{items_say, items_laid}
use Rattle.items.proofs.Exact.{written}

-- places and lengths of a reading fit four octets
record_fits : (at d : ℕ) (t : Thing) → at + length (encode t) ≤ longest → Fits (record_of at d t)
unfolding record_of
record_fits at d (application n xs) h = let e = encode_length (application n xs) in (omega arith, omega arith)
record_fits at d (boolean v) h = let e = encode_length (boolean v) in (omega arith, omega arith)
record_fits at d (context n xs) h = let e = encode_length (context n xs) in (omega arith, omega arith)
record_fits at d (opening n) h = let e = encode_length (opening n) in (omega arith, omega arith)
record_fits at d (closing n) h = let e = encode_length (closing n) in (omega arith, omega arith)

pub records_fit : (at d : ℕ) (ts : List Thing) → at + length (encode_all ts) ≤ longest → AllFit (records_from at d ts)
unfolding records_from encode_all
records_fit at d [] h = tt
records_fit at d (t ∷ ts) h =
    let e = length-append (encode t) (encode_all ts) in
    (record_fits at d t (omega arith), records_fit (at + length (encode t)) (depth_after d t) ts (omega arith))

pub reading_fits : (o : List ℕ) → Octets o → (rs : List Rec) (end : ℕ) → items_of o ≡ good rs end → AllFit rs
reading_fits o os rs end e = let w = written o os rs end e in subst AllFit (sym w.records) (records_fit 0 0 w.things (omega (arith, w.grammar.short)))

laid_has : (area later o : List ℕ) → later ≡ splice area 0 o → length o ≤ length area → Has later 0 o
laid_has area later o e h =
    let i : take (length o) (drop 0 later) ≡ o = rw e (splice_inside area 0 o (omega arith)) in
    let l : length later ≡ length area = rw e (splice_length area 0 o (omega arith)) in
    rw i at (has_take later 0 (length o) (omega arith))

-- what listing wrote reads back as the records of the reading
pub listed_back : (s : List ℕ) → Octets s → (area later : List ℕ) (n : ℕ) → Listed s area (Items n) later → (end : ℕ) × (items_of s ≡ good (records_at later 0 n) end)
listed_back s os area later n w =
    let ((rs, end, e, k), fits) = items_say s area later (Items n) w refl in
    let h = laid_has area later (records_octets rs) (w.after ∙ items_laid area (items_of s) n (rs, end, e, k) fits) (omega (arith, records_length rs)) in
    let b = records_back later 0 rs (reading_fits s os rs end e) (omega arith) h in
    (end, e ∙ ap (λ (x : List Rec). good x end) (sym b ∙ ap (records_at later 0) k))
