-- Worked: records and a source with what writing them gives, and records that are the reading of no octets.
use Prim.Native.Nat.{ℕ}
use mathlib.Core.Path.{◌≡◌, refl}
use mathlib.Core.List.{List, [], ◌∷◌}
use Rattle.octets.specs.Numbers.{value_at, digits}
use Rattle.tags.specs.Types.{least, most}
use Rattle.tags.specs.Layout.{encode, high_bits, low_bits, number_octets, length_octets, good_contents, tag_length}
use Rattle.tags.specs.Decide.{valid_thing}
use Rattle.items.specs.Records.{Rec, rec, record_octets, records_octets, record_at, records_at, thing_of, things_of}
use Rattle.items.specs.Grammar.{encode_all, record_of}
use Rattle.item_judge.specs.Judge.{records_in, alike, good_record, good_from, good_records, write_fault}

-- the refusal that an area of these records with this source deserves, and the octets of the items that they name
abbrev fault : List Rec → List ℕ → ℕ
fault rs source = write_fault (records_octets rs) source

abbrev octets : List Rec → List ℕ → List ℕ
octets rs source = encode_all (things_of source (records_in (records_octets rs)))

record Worked : Type 0 where
  none : (fault [] [] ≡ 0) × (octets [] [] ≡ [])
  group : fault (rec 2 3 0 0 1 0 ∷ rec 0 4 1 0 0 4 ∷ rec 3 3 0 0 7 0 ∷ []) (66 ∷ 57 ∷ 153 ∷ 154 ∷ []) ≡ 0
  grouped : octets (rec 2 3 0 0 1 0 ∷ rec 0 4 1 0 0 4 ∷ rec 3 3 0 0 7 0 ∷ []) (66 ∷ 57 ∷ 153 ∷ 154 ∷ []) ≡ 62 ∷ 68 ∷ 66 ∷ 57 ∷ 153 ∷ 154 ∷ 63 ∷ []
  -- the place of a record with length 0 is not looked at
  place : (fault (rec 0 1 0 1 4000000000 0 ∷ []) [] ≡ 0) × (octets (rec 0 1 0 1 4000000000 0 ∷ []) [] ≡ 17 ∷ [])
  -- contents that overlap
  overlap : (fault (rec 1 0 0 0 0 2 ∷ rec 1 200 0 0 1 2 ∷ []) (7 ∷ 8 ∷ 9 ∷ []) ≡ 0) × (octets (rec 1 0 0 0 0 2 ∷ rec 1 200 0 0 1 2 ∷ []) (7 ∷ 8 ∷ 9 ∷ []) ≡ 10 ∷ 7 ∷ 8 ∷ 250 ∷ 200 ∷ 8 ∷ 9 ∷ [])
  short : write_fault (0 ∷ []) [] ≡ 62
  outside : fault (rec 1 0 0 0 1 2 ∷ []) (7 ∷ 8 ∷ []) ≡ 62
  depth : fault (rec 1 0 1 0 0 0 ∷ []) [] ≡ 62
  value : fault (rec 1 0 0 1 0 0 ∷ []) [] ≡ 62
  boolean : fault (rec 0 1 0 1 0 1 ∷ []) (7 ∷ []) ≡ 62
  kind : fault (rec 4 0 0 0 0 0 ∷ []) [] ≡ 62
  left : fault (rec 2 3 0 0 0 0 ∷ []) [] ≡ 62
  other : fault (rec 2 3 0 0 0 0 ∷ rec 3 4 0 0 0 0 ∷ []) [] ≡ 62
  contents : fault (rec 0 2 0 0 0 2 ∷ []) (0 ∷ 5 ∷ []) ≡ 62

worked : Worked
unfolding write_fault good_records good_from good_record alike valid_thing record_of records_octets record_octets digits records_at record_at value_at things_of thing_of encode_all encode high_bits low_bits number_octets length_octets good_contents tag_length least most
worked =
    record {
      none = (refl, refl);
      group = refl;
      grouped = refl;
      place = (refl, refl);
      overlap = (refl, refl);
      short = refl;
      outside = refl;
      depth = refl;
      value = refl;
      boolean = refl;
      kind = refl;
      left = refl;
      other = refl;
      contents = refl;
    }
