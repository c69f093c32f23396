-- Records as octets: their length, reading them back, and laying them one after the other.
use Prim.Native.Nat.{ℕ, ◌+◌, ◌*◌, ◌/◌, ◌%◌, ◌≤◌, ◌<◌}
use native.Mathlib.Omega.{arith}
use native.Mathlib.Nat.{zero-add}
use mathlib.Core.Path.{◌≡◌, refl, sym, ◌∙◌}
use mathlib.Core.List.{List, [], ◌∷◌, ◌++◌}
use lib.ListN.{length, get_or, length-append}
use borrow.Author.Tests.{lt-leb, le-leb}
use Rattle.octets.specs.Has.{Has, has_at, has_left, has_right, has_bound, all_has}
use Rattle.octets.specs.Splice.{splice, splice_nil, splice_length, splice_join, splice_then}
use Rattle.octets.specs.Numbers.{value_at, digits, value_shift, value_digits, length_digits, digits_four}
use Rattle.items.specs.Records.{Rec, record_octets, records_octets, record_at, records_at}
use Rattle.items.specs.Cycle.{put_record, put_records}

pub record_length : (r : Rec) → length (record_octets r) ≡ 12
unfolding record_octets
record_length r = omega (arith, length-append (digits 4 r.place) (digits 4 r.len), length_digits 4 r.place, length_digits 4 r.len)

pub records_length : (rs : List Rec) → length (records_octets rs) ≡ 12 * length rs
unfolding records_octets
records_length [] = refl
records_length (r ∷ rs) = omega (arith, length-append (record_octets r) (records_octets rs), record_length r, records_length rs)

-- place and length are four octets each
abbrev pub Fits : Rec → Type 0
Fits r = (r.place < 4294967296) × (r.len < 4294967296)

abbrev pub AllFit : List Rec → Type 0
AllFit [] = Unit {0}
AllFit (r ∷ rs) = Fits r × AllFit rs

four_back : (s : List ℕ) (p v : ℕ) → v < 4294967296 → Has s p (digits 4 v) → value_at s p 4 ≡ v
four_back s p v b h =
    value_shift s (digits 4 v) p 0 4 (λ j w. rw zero-add (has_at s p (digits 4 v) h j (rw length_digits w))) ∙ value_digits 4 v b

record_back : (s : List ℕ) (p : ℕ) (r : Rec) → Fits r → Has s p (record_octets r) → record_at s p ≡ r
unfolding record_octets record_at
record_back s p r f h =
    let e2 : p + 1 + 1 ≡ p + 2 = omega arith in
    let e3 : p + 1 + 1 + 1 ≡ p + 3 = omega arith in
    let e4 : p + 1 + 1 + 1 + 1 ≡ p + 4 = omega arith in
    let e8 : p + 4 + length (digits 4 r.place) ≡ p + 8 = omega (arith, length_digits 4 r.place) in
    let d : get_or s (p + 2) 0 ≡ r.depth = rw e2 at h.2.2.1 in
    let v : get_or s (p + 3) 0 ≡ r.value = rw e3 at h.2.2.2.1 in
    let w : Has s (p + 4) (digits 4 r.place ++ digits 4 r.len) = rw e4 at h.2.2.2.2 in
    let a : value_at s (p + 4) 4 ≡ r.place = four_back s (p + 4) r.place f.0 (has_left s (p + 4) (digits 4 r.place) (digits 4 r.len) (omega (arith, has_bound s (p + 4) (digits 4 r.place ++ digits 4 r.len) w)) w) in
    let b : value_at s (p + 8) 4 ≡ r.len = four_back s (p + 8) r.len f.1 (rw e8 at (has_right s (p + 4) (digits 4 r.place) (digits 4 r.len) w)) in
    rw (h.1, h.2.1, d, v, a, b)

pub records_back : (s : List ℕ) (p : ℕ) (rs : List Rec) → AllFit rs → p ≤ length s → Has s p (records_octets rs) → records_at s p (length rs) ≡ rs
unfolding records_octets records_at
records_back s p [] f b h = refl
records_back s p (r ∷ rs) f b h =
    let k = has_left s p (record_octets r) (records_octets rs) b h in
    let e : p + length (record_octets r) ≡ p + 12 = rw record_length in
    let n : Has s (p + 12) (records_octets rs) = rw e at (has_right s p (record_octets r) (records_octets rs) h) in
    rw (record_back s p r f.0 k, records_back s (p + 12) rs f.1 (omega (arith, has_bound s (p + 12) (records_octets rs) n)) n)

-- what listing wrote reads back as the records
pub records_read : (rs : List Rec) → AllFit rs → records_at (records_octets rs) 0 (length rs) ≡ rs
records_read rs f = records_back (records_octets rs) 0 rs f (omega arith) (all_has (records_octets rs))

-- records that all fit are one splice
pub put_all : (area : List ℕ) (i : ℕ) (rs : List Rec) → 12 * (i + length rs) ≤ length area → put_records area i rs ≡ splice area (i * 12) (records_octets rs)
unfolding put_records records_octets put_record
put_all area i [] h = sym (splice_nil area (i * 12))
put_all area i (r ∷ rs) h =
    let l = record_length r in
    let here : i < length area / 12 = omega arith in
    let e : (i + 1) * 12 ≡ i * 12 + length (record_octets r) = omega arith in
    let k : length (splice area (i * 12) (record_octets r)) ≡ length area = splice_length area (i * 12) (record_octets r) (omega arith) in
    let ih = put_all (splice area (i * 12) (record_octets r)) (i + 1) rs (omega arith) in
    rw (lt-leb _ _ here) (ih ∙ rw e (splice_join area (i * 12) (record_octets r) (records_octets rs) (omega (arith, records_length rs))))

-- a place is laid by its last four octets
pub four_wraps : (v : ℕ) → digits 4 (v % 4294967296) ≡ digits 4 v
four_wraps v =
    let a : v % 4294967296 / 16777216 % 256 ≡ v / 16777216 % 256 = omega arith in
    let b : v % 4294967296 / 65536 % 256 ≡ v / 65536 % 256 = omega arith in
    let c : v % 4294967296 / 256 % 256 ≡ v / 256 % 256 = omega arith in
    let d : v % 4294967296 % 256 ≡ v % 256 = omega arith in
    digits_four (v % 4294967296) ∙ rw (a, b, c, d) (sym (digits_four v))

-- a record that does not fit is not put
pub put_none : (l : List ℕ) (i : ℕ) (r : Rec) → length l / 12 ≤ i → l ≡ put_record l i r
unfolding put_record
put_none l i r h = rw (le-leb _ _ h)

-- what putting a record stores
pub put_stores : (l l4 l8 l12 : List ℕ) (i : ℕ) (r : Rec) → i < length l / 12 → l4 ≡ splice l (i * 12) (r.kind ∷ r.number ∷ r.depth ∷ r.value ∷ [])
    → l8 ≡ splice l4 (i * 12 + 4) (digits 4 (r.place % 4294967296)) → l12 ≡ splice l8 (i * 12 + 8) (digits 4 (r.len % 4294967296)) → l12 ≡ put_record l i r
unfolding put_record record_octets
put_stores l l4 l8 l12 i r h e4 e8 e12 =
    let a : List ℕ = r.kind ∷ r.number ∷ r.depth ∷ r.value ∷ [] in
    let lp = length_digits 4 r.place in
    let lq = length_digits 4 r.len in
    let l8' : length (a ++ digits 4 r.place) ≡ 8 = omega arith in
    let f8 : l8 ≡ splice l (i * 12) (a ++ digits 4 r.place) = splice_then l (i * 12) a (digits 4 r.place) (omega arith) e4 (rw four_wraps at e8) in
    let f12 : l12 ≡ splice l (i * 12) ((a ++ digits 4 r.place) ++ digits 4 r.len) = splice_then l (i * 12) (a ++ digits 4 r.place) (digits 4 r.len) (omega arith) f8 (rw l8' (rw four_wraps at e12)) in
    f12 ∙ rw (lt-leb _ _ h)
