-- The slots, one after the other from any number on: one law for a slot of any number.
use Prim.Native.Nat.{ℕ, zero, suc, ◌+◌, ◌-◌, ◌*◌, ◌≤◌, ◌<◌}
use native.Mathlib.Omega.{arith}
use mathlib.Core.Path.{◌≡◌, refl, sym, ap, subst, ◌∙◌}
use mathlib.Core.Bool.{Bool, true}
use mathlib.Core.List.{List, [], ◌∷◌, ◌++◌, append_assoc, append-nil}
use lib.Dec.{eqb}
use lib.ListN.{length, get_or, take, drop, length-append, drop_of_length-le}
use lib.Seq.{take_at, drop_at, take-suc, take-length, length-take-le}
use Rattle.octets.specs.Choice.{both_true, by_test}
use Rattle.octets.specs.Every.{octets_part}
use Rattle.octets.specs.Reading.{Octets}
use Rattle.octets.specs.Splice.{splice, splice_nil, splice_then}
use Rattle.rebuild.proofs.Seen.{blank}
use Rattle.rebuild.specs.declared.Slot.{Slot}
use Rattle.rebuild.specs.declared.Slots.{Slots}
use Rattle.collector.specs.Calls.{slot_count}
use Rattle.state.specs.Slot.{slot_size, slot_octets, SlotShaped, slot_good, slot_of}
use Rattle.state.specs.Layout.{slots_place, slot_place, slots_size, state_size, slot_part, slots_octets, SlotsFit, SlotsShaped}
use Rattle.state.specs.Calls.{Lays, LaysSlots, good_at, slots_good, slot_at, slots_at}
use Rattle.state.proofs.Parts.{cut_size, cut_by, cut_then, join}
use Rattle.state.proofs.Slot.{fits_sized, slot_size_lem, slot_back, slot_stands, slot_fits}

-- ---- their octets' number
slots_long : (xs : List Slot) → SlotsShaped xs → length (slots_octets xs) ≡ slot_size * length xs
slots_long [] f = omega arith
slots_long (x ∷ xs) f = let h = slots_long xs f.1 in let n = slot_size_lem x f.0 in rw length-append (omega arith)

pub slots_size_lem : (xs : List Slot) → SlotsShaped xs → length xs ≡ slot_count → length (slots_octets xs) ≡ slots_size
slots_size_lem xs f h = let n = slots_long xs f in omega arith

-- ---- their arrays' sizes: of slots that fit, of the first of them, of one of them
pub fit_shaped : (xs : List Slot) → SlotsFit xs → SlotsShaped xs
fit_shaped [] f = tt
fit_shaped (x ∷ xs) f = (fits_sized f.0, fit_shaped xs f.1)

take_shaped : (n : ℕ) (xs : List Slot) → SlotsShaped xs → SlotsShaped (take n xs)
take_shaped zero xs f = tt
take_shaped (suc n) [] f = tt
take_shaped (suc n) (x ∷ xs) f = (f.0, take_shaped n xs f.1)

slot_shaped : (xs : List Slot) → SlotsShaped xs → (i : ℕ) → i < length xs → SlotShaped (get_or xs i blank)
slot_shaped [] f i h = absurd (omega arith)
slot_shaped (x ∷ xs) f zero h = f.0
slot_shaped (x ∷ xs) f (suc i) h = slot_shaped xs f.1 i (omega arith)

-- ---- what stands at a slot's place is that slot
slot_cut : (o : List ℕ) (i : ℕ) (s : List ℕ) → slot_part o i ≡ s → (slot_at o i ≡ slot_of s) × (good_at o i ≡ slot_good s)
unfolding slot_at good_at
slot_cut o i s e = (ap slot_of e, ap slot_good e)

-- the octets of slots from number i on, behind what stands in front of them, are those slots
pub slots_back : (a : List ℕ) (i : ℕ) (xs : List Slot) → SlotsShaped xs → length a ≡ slot_place i
    → (slots_at (a ++ slots_octets xs) i (length xs) ≡ xs) × (slots_good (a ++ slots_octets xs) i (length xs) ≡ true)
slots_back a i [] f h = (refl, refl)
slots_back a i (x ∷ xs) f h =
    let q = slots_octets xs in
    let o = a ++ (slot_octets x ++ q) in
    let n = slot_size_lem x f.0 in
    let m : length (a ++ slot_octets x) ≡ slot_place (suc i) = rw length-append (omega arith) in
    let c : slot_part o i ≡ slot_octets x = rw (drop_at a (slot_octets x ++ q) (slot_place i) h) (take_at (slot_octets x) q slot_size n) in
    let e = slot_cut o i (slot_octets x) c in
    let b = slot_back x f.0 in
    let r = rw (append_assoc a (slot_octets x) q) at (slots_back (a ++ slot_octets x) (suc i) xs f.1 m) in
    (rw (e.0, b.0, r.0), rw (e.1, b.1, r.1))

-- ---- octets that are slots are their octets
slot_octets_lem : (o : List ℕ) → Octets o → (i : ℕ) → slot_place (suc i) ≤ length o → good_at o i ≡ true → slot_octets (slot_at o i) ≡ slot_part o i
unfolding slot_at good_at
slot_octets_lem o os i h g =
    slot_stands (slot_part o i) (octets_part o (slot_place i) slot_size os) (cut_size slot_size (slot_place i) o (omega arith)) g

pub slots_stand : (o : List ℕ) → Octets o → (i n : ℕ) → length o ≡ slot_place (i + n) → slots_good o i n ≡ true → slots_octets (slots_at o i n) ≡ drop (slot_place i) o
slots_stand o os i zero h g = sym (drop_of_length-le o {i = slot_place i} (omega arith))
slots_stand o os i (suc n) h g =
    let b = both_true (good_at o i) (slots_good o (suc i) n) g in
    join (slot_octets_lem o os i (omega arith) b.0) (slots_stand o os (suc i) n (omega arith) b.1)
    ∙ cut_then o (slot_place i) slot_size (slot_place (suc i)) (omega arith)

-- ---- they fit, and are as many as were asked for
pub slots_fit : (o : List ℕ) → Octets o → (i n : ℕ) → length o ≡ slot_place (i + n) → SlotsFit (slots_at o i n)
unfolding slot_at
slots_fit o os i zero h = tt
slots_fit o os i (suc n) h =
    let m = cut_size slot_size (slot_place i) o (omega arith) in
    (slot_fits (slot_part o i) (octets_part o (slot_place i) slot_size os) m, slots_fit o os (suc i) n (omega arith))

pub slots_count : (o : List ℕ) (i n : ℕ) → length (slots_at o i n) ≡ n
slots_count o i zero = refl
slots_count o i (suc n) = ap suc (slots_count o (suc i) n)

-- ---- laying them, from the first to the last
slots_join : (xs ys : List Slot) → slots_octets (xs ++ ys) ≡ slots_octets xs ++ slots_octets ys
slots_join [] ys = refl
slots_join (x ∷ xs) ys = rw (slots_join xs ys) (sym (append_assoc (slot_octets x) (slots_octets xs) (slots_octets ys)))

-- the first i slots lie in the area, and nothing else has changed
abbrev pub SlotsLaid : List ℕ → List Slot → ℕ → List ℕ → Type 0
SlotsLaid area xs i later = later ≡ splice area slots_place (slots_octets (take i xs))

module _ (area : List ℕ) (xs : List Slot) (size : length area ≡ state_size) (four : length xs ≡ slot_count) (shaped : SlotsShaped xs) where
  pub slots_none : SlotsLaid area xs 0 area
  slots_none = sym (splice_nil area slots_place)

  pub slots_more : (i : ℕ) → i < slot_count → {later later' : List ℕ} → SlotsLaid area xs i later
      → later' ≡ splice later (slot_place i) (slot_octets (get_or xs i blank)) → SlotsLaid area xs (suc i) later'
  slots_more i h {later} {later'} e d =
      let x = get_or xs i blank in
      let q = slots_octets (take i xs) in
      let n : length q ≡ slot_size * i = slots_long (take i xs) (take_shaped i xs shaped) ∙ ap (λ (k : ℕ). slot_size * k) (length-take-le i xs (omega arith)) in
      let m = slot_size_lem x (slot_shaped xs shaped i (omega arith)) in
      let p : slot_place i ≡ slots_place + length q = rw n in
      let t : slots_octets (take (suc i) xs) ≡ q ++ slot_octets x =
      ap slots_octets (take-suc xs i blank (omega arith)) ∙ slots_join (take i xs) (x ∷ []) ∙ ap (λ (l : List ℕ). q ++ l) (append-nil (slot_octets x)) in
      rw t (splice_then area slots_place q (slot_octets x) (omega arith) e (rw p at d))

  pub slots_all : {later : List ℕ} → SlotsLaid area xs slot_count later → later ≡ splice area slots_place (slots_octets xs)
  slots_all e =
      let t : take slot_count xs ≡ xs = subst (λ (k : ℕ). take k xs ≡ xs) four (take-length xs) in
      e ∙ ap (λ (l : List Slot). splice area slots_place (slots_octets l)) t

-- ---- a slot found by its place and end
pub slot_found : (o : List ℕ) (i at : ℕ) (x : Slot) → at ≡ slot_place i → x ≡ slot_of (take (at + slot_size - at) (drop at o)) → x ≡ slot_at o i
unfolding slot_at
slot_found o i at x p e = cut_by slot_of o slot_size p e

pub good_found : (o : List ℕ) (i at : ℕ) (g : Bool) → at ≡ slot_place i → g ≡ slot_good (take (at + slot_size - at) (drop at o)) → g ≡ good_at o i
unfolding good_at
good_found o i at g p e = cut_by slot_good o slot_size p e

-- ---- an area in which a part could not be laid holds no slots either, by the same number
pub slots_barred : (t : Slots) {n at k : ℕ} {xs area later : List ℕ} → 1 ≤ n → Lays at k xs area n later → length t.slots ≡ slot_count → SlotsShaped t.slots → LaysSlots t later n later
slots_barred t {n} {at} {k} {xs} {area} {later} some l four shaped =
    by_test (eqb (length area) state_size)
    (λ e. let z : n ≡ 0 = rw e at l.answer in absurd (omega arith))
    (λ e.
    let a : later ≡ area = rw e at l.after in
    let f : n ≡ 60 = rw e at l.answer in
    rw a (record { lays = record { answer = rw e f; after = rw e; long = slots_size_lem t.slots shaped four }; four = four; shaped = shaped }))
