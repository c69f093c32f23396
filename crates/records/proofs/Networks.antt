-- The network header's record: its size, its laying, and what is read back of it.
use Prim.Native.Nat.{ℕ, zero, suc, ◌+◌, ◌*◌, ◌/◌, ◌%◌, ◌≤◌, ◌<◌}
use native.Mathlib.Omega.{arith}
use mathlib.Core.Path.{◌≡◌, refl, sym, ◌∙◌}
use mathlib.Core.List.{List, ◌++◌, append_assoc}
use lib.ListN.{length, take, drop, length-append, length-drop}
use lib.Seq.{length-take-le}
use lib.Dec.{ltb}
use Rattle.octets.specs.Reading.{Octets, oct}
use Rattle.octets.specs.Splice.{splice}
use Rattle.octets.specs.Has.{Has, has_append, has_left, has_right, has_take, has_cut, has_all, all_has}
use Rattle.npdu.specs.declared.Npdu.{Npdu}
use Rattle.npdu.specs.Valid.{Kept}
use Rattle.npdu.specs.Reading.{read_npdu}
use Rattle.npdu.proofs.Exact.{head_sound}
use Rattle.records.specs.Flag.{flag, flag_back}
use Rattle.records.specs.Network.{front, middle, rest, npdu_record, npdu_at}
use Rattle.records.proofs.Areas.{laid_whole, two_laid}

module _ (h : Npdu) (k : Kept h) where
  pub npdu_size_lem : length (npdu_record h) ≡ 29
  unfolding npdu_record
  npdu_size_lem = simp (length-append, k.dest_kept, k.source_kept)

  -- both halves, one after the other
  pub npdu_laid : (area l₁ l₂ : List ℕ) → l₁ ≡ splice area 0 (front h ++ h.dadr) → l₂ ≡ splice l₁ 15 (middle h ++ (h.sadr ++ rest h)) → length area ≡ 29 → l₂ ≡ npdu_record h
  unfolding npdu_record
  npdu_laid area l₁ l₂ e₁ e₂ m =
      let a : List ℕ = front h ++ h.dadr in
      let b : List ℕ = middle h ++ (h.sadr ++ rest h) in
      let p : length a ≡ 15 = simp k.dest_kept in
      let q : length b ≡ 14 = simp (length-append, k.source_kept) in
      let n : length (a ++ b) ≡ 29 = rw (length-append, p, q) in
      laid_whole area (a ++ b) l₂ (m ∙ sym n) (two_laid area 0 15 a b e₁ e₂ (omega arith) (omega arith)) ∙ simp append_assoc

-- the high octet of a number of two octets, and of four
pub high_two : (v : ℕ) → v < 65536 → v / 256 % 256 ≡ v / 256
high_two v h = omega arith

pub high_four : (v : ℕ) → v < 4294967296 → v / 16777216 % 256 ≡ v / 16777216
high_four v h = omega arith

pub two_back : (v : ℕ) → v / 256 * 256 + v % 256 ≡ v
two_back v = omega arith

-- a header's record is read as that header
pub npdu_back : (h : Npdu) → Kept h → npdu_at (npdu_record h) ≡ h
unfolding npdu_at npdu_record
npdu_back h k =
    let o = npdu_record h in
    let n : length o ≡ 29 = npdu_size_lem h k in
    let z : Has o 0 o = all_has o in
    let r₁ : Has o 8 (h.dadr ++ (middle h ++ (h.sadr ++ rest h))) = has_right o 0 (front h) (h.dadr ++ (middle h ++ (h.sadr ++ rest h))) z in
    let r₂ : Has o 15 (middle h ++ (h.sadr ++ rest h)) = rw k.dest_kept at (has_right o 8 h.dadr (middle h ++ (h.sadr ++ rest h)) r₁) in
    let r₃ : Has o 18 (h.sadr ++ rest h) = has_right o 15 (middle h) (h.sadr ++ rest h) r₂ in
    let r₄ : Has o 25 (rest h) = rw k.source_kept at (has_right o 18 h.sadr (rest h) r₃) in
    let d : take 7 (drop 8 o) ≡ h.dadr = rw k.dest_kept at (has_cut o 8 h.dadr (has_left o 8 h.dadr (middle h ++ (h.sadr ++ rest h)) (omega arith) r₁)) in
    let s : take 7 (drop 18 o) ≡ h.sadr = rw k.source_kept at (has_cut o 18 h.sadr (has_left o 18 h.sadr (rest h) (omega arith) r₃)) in
    rw (r₂.1, r₂.2.1, r₂.2.2.1, r₄.1, r₄.2.1, r₄.2.2.1, r₄.2.2.2.1, d, s, two_back h.dnet, two_back h.snet, two_back h.vendor, flag_back h.message, flag_back h.dest, flag_back h.source, flag_back h.reply)

-- a header that was read goes into a record and comes back as it was
pub npdu_read_back : (s : List ℕ) → Octets s → (read_npdu s).refused ≡ 0 → npdu_at (npdu_record (read_npdu s).head) ≡ (read_npdu s).head
npdu_read_back s os z = npdu_back (read_npdu s).head (head_sound s os z).kept

-- a record of 29 octets gives addresses of seven
pub npdu_kept : (o : List ℕ) → length o ≡ 29 → Kept (npdu_at o)
unfolding npdu_at
npdu_kept o k =
    record { dest_kept = length-take-le 7 (drop 8 o) (rw length-drop (omega arith)); source_kept = length-take-le 7 (drop 18 o) (rw length-drop (omega arith)) }

-- ---- conversely, 29 octets whose flags are 0 or 1 are the record of the header that they are read as
flag_stands : (b : ℕ) → b ≤ 1 → flag (ltb 0 b) ≡ b
flag_stands zero h = refl
flag_stands (suc zero) h = refl
flag_stands (suc (suc b)) h = absurd (omega arith)

two_stands : (a b : ℕ) → b < 256 → ((a * 256 + b) / 256 ≡ a) × ((a * 256 + b) % 256 ≡ b)
two_stands a b h = (omega arith, omega arith)

pub record Flagged (o : List ℕ) : Type 0 where
  pub message : oct o 0 ≤ 1
  pub dest : oct o 1 ≤ 1
  pub source : oct o 2 ≤ 1
  pub reply : oct o 3 ≤ 1

module _ (o : List ℕ) (os : Octets o) (size : length o ≡ 29) (f : Flagged o) where
  front_stands : Has o 0 (front (npdu_at o))
  unfolding npdu_at
  front_stands =
      let n = two_stands (oct o 5) (oct o 6) (os 6) in
      rw (flag_stands (oct o 0) f.message, flag_stands (oct o 1) f.dest, flag_stands (oct o 2) f.source, flag_stands (oct o 3) f.reply, n.0, n.1)
      (omega arith, refl, (omega arith, refl, (omega arith, refl, (omega arith, refl, (omega arith, refl, (omega arith, refl, (omega arith, refl, (omega arith, refl, omega arith))))))))

  middle_stands : Has o 15 (middle (npdu_at o))
  unfolding npdu_at
  middle_stands =
      let n = two_stands (oct o 15) (oct o 16) (os 16) in
      rw (n.0, n.1) (omega arith, refl, (omega arith, refl, (omega arith, refl, omega arith)))

  rest_stands : Has o 25 (rest (npdu_at o))
  unfolding npdu_at
  rest_stands =
      let n = two_stands (oct o 27) (oct o 28) (os 28) in
      rw (n.0, n.1) (omega arith, refl, (omega arith, refl, (omega arith, refl, (omega arith, refl, omega arith))))

  addresses_stand : Has o 8 (npdu_at o).dadr × Has o 18 (npdu_at o).sadr
  unfolding npdu_at
  addresses_stand = (has_take o 8 7 (omega arith), has_take o 18 7 (omega arith))

  pub npdu_stands : npdu_record (npdu_at o) ≡ o
  unfolding npdu_record
  npdu_stands =
      let h = npdu_at o in
      let k = npdu_kept o size in
      let a = addresses_stand in
      let r₃ : Has o 18 (h.sadr ++ rest h) = has_append o 18 h.sadr (rest h) a.1 (rw k.source_kept rest_stands) in
      let r₂ : Has o 15 (middle h ++ (h.sadr ++ rest h)) = has_append o 15 (middle h) (h.sadr ++ rest h) middle_stands r₃ in
      let r₁ : Has o 8 (h.dadr ++ (middle h ++ (h.sadr ++ rest h))) = has_append o 8 h.dadr (middle h ++ (h.sadr ++ rest h)) a.0 (rw k.dest_kept r₂) in
      let r₀ : Has o 0 (npdu_record h) = has_append o 0 (front h) (h.dadr ++ (middle h ++ (h.sadr ++ rest h))) front_stands r₁ in
      sym (has_all o (npdu_record h) r₀ (npdu_size_lem h k ∙ sym size))
