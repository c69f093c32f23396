-- Segments of one key that come in order to four free slots are joined in the first.
use Prim.Native.Nat.{ℕ, zero, suc, ◌+◌, ◌*◌, ◌≤◌, ◌<◌}
use native.Mathlib.Omega.{arith}
use native.Mathlib.Nat.{suc-mul, zero-mul}
use native.Mathlib.Numerals.{add-one}
use mathlib.Core.Path.{◌≡◌, refl, sym, ap, ◌∙◌}
use mathlib.Core.Bool.{Bool, true, false}
use mathlib.Core.List.{List}
use mathlib.Core.Option.{some}
use lib.ListN.{length, take, drop, set, length-take, length-drop}
use lib.Seq.{take-add, take_all, length-take-le}
use borrow.Author.Tests.{le-ltb}
use Rattle.octets.specs.Splice.{splice, splice_join, splice_inside}
use Rattle.messages.specs.Slots.{room, part, Slot, Segment, Box, boxed, empty, slot_of}
use Rattle.messages.specs.Rows.{Answer, next_number, done, awaiting, settle, rebuild}
use Rattle.messages.specs.Rows.Answer.{taken, completed}
use Rattle.messages.proofs.Rows.{fitted_on, settle_more, settle_last}
use Rattle.messages.proofs.Laws.{start, continue}
use Rattle.rebuild.specs.View.{keys, view, fresh}
use Rattle.rebuild.specs.declared.Key.{Key}
use Rattle.rebuild.proofs.Page.{key_laws}
use Rattle.cutter.specs.Layout.{part_of}
use Rattle.traffic.specs.Heard.{piece_of, waiting}

-- ---- the slots
-- the number after a number below 255
next_up : (k : ℕ) → suc k < 256 → suc k ≡ next_number k
unfolding next_number
next_up k l = omega arith

module _ (key : Key) (choice : ℕ) where
  -- where n octets are held the next segment is laid behind them
  lays : (k n : ℕ) → k < 256 → (k ≡ 0 → n ≡ 0) → (more : Bool) (o area : List ℕ) → n + length o ≤ room
      → (let b = boxed (waiting key choice k n) area in
      rebuild keys (piece_of key choice more k o) b ≡ settle keys (piece_of key choice more k o) 0 n b)
  lays zero n l z more o area f =
      let none-held : n ≡ 0 = z refl in
      rw none-held (start keys (piece_of key choice more 0 o) (boxed (view fresh) area) 0 refl refl refl (omega arith))
  lays (suc k) n l z more o area f =
      let g = piece_of key choice more (suc k) o in
      let s = waiting key choice (suc k) n in
      let b : Box Key = boxed s area in
      let found : slot_of keys key s ≡ some 0 = rw (key_laws.self key) in
      continue keys g b 0 found (record { used = true; key = key; next = next_number k; choice = choice; held = n }) refl (next_up k l) refl
      ∙ fitted_on keys g b (some 0) n (le-ltb room (n + length o) f)

  -- the slots behind it, with MOR and without
  slots_more : (k n total : ℕ) (more : Bool) (o : List ℕ) → set (waiting key choice k n) 0 (awaiting keys (piece_of key choice more k o) total) ≡ waiting key choice (suc k) total
  slots_more zero n total more o = refl
  slots_more (suc k) n total more o = refl

  slots_last : (k n : ℕ) → set (waiting key choice k n) 0 (empty keys) ≡ view fresh
  slots_last zero n = refl
  slots_last (suc k) n = refl

-- what was done, part by part
same_done : {x y : Answer} {s t : List (Slot Key)} {a b : List ℕ} → x ≡ y → s ≡ t → a ≡ b → done x s a ≡ done y t b
same_done p q r = cc

-- ---- the octets
module _ (area params : List ℕ) (sized : length area ≡ 65536) (short : length params ≤ 16384) (each : ℕ) where
  -- a part that is not the last, and the last
  whole_part : (n : ℕ) → n + each ≤ length params → n + length (take each (drop n params)) ≡ n + each
  whole_part n h = ap (λ (l : ℕ). n + l) (length-take-le each (drop n params) (rw length-drop (omega arith)))

  last_part : (n : ℕ) → n ≤ length params → length params ≤ n + each → n + length (take each (drop n params)) ≡ length params
  last_part n h l = rw (take_all each (drop n params) (rw length-drop (omega arith)), length-drop) (omega arith)

  -- any part fits
  part_fits : (n : ℕ) → n ≤ length params → n + length (take each (drop n params)) ≤ length params
  part_fits n h = simp (length-take, length-drop) (omega arith)

  -- behind n octets of the parameters the next part is the next of them
  joins : (n : ℕ) → n ≤ length params → splice (splice area 0 (take n params)) (room * 0 + n) (take each (drop n params)) ≡ splice area 0 (take (n + each) params)
  joins n h =
      let l : length (take n params) ≡ n = length-take-le n params h in
      let f = part_fits n h in
      rw l at (splice_join area 0 (take n params) (take each (drop n params)) (rw l (omega arith))) ∙ ap (splice area 0) (sym (take-add n each params))

  -- ---- segments 0, 1, .. of one key
  module _ (key : Key) (choice : ℕ) (k : ℕ) (more : Bool) (l : k < 256) where
    abbrev held : ℕ
    held = k * each

    abbrev piece : Segment Key
    piece = piece_of key choice more k (part_of each k params)

    abbrev box : Box Key
    box = boxed (waiting key choice k held) (splice area 0 (take held params))

    laid : held ≤ length params → rebuild keys piece box ≡ settle keys piece 0 held box
    laid h =
        let f = part_fits held h in
        lays key choice k held l (λ z. rw z (zero-mul each)) more (part_of each k params) (splice area 0 (take held params)) (omega arith)

    next_held : (k + 1) * each ≡ held + each
    next_held = rw add-one (suc-mul k each)

    -- one more with MOR is taken
    pub takes : more ≡ true → (k + 1) * each ≤ length params
        → rebuild keys (piece_of key choice more k (part_of each k params)) (boxed (waiting key choice k (k * each)) (splice area 0 (take (k * each) params)))
        ≡ done (taken 0 ((k + 1) * each)) (waiting key choice (k + 1) ((k + 1) * each)) (splice area 0 (take ((k + 1) * each) params))
    takes q h =
        let n : held + length (part_of each k params) ≡ (k + 1) * each = whole_part held (omega (arith, next_held)) ∙ sym next_held in
        laid (omega (arith, next_held))
        ∙ settle_more keys piece box 0 held q
        ∙ same_done (ap (taken 0) n) (slots_more key choice k held _ more (part_of each k params) ∙ rw (n, add-one k))
        (joins held (omega (arith, next_held)) ∙ rw next_held)

    -- the last completes, and all slots are free again
    pub completes : more ≡ false → k * each ≤ length params → length params ≤ (k + 1) * each
        → rebuild keys (piece_of key choice more k (part_of each k params)) (boxed (waiting key choice k (k * each)) (splice area 0 (take (k * each) params)))
        ≡ done (completed 0 (length params)) (view fresh) (splice area 0 params)
    completes q h t =
        laid h
        ∙ settle_last keys piece box 0 held q
        ∙ same_done (ap (completed 0) (last_part held h (omega (arith, next_held)))) (slots_last key choice k held)
        (joins held h ∙ ap (splice area 0) (take_all (held + each) params (omega (arith, next_held))))

  -- where they were laid they stand
  pub part_is : part 0 (length params) (splice area 0 params) ≡ params
  part_is = splice_inside area 0 params (omega arith)
