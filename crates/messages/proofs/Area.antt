-- A part of the area after octets were laid: before them, behind them, and with them at its end.
use mathlib.Core.Path.{◌≡◌, sym, ap, ap₂, ◌∙◌}
use mathlib.Core.List.{List, ◌++◌}
use Prim.Native.Nat.{ℕ, ◌+◌, ◌≤◌}
use native.Mathlib.Omega.{arith}
use lib.ListN.{length, take, drop}
use lib.Seq.{take-add, drop_at, drop-drop, length-take-le}
use Rattle.octets.specs.Splice.{splice, splice_length, splice_before, splice_behind, splice_inside}
use Rattle.messages.specs.Slots.{part}

part_cut : (base n : ℕ) (l : List ℕ) → base + n ≤ length l → drop base (take (base + n) l) ≡ part base n l
part_cut base n l h = rw (take-add base n l) (drop_at (take base l) (part base n l) base (length-take-le base l (omega arith)))

module _ (area : List ℕ) (at : ℕ) (o : List ℕ) (fits : at + length o ≤ length area) where
  pub part_before : (base n : ℕ) → base + n ≤ at → part base n (splice area at o) ≡ part base n area
  part_before base n l =
      let len = splice_length area at o fits in
      sym (part_cut base n (splice area at o) (rw len (omega arith))) ∙ ap (drop base) (splice_before area at o (base + n) (omega arith) l) ∙ part_cut base n area (omega arith)

  pub part_behind : (base n : ℕ) → at + length o ≤ base → part base n (splice area at o) ≡ part base n area
  part_behind base n l = ap (take n) (splice_behind area at o base (omega arith) l)

-- behind the octets that stand there
pub part_grown : (area : List ℕ) (base held : ℕ) (o : List ℕ) → base + held + length o ≤ length area
    → part base (held + length o) (splice area (base + held) o) ≡ part base held area ++ o
part_grown area base held o fits =
    let s = splice area (base + held) o in
    let laid : take (length o) (drop held (drop base s)) ≡ o = rw drop-drop (splice_inside area (base + held) o (omega arith)) in
    take-add held (length o) (drop base s) ∙ ap₂ (λ (x y : List ℕ). x ++ y) (part_before area (base + held) o fits base held (omega arith)) laid
