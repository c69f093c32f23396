-- A frame in its two parts.
use Prim.Native.Nat.{ℕ, ◌<◌, ◌≤◌}
use mathlib.Core.List.{List, ◌++◌}
use mathlib.Core.Path.{◌≡◌, refl}
use lib.ListN.{length}
use borrow.Author.Tests.{lt-ltb, le-ltb}
use Rattle.frames.specs.Layout.{head_of, data_part, frame_octets}
use Rattle.frame_writer.specs.Fault.{fault_of}
use Rattle.frame_writer.specs.Front.{front_of}

pub front_length : (kind to from n : ℕ) → length (front_of kind to from n) ≡ 8
unfolding front_of head_of
front_length kind to from n = refl

-- a frame is its front, then its data with their check
pub in_parts : (kind to from : ℕ) (d : List ℕ) → frame_octets kind to from d ≡ front_of kind to from (length d) ++ data_part d
unfolding frame_octets front_of head_of
in_parts kind to from d = refl

-- 64 is the only refusal
pub too_long_lem : (d : List ℕ) → 501 < length d → fault_of d ≡ 64
unfolding fault_of
too_long_lem d h = rw (lt-ltb 501 (length d) h)

pub no_fault : (d : List ℕ) → length d ≤ 501 → fault_of d ≡ 0
unfolding fault_of
no_fault d h = rw (le-ltb 501 (length d) h)
