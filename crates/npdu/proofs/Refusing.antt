-- What a reading of a header promises where it refuses nothing: a refused one promises all of it, and a part that was refused refuses the header.
use Prim.Native.Nat.{ℕ, ◌≤◌}
use native.Mathlib.Omega.{arith}
use mathlib.Core.Path.{◌≡◌}
use lib.Dec.{eqb}
use borrow.Author.Tests.{eqb-true, eqb-false}
use Rattle.octets.specs.Choice.{non, by_test}
use Rattle.octets.specs.Reading.{refuse}
use Rattle.npdu.specs.Reading.{Reading, refused_by}

module _ (P : Reading → Type 0) where
  abbrev pub Read : Reading → Type 0
  Read r = r.refused ≡ 0 → P r

  pub refused_not : (n : ℕ) → 1 ≤ n → Read (refused_by n)
  unfolding refused_by
  refused_not n h e = absurd (omega arith)

  pub past : (f : ℕ) (r : Reading) → (f ≡ 0 → Read r) → Read (refuse (non (eqb f 0)) (refused_by f) r)
  unfolding refused_by
  past f r g = by_test (eqb f 0) (λ e. rw e (g (eqb-true f 0 e))) (λ e. rw e (λ z. absurd (eqb-false f 0 e z)))
