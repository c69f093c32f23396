-- An edition's octet is that edition, and an octet that is an edition's is its octet.
use Prim.Native.Nat.{ℕ, zero, suc}
use native.Mathlib.Omega.{arith}
use mathlib.Core.Path.{◌≡◌, refl}
use mathlib.Core.Bool.{true}
use borrow.Author.Tests.{leb-true}
use Rattle.apdu.specs.declared.Edition.{Edition}
use Rattle.apdu.specs.declared.Edition.TheVariants.{First, Later}
use Rattle.state.specs.Edition.{edition_octet, edition_good, edition_of}

pub edition_back : (e : Edition) → (edition_of (edition_octet e) ≡ e) × (edition_good (edition_octet e) ≡ true)
unfolding edition_of edition_good
edition_back First = (refl, refl)
edition_back Later = (refl, refl)

pub edition_stands : (x : ℕ) → edition_good x ≡ true → edition_octet (edition_of x) ≡ x
unfolding edition_of edition_good
edition_stands zero g = refl
edition_stands (suc zero) g = refl
edition_stands (suc (suc x)) g = let z = leb-true (suc (suc x)) 1 g in absurd (omega arith)
