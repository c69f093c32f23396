-- A digit by repeated subtraction: what is taken off, and what is left.
use Rattle.std.specs.Prelude.{ℕ, false, refl, ◌+◌, ◌*◌, ◌≤◌, ◌<◌, ◌≡◌, List, length, eqb}
use Rattle.std.specs.declared.cmp.Ordering.{Ordering}
use Rattle.std.specs.declared.cmp.Ordering.TheVariants.{Less, Equal, Greater}
use Rattle.std.specs.Ordering.{is_lt}
use Rattle.std.proofs.Common.{arith, add-mul, eqb-true}
use Rattle.std.proofs.lemmas.Bool.{eqb-false}
use Rattle.octets.specs.Choice.{by_test}
use Rattle.decimals.specs.Worth.{worth}
use Rattle.decimals.specs.Order.{Limbs, worth_below}
use Rattle.decimals.specs.Promises.{Taken, Compared}

-- what was there is d times the whole and the rest; where it was less than ten times the whole, the rest is less than the whole
pub record Divided (before whole after : List ℕ) (n d : ℕ) : Type 0 where
  pub digit : d ≤ 9
  pub long : length after ≡ length before
  pub limbs : n ≤ length before → Limbs before → Limbs after
  pub exact : n ≤ length before → Limbs before → Limbs whole → worth before n ≡ d * worth whole n + worth after n
  pub rest : n ≤ length before → Limbs before → Limbs whole → worth before n < 10 * worth whole n → worth after n < worth whole n

-- not smaller: as large
pub not_less : (a b : List ℕ) (n : ℕ) (r : Ordering) → Compared a b n r → is_lt r ≡ false → Limbs b → worth b n ≤ worth a n
not_less a b n Less c h lb = cc
not_less a b n Equal c h lb = omega (arith, c.same refl)
not_less a b n Greater c h lb = omega (arith, c.more refl lb)

-- nothing is borrowed from beyond where the other is not larger
pub taken_whole : (a b z : List ℕ) (n w : ℕ) → Taken a b z n w → n ≤ length a → Limbs a → worth b n ≤ worth a n → worth z n + worth b n ≡ worth a n
taken_whole a b z n w t h la k =
    let m = t.most in
    by_test (eqb w 0)
    (λ e. let q : w ≡ 0 = eqb-true w 0 e in omega (arith, rw q at (t.exact h)))
    (λ e. let d = eqb-false w 0 e in let q : w ≡ 1 = omega arith in omega (arith, rw q at (t.exact h), worth_below z (t.limbs h la) n))

-- once more
pub once_more : (x d s r z : ℕ) → x ≡ d * s + r → z + s ≡ r → x ≡ (d + 1) * s + z
once_more x d s r z p q = omega (arith, add-mul d 1 s)
