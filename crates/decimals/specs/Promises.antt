-- What the functions on big numbers promise: a number of n limbs before, the same after, and what is answered.
use Rattle.std.specs.Prelude.{ℕ, ◌+◌, ◌*◌, ◌^◌, ◌≤◌, ◌<◌, ◌≡◌, List, length}
use Rattle.std.specs.declared.cmp.Ordering.{Ordering}
use Rattle.std.specs.declared.cmp.Ordering.TheVariants.{Less, Equal, Greater}
use Rattle.decimals.specs.Worth.{worth}
use Rattle.decimals.specs.Order.{Limbs}

-- the product, with what does not fit
pub record Scaled (before after : List ℕ) (n by over : ℕ) : Type 0 where
  pub long : length after ≡ length before
  pub limbs : n ≤ length before → Limbs before → Limbs after
  pub exact : n ≤ length before → worth after n + over * 4294967296 ^ n ≡ by * worth before n

-- the sum, with what does not fit
pub record Added (before other after : List ℕ) (n over : ℕ) : Type 0 where
  pub long : length after ≡ length before
  pub limbs : n ≤ length before → Limbs before → Limbs after
  pub exact : n ≤ length before → worth after n + over * 4294967296 ^ n ≡ worth before n + worth other n

-- the difference, with what is borrowed from beyond
pub record Taken (before other after : List ℕ) (n borrowed : ℕ) : Type 0 where
  pub most : borrowed ≤ 1
  pub long : length after ≡ length before
  pub limbs : n ≤ length before → Limbs before → Limbs after
  pub exact : n ≤ length before → worth after n + worth other n ≡ worth before n + borrowed * 4294967296 ^ n

-- which of the two is larger
pub record Compared (a b : List ℕ) (n : ℕ) (r : Ordering) : Type 0 where
  pub less : r ≡ Less → Limbs a → worth a n < worth b n
  pub same : r ≡ Equal → worth a n ≡ worth b n
  pub more : r ≡ Greater → Limbs b → worth b n < worth a n
