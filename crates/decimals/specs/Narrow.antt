-- Numbers of 64 bits: their order, a digit as a quotient, and the room that the products by ten need.
use Rattle.std.specs.Prelude.{ℕ, ◌+◌, ◌*◌, ◌/◌, ◌%◌, ◌^◌, ◌≤◌, ◌<◌, Bool, true, false, ◌≡◌, refl, leb}
use Rattle.std.specs.declared.cmp.Ordering.{Ordering}
use Rattle.std.specs.declared.cmp.Ordering.TheVariants.{Less, Equal, Greater}
use Rattle.std.specs.Ordering.{MatchOrdering, nat_cmp, is_ge, is_le}
use Rattle.std.specs.Cmp.{ranks}
use Rattle.std.proofs.Common.{arith, div-add-mod', div-lt_iff_lt-mul, le-div_iff_mul-le, mod-lt, one-mul, sym, ◌∙◌, lit<, pow_pos, pow_mono, shl_exact, leb-true}

-- which of the two is larger
pub record Ordered (a b : ℕ) (r : Ordering) : Type 0 where
  pub less : r ≡ Less → a < b
  pub same : r ≡ Equal → a ≡ b
  pub more : r ≡ Greater → b < a

-- larger, or equal where equal will do
pub record Exceeds (order : Ordering) (r : Bool) : Type 0 where
  pub yes : r ≡ true → is_ge order ≡ true
  pub no : r ≡ false → is_le order ≡ true

-- the same of two numbers
pub record Reaches (t s : ℕ) (r : Bool) : Type 0 where
  pub yes : r ≡ true → s ≤ t
  pub no : r ≡ false → t ≤ s

-- a digit is the exact quotient, with the exact rest
pub record Quotient (r s d rest : ℕ) : Type 0 where
  pub digit : d ≤ 9
  pub exact : r ≡ d * s + rest
  pub less : rest < s

-- two to a number
pub record Power (bits r : ℕ) : Type 0 where
  pub exact : r ≡ 2 ^ bits
  pub least : 1 ≤ r
  pub most : r ≤ 1152921504606846976

-- m times two to up, over two to down, has room: in quarters of the last bit at most 2^56, over at most 2^60
pub record Fits (m up down : ℕ) : Type 0 where
  pub above : up ≤ 30
  pub below : down ≤ 58
  pub number : m * 2 ^ (up + 2) ≤ 72057594037927936

-- a whole of at most 2^60 that has room to grow by tens until it is as large as the number
pub record Growing (near s : ℕ) : Type 0 where
  pub ten : 10 * near ≤ 1152921504606846976
  pub some : 0 < s
  pub most : s ≤ 1152921504606846976

-- the whole has grown enough, and ten times it still has room
pub record Grown (near s : ℕ) : Type 0 where
  pub enough : near ≤ s
  pub most : s ≤ 1152921504606846976

-- a number below the whole, with half the way to the next; ten times all of them have room
pub record Ready (r s plus minus : ℕ) : Type 0 where
  pub near : r + plus ≤ s
  pub some : 0 < plus
  pub less : minus ≤ plus
  pub most : s ≤ 1152921504606846976

by_rank : {a b : ℕ} {r : Ordering} → MatchOrdering r (a < b) (a ≡ b) (b < a) → Ordered a b r
by_rank {r = Less} m = record { less = λ e. m; same = λ e. cc; more = λ e. cc }
by_rank {r = Equal} m = record { less = λ e. cc; same = λ e. m; more = λ e. cc }
by_rank {r = Greater} m = record { less = λ e. cc; same = λ e. cc; more = λ e. m }

-- so the library compares two numbers
pub ordered : (a b : ℕ) → Ordered a b (nat_cmp a b)
ordered a b = by_rank (ranks a b)

-- not smaller: as large
pub not_below : (a b : ℕ) (r : Ordering) → Ordered a b r → is_ge r ≡ true → b ≤ a
not_below a b Less o h = cc
not_below a b Equal o h = omega (arith, o.same refl)
not_below a b Greater o h = omega (arith, o.more refl)

-- not larger: at most as large
pub not_above : (a b : ℕ) (r : Ordering) → Ordered a b r → is_le r ≡ true → a ≤ b
not_above a b Less o h = omega (arith, o.less refl)
not_above a b Equal o h = omega (arith, o.same refl)
not_above a b Greater o h = cc

-- a quotient below ten is a digit
pub quotient : (r s : ℕ) → r < 10 * s → Quotient r s (r / s) (r % s)
quotient r s h =
    let q : r / s < 10 = (div-lt_iff_lt-mul {k = s} {x = r} {y = 10} (omega arith)).1 h in
    record { digit = omega arith; exact = sym (div-add-mod' r s); less = mod-lt r (omega arith) }

-- one shifted is a power of two
pub shifted : (bits : ℕ) → bits ≤ 60 → Power bits ((1 * 2 ^ bits) % 2 ^ 64)
shifted bits h =
    let e : (1 * 2 ^ bits) % 2 ^ 64 ≡ 2 ^ bits = shl_exact {a = 1} 1 bits 64 (lit< tt) (omega arith) ∙ one-mul (2 ^ bits) in
    let l : 0 < 2 ^ bits = pow_pos bits in
    let m : 2 ^ bits ≤ 1152921504606846976 = pow_mono {i = bits} {j = 60} h in
    record { exact = e; least = omega arith; most = omega arith }

-- of two powers the one with the larger exponent is larger
pub powers : (a b x y : ℕ) → Power a x → Power b y → a ≤ b → x ≤ y
powers a b x y p q h = rw (p.exact, q.exact) (pow_mono {i = a} {j = b} h)

-- half the way to the next is at most 2^31
pub half_room : (up p : ℕ) → Power (up + 1) p → up ≤ 30 → p ≤ 2147483648
half_room up p w h = rw w.exact (pow_mono {i = up + 1} {j = 31} (omega arith))

-- the number has room where m is at most the quotient
pub fitting : (m up p : ℕ) → Power (up + 2) p → leb m (72057594037927936 / p) ≡ true → m * 2 ^ (up + 2) ≤ 72057594037927936
fitting m up p w e =
    let l = w.least in
    let q : m * p ≤ 72057594037927936 = (le-div_iff_mul-le {k = p} {x = m} {y = 72057594037927936} (omega arith)).0 (leb-true m (72057594037927936 / p) e) in
    rw w.exact at q

-- and so has its product
pub number_room : (m up down p : ℕ) → Fits m up down → Power (up + 2) p → m * p ≤ 72057594037927936
number_room m up down p f w = rw w.exact f.number
