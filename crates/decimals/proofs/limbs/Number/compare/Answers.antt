-- The first limb from above that differs decides; where none does, the numbers are equal.
use Rattle.std.specs.Cmp.{ranks}
use Rattle.std.specs.Ordering.{MatchOrdering, is_ne}
use Rattle.std.specs.declared.cmp.Ordering.{Ordering}
use Rattle.std.specs.declared.cmp.Ordering.TheVariants.{Less, Equal, Greater}
use Rattle.std.proofs.Common.{◌≡◌, ◌+◌, ◌-◌, ◌<◌, ◌≤◌, ℕ, List, get_or, true, sym, arith}
use Rattle.decimals.specs.Worth.{worth_same}
use Rattle.decimals.specs.Order.{worth_first}
use Rattle.decimals.specs.Promises.{Compared}
use Rattle.decimals.proofs.limbs.Number.compare.Goals as goal

first : (a b : List ℕ) (k n : ℕ) (r : Ordering) → k < n → ((j : ℕ) → k + 1 ≤ j → j < n → get_or a j 0 ≡ get_or b j 0) → MatchOrdering r (get_or a k 0 < get_or b k 0) (get_or a k 0 ≡ get_or b k 0) (get_or b k 0 < get_or a k 0) → is_ne r ≡ true → Compared a b n r
first a b k n Less h same m e = record { less = λ _ la. worth_first a b la k n h (λ j w z. same j (omega arith) z) m; same = λ q. cc; more = λ q. cc }
first a b k n Equal h same m e = cc
first a b k n Greater h same m e = record { less = λ q. cc; same = λ q. cc; more = λ _ lb. worth_first b a lb k n h (λ j w z. sym (same j (omega arith) z)) m }

pub returns-then-is_ne : goal.returns-then-is_ne
returns-then-is_ne c =
    let a = c.args.self.now.limbs in
    let b = c.args.other.now.limbs in
    let k = c.loop-i.i - 1 in
    first a b k c.args.self.now.used c.cmp-order.result (omega arith) (λ j w z. c.loop-i.invariant j (omega arith) z) (rw c.cmp-order.ensures (ranks (get_or a k 0) (get_or b k 0))) (cc)

pub returns : goal.returns
returns c = record {
  less = λ q. cc;
  same = λ _. worth_same c.args.self.now.limbs c.args.other.now.limbs c.args.self.now.used (λ j w. c.loop-i.invariant j (omega arith) w);
  more = λ q. cc;
}
