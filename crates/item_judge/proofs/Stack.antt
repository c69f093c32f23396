-- The open groups as the code has them: an array of which the first d numbers count, the innermost last.
use Prim.Native.Nat.{ℕ, zero, suc, ◌+◌, ◌-◌, ◌≤◌, ◌<◌}
use native.Mathlib.Omega.{arith}
use native.Mathlib.Numerals.{add-one}
use mathlib.Core.Path.{◌≡◌, refl, ap}
use mathlib.Core.List.{List, [], ◌∷◌}
use mathlib.Core.Bool.{false}
use lib.ListN.{length, get_or, set}
use lib.Seq.{get_or-set_same, get_or-set_other}
use lib.Dec.{ltb, eqb}
use Rattle.octets.specs.Choice.{pick_cases, both}
use Rattle.tags.specs.Layout.{number_octets, length_octets}
use Rattle.items.specs.Records.{Rec}
use Rattle.item_judge.specs.Kinds.{stack, innermost, without, closing_rule, bracket_rule}
use Rattle.std.specs.Prelude.{Some, None}

pub stack_length : (xs : List ℕ) (d : ℕ) → length (stack xs d) ≡ d
stack_length xs zero = refl
stack_length xs (suc d) = ap suc (stack_length xs d)

-- a number stored past those that count
pub stack_set : (xs : List ℕ) (i n d : ℕ) → d ≤ i → stack (set xs i n) d ≡ stack xs d
stack_set xs i n zero h = refl
stack_set xs i n (suc d) h = rw (get_or-set_other xs i d n 0 (λ e. absurd (omega arith)), stack_set xs i n d (omega arith))

pub stack_push : (xs : List ℕ) (n d : ℕ) → d < length xs → stack (set xs d n) (d + 1) ≡ n ∷ stack xs d
stack_push xs n d h = rw (add-one d, get_or-set_same xs d n 0 h, stack_set xs d n d (omega arith))

pub stack_innermost : (xs : List ℕ) (d : ℕ) → 0 < d → Some (get_or xs (d - 1) 0) ≡ innermost (stack xs d)
stack_innermost xs zero h = absurd (omega arith)
stack_innermost xs (suc d) h = let e : suc d - 1 ≡ d = omega arith in rw e

pub stack_pop : (xs : List ℕ) (d : ℕ) → stack xs (d - 1) ≡ without (stack xs d)
stack_pop xs zero = refl
stack_pop xs (suc d) = let e : suc d - 1 ≡ d = omega arith in rw e

-- a closing, where the innermost group is known
pub closing_none : (gs : List ℕ) (r : Rec) → None ≡ innermost gs → false ≡ closing_rule gs r
closing_none [] r e = refl
closing_none (m ∷ outer) r e = cc

pub closing_some : (gs : List ℕ) (r : Rec) (n : ℕ) → Some n ≡ innermost gs → both (eqb r.number n) (bracket_rule (length gs - 1) r) ≡ closing_rule gs r
closing_some [] r n e = cc
closing_some (m ∷ outer) r n e = let d : suc (length outer) - 1 ≡ length outer = omega arith in let k : n ≡ m = cc in rw (d, k)

pub some_open : (gs : List ℕ) (n : ℕ) → Some n ≡ innermost gs → 0 < length gs
some_open [] n e = cc
some_open (m ∷ outer) n e = omega arith

pub number_short : (n : ℕ) → length (number_octets n) ≤ 1
unfolding number_octets
number_short n = pick_cases (λ (x : List ℕ). length x ≤ 1) (ltb n 15) (λ _. omega arith) (λ _. omega arith)

pub length_short : (l : ℕ) → length (length_octets l) ≤ 3
unfolding length_octets
length_short l =
    pick_cases (λ (x : List ℕ). length x ≤ 3) (ltb l 5) (λ _. omega arith) (λ _. pick_cases (λ (x : List ℕ). length x ≤ 3) (ltb l 254) (λ _. omega arith) (λ _. omega arith))
