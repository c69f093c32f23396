-- Rows 20 to 24: a number is given exactly when its row's words hold, and of the six outcomes exactly one holds.
use Rattle.std.specs.Prelude.{Ok, Err}
use Prim.Native.Nat.{ℕ}
use native.Mathlib.Omega.{arith}
use mathlib.Core.Path.{◌≡◌, refl, sym}
use mathlib.Core.Logic.{◌↔◌}
use mathlib.Core.List.{List}
use Rattle.octets.specs.Reading.{Octets}
use Rattle.apdu.specs.declared.Edition.{Edition}
use Rattle.apdu.specs.Reading.{read_apdu, Answer}
use Rattle.apdu.specs.Rows.{EndsEarly, HighType, ZeroBitSet, SizeOrWindow, LeftOver, Outcome}
use Rattle.apdu.proofs.Exact.{refusal_reason, reason_cases, accepted_good, good_accepted}
use Rattle.apdu.proofs.Offences.{high_refused, zero_bit_refused, size_window_refused, left_over_refused}
use Rattle.apdu.proofs.LeftToRight.{ends_early, early_refused}

module _ (edition : Edition) (s : List ℕ) where
  pub row_20 : (read_apdu edition s ≡ Err 20) ↔ EndsEarly edition s
  row_20 = (ends_early edition s, early_refused edition s)

  high_type : Octets s → read_apdu edition s ≡ Err 21 → HighType s
  high_type os e = let r = refusal_reason edition s 21 e in let b = os 0 in record { some = r.0; low = r.1; high = omega arith }

  pub row_21 : Octets s → (read_apdu edition s ≡ Err 21) ↔ HighType s
  row_21 os = (high_type os, high_refused edition s)

  pub row_22 : (read_apdu edition s ≡ Err 22) ↔ ZeroBitSet edition s
  row_22 = (refusal_reason edition s 22, zero_bit_refused edition s)

  pub row_23 : (read_apdu edition s ≡ Err 23) ↔ SizeOrWindow edition s
  row_23 = (refusal_reason edition s 23, size_window_refused edition s)

  pub row_24 : (read_apdu edition s ≡ Err 24) ↔ LeftOver edition s
  row_24 = (refusal_reason edition s 24, left_over_refused edition s)

-- the number of an answer, 0 for a PDU
abbrev number : Answer → ℕ
number (Ok p) = 0
number (Err n) = n

module _ (edition : Edition) where
  outcome_number : {s : List ℕ} {m : ℕ} → Outcome edition s m → number (read_apdu edition s) ≡ m
  outcome_number {s} (Outcome.accepted a) = rw (accepted_good edition s a).1
  outcome_number {s} (Outcome.early h) = rw (early_refused edition s h)
  outcome_number {s} (Outcome.typed h) = rw (high_refused edition s h)
  outcome_number {s} (Outcome.zeros h) = rw (zero_bit_refused edition s h)
  outcome_number {s} (Outcome.sized h) = rw (size_window_refused edition s h)
  outcome_number {s} (Outcome.over h) = rw (left_over_refused edition s h)

  answer_outcome : (s : List ℕ) → Octets s → (a : Answer) → read_apdu edition s ≡ a → Outcome edition s (number a)
  answer_outcome s os (Ok p) e = Outcome.accepted (good_accepted edition s p e)
  answer_outcome s os (Err n) e =
      reason_cases edition s n (refusal_reason edition s n e)
      (λ d r. rw d (Outcome.early (ends_early edition s (rw d at e))))
      (λ d r. rw d (Outcome.typed (high_type edition s os (rw d at e))))
      (λ d r. rw d (Outcome.zeros r))
      (λ d r. rw d (Outcome.sized r))
      (λ d r. rw d (Outcome.over r))

  pub one_outcome : (s : List ℕ) → Octets s → (n : ℕ) × Outcome edition s n × ((m : ℕ) → Outcome edition s m → m ≡ n)
  one_outcome s os = (number (read_apdu edition s), answer_outcome s os (read_apdu edition s) refl, λ m o. sym (outcome_number o))
