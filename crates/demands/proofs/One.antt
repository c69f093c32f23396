-- Demand 1: the writers, and what the receiver's calls change.
use Prim.Native.Nat.{ℕ, ◌+◌, ◌%◌, ◌<◌}
use native.Mathlib.Omega.{arith}
use mathlib.Core.Path.{◌≡◌, refl, sym, ap, ◌∙◌}
use mathlib.Core.Logic.{◌⊎◌, inl, inr}
use mathlib.Core.Bool.{true}
use mathlib.Core.List.{List, [], ◌∷◌}
use lib.Dec.{eqb, ltb}
use lib.ListN.{length}
use borrow.Author.Tests.{eqb-true, eqb-false, ltb-true, ltb-false}
use Rattle.std.specs.Prelude.{Ok, Err}
use Rattle.octets.specs.Choice.{by_test, pick_case, impossible}
use Rattle.octets.specs.Laid.{laid_one, laid_fault, laid_short, laid_over, laid_as}
use Rattle.octets.specs.Splice.{splice, splice_front}
use Rattle.item_judge.specs.Judge.{records_in, good_records, write_fault}
use Rattle.item_judge.proofs.Sixty as Judge
use Rattle.frames.specs.Step.{sound_of, step_of, reports_of, feed_from, feed_of, silence_of}
use Rattle.frames.specs.declared.Outcome.{Outcome}
use Rattle.frames.specs.declared.Outcome.TheVariants.{Quiet}
use Rattle.frames.specs.declared.Receiver.{Receiver}
use Rattle.frames.specs.Answers.{Fed}
use Rattle.frames.proofs.Calls.{feed_none, feed_refused, silence_refused, eaten_most, eaten_some}
use Rattle.messages.proofs.Tests.{never}
use Rattle.demands.specs.Demands.{WritersRefuse, SixtyTwo, SixtyOne, ReceiverKeeps, ReceiverEats}

-- ---- writers
pub writers_refuse : WritersRefuse
writers_refuse f o area later r l =
    record {
      faulty = λ h. laid_one l (laid_fault f o area h);
      short = λ e h. laid_one l (laid_as (sym e) refl (laid_short o area h));
      fine = λ e h. (let k = laid_one l (laid_over f (length o) o area (splice area 0 o) e refl h refl) in (k.0, k.1 ∙ splice_front area o));
    }

pub sixty_one : SixtyOne
sixty_one f o area later r ne l =
    let w = writers_refuse f o area later r l in
    by_test (eqb f 0)
    (λ z.
    let e : f ≡ 0 = eqb-true f 0 z in
    by_test (ltb (length area) (length o))
    (λ t. let h = ltb-true _ _ t in (λ q. (e, h), λ q. (w.short e h).0))
    (λ t. let h = ltb-false _ _ t in (λ q. (let a : Ok (length o) ≡ Err 61 = sym (w.fine e h).0 ∙ q in impossible (cc)), λ q. absurd (omega (arith, q.1)))))
    (λ z.
    let e = eqb-false f 0 z in
    (λ q. (let a : Err f ≡ Err 61 = sym (w.faulty e).0 ∙ q in let y : f ≡ 61 = cc in absurd (ne y)), λ q. absurd (e q.0)))

pub sixty_two : SixtyTwo
unfolding write_fault
sixty_two records source os = (
  (let P : ℕ → Type 0 = λ n. (n ≡ 0) ⊎ (n ≡ 62) in
      pick_case P (eqb (length records % 12) 0) (pick_case P (good_records source (records_in records)) (inl refl) (inr refl)) (inr refl)),
  (Judge.sixty_two records source os).0,
  (Judge.sixty_two records source os).1,
)

-- ---- the receiver
pub receiver_keeps : ReceiverKeeps
unfolding feed_of silence_of
receiver_keeps m piece = (
  λ n. by_test (sound_of m) (λ t. absurd (n (feed_refused m piece ∙ rw t))) (λ t. rw t (refl, refl, refl)),
  ap (λ (f : Fed). f.eaten) (feed_none m),
  ap (λ (f : Fed). f.outcome) (feed_none m),
  ap (λ (f : Fed). f.receiver) (feed_none m),
  λ n. by_test (sound_of m) (λ t. absurd (n (silence_refused m ∙ rw t))) (λ t. rw t (refl, refl)),
)

-- all is eaten where the last outcome is quiet
all_eaten : (xs : List ℕ) (n : ℕ) (m : Receiver) → (feed_from n m xs).outcome ≡ Quiet → (feed_from n m xs).eaten ≡ n + length xs
all_eaten [] n m e = omega arith
all_eaten (x ∷ xs) n m e =
    by_test (reports_of (step_of m x).outcome)
    (λ t. loud (step_of m x).outcome t (rw t at e))
    (λ t. let k = all_eaten xs (n + 1) (step_of m x).receiver (rw t at e) in rw t (omega arith))
  where
    loud : {X : Type 0} (o : Outcome) → reports_of o ≡ true → o ≡ Quiet → X
    loud o t q = never (sym (ap reports_of q) ∙ t)

pub receiver_eats : ReceiverEats
unfolding feed_of
receiver_eats m piece z =
    by_test (sound_of m)
    (λ t. (eaten_most m piece, λ q. (let k = all_eaten piece 0 m (rw t at q) in rw t (omega arith)), λ l. some piece t l))
    (λ t. let q : 59 ≡ 0 = rw t at z in absurd (omega arith))
  where
    some : (xs : List ℕ) → sound_of m ≡ true → 0 < length xs → 0 < (feed_of m xs).eaten
    some [] t l = absurd (omega arith)
    some (x ∷ xs) t l = eaten_some m x xs t
