-- The ways in which a call goes: refused by 60 or 59, refused by 68, or through its records.
use Prim.Native.Nat.{ℕ, ◌%◌}
use mathlib.Core.Path.{◌≡◌, refl}
use mathlib.Core.Bool.{false}
use mathlib.Core.List.{List}
use mathlib.Core.Logic.{◌⊎◌, inl, inr}
use lib.Dec.{eqb}
use lib.ListN.{length}
use borrow.Author.Tests.{eqb-true, eqb-false}
use Rattle.octets.specs.Choice.{by_test}
use Rattle.reports.specs.Layout.{report_size}
use Rattle.collector.specs.Calls.{sized, sound, slots_of, feed_refusal}
use Rattle.collector.specs.declared.Collector.{Collector}
use Rattle.playback.specs.Layout.{record_size}
use Rattle.playback.specs.Calls.{course_of, barred, play_refusal, playing}

pub data Way (c : Collector) (report area o : List ℕ) : Type 0 where
  by_state : (n : ℕ) → (n ≡ 60) ⊎ (n ≡ 59) → feed_refusal c report area ≡ n → playing c report area o ≡ barred n c area → Way c report area o
  by_length : feed_refusal c report area ≡ 0 → (length o % record_size ≡ 0 → ⊥) → playing c report area o ≡ barred 68 c area → Way c report area o
  through : feed_refusal c report area ≡ 0 → length o % record_size ≡ 0 → playing c report area o ≡ course_of c.edition c.receiver (slots_of c) area o → Way c report area o

module _ (c : Collector) (report area o : List ℕ) where
  refused_by_lem : (n : ℕ) → eqb n 0 ≡ false → feed_refusal c report area ≡ n → playing c report area o ≡ barred n c area
  unfolding playing play_refusal
  refused_by_lem n z e = rw (e, z, z)

  passed_by : feed_refusal c report area ≡ 0 → Way c report area o
  unfolding playing play_refusal
  passed_by e =
      by_test (eqb (length o % record_size) 0)
      (λ z. through e (eqb-true _ _ z) (rw (e, z)))
      (λ z. by_length e (eqb-false _ _ z) (rw (e, z)))

  pub way : Way c report area o
  unfolding feed_refusal
  way =
      by_test (eqb (length report) report_size)
      (λ k. by_test (sized area)
      (λ z. by_test (sound c.receiver (slots_of c))
      (λ s. passed_by (rw (k, z, s)))
      (λ s. let e : feed_refusal c report area ≡ 59 = rw (k, z, s) in by_state 59 (inr refl) e (refused_by_lem 59 refl e)))
      (λ z. let e : feed_refusal c report area ≡ 60 = rw (k, z) in by_state 60 (inl refl) e (refused_by_lem 60 refl e)))
      (λ k. let e : feed_refusal c report area ≡ 60 = rw k in by_state 60 (inl refl) e (refused_by_lem 60 refl e))
