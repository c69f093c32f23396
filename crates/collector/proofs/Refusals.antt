-- "Nothing changes unless said": a refused piece, and an empty one.
use Prim.Native.Nat.{ℕ}
use mathlib.Core.Path.{◌≡◌}
use mathlib.Core.List.{List, []}
use lib.Dec.{eqb}
use lib.ListN.{length}
use Rattle.octets.specs.Choice.{by_test}
use Rattle.frames.specs.Step.{sound_of, feed_of}
use Rattle.frames.proofs.Calls.{feed_none}
use Rattle.trunk.specs.Demand.{unmoved}
use Rattle.reports.specs.Layout.{report_size}
use Rattle.collector.specs.Calls.{passing, sized, slots_of, feed_refusal, feeding}
use Rattle.collector.specs.declared.Collector.{Collector}

module _ (c : Collector) (report area : List ℕ) where
  pub refused_keeps : (piece : List ℕ) → (feed_refusal c report area ≡ 0 → ⊥) → feeding c report area piece ≡ unmoved c.receiver (slots_of c) area
  unfolding feed_refusal feeding feed_of
  refused_keeps piece n =
      by_test (eqb (length report) report_size)
      (λ k. by_test (sized area)
      (λ z. by_test (passing (slots_of c))
      (λ p. by_test (sound_of c.receiver) (λ s. absurd (n (rw (k, z, s, p)))) (λ s. rw (k, z, p, s)))
      (λ p. rw (k, z, p)))
      (λ z. rw (k, z)))
      (λ k. rw k)

  -- "An empty piece eats 0 and changes nothing"
  pub empty_keeps : feeding c report area [] ≡ unmoved c.receiver (slots_of c) area
  unfolding feeding
  empty_keeps =
      by_test (eqb (length report) report_size)
      (λ k. by_test (sized area)
      (λ z. by_test (passing (slots_of c)) (λ p. rw (k, z, p, feed_none c.receiver)) (λ p. rw (k, z, p)))
      (λ z. rw (k, z)))
      (λ k. rw k)
