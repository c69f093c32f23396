-- What the reading's definition makes of each step of a header whose version and reserved bits are good: a refusal of a part or of the end is the header's.
use Prim.Native.Nat.{ℕ, ◌/◌, ◌%◌, ◌≤◌}
use native.Mathlib.Omega.{arith}
use mathlib.Core.Bool.{Bool, true, false}
use mathlib.Core.List.{List}
use mathlib.Core.Path.{◌≡◌, refl, ap}
use Rattle.std.specs.Prelude.{Result, Ok, Err}
use Rattle.std.specs.Result.{is_ok}
use lib.Dec.{eqb}
use lib.ListN.{length}
use borrow.Author.Tests.{ne_eqb}
use Rattle.octets.specs.Refusal.{number_of, number_some, fault_of}
use Rattle.octets.specs.declared.refusal.Refusal.{Refusal}
use Rattle.npdu.specs.Reading.{Part, message_bit, dest_bit, source_bit, no_part, part_if, part_seen, ended, tail_at, tail_seen, refused_by, joined, after_tail, after_source, after_dest, after_version}
use Rattle.npdu.specs.declared.part.Part as Parts
use Rattle.npdu.specs.declared.tail.Tail as Tails
use Rattle.npdu.proofs.Outcome.{part_within}

tested : (e : Refusal) → eqb (number_of e) 0 ≡ false
tested e = ne_eqb (number_of e) 0 (λ z. omega (arith, number_some e))

-- a part that was read ends within the octets
pub part_ends : (s : List ℕ) (at : ℕ) (b : Bool) (low top : ℕ) (p : Parts.Part) → part_seen (Ok p) ≡ part_if s at b low top → at ≤ length s → p.next ≤ length s
part_ends s at b low top p e h = omega (arith, ap (λ (x : Part). x.next) e, part_within s at b low top h)

module _ (s : List ℕ) (c : ℕ) (six : c % 128 / 64 ≡ 1 → ⊥) (four : c % 32 / 16 ≡ 1 → ⊥) where
  pub refused_dest : (e : Refusal) → no_part (number_of e) 0 ≡ part_if s 2 (dest_bit c) 0 65535 → refused_by (number_of e) ≡ after_version s c
  unfolding after_version after_dest no_part
  refused_dest e h = rw (ne_eqb (c % 128 / 64) 1 six, ne_eqb (c % 32 / 16) 1 four, ← h, tested e)

  module _ (d : Parts.Part) (dw : part_seen (Ok d) ≡ part_if s 2 (dest_bit c) 0 65535) where
    pub refused_source : (e : Refusal) → no_part (number_of e) 0 ≡ part_if s d.next (source_bit c) 1 65534 → refused_by (number_of e) ≡ after_version s c
    unfolding after_version after_dest after_source no_part
    refused_source e h = rw (ne_eqb (c % 128 / 64) 1 six, ne_eqb (c % 32 / 16) 1 four, ← dw, ← h, tested e)

    module _ (q : Parts.Part) (qw : part_seen (Ok q) ≡ part_if s d.next (source_bit c) 1 65534) where
      pub refused_tail : (e : Refusal) → ended (number_of e) 0 0 0 0 ≡ tail_at s q.next (dest_bit c) (message_bit c) → refused_by (number_of e) ≡ after_version s c
      unfolding after_version after_dest after_source after_tail ended
      refused_tail e h = rw (ne_eqb (c % 128 / 64) 1 six, ne_eqb (c % 32 / 16) 1 four, ← dw, ← qw, ← h, tested e)

      pub read_whole : (t : Tails.Tail) → tail_seen (Ok t) ≡ tail_at s q.next (dest_bit c) (message_bit c)
          → (joined c (part_seen (Ok d)) (part_seen (Ok q)) (tail_seen (Ok t))) ≡ after_version s c
      unfolding after_version after_dest after_source after_tail ended
      read_whole t h = rw (ne_eqb (c % 128 / 64) 1 six, ne_eqb (c % 32 / 16) 1 four, ← dw, ← qw, ← h)

-- an answer that is good has no number
pub good_answer : {A : Type 0} (r : Result A Refusal) → is_ok r ≡ true → fault_of r ≡ 0
good_answer (Ok a) e = refl
good_answer (Err r) e = cc
