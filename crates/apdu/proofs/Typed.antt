-- "High four bits of the first octet are the type": the reading of octets is that of their kind.
use Rattle.std.specs.Prelude.{Err}
use Prim.Native.Nat.{ℕ, ◌/◌, ◌≤◌, ◌<◌}
use native.Mathlib.Omega.{arith}
use mathlib.Core.Path.{◌≡◌}
use mathlib.Core.List.{List}
use lib.ListN.{length}
use borrow.Author.Tests.{lt-leb, ne_eqb}
use Rattle.octets.specs.Reading.{oct}
use Rattle.apdu.specs.declared.Edition.{Edition}
use Rattle.apdu.specs.Reading.{read_apdu, read_request, read_unconfirmed, read_simple_ack, read_complex_ack, read_segment_ack, read_error, read_reject, read_abort}

module _ (edition : Edition) (s : List ℕ) (some : 0 < length s) where
  pub as_request : oct s 0 / 16 ≡ 0 → read_apdu edition s ≡ read_request edition s
  unfolding read_apdu
  as_request e = simp (lt-leb (length s) 0 some, e)

  pub as_unconfirmed : oct s 0 / 16 ≡ 1 → read_apdu edition s ≡ read_unconfirmed s
  unfolding read_apdu
  as_unconfirmed e = simp (lt-leb (length s) 0 some, e)

  pub as_simple_ack : oct s 0 / 16 ≡ 2 → read_apdu edition s ≡ read_simple_ack s
  unfolding read_apdu
  as_simple_ack e = simp (lt-leb (length s) 0 some, e)

  pub as_complex_ack : oct s 0 / 16 ≡ 3 → read_apdu edition s ≡ read_complex_ack s
  unfolding read_apdu
  as_complex_ack e = simp (lt-leb (length s) 0 some, e)

  pub as_segment_ack : oct s 0 / 16 ≡ 4 → read_apdu edition s ≡ read_segment_ack s
  unfolding read_apdu
  as_segment_ack e = simp (lt-leb (length s) 0 some, e)

  pub as_error : oct s 0 / 16 ≡ 5 → read_apdu edition s ≡ read_error s
  unfolding read_apdu
  as_error e = simp (lt-leb (length s) 0 some, e)

  pub as_reject : oct s 0 / 16 ≡ 6 → read_apdu edition s ≡ read_reject s
  unfolding read_apdu
  as_reject e = simp (lt-leb (length s) 0 some, e)

  pub as_abort : oct s 0 / 16 ≡ 7 → read_apdu edition s ≡ read_abort s
  unfolding read_apdu
  as_abort e = simp (lt-leb (length s) 0 some, e)

  -- and of no kind from 8 on
  pub as_none : 8 ≤ oct s 0 / 16 → read_apdu edition s ≡ Err 21
  unfolding read_apdu
  as_none h =
      let other : (k : ℕ) → k < 8 → oct s 0 / 16 ≡ k → ⊥ = λ k l e. omega arith in
      simp (
        lt-leb (length s) 0 some,
        ne_eqb (oct s 0 / 16) 0 (other 0 (omega arith)),
        ne_eqb (oct s 0 / 16) 1 (other 1 (omega arith)),
        ne_eqb (oct s 0 / 16) 2 (other 2 (omega arith)),
        ne_eqb (oct s 0 / 16) 3 (other 3 (omega arith)),
        ne_eqb (oct s 0 / 16) 4 (other 4 (omega arith)),
        ne_eqb (oct s 0 / 16) 5 (other 5 (omega arith)),
        ne_eqb (oct s 0 / 16) 6 (other 6 (omega arith)),
        ne_eqb (oct s 0 / 16) 7 (other 7 (omega arith)),
      )
