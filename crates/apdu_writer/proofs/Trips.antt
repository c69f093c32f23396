-- The writer's promise and the reading, joined: demand 2 of the headers as the two public calls keep it.
use Prim.Native.Nat.{ℕ, ◌≤◌}
use native.Mathlib.Omega.{arith}
use mathlib.Core.Path.{◌≡◌, refl, sym, ◌∙◌}
use mathlib.Core.List.{List, ◌++◌}
use lib.ListN.{length, take, drop}
use lib.Seq.{take_at}
use Rattle.std.specs.Prelude.{Ok}
use Rattle.octets.specs.Laid.{Written, laid_over, laid_one, laid_wrote}
use Rattle.octets.specs.Splice.{splice_front}
use Rattle.apdu.specs.declared.Edition.{Edition}
use Rattle.apdu.specs.declared.Pdu.{Pdu}
use Rattle.apdu.specs.Reading.{read_apdu}
use Rattle.apdu.specs.Fields.{params_at}
use Rattle.apdu.specs.Layout.{header}
use Rattle.apdu.specs.Valid.{Follows}
use Rattle.apdu.specs.Fault.{fault_of, shown}
use Rattle.apdu.proofs.Exact.{written_reads_back, read_writes_back}
use Rattle.apdu.proofs.Headers.{header_length_lem}
use Rattle.apdu_writer.specs.Calls.{Writes}

module _ (edition : Edition) where
  -- What was written, with parameters after it where the kind takes them, reads back as the same fields.
  pub write_read : (p : Pdu) (n : ℕ) (area later t : List ℕ) → Writes edition p area (Ok n) later → Follows p t → read_apdu edition (take n later ++ t) ≡ Ok (shown p)
  write_read p n area later t l f =
      let w = laid_wrote (fault_of edition p) n (header p) area later l in
      rw (w.2, take_at (header p) (drop (length (header p)) area) n (sym w.1)) (written_reads_back edition p t w.0 f)

  -- What was read is not refused, and writes back to the same octets.
  pub read_write : (s area later : List ℕ) (p : Pdu) (r : Written) → read_apdu edition s ≡ Ok p → params_at p ≤ length area → Writes edition p area r later
      → (r ≡ Ok (params_at p)) × (later ≡ take (params_at p) s ++ drop (params_at p) area)
  read_write s area later p r e h l =
      let b = read_writes_back edition s p e in
      let k = header_length_lem p in
      let o : take (params_at p) s ≡ header p = rw (← b.1) (take_at (header p) (drop (params_at p) s) (params_at p) k) in
      let good = laid_over (fault_of edition p) (params_at p) (header p) area _ b.0 (sym k) (omega arith) refl in
      let one = laid_one l good in
      (one.0, one.1 ∙ rw (o, ← k) (splice_front area (header p)))

  -- any two answers that the writer's promise allows are equal
  pub write_one : (p : Pdu) (area later later' : List ℕ) (r r' : Written) → Writes edition p area r later → Writes edition p area r' later' → (r ≡ r') × (later ≡ later')
  write_one p area later later' r r' a b = laid_one a b
