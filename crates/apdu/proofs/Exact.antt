-- The laws of APDU headers, for all eight kinds at once: accepted exactly when, both round trips, the refusals' numbers.
use Rattle.std.specs.Prelude.{Ok, Err}
use Prim.Native.Nat.{ℕ, ◌/◌, ◌≤◌}
use native.Mathlib.Omega.{arith}
use mathlib.Core.Path.{◌≡◌, sym, ◌∙◌}
use mathlib.Core.List.{List, ◌++◌}
use lib.ListN.{length, drop}
use lib.Seq.{drop_at}
use lib.Dec.{eqb}
use borrow.Author.Tests.{eqb-true}
use Rattle.octets.specs.Choice.{by_test}
use Rattle.octets.specs.Reading.{oct}
use Rattle.octets.specs.Has.{Has, has_bound}
use Rattle.octets.specs.Exact.{Exactly}
use Rattle.apdu.specs.declared.Edition.{Edition}
use Rattle.apdu.specs.declared.Pdu.{Pdu}
use Rattle.apdu.specs.Reading.{read_apdu, Reads}
use Rattle.apdu.specs.Fields.{kind_of, params_at}
use Rattle.apdu.specs.Layout.{header, encode}
use Rattle.apdu.specs.Valid.{Rules, Follows, Valid, Accepted}
use Rattle.apdu.specs.Fault.{fault_of, shown}
use Rattle.apdu.proofs.Shown.{fault_rules, rules_fault, shown_same, shown_header, shown_follows}
use Rattle.apdu.proofs.Headers.{header_length_lem, header_kind, front}
use Rattle.apdu.proofs.Sound.{Reason, Judged, judged}
use Rattle.apdu.proofs.Complete.{reads_back}

-- Any two answers are equal that a promise by a definition of the entry values allows: the reader's, and those of the fields.
pub one_answer : {A : Type 0} {x r r' : A} → r ≡ x → r' ≡ x → r ≡ r'
one_answer a b = a ∙ sym b

module _ (edition : Edition) where
  accepted : {s : List ℕ} {p : Pdu} → Judged edition s (Ok p) → Rules edition p × Has s 0 (header p) × Follows p (drop (params_at p) s)
  accepted (Judged.good r h f) = (r, h, f)

  refused : {s : List ℕ} {n : ℕ} → Judged edition s (Err n) → Reason edition s n
  refused (Judged.bad n h) = h

  -- Accepted exactly when: the rules hold, and the octets are the header with the parameters after it.
  pub exact : Exactly (Reads edition) (Valid edition) encode
  exact =
      record {
        sound = λ s a os r.
            let j = accepted (rw r.0 at (judged edition s)) in
            ((j.0, rw r.1 at j.2), rw r.1 at (front s a.pdu j.1));
        complete = λ a v. (reads_back edition a.pdu a.parameters v.0 v.1, drop_at (header a.pdu) a.parameters (params_at a.pdu) (header_length_lem a.pdu));
      }

  -- What was read keeps the writer's rules and writes back to the same octets.
  pub read_writes_back : (s : List ℕ) (p : Pdu) → read_apdu edition s ≡ Ok p → (fault_of edition p ≡ 0) × (header p ++ drop (params_at p) s ≡ s)
  read_writes_back s p e =
      let j = accepted (rw e at (judged edition s)) in
      (rules_fault edition p (rw (shown_same edition p j.0) j.0), sym (front s p j.1))

  -- What was written, with parameters after it where the kind takes them, reads back as the same fields.
  pub written_reads_back : (p : Pdu) (t : List ℕ) → fault_of edition p ≡ 0 → Follows p t → read_apdu edition (header p ++ t) ≡ Ok (shown p)
  written_reads_back p t e f = rw (← shown_header p) (reads_back edition (shown p) t (fault_rules edition p e) (shown_follows p t f))

  -- Every refusal has its row's reason, and so is one of 20 to 24.
  pub refusal_reason : (s : List ℕ) (n : ℕ) → read_apdu edition s ≡ Err n → Reason edition s n
  refusal_reason s n e = refused (rw e at (judged edition s))

  -- by the number that it is of
  pub reason_cases : {P : Type 0} (s : List ℕ) (n : ℕ) → Reason edition s n → (n ≡ 20 → Reason edition s 20 → P) → (n ≡ 21 → Reason edition s 21 → P) → (n ≡ 22 → Reason edition s 22 → P)
      → (n ≡ 23 → Reason edition s 23 → P) → (n ≡ 24 → Reason edition s 24 → P) → P
  reason_cases s n r f20 f21 f22 f23 f24 =
      by_test (eqb n 20) (λ e. f20 (eqb-true n 20 e) (rw e at r)) (λ a.
      by_test (eqb n 21) (λ e. f21 (eqb-true n 21 e) (rw (a, e) at r)) (λ b.
      by_test (eqb n 22) (λ e. f22 (eqb-true n 22 e) (rw (a, b, e) at r)) (λ c.
      by_test (eqb n 23) (λ e. f23 (eqb-true n 23 e) (rw (a, b, c, e) at r)) (λ d.
      by_test (eqb n 24) (λ e. f24 (eqb-true n 24 e) (rw (a, b, c, d, e) at r)) (λ e. let z : ⊥ = rw (a, b, c, d, e) at r in absurd z)))))

  reason_range : (s : List ℕ) (n : ℕ) → Reason edition s n → (20 ≤ n) × (n ≤ 24)
  reason_range s n r = reason_cases s n r (λ e _. omega arith) (λ e _. omega arith) (λ e _. omega arith) (λ e _. omega arith) (λ e _. omega arith)

  pub refusal_range : (s : List ℕ) (n : ℕ) → read_apdu edition s ≡ Err n → (20 ≤ n) × (n ≤ 24)
  refusal_range s n e = reason_range s n (refusal_reason s n e)

  -- The parameters begin within the octets.
  pub params_within : (s : List ℕ) (p : Pdu) → read_apdu edition s ≡ Ok p → params_at p ≤ length s
  params_within s p e = let j = accepted (rw e at (judged edition s)) in omega (arith, header_length_lem p, has_bound s 0 (header p) j.1)

  -- The type that is answered is the one of the first octet.
  pub kind_read : (s : List ℕ) (p : Pdu) → read_apdu edition s ≡ Ok p → oct s 0 / 16 ≡ kind_of p
  kind_read s p e = let j = accepted (rw e at (judged edition s)) in header_kind s p j.1

  -- Accepted octets are those that are read, both ways.
  pub accepted_good : (s : List ℕ) → Accepted edition s → (p : Pdu) × (read_apdu edition s ≡ Ok p)
  accepted_good s a = (a.0.pdu, rw a.2 (reads_back edition a.0.pdu a.0.parameters a.1.0 a.1.1))

  pub good_accepted : (s : List ℕ) (p : Pdu) → read_apdu edition s ≡ Ok p → Accepted edition s
  good_accepted s p e =
      let j = accepted (rw e at (judged edition s)) in
      (record { pdu = p; parameters = drop (params_at p) s }, (j.0, j.2), front s p j.1)
