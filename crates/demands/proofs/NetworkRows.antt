-- Rows 10 to 14 of the network header's reader and writer, exactly.
use Prim.Native.Nat.{ℕ}
use native.Mathlib.Omega.{arith}
use mathlib.Core.List.{List}
use mathlib.Core.Logic.{⊎_elim}
use mathlib.Core.Path.{◌≡◌, refl, sym, ap, subst, ◌∙◌}
use lib.Dec.{eqb}
use borrow.Author.Tests.{eqb-true, eqb-false}
use Rattle.octets.specs.Choice.{given, by_test}
use Rattle.octets.specs.Reading.{Octets}
use Rattle.npdu.specs.Exact.{accepted}
use Rattle.npdu.specs.Fault.{part_rules, part_fault, sooner, fault_of}
use Rattle.npdu.specs.Layout.{bit_of, control_of, part_laid, part_octets, hop_octets, message_laid, message_octets, parts_octets, tail_octets, encode, cut}
use Rattle.npdu.specs.Reading.{no_part, address_of, part_len, part_net, part_of, part_if, ended, vendor_at, message_at, tail_at, refused_by, joined, after_tail, after_source, after_dest, after_version, read_npdu}
use Rattle.npdu.specs.declared.Npdu.{Npdu}
use Rattle.npdu.specs.Reading.{Reading}
use Rattle.npdu.proofs.Faults.{fault_0, fault_12, fault_13, fault_14, written_number_lem}
use Rattle.npdu.proofs.Judged.{judged}
use Rattle.npdu.proofs.Outcome.{outcome, Refusal}
use Rattle.npdu.proofs.Rows.{row_0, row_10, row_11, row_12, row_13, row_14}
use Rattle.demands.specs.Words.{Between}
use Rattle.demands.specs.NetworkRows.{NetworkRow, NetworkRows, NetworkOneRow, NetworkLeftToRight, NetworkWriterRow, NetworkWriterRows, NetworkWriterReads, NetworkWorked, NetworkRefused}
use Rattle.demands.proofs.Numbers.{network_writer_numbers}

-- ---- the reader
named : (s : List ℕ) → Octets s → NetworkRow s (read_npdu s).refused
named s os =
    let n = (read_npdu s).refused in
    ⊎_elim (λ z. NetworkRow.good z ((row_0 s os).0 z)) (λ (r : Refusal (read_npdu s)).
    by_test (eqb n 10) (λ e. let z = eqb-true n 10 e in NetworkRow.early z ((row_10 s os).0 z)) (λ e0.
    by_test (eqb n 11) (λ e. let z = eqb-true n 11 e in NetworkRow.version z ((row_11 s os).0 z)) (λ e1.
    by_test (eqb n 12) (λ e. let z = eqb-true n 12 e in NetworkRow.bits z ((row_12 s os).0 z)) (λ e2.
    by_test (eqb n 13) (λ e. let z = eqb-true n 13 e in NetworkRow.lengths z ((row_13 s os).0 z)) (λ e3.
    let z : n ≡ 14 = omega (arith, r.number.0, r.number.1, eqb-false n 10 e0, eqb-false n 11 e1, eqb-false n 12 e2, eqb-false n 13 e3) in
    NetworkRow.networks z ((row_14 s os).0 z)))))) (outcome s).either

number_of : (s : List ℕ) → Octets s → (n : ℕ) → NetworkRow s n → (read_npdu s).refused ≡ n
number_of s os n (NetworkRow.good e r) = (row_0 s os).1 r ∙ sym e
number_of s os n (NetworkRow.early e r) = (row_10 s os).1 r ∙ sym e
number_of s os n (NetworkRow.version e r) = (row_11 s os).1 r ∙ sym e
number_of s os n (NetworkRow.bits e r) = (row_12 s os).1 r ∙ sym e
number_of s os n (NetworkRow.lengths e r) = (row_13 s os).1 r ∙ sym e
number_of s os n (NetworkRow.networks e r) = (row_14 s os).1 r ∙ sym e

pub network_rows : NetworkRows
network_rows s os n = (λ e. subst (NetworkRow s) e (named s os), number_of s os n)

pub network_one_row : NetworkOneRow
network_one_row s os = ((read_npdu s).refused, named s os, λ m r. sym (number_of s os m r))

pub network_left_to_right : NetworkLeftToRight
unfolding refused_by
network_left_to_right s t n = ⊎_elim (λ e. absurd (n (ap (λ (r : Reading). r.refused) e))) (λ e. e) (judged s t)

-- ---- the writer
writer_named : (h : Npdu) → NetworkWriterRow h (fault_of h)
writer_named h =
    let n = fault_of h in
    ⊎_elim (λ z. NetworkWriterRow.ruled z ((fault_0 h).0 z)) (λ (r : Between 12 14 n).
    by_test (eqb n 12) (λ e. let z = eqb-true n 12 e in NetworkWriterRow.priority z ((fault_12 h).0 z)) (λ e0.
    by_test (eqb n 13) (λ e. let z = eqb-true n 13 e in NetworkWriterRow.lengths z ((fault_13 h).0 z)) (λ e1.
    let z : n ≡ 14 = omega (arith, r.0, r.1, eqb-false n 12 e0, eqb-false n 13 e1) in
    NetworkWriterRow.networks z ((fault_14 h).0 z)))) (network_writer_numbers h)

writer_number : (h : Npdu) (n : ℕ) → NetworkWriterRow h n → fault_of h ≡ n
writer_number h n (NetworkWriterRow.ruled e r) = (fault_0 h).1 r ∙ sym e
writer_number h n (NetworkWriterRow.priority e r) = (fault_12 h).1 r ∙ sym e
writer_number h n (NetworkWriterRow.lengths e r) = (fault_13 h).1 r ∙ sym e
writer_number h n (NetworkWriterRow.networks e r) = (fault_14 h).1 r ∙ sym e

pub network_writer_rows : NetworkWriterRows
network_writer_rows h n = (λ e. subst (NetworkWriterRow h) e (writer_named h), writer_number h n)

pub network_writer_reads : NetworkWriterReads
network_writer_reads = written_number_lem

-- ---- worked out
pub network_worked : NetworkWorked
unfolding read_npdu after_version after_dest after_source after_tail joined refused_by tail_at message_at vendor_at ended part_if part_of part_net part_len no_part address_of cut accepted encode control_of bit_of parts_octets tail_octets part_octets part_laid hop_octets message_octets message_laid fault_of sooner part_fault part_rules given
network_worked = ((refl, refl, refl), (refl, refl, refl), (refl, refl, refl), (refl, refl, refl), (refl, refl, refl))

pub network_refused : NetworkRefused
unfolding read_npdu after_version after_dest after_source after_tail joined refused_by tail_at message_at vendor_at ended part_if part_of part_net part_len no_part address_of cut fault_of sooner part_fault part_rules given
network_refused =
    record {
      dlen = ((refl, refl), (refl, refl), refl, refl, refl, refl, refl);
      slen = (refl, (refl, refl), (refl, refl), refl, refl, refl, refl, refl);
      dnet = (refl, (refl, refl), (refl, refl), (refl, refl), refl, refl, refl);
      snet = (refl, (refl, refl), (refl, refl), (refl, refl), refl, refl, refl, refl, refl);
      version = (refl, refl, refl, refl, refl, (refl, refl), (refl, refl));
      priority = (refl, refl, refl);
      two_faults = (refl, refl, refl, refl, refl, refl, refl, refl, refl, refl, refl);
      early = (refl, refl, refl, refl, refl, refl, refl, refl, refl, refl, refl);
    }
