-- Demand 2 over the records of headers and services: what a good reading fills in is written as the octets that were read, and what was written reads back.
use Prim.Native.Nat.{ℕ}
use native.Mathlib.Omega.{arith}
use mathlib.Core.Path.{◌≡◌, sym, ap, ◌∙◌}
use mathlib.Core.List.{List, ◌++◌}
use lib.Dec.{eqb, leb}
use lib.ListN.{length, take, drop}
use lib.Seq.{take_at}
use borrow.Author.Tests.{eqb-true}
use Rattle.std.specs.Prelude.{Ok}
use Rattle.octets.specs.Choice.{pick, pick_so}
use Rattle.octets.specs.Has.{has_cut}
use Rattle.octets.specs.Reading.{Octets, oct}
use Rattle.npdu.specs.Reading.{read_npdu}
use Rattle.npdu.specs.Fault as Npdu
use Rattle.npdu.specs.Exact.{accepted}
use Rattle.npdu.specs.Layout.{encode, shown}
use Rattle.npdu.specs.Reading.{Reading}
use Rattle.npdu.proofs.Exact.{head_sound, reads_shown, reads_written}
use Rattle.npdu.proofs.Sizes.{fault_none}
use Rattle.npdu.proofs.Trips.{ruled_fine}
use Rattle.apdu.specs.Fields.{params_at}
use Rattle.apdu.specs.Layout.{header}
use Rattle.apdu.specs.Valid.{Follows}
use Rattle.apdu.proofs.Exact.{written_reads_back, read_writes_back}
use Rattle.apdu.proofs.Headers.{header_length_lem}
use Rattle.apdu.specs.Reading.{read_apdu}
use Rattle.apdu.specs.Fault as Apdu
use Rattle.apdu.specs.declared.Edition.{Edition}
use Rattle.apdu.specs.declared.Pdu.{Pdu}
use Rattle.services.specs.Reading.{read_service}
use Rattle.services.specs.declared.Service.{Service}
use Rattle.service_writer.specs.Layout.{octets_of, value_in}
use Rattle.service_writer.specs.Fault.{fault_of}
use Rattle.service_writer.proofs.Trips.{writes_back}
use Rattle.records.specs.Network.{npdu_record, npdu_at}
use Rattle.records.specs.Application.{apdu_record, apdu_at}
use Rattle.records.specs.Service.{service_record, service_at}
use Rattle.records.proofs.Networks.{npdu_size_lem, npdu_back, npdu_kept}
use Rattle.records.proofs.Applications.{apdu_size_lem, apdu_type_most, apdu_back}
use Rattle.records.proofs.Services.{service_size_lem, service_sort}
use Rattle.records.proofs.Spans.{service_read_back}
use Rattle.hitchbarley.specs.Services.{service_fault}
use Rattle.hitchbarley.proofs.Services.{service_sized}
use Rattle.hitchbarley.specs.Headers.{npdu_fault, apdu_fault}
use Rattle.hitchbarley.proofs.Headers.{npdu_sized, apdu_sized}

-- ---- read, then written
pub npdu_again : (s : List ℕ) → Octets s → (read_npdu s).refused ≡ 0
    → (npdu_fault (npdu_record (read_npdu s).head) ≡ 0) × (encode (npdu_at (npdu_record (read_npdu s).head)) ≡ take (read_npdu s).next s)
unfolding accepted
npdu_again s os z =
    let h = (read_npdu s).head in
    let w = head_sound s os z in
    let b : npdu_at (npdu_record h) ≡ h = npdu_back h w.kept in
    let n : (read_npdu s).next ≡ length (encode h) = ap (λ (r : Reading). r.next) (reads_shown s os z) in
    (npdu_sized (npdu_record h) (npdu_size_lem h w.kept) ∙ ap Npdu.fault_of b ∙ ruled_fine h w.ruled, ap encode b ∙ rw n (sym (has_cut s 0 (encode h) w.stands)))

pub apdu_again : (d : Edition) (s : List ℕ) (p : Pdu) → read_apdu d s ≡ Ok p → (apdu_fault d (apdu_record p) ≡ 0) × (header (apdu_at (apdu_record p)) ≡ take (params_at p) s)
apdu_again d s p e =
    let b = read_writes_back d s p e in (
      apdu_sized d (apdu_record p) (apdu_size_lem p) (apdu_type_most p) ∙ ap (Apdu.fault_of d) (apdu_back p) ∙ b.0,
      ap header (apdu_back p) ∙ sym (rw (← b.1) (take_at (header p) (drop (params_at p) s) (params_at p) (header_length_lem p))),
    )

-- ---- written, then read
pub npdu_reads : (o t : List ℕ) → npdu_fault o ≡ 0 → read_npdu (encode (npdu_at o) ++ t) ≡ accepted (length (encode (npdu_at o))) (shown (npdu_at o))
unfolding npdu_fault
npdu_reads o t z =
    let p = pick_so (eqb (length o) 29) (Npdu.fault_of (npdu_at o)) 60 0 (λ w. omega arith) z in
    reads_written (npdu_at o) t (fault_none (npdu_at o) p.1) (npdu_kept o (eqb-true (length o) 29 p.0))

pub apdu_reads : (d : Edition) (o t : List ℕ) → apdu_fault d o ≡ 0 → Follows (apdu_at o) t → read_apdu d (header (apdu_at o) ++ t) ≡ Ok (Apdu.shown (apdu_at o))
unfolding apdu_fault
apdu_reads d o t z f =
    let p = pick_so (eqb (length o) 13) (pick (leb (oct o 0) 7) (Apdu.fault_of d (apdu_at o)) 21) 60 0 (λ w. omega arith) z in
    let q = pick_so (leb (oct o 0) 7) (Apdu.fault_of d (apdu_at o)) 21 0 (λ w. omega arith) p.1 in
    written_reads_back d (apdu_at o) t q.1 f

-- ---- services: what was read and filled in is written, with the value's octets that the record names, as the parameters that were read
pub service_again : (kind choice : ℕ) (o : List ℕ) → Octets o → (v : Service) → read_service kind choice o ≡ Ok v
    → (service_fault (service_record v) (value_in o v) ≡ 0) × (octets_of (service_at (service_record v)) (value_in o v) ≡ o)
service_again kind choice o os v e =
    let b = service_read_back o os kind choice v e in
    let w = writes_back kind choice o os v e in
    (service_sized (service_record v) (value_in o v) (service_size_lem v) (service_sort v) ∙ ap (λ (x : Service). fault_of x (value_in o v)) b ∙ w.fine, ap (λ (x : Service). octets_of x (value_in o v)) b ∙ w.octets)
