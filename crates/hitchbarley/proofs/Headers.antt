-- The header calls: what their records deserve, and a reading that is refused.
use Prim.Native.Nat.{ℕ, ◌≤◌, ◌<◌}
use native.Mathlib.Omega.{arith}
use mathlib.Core.Path.{◌≡◌}
use mathlib.Core.Bool.{false}
use mathlib.Core.List.{List}
use lib.Dec.{eqb}
use lib.ListN.{length}
use borrow.Author.Tests.{ne_eqb, eq-eqb, le-leb, lt-leb}
use Rattle.std.specs.Prelude.{Result, Err}
use Rattle.octets.specs.Reading.{oct}
use Rattle.octets.specs.Refusal.{number_of, number_some}
use Rattle.octets.specs.declared.refusal.Refusal.{Refusal}
use Rattle.octets.specs.declared.refusal.Refusal.TheVariants.{AreaSize, ApduType}
use Rattle.octets.specs.Laid.{written_count, Laid}
use Rattle.octets.specs.Laid.{Written}
use Rattle.npdu.specs.Reading.{read_npdu, reading_of, refused_by}
use Rattle.npdu.specs.Fault as Npdu
use Rattle.npdu.specs.Layout.{encode}
use Rattle.npdu.specs.declared.Npdu as Declared
use Rattle.npdu.specs.declared.Header.{Header}
use Rattle.apdu.specs.Fault as Apdu
use Rattle.apdu.specs.Layout.{header}
use Rattle.apdu.specs.declared.Edition.{Edition}
use Rattle.apdu.specs.declared.Pdu.{Pdu}
use Rattle.records.specs.Network.{npdu_record, npdu_at}
use Rattle.records.specs.Application.{apdu_at}
use Rattle.state.specs.Edition.{edition_of}
use Rattle.hitchbarley.specs.Answers.{written_number, Writes, FillsTo}
use Rattle.hitchbarley.specs.Headers.{npdu_fault, apdu_fault}
use Rattle.hitchbarley.proofs.Answered.{writes_value}

-- ---- what a record to be written deserves
module _ (o : List ℕ) where
  pub npdu_other : (length o ≡ 29 → ⊥) → npdu_fault o ≡ number_of AreaSize
  unfolding npdu_fault
  npdu_other h = rw (ne_eqb (length o) 29 h)

  pub npdu_sized : length o ≡ 29 → npdu_fault o ≡ Npdu.fault_of (npdu_at o)
  unfolding npdu_fault
  npdu_sized k = rw (eq-eqb (length o) 29 k)

module _ (e : Edition) (o : List ℕ) where
  pub apdu_other : (length o ≡ 13 → ⊥) → apdu_fault e o ≡ number_of AreaSize
  unfolding apdu_fault
  apdu_other h = rw (ne_eqb (length o) 13 h)

  pub apdu_beyond : length o ≡ 13 → 7 < oct o 0 → apdu_fault e o ≡ number_of ApduType
  unfolding apdu_fault
  apdu_beyond k h = rw (eq-eqb (length o) 13 k, lt-leb (oct o 0) 7 h)

  pub apdu_sized : length o ≡ 13 → oct o 0 ≤ 7 → apdu_fault e o ≡ Apdu.fault_of e (apdu_at o)
  unfolding apdu_fault
  apdu_sized k h = rw (eq-eqb (length o) 13 k, le-leb (oct o 0) 7 h)

-- ---- a header written
module _ (o area later : List ℕ) (r wrote : ℕ) where
  pub npdu_writes : length o ≡ 29 → (h : Declared.Npdu) → h ≡ npdu_at o → (w : Written) → Laid (Npdu.fault_of h) (encode h) area w later
      → (r ≡ written_number w) × (wrote ≡ written_count w) → Writes (npdu_fault o) (encode (npdu_at o)) area r wrote later
  npdu_writes k h e w l a = writes_value Npdu.fault_of encode e (npdu_sized o k) l a

  -- by the edition that a number says, x being the one that the code has
  pub apdu_writes : (y : ℕ) {x : Edition} → x ≡ edition_of y → length o ≡ 13 → oct o 0 ≤ 7 → (p : Pdu) → p ≡ apdu_at o → (w : Written) → Laid (Apdu.fault_of x p) (header p) area w later
      → (r ≡ written_number w) × (wrote ≡ written_count w) → Writes (apdu_fault (edition_of y) o) (header (apdu_at o)) area r wrote later
  apdu_writes y {x} q k h p e w l a = rw (← q) (writes_value (Apdu.fault_of x) header e (apdu_sized x o k h) l a)

-- ---- a reading that is refused fills nothing in
pub npdu_not : (s area : List ℕ) (x : Result Header Refusal) → reading_of x ≡ read_npdu s → length area ≡ 29 → (r : Refusal) → x ≡ Err r → {n : ℕ} → n ≡ number_of r
    → FillsTo 29 (eqb (read_npdu s).refused 0) (read_npdu s).refused (npdu_record (read_npdu s).head) (read_npdu s).next area n 0 area
unfolding refused_by
npdu_not s area x e k r d q =
    let l = eq-eqb (length area) 29 k in
    let z : eqb (number_of r) 0 ≡ false = ne_eqb (number_of r) 0 (λ w. omega (arith, number_some r)) in
    rw (← e, d, q) (record { filled = record { number = rw l; after = rw (l, z) }; reached = rw (l, z) })
