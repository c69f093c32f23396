-- The service calls: what a record deserves, a service written, and what a reading fills in.
use Rattle.std.specs.Prelude.{Ok}
use Prim.Native.Nat.{ℕ, ◌≤◌, ◌<◌}
use mathlib.Core.Path.{◌≡◌, refl}
use mathlib.Core.List.{List}
use lib.ListN.{length}
use borrow.Author.Tests.{ne_eqb, eq-eqb, le-leb, lt-leb}
use Rattle.octets.specs.Reading.{oct}
use Rattle.octets.specs.Refusal.{number_of}
use Rattle.octets.specs.declared.refusal.Refusal.TheVariants.{AreaSize, UnknownChoice}
use Rattle.octets.specs.Laid.{written_count, Laid}
use Rattle.octets.specs.Laid.{Written}
use Rattle.services.specs.Parts.{Answer}
use Rattle.services.specs.Reading.{read_service}
use Rattle.services.specs.declared.Service.{Service}
use Rattle.service_writer.specs.Layout.{octets_of}
use Rattle.service_writer.specs.Fault.{fault_of}
use Rattle.records.specs.Service.{service_record, service_at}
use Rattle.hitchbarley.specs.Answers.{written_number, Writes, Fills}
use Rattle.hitchbarley.specs.Services.{service_good, service_number, service_octets, service_fault}
use Rattle.hitchbarley.proofs.Answered.{writes_value, fills_good}

module _ (o value : List ℕ) where
  pub service_other : (length o ≡ 26 → ⊥) → service_fault o value ≡ number_of AreaSize
  unfolding service_fault
  service_other h = rw (ne_eqb (length o) 26 h)

  pub service_beyond : length o ≡ 26 → 5 < oct o 0 → service_fault o value ≡ number_of UnknownChoice
  unfolding service_fault
  service_beyond k h = rw (eq-eqb (length o) 26 k, lt-leb (oct o 0) 5 h)

  pub service_sized : length o ≡ 26 → oct o 0 ≤ 5 → service_fault o value ≡ fault_of (service_at o) value
  unfolding service_fault
  service_sized k h = rw (eq-eqb (length o) 26 k, le-leb (oct o 0) 5 h)

-- ---- a service written
pub service_writes : (o value area later : List ℕ) (r wrote : ℕ) → length o ≡ 26 → oct o 0 ≤ 5 → (v : Service) → v ≡ service_at o → (w : Written)
    → Laid (fault_of v value) (octets_of v value) area w later → (r ≡ written_number w) × (wrote ≡ written_count w)
    → Writes (service_fault o value) (octets_of (service_at o) value) area r wrote later
service_writes o value area later r wrote k h v e w l a =
    writes_value (λ (x : Service). fault_of x value) (λ (x : Service). octets_of x value) e (service_sized o value k h) l a

-- ---- what a reading fills in
abbrev pub ServiceFills : ℕ → ℕ → List ℕ → List ℕ → ℕ → List ℕ → Type 0
ServiceFills kind choice s area r later =
    Fills 26 (service_good (read_service kind choice s)) (service_number (read_service kind choice s)) (service_octets (read_service kind choice s)) area r later

module _ (kind choice : ℕ) (s area : List ℕ) (a : Answer) (e : a ≡ read_service kind choice s) (k : length area ≡ 26) where
  pub service_good_lem : (v : Service) → a ≡ Ok v → {later : List ℕ} → later ≡ service_record v → ServiceFills kind choice s area 0 later
  service_good_lem v d l = rw (← e, d) (fills_good 26 _ _ _ area k refl l)
