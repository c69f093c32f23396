-- What the rules allow is one of the seven kinds by name, and each of these is allowed where what it is given fits.
use Prim.Native.Nat.{ℕ, zero, suc, ◌≤◌}
use mathlib.Core.Path.{◌≡◌, refl}
use native.Mathlib.Omega.{arith}
use Rattle.reports.specs.declared.Report.{Report}
use Rattle.reports.specs.Kinds.{other_frame, damaged, unsegmented, segment_taken, complete, refusal, network_message, Kind}
use Rattle.reports.specs.Kinds.Kind.{other, damage, single, taken, whole, refused, network}
use Rattle.reports.specs.Valid.{filled, Lacks, Fits, Valid}
use Rattle.reports.specs.Reading.{lacks_in}
use Rattle.reports.proofs.Exact.{lacks_by}

-- a kind by name fills what its row says and nothing else
lacks : (r : Report) → Kind r → Lacks (filled r.kind) r
unfolding lacks_in filled
lacks r (other f len) = lacks_by (filled 1) r refl
lacks r (damage n) = lacks_by (filled 2) r refl
lacks r (single f a len) = lacks_by (filled 3) r refl
lacks r (taken f a s len) = lacks_by (filled 4) r refl
lacks r (whole f a s len) = lacks_by (filled 5) r refl
lacks r (refused f n) = lacks_by (filled 6) r refl
lacks r (network f len) = lacks_by (filled 7) r refl

ranged : (r : Report) → Kind r → (1 ≤ r.kind) × (r.kind ≤ 7)
ranged r (other f len) = (omega arith, omega arith)
ranged r (damage n) = (omega arith, omega arith)
ranged r (single f a len) = (omega arith, omega arith)
ranged r (taken f a s len) = (omega arith, omega arith)
ranged r (whole f a s len) = (omega arith, omega arith)
ranged r (refused f n) = (omega arith, omega arith)
ranged r (network f len) = (omega arith, omega arith)

pub kind_valid : (r : Report) → Kind r → Fits r → Valid r
kind_valid r k f = record { first = (ranged r k).0; last = (ranged r k).1; lacks = lacks r k; fits = f }

-- and the other way round
same : (r s : Report) → r.kind ≡ s.kind → r.number ≡ s.number → r.frame ≡ s.frame → r.apdu ≡ s.apdu → r.slot ≡ s.slot → r.length ≡ s.length → Kind s → Kind r
same r s k n f a t l h =
    let q : r ≡ s = λ i. record { kind = k i; number = n i; frame = f i; apdu = a i; slot = t i; length = l i } in
    rw q h

by_kind : (r : Report) (k : ℕ) → r.kind ≡ k → 1 ≤ k → k ≤ 7 → Lacks (filled k) r → Kind r
unfolding filled
by_kind r zero e a b h = absurd (omega arith)
by_kind r (suc zero) e a b h = same r (other_frame r.frame r.length) e (h.number refl) refl (h.apdu refl) (h.slot refl) refl (other r.frame r.length)
by_kind r (suc (suc zero)) e a b h = same r (damaged r.number) e refl (h.frame refl) (h.apdu refl) (h.slot refl) (h.length refl) (damage r.number)
by_kind r (suc (suc (suc zero))) e a b h =
    same r (unsegmented r.frame r.apdu r.length) e (h.number refl) refl refl (h.slot refl) refl (single r.frame r.apdu r.length)
by_kind r (suc (suc (suc (suc zero)))) e a b h =
    same r (segment_taken r.frame r.apdu r.slot r.length) e (h.number refl) refl refl refl refl (taken r.frame r.apdu r.slot r.length)
by_kind r (suc (suc (suc (suc (suc zero))))) e a b h =
    same r (complete r.frame r.apdu r.slot r.length) e (h.number refl) refl refl refl refl (whole r.frame r.apdu r.slot r.length)
by_kind r (suc (suc (suc (suc (suc (suc zero)))))) e a b h = same r (refusal r.frame r.number) e refl refl (h.apdu refl) (h.slot refl) (h.length refl) (refused r.frame r.number)
by_kind r (suc (suc (suc (suc (suc (suc (suc zero))))))) e a b h =
    same r (network_message r.frame r.length) e (h.number refl) refl (h.apdu refl) (h.slot refl) refl (network r.frame r.length)
by_kind r (suc (suc (suc (suc (suc (suc (suc (suc k)))))))) e a b h = absurd (omega arith)

pub valid_kind : (r : Report) → Valid r → Kind r
valid_kind r h = by_kind r r.kind refl h.first h.last h.lacks
