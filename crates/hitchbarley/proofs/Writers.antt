-- The ways through the calls that write traffic: a record refused before it is a message, and a message that is cut.
use Prim.Native.Nat.{ℕ}
use native.Mathlib.Omega.{arith}
use mathlib.Core.Path.{◌≡◌, refl, sym, ap, subst, ◌∙◌}
use mathlib.Core.Bool.{Bool, true, false}
use mathlib.Core.List.{List}
use lib.Dec.{eqb}
use lib.ListN.{length}
use borrow.Author.Tests.{ne_eqb, eq-eqb}
use Rattle.std.specs.Prelude.{Result, Ok, Err}
use Rattle.octets.specs.Choice.{by_test}
use Rattle.octets.specs.Reading.{oct}
use Rattle.octets.specs.Laid.{written_count, answer_of, laid_as}
use Rattle.octets.specs.Laid.{Written}
use Rattle.octets.specs.Refusal.{number_of, number_some}
use Rattle.octets.specs.Refusal as Refusing
use Rattle.octets.specs.declared.refusal.Refusal.{Refusal}
use Rattle.octets.specs.declared.refusal.Refusal.TheVariants.{AreaSize, ApduType}
use Rattle.apdu.specs.declared.Edition.{Edition}
use Rattle.cutter.specs.Layout.{segments_of, octets_of}
use Rattle.cutter.specs.Fault.{front_fault, fault_of}
use Rattle.cutter.specs.Calls as Cutter
use Rattle.cutter.specs.Calls.{count_in}
use Rattle.cutter.specs.declared.Message.{Message}
use Rattle.cutter.specs.declared.Message.TheVariants.{Request, ComplexAck}
use Rattle.cutter.specs.declared.Way.{Way}
use Rattle.cutter.specs.Calls.{Parted, parted_of}
use Rattle.cutter.specs.declared.Extent.{Extent}
use Rattle.records.specs.Flag.{flag_at}
use Rattle.hitchbarley.specs.Answers.{written_number}
use Rattle.hitchbarley.specs.Writers.{message_at, segmented, cut_fault, Cuts}
use Rattle.hitchbarley.proofs.Answered.{writes, writes_not}

-- the types of the two PDUs that have segments
module _ (kind : ℕ) where
  pub kind_zero : kind ≡ 0 → true ≡ segmented kind
  unfolding segmented
  kind_zero z = rw (eq-eqb kind 0 z)

  pub kind_three : (kind ≡ 0 → ⊥) → eqb kind 3 ≡ segmented kind
  unfolding segmented
  kind_three n = rw (ne_eqb kind 0 n)

-- the message of each
module _ (o : List ℕ) where
  pub message_request : oct o 0 ≡ 0 → Request (record { sa = flag_at o 3; size = oct o 6; invoke = oct o 7; choice = oct o 10; accepts = oct o 12 }) ≡ message_at o
  unfolding message_at
  message_request z = rw (eq-eqb (oct o 0) 0 z)

  pub message_ack : (oct o 0 ≡ 0 → ⊥) → ComplexAck (record { invoke = oct o 7; choice = oct o 10 }) ≡ message_at o
  unfolding message_at
  message_ack n = rw (ne_eqb (oct o 0) 0 n)

-- of a record of its size with a segmented type the number is the message's own
pub fault_same : (e : Edition) (o : List ℕ) (w : Way) (n : ℕ) → length o ≡ 13 → true ≡ segmented (oct o 0) → cut_fault e o w n ≡ fault_of e (message_at o) w n
unfolding cut_fault fault_of
fault_same e o w n k has =
    by_test (eqb (front_fault w n) 0)
    (λ z. rw (eq-eqb (length o) 13 k, ← has, z) refl)
    (λ z. rw (eq-eqb (length o) 13 k, ← has, z) refl)

module _ (e : Edition) (o : List ℕ) (w : Way) (params area : List ℕ) where
  -- a refusal before the message is cut
  cut_not : (x : Refusal) → cut_fault e o w (length params) ≡ number_of x → {n : ℕ} → n ≡ number_of x → Cuts e o w params area n 0 0 area
  unfolding answer_of
  cut_not x z h = record { written = writes_not x (octets_of (message_at o) w params) area z h; count = rw (z, ne_eqb (number_of x) 0 (λ y. omega (arith, number_some x))) }

  pub cut_other : (length o ≡ 13 → ⊥) → {n : ℕ} → n ≡ number_of AreaSize → Cuts e o w params area n 0 0 area
  unfolding cut_fault
  cut_other h = cut_not AreaSize (rw (ne_eqb (length o) 13 h))

  module _ {A : Type 0} (k : length o ≡ 13) (y : Result A Refusal) (is : Refusing.fault_of y ≡ front_fault w (length params)) where
    pub cut_front : (x : Refusal) → y ≡ Err x → {n : ℕ} → n ≡ number_of x → Cuts e o w params area n 0 0 area
    unfolding cut_fault
    cut_front x d = cut_not x (rw (eq-eqb (length o) 13 k, ← is, d, ne_eqb (number_of x) 0 (λ z. omega (arith, number_some x))))

    module _ (u : A) (fine : y ≡ Ok u) {b : Bool} (has : b ≡ segmented (oct o 0)) where
      front_none : front_fault w (length params) ≡ 0
      front_none = sym is ∙ ap Refusing.fault_of fine

      pub cut_kind : b ≡ false → {n : ℕ} → n ≡ number_of ApduType → Cuts e o w params area n 0 0 area
      unfolding cut_fault
      cut_kind q = cut_not ApduType (rw (eq-eqb (length o) 13 k, front_none, ← has, q))

      module _ (q : b ≡ true) {m : Message} (mine : m ≡ message_at o) {x : Edition} (same : x ≡ e) {later : List ℕ} where
        cut_made : {c : Parted} {r wrote : ℕ} → Cutter.Cuts x m w params area c later → (r ≡ written_number c.answer) × (wrote ≡ written_count c.answer)
            → Cuts e o w params area r wrote c.segments later
        cut_made {c} made a =
            let l = subst (λ (y : Edition). Cutter.Cuts y (message_at o) w params area c later) same (subst (λ (y : Message). Cutter.Cuts x y w params area c later) mine made) in
            let laid = laid_as (sym (fault_same e o w (length params) k (sym q ∙ has))) refl l.laid in
            record { written = writes laid a; count = l.segments ∙ ap (λ (y : Written). count_in y (segments_of w.each (length params))) laid.answer }

        module _ (c : Result Extent Refusal) (made : Cutter.Cuts x m w params area (parted_of c) later) where
          pub cut_good : (n : Extent) → c ≡ Ok n → Cuts e o w params area 0 n.octets n.segments later
          cut_good n d = cut_made (rw d at made) (refl, refl)

          pub cut_refused : (n : Refusal) → c ≡ Err n → {r : ℕ} → r ≡ number_of n → Cuts e o w params area r 0 0 later
          cut_refused n d z = cut_made (rw d at made) (z, refl)
