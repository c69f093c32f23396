-- Demand 3, its first sentence, for a box of receiver, slots and one area: any frames, any key, any count of slots.
use mathlib.Core.Path.{◌≡◌, refl}
use mathlib.Core.Bool.{true}
use mathlib.Core.List.{List}
use mathlib.Core.Option.{Option, none, some}
use Prim.Native.Nat.{ℕ}
use lib.ListN.{length}
use Rattle.runs.specs.Run.{Run, Ends}
use Rattle.runs.specs.Offered.{Offered}
use Rattle.frames.specs.declared.Receiver.{Receiver}
use Rattle.trunk.specs.Reading.{Out, held_of}
use Rattle.trunk.specs.Reading.Out.{damage}
use Rattle.trunk.specs.Demand.{reading, box_of, Sound, Keeps}
use Rattle.trunk.proofs.Demand as Trunk
use Rattle.messages.specs.Slots.{Keys, KeyLaws, Segment, Slot}
use Rattle.messages.specs.Sound.{passes, sized_for}
use Rattle.messages.proofs.Sound.{passes_rebuild, passes_forget}
use Rattle.recordings.specs.Frames.{Frames, act_on, rules}

module _ {Key R : Type 0} (K : Keys Key) (L : KeyLaws K) (f : Frames Out Key R) (c : ℕ) (still : (n : ℕ) → f.segment_of (damage n) ≡ none)
    (known : (o : Out) (g : Segment Key) → f.segment_of o ≡ some g → K.given g.key ≡ true) where
  abbrev pub hurt : ℕ → R
  hurt n = f.plain (damage n)

  kept_by : (y : Option (Segment Key)) (o : Out) (s : List (Slot Key)) (a : List ℕ) → f.segment_of o ≡ y → passes K c s ≡ true → sized_for c a ≡ true
      → (passes K c (act_on K f y o s a).1 ≡ true) × (sized_for c (act_on K f y o s a).2 ≡ true)
  kept_by none o s a e p z = (p, z)
  kept_by (some g) o s a e p z = passes_rebuild K L c g s a (known o g e) p z

  -- what frames and forget orders do keeps what 59 and 60 ask
  pub keeps : Keeps (rules K f) hurt (passes K c) (sized_for c)
  keeps = record {
    calm = λ n s a. rw (still n);
    slots = λ o s a p z. (kept_by (f.segment_of o) o s a refl p z).0;
    area = λ o s a p z. (kept_by (f.segment_of o) o s a refl p z).1;
    free = λ n s p. passes_forget K L c n s p;
  }

  -- "Then reports, final state and message area are those that a reading of the whole recording by position gives."
  pub whole : {r : Receiver} {s : List (Slot Key)} {a : List ℕ} {run : Run} {e : Ends Receiver (List (Slot Key)) (List ℕ) R} → Sound r → passes K c s ≡ true → sized_for c a ≡ true
      → Offered (box_of (rules K f) hurt (passes K c) (sized_for c)) (length (held_of r)) r s a run e → e ≡ reading (rules K f) r s a run
  whole = Trunk.demand3 (rules K f) hurt (passes K c) (sized_for c) keeps

  -- and every run can be offered
  pub offerable : (run : Run) (r : Receiver) (s : List (Slot Key)) (a : List ℕ) → Sound r → passes K c s ≡ true → sized_for c a ≡ true
      → (e : Ends Receiver (List (Slot Key)) (List ℕ) R) × Offered (box_of (rules K f) hurt (passes K c) (sized_for c)) (length (held_of r)) r s a run e
  offerable = Trunk.offerable (rules K f) hurt (passes K c) (sized_for c) keeps
