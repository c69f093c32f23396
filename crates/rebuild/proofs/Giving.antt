-- The ways in which a call comes to give what the rules give.
use Rattle.std.proofs.Common.{◌≡◌, ℕ, ◌+◌, ◌*◌, true, false, eqb, List, map, length, set, sym, refl, ap, ◌∙◌, eq-eqb, ne_eqb}
use mathlib.Core.Option.{some}
use Rattle.octets.specs.Choice.{pick_false, pick_true, impossible}
use Rattle.octets.specs.Splice.{splice}
use Rattle.messages.specs.Slots as Messages
use Rattle.messages.specs.Rows as Rules
use Rattle.messages.specs.Rows.Answer.{refused, taken, completed}
use Rattle.messages.proofs.Rows.{settle_more, settle_last}
use Rattle.rebuild.specs.View.{keys, free_slot, seen, view, segment_of}
use Rattle.rebuild.specs.Calls.{Taken, Forgot, step_of, Gives, taking, Forgets}
use Rattle.rebuild.specs.declared.Key.{Key}
use Rattle.rebuild.specs.declared.Slot.{Slot}
use Rattle.rebuild.specs.declared.Slots.{Slots}
use Rattle.rebuild.specs.declared.Segment.{Segment}
use Rattle.rebuild.specs.Calls.Step.{Refused, Held, Complete}
use Rattle.rebuild.proofs.Seen.{set_view, view_one}

pub gives_by : {d e : Rules.Done Key} {r : Taken} {later : List ℕ} → d ≡ e → Gives e r later → Gives d r later
gives_by q h = rw q h

-- any two answers that the promise allows are equal
pub gives_one : {d : Rules.Done Key} {r r' : Taken} {later later' : List ℕ} → Gives d r later → Gives d r' later' → (r.answer ≡ r'.answer) × ((r.slots ≡ r'.slots) × (later ≡ later'))
gives_one {r = r} {r' = r'} a b = (a.answer ∙ sym b.answer, (view_one r.slots r'.slots (a.slots ∙ sym b.slots), a.area ∙ sym b.area))

-- the code's answer has one of the rules'
pub step_one : (w v : Rules.Answer) → step_of w ≡ step_of v → w ≡ v
step_one (refused m) (refused n) e = cc
step_one (refused m) (taken j n) e = impossible (cc)
step_one (refused m) (completed j n) e = impossible (cc)
step_one (taken i m) (refused n) e = impossible (cc)
step_one (taken i m) (taken j n) e = cc
step_one (taken i m) (completed j n) e = impossible (cc)
step_one (completed i m) (refused n) e = impossible (cc)
step_one (completed i m) (taken j n) e = impossible (cc)
step_one (completed i m) (completed j n) e = cc

-- 60, or the rules
pub taking_60 : (t : Slots) (g : Segment) (o area : List ℕ) → (length area ≡ 65536 → ⊥) → taking t g o area ≡ Rules.kept 60 (Messages.boxed (view t) area)
unfolding taking
taking_60 t g o area h = pick_false (eqb (length area) 65536) _ _ (ne_eqb (length area) 65536 h)

pub taking_on : (t : Slots) (g : Segment) (o area : List ℕ) → length area ≡ 65536 → taking t g o area ≡ Rules.rebuild keys (segment_of g o) (Messages.boxed (view t) area)
unfolding taking
taking_on t g o area h = pick_true (eqb (length area) 65536) _ _ (eq-eqb (length area) 65536 h)

module _ (t : Slots) (area : List ℕ) where
  pub gives_kept : (m : ℕ) {r : Taken} → (r.answer ≡ Refused m) × (r.slots ≡ t) → Gives (Rules.kept m (Messages.boxed (view t) area)) r area
  gives_kept m e = record { answer = e.0; slots = ap view e.1; area = refl }

  pub gives_lost : (m s : ℕ) {r : Taken} → (r.answer ≡ Refused m) × (r.slots.slots ≡ set t.slots s free_slot) → Gives (Rules.lost keys m (some s) (Messages.boxed (view t) area)) r area
  gives_lost m s e = record { answer = e.0; slots = ap (map seen) e.1 ∙ set_view t.slots s free_slot; area = refl }

  module _ (g : Segment) (o : List ℕ) (s n : ℕ) where
    -- the record of a slot that awaits the next segment
    abbrev pub open_slot : Slot
    open_slot = record { used = true; key = g.key; next = Rules.next_number g.number; choice = g.choice; held = n + length o }

    pub gives_more : (u : Slots) (later : List ℕ) → g.mor ≡ true → u.slots ≡ set t.slots s open_slot → later ≡ splice area (16384 * s + n) o
        → Gives (Rules.settle keys (segment_of g o) s n (Messages.boxed (view t) area)) (record { answer = Held s (n + length o); slots = u }) later
    gives_more u later m e a =
        gives_by (settle_more keys (segment_of g o) (Messages.boxed (view t) area) s n m) (record { answer = refl; slots = ap (map seen) e ∙ set_view t.slots s open_slot; area = a })

    pub gives_last : (u : Slots) (later : List ℕ) → g.mor ≡ false → u.slots ≡ set t.slots s free_slot → later ≡ splice area (16384 * s + n) o
        → Gives (Rules.settle keys (segment_of g o) s n (Messages.boxed (view t) area)) (record { answer = Complete s (n + length o); slots = u }) later
    gives_last u later m e a =
        gives_by (settle_last keys (segment_of g o) (Messages.boxed (view t) area) s n m) (record { answer = refl; slots = ap (map seen) e ∙ set_view t.slots s free_slot; area = a })

-- forgetting: 56, or the slot is freed
pub forgets_not : (t : Slots) (s : ℕ) → (Messages.slot_at keys (view t) s).used ≡ false → Forgets t s (record { number = 56; slots = t })
forgets_not t s e = record { number = sym (pick_false (Messages.slot_at keys (view t) s).used 0 56 e); slots = sym (pick_false (Messages.slot_at keys (view t) s).used _ _ e) }

pub forgets : (t : Slots) (s : ℕ) (u : Slots) → (Messages.slot_at keys (view t) s).used ≡ true → u.slots ≡ set t.slots s free_slot → Forgets t s (record { number = 0; slots = u })
forgets t s u e d =
    record {
      number = sym (pick_true (Messages.slot_at keys (view t) s).used 0 56 e);
      slots = ap (map seen) d ∙ set_view t.slots s free_slot ∙ sym (pick_true (Messages.slot_at keys (view t) s).used _ _ e);
    }

pub forgets_one : {t : Slots} {s : ℕ} {r r' : Forgot} → Forgets t s r → Forgets t s r' → (r.number ≡ r'.number) × (r.slots ≡ r'.slots)
forgets_one {r = r} {r' = r'} a b = (a.number ∙ sym b.number, view_one r.slots r'.slots (a.slots ∙ sym b.slots))
