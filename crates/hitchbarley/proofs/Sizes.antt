-- The addresses in the slots keep their seven octets, as their type says: whatever frames, silences and forget orders do.
use Prim.Native.Nat.{ℕ, zero, suc, ◌+◌, ◌≤◌}
use native.Mathlib.Omega.{arith}
use mathlib.Core.Path.{◌≡◌, refl, ap, subst}
use mathlib.Core.List.{List, [], ◌∷◌, map}
use mathlib.Core.Option.{Option, none, some}
use lib.Dec.{eqb}
use lib.ListN.{length, set}
use borrow.Author.Tests.{eqb-true}
use Rattle.octets.specs.Choice.{pick_case, pick_so}
use Rattle.runs.specs.Offered.{answer, caught}
use Rattle.apdu.specs.declared.Edition.{Edition}
use Rattle.frames.specs.declared.Receiver.{Receiver}
use Rattle.frames.specs.Step.{sound_of, feed_of}
use Rattle.trunk.specs.Reading.{Out}
use Rattle.trunk.specs.Demand.{out_of}
use Rattle.messages.specs.Slots as Messages
use Rattle.messages.specs.Slots.{Segment, Box, boxed, empty, slot_at}
use Rattle.messages.specs.Rows.{Done, awaiting, rebuild, forgotten}
use Rattle.messages.proofs.Step.{Step, stepped}
use Rattle.messages.proofs.Step.Step.{stays, frees, took}
use Rattle.messages.proofs.Sound.{good_of_lem}
use Rattle.rebuild.specs.View.{keys, seen, back}
use Rattle.rebuild.specs.declared.Key.{Key}
use Rattle.rebuild.specs.declared.Slot.{Slot}
use Rattle.rebuild.proofs.Page.{key_laws}
use Rattle.recordings.specs.Frames.{act_on, rules}
use Rattle.collector.specs.Frame.{segment_at, bacnet}
use Rattle.collector.specs.Calls.{slot_count, passing, box, slots_of, Answered}
use Rattle.collector.specs.declared.Collector.{Collector}
use Rattle.collector.proofs.Given.{Sevens, sevens}
use Rattle.collector.proofs.Reached.{Fair}
use Rattle.state.specs.Slot.{slot_size, address_at, slot_of}
use Rattle.state.specs.Layout.{slot_place, state_size, slot_part, SlotsShaped}
use Rattle.state.specs.Calls.{slot_at as laidAt, slots_at, state_good, state_at, Loaded, loaded, load_of, Loads}
use Rattle.state.proofs.Parts.{cut_size}

abbrev pub Sized : List (Messages.Slot Key) → Type 0
Sized [] = Unit {0}
Sized (t ∷ ts) = Sevens t.key × Sized ts

-- ---- slots by value, and as the rules see them
pub sized_seen : (xs : List Slot) → SlotsShaped xs → Sized (map seen xs)
sized_seen [] f = tt
sized_seen (x ∷ xs) f = ((f.0.from, f.0.to), sized_seen xs f.1)

pub sized_back : (s : List (Messages.Slot Key)) → Sized s → SlotsShaped (map back s)
sized_back [] q = tt
sized_back (t ∷ ts) q = (record { from = q.0.0; to = q.0.1 }, sized_back ts q.1)

-- ---- one of them set
sized_set : (s : List (Messages.Slot Key)) (i : ℕ) (t : Messages.Slot Key) → Sevens t.key → Sized s → Sized (set s i t)
sized_set [] i t p q = q
sized_set (x ∷ s) zero t p q = (p, q.1)
sized_set (x ∷ s) (suc i) t p q = (q.0, sized_set s i t p q.1)

freed : (s : List (Messages.Slot Key)) (i : ℕ) → Sized s → Sized (set s i (empty keys))
freed s i q = sized_set s i (empty keys) (refl, refl) q

pub sized_free : (i : ℕ) (s : List (Messages.Slot Key)) → Sized s → Sized (forgotten keys i s)
sized_free i s q = pick_case Sized (slot_at keys s i).used (freed s i q) q

-- ---- a segment, and whatever ends on the trunk
sized_step : (g : Segment Key) (b : Box Key) → Sevens g.key → Sized b.slots → (d : Done Key) → Step keys g b d → Sized d.box.slots
sized_step g b k q d (stays m) = q
sized_step g b k q d (frees i l e) = freed b.slots i q
sized_step g b k q d (took i n P) =
    pick_case (λ (d : Done Key). Sized d.box.slots) g.mor (sized_set b.slots i (awaiting keys g _) k q) (freed b.slots i q)

module _ (edition : Edition) {m : Receiver} {s : List (Messages.Slot Key)} {a : List ℕ} (F : Fair m s a) (q : Sized s) where
  by_segment : (o : Out) (y : Option (Segment Key)) → segment_at edition o ≡ y → Sized (act_on keys (bacnet edition) y o s a).1
  by_segment o none e = q
  by_segment o (some g) e =
      sized_step g (boxed s a) (sevens edition o g e) q (rebuild keys g (boxed s a)) (stepped keys key_laws g (boxed s a) (good_of_lem keys key_laws 4 s a F.slots F.area))

  caught_sized : (r : Receiver) (x : Option Out) (n : ℕ) → Sized (caught (rules keys (bacnet edition)) x n r s a (answer n none r s a)).slots
  caught_sized r none n = q
  caught_sized r (some o) n = by_segment o (segment_at edition o) refl

  pub sized_fed : (xs : List ℕ) → Sized ((box edition).feed m s a xs).slots
  sized_fed xs = let f = feed_of m xs in rw (F.area, F.slots) (caught_sized f.receiver (out_of f.outcome f.receiver) f.eaten)

  pub sized_still : Sized ((box edition).still m s a).slots
  sized_still = pick_case (λ (d : Answered). Sized d.slots) (passing s) q q

  pub sized_freed : (i : ℕ) → Sized ((box edition).free i m s)
  sized_freed i = pick_case Sized (passing s) (pick_case Sized (sound_of m) (sized_free i s q) q) q

-- ---- what is loaded has them, whatever the octets are
sized_at : (o : List ℕ) (i n : ℕ) → slot_place (i + n) ≤ length o → Sized (map seen (slots_at o i n))
unfolding laidAt slot_of address_at
sized_at o i zero h = tt
sized_at o i (suc n) h =
    let l : length (slot_part o i) ≡ slot_size = cut_size slot_size (slot_place i) o (omega arith) in
    ((cut_size 7 13 (slot_part o i) (omega arith), cut_size 7 24 (slot_part o i) (omega arith)), sized_at o (suc i) n (omega arith))

pub sized_loaded : (state : List ℕ) (c : Collector) → Loads state c → Sized (slots_of c)
unfolding load_of state_at
sized_loaded state c l =
    let a = pick_so (eqb (length state) state_size) _ _ (loaded 0 c) (λ e. refuse 60 e (λ z. omega arith)) l in
    let b = pick_so (state_good state) _ _ (loaded 0 c) (λ e. refuse 59 e (λ z. omega arith)) a.1 in
    let n : length state ≡ state_size = eqb-true (length state) state_size a.0 in
    let s : state_at state ≡ c = ap (λ (x : Loaded). x.state) b.1 in
    subst (λ (d : Collector). Sized (slots_of d)) s (sized_at state 0 slot_count (omega arith))
  where
    refuse : (k : ℕ) {d : Collector} → loaded k d ≡ loaded 0 c → (k ≡ 0 → ⊥) → ⊥
    refuse k e h = h (ap (λ (x : Loaded). x.refused) e)
