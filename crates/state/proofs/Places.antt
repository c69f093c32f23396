-- An area that holds a state, and what it holds when a part is laid over its place.
use Prim.Native.Nat.{ℕ, ◌+◌}
use native.Mathlib.Omega.{arith}
use mathlib.Core.Path.{◌≡◌, refl, sym, ap, ◌∙◌}
use mathlib.Core.Bool.{true}
use mathlib.Core.List.{List, [], ◌++◌, append_assoc, append-nil}
use lib.ListN.{length, take, drop, length-append}
use lib.Seq.{take_at, drop_at}
use borrow.Author.Tests.{eq-eqb}
use Rattle.octets.specs.Every.{octets_part}
use Rattle.octets.specs.Reading.{Octets}
use Rattle.octets.specs.Splice.{splice}
use Rattle.apdu.specs.declared.Edition.{Edition}
use Rattle.frames.specs.declared.Link.{Link}
use Rattle.rebuild.specs.declared.Slots.{Slots}
use Rattle.collector.specs.Lent.{over}
use Rattle.collector.specs.declared.Collector.{Collector}
use Rattle.state.specs.Link.{link_size, link_octets, link_good, link_of}
use Rattle.state.specs.Layout.{store_place, store_size, edition_place, slots_place, state_size, link_part, store_part, slots_octets, behind_octets, state_octets}
use Rattle.state.specs.Calls.{state_good, state_at, load_of, Loads, Lays, LaysSlots}
use Rattle.state.proofs.Parts.{cut_size, cut_then}
use Rattle.state.proofs.Link.{link_size_lem, link_shaped, link_stands, link_fits}
use Rattle.state.proofs.Slots.{slots_size_lem}
use Rattle.state.proofs.Whole.{Shaped, fits_shaped, front, in_front_lem, front_long, state_size_lem, state_back}
use Rattle.state.proofs.Exact.{shaped_loads, loads_only, accepted}

pub record Holds (o : List ℕ) (c : Collector) : Type 0 where
  pub shaped : Shaped c
  pub octets : o ≡ state_octets c

-- what is accepted is held
pub accepted_holds : (o : List ℕ) → Octets o → (load_of o).refused ≡ 0 → Holds o (load_of o).state
accepted_holds o os z =
    let f = loads_only o (load_of o).state os (accepted o z) in
    record { shaped = fits_shaped f.0; octets = f.1 }

-- what is held is the state's octets, and is loaded as it
pub holds_octets : {o : List ℕ} {c : Collector} → Holds o c → o ≡ state_octets c
holds_octets h = h.octets

pub holds_loads : {o : List ℕ} {c : Collector} → Holds o c → Loads o c
holds_loads {o} {c} h = rw h.octets (shaped_loads c h.shaped)

-- and is what its octets hold
pub holds_at : {o : List ℕ} {c : Collector} → Holds o c → (state_at o ≡ c) × (state_good o ≡ true)
holds_at {o} {c} h = rw h.octets (state_back c h.shaped)

pub holds_size : {o : List ℕ} {c : Collector} → Holds o c → length o ≡ state_size
holds_size {o} {c} h = ap length h.octets ∙ state_size_lem c h.shaped

-- a part laid over one of its length
laid_over : (a b c b' : List ℕ) (at : ℕ) → length a ≡ at → length b' ≡ length b → splice (a ++ (b ++ c)) at b' ≡ a ++ (b' ++ c)
unfolding splice
laid_over a b c b' at h k =
    let t : take at (a ++ (b ++ c)) ≡ a = take_at a (b ++ c) at h in
    let n : length (a ++ b) ≡ at + length b' = rw length-append (omega arith) in
    let d : drop (at + length b') (a ++ (b ++ c)) ≡ c = ap (λ (x : List ℕ). drop (at + length b') x) (sym (append_assoc a b c)) ∙ drop_at (a ++ b) c (at + length b') n in
    rw (t, d) (append_assoc a b' c)

laid_last : (a b b' : List ℕ) (at : ℕ) → length a ≡ at → length b' ≡ length b → splice (a ++ b) at b' ≡ a ++ b'
laid_last a b b' at h k = simp append-nil at (laid_over a b [] b' at h k)

module _ {o : List ℕ} {e : Edition} {l : Link} {t : Slots} {s : List ℕ} (h : Holds o (over e l t s)) where
  abbrev link : List ℕ
  link = link_octets l

  abbrev behind : List ℕ
  behind = behind_octets e t

  parts : o ≡ link ++ (s ++ behind)
  unfolding state_octets
  parts = h.octets

  link_long : length link ≡ link_size
  link_long = link_size_lem l h.shaped.head

  lays : {at n r : ℕ} {xs o' : List ℕ} → Lays at n xs o r o' → o' ≡ splice o at xs
  lays y = rw (eq-eqb (length o) state_size (holds_size h)) at y.after

  -- the lent store comes back
  pub store_over : (s' : List ℕ) → length s' ≡ store_size → Holds (take store_place o ++ (s' ++ drop store_size (drop store_place o))) (over e l t s')
  unfolding state_octets
  store_over s' n =
      let a : take store_place o ≡ link = rw parts (take_at link (s ++ behind) store_place link_long) in
      let b : drop store_place o ≡ s ++ behind = rw parts (drop_at link (s ++ behind) store_place link_long) in
      let d : drop store_size (drop store_place o) ≡ behind = rw b (drop_at s behind store_size h.shaped.store) in
      record { shaped = record { head = h.shaped.head; store = n; four = h.shaped.four; slots = h.shaped.slots }; octets = rw (a, d) }

  -- a link, and slots, laid over those that are there
  pub link_over : {l' : Link} {r : ℕ} {o' : List ℕ} → Lays 0 link_size (link_octets l') o r o' → Holds o' (over e l' t s)
  unfolding state_octets
  link_over {l'} y =
      let k = laid_over [] link (s ++ behind) (link_octets l') 0 (omega arith) (y.long ∙ sym link_long) in
      record { shaped = record { head = link_shaped l' y.long; store = h.shaped.store; four = h.shaped.four; slots = h.shaped.slots }; octets = lays y ∙ rw parts k }

  pub slots_over : {t' : Slots} {r : ℕ} {o' : List ℕ} → LaysSlots t' o r o' → Holds o' (over e l t' s)
  slots_over {t'} {r} {o'} y =
      let q = slots_octets t.slots in
      let q' = slots_octets t'.slots in
      let w : o ≡ front e l s ++ q = h.octets ∙ sym (in_front_lem (over e l t s)) in
      let n : length q' ≡ length q = y.lays.long ∙ sym (slots_size_lem t.slots h.shaped.slots h.shaped.four) in
      let k : splice (front e l s ++ q) slots_place q' ≡ front e l s ++ q' = laid_last (front e l s) q q' slots_place (front_long (over e l t s) h.shaped) n in
      record {
        shaped = record { head = h.shaped.head; store = h.shaped.store; four = y.four; slots = y.shaped };
        octets = lays y.lays ∙ rw w (k ∙ in_front_lem (over e l t' s));
      }

  -- another receiver in front, whose link's octets are good, and what stands behind it as it was
  pub receiver_over : {o' : List ℕ} → Octets o' → length o' ≡ state_size → link_good (link_part o') ≡ true → drop edition_place o' ≡ drop edition_place o
      → Holds o' (over e (link_of (link_part o')) t (store_part o'))
  unfolding state_octets
  receiver_over {o'} os n g b =
      let a : link_part o' ++ drop store_place o' ≡ o' = cut_then o' 0 link_size store_place refl in
      let d : store_part o' ++ drop edition_place o' ≡ drop store_place o' = cut_then o' store_place store_size edition_place refl in
      let f = link_fits (link_part o') (octets_part o' 0 link_size os) (cut_size link_size 0 o' (omega arith)) g in
      let k = link_stands (link_part o') (octets_part o' 0 link_size os) (cut_size link_size 0 o' (omega arith)) g in
      let m : length (link ++ s) ≡ edition_place = rw (length-append, link_long, h.shaped.store) in
      let w : drop edition_place o ≡ behind = rw (parts, ← append_assoc link s behind) (drop_at (link ++ s) behind edition_place m) in
      let q : o' ≡ link_part o' ++ (store_part o' ++ behind) = sym a ∙ ap (λ (x : List ℕ). link_part o' ++ x) (sym d ∙ ap (λ (x : List ℕ). store_part o' ++ x) (b ∙ w)) in
      record {
        shaped = record { head = f.head; store = cut_size store_size store_place o' (omega arith); four = h.shaped.four; slots = h.shaped.slots };
        octets = q ∙ ap (λ (x : List ℕ). x ++ (store_part o' ++ behind)) (sym k);
      }
