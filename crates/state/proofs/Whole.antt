-- All of a state: its octets are that state, and octets that are a state are its octets.
use Prim.Native.Nat.{ℕ, ◌+◌}
use native.Mathlib.Omega.{arith}
use mathlib.Core.Path.{◌≡◌, refl, sym, ap, ◌∙◌}
use mathlib.Core.Bool.{true}
use mathlib.Core.List.{List, [], ◌∷◌, ◌++◌, append_assoc}
use lib.ListN.{length, drop, length-append}
use lib.Seq.{take_at, drop_at, drop-cons, get_or-append-add}
use Rattle.octets.specs.Choice.{both, both_true}
use Rattle.octets.specs.Every.{octets_part}
use Rattle.octets.specs.Reading.{oct, Octets}
use Rattle.octets.specs.Splice.{splice}
use Rattle.apdu.specs.declared.Edition.{Edition}
use Rattle.frames.specs.declared.Link.{Link}
use Rattle.collector.specs.Calls.{slot_count}
use Rattle.collector.specs.declared.Collector.{Collector}
use Rattle.records.proofs.Areas.{laid_whole, four_laid}
use Rattle.state.specs.Link.{link_size, link_octets, link_good}
use Rattle.state.specs.Edition.{edition_octet, edition_good, edition_of}
use Rattle.state.specs.Layout.{store_place, store_size, edition_place, slots_place, state_size, link_part, store_part, edition_at, slots_octets, behind_octets, state_octets, Fits, SlotsShaped}
use Rattle.state.specs.Calls.{slots_good, slots_at, state_good, state_at}
use Rattle.state.proofs.Parts.{cut_size, cut_then, join}
use Rattle.state.proofs.Link.{link_size_lem, link_back, link_stands, link_fits}
use Rattle.state.proofs.Edition.{edition_back, edition_stands}
use Rattle.state.proofs.Slots.{slots_size_lem, fit_shaped, slots_back, slots_stand, slots_fit, slots_count}

-- what every value of the types has: arrays of their sizes
pub record Shaped (c : Collector) : Type 0 where
  pub head : length c.receiver.link.head ≡ 5
  pub store : length c.receiver.store ≡ store_size
  pub four : length c.slots.slots ≡ slot_count
  pub slots : SlotsShaped c.slots.slots

pub fits_shaped : {c : Collector} → Fits c → Shaped c
fits_shaped {c} f = record { head = f.head; store = f.store; four = f.four; slots = fit_shaped c.slots.slots f.slots }

-- what stands in front of the slots, and that they come right behind it
abbrev pub front : Edition → Link → List ℕ → List ℕ
front e l s = link_octets l ++ (s ++ (edition_octet e ∷ []))

pub in_front_lem : (c : Collector) → front c.edition c.receiver.link c.receiver.store ++ slots_octets c.slots.slots ≡ state_octets c
unfolding state_octets
in_front_lem c = simp append_assoc

-- ---- the octets of a state are that state
module _ (c : Collector) (f : Shaped c) where
  abbrev link : List ℕ
  link = link_octets c.receiver.link

  abbrev store : List ℕ
  store = c.receiver.store

  abbrev edition : List ℕ
  edition = edition_octet c.edition ∷ []

  abbrev slots : List ℕ
  slots = slots_octets c.slots.slots

  link_long : length link ≡ link_size
  link_long = link_size_lem c.receiver.link f.head

  pub front_long : length (front c.edition c.receiver.link store) ≡ slots_place
  front_long = rw (length-append, link_long, length-append, f.store)

  pub state_size_lem : length (state_octets c) ≡ state_size
  state_size_lem = rw (← in_front_lem c, length-append, front_long, slots_size_lem c.slots.slots f.slots f.four)

  link_stands_first : link_part (state_octets c) ≡ link
  unfolding state_octets
  link_stands_first = take_at link (store ++ behind_octets c.edition c.slots) link_size link_long

  store_stands_next : store_part (state_octets c) ≡ store
  unfolding state_octets
  store_stands_next =
      rw (drop_at link (store ++ behind_octets c.edition c.slots) store_place link_long) (take_at store (behind_octets c.edition c.slots) store_size f.store)

  edition_stands_behind : edition_at (state_octets c) ≡ edition_octet c.edition
  unfolding state_octets
  edition_stands_behind =
      let n : length (link ++ store) + 0 ≡ edition_place = rw (length-append, link_long, f.store) in
      ap (λ (o : List ℕ). oct o edition_place) (sym (append_assoc link store (behind_octets c.edition c.slots)))
      ∙ rw n at (get_or-append-add (link ++ store) (behind_octets c.edition c.slots) 0 0)

  pub state_back : (state_at (state_octets c) ≡ c) × (state_good (state_octets c) ≡ true)
  unfolding state_at state_good
  state_back =
      let b = link_back c.receiver.link f.head in
      let e = edition_back c.edition in
      let z = rw (in_front_lem c, f.four) at (slots_back (front c.edition c.receiver.link store) 0 c.slots.slots f.slots front_long) in (
        rw (edition_stands_behind, e.0, link_stands_first, store_stands_next, b.0, z.0),
        rw (link_stands_first, b.1, edition_stands_behind, e.1, z.1),
      )

  -- its parts, laid over an area of its size
  pub state_laid : (area : List ℕ) {l₁ l₂ l₃ l₄ : List ℕ} {x : ℕ} → length area ≡ state_size → x ≡ edition_octet c.edition → l₁ ≡ splice area 0 link
      → l₂ ≡ splice l₁ store_place store → l₃ ≡ splice l₂ edition_place (x ∷ []) → l₄ ≡ splice l₃ slots_place slots → l₄ ≡ state_octets c
  unfolding state_octets
  state_laid area {l₁} {l₂} {l₃} {l₄} m x e₁ e₂ e₃ e₄ =
      let n = link_long in
      let k = slots_size_lem c.slots.slots f.slots f.four in
      let h = f.store in
      let s : l₄ ≡ splice area 0 (link ++ (store ++ (edition ++ slots))) =
      four_laid area 0 store_place edition_place slots_place link store edition slots e₁ e₂ (rw x at e₃) e₄ (omega arith) (omega arith) (omega arith) (omega arith) in
      laid_whole area (link ++ (store ++ (edition ++ slots))) l₄ (m ∙ sym state_size_lem) s

-- ---- octets that are a state are its octets
module _ (o : List ℕ) (os : Octets o) (size : length o ≡ state_size) (good : state_good o ≡ true) where
  goods : (link_good (link_part o) ≡ true) × (edition_good (edition_at o) ≡ true) × (slots_good o 0 slot_count ≡ true)
  unfolding state_good
  goods =
      let b = both_true (link_good (link_part o)) (both (edition_good (edition_at o)) (slots_good o 0 slot_count)) good in
      let d = both_true (edition_good (edition_at o)) (slots_good o 0 slot_count) b.1 in
      (b.0, d.0, d.1)

  part_octets_lem : Octets (link_part o)
  part_octets_lem = octets_part o 0 link_size os

  part_size_lem : length (link_part o) ≡ link_size
  part_size_lem = cut_size link_size 0 o (omega arith)

  pub state_fits : Fits (state_at o)
  unfolding state_at
  state_fits =
      let l = link_fits (link_part o) part_octets_lem part_size_lem goods.0 in
      record {
        phase = l.phase;
        head = l.head;
        head_octets = l.head_octets;
        first = l.first;
        store = cut_size store_size store_place o (omega arith);
        store_octets = octets_part o store_place store_size os;
        four = slots_count o 0 slot_count;
        slots = slots_fit o os 0 slot_count size;
      }

  pub state_stands : o ≡ state_octets (state_at o)
  unfolding state_octets state_at
  state_stands =
      let l = link_stands (link_part o) part_octets_lem part_size_lem goods.0 in
      let t = slots_stand o os 0 slot_count size goods.2 in
      let e : edition_octet (edition_of (edition_at o)) ≡ edition_at o = edition_stands (edition_at o) goods.1 in
      let b : edition_octet (edition_of (edition_at o)) ∷ slots_octets (slots_at o 0 slot_count) ≡ drop edition_place o = rw (e, t) (sym (drop-cons o edition_place 0 (omega arith))) in
      let r : store_part o ++ (edition_octet (edition_of (edition_at o)) ∷ slots_octets (slots_at o 0 slot_count)) ≡ drop store_place o =
      ap (λ (x : List ℕ). store_part o ++ x) b ∙ cut_then o store_place store_size edition_place refl in
      sym (join l r ∙ cut_then o 0 link_size store_place refl)
