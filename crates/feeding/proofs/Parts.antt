-- A state area part by part: the receiver that its octets hold, what each phase octet means, and what octets laid over a place change.
use Prim.Native.Nat.{ℕ, zero, suc, ◌+◌, ◌*◌, ◌≤◌, ◌<◌}
use native.Mathlib.Omega.{arith}
use mathlib.Core.Path.{◌≡◌, refl, sym, ap, ◌∙◌}
use mathlib.Core.Bool.{true, false}
use mathlib.Core.List.{List, [], ◌∷◌}
use lib.Dec.{eqb, ltb, leb, lit<}
use lib.ListN.{length, take, drop, set, length-set}
use lib.Seq.{get_or-take, get_or-drop, take-take, take-set-le, drop-set-lt, take-set-lt, drop-set-add, get_or-set_same, get_or-set_other, sets}
use borrow.Author.Tests.{ne_eqb, lt-ltb, ltb-true, le-leb, lt-leb, eqb-true}
use Rattle.octets.specs.Choice.{pick_so, not_so}
use Rattle.octets.specs.Reading.{oct}
use Rattle.octets.specs.Splice.{splice, splice_sets}
use Rattle.frames.specs.declared.Phase.TheVariants.{Hunting, Preamble, Header, Data}
use Rattle.frames.specs.Step.{made, length_of, data_sound, DataLeft, sound_in, sound_of}
use Rattle.frames.proofs.Laws.{data_left_lem, data_sound_lem}
use Rattle.state.specs.Link.{phase_good, link_good, phase_at, link_of}
use Rattle.state.proofs.Parts.{cut_size}
use Rattle.state.specs.Layout.{store_place, store_size, edition_place, state_size, link_part, store_part}
use Rattle.state.proofs.LinkFair.{at_link}
use Rattle.feeding.specs.Stages.{receiver_at, phase_octet, got_at, length_at, Ready, Leaves}

-- the head as it stands in the area
abbrev pub head_at : List ℕ → List ℕ
head_at o = take 5 (drop 3 o)

-- ---- the link's part is the area's front
link_head : (o : List ℕ) → head_at (link_part o) ≡ head_at o
link_head [] = refl
link_head (x ∷ []) = refl
link_head (x ∷ y ∷ []) = refl
link_head (x ∷ y ∷ z ∷ o) = take-take 5 6 o (omega arith)

pub receiver_parts : (o : List ℕ) → receiver_at o ≡ made (phase_at (oct o 0) (oct o 1) (oct o 2)) (head_at o) (oct o 8) (store_part o)
unfolding link_of
receiver_parts o =
    rw (at_link o 0 (lit< tt), at_link o 1 (lit< tt), at_link o 2 (lit< tt), link_head o, at_link o 8 (lit< tt))

good_parts : (o : List ℕ) → link_good (link_part o) ≡ phase_good (oct o 0) (oct o 1) (oct o 2)
unfolding link_good
good_parts o = rw (at_link o 0 (lit< tt), at_link o 1 (lit< tt), at_link o 2 (lit< tt))

-- the length that the head gives
pub length_parts : (o : List ℕ) → length_of (head_at o) ≡ length_at o
unfolding length_of
length_parts o =
    rw (get_or-take 5 (drop 3 o) 3 0 (lit< tt), get_or-take 5 (drop 3 o) 4 0 (lit< tt), get_or-drop 3 o 3 0, get_or-drop 3 o 4 0)

-- ---- what the phase octets say
pub phase_hunting : (high low : ℕ) → phase_at 0 high low ≡ Hunting
unfolding phase_at
phase_hunting high low = refl

pub phase_preamble : (high low : ℕ) → phase_at 1 high low ≡ Preamble
unfolding phase_at
phase_preamble high low = refl

pub phase_header : (high low : ℕ) → phase_at 2 high low ≡ Header low
unfolding phase_at
phase_header high low = refl

pub phase_data : (high low : ℕ) → phase_at 3 high low ≡ Data (high * 256 + low)
unfolding phase_at
phase_data high low = refl

-- the receiver, by its phase octet
pub hunting_at : (o : List ℕ) → phase_octet o ≡ 0 → receiver_at o ≡ made Hunting (head_at o) (oct o 8) (store_part o)
hunting_at o e = receiver_parts o ∙ rw (e, phase_hunting (oct o 1) (oct o 2))

pub data_at : (o : List ℕ) → phase_octet o ≡ 3 → receiver_at o ≡ made (Data (got_at o)) (head_at o) (oct o 8) (store_part o)
data_at o e = receiver_parts o ∙ rw (e, phase_data (oct o 1) (oct o 2))

-- which counts a phase has
good_early : (p high low : ℕ) → p < 2 → phase_good p high low ≡ true → (high ≡ 0) × (low ≡ 0)
unfolding phase_good
good_early p high low h g =
    let f = rw (le-leb p 1 (omega arith)) at g in
    let a = pick_so (eqb high 0) (eqb low 0) false true not_so f in
    (eqb-true high 0 a.0, eqb-true low 0 a.1)

good_header : (high low : ℕ) → phase_good 2 high low ≡ true → high ≡ 0
unfolding phase_good
good_header high low g = eqb-true high 0 g

good_phase : (p high low : ℕ) → phase_good p high low ≡ true → p < 4
unfolding phase_good
good_phase zero high low g = omega arith
good_phase (suc zero) high low g = omega arith
good_phase (suc (suc zero)) high low g = omega arith
good_phase (suc (suc (suc p))) high low g =
    let a : leb (suc (suc (suc p))) 1 ≡ false = lt-leb (suc (suc (suc p))) 1 (omega arith) in
    let b : eqb (suc (suc (suc p))) 2 ≡ false = ne_eqb (suc (suc (suc p))) 2 (λ e. omega arith) in
    let e : eqb (suc (suc (suc p))) 3 ≡ true = rw (a, b) at g in
    let z = eqb-true (suc (suc (suc p))) 3 e in
    omega arith

-- ---- an area by its parts: the three octets of the phase, the head, the first check octet, the frame store, and what stands behind it
pub record Standing (o : List ℕ) (p high low : ℕ) (head : List ℕ) (first : ℕ) (store behind : List ℕ) : Type 0 where
  pub long : length o ≡ state_size
  pub phase : oct o 0 ≡ p
  pub highs : oct o 1 ≡ high
  pub lows : oct o 2 ≡ low
  pub heads : head_at o ≡ head
  pub firsts : oct o 8 ≡ first
  pub stores : store_part o ≡ store
  pub behinds : drop edition_place o ≡ behind

-- every area of its size stands so
pub stands : (o : List ℕ) → length o ≡ state_size → Standing o (oct o 0) (oct o 1) (oct o 2) (head_at o) (oct o 8) (store_part o) (drop edition_place o)
stands o n = record { long = n; phase = refl; highs = refl; lows = refl; heads = refl; firsts = refl; stores = refl; behinds = refl }

module _ {o : List ℕ} {p high low : ℕ} {head : List ℕ} {first : ℕ} {store behind : List ℕ} (t : Standing o p high low head first store behind) where
  -- the receiver that it holds
  pub standing_receiver : receiver_at o ≡ made (phase_at p high low) head first store
  standing_receiver = receiver_parts o ∙ rw (t.phase, t.highs, t.lows, t.heads, t.firsts, t.stores)

  -- one octet laid over another
  pub set_phase : (x : ℕ) → Standing (set o 0 x) x high low head first store behind
  set_phase x =
      let n = t.long in
      record {
        long = length-set o 0 x ∙ n;
        phase = get_or-set_same o 0 x 0 (omega arith);
        highs = get_or-set_other o 0 1 x 0 (λ e. omega arith) ∙ t.highs;
        lows = get_or-set_other o 0 2 x 0 (λ e. omega arith) ∙ t.lows;
        heads = rw (drop-set-lt 3 o 0 x (lit< tt)) t.heads;
        firsts = get_or-set_other o 0 8 x 0 (λ e. omega arith) ∙ t.firsts;
        stores = rw (drop-set-lt 9 o 0 x (lit< tt)) t.stores;
        behinds = drop-set-lt 510 o 0 x (lit< tt) ∙ t.behinds;
      }

  pub set_high : (x : ℕ) → Standing (set o 1 x) p x low head first store behind
  set_high x =
      let n = t.long in
      record {
        long = length-set o 1 x ∙ n;
        phase = get_or-set_other o 1 0 x 0 (λ e. omega arith) ∙ t.phase;
        highs = get_or-set_same o 1 x 0 (omega arith);
        lows = get_or-set_other o 1 2 x 0 (λ e. omega arith) ∙ t.lows;
        heads = rw (drop-set-lt 3 o 1 x (lit< tt)) t.heads;
        firsts = get_or-set_other o 1 8 x 0 (λ e. omega arith) ∙ t.firsts;
        stores = rw (drop-set-lt 9 o 1 x (lit< tt)) t.stores;
        behinds = drop-set-lt 510 o 1 x (lit< tt) ∙ t.behinds;
      }

  pub set_low : (x : ℕ) → Standing (set o 2 x) p high x head first store behind
  set_low x =
      let n = t.long in
      record {
        long = length-set o 2 x ∙ n;
        phase = get_or-set_other o 2 0 x 0 (λ e. omega arith) ∙ t.phase;
        highs = get_or-set_other o 2 1 x 0 (λ e. omega arith) ∙ t.highs;
        lows = get_or-set_same o 2 x 0 (omega arith);
        heads = rw (drop-set-lt 3 o 2 x (lit< tt)) t.heads;
        firsts = get_or-set_other o 2 8 x 0 (λ e. omega arith) ∙ t.firsts;
        stores = rw (drop-set-lt 9 o 2 x (lit< tt)) t.stores;
        behinds = drop-set-lt 510 o 2 x (lit< tt) ∙ t.behinds;
      }

  pub set_head : (i x : ℕ) → i < 5 → Standing (set o (3 + i) x) p high low (set head i x) first store behind
  set_head i x h =
      let n = t.long in
      record {
        long = length-set o (3 + i) x ∙ n;
        phase = get_or-set_other o (3 + i) 0 x 0 (λ e. omega arith) ∙ t.phase;
        highs = get_or-set_other o (3 + i) 1 x 0 (λ e. omega arith) ∙ t.highs;
        lows = get_or-set_other o (3 + i) 2 x 0 (λ e. omega arith) ∙ t.lows;
        heads = rw (drop-set-add 3 o i x, take-set-lt 5 (drop 3 o) i x h, t.heads);
        firsts = get_or-set_other o (3 + i) 8 x 0 (λ e. omega arith) ∙ t.firsts;
        stores = rw (drop-set-lt 9 o (3 + i) x (omega arith)) t.stores;
        behinds = drop-set-lt 510 o (3 + i) x (omega arith) ∙ t.behinds;
      }

  pub set_first : (x : ℕ) → Standing (set o 8 x) p high low head x store behind
  set_first x =
      let n = t.long in
      record {
        long = length-set o 8 x ∙ n;
        phase = get_or-set_other o 8 0 x 0 (λ e. omega arith) ∙ t.phase;
        highs = get_or-set_other o 8 1 x 0 (λ e. omega arith) ∙ t.highs;
        lows = get_or-set_other o 8 2 x 0 (λ e. omega arith) ∙ t.lows;
        heads = rw (drop-set-add 3 o 5 x, take-set-le 5 (drop 3 o) 5 x (omega arith)) t.heads;
        firsts = get_or-set_same o 8 x 0 (omega arith);
        stores = rw (drop-set-lt 9 o 8 x (lit< tt)) t.stores;
        behinds = drop-set-lt 510 o 8 x (lit< tt) ∙ t.behinds;
      }

  pub set_store : (i x : ℕ) → i < store_size → Standing (set o (store_place + i) x) p high low head first (set store i x) behind
  set_store i x h =
      let n = t.long in
      let e : store_place + i ≡ 3 + (6 + i) = omega arith in
      let d : head_at (set o (store_place + i) x) ≡ head_at o = rw (e, drop-set-add 3 o (6 + i) x) (take-set-le 5 (drop 3 o) (6 + i) x (omega arith)) in
      record {
        long = length-set o (store_place + i) x ∙ n;
        phase = get_or-set_other o (store_place + i) 0 x 0 (λ e. omega arith) ∙ t.phase;
        highs = get_or-set_other o (store_place + i) 1 x 0 (λ e. omega arith) ∙ t.highs;
        lows = get_or-set_other o (store_place + i) 2 x 0 (λ e. omega arith) ∙ t.lows;
        heads = d ∙ t.heads;
        firsts = get_or-set_other o (store_place + i) 8 x 0 (λ e. omega arith) ∙ t.firsts;
        stores = rw (drop-set-add store_place o i x, take-set-lt store_size (drop store_place o) i x h, t.stores);
        behinds = drop-set-lt edition_place o (store_place + i) x (omega arith) ∙ t.behinds;
      }

-- ---- a run of octets laid over as many
module _ {o : List ℕ} {p high low : ℕ} {head : List ℕ} {first : ℕ} {store behind : List ℕ} (t : Standing o p high low head first store behind) where
  -- a count, high octet first
  pub lay_count : (x y : ℕ) → Standing (splice o 1 (x ∷ y ∷ [])) p x y head first store behind
  lay_count x y = let n = t.long in rw (← splice_sets o 1 (x ∷ y ∷ []) (omega arith)) (set_low (set_high t x) y)

  pub standing_store : length store ≡ store_size
  standing_store = let n = t.long in rw (← t.stores) (cut_size store_size store_place o (omega arith))

stores : (xs : List ℕ) {o : List ℕ} {p high low : ℕ} {head : List ℕ} {first : ℕ} {store behind : List ℕ} (i : ℕ) → i + length xs ≤ store_size
    → Standing o p high low head first store behind → Standing (sets o (store_place + i) xs) p high low head first (sets store i xs) behind
stores [] i h t = t
stores (x ∷ xs) i h t =
    let e : suc (store_place + i) ≡ store_place + suc i = omega arith in
    rw e (stores xs (suc i) (omega arith) (set_store t i x (omega arith)))

-- data octets, from a place of the store on
pub lay_store : {o : List ℕ} {p high low : ℕ} {head : List ℕ} {first : ℕ} {store behind : List ℕ} → Standing o p high low head first store behind
    → (i : ℕ) (xs : List ℕ) → i + length xs ≤ store_size → Standing (splice o (store_place + i) xs) p high low head first (splice store i xs) behind
lay_store {o = o} {store = store} t i xs h =
    let n = t.long in
    let m = standing_store t in
    rw (← splice_sets o (store_place + i) xs (omega arith), ← splice_sets store i xs (omega arith)) (stores xs i h t)

-- ---- what is ready, read: the counts of each phase
module _ {o : List ℕ} (r : Ready o) where
  counts_good : phase_good (oct o 0) (oct o 1) (oct o 2) ≡ true
  counts_good = sym (good_parts o) ∙ r.good

  parts_sound : sound_in (phase_at (oct o 0) (oct o 1) (oct o 2)) (head_at o) ≡ true
  parts_sound = sym (ap sound_of (receiver_parts o)) ∙ r.sound

  pub ready_stands : Standing o (oct o 0) (oct o 1) (oct o 2) (head_at o) (oct o 8) (store_part o) (drop edition_place o)
  ready_stands = stands o r.long

  pub ready_phase : phase_octet o < 4
  ready_phase = good_phase (oct o 0) (oct o 1) (oct o 2) counts_good

  pub early_counts : phase_octet o < 2 → (oct o 1 ≡ 0) × (oct o 2 ≡ 0)
  early_counts h = good_early (oct o 0) (oct o 1) (oct o 2) h counts_good

  pub header_counts : phase_octet o ≡ 2 → (oct o 1 ≡ 0) × (oct o 2 < 6)
  header_counts e =
      let g : phase_good 2 (oct o 1) (oct o 2) ≡ true = rw e at counts_good in
      let s : ltb (oct o 2) 6 ≡ true = rw (e, phase_header (oct o 1) (oct o 2)) at parts_sound in
      (good_header (oct o 1) (oct o 2) g, ltb-true (oct o 2) 6 s)

  pub data_counts : phase_octet o ≡ 3 → DataLeft (got_at o) (length_at o)
  data_counts e =
      let s : data_sound (got_at o) (length_of (head_at o)) ≡ true = rw (e, phase_data (oct o 1) (oct o 2)) at parts_sound in
      data_left_lem (got_at o) (length_at o) (rw (length_parts o) at s)

-- ---- and made: an area with such counts is ready, and it is left if what stands behind the receiver is as it was
made_ready : {o : List ℕ} {p high low : ℕ} {head : List ℕ} {first : ℕ} {store behind : List ℕ} → Standing o p high low head first store behind
    → phase_good p high low ≡ true → sound_in (phase_at p high low) head ≡ true → Ready o
made_ready {o = o} t g s =
    record {
      long = t.long;
      good = good_parts o ∙ rw (t.phase, t.highs, t.lows) g;
      sound = ap sound_of (standing_receiver t) ∙ s;
    }

module _ {o : List ℕ} {head : List ℕ} {first : ℕ} {store behind : List ℕ} where
  pub hunting_ready : Standing o 0 0 0 head first store behind → Ready o
  unfolding phase_good
  hunting_ready t = made_ready t refl (rw (phase_hunting 0 0))

  pub preamble_ready : Standing o 1 0 0 head first store behind → Ready o
  unfolding phase_good
  preamble_ready t = made_ready t refl (rw (phase_preamble 0 0))

  pub header_ready : {got : ℕ} → Standing o 2 0 got head first store behind → got < 6 → Ready o
  unfolding phase_good
  header_ready {got} t h = made_ready t refl (rw (phase_header 0 got) (lt-ltb got 6 h))

  pub data_ready : {high low : ℕ} → Standing o 3 high low head first store behind → DataLeft (high * 256 + low) (length_of head) → Ready o
  unfolding phase_good
  data_ready {high} {low} t d = made_ready t refl (rw (phase_data high low) (data_sound_lem (high * 256 + low) (length_of head) d))

pub left_behind : {o o' : List ℕ} {p high low : ℕ} {head : List ℕ} {first : ℕ} {store : List ℕ} → Standing o' p high low head first store (drop edition_place o)
    → Ready o' → Leaves o o'
left_behind t r = record { ready = r; behind = t.behinds }
