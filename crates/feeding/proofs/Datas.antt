-- The data stages over the octets of an area: a run of data octets laid, the first check octet laid, and what the second one ends.
use Prim.Native.Nat.{ℕ, ◌+◌, ◌-◌, ◌*◌, ◌/◌, ◌%◌, ◌≤◌, ◌<◌, ◌^◌}
use native.Mathlib.Omega.{arith}
use mathlib.Core.Path.{◌≡◌, refl, sym, ap, ◌∙◌}
use mathlib.Core.List.{List, [], ◌∷◌}
use lib.Dec.{ltb}
use lib.ListN.{length, take, drop, set, length-drop}
use lib.Seq.{length-take-le, drop-cons, take-take}
use mir.Syntax.{w64}
use mir.Val.{Fits}
use borrow.Author.Tests.{ltb-true, ltb-false, le-ltb, eq-eqb, ne_eqb}
use Rattle.octets.specs.Choice.{pick, pick_cases}
use Rattle.octets.specs.Reading.{oct}
use Rattle.octets.specs.Splice.{splice}
use Rattle.sums.specs.Sums.{data_run, data_step, data_start, data_left}
use Rattle.frames.specs.declared.Phase.TheVariants.{Hunting, Data}
use Rattle.frames.specs.declared.Outcome.{Outcome}
use Rattle.frames.specs.declared.Outcome.TheVariants.{Quiet, Frame, Damage}
use Rattle.frames.specs.declared.Receiver.{Receiver}
use Rattle.frames.specs.Step.{Stepped, made, length_of, DataLeft, step_of, feed_from}
use Rattle.frames.proofs.Laws.{turn}
use Rattle.frames.proofs.Runs.{run_on}
use Rattle.state.specs.Layout.{store_place, store_size, edition_place, store_part}
use Rattle.feeding.specs.Stages.{receiver_at, phase_octet, got_at, length_at, Ready, Leaves, rest, DataLaid, FirstLaid, DataEnds}
use Rattle.feeding.proofs.Parts.{head_at, length_parts, hunting_at, data_at, Standing, set_phase, set_high, set_low, set_first, lay_count, lay_store, standing_store, ready_stands, data_counts, hunting_ready, data_ready, left_behind}

-- what one octet did
abbrev told : Outcome → Receiver → Stepped
told q r = record { outcome = q; receiver = r }

-- a count laid over its two octets
abbrev counted : List ℕ → ℕ → List ℕ
counted o n = splice o 1 (n / 256 ∷ n % 256 ∷ [])

count_back : (n : ℕ) → n / 256 * 256 + n % 256 ≡ n
count_back n = omega arith

-- what eating comes to, by the receivers of two areas
rest_by : (piece o o' : List ℕ) {r r' : Receiver} (i j : ℕ) → receiver_at o' ≡ r' → receiver_at o ≡ r → feed_from j r' (drop j piece) ≡ feed_from i r (drop i piece)
    → rest piece o' j ≡ rest piece o i
rest_by piece o o' i j e d f = ap (λ (r : Receiver). feed_from j r (drop j piece)) e ∙ f ∙ sym (ap (λ (r : Receiver). feed_from i r (drop i piece)) d)

-- what one octet comes to, by the receivers of two areas
step_by : (o o' : List ℕ) {r r' : Receiver} (b : ℕ) (q : Outcome) → receiver_at o' ≡ r' → receiver_at o ≡ r → told q r' ≡ step_of r b → told q (receiver_at o') ≡ step_of (receiver_at o) b
step_by o o' b q e d f = ap (told q) e ∙ f ∙ sym (ap (λ (r : Receiver). step_of r b) d)

-- ---- the check octets, by the receiver's own step
module _ (h : List ℕ) (c b : ℕ) (s : List ℕ) where
  first_step : told Quiet (made (Data (length_of h + 1)) h b s) ≡ step_of (made (Data (length_of h)) h c s) b
  unfolding step_of
  first_step = rw (le-ltb (length_of h) (length_of h) (omega arith), eq-eqb (length_of h) (length_of h) refl)

  module _ (left : ℕ) (e : data_step (data_step (data_run data_start (take (length_of h) s)) c) b ≡ left) where
    good_step : left ≡ data_left → told Frame (made Hunting h c s) ≡ step_of (made (Data (length_of h + 1)) h c s) b
    unfolding step_of
    good_step q = rw (le-ltb (length_of h + 1) (length_of h) (omega arith), ne_eqb (length_of h + 1) (length_of h) (λ z. omega arith), e, eq-eqb _ _ q)

    bad_step : (left ≡ data_left → ⊥) → told (Damage 3) (made Hunting h c s) ≡ step_of (made (Data (length_of h + 1)) h c s) b
    unfolding step_of
    bad_step q = rw (le-ltb (length_of h + 1) (length_of h) (omega arith), ne_eqb (length_of h + 1) (length_of h) (λ z. omega arith), e, ne_eqb _ _ q)

-- ---- the lesser of two counts
abbrev Lesser : ℕ → ℕ → ℕ → Type 0
Lesser a b k = (k ≤ a) × (k ≤ b) × ((k ≡ a → ⊥) → b ≤ k)

lesser : (a b k : ℕ) → k ≡ pick (ltb a b) a b → Lesser a b k
lesser a b k e =
    rw e (pick_cases (Lesser a b) (ltb a b)
    (λ t. let h : a < b = ltb-true a b t in (omega arith, omega arith, λ z. omega arith))
    (λ t. let h : b ≤ a = ltb-false a b t in (omega arith, omega arith, λ z. omega arith)))

-- the octets that are there and wanted end in the piece, which has n
pub run_there : (n from wanted k : ℕ) → from ≤ n → k ≡ pick (ltb (n - from) wanted) (n - from) wanted → from + k ≤ n
run_there n from wanted k h e = let l = (lesser (n - from) wanted k e).0 in omega arith

pub end_fits : (n from wanted k : ℕ) → from ≤ n → k ≡ pick (ltb (n - from) wanted) (n - from) wanted → n < 2 ^ 64 → Fits w64 (from + k)
end_fits n from wanted k h e f = let l = run_there n from wanted k h e in record { fits = omega arith }

-- ---- an area in data, and one that has its head and another count, first check octet and store
module _ {o : List ℕ} (r : Ready o) (p : phase_octet o ≡ 3) where
  -- it stands there part by part, the phase being data
  data_stands : Standing o 3 (oct o 1) (oct o 2) (head_at o) (oct o 8) (store_part o) (drop edition_place o)
  data_stands = rw p at (ready_stands r)

  data_holds : (got : ℕ) → got ≡ got_at o → receiver_at o ≡ made (Data got) (head_at o) (oct o 8) (store_part o)
  data_holds got g = rw g (data_at o p)

  module _ {o' : List ℕ} (n first : ℕ) (store : List ℕ) (t : Standing o' 3 (n / 256) (n % 256) (head_at o) first store (drop edition_place o)) where
    got_now : got_at o' ≡ n
    got_now = rw (t.highs, t.lows) (count_back n)

    length_now : length_at o' ≡ length_at o
    length_now = sym (length_parts o') ∙ ap length_of t.heads ∙ length_parts o

    holds_now : receiver_at o' ≡ made (Data n) (head_at o) first store
    holds_now = data_at o' t.phase ∙ rw (got_now, t.heads, t.firsts, t.stores)

    leaves_now : n < length_at o + 2 → Leaves o o'
    leaves_now h =
        let d = data_counts r p in
        let l : DataLeft n (length_at o) = record { some = d.some; fits = d.fits; left = h } in
        left_behind t (data_ready t (rw (count_back n, length_parts o) l))

  -- ---- data octets fit the store
  pub got_fits : (n got : ℕ) → n ≡ length_at o → got < n → got < 501
  got_fits n got m h = let d = (data_counts r p).fits in omega arith

  pub run_fits : (piece : List ℕ) (from n got k : ℕ) → from ≤ length piece → n ≡ length_at o → got < n → k ≡ pick (ltb (length piece - from) (n - got)) (length piece - from) (n - got)
      → got + length (take (from + k - from) (drop from piece)) ≤ 501
  run_fits piece from n got k w m h e =
      let d = (data_counts r p).fits in
      let l = lesser (length piece - from) (n - got) k e in
      let f : from + k - from ≡ k = omega arith in
      let z : length (take k (drop from piece)) ≡ k = length-take-le k (drop from piece) (rw length-drop l.0) in
      rw (f, z) (omega (arith, l.1))

  pub length_fits : (n : ℕ) → n ≡ length_at o → n + 1 < 65536
  length_fits n m = let d = (data_counts r p).fits in omega arith

  pub data_end_fits : (n : ℕ) → n ≡ length_at o → store_place + n ≤ length o
  data_end_fits n m = let d = (data_counts r p).fits in let l = r.long in omega arith

  -- ---- a run of data octets, n of the piece from a place on, and the count behind them
  data_laid : (piece : List ℕ) (from n got : ℕ) {o' : List ℕ} → got ≡ got_at o → from + n ≤ length piece → got + n ≤ length_at o
      → ((from + n ≡ length piece → ⊥) → length_at o ≤ got + n)
      → o' ≡ counted (splice o (store_place + got) (take n (drop from piece))) (got + n)
      → DataLaid o piece from (from + n) o'
  data_laid piece from n got {o'} g there wanted all e =
      let d = (data_counts r p).fits in
      let run : List ℕ = take n (drop from piece) in
      let l : length run ≡ n = length-take-le n (drop from piece) (rw length-drop (omega arith)) in
      let t : Standing o' 3 ((got + n) / 256) ((got + n) % 256) (head_at o) (oct o 8) (splice (store_part o) got run) (drop edition_place o) =
      rw e (lay_count (lay_store data_stands got run (omega arith)) ((got + n) / 256) ((got + n) % 256)) in
      let k = standing_store data_stands in
      let z = length_parts o in
      let w = run_on (head_at o) (oct o 8) piece from n got (store_part o) there (omega arith) (omega arith) in
      record {
        onward = record { on = rest_by piece o o' from (from + n) (holds_now (got + n) _ _ t) (data_holds got g) w; within = there; leaves = leaves_now (got + n) _ _ t (omega arith) };
        phase = t.phase;
        whole = λ h. rw (got_now (got + n) _ _ t, length_now (got + n) _ _ t) (all h);
      }

  module _ (piece : List ℕ) (from n got : ℕ) {o' : List ℕ} (m : n ≡ length_at o) (g : got ≡ got_at o) (h : got < n) where
    -- the only octet that is there
    pub one_on : length piece - from ≡ 1 → o' ≡ counted (splice o (store_place + got) (oct piece from ∷ [])) (got + 1) → DataLaid o piece from (from + 1) o'
    one_on k e =
        let b : from < length piece = omega arith in
        let c : take 1 (drop from piece) ≡ oct piece from ∷ [] = rw (drop-cons piece from 0 b) in
        data_laid piece from 1 got g (omega arith) (omega arith) (λ z. omega arith) (rw c e)

    -- as many as are there and wanted
    pub run_onward : (k : ℕ) → from ≤ length piece → k ≡ pick (ltb (length piece - from) (n - got)) (length piece - from) (n - got)
        → o' ≡ counted (splice o (store_place + got) (take (from + k - from) (drop from piece))) (got + length (take (from + k - from) (drop from piece)))
        → DataLaid o piece from (from + k) o'
    run_onward k w q e =
        let l = lesser (length piece - from) (n - got) k q in
        let a = l.0 in
        let b = l.1 in
        let f : from + k - from ≡ k = omega arith in
        let z : length (take k (drop from piece)) ≡ k = length-take-le k (drop from piece) (rw length-drop l.0) in
        data_laid piece from k got g (omega arith) (omega arith) (λ x. let y = l.2 (λ v. x (omega arith)) in omega arith) (rw (f, z) at e)

  -- ---- the first check octet
  module _ (piece : List ℕ) (from n got : ℕ) (w : from ≤ length piece) (more : from ≡ length piece → ⊥) (full : (from ≡ length piece → ⊥) → length_at o ≤ got_at o) (m : n ≡ length_at o) (g : got ≡ got_at o) where
    -- it is there already
    pub first_past : (got ≡ n → ⊥) → FirstLaid o piece from from o
    first_past h =
        let d = (data_counts r p).left in
        let f = full more in
        record { onward = record { on = refl; within = w; leaves = record { ready = r; behind = refl } }; phase = p; whole = λ x. omega arith }

    pub first_on : {o' : List ℕ} → got ≡ n → o' ≡ counted (set o 8 (oct piece from)) (n + 1) → FirstLaid o piece from (from + 1) o'
    first_on {o'} h e =
        let x = oct piece from in
        let head = head_at o in
        let store = store_part o in
        let z : length_of head ≡ n = length_parts o ∙ sym m in
        let t : Standing o' 3 ((n + 1) / 256) ((n + 1) % 256) head x store (drop edition_place o) = rw e (lay_count (set_first data_stands x) ((n + 1) / 256) ((n + 1) % 256)) in
        let b : from < length piece = omega arith in
        let s : told Quiet (made (Data (n + 1)) head x store) ≡ step_of (made (Data n) head (oct o 8) store) x = rw z at (first_step head (oct o 8) x store) in
        let v = turn (made (Data n) head (oct o 8) store) (told Quiet (made (Data (n + 1)) head x store)) from piece b s refl in
        record {
          onward = record { on = rest_by piece o o' from (from + 1) (holds_now (n + 1) _ _ t) (data_holds n (sym h ∙ g)) v; within = omega arith; leaves = leaves_now (n + 1) _ _ t (omega arith) };
          phase = t.phase;
          whole = λ y. rw (got_now (n + 1) _ _ t, length_now (n + 1) _ _ t) (rw m refl);
        }

  -- ---- the second check octet: reg is what the data leave, reg' what the first check octet leaves, left what the second one leaves
  module _ (b n : ℕ) {reg reg' left : ℕ} (full : got_at o ≡ length_at o + 1) (m : n ≡ length_at o) (e₀ : reg ≡ data_run data_start (take (store_place + n - store_place) (drop store_place o))) (e₁ : reg' ≡ data_step reg (oct o 8)) (e₂ : left ≡ data_step reg' b) where
    abbrev after : List ℕ
    after = set (set (set o 0 0) 1 0) 2 0

    after_stands : Standing after 0 0 0 (head_at o) (oct o 8) (store_part o) (drop edition_place o)
    after_stands = set_low (set_high (set_phase data_stands 0) 0) 0

    after_holds : receiver_at after ≡ made Hunting (head_at o) (oct o 8) (store_part o)
    after_holds = let t = after_stands in hunting_at after t.phase ∙ rw (t.heads, t.firsts, t.stores)

    after_leaves : Leaves o after
    after_leaves = left_behind after_stands (hunting_ready after_stands)

    before_holds : receiver_at o ≡ made (Data (length_of (head_at o) + 1)) (head_at o) (oct o 8) (store_part o)
    before_holds = data_holds (length_of (head_at o) + 1) (ap (λ (k : ℕ). k + 1) (length_parts o) ∙ sym full)

    check_left : data_step (data_step (data_run data_start (take (length_of (head_at o)) (store_part o))) (oct o 8)) b ≡ left
    check_left =
        let d = (data_counts r p).fits in
        let z : store_place + n - store_place ≡ n = omega arith in
        let q : length_of (head_at o) ≡ n = length_parts o ∙ sym m in
        let k : take n (store_part o) ≡ take n (drop store_place o) = take-take n store_size (drop store_place o) (omega arith) in
        let s : reg ≡ data_run data_start (take n (drop store_place o)) = rw z at e₀ in
        rw (q, k, ← s, ← e₁, ← e₂)

    pub ends_good : left ≡ data_left → DataEnds o b Frame after
    ends_good q =
        record { steps = record { step = step_by o after b Frame after_holds before_holds (good_step (head_at o) (oct o 8) b (store_part o) left check_left q); leaves = after_leaves }; ends = refl }

    pub ends_bad : (left ≡ data_left → ⊥) → DataEnds o b (Damage 3) after
    ends_bad q =
        record { steps = record { step = step_by o after b (Damage 3) after_holds before_holds (bad_step (head_at o) (oct o 8) b (store_part o) left check_left q); leaves = after_leaves }; ends = refl }
