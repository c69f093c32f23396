-- What comes before the data, one way after the other: hunting and preamble, the header's octets, its check octet, and the stages put together.
use Prim.Native.Nat.{ℕ, zero, suc, ◌+◌, ◌*◌, ◌≤◌, ◌<◌}
use native.Mathlib.Omega.{arith}
use mathlib.Core.Path.{◌≡◌, refl, sym, ap, ◌∙◌}
use mathlib.Core.Bool.{true}
use mathlib.Core.List.{List}
use lib.Dec.{eqb, lit<}
use mir.Val.{bool_byte}
use lib.ListN.{length, drop, set, length-set}
use lib.Seq.{set-get_or}
use borrow.Author.Tests.{eqb-true, eqb-false, eq-eqb, ne_eqb, lt-ltb, le-ltb}
use Rattle.octets.specs.Choice.{by_test}
use Rattle.octets.specs.Reading.{oct}
use Rattle.sums.specs.Sums.{header_start, header_left, header_run, header_step}
use Rattle.frames.specs.declared.Phase.{Phase}
use Rattle.frames.specs.declared.Outcome.{Outcome}
use Rattle.frames.specs.declared.Outcome.TheVariants.{Quiet, Frame, Damage}
use Rattle.frames.specs.declared.Receiver.{Receiver}
use Rattle.frames.specs.Step.{most, Stepped, DataLeft, made, length_of, step_of, reports_of, feed_from}
use Rattle.frames.proofs.Laws.{turn, report, end, opened}
use Rattle.state.specs.Link.{phase_at}
use Rattle.state.specs.Layout.{edition_place, state_size, store_part}
use Rattle.feeding.specs.declared.Ate.{Ate}
use Rattle.feeding.specs.Stages.{receiver_at, phase_octet, got_at, Ready, Leaves, rest, ended, Steps, Sought, HeadLaid, HeadEnds, Fronts, Ends, EatsAt}
use Rattle.feeding.proofs.Parts.{head_at, Standing, stands, standing_receiver, set_phase, set_low, set_head, ready_stands, ready_phase, early_counts, header_counts, hunting_ready, preamble_ready, header_ready, data_ready, left_behind, length_parts}

-- a step that ends nothing
abbrev still : Receiver → Stepped
still r = record { outcome = Quiet; receiver = r }

-- such a step of the receiver that stands there goes on by one octet
module _ {o o' : List ℕ} {p high low p' high' low' : ℕ} {head head' : List ℕ} {first first' : ℕ} {store store' behind behind' : List ℕ} where
  pub goes_on : Standing o p high low head first store behind → Standing o' p' high' low' head' first' store' behind' → (piece : List ℕ) (i : ℕ) → i < length piece
      → still (made (phase_at p' high' low') head' first' store') ≡ step_of (made (phase_at p high low) head first store) (oct piece i) → rest piece o' (i + 1) ≡ rest piece o i
  goes_on t t' piece i h s =
      ap (λ (x : Receiver). feed_from (i + 1) x (drop (i + 1) piece)) (standing_receiver t')
      ∙ turn (made (phase_at p high low) head first store) (still (made (phase_at p' high' low') head' first' store')) i piece h s refl
      ∙ sym (ap (λ (x : Receiver). feed_from i x (drop i piece)) (standing_receiver t))

-- ---- hunting and preamble: near is the phase octet, which is laid at the end only
module _ (h : List ℕ) (c : ℕ) (s : List ℕ) where
  step_near : (x b : ℕ) → x < 2 → b ≡ 0x55 → still (made (phase_at 1 0 0) h c s) ≡ step_of (made (phase_at x 0 0) h c s) b
  unfolding step_of phase_at
  step_near zero b l e = rw e
  step_near (suc zero) b l e = rw e
  step_near (suc (suc x)) b l e = absurd (omega arith)

  step_away : (x b : ℕ) → x < 2 → (b ≡ 0x55 → ⊥) → (x ≡ 1 → b ≡ 0xFF → ⊥) → still (made (phase_at 0 0 0) h c s) ≡ step_of (made (phase_at x 0 0) h c s) b
  unfolding step_of phase_at
  step_away zero b l n m = rw (ne_eqb b 0x55 n)
  step_away (suc zero) b l n m = rw (ne_eqb b 0xFF (m refl), ne_eqb b 0x55 n)
  step_away (suc (suc x)) b l n m = absurd (omega arith)

  step_found : (b : ℕ) → b ≡ 0xFF → still (made (phase_at 2 0 0) h c s) ≡ step_of (made (phase_at 1 0 0) h c s) b
  unfolding step_of phase_at
  step_found b e = rw e

-- what the loop keeps: the area as it was, and with near laid it is where the piece is eaten to i
pub record Seeking (o piece o' : List ℕ) (near i : ℕ) : Type 0 where
  pub same : o' ≡ o
  pub kept : length o' ≡ length o
  pub low : near < 2
  pub high_none : oct o 1 ≡ 0
  pub low_none : oct o 2 ≡ 0
  pub long : length o ≡ state_size
  pub within : i ≤ length piece
  pub on : rest piece (set o 0 near) i ≡ rest piece o 0

module _ (o piece : List ℕ) where
  -- the area with a phase laid, while its counts are 0
  near_stands : length o ≡ state_size → oct o 1 ≡ 0 → oct o 2 ≡ 0 → (x : ℕ) → Standing (set o 0 x) x 0 0 (head_at o) (oct o 8) (store_part o) (drop edition_place o)
  near_stands n e d x = set_phase (rw (e, d) at (stands o n)) x

  pub seek_none : Ready o → phase_octet o < 3 → 1 < oct o 0 → Sought o piece 0 o
  seek_none r h k =
      let e : phase_octet o ≡ 2 = omega arith in
      record {
        onward = record { on = refl; within = omega arith; leaves = record { ready = r; behind = refl } };
        early = h;
        all = λ n. elim (n e) [ ];
      }

  pub seek_begin : Ready o → oct o 0 ≤ 1 → Seeking o piece o (oct o 0) 0
  seek_begin r h =
      let z = early_counts r (omega arith) in
      record {
        same = refl;
        kept = refl;
        low = omega arith;
        high_none = z.0;
        low_none = z.1;
        long = r.long;
        within = omega arith;
        on = rw (set-get_or o 0 0);
      }

  module _ {o' : List ℕ} {near i : ℕ} (k : Seeking o piece o' near i) where
    near_at : (x : ℕ) → Standing (set o 0 x) x 0 0 (head_at o) (oct o 8) (store_part o) (drop edition_place o)
    near_at x = near_stands k.long k.high_none k.low_none x

    -- on by one octet, with another phase
    near_on : (x : ℕ) → i < length piece → still (made (phase_at x 0 0) (head_at o) (oct o 8) (store_part o)) ≡ step_of (made (phase_at near 0 0) (head_at o) (oct o 8) (store_part o)) (oct piece i)
        → rest piece (set o 0 x) (i + 1) ≡ rest piece o 0
    near_on x h s = goes_on (near_at near) (near_at x) piece i h s ∙ k.on

    near_more : (x : ℕ) → x < 2 → i < length piece → rest piece (set o 0 x) (i + 1) ≡ rest piece o 0 → Seeking o piece o' x (i + 1)
    near_more x l h e =
        record { same = k.same; kept = k.kept; low = l; high_none = k.high_none; low_none = k.low_none; long = k.long; within = omega arith; on = e }

    pub seek_near : i < length piece → oct piece i ≡ 0x55 → Seeking o piece o' 1 (i + 1)
    seek_near h e = near_more 1 (lit< tt) h (near_on 1 h (step_near (head_at o) (oct o 8) (store_part o) near (oct piece i) k.low e))

    seek_away : i < length piece → (oct piece i ≡ 0x55 → ⊥) → (near ≡ 1 → oct piece i ≡ 0xFF → ⊥) → Seeking o piece o' 0 (i + 1)
    seek_away h n m = near_more 0 (lit< tt) h (near_on 0 h (step_away (head_at o) (oct o 8) (store_part o) near (oct piece i) k.low n m))

    -- the octet leads to no header
    pub seek_next : {x : ℕ} → i < length piece → x ≡ bool_byte (eqb (oct piece i) 0x55) → (near ≡ 1 → oct piece i ≡ 0xFF → ⊥) → Seeking o piece o' x (i + 1)
    seek_next h e m =
        rw e (by_test (eqb (oct piece i) 0x55) (λ t. rw t (seek_near h (eqb-true _ _ t))) (λ t. rw t (seek_away h (eqb-false _ _ t) m)))

    pub seek_found : i < length piece → near ≡ 1 → oct piece i ≡ 0xFF → Sought o piece (i + 1) (set o' 0 2)
    seek_found h e f =
        let t = near_at 2 in
        let p = near_on 2 h (rw e (step_found (head_at o) (oct o 8) (store_part o) (oct piece i) f)) in
        rw k.same
        (record {
          onward = record { on = p; within = omega arith; leaves = left_behind t (header_ready t (lit< tt)) };
          early = rw t.phase (lit< tt);
          all = λ n. elim (n t.phase) [ ];
        })

    near_ready : (x : ℕ) → x < 2 → Ready (set o 0 x)
    near_ready zero l = hunting_ready (near_at 0)
    near_ready (suc zero) l = preamble_ready (near_at 1)
    near_ready (suc (suc x)) l = absurd (omega arith)

    pub seek_end : length piece ≤ i → Sought o piece i (set o' 0 near)
    seek_end h =
        let t = near_at near in
        let l = k.low in
        let w = k.within in
        rw k.same
        (record {
          onward = record { on = k.on; within = w; leaves = left_behind t (near_ready near l) };
          early = rw t.phase (omega arith);
          all = λ n. omega arith;
        })

-- ---- the header's octets: got is their count, which is laid at the end only
step_laid : (h : List ℕ) (c : ℕ) (s : List ℕ) (high got b : ℕ) → got < 5
    → still (made (phase_at 2 high (got + 1)) (set h got b) c s) ≡ step_of (made (phase_at 2 high got) h c s) b
unfolding step_of phase_at
step_laid h c s high got b l = rw (lt-ltb got 5 l)

-- what the loop keeps: with got laid the area is where the piece is eaten to i
pub record Laying (o piece : List ℕ) (from : ℕ) (o' : List ℕ) (got i : ℕ) : Type 0 where
  pub long : length o' ≡ state_size
  pub kept : length o' ≡ length o
  pub phase : phase_octet o' ≡ 2
  pub high_none : oct o' 1 ≡ 0
  pub few : got < 6
  pub within : i ≤ length piece
  pub behind : drop edition_place o' ≡ drop edition_place o
  pub on : rest piece (set o' 2 got) i ≡ rest piece o from

module _ (o piece : List ℕ) (from : ℕ) where
  pub lay_begin : Ready o → from ≤ length piece → phase_octet o ≡ 2 → Laying o piece from o (oct o 2) from
  lay_begin r h e =
      let z = header_counts r e in
      record { long = r.long; kept = refl; phase = e; high_none = z.0; few = z.1; within = h; behind = refl; on = rw (set-get_or o 2 0) }

  module _ {o' : List ℕ} {got i : ℕ} (k : Laying o piece from o' got i) where
    laying_stands : Standing o' 2 0 (oct o' 2) (head_at o') (oct o' 8) (store_part o') (drop edition_place o)
    laying_stands = rw (k.phase, k.high_none, k.behind) at (stands o' k.long)

    pub lay_more : i < length piece → got < 5 → Laying o piece from (set o' (3 + got) (oct piece i)) (got + 1) (i + 1)
    lay_more h l =
        let t = laying_stands in
        let u = set_head t got (oct piece i) l in
        record {
          long = u.long;
          kept = length-set o' (3 + got) (oct piece i) ∙ k.kept;
          phase = u.phase;
          high_none = u.highs;
          few = omega arith;
          within = omega arith;
          behind = u.behinds;
          on = goes_on (set_low t got) (set_low u (got + 1)) piece i h (step_laid (head_at o') (oct o' 8) (store_part o') 0 got (oct piece i) l) ∙ k.on;
        }

    lay_so : ((i ≡ length piece → ⊥) → got ≡ 5) → HeadLaid o piece from i (set o' 2 got)
    lay_so f =
        let t = set_low laying_stands got in
        record {
          onward = record { on = k.on; within = k.within; leaves = left_behind t (header_ready t k.few) };
          phase = t.phase;
          whole = λ n. rw (t.highs, t.lows, f n);
        }

    pub lay_whole : 5 ≤ got → HeadLaid o piece from i (set o' 2 got)
    lay_whole h = let l = k.few in lay_so (λ n. omega arith)

    pub lay_end : length piece ≤ i → HeadLaid o piece from i (set o' 2 got)
    lay_end h = let w = k.within in lay_so (λ n. elim (n (omega arith)) [ ])

-- ---- the header's check octet: reg is what the five octets leave, left what the check octet leaves, n the length
abbrev told : Outcome → Phase → List ℕ → ℕ → List ℕ → Stepped
told q p h c s = record { outcome = q; receiver = made p h c s }

module _ (h : List ℕ) (c : ℕ) (s : List ℕ) (b left n : ℕ) (e : left ≡ header_step (header_run header_start h) b) (d : n ≡ length_of h) where
  step_bad : (left ≡ header_left → ⊥) → told (Damage 1) (phase_at 0 0 0) h c s ≡ step_of (made (phase_at 2 0 5) h c s) b
  unfolding step_of phase_at
  step_bad f = rw (← e, ne_eqb left header_left f)

  step_long : left ≡ header_left → most < n → told (Damage 2) (phase_at 0 0 0) h c s ≡ step_of (made (phase_at 2 0 5) h c s) b
  unfolding step_of phase_at
  step_long f g = rw (← e, eq-eqb left header_left f, ← d, lt-ltb most n g)

  step_frame : left ≡ header_left → n ≤ most → n ≡ 0 → told Frame (phase_at 0 0 0) h c s ≡ step_of (made (phase_at 2 0 5) h c s) b
  unfolding step_of phase_at
  step_frame f g z = rw (← e, eq-eqb left header_left f, ← d, le-ltb most n g, eq-eqb n 0 z)

  step_data : left ≡ header_left → n ≤ most → (n ≡ 0 → ⊥) → told Quiet (phase_at 3 0 0) h c s ≡ step_of (made (phase_at 2 0 5) h c s) b
  unfolding step_of phase_at
  step_data f g z = rw (← e, eq-eqb left header_left f, ← d, le-ltb most n g, ne_eqb n 0 z)

module _ (o : List ℕ) (b : ℕ) (r : Ready o) (p : phase_octet o ≡ 2) (g : got_at o ≡ 5) where
  whole_stands : Standing o 2 0 5 (head_at o) (oct o 8) (store_part o) (drop edition_place o)
  whole_stands =
      let z = header_counts r p in
      let f : oct o 2 ≡ 5 = omega arith in
      rw (p, z.0, f) at (ready_stands r)

  -- the count is 0 again, with a phase
  cleared : (x : ℕ) → Standing (set (set o 2 0) 0 x) x 0 0 (head_at o) (oct o 8) (store_part o) (drop edition_place o)
  cleared x = set_phase (set_low whole_stands 0) x

  -- the step, where the area stands so afterwards
  head_steps : {q : Outcome} {x : ℕ} {o' : List ℕ} → Standing o' x 0 0 (head_at o) (oct o 8) (store_part o) (drop edition_place o) → Ready o'
      → told q (phase_at x 0 0) (head_at o) (oct o 8) (store_part o) ≡ step_of (made (phase_at 2 0 5) (head_at o) (oct o 8) (store_part o)) b → Steps o b q o'
  head_steps {q} t a s =
      record {
        step = ap (λ (y : Receiver). record { outcome = q; receiver = y }) (standing_receiver t) ∙ s ∙ sym (ap (λ (y : Receiver). step_of y b) (standing_receiver whole_stands));
        leaves = left_behind t a;
      }

  -- it is reported, and hunting follows
  head_reports : {q : Outcome} → reports_of q ≡ true → told q (phase_at 0 0 0) (head_at o) (oct o 8) (store_part o) ≡ step_of (made (phase_at 2 0 5) (head_at o) (oct o 8) (store_part o)) b
      → HeadEnds o b q (set (set o 2 0) 0 0)
  head_reports {q} f s =
      let t = cleared 0 in
      let z = t.phase in
      record { steps = head_steps t (hunting_ready t) s; on = λ e. absurd (omega arith); ends = λ e. f }

  module _ {reg left n : ℕ} (e : reg ≡ header_run header_start (head_at o)) (d : left ≡ header_step reg b) (m : n ≡ oct o 6 * 256 + oct o 7) where
    leaves_so : left ≡ header_step (header_run header_start (head_at o)) b
    leaves_so = d ∙ ap (λ (x : ℕ). header_step x b) e

    long_so : n ≡ length_of (head_at o)
    long_so = m ∙ sym (length_parts o)

    pub head_bad : (left ≡ header_left → ⊥) → HeadEnds o b (Damage 1) (set (set o 2 0) 0 0)
    head_bad f = head_reports refl (step_bad (head_at o) (oct o 8) (store_part o) b left n leaves_so long_so f)

    pub head_long : left ≡ header_left → most < n → HeadEnds o b (Damage 2) (set (set o 2 0) 0 0)
    head_long f k = head_reports refl (step_long (head_at o) (oct o 8) (store_part o) b left n leaves_so long_so f k)

    pub head_frame : left ≡ header_left → n ≤ most → n ≡ 0 → HeadEnds o b Frame (set (set o 2 0) 0 0)
    head_frame f k z = head_reports refl (step_frame (head_at o) (oct o 8) (store_part o) b left n leaves_so long_so f k z)

    pub head_data : left ≡ header_left → n ≤ most → (n ≡ 0 → ⊥) → HeadEnds o b Quiet (set (set (set o 2 0) 0 0) 0 3)
    head_data f k z =
        let t = set_phase (cleared 0) 3 in
        let l = long_so in
        let a : DataLeft (0 * 256 + 0) (length_of (head_at o)) = record { some = omega arith; fits = omega arith; left = omega arith } in
        record {
          steps = head_steps t (data_ready t a) (step_data (head_at o) (oct o 8) (store_part o) b left n leaves_so long_so f k z);
          on = λ e. refl;
          ends = λ e. elim (e t.phase) [ ];
        }

-- ---- the stages put together
pub leaves_then : {o o' o'' : List ℕ} → Leaves o o' → Leaves o' o'' → Leaves o o''
leaves_then a b = record { ready = b.ready; behind = b.behind ∙ a.behind }

leaves_same : {o : List ℕ} → Ready o → Leaves o o
leaves_same r = record { ready = r; behind = refl }

-- nothing ended, and the piece is at its end
pub ends_quiet : (o piece : List ℕ) (i : ℕ) {a : Ate} → i ≡ length piece → a ≡ record { eaten = i; outcome = Quiet } → ended a o ≡ rest piece o i
ends_quiet o piece i h e = ap (λ (x : Ate). ended x o) e ∙ sym (end (receiver_at o) i piece (omega arith))

-- the last octet eaten is reported
pub ends_told : (o piece : List ℕ) (i : ℕ) (q : Outcome) (o' : List ℕ) → i < length piece → Steps o (oct piece i) q o' → reports_of q ≡ true
    → ended (record { eaten = i + 1; outcome = q }) o' ≡ rest piece o i
ends_told o piece i q o' h s f = report (receiver_at o) (record { outcome = q; receiver = receiver_at o' }) i piece h s.step f

module _ (o piece : List ℕ) (from : ℕ) where
  pub head_none : {a : Ate} → Ready o → from ≤ length piece → phase_octet o < 3 → ((phase_octet o ≡ 2 → ⊥) → from ≡ length piece) → (oct o 0 ≡ 2 → ⊥)
      → a ≡ record { eaten = from; outcome = Quiet } → Fronts o piece from a o
  head_none {a} r h k f n e =
      record {
        on = λ d. absurd (omega arith);
        ends = λ d. ends_quiet o piece from (f n) e;
        within = rw e h;
        leaves = leaves_same r;
      }

  module _ {i : ℕ} {o' : List ℕ} (l : HeadLaid o piece from i o') where
    pub head_short : {a : Ate} → i ≡ length piece → a ≡ record { eaten = i; outcome = Quiet } → Fronts o piece from a o'
    head_short {a} n e =
        let z = l.phase in
        record {
          on = λ d. absurd (omega arith);
          ends = λ d. ends_quiet o' piece i n e ∙ l.onward.on;
          within = rw e l.onward.within;
          leaves = l.onward.leaves;
        }

    pub head_inside : (i ≡ length piece → ⊥) → i < length piece
    head_inside n = let w = l.onward.within in omega arith

    pub head_whole : (i ≡ length piece → ⊥) → got_at o' ≡ 5
    head_whole n = l.whole n

    pub head_ended : {q : Outcome} {o'' : List ℕ} → (i ≡ length piece → ⊥) → HeadEnds o' (oct piece i) q o'' → Fronts o piece from (record { eaten = i + 1; outcome = q }) o''
    head_ended {q} {o''} n e =
        let h = head_inside n in
        record {
          on = λ d. turn (receiver_at o') (record { outcome = q; receiver = receiver_at o'' }) i piece h e.steps.step (ap reports_of (e.on d)) ∙ l.onward.on;
          ends = λ d. ends_told o' piece i q o'' h e.steps (e.ends d) ∙ l.onward.on;
          within = omega arith;
          leaves = leaves_then l.onward.leaves e.steps.leaves;
        }

module _ (o piece : List ℕ) where
  pub front_none : {a : Ate} → Ready o → oct o 0 ≡ 3 → a ≡ record { eaten = 0; outcome = Quiet } → Fronts o piece 0 a o
  front_none {a} r h e =
      record {
        on = λ d. ap (λ (x : Ate). rest piece o x.eaten) e;
        ends = λ d. elim (d h) [ ];
        within = rw e (omega arith);
        leaves = leaves_same r;
      }

  pub front_then : {i : ℕ} {a : Ate} {o' o'' : List ℕ} → Sought o piece i o' → Fronts o' piece i a o'' → Fronts o piece 0 a o''
  front_then s f =
      record {
        on = λ d. f.on d ∙ s.onward.on;
        ends = λ d. f.ends d ∙ s.onward.on;
        within = f.within;
        leaves = leaves_then s.onward.leaves f.leaves;
      }

  pub front_early : Ready o → (oct o 0 ≡ 3 → ⊥) → phase_octet o < 3
  front_early r n = let h = ready_phase r in omega arith

  module _ (r : Ready o) {a : Ate} {o' : List ℕ} (f : Fronts o piece 0 a o') where
    pub eat_ended : (oct o' 0 ≡ 3 → ⊥) → EatsAt o piece a o'
    eat_ended n = record { fed = f.ends n ∙ opened (receiver_at o) piece r.sound; leaves = f.leaves }

    pub eat_on : {q : Ate} {o'' : List ℕ} → oct o' 0 ≡ 3 → Ends o' piece a.eaten q o'' → EatsAt o piece q o''
    eat_on h e =
        record {
          fed = e.ends ∙ f.on h ∙ opened (receiver_at o) piece r.sound;
          leaves = leaves_then f.leaves e.leaves;
        }
