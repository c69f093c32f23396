-- The turns of a replay one after the other: what holds from a turn on holds from the start.
use Prim.Native.Nat.{ℕ, ◌+◌, ◌-◌, ◌*◌, ◌%◌, ◌≤◌, ◌<◌}
use native.Mathlib.Omega.{arith}
use mathlib.Core.Path.{◌≡◌, refl, sym, ap, ◌∙◌}
use mathlib.Core.Bool.{Bool, true, false, ◌||◌}
use mathlib.Core.List.{List}
use lib.ListN.{length, take, drop, drop_of_length-le, length-drop}
use lib.Seq.{drop-drop}
use Rattle.octets.specs.Choice.{impossible}
use Rattle.octets.specs.Refusal.{number_of, number_some}
use Rattle.octets.specs.declared.refusal.Refusal.{Refusal}
use Rattle.runs.specs.Offered.{answer}
use Rattle.apdu.specs.declared.Edition.{Edition}
use Rattle.frames.specs.declared.Link.{Link}
use Rattle.frames.specs.Step as Frames
use Rattle.rebuild.specs.View.{view}
use Rattle.rebuild.specs.declared.Slots.{Slots}
use Rattle.collector.specs.Acting.{Kept}
use Rattle.collector.specs.Answers.{Ate, unfed_by}
use Rattle.collector.proofs.Content.{part_rest}
use Rattle.playback.specs.Layout.{record_size}
use Rattle.playback.specs.Calls.{Course, course, course_of, Comes}
use Rattle.playback.specs.Answers.{Went}
use Rattle.playback.specs.Lent.{Lends, LendsWhole, LendsRecord, turn_over, more_of, Turned, went_over, Runs}
use Rattle.playback.proofs.Playing.{more_more}

more_course : (m n : ℕ) (w : Course) → more_of m (more_of n w) ≡ more_of (m + n) w
more_course m n w = ap (course w.number) (more_more m n w.left)

-- the report is behind what the turn left, and n records were eaten before
comes_more : (edition : Edition) (n : ℕ) {w : Course} {report report' area' store' : List ℕ} (r : Ate) (moved : Bool) → Comes edition w report (turn_over edition r store') report' area'
    → Comes edition (more_of n w) report (went_over edition (record { refused = r.refused; eaten = n + r.eaten; reported = r.reported; moved = moved; link = r.link; slots = r.slots }) store') report' area'
comes_more edition n r moved C =
    record {
      refused = C.refused;
      eaten = ap (λ (m : ℕ). n + m) C.eaten;
      reported = C.reported;
      edition = C.edition;
      receiver = C.receiver;
      slots = C.slots;
      report_after = C.report_after;
      area_after = C.area_after;
    }

neither : (a b : Bool) → (a || b) ≡ false → (a ≡ false) × (b ≡ false)
neither true b e = impossible (cc)
neither false b e = (refl, e)

-- the octets from a place on, as they are lent
abbrev left_at : List ℕ → ℕ → List ℕ
left_at o at = take (length o - at) (drop at o)

-- a replay on its way, r being what it has come to: none refused and none reported, and the octets behind what was eaten left
pub record Onward (edition : Edition) (l₀ : Link) (t₀ : Slots) (store₀ report₀ area₀ o : List ℕ) (r : Went) (store report area : List ℕ) : Type 0 where
  pub lends : Lends r.link r.slots store report area
  pub clean : r.refused ≡ 0
  pub silent : r.reported ≡ false
  pub quiet : report ≡ report₀
  pub within : record_size * r.eaten ≤ length o
  pub whole : length o % record_size ≡ 0
  pub sized : length area ≡ length area₀
  pub rest : course_of edition (Frames.over l₀ store₀) (view t₀) area₀ o ≡ more_of r.eaten (course_of edition (Frames.over r.link store) (view r.slots) area (drop (record_size * r.eaten) o))
  pub kept : Kept r.moved t₀ r.slots

more_none : (w : Course) → w ≡ more_of 0 w
more_none w = let z : w.left.eaten ≡ 0 + w.left.eaten = omega arith in
    ap (λ (n : ℕ). course w.number (answer n w.left.said w.left.state w.left.slots w.left.area)) z

-- the start
pub onward_none : (edition : Edition) (l : Link) (t : Slots) (store report area o : List ℕ) → LendsWhole l t store report area o
    → Onward edition l t store report area o (record { refused = 0; eaten = 0; reported = false; moved = false; link = l; slots = t }) store report area
onward_none edition l t store report area o A =
    record {
      lends = A.lends;
      clean = refl;
      silent = refl;
      quiet = refl;
      within = omega arith;
      whole = A.whole;
      sized = refl;
      rest = more_none (course_of edition (Frames.over l store) (view t) area o);
      kept = λ x. refl;
    }

module _ (edition : Edition) (l₀ : Link) (t₀ : Slots) (store₀ report₀ area₀ o : List ℕ) {w : Went} {store report area : List ℕ}
    (S : Onward edition l₀ t₀ store₀ report₀ area₀ o w store report area) where
  abbrev at : ℕ
  at = record_size * w.eaten

  -- a record is left
  pub record_left : at < length o → LendsRecord w.link w.slots store report area (left_at o at)
  record_left h =
      let k = S.whole in
      let some : record_size ≤ length (drop at o) = simp length-drop (omega arith) in
      record { lends = S.lends; some = rw (part_rest o at) some }

  module _ (r : Ate) {store' report' area' : List ℕ} (turned : Turned edition w.link w.slots store report area (left_at o at) r store' report' area') where
    T : Turned edition w.link w.slots store report area (drop at o) r store' report' area'
    T = rw (part_rest o at) at turned

    -- slots that moved neither before nor in this turn
    kept_on : Kept (w.moved || r.moved) t₀ r.slots
    kept_on e =
        let k = neither w.moved r.moved e in
        T.kept k.1 ∙ S.kept k.0

    -- the turn ends the replay: by its report
    pub onward_ends : r.refused ≡ 0 → r.reported ≡ true → {m : Bool} → m ≡ (w.moved || r.moved)
        → Runs edition l₀ t₀ store₀ report₀ area₀ o (record { refused = w.refused; eaten = w.eaten + r.eaten; reported = r.reported; moved = m; link = r.link; slots = r.slots }) store' report' area'
    onward_ends z e {m} k =
        let q : w.refused ≡ r.refused = S.clean ∙ sym z in
        record { comes = rw (S.rest, ← S.quiet, q) (comes_more edition w.eaten r m (T.ends e)); kept = rw k kept_on }

    -- it eats no more than is left
    pub onward_most : record_size * (w.eaten + r.eaten) ≤ length o
    onward_most = let p = S.within in let q : record_size * r.eaten ≤ length o - at = simp length-drop at T.within in omega arith

    -- or it goes on
    pub onward_goes : r.refused ≡ 0 → r.reported ≡ false → {m : Bool} → m ≡ (w.moved || r.moved)
        → Onward edition l₀ t₀ store₀ report₀ area₀ o (record { refused = w.refused; eaten = w.eaten + r.eaten; reported = r.reported; moved = m; link = r.link; slots = r.slots }) store' report' area'
    onward_goes z e k =
        let G = T.goes z e in
        let p : record_size * (w.eaten + r.eaten) ≡ at + record_size * r.eaten = omega arith in
        record {
          lends = record { ready = G.ready; stored = T.stored ∙ S.lends.stored; line = ap length G.quiet ∙ S.lends.line };
          clean = S.clean;
          silent = e;
          quiet = G.quiet ∙ S.quiet;
          within = onward_most;
          whole = S.whole;
          sized = T.sized ∙ S.sized;
          rest = S.rest ∙ ap (more_of w.eaten) G.rest ∙ more_course w.eaten r.eaten _
              ∙ ap (λ (x : List ℕ). more_of (w.eaten + r.eaten) (course_of edition (Frames.over r.link store') (view r.slots) area' x)) (drop-drop (record_size * r.eaten) at o ∙ ap (λ (n : ℕ). drop n o) (sym p));
          kept = rw k kept_on;
        }

    -- what is left falls
    pub onward_less : r.refused ≡ 0 → r.reported ≡ false → length o - record_size * (w.eaten + r.eaten) < length o - at
    onward_less z e = let p = onward_most in let q = (T.goes z e).some in omega arith

  -- a bad record ends it too: nothing of it is eaten, and nothing changed
  pub onward_bad : (n : Refusal) {store' report' area' : List ℕ} → Turned edition w.link w.slots store report area (left_at o at) (unfed_by (number_of n) w.link w.slots) store' report' area'
      → Runs edition l₀ t₀ store₀ report₀ area₀ o (record { refused = number_of n; eaten = w.eaten; reported = w.reported; moved = w.moved; link = w.link; slots = w.slots }) store' report' area'
  onward_bad n turned =
      let r = unfed_by (number_of n) w.link w.slots in
      let B = (T r turned).bad (number_some n) in
      let z : w.eaten + 0 ≡ w.eaten = omega arith in
      record { comes = rw (S.rest, ← S.quiet, S.silent) (rw z at (comes_more edition w.eaten r w.moved B)); kept = S.kept }

  -- nothing is left
  pub onward_over : length o ≤ at → Runs edition l₀ t₀ store₀ report₀ area₀ o w store report area
  unfolding course_of
  onward_over h =
      record {
        comes = rw (S.rest, drop_of_length-le o h) (record { refused = S.clean; eaten = omega arith; reported = S.silent; edition = refl; receiver = refl; slots = refl; report_after = S.quiet; area_after = refl });
        kept = S.kept;
      }
