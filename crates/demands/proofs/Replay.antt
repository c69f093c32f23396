-- The replay: its records exactly when, its numbers exactly when, what it changes, and demand 3 of it.
use Prim.Native.Nat.{ℕ, ◌/◌, ◌%◌}
use native.Mathlib.Omega.{arith}
use mathlib.Core.Path.{◌≡◌, refl, sym, ap, subst, ◌∙◌}
use mathlib.Core.Logic.{◌⊎◌, inl, inr}
use mathlib.Core.Bool.{Bool, true, false}
use mathlib.Core.List.{List, [], ◌∷◌, ◌++◌}
use mathlib.Core.Option.{Option, none, some}
use lib.ListN.{length, take}
use borrow.Author.Tests.{eq-eqb}
use Rattle.octets.specs.Choice.{impossible}
use Rattle.octets.specs.Numbers.{digits}
use Rattle.runs.specs.Run.{Run}
use Rattle.runs.specs.Run.Event.{octet, silence}
use Rattle.runs.specs.Run.Order.{trunk, forget}
use Rattle.runs.specs.Offered.{answer}
use Rattle.runs.specs.Offered.Offer.{call}
use Rattle.apdu.specs.declared.Edition.{Edition}
use Rattle.frames.specs.declared.Receiver.{Receiver}
use Rattle.frames.specs.Step.{fresh_of, sound_of, step_of, feed_from, still_of, silence_of}
use Rattle.messages.specs.Slots as Messages
use Rattle.rebuild.specs.View.{view, fresh}
use Rattle.rebuild.specs.declared.Key.{Key}
use Rattle.rebuild.proofs.Page.{fresh_passes}
use Rattle.rebuild.proofs.Seen.{view_one}
use Rattle.reports.specs.Layout.{report_size, report_octets}
use Rattle.collector.specs.Calls.{fresh_collector, slots_of, said_so, written, Answered, feed_refusal, feeding}
use Rattle.collector.specs.Offering.{Passes, told}
use Rattle.collector.specs.declared.Collector.{Collector}
use Rattle.collector.proofs.Alike.{seen, tells, told_said}
use Rattle.playback.specs.Layout.{record_size, record_octets}
use Rattle.playback.specs.Valid.Behind.{bad as broken}
use Rattle.playback.specs.Reading.{order_of, read_records}
use Rattle.playback.specs.Calls.{one, more, then_go, play, Course, reached, by_front, course_of, barred, play_refusal, playing, Comes, Ready}
use Rattle.playback.specs.Offering.{OneByOne}
use Rattle.playback.specs.Answers.{Played}
use Rattle.playback.proofs.Records.{records_exactly, front_behind}
use Rattle.playback.proofs.Judging.{ready_by}
use Rattle.playback.proofs.Playing.{play_most, play_some, play_all}
use Rattle.playback.proofs.Parts.{Rest, taken, whole_stop, rest_none, rest_behind, bad_stops}
use Rattle.playback.proofs.Fed.{box_feed}
use Rattle.playback.proofs.Quiet.{quiet_reads, reads_quiet}
use Rattle.playback.proofs.Eaten.{play_eats, seen_one}
use Rattle.playback.proofs.Ways.{Way, way}
use Rattle.playback.proofs.Ways.Way.{by_state, by_length, through}
use Rattle.playback.proofs.Demand as Replaying
use Rattle.playback.proofs.Examples as Examples
use Rattle.demands.specs.Words.{SixtyThenFiftyNine, Broken}
use Rattle.demands.specs.Replay.{RecordsAre, RecordsExact, Whole, Arrays, Stopped, ByNumber, ReplayNumbers, ReplayRefused, ReplayChanges, ReplayDoes, ReplayAsCalled, ReplayByPosition, ReplayAnyPart, ReplayCanBeOffered, ReplayWorked, ReplaySilenceWorked}
use Rattle.demands.proofs.FiftyNine.{feed_numbers}

pub records_are : RecordsAre
records_are = (refl, refl, λ x run. refl, λ run. refl, λ i run. refl)

pub records_exact : RecordsExact
records_exact = records_exactly

-- ---- the numbers
apart : {X : Type 0} {n : ℕ} (a b : ℕ) → n ≡ a → n ≡ b → (a ≡ b → ⊥) → X
apart a b e f h = absurd (h (sym e ∙ f))

module _ (n : ℕ) (S B W T : Type 0) where
  pub is_60 : n ≡ 60 → (S → ⊥) → ByNumber n S B W T
  is_60 e fails =
      record {
        sixty = (λ _. fails, λ _. e);
        fifty_nine = (λ q. apart 60 59 e q (λ z. omega arith), λ h. absurd (fails h.0));
        sixty_eight = (λ q. apart 60 68 e q (λ z. omega arith), λ h. absurd (fails h.0));
        sixty_seven = (λ q. apart 60 67 e q (λ z. omega arith), λ h. absurd (fails h.0));
        none = (λ q. apart 60 0 e q (λ z. omega arith), λ h. absurd (fails h.0));
      }

  pub is_59 : n ≡ 59 → S → B → ByNumber n S B W T
  is_59 e s b =
      record {
        sixty = (λ q. apart 59 60 e q (λ z. omega arith), λ h. absurd (h s));
        fifty_nine = (λ _. (s, b), λ _. e);
        sixty_eight = (λ q. apart 59 68 e q (λ z. omega arith), λ h. absurd (h.1 b));
        sixty_seven = (λ q. apart 59 67 e q (λ z. omega arith), λ h. absurd (h.1 b));
        none = (λ q. apart 59 0 e q (λ z. omega arith), λ h. absurd (h.1 b));
      }

  module _ (s : S) (fair : B → ⊥) where
    is_68 : n ≡ 68 → (W → ⊥) → ByNumber n S B W T
    is_68 e fails =
        record {
          sixty = (λ q. apart 68 60 e q (λ z. omega arith), λ h. absurd (h s));
          fifty_nine = (λ q. apart 68 59 e q (λ z. omega arith), λ h. absurd (fair h.1));
          sixty_eight = (λ _. (s, fair, fails), λ _. e);
          sixty_seven = (λ q. apart 68 67 e q (λ z. omega arith), λ h. absurd (fails h.2));
          none = (λ q. apart 68 0 e q (λ z. omega arith), λ h. absurd (fails h.2));
        }

    module _ (w : W) where
      is_67 : n ≡ 67 → T → ByNumber n S B W T
      is_67 e t =
          record {
            sixty = (λ q. apart 67 60 e q (λ z. omega arith), λ h. absurd (h s));
            fifty_nine = (λ q. apart 67 59 e q (λ z. omega arith), λ h. absurd (fair h.1));
            sixty_eight = (λ q. apart 67 68 e q (λ z. omega arith), λ h. absurd (h.2 w));
            sixty_seven = (λ _. (s, fair, w, t), λ _. e);
            none = (λ q. apart 67 0 e q (λ z. omega arith), λ h. absurd (h.3 t));
          }

      is_0 : n ≡ 0 → (T → ⊥) → ByNumber n S B W T
      is_0 e fails =
          record {
            sixty = (λ q. apart 0 60 e q (λ z. omega arith), λ h. absurd (h s));
            fifty_nine = (λ q. apart 0 59 e q (λ z. omega arith), λ h. absurd (fair h.1));
            sixty_eight = (λ q. apart 0 68 e q (λ z. omega arith), λ h. absurd (h.2 w));
            sixty_seven = (λ q. apart 0 67 e q (λ z. omega arith), λ h. absurd (fails h.3));
            none = (λ _. (s, fair, w, fails), λ _. e);
          }

-- feeding's part of them
abbrev Sized : List ℕ → List ℕ → Type 0
Sized report area = (length report ≡ report_size) × (length area ≡ 65536)

feeds_first : (c : Collector) (report area : List ℕ) → Arrays c → SixtyThenFiftyNine (feed_refusal c report area) (Sized report area) (Broken c)
feeds_first c report area A =
    feed_numbers c [] report area _ _ _ A.four (tells c.edition (feed_refusal c report area) (feeding c report area []) report)

-- a state that passes
ready_of : (c : Collector) (report area : List ℕ) → feed_refusal c report area ≡ 0 → Ready c.receiver (slots_of c) area
unfolding feed_refusal
ready_of c report area e = (ready_by c.receiver.link c.slots c.receiver.store report area e).1

-- a multiple of four, by its remainder
whole_is : (o : List ℕ) → length o % record_size ≡ 0 → Whole o
whole_is o e = (length o / record_size, omega arith)

not_whole : (o : List ℕ) → (length o % record_size ≡ 0 → ⊥) → Whole o → ⊥
not_whole o h w = let k = w.0 in let e = w.1 in h (omega arith)

module _ (c : Collector) (area o : List ℕ) (P : Passes c) (z : length area ≡ 65536) where
  abbrev front : Run
  front = (read_records o).front

  abbrev played : Answered
  played = play c.edition c.receiver (slots_of c) area front

  -- a bad record that is reached is the first bad one, behind a silent run
  reaches : Stopped c area o → ((read_records o).stop ≡ 67) × (played.said ≡ none)
  reaches s =
      let b = s.kind ∷ s.value ∷ s.third ∷ s.fourth ∷ s.more in
      let stop : (read_records o).stop ≡ 67 = rw s.are (bad_stops s.run s.kind s.value s.third s.fourth s.more s.bad) in
      let same : front ≡ s.run = rw s.are (front_behind s.run b (broken s.bad)) in
      (stop, rw same (reads_quiet c area P z s.run s.silent))

  stopped_by : {n : ℕ} (behind : List ℕ) → o ≡ record_octets front ++ behind → n ≡ 67 → Rest n behind → played.said ≡ none → Stopped c area o
  stopped_by behind e m (Rest.bad k v a b more h) q =
      record { run = front; kind = k; value = v; third = a; fourth = b; more = more; bad = h; are = e; silent = quiet_reads c area P z front q }
  stopped_by behind e m Rest.over q = absurd (omega arith)
  stopped_by behind e m (Rest.odd low high) q = absurd (omega arith)

  number_by : (n : ℕ) (S B : Type 0) → S → (B → ⊥) → Whole o → (x : Option (List ℕ)) → played.said ≡ x → n ≡ reached x (read_records o).stop
      → ((read_records o).stop ≡ 0) ⊎ ((read_records o).stop ≡ 67) → ByNumber n S B (Whole o) (Stopped c area o)
  number_by n S B s fair w none q e (inl m) = is_0 n S B (Whole o) (Stopped c area o) s fair w (e ∙ m) (λ t. apart 0 67 m (reaches t).0 (λ z. omega arith))
  number_by n S B s fair w none q e (inr m) = let T = taken o in is_67 n S B (Whole o) (Stopped c area o) s fair w (e ∙ m) (stopped_by T.behind T.records m T.rest q)
  number_by n S B s fair w (some r) q e m = is_0 n S B (Whole o) (Stopped c area o) s fair w e (λ t. impossible (let y : some r ≡ none = sym q ∙ (reaches t).1 in cc))

number_through : (c : Collector) (area o : List ℕ) (n : ℕ) → n ≡ (course_of c.edition c.receiver (slots_of c) area o).number
    → n ≡ reached (play c.edition c.receiver (slots_of c) area (read_records o).front).said (read_records o).stop
unfolding course_of
number_through c area o n e = e

pub replay_numbers : ReplayNumbers
replay_numbers c o report area r report' area' A h = by (way c report area o)
  where
    F : SixtyThenFiftyNine (feed_refusal c report area) (Sized report area) (Broken c)
    F = feeds_first c report area A

    number_is : {w : Course} → playing c report area o ≡ w → r.refused ≡ w.number
    number_is e = h.refused ∙ ap (λ (w : Course). w.number) e

    by : Way c report area o → ByNumber r.refused (Sized report area) (Broken c) (Whole o) (Stopped c area o)
    by (by_state n (inl m) e q) = is_60 r.refused _ _ _ _ (number_is q ∙ m) (F.sixty.0 (e ∙ m))
    by (by_state n (inr m) e q) = let b = F.fifty_nine.0 (e ∙ m) in is_59 r.refused _ _ _ _ (number_is q ∙ m) b.0 b.1
    by (by_length e u q) = let b = F.none.0 e in is_68 r.refused _ _ _ _ b.0 b.1 (number_is q) (not_whole o u)
    by (through e u q) =
        let b = F.none.0 e in
        let R = ready_of c report area e in
        let P : Passes c = record { receiver = record { left = R.receiver; head = A.head; store = A.store }; slots = R.slots } in
        let w = whole_is o u in
        number_by c area o P b.0.1 r.refused (Sized report area) (Broken c) b.0 b.1 w (play c.edition c.receiver (slots_of c) area (read_records o).front).said refl
        (number_through c area o r.refused (number_is q)) (whole_stop (read_records o).stop w.0 o (read_records o).front w.1 (taken o))

-- ---- what it changes
played_same : (r : Played) (n k : ℕ) (b : Bool) (c : Collector) → r.refused ≡ n → r.eaten ≡ k → r.reported ≡ b → r.state.edition ≡ c.edition → r.state.receiver ≡ c.receiver → slots_of r.state ≡ slots_of c
    → r ≡ record { refused = n; eaten = k; reported = b; state = c }
played_same r n k b c p q s d v t =
    let u = view_one r.state.slots c.slots t in
    λ i. record { refused = p i; eaten = q i; reported = s i; state = record { edition = d i; receiver = v i; slots = u i } }

barred_keeps : (m : ℕ) (c : Collector) (report area : List ℕ) (r : Played) (report' area' : List ℕ) → Comes c.edition (barred m c area) report r report' area'
    → (r ≡ record { refused = r.refused; eaten = 0; reported = false; state = c }) × (report' ≡ report) × (area' ≡ area)
barred_keeps m c report area r report' area' C =
    (played_same r r.refused 0 false c refl C.eaten C.reported C.edition C.receiver C.slots, C.report_after, C.area_after)

-- what goes through gives 0 or 67
goes_number : (c : Collector) (area o : List ℕ) → length o % record_size ≡ 0 → ((course_of c.edition c.receiver (slots_of c) area o).number ≡ 0) ⊎ ((course_of c.edition c.receiver (slots_of c) area o).number ≡ 67)
unfolding course_of
goes_number c area o u =
    let w = whole_is o u in
    by (play c.edition c.receiver (slots_of c) area (read_records o).front).said (whole_stop (read_records o).stop w.0 o (read_records o).front w.1 (taken o))
  where
    by : (x : Option (List ℕ)) → ((read_records o).stop ≡ 0) ⊎ ((read_records o).stop ≡ 67) → (reached x (read_records o).stop ≡ 0) ⊎ (reached x (read_records o).stop ≡ 67)
    by none m = m
    by (some r) m = inl refl

pub contra : {X : Type 0} (n : ℕ) → (n ≡ 60) ⊎ ((n ≡ 59) ⊎ (n ≡ 68)) → (n ≡ 0) ⊎ (n ≡ 67) → X
contra n (inl a) (inl b) = absurd (omega arith)
contra n (inl a) (inr b) = absurd (omega arith)
contra n (inr (inl a)) (inl b) = absurd (omega arith)
contra n (inr (inl a)) (inr b) = absurd (omega arith)
contra n (inr (inr a)) (inl b) = absurd (omega arith)
contra n (inr (inr a)) (inr b) = absurd (omega arith)

of_two : (n k : ℕ) → n ≡ k → (k ≡ 0) ⊎ (k ≡ 67) → (n ≡ 0) ⊎ (n ≡ 67)
of_two n k e (inl a) = inl (e ∙ a)
of_two n k e (inr a) = inr (e ∙ a)

of_three : (n k : ℕ) → n ≡ k → (k ≡ 60) ⊎ (k ≡ 59) → (n ≡ 60) ⊎ ((n ≡ 59) ⊎ (n ≡ 68))
of_three n k e (inl a) = inl (e ∙ a)
of_three n k e (inr a) = inr (inl (e ∙ a))

pub replay_refused : ReplayRefused
replay_refused c o report area r report' area' h m = by (way c report area o)
  where
    by : Way c report area o → (r ≡ record { refused = r.refused; eaten = 0; reported = false; state = c }) × (report' ≡ report) × (area' ≡ area)
    by (by_state n k e q) = barred_keeps n c report area r report' area' (rw q at h)
    by (by_length e u q) = barred_keeps 68 c report area r report' area' (rw q at h)
    by (through e u q) = contra r.refused m (of_two _ _ (h.refused ∙ ap (λ (w : Course). w.number) q) (goes_number c area o u))

-- ---- 0 and 67
said_none : (x : Option (List ℕ)) → said_so x ≡ false → x ≡ none
said_none none e = refl
said_none (some r) e = impossible (cc)

stop_silent : (x : Option (List ℕ)) (n : ℕ) → reached x n ≡ 67 → said_so x ≡ false
stop_silent none n e = refl
stop_silent (some r) n e = absurd (omega arith)

module _ (c : Collector) (o report area : List ℕ) (r : Played) (report' area' : List ℕ) (R : Ready c.receiver (slots_of c) area)
    (C : Comes c.edition (course_of c.edition c.receiver (slots_of c) area o) report r report' area') where
  abbrev left : Answered
  left = play c.edition c.receiver (slots_of c) area (read_records o).front

  comes_by : Comes c.edition (by_front left (read_records o).stop) report r report' area'
  unfolding course_of
  comes_by = C

  abbrev stop : ℕ
  stop = (read_records o).stop

  said_is : left.said ≡ told r.reported report'
  said_is = rw (comes_by.reported, comes_by.report_after) (sym (told_said left.said report))

  silent : r.reported ≡ false → left.said ≡ none
  silent f = said_none left.said (sym comes_by.reported ∙ f)

  eats : OneByOne (c, area) (take r.eaten (read_records o).front) (told r.reported report') (r.state, area')
  eats =
      let E = play_eats (read_records o).front (c, area) R in
      let q : seen (r.state, area') ≡ (left.state, left.slots, left.area) = rw (comes_by.receiver, comes_by.slots, comes_by.area_after) in
      let same : E.0 ≡ (r.state, area') = seen_one E.0 (r.state, area') (E.2.0 ∙ sym comes_by.edition) (sym (q ∙ E.2.1)) in
      rw (comes_by.eaten, ← said_is, ← same) E.1

  changes : ReplayChanges c o report area r report' area'
  changes =
      let f = (read_records o).front in
      let T = taken o in
      record {
        run = f;
        behind = T.behind;
        are = T.records;
        ends = rest_behind T.rest;
        leaves = eats;
        most = rw comes_by.eaten (play_most c.edition f c.receiver (slots_of c) area);
        some = λ l. rw comes_by.eaten (play_some c.edition f c.receiver (slots_of c) area l);
        all = λ e. (comes_by.eaten ∙ play_all c.edition f c.receiver (slots_of c) area (silent e), comes_by.report_after ∙ ap (λ (x : Option (List ℕ)). written x report) (silent e));
        over = λ n e. (
            let z : stop ≡ 0 = sym (comes_by.refused ∙ ap (λ (x : Option (List ℕ)). reached x stop) (silent e)) ∙ n in
            rest_none (subst (λ (k : ℕ). Rest k T.behind) z T.rest));
        stopped = λ n. comes_by.reported ∙ stop_silent left.said stop (sym comes_by.refused ∙ n);
      }

pub replay_does : ReplayDoes
replay_does c o report area r report' area' h m = by (way c report area o)
  where
    number_is : {w : Course} → playing c report area o ≡ w → r.refused ≡ w.number
    number_is e = h.refused ∙ ap (λ (w : Course). w.number) e

    by : Way c report area o → ReplayChanges c o report area r report' area'
    by (by_state n k e q) = contra r.refused (of_three _ _ (number_is q) k) m
    by (by_length e u q) = contra r.refused (inr (inr (number_is q))) m
    by (through e u q) = changes c o report area r report' area' (ready_of c report area e) (rw q at h)

-- ---- demand 3
pub replay_as_called : ReplayAsCalled
replay_as_called p c area run e o = Replaying.replay_as_called o

pub replay_by_position : ReplayByPosition
replay_by_position c area P z run e o = Replaying.replay_by_position c area P z o

pub replay_any_part : ReplayAnyPart
replay_any_part p c report area lent run behind r report' area' e k b h w =
    (w.0, call lent run (record { behind = behind; report = report; report' = report'; answer = r; ends = b; sixteen = k; promise = h; ate = refl; says = refl; leaves = refl }) w.1, w.2, w.3, w.4)

pub replay_can_be_offered : ReplayCanBeOffered
replay_can_be_offered = Replaying.can_be_replayed

pub replay_worked : ReplayWorked
replay_worked d report area r report' area' k z h =
    let said = Examples.whole_said d report area k z in (
      h.refused ∙ Examples.whole_number d report area k z,
      h.eaten ∙ Examples.whole_eaten d report area k z,
      h.reported ∙ ap said_so said,
      h.report_after ∙ ap (λ (x : Option (List ℕ)). written x report) said,
    )

-- the silence within a header, computed
abbrev hush_records : List ℕ
hush_records = 0 ∷ 0x55 ∷ 0 ∷ 0 ∷ 0 ∷ 0xFF ∷ 0 ∷ 0 ∷ 1 ∷ 0 ∷ 0 ∷ 0 ∷ 2 ∷ 7 ∷ 0 ∷ 0 ∷ []

abbrev hush_report : List ℕ
hush_report = 0x02 ∷ 0x04 ∷ 0 ∷ 0 ∷ 0 ∷ 0 ∷ 0 ∷ 0 ∷ 0 ∷ 0 ∷ 0 ∷ 0 ∷ 0 ∷ 0 ∷ 0 ∷ 0 ∷ []

abbrev start : Receiver
start = fresh_of

abbrev free : List (Messages.Slot Key)
free = view fresh

abbrev to_preamble : Receiver
to_preamble = (feed_from 0 start (0x55 ∷ [])).receiver

abbrev to_header : Receiver
to_header = (feed_from 0 start (0x55 ∷ 0xFF ∷ [])).receiver

-- what follows an order's own answer
abbrev go_on : Edition → Answered → Run → Answered
go_on edition d run = then_go d.said d (play edition d.state d.slots d.area run)

module _ (edition : Edition) (report area : List ℕ) (k : length report ≡ report_size) (z : length area ≡ 65536) where
  fit : (r : Receiver) → sound_of r ≡ true → Ready r free area
  fit r e = record { receiver = e; slots = fresh_passes; fits = eq-eqb (length area) 65536 z }

  hush_first : one edition (trunk (octet 0x55)) start free area ≡ answer 1 none to_preamble free area
  unfolding one step_of
  hush_first = box_feed edition (fit start refl) (0x55 ∷ [])

  hush_second : one edition (trunk (octet 0xFF)) to_preamble free area ≡ answer 1 none to_header free area
  unfolding one step_of
  hush_second = box_feed edition (fit to_preamble refl) (0xFF ∷ [])

  hush_third : (one edition (trunk silence) to_header free area).said ≡ some hush_report
  unfolding one step_of silence_of still_of report_octets digits
  hush_third = rw fresh_passes

  abbrev hush_run : Run
  hush_run = trunk silence ∷ forget 7 ∷ []

  hush_play : play edition start free area (trunk (octet 0x55) ∷ trunk (octet 0xFF) ∷ hush_run) ≡ more 1 (more 1 (play edition to_header free area hush_run))
  hush_play = ap (λ (d : Answered). go_on edition d (trunk (octet 0xFF) ∷ hush_run)) hush_first ∙ ap (λ (d : Answered). more 1 (go_on edition d hush_run)) hush_second

  hush_passed : play_refusal (fresh_collector edition) report area hush_records ≡ 0
  unfolding play_refusal feed_refusal
  hush_passed = rw (eq-eqb (length report) report_size k, eq-eqb (length area) 65536 z, fresh_passes)

  hush_course : playing (fresh_collector edition) report area hush_records ≡ by_front (more 1 (more 1 (play edition to_header free area hush_run))) 0
  unfolding playing course_of order_of
  hush_course = rw hush_passed (ap (λ (d : Answered). by_front d 0) hush_play)

  abbrev hushed : Course
  hushed = playing (fresh_collector edition) report area hush_records

  hush_comes : (hushed.number ≡ 0) × (hushed.left.eaten ≡ 3) × (hushed.left.said ≡ some hush_report)
  hush_comes = rw (hush_course, hush_third) (refl, refl, refl)

pub replay_silence_worked : ReplaySilenceWorked
replay_silence_worked d report area r report' area' k z h =
    let q = hush_comes d report area k z in (
      h.refused ∙ q.0,
      h.eaten ∙ q.1,
      h.reported ∙ ap said_so q.2,
      h.report_after ∙ ap (λ (x : Option (List ℕ)). written x report) q.2,
    )
