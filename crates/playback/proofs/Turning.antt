-- The ways in which one turn of the replay comes to what it promises, from what the calls below it promise.
use Rattle.std.specs.Prelude.{Result, Ok, Err}
use Rattle.std.specs.Result.{result_unwrap_or}
use Prim.Native.Nat.{ℕ, ◌*◌, ◌<◌}
use native.Mathlib.Omega.{arith}
use mathlib.Core.Path.{◌≡◌, refl, sym, ap, subst, ◌∙◌}
use mathlib.Core.Bool.{true, false}
use mathlib.Core.List.{List, [], ◌∷◌}
use mathlib.Core.Option.{Option, none, some}
use lib.ListN.{length, take, drop}
use lib.Seq.{length-take-le}
use borrow.Author.Tests.{eq-eqb}
use Rattle.octets.specs.Choice.{impossible}
use Rattle.octets.specs.Reading.{oct}
use Rattle.octets.specs.Refusal.{number_of, number_some}
use Rattle.octets.specs.declared.refusal.Refusal.{Refusal}
use Rattle.octets.specs.declared.refusal.Refusal.TheVariants.{BadRecord}
use Rattle.runs.specs.Run.{Order, octs}
use Rattle.runs.specs.Run.Event.{octet, silence}
use Rattle.runs.specs.Run.Order.{trunk, forget}
use Rattle.runs.specs.Offered.{answer}
use Rattle.apdu.specs.declared.Edition.{Edition}
use Rattle.frames.specs.declared.Link.{Link}
use Rattle.frames.specs.Step as Frames
use Rattle.frames.specs.Step.{sound_of}
use Rattle.rebuild.specs.View.{view}
use Rattle.rebuild.specs.Calls as Rebuild
use Rattle.rebuild.specs.declared.Slots.{Slots}
use Rattle.reports.specs.Layout.{report_size}
use Rattle.collector.specs.Acting.{Kept}
use Rattle.collector.specs.Calls.{passing, sized, said_so, written, Answered, feed_refusal, feeding, silence_refusal, stilling, slots_of}
use Rattle.collector.specs.Lent.{over, Eats, HushesBeside}
use Rattle.collector.specs.Answers.{Ate, unfed_by, hushed_of}
use Rattle.collector.specs.declared.Collector.{Collector}
use Rattle.collector.specs.declared.lent.Hushed as Still
use Rattle.collector.proofs.Alike.{feeding_box, stilling_box}
use Rattle.playback.specs.Layout.{record_size}
use Rattle.playback.specs.Reading.{order_of}
use Rattle.playback.specs.Calls.{one, play, Course, course_of, Comes}
use Rattle.playback.specs.Lent.{order_by, Gathered, LendsRecord, LendsOctet, turn_over, more_of, GoesOn, Turned}
use Rattle.playback.specs.declared.orders.Order as Records
use Rattle.playback.specs.declared.orders.Order.TheVariants.{Octet, Silence, Forget}
use Rattle.playback.proofs.Records.{order_is}
use Rattle.playback.proofs.Readiness.{ReadyAt, one_ready, feed_ready}
use Rattle.playback.proofs.Playing.{play_most, play_all, play_some, further_of, course_on, course_first, course_bad}
use Rattle.playback.proofs.Fed.{feed_as_play}

-- ---- a record that the code took apart
silent : (y : Option Order) → order_by y ≡ Ok Silence → y ≡ some (trunk silence)
silent none e = impossible (cc)
silent (some (trunk (octet x))) e = impossible (cc)
silent (some (trunk silence)) e = refl
silent (some (forget i)) e = impossible (cc)

forgets : (y : Option Order) (i : ℕ) → order_by y ≡ Ok (Forget i) → y ≡ some (forget i)
forgets none i e = impossible (cc)
forgets (some (trunk (octet x))) i e = impossible (cc)
forgets (some (trunk silence)) i e = impossible (cc)
forgets (some (forget j)) i e = let z : j ≡ i = cc in rw z

sounds : (y : Option Order) (x : ℕ) → order_by y ≡ Ok (Octet x) → y ≡ some (trunk (octet x))
sounds none x e = impossible (cc)
sounds (some (trunk (octet z))) x e = let q : z ≡ x = cc in rw q
sounds (some (trunk silence)) x e = impossible (cc)
sounds (some (forget j)) x e = impossible (cc)

breaks : (y : Option Order) {n : Refusal} → order_by y ≡ Err n → (y ≡ none) × (number_of n ≡ 67)
breaks none {n} e = let z : BadRecord ≡ n = cc in (refl, ap number_of (sym z))
breaks (some (trunk (octet x))) e = impossible (cc)
breaks (some (trunk silence)) e = impossible (cc)
breaks (some (forget i)) e = impossible (cc)

abbrev first_of : List ℕ → Option Order
first_of o = order_of (oct o 0) (oct o 1) (oct o 2) (oct o 3)

-- the slots behind a forget order, whether it is refused or not
pub freed_slots : (t : Slots) (x : Result Slots Refusal) → result_unwrap_or x t ≡ (Rebuild.forgot_of t x).slots
freed_slots t (Ok u) = refl
freed_slots t (Err n) = refl

-- ---- what 60 and 59 pass is not refused
module _ (c : Collector) (report : List ℕ) (k : length report ≡ report_size) (l : sound_of c.receiver ≡ true) (p : passing (slots_of c) ≡ true) where
  unrefused : silence_refusal c report ≡ 0
  unfolding silence_refusal
  unrefused = rw (eq-eqb (length report) report_size k, l, p)

  fed_unrefused : (area : List ℕ) → sized area ≡ true → feed_refusal c report area ≡ 0
  unfolding feed_refusal
  fed_unrefused area z = rw (eq-eqb (length report) report_size k, z, l, p)

-- ---- a turn that leaves what an answer says
pub record Leaves (d : Answered) (report : List ℕ) (r : Ate) (store' report' area' : List ℕ) : Type 0 where
  pub number : r.refused ≡ 0
  pub eaten : r.eaten ≡ d.eaten
  pub reported : r.reported ≡ said_so d.said
  pub receiver : Frames.over r.link store' ≡ d.state
  pub slots : view r.slots ≡ d.slots
  pub report_after : report' ≡ written d.said report
  pub area_after : area' ≡ d.area

module _ (edition : Edition) (d : Answered) (report o : List ℕ) (r : Ate) (store' report' area' : List ℕ) (L : Leaves d report r store' report' area') (w rest : Course) where
  ends_by : (x : Option (List ℕ)) → d.said ≡ x → w ≡ further_of x d rest → r.reported ≡ true → Comes edition w report (turn_over edition r store') report' area'
  ends_by none q e t = impossible (let z : false ≡ true = ap said_so (sym q) ∙ sym L.reported ∙ t in cc)
  ends_by (some p) q e t =
      rw e (record { refused = L.number; eaten = L.eaten; reported = L.reported; edition = refl; receiver = L.receiver; slots = L.slots; report_after = L.report_after; area_after = L.area_after })

  goes_by : (x : Option (List ℕ)) → d.said ≡ x → w ≡ further_of x d rest → ReadyAt d
      → (d.said ≡ none → (0 < d.eaten) × (rest ≡ course_of edition d.state d.slots d.area (drop (record_size * d.eaten) o)))
      → r.reported ≡ false → GoesOn edition w report o r store' report' area'
  goes_by none q e R h t =
      record {
        some = rw L.eaten (h q).0;
        ready = rw (L.receiver, L.slots, L.area_after) R;
        quiet = L.report_after ∙ ap (λ (x : Option (List ℕ)). written x report) q;
        rest = rw (L.eaten, L.receiver, L.slots, L.area_after) (e ∙ ap (more_of d.eaten) (h q).1);
      }
  goes_by (some p) q e R h t = impossible (let z : true ≡ false = ap said_so (sym q) ∙ sym L.reported ∙ t in cc)

-- ---- the turns
-- an octet: what eating asks
pub turn_octet : (l : Link) (t : Slots) (store report area o : List ℕ) → LendsRecord l t store report area o → {y : Result Records.Order Refusal} → y ≡ order_by (first_of o) → {x : ℕ} → y ≡ Ok (Octet x)
    → LendsOctet l t store report area o
turn_octet l t store report area o A b {x} e =
    let q = order_is (oct o 0) (oct o 1) (oct o 2) (oct o 3) (trunk (octet x)) (sounds (first_of o) x (sym b ∙ e)) in
    record { lends = A.lends; first = record { whole = A.some; kind = (cc); third = (cc); fourth = (cc) } }

module _ (edition : Edition) (l : Link) (t : Slots) (store report area o : List ℕ) where
  -- an order that is eaten by itself
  alone : LendsRecord l t store report area o → (y : Order) → first_of o ≡ some y → {r : Ate} {store' report' area' : List ℕ}
      → (let d = one edition y (Frames.over l store) (view t) area in
      Leaves (answer 1 d.said d.state d.slots d.area) report r store' report' area')
      → length store' ≡ length store → length area' ≡ length area → Kept r.moved t r.slots → Turned edition l t store report area o r store' report' area'
  alone A y q {r} {store'} {report'} {area'} L s z k =
      let d = one edition y (Frames.over l store) (view t) area in
      let e = answer 1 d.said d.state d.slots d.area in
      let w = course_of edition (Frames.over l store) (view t) area o in
      let rest = course_of edition d.state d.slots d.area (drop record_size o) in
      let c : w ≡ further_of d.said e rest = course_first edition o (Frames.over l store) (view t) area y A.some q in
      let N = L.number in
      record {
        bad = λ n. absurd (omega arith);
        ends = ends_by edition e report o r store' report' area' L w rest d.said refl c;
        goes = λ _. goes_by edition e report o r store' report' area' L w rest d.said refl c (one_ready edition A.lends.ready y) (λ x. (omega arith, refl));
        within = rw L.eaten A.some;
        stored = s;
        sized = z;
        kept = k;
      }

  -- a silence, which is not refused
  pub turn_never : LendsRecord l t store report area o → (n : Refusal) {report' : List ℕ} → HushesBeside l report (hushed_of l (Err n)) report' → ⊥
  turn_never A n H =
      let F = H t A.lends.ready.slots edition store in
      let m = number_some n in
      let z : number_of n ≡ 0 = F.refused ∙ unrefused (over edition l t store) report A.lends.line A.lends.ready.receiver A.lends.ready.slots in
      omega arith

  module _ (A : LendsRecord l t store report area o) {y : Result Records.Order Refusal} (b : y ≡ order_by (first_of o)) where
    -- a bad record: 67
    pub turn_bad : {n : Refusal} → y ≡ Err n → Turned edition l t store report area o (unfed_by (number_of n) l t) store report area
    turn_bad {n} e =
        let w = breaks (first_of o) (sym b ∙ e) in
        let c = course_bad edition o (Frames.over l store) (view t) area A.some w.0 in
        let m = number_some n in
        record {
          bad = λ x. rw c (record { refused = w.1; eaten = refl; reported = refl; edition = refl; receiver = refl; slots = refl; report_after = refl; area_after = refl });
          ends = λ x. impossible (cc);
          goes = λ z. absurd (omega arith);
          within = omega arith;
          stored = refl;
          sized = refl;
          kept = λ x. refl;
        }

    -- a silence
    still_is : one edition (trunk silence) (Frames.over l store) (view t) area ≡ (let s = stilling (over edition l t store) report [] in answer 0 s.said s.state s.slots area)
    unfolding one
    still_is = sym (stilling_box (over edition l t store) report area A.lends.line)

    pub turn_silence : y ≡ Ok Silence → {h : Still.Hushed} {report' : List ℕ} → HushesBeside l report (hushed_of l (Ok h)) report'
        → Turned edition l t store report area o (record { refused = 0; eaten = 1; reported = h.reported; moved = false; link = h.link; slots = t }) store report' area
    turn_silence e H =
        let F = H t A.lends.ready.slots edition store in
        alone A (trunk silence) (silent (first_of o) (sym b ∙ e))
        (rw still_is (record {
          number = refl;
          eaten = refl;
          reported = F.reported;
          receiver = F.receiver;
          slots = F.slots;
          report_after = F.report_after;
          area_after = refl;
        }))
        refl refl (λ x. refl)

    -- a forget order, whether it answers 0 or 56
    free_is : (i : ℕ) (f : Rebuild.Forgot) → Rebuild.Forgets t i f → one edition (forget i) (Frames.over l store) (view t) area ≡ answer 1 none (Frames.over l store) (view f.slots) area
    unfolding one
    free_is i f F = rw (A.lends.ready.slots, A.lends.ready.receiver, F.slots)

    pub turn_forget : {i : ℕ} → y ≡ Ok (Forget i) → (x : Result Slots Refusal) → Rebuild.Forgets t i (Rebuild.forgot_of t x) → {u : Slots} → u ≡ (Rebuild.forgot_of t x).slots
        → Turned edition l t store report area o (record { refused = 0; eaten = 1; reported = false; moved = true; link = l; slots = u }) store report area
    turn_forget {i} e x F q =
        let f = Rebuild.forgot_of t x in
        rw q (alone A (forget i) (forgets (first_of o) i (sym b ∙ e))
        (rw (free_is i f F) (record { number = refl; eaten = refl; reported = refl; receiver = refl; slots = refl; report_after = refl; area_after = refl }))
        refl refl (λ x. impossible (cc)))

  -- octets fed together
  octs_length : (xs : List ℕ) → length (octs xs) ≡ length xs
  octs_length [] = refl
  octs_length (x ∷ xs) = let z = octs_length xs in omega arith

  pub turn_eat : LendsOctet l t store report area o → (piece : List ℕ) (k : ℕ) → Gathered o piece k → (f : Ate) {store' report' area' : List ℕ}
      → Eats edition l t store report area (take k piece) f store' report' area' → length store' ≡ length store → length area' ≡ length area
      → Turned edition l t store report area o f store' report' area'
  turn_eat A piece k G f {store'} {report'} {area'} E s z =
      let r = Frames.over l store in
      let xs = take k piece in
      let p = play edition r (view t) area (octs xs) in
      let R = A.lends.ready in
      let same : feeding (over edition l t store) report area xs ≡ p = feeding_box (over edition l t store) report area xs A.lends.line ∙ feed_as_play edition xs R in
      let n : length (octs xs) ≡ k = octs_length xs ∙ length-take-le k piece G.few in
      let F = E.feeds in
      let N : f.refused ≡ 0 = F.refused ∙ fed_unrefused (over edition l t store) report A.lends.line R.receiver R.slots area R.fits in
      let L : Leaves p report f store' report' area' =
      rw (← same) (record {
        number = N;
        eaten = F.eaten;
        reported = F.reported;
        receiver = F.receiver;
        slots = F.slots;
        report_after = F.report_after;
        area_after = F.area_after;
      }) in
      let w = course_of edition r (view t) area o in
      let rest = course_of edition p.state p.slots p.area (drop (record_size * k) o) in
      let c : w ≡ further_of p.said p rest =
      ap (course_of edition r (view t) area) G.front ∙ course_on edition (octs xs) (drop (record_size * k) o) r (view t) area in
      let most = play_most edition (octs xs) r (view t) area in
      record {
        bad = λ n. absurd (omega arith);
        ends = ends_by edition p report o f store' report' area' L w rest p.said refl c;
        goes = λ _. goes_by edition p report o f store' report' area' L w rest p.said refl c (subst ReadyAt (feed_as_play edition xs R) (feed_ready edition R xs))
            (λ q. (
              play_some edition (octs xs) r (view t) area (rw n G.some),
              (
                  let z : k ≡ p.eaten = sym (play_all edition (octs xs) r (view t) area q ∙ n) in
                  ap (λ (m : ℕ). course_of edition p.state p.slots p.area (drop (record_size * m) o)) z),
            ));
        within = (let a = L.eaten in let b = G.within in omega arith);
        stored = s;
        sized = z;
        kept = E.kept;
      }
