-- The ways in which a piece over a lent store comes to what it promises, from what the calls below it promise: b is the slots' soundness, f the link's answer.
use Rattle.std.specs.Prelude.{Result, Ok, Err}
use Prim.Native.Nat.{ℕ, ◌≤◌}
use mathlib.Core.Path.{ap, ◌≡◌, refl, sym, ◌∙◌}
use mathlib.Core.Bool.{Bool, true, false, not}
use mathlib.Core.List.{List}
use lib.ListN.{length, take}
use lib.Seq.{length-take-le}
use borrow.Author.Tests.{not-true, not-false}
use Rattle.apdu.specs.declared.Edition.{Edition}
use Rattle.frames.specs.declared.Outcome.TheVariants.{Quiet, Frame, Damage}
use Rattle.frames.specs.declared.Link.{Link}
use Rattle.frames.specs.declared.Ran.{Ran}
use Rattle.frames.specs.Answers as Links
use Rattle.frames.specs.Step as Frames
use Rattle.frames.specs.Step.{length_of, feed_of}
use Rattle.trunk.specs.Demand.{ruled}
use Rattle.octets.specs.Refusal.{number_of, number_some}
use Rattle.octets.specs.declared.refusal.Refusal.{Refusal}
use Rattle.rebuild.specs.View.{keys, view}
use Rattle.rebuild.specs.declared.Slots.{Slots}
use Rattle.recordings.specs.Frames.{rules}
use Rattle.reports.specs.Layout.{report_size}
use Rattle.collector.specs.Heard.{heard_of}
use Rattle.collector.specs.Frame.{content_of, bacnet, damage_octets}
use Rattle.collector.specs.Acting.{acting, carrying, Acted, ActedAlone}
use Rattle.collector.specs.Calls.{passing, Tells, Feeds}
use Rattle.collector.specs.Lent.{over, Eats}
use Rattle.collector.specs.Answers.{Fed, Ate, unfed_by, ate_of}
use Rattle.collector.specs.declared.Collector.{Collector}
use Rattle.collector.specs.declared.lent.Ate as Call
use Rattle.collector.proofs.Actions.{moved_slots}
use Rattle.collector.proofs.Answers.{feeds_kept, feeds_line, feeds_area, feeds_slots, feeds_on, tells_quiet, tells_damage, tells_frame, data_fits, in_store, payload_fits, eats_not}

module _ (edition : Edition) (l : Link) (t : Slots) (store report area piece : List ℕ) where
  pub eats_line : {r : Ate} → (length report ≡ report_size → ⊥) → r ≡ unfed_by 60 l t → Eats edition l t store report area piece r store report area
  eats_line h u = eats_not u (feeds_line (over edition l t store) report area piece h)

  pub eats_area : {r : Ate} → length report ≡ report_size → (length area ≡ 65536 → ⊥) → r ≡ unfed_by 60 l t → Eats edition l t store report area piece r store report area
  eats_area k h u = eats_not u (feeds_area (over edition l t store) report area piece k h)

  module _ (k : length report ≡ report_size) (z : length area ≡ 65536) {b : Bool} (e : b ≡ passing (view t)) where
    pub eats_slots : {r : Ate} → not b ≡ true → r ≡ unfed_by 59 l t → Eats edition l t store report area piece r store report area
    eats_slots n u = eats_not u (feeds_slots (over edition l t store) report area piece k z (sym e ∙ not-true b n))

    module _ (n : not b ≡ false) (store' : List ℕ) (x : Result Ran Refusal) (g : Links.fed_over l x store' ≡ feed_of (Frames.over l store) piece) where
      feeds : {r : Fed} {report' area' : List ℕ} {f : Links.Fed} → Links.fed_over l x store' ≡ f → Tells edition f.refused (ruled (rules keys (bacnet edition)) (view t) area f) report r report' area'
          → Feeds (over edition l t store) report area piece r report' area'
      feeds q h = feeds_on (over edition l t store) report area piece k z (sym e ∙ not-false b n) (sym q ∙ g) h

      -- the link is one that 59 refuses
      pub eats_left : {y : Refusal} → x ≡ Err y → Eats edition l t store report area piece (unfed_by (number_of y) l t) store' report area
      eats_left {y} q =
          let w : Links.fed_over l x store' ≡ Links.unfed y (Frames.over l store') = ap (λ (x : Result Ran Refusal). Links.fed_over l x store') q in
          record { feeds = feeds w (tells_quiet edition (Links.unfed y (Frames.over l store')) t report area refl); kept = λ x. refl }

      module _ {f : Ran} (q : x ≡ Ok f) where
        abbrev fed : Links.Fed
        fed = Links.fed_over l (Ok f) store'

        is : Links.fed_over l x store' ≡ fed
        is = ap (λ (x : Result Ran Refusal). Links.fed_over l x store') q

        pub eats_quiet : f.outcome ≡ Quiet
            → Eats edition l t store report area piece (record { refused = 0; eaten = f.eaten; reported = false; moved = false; link = f.link; slots = t }) store' report area
        eats_quiet o = record { feeds = feeds is (tells_quiet edition fed t report area o); kept = λ x. refl }

        pub eats_damage : {d : ℕ} {report' : List ℕ} → f.outcome ≡ Damage d → report' ≡ damage_octets d
            → Eats edition l t store report area piece (record { refused = 0; eaten = f.eaten; reported = true; moved = false; link = f.link; slots = t }) store' report' area
        eats_damage {d} o h = record { feeds = feeds is (tells_damage edition fed t report area d o h); kept = λ x. refl }

        -- a good frame: of type 5 or 6 the slots may be others, of another type they are those that were there
        pub eats_carried : {m : ℕ} (u : Slots) {report' area' : List ℕ} → f.outcome ≡ Frame → m ≡ length_of f.link.head
            → (let w = heard_of edition f.link.head in Acted (acting w (content_of w (take m store')) (view t) area) u report' area')
            → Eats edition l t store report area piece (record { refused = 0; eaten = f.eaten; reported = true; moved = true; link = f.link; slots = u }) store' report' area'
        eats_carried u o q h = record { feeds = feeds is (tells_frame edition fed t report area o (rw q at h)); kept = moved_slots }

        pub eats_other : {m : ℕ} {report' : List ℕ} → f.outcome ≡ Frame → m ≡ length_of f.link.head
            → ActedAlone f.link.head (take m store') report'
            → Eats edition l t store report area piece (record { refused = 0; eaten = f.eaten; reported = true; moved = false; link = f.link; slots = t }) store' report' area
        eats_other o q h = record { feeds = feeds is (tells_frame edition fed t report area o (rw q at (h edition t area))); kept = λ x. refl }

-- slots that were judged sound
pub fair_slots : (t : Slots) {b : Bool} → b ≡ passing (view t) → not b ≡ false → passing (view t) ≡ true
fair_slots t {b} e n = sym e ∙ not-false b n

-- what the code was told of a frame's type
pub carried : (kind : ℕ) {b c : Bool} → b ≡ carrying kind → b ≡ c → carrying kind ≡ c
carried w e h = sym e ∙ h

-- a good frame's data lie in the store, and are at most 501 octets
module _ (l : Link) (store piece : List ℕ) (store' : List ℕ) (x : Result Ran Refusal) (g : Links.fed_over l x store' ≡ feed_of (Frames.over l store) piece) {f : Ran} (p : x ≡ Ok f) {m : ℕ}
    (o : f.outcome ≡ Frame) (q : m ≡ length_of f.link.head) where
  fits : Links.fed_over l (Ok f) store' ≡ feed_of (Frames.over l store) piece
  fits = rw p at g

  pub data_inside : length store ≡ 501 → m ≤ length store'
  data_inside s = in_store (Frames.over l store) piece {f = Links.fed_over l (Ok f) store'} s fits o q

  pub data_taken : length store ≡ 501 → m ≡ length (take m store')
  data_taken s = sym (length-take-le m store' (data_inside s))

  pub data_short : length (take m store') ≤ 501
  data_short = payload_fits m store' (data_fits (Frames.over l store) piece {f = Links.fed_over l (Ok f) store'} fits o q)

-- ---- the call by value, x being the lent call's answer
module _ (c : Collector) (report area piece : List ℕ) (x : Result Call.Ate Refusal) {store' report' area' : List ℕ}
    (h : Eats c.edition c.receiver.link c.slots c.receiver.store report area piece (ate_of c.receiver.link c.slots x) store' report' area') where
  pub feeds_fed : {f : Call.Ate} → x ≡ Ok f
      → Feeds c report area piece (record { refused = 0; eaten = f.eaten; reported = f.reported; state = over c.edition f.link f.slots store' }) report' area'
  feeds_fed q = let w = rw q at h in w.feeds

  -- a refused piece leaves the state that the caller has
  pub feeds_unfed : {y : Refusal} → x ≡ Err y → Feeds c report area piece (record { refused = number_of y; eaten = 0; reported = false; state = c }) report' area'
  feeds_unfed {y} q =
      let w = rw q at h in
      let F = w.feeds in
      record {
        refused = F.refused;
        eaten = F.eaten;
        reported = F.reported;
        edition = refl;
        receiver = feeds_kept c report area piece (number_of y) (number_some y) (sym F.refused);
        slots = F.slots;
        report_after = F.report_after;
        area_after = F.area_after;
      }
