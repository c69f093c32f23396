-- Orders one after the other, each by its own call, are a way of offering them; so is a whole play of a run.
use Prim.Native.Nat.{ℕ, suc, ◌+◌, ◌-◌}
use native.Mathlib.Omega.{arith}
use mathlib.Core.Path.{◌≡◌, refl, sym, ap, subst, ◌∙◌}
use mathlib.Core.List.{List, [], ◌∷◌, ◌++◌}
use mathlib.Core.Option.{Option, none, some}
use lib.ListN.{drop}
use Rattle.runs.specs.Run.{Run, Order, octs}
use Rattle.runs.specs.Run.Event.{octet, silence}
use Rattle.runs.specs.Run.Order.{trunk, forget}
use Rattle.runs.specs.Offered.{Call, Offer, Made, places, spoken, answer, box_calls}
use Rattle.runs.specs.Offered.Offer.{call}
use Rattle.runs.specs.Offered.Made.{feed, still, free}
use Rattle.runs.proofs.Carrying.{Goes}
use Rattle.apdu.specs.declared.Edition.{Edition}
use Rattle.frames.specs.declared.Receiver.{Receiver}
use Rattle.messages.specs.Slots as Messages
use Rattle.rebuild.specs.declared.Key.{Key}
use Rattle.collector.specs.Calls.{box, Answered}
use Rattle.collector.proofs.Alike.{Boxed}
use Rattle.playback.specs.Calls.{one, then_go, play, Ready}
use Rattle.playback.proofs.Readiness.{one_ready}
use Rattle.playback.proofs.Playing.{play_most, play_some}
use Rattle.playback.proofs.Fed.{feed_as_play}

-- ---- any calls
module _ {St R : Type 0} (D : Call St R) where
  -- nothing eaten and nothing said
  pub goes_none : (u : St) (lent : Run) → Goes D u lent 0 none u
  goes_none u lent p run rs last o = let z : p + 0 ≡ p = omega arith in rw z at o

  first_places : (y : Order) (b : Run) (n : ℕ) → places (suc n) (y ∷ b) ≡ places 1 (y ∷ []) + places n b
  first_places (trunk e) b n = omega arith
  first_places (forget i) b n = omega arith

  one_place_lem : (y : Order) (b : Run) → places 1 (y ∷ b) ≡ places 1 (y ∷ [])
  one_place_lem (trunk e) b = refl
  one_place_lem (forget i) b = refl

  -- an order by itself, more being lent behind it
  pub goes_front : {u v : St} (y : Order) (b : Run) (said : Option R) → Goes D u (y ∷ []) 1 said v → Goes D u (y ∷ b) 1 said v
  goes_front {u} {v} y b said g p run rs last o =
      let q = one_place_lem y b in
      rw q (g p (b ++ run) rs last (rw q at o))

  -- an order by itself, and then others
  pub goes_then : {u v w : St} (y : Order) (b : Run) (n : ℕ) (said : Option R) → Goes D u (y ∷ []) 1 none v → Goes D v b n said w → Goes D u (y ∷ b) (suc n) said w
  goes_then {u} {v} {w} y b n said g h p run rs last o =
      let q = first_places y b n in
      let k : p + (places 1 (y ∷ []) + places n b) ≡ p + places 1 (y ∷ []) + places n b = omega arith in
      let o' : Offer D (p + places 1 (y ∷ []) + places n b) w (drop n b ++ run) rs last = subst (λ (z : ℕ). Offer D z w (drop n b ++ run) rs last) (ap (λ (z : ℕ). p + z) q ∙ k) o in
      let there = h (p + places 1 (y ∷ [])) run rs last o' in
      let here = g p (b ++ run) (spoken (p + places 1 (y ∷ []) + places n b - 1) said rs) last there in
      subst (λ (z : ℕ). Offer D p u (y ∷ (b ++ run)) (spoken (z - 1) said rs) last) (sym (ap (λ (z : ℕ). p + z) q ∙ k)) here

-- ---- the box
abbrev pub at_box : Answered → Boxed
at_box d = (d.state, d.slots, d.area)

abbrev pub GoesBox : Edition → Boxed → Run → ℕ → Option (List ℕ) → Boxed → Type 0
GoesBox edition = Goes (Made (box_calls (box edition)))

module _ (edition : Edition) {r : Receiver} {s : List (Messages.Slot Key)} {a : List ℕ} (R : Ready r s a) where
  -- an octet that is fed is eaten
  pub one_eaten : (x : ℕ) → ((box edition).feed r s a (x ∷ [])).eaten ≡ 1
  one_eaten x =
      let low = play_some edition (octs (x ∷ [])) r s a (omega arith) in
      let high = play_most edition (octs (x ∷ [])) r s a in
      rw (feed_as_play edition (x ∷ []) R) (omega arith)

  pub one_goes : (y : Order) → GoesBox edition (r, s, a) (y ∷ []) 1 (one edition y r s a).said (at_box (one edition y r s a))
  unfolding one
  one_goes (trunk (octet x)) p run rs last o =
      let d = (box edition).feed r s a (x ∷ []) in
      call (octs (x ∷ [])) run (feed (x ∷ []) (ap (λ (n : ℕ). answer n d.said d.state d.slots d.area) (sym (one_eaten x)))) o
  one_goes (trunk silence) p run rs last o =
      let d = (box edition).still r s a in
      let q : answer 0 d.said d.state d.slots d.area ≡ d = rw R.slots in
      call (trunk silence ∷ []) run (still {t = at_box d} q) o
  one_goes (forget i) p run rs last o = call (forget i ∷ []) run (free i refl) o

go_goes : (edition : Edition) (x : Option (List ℕ)) (y : Order) (run : Run) (u : Boxed) (d e : Answered) → GoesBox edition u (y ∷ []) 1 x (at_box d) → GoesBox edition (at_box d) run e.eaten e.said (at_box e)
    → (let f = then_go x d e in GoesBox edition u (y ∷ run) f.eaten f.said (at_box f))
go_goes edition none y run u d e g h =
    let z : suc e.eaten ≡ 1 + e.eaten = omega arith in
    subst (λ (n : ℕ). GoesBox edition u (y ∷ run) n e.said (at_box e)) z (goes_then (Made (box_calls (box edition))) y run e.eaten e.said g h)
go_goes edition (some p) y run u d e g h = goes_front (Made (box_calls (box edition))) y run (some p) g

pub play_goes : (edition : Edition) (run : Run) {r : Receiver} {s : List (Messages.Slot Key)} {a : List ℕ} → Ready r s a
    → (let d = play edition r s a run in GoesBox edition (r, s, a) run d.eaten d.said (at_box d))
play_goes edition [] {r} {s} {a} R = goes_none (Made (box_calls (box edition))) (r, s, a) []
play_goes edition (y ∷ run) {r} {s} {a} R =
    let d = one edition y r s a in
    go_goes edition d.said y run (r, s, a) d (play edition d.state d.slots d.area run) (one_goes edition R y) (play_goes edition run (one_ready edition R y))
