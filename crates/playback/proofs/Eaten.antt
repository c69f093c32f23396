-- What a play eats, one order after the other, each by its own call of the collector.
use Prim.Native.Nat.{ℕ, suc, ◌+◌}
use native.Mathlib.Omega.{arith}
use mathlib.Core.Path.{◌≡◌, refl, sym, ap, subst, ◌∙◌}
use mathlib.Core.List.{List, [], ◌∷◌}
use mathlib.Core.Option.{Option, none, some}
use lib.ListN.{take}
use Rattle.runs.specs.Run.{Run, Order}
use Rattle.runs.specs.Run.Event.{octet, silence}
use Rattle.runs.specs.Run.Order.{trunk, forget}
use Rattle.runs.specs.Offered.{Made, answer}
use Rattle.runs.specs.Offered.Made.{feed, still, free}
use Rattle.apdu.specs.declared.Edition.{Edition}
use Rattle.rebuild.proofs.Seen.{view_one}
use Rattle.collector.specs.Calls.{box, slots_of, Answered}
use Rattle.collector.specs.Offering.{WithArea, calls}
use Rattle.collector.proofs.Alike.{Boxed, seen, SeenIn, calling}
use Rattle.playback.specs.Calls.{one, then_go, play, Ready}
use Rattle.playback.specs.Offering.{OneByOne}
use Rattle.playback.specs.Offering.OneByOne.{none_left, reports, and_then}
use Rattle.playback.proofs.Readiness.{ReadyAt, one_ready}
use Rattle.playback.proofs.Chains.{at_box, one_eaten}
use Rattle.playback.proofs.Demand.{ReadySeen}

abbrev play_at : Edition → Boxed → Run → Answered
play_at edition x run = play edition x.0 x.1 x.2 run

-- one order by its own call
module _ (s : WithArea) (R : ReadySeen s) where
  abbrev did : Order → Answered
  did y = one s.0.edition y s.0.receiver (slots_of s.0) s.1

  made_one : (y : Order) → (t : WithArea) × Made calls s (y ∷ []) 1 (did y).said t × SeenIn s.0.edition t (at_box (did y))
  unfolding one
  made_one (trunk (octet x)) =
      let d = (box s.0.edition).feed s.0.receiver (slots_of s.0) s.1 (x ∷ []) in
      let q : answer 1 d.said d.state d.slots d.area ≡ d = ap (λ (n : ℕ). answer n d.said d.state d.slots d.area) (sym (one_eaten s.0.edition R x)) in
      let w = (calling s.0.edition).feeds (seen s) (at_box d) s (x ∷ []) 1 d.said (refl, refl) q in
      (w.0, feed (x ∷ []) w.1, w.2)
  made_one (trunk silence) =
      let d = (box s.0.edition).still s.0.receiver (slots_of s.0) s.1 in
      let q : answer 0 d.said d.state d.slots d.area ≡ d = rw R.slots in
      let w = (calling s.0.edition).stills (seen s) (at_box d) s d.said (refl, refl) q in
      (w.0, still {t = w.0} w.1, w.2)
  made_one (forget i) =
      let y : Boxed = (s.0.receiver, (box s.0.edition).free i s.0.receiver (slots_of s.0), s.1) in
      let w = (calling s.0.edition).forgets (seen s) y s i (refl, refl) refl in
      (w.0, free i w.1, w.2)

abbrev Eats : WithArea → Run → Answered → Type 0
Eats s run d = (t : WithArea) × OneByOne s (take d.eaten run) d.said t × SeenIn s.0.edition t (at_box d)

eats_go : (x : Option (List ℕ)) (s t : WithArea) (y : Order) (run : Run) (d e : Answered) → Made calls s (y ∷ []) 1 x t → SeenIn s.0.edition t (at_box d) → Eats t run e → Eats s (y ∷ run) (then_go x d e)
eats_go none s t y run d e m q w =
    let z : suc e.eaten ≡ 1 + e.eaten = omega arith in
    (w.0, subst (λ (n : ℕ). OneByOne s (take n (y ∷ run)) e.said w.0) z (and_then y (take e.eaten run) m w.1), (w.2.0 ∙ q.0, w.2.1))
eats_go (some r) s t y run d e m q w = (t, reports y m, q)

pub play_eats : (run : Run) (s : WithArea) → ReadySeen s → Eats s run (play_at s.0.edition (seen s) run)
play_eats [] s R = (s, none_left, (refl, refl))
play_eats (y ∷ run) s R =
    let d = did s R y in
    let m = made_one s R y in
    let t = m.0 in
    let D : ReadyAt d = one_ready s.0.edition R y in
    let T : ReadySeen t = subst (λ (x : Boxed). Ready x.0 x.1 x.2) m.2.1 D in
    let there = subst (λ (x : Boxed). Eats t run (play_at t.0.edition x run)) (sym m.2.1) (play_eats run t T) in
    let ih = subst (λ (edition : Edition). Eats t run (play_at edition (at_box d) run)) m.2.0 there in
    eats_go d.said s t y run d (play_at s.0.edition (at_box d) run) m.1 m.2 ih

-- states of one edition that are seen alike are the same
pub seen_one : (s t : WithArea) → s.0.edition ≡ t.0.edition → seen s ≡ seen t → s ≡ t
seen_one s t d e =
    let r = ap (λ (x : Boxed). x.0) e in
    let v = view_one s.0.slots t.0.slots (ap (λ (x : Boxed). x.1) e) in
    let a = ap (λ (x : Boxed). x.2) e in
    λ i. (record { edition = d i; receiver = r i; slots = v i }, a i)
