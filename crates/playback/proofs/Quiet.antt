-- A play reports nothing exactly where the reading by position has no report.
use Prim.Native.Nat.{ℕ, ◌+◌, ◌-◌}
use native.Mathlib.Omega.{arith}
use mathlib.Core.Path.{◌≡◌, refl, sym, ap, ◌∙◌}
use mathlib.Core.List.{List, [], ◌∷◌, ◌++◌}
use mathlib.Core.Option.{Option, none, some}
use lib.ListN.{length, drop, drop_of_length-le}
use borrow.Author.Tests.{eq-eqb}
use Rattle.octets.specs.Choice.{impossible}
use Rattle.runs.specs.Run.{Run, ends}
use Rattle.runs.specs.Offered.{Offer, Made, places, spoken, box_calls}
use Rattle.runs.specs.Offered.Offer.{over}
use Rattle.apdu.specs.declared.Edition.{Edition}
use Rattle.trunk.specs.Reading.{held_of}
use Rattle.trunk.specs.Demand.{reading}
use Rattle.rebuild.specs.View.{keys}
use Rattle.recordings.specs.Frames.{rules}
use Rattle.collector.specs.Frame.{bacnet}
use Rattle.collector.specs.Calls.{box, slots_of, Answered}
use Rattle.collector.specs.Offering.{Passes, BoxEnd, End}
use Rattle.collector.specs.declared.Collector.{Collector}
use Rattle.collector.proofs.Alike.{Boxed, called_by}
use Rattle.collector.proofs.Demand.{demand3}
use Rattle.playback.specs.Calls.{one, play, Ready}
use Rattle.playback.proofs.Readiness.{one_ready}
use Rattle.playback.proofs.Playing.{play_all, play_ready}
use Rattle.playback.proofs.Chains.{at_box, one_goes, play_goes}

abbrev ReadyBox : Boxed → Type 0
ReadyBox x = Ready x.0 x.1 x.2

-- every run can be offered to a box that is ready
box_way : (edition : Edition) (run : Run) (p : ℕ) (x : Boxed) → ReadyBox x → (rs : List (ℕ × List ℕ)) × (y : Boxed) × Offer (Made (box_calls (box edition))) p x run rs y
box_way edition [] p x R = ([], x, over)
box_way edition (y ∷ run) p x R =
    let d = one edition y x.0 x.1 x.2 in
    let w = box_way edition run (p + places 1 (y ∷ [])) (at_box d) (one_ready edition R y) in
    (_, w.1, one_goes edition R y p run w.0 w.1 w.2)

run_end : (run : Run) → run ++ [] ≡ run
run_end [] = refl
run_end (y ∷ run) = ap (λ (x : Run). y ∷ x) (run_end run)

-- what a play said comes first, and some reports follow
module _ (edition : Edition) (run : Run) (p : ℕ) (x : Boxed) (R : ReadyBox x) where
  abbrev played : Answered
  played = play edition x.0 x.1 x.2 run

  spoke : (rs : List (ℕ × List ℕ)) × (y : Boxed) × Offer (Made (box_calls (box edition))) p x run (spoken (p + places played.eaten run - 1) played.said rs) y
  spoke =
      let n = played.eaten in
      let w = box_way edition (drop n run ++ []) (p + places n run) (at_box played) (play_ready edition run R) in
      let o = play_goes edition run R p [] w.0 w.1 w.2 in
      (w.0, w.1, rw (run_end run) at o)

  -- nothing said is nothing reported, from the start to the end
  silent : played.said ≡ none → (y : Boxed) × Offer (Made (box_calls (box edition))) p x run [] y
  silent q =
      let n = played.eaten in
      let all : length run ≡ n = sym (play_all edition run x.0 x.1 x.2 q) in
      let none_left : drop n run ≡ [] = drop_of_length-le run {i = n} (omega arith) in
      let end : Offer (Made (box_calls (box edition))) (p + places n run) (at_box played) (drop n run ++ []) [] (at_box played) = rw none_left over in
      let o = play_goes edition run R p [] [] (at_box played) end in
      (at_box played, rw (q, run_end run) at o)

module _ (c : Collector) (area : List ℕ) (P : Passes c) (z : length area ≡ 65536) (run : Run) where
  abbrev start : Boxed
  start = (c.receiver, slots_of c, area)

  ready : ReadyBox start
  ready = record { receiver = P.receiver.left; slots = P.slots; fits = eq-eqb (length area) 65536 z }

  abbrev reads : BoxEnd
  reads = reading (rules keys (bacnet c.edition)) c.receiver (slots_of c) area run

  by_place : {rs : List (ℕ × List ℕ)} (y : Boxed) → Offer (Made (box_calls (box c.edition))) (length (held_of c.receiver)) start run rs y → rs ≡ reads.reports
  by_place {rs} y o = ap (λ (e : End). e.reports) (demand3 c area P z (called_by {x = ends rs y.0 y.1 y.2} o))

  pub quiet_reads : (play c.edition c.receiver (slots_of c) area run).said ≡ none → reads.reports ≡ []
  quiet_reads q = let w = silent c.edition run (length (held_of c.receiver)) start ready q in sym (by_place w.0 w.1)

  pub reads_quiet : reads.reports ≡ [] → (play c.edition c.receiver (slots_of c) area run).said ≡ none
  reads_quiet q =
      let p = length (held_of c.receiver) in
      let w = spoke c.edition run p start ready in
      let d = play c.edition c.receiver (slots_of c) area run in
      by (p + places d.eaten run - 1) w.0 d.said (by_place w.1 w.2 ∙ q)
    where
      by : (m : ℕ) (rs : List (ℕ × List ℕ)) (said : Option (List ℕ)) → spoken m said rs ≡ [] → said ≡ none
      by m rs none e = refl
      by m rs (some r) e = impossible (cc)
