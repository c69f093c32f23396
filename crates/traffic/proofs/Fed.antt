-- What is cut and framed, on a fresh collector: the reports with their places, the slots and the message area.
use Prim.Native.Nat.{ℕ, zero, suc, ◌+◌, ◌-◌, ◌*◌, ◌≤◌, ◌<◌}
use native.Mathlib.Omega.{arith}
use mathlib.Core.Path.{◌≡◌, refl, ap, ◌∙◌}
use mathlib.Core.Logic.{◌⊎◌}
use mathlib.Core.Bool.{Bool, true, false}
use mathlib.Core.List.{List, [], ◌∷◌}
use mathlib.Core.Option.{Option, some}
use lib.Dec.{ltb}
use lib.ListN.{length, take}
use borrow.Author.Tests.{lt-ltb, le-ltb}
use Rattle.octets.specs.Splice.{splice}
use Rattle.runs.specs.Run.{ends, report}
use Rattle.npdu.specs.Fault as Network
use Rattle.apdu.specs.Fault as Header
use Rattle.apdu.specs.declared.Edition.{Edition}
use Rattle.items.specs.Reading.{items_of}
use Rattle.frames.specs.Layout.{head_of, frame_octets}
use Rattle.frames.specs.declared.Receiver.{Receiver}
use Rattle.trunk.specs.Reading.{Out}
use Rattle.trunk.specs.Reading.Out.{good}
use Rattle.messages.specs.Slots.{Slot, Segment, room, part, boxed}
use Rattle.messages.specs.Rows.{Done, rebuild}
use Rattle.messages.specs.Rows.Answer.{taken, completed}
use Rattle.rebuild.specs.View.{keys, view, fresh}
use Rattle.rebuild.specs.declared.Key.{Key}
use Rattle.recordings.specs.Frames.{act_on, rules}
use Rattle.reports.specs.Layout.{report_octets}
use Rattle.reports.specs.Kinds.{segment_taken, complete}
use Rattle.reports.specs.declared.Frame.{Frame}
use Rattle.collector.specs.Frame.{by_tags, segment_at, answered_at, bacnet}
use Rattle.cutter.specs.Layout.{network_head, pdu_of, part_of, npdu_at}
use Rattle.cutter.specs.declared.Message.{Message}
use Rattle.cutter.specs.declared.Way.{Way}
use Rattle.cutter.proofs.Fine.{every_header}
use Rattle.traffic.specs.Framed.{act_all, typed, npdus_from}
use Rattle.traffic.specs.Heard.{choice_of, apdu_of, key_of, segment_of, waiting}
use Rattle.traffic.proofs.Content.{segment_heard, held_report, complete_report}
use Rattle.traffic.proofs.Joining.{takes, completes, part_is}

-- a good frame that carries a segment acts by what rebuilding does with it
acts_by : (e : Edition) (o : Out) (g : Segment Key) (s : List (Slot Key)) (a : List ℕ) (d : Done Key) → segment_at e o ≡ some g → rebuild keys g (boxed s a) ≡ d
    → (rules keys (bacnet e)).act o s a ≡ (answered_at e o d.answer d.box.area, d.box.slots, d.box.area)
acts_by e o g s a d h q =
    ap (λ (x : Option (Segment Key)). act_on keys (bacnet e) x o s a) h
    ∙ ap (λ (x : Done Key). (answered_at e o x.answer x.box.area, x.box.slots, x.box.area)) q

module _ (e : Edition) (m : Message) (w : Way) (params : List ℕ) (count : ℕ) (kind : ℕ → ℕ) (to from : ℕ) (area : List ℕ) where
  -- what reports say of the k-th frame; the report while more segments are to come, and that of the last one
  abbrev frame : ℕ → Frame
  frame k = record { kind = kind k; destination = to; source = from }

  abbrev pub held_at : ℕ → List ℕ
  held_at k = report_octets (segment_taken (frame k) (apdu_of m true) 0 ((k + 1) * w.each))

  abbrev pub last_at : ℕ → List ℕ
  last_at k = report_octets (by_tags (items_of params) (complete (frame k) (apdu_of m false) 0 (length params)))

  -- the key, whatever the types; the slots and the area behind k segments
  abbrev key : Key
  key = key_of (0 ∷ to ∷ from ∷ []) m

  abbrev slots_at : ℕ → List (Slot Key)
  slots_at k = waiting key (choice_of m) k (k * w.each)

  abbrev area_at : ℕ → List ℕ
  area_at k = splice area 0 (take (k * w.each) params)

  -- the k-th frame and its octets
  abbrev ended : ℕ → Out
  ended k = good (head_of (kind k) to from (length (npdu_at m w count params k))) (npdu_at m w count params k)

  abbrev pub size_at : ℕ → ℕ
  size_at k = length (frame_octets (kind k) to from (npdu_at m w count params k))

  -- the reports of n + 1 frames from the k-th on, the last of them the message's, from place p on
  abbrev pub told_from : (n k p : ℕ) → List (ℕ × List ℕ)
  told_from zero k p = (p + size_at k - 1, last_at k) ∷ []
  told_from (suc n) k p = (p + size_at k - 1, held_at k) ∷ told_from n (k + 1) (p + size_at k)

  module _ (type : (k : ℕ) → (kind k ≡ 5) ⊎ (kind k ≡ 6)) (ruled : Network.fault_of (network_head w) ≡ 0) (sound : Header.fault_of e (pdu_of m w.window false 0) ≡ 0)
      (sized : length area ≡ 65536) (short : length params ≤ 16384) (few : count ≤ 256)
      (within : (k : ℕ) → k + 1 < count → (k + 1) * w.each ≤ length params)
      (lastly : (k : ℕ) → k + 1 ≡ count → (k * w.each ≤ length params) × (length params ≤ (k + 1) * w.each)) where
    good_header : (more : Bool) (k : ℕ) → Header.fault_of e (pdu_of m w.window more k) ≡ 0
    good_header more k = every_header e m w.window more k ∙ sound

    -- the k-th frame carries the k-th segment, and what is said of it is by rebuilding's answer
    module _ (k : ℕ) where
      abbrev head : List ℕ
      head = head_of (kind k) to from (length (npdu_at m w count params k))

      abbrev more : Bool
      more = ltb (k + 1) count

      carried : segment_at e (ended k) ≡ some (segment_of (kind k ∷ to ∷ from ∷ []) m more k (part_of w.each k params))
      unfolding npdu_at head_of
      carried = segment_heard e m w more k (part_of w.each k params) head (type k) ruled (good_header more k)

      said_held : (i n : ℕ) (a : List ℕ) → answered_at e (ended k) (taken i n) a ≡ report_octets (segment_taken (frame k) (apdu_of m more) i n)
      unfolding npdu_at head_of
      said_held = held_report e m w more k (part_of w.each k params) head (type k) ruled (good_header more k)

      said_last : (i n : ℕ) (a : List ℕ) → answered_at e (ended k) (completed i n) a ≡ report_octets (by_tags (items_of (part (room * i) n a)) (complete (frame k) (apdu_of m more) i n))
      unfolding npdu_at head_of
      said_last = complete_report e m w more k (part_of w.each k params) head (type k) ruled (good_header more k)

    acts_held : (k : ℕ) → k + 1 < count → (rules keys (bacnet e)).act (ended k) (slots_at k) (area_at k) ≡ (held_at k, slots_at (k + 1), area_at (k + 1))
    acts_held k l =
        let yes : more k ≡ true = lt-ltb (k + 1) count l in
        let does = takes area params sized short w.each key (choice_of m) k (more k) (omega arith) yes (within k l) in
        acts_by e (ended k) _ (slots_at k) (area_at k) _ (carried k) does
        ∙ ap (λ (x : List ℕ). (x, slots_at (k + 1), area_at (k + 1))) (said_held k 0 ((k + 1) * w.each) (area_at (k + 1)) ∙ rw yes)

    acts_last : (k : ℕ) → k + 1 ≡ count → (rules keys (bacnet e)).act (ended k) (slots_at k) (area_at k) ≡ (last_at k, view fresh, splice area 0 params)
    acts_last k l =
        let no : more k ≡ false = le-ltb (k + 1) count (omega arith) in
        let does = completes area params sized short w.each key (choice_of m) k (more k) (omega arith) no (lastly k l).0 (lastly k l).1 in
        acts_by e (ended k) _ (slots_at k) (area_at k) _ (carried k) does
        ∙ ap (λ (x : List ℕ). (x, view fresh, splice area 0 params)) (said_last k 0 (length params) (splice area 0 params) ∙ rw (no, part_is area params sized short w.each))

    -- all of them in order, from the k-th on
    pub acts_from : (r : Receiver) (n k p : ℕ) → k + suc n ≡ count
        → act_all (rules keys (bacnet e)) to from r p (slots_at k) (area_at k) (typed kind k (npdus_from m w count params k (suc n))) ≡ ends (told_from n k p) r (view fresh) (splice area 0 params)
    acts_from r zero k p c = rw (acts_last k (omega arith)) refl
    acts_from r (suc n) k p c =
        rw (acts_held k (omega arith)) (ap (report (p + size_at k - 1) (held_at k)) (acts_from r n (k + 1) (p + size_at k) (omega arith)))
