-- Demand 3 for the whole box, and what document 01 says of segments, at the page's key.
use Prim.Native.Nat.{ℕ, ◌+◌, ◌*◌, ◌≤◌, ◌<◌}
use mathlib.Core.Path.{◌≡◌, refl, ap, ◌∙◌}
use mathlib.Core.Bool.{true, false}
use mathlib.Core.List.{List, [], ◌∷◌, ◌++◌}
use mathlib.Core.Logic.{◌⊎◌}
use mathlib.Core.Option.{some}
use lib.ListN.{length}
use borrow.Author.Tests.{eq-eqb}
use Rattle.runs.specs.Run.{Event, Run, wire, ended, walk}
use Rattle.runs.specs.Run.Order.{trunk}
use Rattle.runs.specs.Offered.{Offered}
use Rattle.trunk.specs.Reading.{Out, held_of, read_from}
use Rattle.trunk.specs.Demand.{reading}
use Rattle.messages.specs.Slots as Messages
use Rattle.messages.specs.Slots.{room, boxed, slot_of, slot_at, part}
use Rattle.messages.specs.Rows.{rebuild}
use Rattle.messages.specs.History.{begun, touches, Rebuilt}
use Rattle.messages.proofs.Laws.{repeated, disjoint}
use Rattle.rebuild.specs.View.{keys}
use Rattle.rebuild.specs.declared.Key.{Key}
use Rattle.rebuild.proofs.Page.{key_laws, fair, four, page_others}
use Rattle.recordings.specs.Frames.{rules, history, Completes}
use Rattle.recordings.proofs.Demand.{whole, offerable}
use Rattle.recordings.proofs.Deeds as Deeds
use Rattle.reports.specs.Kinds.{refusal}
use Rattle.reports.specs.Layout.{report_octets}
use Rattle.collector.specs.Heard.{Route}
use Rattle.collector.specs.Frame.{segment_from, bacnet}
use Rattle.collector.specs.Frame.Content.{message}
use Rattle.collector.specs.Acting.{acting}
use Rattle.collector.specs.Calls.{slot_count, box, slots_of}
use Rattle.collector.specs.Offering.{Passes, BoxEnd, End, in_edition, Called}
use Rattle.collector.specs.declared.Collector.{Collector}
use Rattle.collector.specs.declared.heard.Heard.{Heard}
use Rattle.collector.specs.declared.heard.Parts.{Parts}
use Rattle.collector.proofs.Actions.{acts_segment}
use Rattle.collector.proofs.Alike.{offered_to, called_by}
use Rattle.collector.proofs.Given.{known}

module _ (c : Collector) (area : List ℕ) (P : Passes c) (z : length area ≡ 65536) where
  -- "one run of trunk octets with silences and forget orders at fixed places, from any state that passes 59": "Then reports, final state and
  -- message area are those that a reading of the whole recording by position gives." The edition is the start state's, and its rules give the rest.
  pub demand3 : {run : Run} {e : End} → Called (length (held_of c.receiver)) c area run e
      → e ≡ in_edition c.edition (reading (rules keys (bacnet c.edition)) c.receiver (slots_of c) area run)
  demand3 o =
      let w = offered_to o in
      w.2 ∙ ap (in_edition c.edition) (whole keys key_laws (bacnet c.edition) slot_count (λ n. refl) (known c.edition) P.receiver P.slots (eq-eqb (length area) 65536 z) w.1)

  -- every run can be offered to the box, and so by the calls
  pub boxed_way : (run : Run) → (x : BoxEnd) × Offered (box c.edition) (length (held_of c.receiver)) c.receiver (slots_of c) area run x
  boxed_way run = offerable keys key_laws (bacnet c.edition) slot_count (λ n. refl) (known c.edition) run c.receiver (slots_of c) area P.receiver P.slots (eq-eqb (length area) 65536 z)

  pub some_way : (run : Run) → (e : End) × Called (length (held_of c.receiver)) c area run e
  some_way run = let w = boxed_way run in (in_edition c.edition w.0, called_by w.1)

  -- "Each message begun and completed in the run is its key's accepted segments since its latest starting segment 0, joined in order of acceptance": t is the
  -- reading of the whole trunk, front the run up to the place where the last segment ends.
  pub messages : (all front : Run) (e : Event) (o : Out) (g : Messages.Segment Key)
      → (let t = read_from c.receiver (wire all) in
      let p = length (held_of c.receiver) in
      let run = front ++ (trunk e ∷ []) in
      ended (p + length (wire front)) t ≡ some o → (bacnet c.edition).segment_of o ≡ some g → (k : Key) (i n : ℕ)
      → Completes (history keys (bacnet c.edition) t p (slots_of c) area run) k i n → begun keys k (history keys (bacnet c.edition) t p (slots_of c) area run) ≡ true
      → Rebuilt keys k (history keys (bacnet c.edition) t p (slots_of c) area run) (walk (rules keys (bacnet c.edition)) t p (slots_of c) area run).area i n)
  messages all front e o g here is k i n =
      Deeds.message keys key_laws (bacnet c.edition) (read_from c.receiver (wire all)) (length (held_of c.receiver)) (slots_of c) area (fair c.slots area P.slots z) front e o g here is k i n

  -- a repeated or late segment changes nothing: 52
  pub late : (w : Heard) (v : Route) (m : Parts) (a : List ℕ) (i : ℕ) → m.segment.seg ≡ true → slot_of keys (segment_from w v m a).key (slots_of c) ≡ some i
      → (m.segment.number ≡ 0 → ⊥) → (m.segment.number ≡ (slot_at keys (slots_of c) i).next → ⊥)
      → acting w (message v m a) (slots_of c) area ≡ (report_octets (refusal w.frame 52), slots_of c, area)
  late w v m a i s k n d =
      acts_segment w v m a (slots_of c) area s
      ∙ rw (repeated keys (segment_from w v m a) (boxed (slots_of c) area) i k (slot_at keys (slots_of c) i) refl n d)

  -- two keys never share octets: what two open slots hold lies apart
  pub apart : (i j : ℕ) → i < 4 → j < 4 → ((slot_at keys (slots_of c) i).key ≡ (slot_at keys (slots_of c) j).key → ⊥)
      → (room * i + (slot_at keys (slots_of c) i).held ≤ room * j) ⊎ (room * j + (slot_at keys (slots_of c) j).held ≤ room * i)
  apart i j li lj = disjoint keys (boxed (slots_of c) area) (fair c.slots area P.slots z) i j (rw (four c.slots area P.slots z) li) (rw (four c.slots area P.slots z) lj)

  -- a slot that a segment's answer does not name keeps its 16,384 octets
  pub elsewhere : (g : Messages.Segment Key) (j : ℕ) → j < 4 → (let d = rebuild keys g (boxed (slots_of c) area) in touches d.answer j ≡ false → part (room * j) room d.box.area ≡ part (room * j) room area)
  elsewhere g j l = page_others c.slots area P.slots z g j l
