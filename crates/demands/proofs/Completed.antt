-- A completed message as it is reported: one walk over the run in front of its last place carries slots, area, the history and what is heard of it; the last
-- place is judged by itself.
use Prim.Native.Nat.{ℕ, ◌+◌, ◌-◌, ◌*◌, ◌/◌, ◌≤◌, ◌<◌}
use native.Mathlib.Omega.{arith}
use mathlib.Core.Path.{◌≡◌, refl, sym, ap, subst, ◌∙◌}
use mathlib.Core.Logic.{◌↔◌}
use mathlib.Core.Bool.{true, false}
use mathlib.Core.List.{List, [], ◌∷◌, ◌++◌, append-nil}
use mathlib.Core.Option.{Option, none, some}
use lib.Dec.{eqb, ltb}
use lib.ListN.{length, length-set, drop}
use borrow.Author.Tests.{eq-eqb, ne_eqb, eqb-true, le-leb, lt-leb}
use Rattle.std.specs.Prelude.{Ok, Err}
use Rattle.octets.specs.Choice.{both_left, given_cases, by_test, impossible}
use Rattle.octets.specs.Reading.{oct}
use Rattle.octets.specs.Numbers.{value_at, digits_four}
use Rattle.runs.specs.Run.{Event, Run, wire, Trace, ended, last, Ends, ends, acted, walk}
use Rattle.runs.specs.Run.Order.{trunk, forget}
use Rattle.frames.specs.declared.Receiver.{Receiver}
use Rattle.trunk.specs.Reading.{Out, held_of, read_from}
use Rattle.trunk.specs.Reading.Out.{good as whole, damage}
use Rattle.trunk.specs.Demand.{reading}
use Rattle.npdu.specs.Reading.{read_npdu}
use Rattle.npdu.specs.Reading.{Reading}
use Rattle.apdu.specs.Reading.{read_apdu}
use Rattle.apdu.proofs.Exact.{kind_read}
use Rattle.apdu.specs.declared.Edition.{Edition}
use Rattle.apdu.specs.Reading as Apdu
use Rattle.items.specs.Reading as Items
use Rattle.items.specs.Reading.{items_of}
use Rattle.items.specs.Reading.Out.{good, bad}
use Rattle.messages.specs.Slots.{Segment, Slot, Box, boxed, room, part}
use Rattle.messages.specs.Rows as Rows
use Rattle.messages.specs.Rows.{Answer, rebuild}
use Rattle.messages.specs.Rows.Answer.{refused, taken, completed}
use Rattle.messages.specs.History.{Deed, Log, Past, past, starting, begun, since, joined, numbers, sequence, Rebuilt, standing, after, runs, from_start}
use Rattle.messages.specs.History.Deed.{forgetting}
use Rattle.messages.specs.History.Entry.{said}
use Rattle.messages.specs.Sound.{Good as Fair}
use Rattle.messages.specs.Table.{Starts}
use Rattle.messages.proofs.Sound.{good_of_lem}
use Rattle.messages.proofs.Table.{starts_exactly, mor_taken, mor_completed}
use Rattle.messages.proofs.Recall.{starting_by, starting_starts}
use Rattle.messages.proofs.Begun.{begun_exactly}
use Rattle.messages.proofs.History.{sure}
use Rattle.rebuild.specs.View.{keys}
use Rattle.rebuild.specs.declared.Key.{Key}
use Rattle.rebuild.proofs.Page.{key_laws}
use Rattle.recordings.specs.Frames.{rules, act_on, deed_of, deeds_at, deeds, history, Completes}
use Rattle.recordings.proofs.Deeds.{boxes}
use Rattle.rebuild.specs.Calls.{step_of}
use Rattle.reports.specs.Layout.{report_octets}
use Rattle.reports.specs.Kinds.{unsegmented, segment_taken, complete}
use Rattle.reports.specs.declared.Report.{Report}
use Rattle.collector.specs.Heard.{heard_of, Route, route_of, parts_of}
use Rattle.collector.specs.Frame.{Content, content_of, npdu_content, apdu_content, key_of, segment_in, segment_from, segment_at, params_of}
use Rattle.collector.specs.Frame.{plain_at, plain_report, by_tags, step_report, answered_report, answered_at, bacnet}
use Rattle.collector.specs.Frame.Content.{other, refuses, network, refuses_behind, message}
use Rattle.collector.specs.declared.heard.Heard.{Heard}
use Rattle.collector.specs.declared.heard.Parts.{Parts}
use Rattle.collector.specs.Calls.{slots_of}
use Rattle.collector.specs.Offering.{Passes, BoxEnd, End}
use Rattle.collector.specs.declared.Collector.{Collector}
use Rattle.collector.proofs.Demand as Collecting
use Rattle.hitchbarley.proofs.Demand.{octets_demand3}
use Rattle.hitchbarley.proofs.Offerable as Offerable
use Rattle.demands.specs.Words.{Between, SegmentChanges}
use Rattle.demands.specs.Completed.{kind_in, number_in, slot_in, length_in, Names, tag_number, answer_in, report_at, segment_ending, heard_entry, heard_key, heard_forget, heard_log, heard_from}
use Rattle.demands.specs.Completed.{Whole, WholeButTags, OfSegment, AsReported, CompletedAsReported, CompletedOverOctets, BegunExactly, StartsHeard, StartsRecorded, CanBeLinked}
use Rattle.demands.proofs.Numbers.{bad_row}
use Rattle.demands.proofs.Segments.{refusal_row, segment_does}
use Rattle.demands.proofs.HeardKeys.{Alike, Same, same_said, Tied, tied_start, tied_said, tied_forget}
use Rattle.demands.proofs.HeardKeys.Alike.{both_refused, both_taken, both_completed}
use Rattle.demands.proofs.Three.{read_by_position, can_be_offered, reached_passes}

-- ---- an APDU in a frame's data: the high four bits of its first octet are its type
abbrev Typed : Parts → Type 0
Typed m = m.apdu.first / 16 ≡ m.kind

apdu_in : (edition : Edition) (v : Route) (b : List ℕ) (y : Apdu.Answer) → read_apdu edition b ≡ y → (u : Route) (m : Parts) (o : List ℕ) → apdu_content v b y ≡ message u m o → Typed m
unfolding parts_of
apdu_in edition v b (Ok q) ok u m o e = let z : parts_of q (oct b 0) ≡ m = cc in subst Typed z (kind_read edition b q ok)
apdu_in edition v b (Err n) ok u m o e = impossible (cc)

npdu_in : (edition : Edition) (payload : List ℕ) (n : Reading) (u : Route) (m : Parts) (o : List ℕ) → npdu_content edition payload n ≡ message u m o → Typed m
unfolding npdu_content
npdu_in edition payload n u m o e =
    let a = drop n.next payload in
    let v = route_of n.head in
    by_test (ltb 0 n.refused) (λ t. let z : refuses n.refused ≡ message u m o = rw t at e in impossible (cc))
    (λ t.
    given_cases (λ (x : Content). x ≡ message u m o → Typed m) n.head.message (network v (length payload - n.next)) (apdu_content v a (read_apdu edition a))
    (λ _ q. impossible (cc))
    (λ _ q. apdu_in edition v a (read_apdu edition a) refl u m o q)
    (rw t at e))

content_in : (w : Heard) (payload : List ℕ) (u : Route) (m : Parts) (o : List ℕ) → content_of w payload ≡ message u m o → Typed m
unfolding content_of
content_in w payload u m o e =
    by_test (eqb w.frame.kind 5) (λ t. npdu_in w.edition payload (read_npdu payload) u m o (rw t at e))
    (λ t. by_test (eqb w.frame.kind 6) (λ t'. npdu_in w.edition payload (read_npdu payload) u m o (rw (t, t') at e))
    (λ t'. let z : other (length payload) ≡ message u m o = rw (t, t') at e in impossible (cc)))

-- ---- the report r of a segment of key k, by its answer w and the area after it
data Told (k : Key) (w : Answer) (area r : List ℕ) : Type 0 where
  not_taken : (n : ℕ) → w ≡ refused n → Between 50 54 n → kind_in r ≡ 6 → number_in r ≡ n → Told k w area r
  more : (i n : ℕ) → w ≡ taken i n → kind_in r ≡ 4 → slot_in r ≡ i → Names r k → Told k w area r
  fine : (i n : ℕ) → w ≡ completed i n → kind_in r ≡ 5 → slot_in r ≡ i → length_in r ≡ n → Names r k
      → ((x : ℕ) → items_of (part (room * i) n area) ≡ bad x → ⊥) → Told k w area r
  faulty : (i n : ℕ) → w ≡ completed i n → kind_in r ≡ 6 → Between 30 39 (number_in r)
      → items_of (part (room * i) n area) ≡ bad (number_in r) → Told k w area r

length_back : (r : Report) → r.length ≤ 16384 → value_at (report_octets r) 8 4 ≡ r.length
unfolding report_octets value_at
length_back r h = rw (digits_four r.length) (omega arith)

-- a report of a segment names four parts of its key
named : (w : Heard) (v : Route) (m : Parts) → Typed m → (r : Report) → r.frame ≡ w.frame → r.apdu ≡ m.apdu → Names (report_octets r) (key_of w v m)
unfolding report_octets
named w v m ok r f p = record { source = rw f; destination = rw f; kind = rw p (sym ok); invoke = rw p }

told_tags : (w : Heard) (v : Route) (m : Parts) (i n : ℕ) (area : List ℕ) (y : Items.Out) → items_of (part (room * i) n area) ≡ y → n ≤ room → Typed m
    → Told (key_of w v m) (completed i n) area (report_octets (by_tags y (complete w.frame m.apdu i n)))
unfolding report_octets
told_tags w v m i n area (good rs end) e h ok =
    fine i n refl refl refl (length_back (complete w.frame m.apdu i n) h)
    (named w v m ok (complete w.frame m.apdu i n) refl refl) (λ x q. impossible (cc))
told_tags w v m i n area (bad x) e h ok = faulty i n refl refl (bad_row (part (room * i) n area) x e) e

module _ (w : Heard) (v : Route) (m : Parts) (a : List ℕ) (ok : Typed m) (g : Segment Key) (is : segment_from w v m a ≡ g) (b : Box Key) where
  by_answer : (x : Answer) (slots : List (Slot Key)) (area : List ℕ) → SegmentChanges g b x slots area → Told g.key x area (report_octets (step_report w m (step_of x) area))
  unfolding report_octets
  by_answer (refused n) slots area h = not_taken n refl (refusal_row h.1) refl refl
  by_answer (taken i n) slots area h =
      more i n refl refl refl (subst (λ (g : Segment Key). Names (report_octets (segment_taken w.frame m.apdu i n)) g.key) is (named w v m ok (segment_taken w.frame m.apdu i n) refl refl))
  by_answer (completed i n) slots area h =
      subst (λ (k : Key). Told k (completed i n) area (report_octets (step_report w m (step_of (completed i n)) area))) (ap (λ (g : Segment Key). g.key) is)
      (told_tags w v m i n area (items_of (part (room * i) n area)) refl h.fits ok)

told_by_lem : (w : Heard) (x : Content) (g : Segment Key) → segment_in w x ≡ some g
    → ((u : Route) (m : Parts) (o : List ℕ) → x ≡ message u m o → Typed m) → (b : Box Key)
    → (let d = rebuild keys g b in Told g.key d.answer d.box.area (report_octets (answered_report w x d.answer d.box.area)))
told_by_lem w (other n) g e ok b = impossible (cc)
told_by_lem w (refuses n) g e ok b = impossible (cc)
told_by_lem w (network v n) g e ok b = impossible (cc)
told_by_lem w (refuses_behind v n) g e ok b = impossible (cc)
told_by_lem w (message v m a) g e ok b =
    let is : segment_from w v m a ≡ g =
    given_cases (λ (y : Option (Segment Key)). y ≡ some g → segment_from w v m a ≡ g) m.segment.seg (some (segment_from w v m a)) none
    (λ _ q. cc) (λ _ q. impossible (cc)) e in
    let d = rebuild keys g b in
    by_answer w v m a (ok v m a refl) g is b d.answer d.box.slots d.box.area (segment_does g b)

segment_told : (edition : Edition) (o : Out) (g : Segment Key) → segment_at edition o ≡ some g → (b : Box Key)
    → (let d = rebuild keys g b in Told g.key d.answer d.box.area (answered_at edition o d.answer d.box.area))
segment_told edition (whole head payload) g e b = let w = heard_of edition head in told_by_lem w (content_of w payload) g e (content_in w payload) b
segment_told edition (damage n) g e b = impossible (cc)

-- the report says what the answer is, but for the slot and the length of a message with bad tags
alike_told : (k : Key) (w : Answer) (area r : List ℕ) → Told k w area r → Alike w (answer_in r)
alike_told k w area r (not_taken n e b d q) = rw (e, d, q, le-leb 30 n (omega (arith, b.0)), lt-leb n 39 (omega (arith, b.0))) (both_refused n)
alike_told k w area r (more i n e d s y) = rw (e, d, s) (both_taken i n (length_in r))
alike_told k w area r (fine i n e d s l y f) = rw (e, d) (both_completed i (slot_in r) n (length_in r))
alike_told k w area r (faulty i n e d b f) = rw (e, d, le-leb 30 (number_in r) b.0, le-leb (number_in r) 39 b.1) (both_completed i 0 n 0)

-- a frame that carries no segment takes and completes nothing
module _ (kind : ℕ) (four-five : Between 4 5 kind) where
  tags_kind : (r : Report) (y : Items.Out) → r.kind ≡ 3 → kind_in (report_octets (by_tags y r)) ≡ kind → ⊥
  unfolding report_octets
  tags_kind r (good rs end) k e = omega (arith, four-five.0, k, e)
  tags_kind r (bad x) k e = omega (arith, four-five.1, e)

  plain_kind : (w : Heard) (x : Content) → kind_in (report_octets (plain_report w x)) ≡ kind → ⊥
  unfolding report_octets
  plain_kind w (other n) e = omega (arith, four-five.0, e)
  plain_kind w (refuses n) e = omega (arith, four-five.1, e)
  plain_kind w (network v n) e = omega (arith, four-five.1, e)
  plain_kind w (refuses_behind v n) e = omega (arith, four-five.1, e)
  plain_kind w (message v m a) e = tags_kind (unsegmented w.frame m.apdu (length a)) (items_of (params_of m a)) refl e

  out_kind : (edition : Edition) (o : Out) → kind_in (plain_at edition o) ≡ kind → ⊥
  unfolding report_octets
  out_kind edition (whole head payload) e = plain_kind (heard_of edition head) (content_of (heard_of edition head) payload) e
  out_kind edition (damage n) e = omega (arith, four-five.0, e)

-- ---- two histories that say the same of every key
rebuilt_same : {k : Key} {a b : Log Key} {area : List ℕ} {i n : ℕ} → Same a b → Rebuilt keys k a area i n → Rebuilt keys k b area i n
rebuilt_same {k} {a} {b} h r =
    let e = (h k).since in
    record {
      octets = r.octets ∙ rw e;
      total = r.total ∙ rw e;
      order = subst (λ (l : List (Segment Key)). numbers l ≡ sequence (length l)) e r.order;
    }

-- ---- behind a front part of a run
module _ (edition : Edition) (start : List (Slot Key)) {M : Type 0} (t : Trace Out M) (rs : List (ℕ × List ℕ)) (back : Run) where
  abbrev Agrees : ℕ → List (ℕ × List ℕ) → Type 0
  Agrees p here = (j : ℕ) → p ≤ j → report_at j rs ≡ report_at j here

  -- slots, area, history and what is heard of it, at the place q from which the back part goes on
  record Behind (q : ℕ) (P : Past Key) (heard : Log Key) (slots : List (Slot Key)) (area : List ℕ) : Type 0 where
    pub s : List (Slot Key)
    pub a : List ℕ
    pub log : Log Key
    pub heard_log_lem : Log Key
    pub deeds_on : P ≡ runs keys (past log (boxed s a)) (deeds keys (bacnet edition) t q back)
    pub heard_on : heard ≡ heard_log edition start t rs q back heard_log_lem
    pub tied : Tied start s a log heard_log_lem
    pub slots_on : slots ≡ (walk (rules keys (bacnet edition)) t q s a back).slots
    pub area_on : area ≡ (walk (rules keys (bacnet edition)) t q s a back).area
    pub says : Agrees q (walk (rules keys (bacnet edition)) t q s a back).reports

  past_it : (p : ℕ) (r : List ℕ) (here : List (ℕ × List ℕ)) → Agrees p ((p, r) ∷ here) → Agrees (p + 1) here
  past_it p r here h j l = let other : eqb p j ≡ false = ne_eqb p j (λ e. omega arith) in h j (omega arith) ∙ rw other

  at_it : (p : ℕ) (r : List ℕ) (here : List (ℕ × List ℕ)) → Agrees p ((p, r) ∷ here) → report_at p rs ≡ some r
  at_it p r here h = h p (omega arith) ∙ rw (eq-eqb p p refl)

  module _ (q p : ℕ) (k : List (Slot Key) → List ℕ → Ends M (List (Slot Key)) (List ℕ) (List ℕ)) (ds : List (Deed Key)) (heard : Log Key → Log Key)
      (on : (s : List (Slot Key)) (a : List ℕ) (log log' : Log Key) → Agrees (p + 1) (k s a).reports → Tied start s a log log'
      → Behind q (runs keys (past log (boxed s a)) ds) (heard log') (k s a).slots (k s a).area)
      (s : List (Slot Key)) (a : List ℕ) (log log' : Log Key) where
    by_segment : (o : Out) (z : Option (Segment Key)) → segment_at edition o ≡ z
        → (let d = act_on keys (bacnet edition) z o s a in Agrees p ((p, d.0) ∷ (k d.1 d.2).reports) → Tied start s a log log'
        → Behind q (runs keys (past log (boxed s a)) (deed_of keys (bacnet edition) z ++ ds)) (heard (heard_entry z (report_at p rs) log'))
        (k d.1 d.2).slots (k d.1 d.2).area)
    by_segment o none e h tied = on s a log log' (past_it p (plain_at edition o) (k s a).reports h) tied
    by_segment o (some g) e h tied =
        let d = rebuild keys g (boxed s a) in
        let r = answered_at edition o d.answer d.box.area in
        let rest = k d.box.slots d.box.area in
        let P = runs keys (past log (boxed s a)) (deed_of keys (bacnet edition) (some g) ++ ds) in
        subst (λ (v : Option (List ℕ)). Behind q P (heard (heard_entry (some g) v log')) rest.slots rest.area)
        (sym (at_it p r rest.reports h))
        (on d.box.slots d.box.area (said g d.answer ∷ log) (said g (answer_in r) ∷ log') (past_it p r rest.reports h)
        (tied_said start s a log log' tied g (answer_in r) (alike_told g.key d.answer d.box.area r (segment_told edition o g e (boxed s a)))))

    by_outcome : (y : Option Out) → (let w = acted (rules keys (bacnet edition)) p y s a k in Agrees p w.reports → Tied start s a log log'
        → Behind q (runs keys (past log (boxed s a)) (deeds_at keys (bacnet edition) y ++ ds)) (heard (heard_entry (segment_ending edition y) (report_at p rs) log')) w.slots w.area)
    by_outcome none h tied = on s a log log' (λ j l. h j (omega arith)) tied
    by_outcome (some o) h tied = by_segment o (segment_at edition o) refl h tied

  behind : (q : ℕ) (front : Run) (p : ℕ) → p + length (wire front) ≡ q → (s : List (Slot Key)) (a : List ℕ) (log log' : Log Key)
      → (let run = front ++ back in let w = walk (rules keys (bacnet edition)) t p s a run in Agrees p w.reports → Tied start s a log log'
      → Behind q (runs keys (past log (boxed s a)) (deeds keys (bacnet edition) t p run)) (heard_log edition start t rs p run log') w.slots w.area)
  unfolding Rows.forget
  behind q [] p e s a log log' h tied =
      let w = walk (rules keys (bacnet edition)) t p s a back in
      let z : p ≡ q = omega (arith, e) in
      subst (λ (q : ℕ). Behind q (runs keys (past log (boxed s a)) (deeds keys (bacnet edition) t p back)) (heard_log edition start t rs p back log') w.slots w.area) z
      (record { s = s; a = a; log = log; heard_log_lem = log'; deeds_on = refl; heard_on = refl; tied = tied; slots_on = refl; area_on = refl; says = h })
  behind q (trunk e ∷ front) p z s a log log' h tied =
      let run = front ++ back in
      by_outcome q p (λ s a. walk (rules keys (bacnet edition)) t (p + 1) s a run) (deeds keys (bacnet edition) t (p + 1) run) (heard_log edition start t rs (p + 1) run)
      (λ s a log log' h tied. behind q front (p + 1) (omega (arith, z)) s a log log' h tied) s a log log' (ended p t) h tied
  behind q (forget i ∷ front) p z s a log log' h tied =
      behind q front p z (Rows.forgotten keys i s) a (after keys (forgetting i) (past log (boxed s a))).log (heard_forget (heard_key start i log') log') h
      (tied_forget start s a log log' tied i)

-- ---- the last place
module _ (c : Collector) (area : List ℕ) (P : Passes c) (z : length area ≡ 65536) (front : Run) (x : Event) where
  abbrev run : Run
  run = front ++ (trunk x ∷ [])

  abbrev place : ℕ
  place = length (held_of c.receiver) + length (wire front)

  abbrev read : Trace Out Receiver
  read = read_from c.receiver (wire run)

  abbrev end : BoxEnd
  end = walk (rules keys (bacnet c.edition)) read (length (held_of c.receiver)) (slots_of c) area run

  abbrev hist : Log Key
  hist = history keys (bacnet c.edition) read (length (held_of c.receiver)) (slots_of c) area run

  abbrev log : Log Key
  log = heard_from c run end.reports

  B : (let P = runs keys (past (standing (slots_of c)) (boxed (slots_of c) area)) (deeds keys (bacnet c.edition) read (length (held_of c.receiver)) run) in
      Behind c.edition (slots_of c) read end.reports (trunk x ∷ []) place P log end.slots end.area)
  B =
      let s = slots_of c in
      behind c.edition s read end.reports (trunk x ∷ []) place front (length (held_of c.receiver)) refl s area (standing s) (standing s) (λ j l. refl)
      (tied_start s area (good_of_lem keys key_laws 4 s area P.slots (eq-eqb (length area) 65536 z)))

  four : length end.slots ≡ 4
  unfolding reading
  four =
      let w = can_be_offered c area P z run in
      let q = read_by_position c area P z run w.0 w.1 in
      let f = reached_passes c area P z _ run w.0 w.1 in
      sym (ap (λ (e : End). length e.slots) q) ∙ eqb-true _ 4 (both_left _ _ f.1)

  -- the report at the last place is that of what ends there
  reported_by : (y : Option Out) → ended place read ≡ y → (report : List ℕ)
      → some report ≡ report_at place (acted (rules keys (bacnet c.edition)) place y B.s B.a (λ s a. ends [] (last read) s a)).reports
      → (o : Out) × (ended place read ≡ some o) × (report ≡ ((rules keys (bacnet c.edition)).act o B.s B.a).0)
  reported_by none e report h = impossible (cc)
  reported_by (some o) e report h =
      let k : some report ≡ some ((rules keys (bacnet c.edition)).act o B.s B.a).0 = rw (eq-eqb place place refl) at h in
      (o, e, cc)

  reported : (report : List ℕ) → report_at place end.reports ≡ some report
      → (o : Out) × (ended place read ≡ some o) × (report ≡ ((rules keys (bacnet c.edition)).act o B.s B.a).0)
  reported report h = reported_by (ended place read) refl report (sym h ∙ B.says place (omega arith))

  -- where a segment ends there
  module _ (o : Out) (g : Segment Key) (here : ended place read ≡ some o) (is : segment_at c.edition o ≡ some g) where
    abbrev done : Rows.Done Key
    done = rebuild keys g (boxed B.s B.a)

    abbrev line : List ℕ
    line = answered_at c.edition o done.answer done.box.area

    spoken : ((rules keys (bacnet c.edition)).act o B.s B.a).0 ≡ line
    spoken = rw is

    told : Told g.key done.answer done.box.area line
    told = segment_told c.edition o g is (boxed B.s B.a)

    hist_is : hist ≡ said g done.answer ∷ B.log
    hist_is = ap (λ (p : Past Key). p.log) B.deeds_on ∙ rw (here, is)

    module _ (said-so : report_at place end.reports ≡ some line) where
      log_is : log ≡ said g (answer_in line) ∷ B.heard_log_lem
      log_is = B.heard_on ∙ rw (here, is, said-so)

      agree : Same hist log
      agree =
          subst (λ (l : Log Key). Same l log) (sym hist_is) (subst (λ (l : Log Key). Same (said g done.answer ∷ B.log) l) (sym log_is)
          (same_said g done.answer (answer_in line) B.log B.heard_log_lem (alike_told g.key done.answer done.box.area line told) B.tied.same))

      area_is : end.area ≡ done.box.area
      area_is = B.area_on ∙ rw (here, is)

      slots_is : end.slots ≡ done.box.slots
      slots_is = B.slots_on ∙ rw (here, is)

      module _ (i n : ℕ) (e : done.answer ≡ completed i n) where
        within : i < 4
        within =
            let h : SegmentChanges g (boxed B.s B.a) (completed i n) done.box.slots done.box.area =
            subst (λ (w : Answer). SegmentChanges g (boxed B.s B.a) w done.box.slots done.box.area) e (segment_does g (boxed B.s B.a)) in
            let l : length B.s ≡ 4 = sym (length-set B.s i _) ∙ sym (ap length h.records) ∙ sym (ap length slots_is) ∙ four in
            rw l at h.slot

        whole_message : begun keys g.key log ≡ true → Rebuilt keys g.key log end.area i n
        whole_message bg =
            rebuilt_same agree (Collecting.messages c area P z run front x o g here is g.key i n
            (subst (λ (l : Log Key). Completes l g.key i n) (sym hist_is) (refl, e)) ((agree g.key).begun ∙ bg))

        -- the octets whose tags were judged are the joined ones
        judged : begun keys g.key log ≡ true → items_of (part (room * i) n done.box.area) ≡ items_of (joined (since keys g.key log))
        judged bg = ap items_of (ap (part (room * i) n) (sym area_is) ∙ (whole_message bg).octets)

  segment_by : (kind : ℕ) → Between 4 5 kind → (report : List ℕ) (o : Out) → ended place read ≡ some o → (y : Option (Segment Key)) → segment_at c.edition o ≡ y
      → report ≡ ((rules keys (bacnet c.edition)).act o B.s B.a).0 → kind_in report ≡ kind
      → OfSegment c front x end.reports end.area report (eqb kind 4)
  segment_by kind row report o here none is e k =
      let plain : ((rules keys (bacnet c.edition)).act o B.s B.a).0 ≡ plain_at c.edition o = rw is in
      absurd (out_kind kind row c.edition o (subst (λ (r : List ℕ). kind_in r ≡ kind) (e ∙ plain) k))
  segment_by kind row report o here (some g) is e k = by (told o g here is)
    where
      eq : report ≡ line o g here is
      eq = e ∙ spoken o g here is

      k' : kind_in (line o g here is) ≡ kind
      k' = subst (λ (r : List ℕ). kind_in r ≡ kind) eq k

      ends_so : segment_ending c.edition (ended place read) ≡ some g
      ends_so = ap (segment_ending c.edition) here ∙ is

      is_four : (n : ℕ) → kind_in (line o g here is) ≡ n → eqb n 4 ≡ eqb kind 4
      is_four n d = ap (λ (n : ℕ). eqb n 4) (sym d ∙ k')

      by : Told g.key (done o g here is).answer (done o g here is).box.area (line o g here is)
          → OfSegment c front x end.reports end.area report (eqb kind 4)
      by (not_taken n w b d q) = absurd (omega (arith, d, k', row.1))
      by (more i n w d s y) = (g, ends_so, subst (λ (r : List ℕ). Names r g.key) (sym eq) y, mor_taken keys key_laws g (boxed B.s B.a) B.tied.good.apart i n w ∙ is_four 4 d)
      by (faulty i n w d b f) = absurd (omega (arith, d, k', row.1))
      by (fine i n w d s l y f) = (g, ends_so, subst (λ (r : List ℕ). Names r g.key) (sym eq) y, (mor_completed keys key_laws g (boxed B.s B.a) B.tied.good.apart i n w).0 ∙ is_four 5 d)

  complete_by : (report : List ℕ) (o : Out) → ended place read ≡ some o → (g : Segment Key) → segment_at c.edition o ≡ some g
      → report ≡ ((rules keys (bacnet c.edition)).act o B.s B.a).0
      → report_at place end.reports ≡ some report → kind_in report ≡ 5
      → Whole c front x end.reports end.area report g
  complete_by report o here g is e so k = by (told o g here is)
    where
      eq : report ≡ line o g here is
      eq = e ∙ spoken o g here is

      so' : report_at place end.reports ≡ some (line o g here is)
      so' = so ∙ ap some eq

      k' : kind_in (line o g here is) ≡ 5
      k' = subst (λ (r : List ℕ). kind_in r ≡ 5) eq k

      by : Told g.key (done o g here is).answer (done o g here is).box.area (line o g here is)
          → Whole c front x end.reports end.area report g
      by (not_taken n w b d q) = absurd (omega (arith, d, k'))
      by (more i n w d s y) = absurd (omega (arith, d, k'))
      by (faulty i n w d b f) = absurd (omega (arith, d, k'))
      by (fine i n w d s l y f) =
          rw (eq, s, l) (λ bg.
          (within o g here is so' i n w, whole_message o g here is so' i n w bg, λ m q. f m (judged o g here is so' i n w bg ∙ q)))

  bad_by : (report : List ℕ) (o : Out) → ended place read ≡ some o → (g : Segment Key) → segment_at c.edition o ≡ some g
      → report ≡ ((rules keys (bacnet c.edition)).act o B.s B.a).0
      → report_at place end.reports ≡ some report → kind_in report ≡ 6 → tag_number (number_in report) ≡ true
      → WholeButTags c front x end.reports end.area report g
  bad_by report o here g is e so k tag = by (told o g here is)
    where
      eq : report ≡ line o g here is
      eq = e ∙ spoken o g here is

      so' : report_at place end.reports ≡ some (line o g here is)
      so' = so ∙ ap some eq

      k' : kind_in (line o g here is) ≡ 6
      k' = subst (λ (r : List ℕ). kind_in r ≡ 6) eq k

      by : Told g.key (done o g here is).answer (done o g here is).box.area (line o g here is)
          → WholeButTags c front x end.reports end.area report g
      by (not_taken n w b d q) =
          let t : tag_number n ≡ true = subst (λ (m : ℕ). tag_number m ≡ true) (ap number_in eq ∙ q) tag in
          let u : tag_number n ≡ false = rw (le-leb 30 n (omega (arith, b.0)), lt-leb n 39 (omega (arith, b.0))) in
          impossible (cc)
      by (more i n w d s y) = absurd (omega (arith, d, k'))
      by (fine i n w d s l y f) = absurd (omega (arith, d, k'))
      by (faulty i n w d b f) = λ bg. (
        i,
        n,
        within o g here is so' i n w,
        whole_message o g here is so' i n w bg,
        sym (judged o g here is so' i n w bg) ∙ f ∙ ap (λ (r : List ℕ). bad (number_in r)) (sym eq),
      )

  as_reported : AsReported c front x end.reports end.area
  as_reported =
      record {
        with_mor = λ report so k.
            let w = reported report so in
            segment_by 4 (omega arith, omega arith) report w.0 w.1 (segment_at c.edition w.0) refl w.2 k;
        without_mor = λ report so k.
            let w = reported report so in
            segment_by 5 (omega arith, omega arith) report w.0 w.1 (segment_at c.edition w.0) refl w.2 k;
        complete = λ report so k g is bg.
            let w = reported report so in
            complete_by report w.0 w.1 g (subst (λ (y : Option Out). segment_ending c.edition y ≡ some g) w.1 is) w.2 so k bg;
        bad_tags = λ report so k tag g is bg.
            let w = reported report so in
            bad_by report w.0 w.1 g (subst (λ (y : Option Out). segment_ending c.edition y ≡ some g) w.1 is) w.2 so k tag bg;
      }

pub completed_as_reported : CompletedAsReported
unfolding reading
completed_as_reported c area P z front x e o =
    let q = read_by_position c area P z (front ++ (trunk x ∷ [])) e o in
    subst (λ (w : End). AsReported c front x w.reports w.area) (sym q) (as_reported c area P z front x)

pub completed_over_octets : CompletedOverOctets
unfolding reading
completed_over_octets state c area l P z front x h o =
    let q = octets_demand3 state c area l P z (front ++ (trunk x ∷ [])) h o in
    subst (λ (r : List (ℕ × List ℕ)). AsReported c front x r h.area) (sym q.0)
    (subst (λ (a : List ℕ). AsReported c front x (end c area P z front x).reports a) (sym q.1) (as_reported c area P z front x))

-- ---- what starts, behind a run
module _ (c : Collector) (area : List ℕ) (P : Passes c) (z : length area ≡ 65536) where
  abbrev first : ℕ
  first = length (held_of c.receiver)

  fair_start : Fair keys (boxed (slots_of c) area)
  fair_start = good_of_lem keys key_laws 4 (slots_of c) area P.slots (eq-eqb (length area) 65536 z)

  module _ (all run : Run) where
    abbrev read_all : Trace Out Receiver
    read_all = read_from c.receiver (wire all)

    abbrev walked : BoxEnd
    walked = walk (rules keys (bacnet c.edition)) read_all first (slots_of c) area run

    abbrev recorded : Past Key
    recorded = from_start keys (boxed (slots_of c) area) (deeds keys (bacnet c.edition) read_all first run)

    -- by the recording's history: it and the slots agree on what each key awaits
    starts_in_lem : (g : Segment Key) → (starting keys g recorded.log ≡ true) ↔ Starts keys g (boxed walked.slots walked.area)
    starts_in_lem g =
        let S = sure keys key_laws (boxed (slots_of c) area) fair_start (deeds keys (bacnet c.edition) read_all first run) in
        let box : recorded.box ≡ boxed walked.slots walked.area = sym (boxes keys (bacnet c.edition) read_all run first (standing (slots_of c)) (slots_of c) area) in
        let e = starting_starts keys recorded.log g recorded.box S.recalls in
        let w = starts_exactly keys key_laws g recorded.box S.good.apart in
        subst (λ (b : Box Key). (starting keys g recorded.log ≡ true) ↔ Starts keys g b) box (λ t. w.0 (sym e ∙ t), λ t. e ∙ w.1 t)

  -- what is heard behind a whole run says the same of every key
  module _ (run : Run) where
    abbrev whole_run : BoxEnd
    whole_run = walked run run

    abbrev HeardAll : Run → Type 0
    HeardAll r =
        let t = read_from c.receiver (wire run) in
        let w = walk (rules keys (bacnet c.edition)) t first (slots_of c) area r in
        Behind c.edition (slots_of c) t whole_run.reports [] (first + length (wire run)) (from_start keys (boxed (slots_of c) area) (deeds keys (bacnet c.edition) t first r))
        (heard_log c.edition (slots_of c) t whole_run.reports first r (standing (slots_of c))) w.slots w.area

    heard_all : HeardAll run
    heard_all =
        let s = slots_of c in
        let t = read_from c.receiver (wire run) in
        subst HeardAll (append-nil run)
        (behind c.edition s t whole_run.reports [] (first + length (wire run)) run first refl s area (standing s) (standing s)
        (λ j l. ap (λ (r : Run). report_at j (walk (rules keys (bacnet c.edition)) t first s area r).reports) (sym (append-nil run))) (tied_start s area fair_start))

    same_all : Same (recorded run run).log (heard_from c run whole_run.reports)
    same_all =
        subst (λ (p : Past Key). Same p.log (heard_from c run whole_run.reports)) (sym heard_all.deeds_on)
        (subst (λ (l : Log Key). Same heard_all.log l) (sym heard_all.heard_on) heard_all.tied.same)

    starts_by_heard : (g : Segment Key) → (starting keys g (heard_from c run whole_run.reports) ≡ true) ↔ Starts keys g (boxed whole_run.slots whole_run.area)
    starts_by_heard g =
        let e = starting_by keys (recorded run run).log (heard_from c run whole_run.reports) g (same_all g.key).awaited in
        let w = starts_in_lem run run g in
        (λ t. w.0 (e ∙ t), λ t. sym e ∙ w.1 t)

pub starts_heard : StartsHeard
unfolding reading
starts_heard c area P z run e o g =
    subst (λ (w : End). (starting keys g (heard_from c run w.reports) ≡ true) ↔ Starts keys g (boxed w.slots w.area))
    (sym (read_by_position c area P z run e o)) (starts_by_heard c area P z run g)

pub starts_recorded : StartsRecorded
starts_recorded c area P z all run g = starts_in_lem c area P z all run g

pub begun_exact : BegunExactly
begun_exact k log = begun_exactly keys key_laws k log

pub can_be_linked : CanBeLinked
can_be_linked = Offerable.some_way
