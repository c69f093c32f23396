-- The segment that a good frame carries, and its report.
use Prim.Native.Nat.{ℕ, ◌*◌}
use mathlib.Core.Path.{◌≡◌, refl, sym, ap, ◌∙◌}
use mathlib.Core.Logic.{⊎_elim}
use mathlib.Core.Bool.{true, false}
use mathlib.Core.List.{List}
use mathlib.Core.Option.{none, some}
use lib.Dec.{eqb}
use lib.ListN.{length, drop}
use borrow.Author.Tests.{eqb-true, eqb-false}
use Rattle.std.specs.Prelude.{Ok, Err}
use Rattle.octets.specs.Choice.{by_test, impossible, given_true}
use Rattle.octets.specs.Reading.{oct}
use Rattle.npdu.specs.Address.{source_of, destination_of, part_address, absent}
use Rattle.npdu.specs.Reading.{read_npdu}
use Rattle.npdu.specs.declared.Npdu.{Npdu}
use Rattle.apdu.specs.Reading.{read_apdu}
use Rattle.apdu.specs.Fields.{params_at}
use Rattle.apdu.specs.declared.Edition.{Edition}
use Rattle.apdu.specs.Reading as Apdu
use Rattle.apdu.specs.declared.Pdu.{Pdu}
use Rattle.apdu.specs.declared.Pdu.TheVariants.{Request, Unconfirmed, SimpleAck, ComplexAck, SegmentAck, Error, Reject, Abort}
use Rattle.items.specs.Reading.{Out as ItemsRead, items_of}
use Rattle.items.specs.Listing.{ReadAs}
use Rattle.trunk.specs.Reading.Out.{good}
use Rattle.messages.specs.Slots.{Segment, part, room}
use Rattle.messages.specs.Rows.{Answer}
use Rattle.messages.specs.Rows.Answer.{refused, taken, completed}
use Rattle.rebuild.specs.declared.Key.{Key}
use Rattle.reports.specs.Layout.{report_octets}
use Rattle.reports.specs.Kinds.{segment_taken, complete, refusal}
use Rattle.reports.specs.declared.Apdu.{Apdu as Told}
use Rattle.collector.specs.Heard.{route_of, heard_of, parts_of}
use Rattle.collector.specs.Frame.{Content, content_of, segment_in, by_tags, segment_at, answered_at}
use Rattle.collector.specs.Frame.Content.{message}
use Rattle.collector.specs.declared.heard.Parts.{Parts}
use Rattle.collector.proofs.Content.{tags_good, tags_bad}
use Rattle.demands.specs.Words.{address_in}
use Rattle.demands.specs.Reported.{FiveOrSix, Behind, Carries, CarriesSegment, SegmentIs, SegmentReport, SegmentReported, kind4, kind5, kind6, invoke_in, choice_in, seg_in}
use Rattle.demands.specs.Reported.CarriesSegment.{request, complex_ack}
use Rattle.demands.proofs.FrameContent.{parts_told, parts_seg, parts_params, five_or_six, is_other, is_refused, is_network, is_bad, is_message, behind, segment_by}
use Rattle.demands.proofs.FrameReports.{report_laid, unsegmented_none}

-- ---- the segment that a good frame carries
module _ (edition : Edition) (h d : List ℕ) where
  -- a content that is no APDU with SEG carries none
  none_here : {x : Content} {g : Segment Key} {P : Type 0} → content_of (heard_of edition h) d ≡ x → segment_in (heard_of edition h) x ≡ none → segment_at edition (good h d) ≡ some g → P
  none_here e z q = let k = sym z ∙ sym (segment_by edition h d e) ∙ q in impossible (cc)

  not_seg : {a t : List ℕ} {g : Segment Key} {P : Type 0} (p : Pdu) → Carries edition h d a p t → seg_in p ≡ false → segment_at edition (good h d) ≡ some g → P
  not_seg {a} {t} p c e q = let k = sym (unsegmented_none edition h d a t p c e) ∙ q in impossible (cc)

  -- the one that a PDU with SEG is, behind a network header n
  abbrev made : Npdu → Pdu → List ℕ → List ℕ → Segment Key
  made n p a t =
      record {
        key = record {
          source = oct h 2;
          destination = oct h 1;
          kind = (parts_of p (oct a 0)).kind;
          invoke = invoke_in p;
          from = address_in n.source n.snet n.slen n.sadr;
          to = address_in n.dest n.dnet n.dlen n.dadr;
        };
        number = (parts_of p (oct a 0)).segment.number;
        mor = (parts_of p (oct a 0)).segment.mor;
        choice = choice_in p;
        octets = t;
      }

  made_of : {a t : List ℕ} (p : Pdu) (c : Carries edition h d a p t) → seg_in p ≡ true → segment_at edition (good h d) ≡ some (made c.behind.head p a t)
  unfolding source_of destination_of part_address absent
  made_of {a} {t} p c e =
      segment_by edition h d (is_message edition h d c) ∙ given_true (parts_of p (oct a 0)).segment.seg _ _ (parts_seg p (oct a 0) ∙ e)
      ∙ rw (parts_told p (oct a 0), parts_params p (oct a 0), c.read.1, ← c.behind.read.header)

  by_pdu : {a t : List ℕ} {g : Segment Key} (p : Pdu) → Carries edition h d a p t → segment_at edition (good h d) ≡ some g → CarriesSegment edition h d a g
  unfolding parts_of
  by_pdu {a} {t} (Request p) c q =
      by_test p.segment.seg (λ e. let k = sym q ∙ made_of (Request p) c e in request p t c e (cc)) (λ e. not_seg (Request p) c e q)
  by_pdu {a} {t} (ComplexAck p) c q =
      by_test p.segment.seg (λ e. let k = sym q ∙ made_of (ComplexAck p) c e in complex_ack p t c e (cc)) (λ e. not_seg (ComplexAck p) c e q)
  by_pdu (Unconfirmed p) c q = not_seg (Unconfirmed p) c refl q
  by_pdu (SimpleAck p) c q = not_seg (SimpleAck p) c refl q
  by_pdu (SegmentAck p) c q = not_seg (SegmentAck p) c refl q
  by_pdu (Error p) c q = not_seg (Error p) c refl q
  by_pdu (Reject p) c q = not_seg (Reject p) c refl q
  by_pdu (Abort p) c q = not_seg (Abort p) c refl q

  by_read : {a : List ℕ} {g : Segment Key} (y : Apdu.Answer) → read_apdu edition a ≡ y → Behind h d false a → segment_at edition (good h d) ≡ some g → CarriesSegment edition h d a g
  by_read (Err n) e k q = none_here (is_bad edition h d k e) refl q
  by_read {a} (Ok p) e k q = by_pdu {t = drop (params_at p) a} p (record { behind = k; read = (e, refl) }) q

  by_header : {g : Segment Key} → FiveOrSix h → segment_at edition (good h d) ≡ some g → CarriesSegment edition h d (drop (read_npdu d).next d) g
  by_header t q =
      by_test (eqb (read_npdu d).refused 0)
      (λ e. let r = eqb-true (read_npdu d).refused 0 e in
      by_test (read_npdu d).head.message
      (λ m. none_here (is_network edition h d (behind edition h d true t r m)) refl q)
      (λ m. by_read (read_apdu edition (drop (read_npdu d).next d)) refl (behind edition h d false t r m) q))
      (λ e. none_here (is_refused edition h d t (eqb-false (read_npdu d).refused 0 e)) refl q)

  carried : {g : Segment Key} → segment_at edition (good h d) ≡ some g → CarriesSegment edition h d (drop (read_npdu d).next d) g
  carried q = ⊎_elim (λ t. by_header t q) (λ n. none_here (is_other edition h d n) refl q) (five_or_six edition h d)

  pub carried_is : {a : List ℕ} {g : Segment Key} → CarriesSegment edition h d a g → segment_at edition (good h d) ≡ some g
  unfolding parts_of
  carried_is (request p t c e q) = made_of (Request p) c e ∙ ap some (sym q)
  carried_is (complex_ack p t c e q) = made_of (ComplexAck p) c e ∙ ap some (sym q)

pub segment_is : SegmentIs
segment_is edition h d g = (λ q. (drop (read_npdu d).next d, carried edition h d q), λ k. carried_is edition h d k.1)

-- ---- its report, by the answer
abbrev named : List ℕ → Segment Key → Told
named a g = record { first = oct a 0; invoke = g.key.invoke; choice = g.choice }

module _ (edition : Edition) (h d a : List ℕ) (g : Segment Key) where
  -- the content is an APDU that says what the segment says
  record Says (m : Parts) : Type 0 where
    content : content_of (heard_of edition h) d ≡ message (route_of (read_npdu d).head) m a
    names : m.apdu ≡ named a g

  says : CarriesSegment edition h d a g → (m : Parts) × Says m
  says (request p t c e q) =
      (parts_of (Request p) (oct a 0), record { content = is_message edition h d c; names = parts_told (Request p) (oct a 0) ∙ ap (named a) (sym q) })
  says (complex_ack p t c e q) =
      (parts_of (ComplexAck p) (oct a 0), record { content = is_message edition h d c; names = parts_told (ComplexAck p) (oct a 0) ∙ ap (named a) (sym q) })

  module _ (area : List ℕ) {m : Parts} (k : Says m) where
    refused_said : (x : ℕ) → answered_at edition (good h d) (refused x) area ≡ kind6 h x
    refused_said x = rw k.content (report_laid (refusal (heard_of edition h).frame x))

    held_said : (i n : ℕ) → answered_at edition (good h d) (taken i n) area ≡ kind4 h (oct a 0) g.key.invoke g.choice i n
    held_said i n = rw (k.content, k.names) (report_laid (segment_taken (heard_of edition h).frame (named a g) i n))

    complete_said : (i n : ℕ) → answered_at edition (good h d) (completed i n) area
        ≡ report_octets (by_tags (items_of (part (room * i) n area)) (complete (heard_of edition h).frame (named a g) i n))
    complete_said i n = rw (k.content, k.names)

    module _ (i n : ℕ) where
      whole_said : {x : ℕ} → ReadAs (part (room * i) n area) x
          → answered_at edition (good h d) (completed i n) area ≡ kind5 h (oct a 0) g.key.invoke g.choice i n
      whole_said w =
          complete_said i n ∙ ap report_octets (tags_good (complete (heard_of edition h).frame (named a g) i n) w.2)
          ∙ report_laid (complete (heard_of edition h).frame (named a g) i n)

      bad_said : {x : ℕ} → items_of (part (room * i) n area) ≡ ItemsRead.bad x → answered_at edition (good h d) (completed i n) area ≡ kind6 h x
      bad_said {x} e =
          complete_said i n ∙ ap report_octets (tags_bad (complete (heard_of edition h).frame (named a g) i n) e)
          ∙ report_laid (refusal (heard_of edition h).frame x)

      by_its_tags : {o : List ℕ} (y : ItemsRead) → items_of (part (room * i) n area) ≡ y → answered_at edition (good h d) (completed i n) area ≡ o
          → SegmentReport h a g (completed i n) area o
      by_its_tags (ItemsRead.good rs end) e q =
          let w : ReadAs (part (room * i) n area) (length rs) = (rs, end, e, refl) in SegmentReport.complete i n (length rs) refl w (sym q ∙ whole_said w)
      by_its_tags (ItemsRead.bad x) e q = SegmentReport.bad_tags i n x refl e (sym q ∙ bad_said e)

    answer_reported : {o : List ℕ} (w : Answer) → answered_at edition (good h d) w area ≡ o → SegmentReport h a g w area o
    answer_reported (refused x) q = SegmentReport.not_taken x refl (sym q ∙ refused_said x)
    answer_reported (taken i n) q = SegmentReport.held i n refl (sym q ∙ held_said i n)
    answer_reported (completed i n) q = by_its_tags i n (items_of (part (room * i) n area)) refl q

    at_answer : {w v : Answer} {o : List ℕ} → w ≡ v → answered_at edition (good h d) v area ≡ o → answered_at edition (good h d) w area ≡ o
    at_answer e q = rw e q

    answer_is : {o : List ℕ} {w : Answer} → SegmentReport h a g w area o → answered_at edition (good h d) w area ≡ o
    answer_is (SegmentReport.not_taken x e q) = at_answer e (refused_said x ∙ sym q)
    answer_is (SegmentReport.held i n e q) = at_answer e (held_said i n ∙ sym q)
    answer_is (SegmentReport.complete i n x e y q) = at_answer e (whole_said i n y ∙ sym q)
    answer_is (SegmentReport.bad_tags i n x e y q) = at_answer e (bad_said i n y ∙ sym q)

pub segment_reported : SegmentReported
segment_reported edition h d a g c w area o = let k = (says edition h d a g c).1 in (λ q. answer_reported edition h d a g area k w q, λ r. answer_is edition h d a g area k r)
