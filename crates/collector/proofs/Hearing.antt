-- The ways in which a frame of type 5 or 6 comes to be heard: reported, or a segment.
use Rattle.std.specs.Prelude.{Option, Some, None, Result, Ok, Err}
use Prim.Native.Nat.{ℕ, ◌-◌, ◌≤◌}
use mathlib.Core.Path.{◌≡◌, refl, sym, ap, ◌∙◌}
use mathlib.Core.Bool.{true, false}
use mathlib.Core.List.{List}
use mathlib.Core.Option.{none}
use lib.Dec.{eqb}
use lib.ListN.{length, take, drop}
use borrow.Author.Tests.{eqb-true, eqb-false}
use Rattle.octets.specs.Choice.{by_test, impossible}
use Rattle.octets.specs.Reading.{oct}
use Rattle.octets.specs.Refusal.{number_of, numbered}
use Rattle.octets.specs.declared.refusal.Refusal.{Refusal}
use Rattle.npdu.specs.Reading.{read_npdu, reading_of}
use Rattle.npdu.specs.declared.Header.{Header}
use Rattle.apdu.specs.Reading.{read_apdu}
use Rattle.apdu.specs.declared.Pdu.{Pdu}
use Rattle.rebuild.specs.View.{view}
use Rattle.rebuild.specs.declared.Slots.{Slots}
use Rattle.reports.specs.Layout.{report_size, report_octets}
use Rattle.reports.specs.Kinds.{refusal, network_message}
use Rattle.reports.specs.declared.Report.{Report}
use Rattle.collector.specs.Heard.{Route, route_of, parts_of}
use Rattle.collector.specs.Frame.{Content, segment_in, plain_report, apdu_content, npdu_content, content_of}
use Rattle.collector.specs.Frame.Content.{refuses, network, refuses_behind, message}
use Rattle.collector.specs.Acting.{acting, carrying, Acted, SaidBehind, Segmented, Heeds, HearsAs, Hears, HearsBehind}
use Rattle.collector.specs.declared.heard.Heard.{Heard}
use Rattle.collector.specs.declared.heard.Parts.{Parts}
use Rattle.collector.specs.declared.heard.Told.{Told}
use Rattle.collector.proofs.Content.{content_5, content_6, npdu_refused, npdu_network_lem, npdu_apdu, next_inside, apdu_refused, apdu_good_lem, parts_within, part_rest}
use Rattle.collector.proofs.Actions.{acted_as, acted_plain, no_segment}

-- the same content under another name
heard_as : (w : Heard) {x y : Content} (payload report : List ℕ) {r : Option Told} {report' : List ℕ} → x ≡ y → HearsAs w y payload report r report' → HearsAs w x payload report r report'
heard_as w payload report e h = rw e h

-- a content that carries no segment is reported
heard_whole : (w : Heard) (x : Content) (payload report : List ℕ) {report' : List ℕ} → segment_in w x ≡ none → report' ≡ report_octets (plain_report w x)
    → HearsAs w x payload report None report'
heard_whole w x payload report e h = record { whole = λ _ t area. acted_plain w x t area e h; part = λ s q. impossible (cc) }

-- ---- an APDU, x being the answer of its reading: refused, no segment, a segment
module _ (w : Heard) (v : Route) (a : List ℕ) (at : ℕ) (report : List ℕ) (x : Result Pdu Refusal) (e : numbered x ≡ read_apdu w.edition a) where
  abbrev Behind : Option Told → List ℕ → Type 0
  Behind r report' = HearsBehind w (apdu_content v a (read_apdu w.edition a)) at a report r report'

  pub apdu_turned : {n : Refusal} {report' : List ℕ} → x ≡ Err n → report' ≡ report_octets (refusal w.frame (number_of n)) → Behind None report'
  apdu_turned {n} q h payload _ _ = heard_as w payload report (apdu_refused w.edition v a x n e q) (heard_whole w (refuses_behind v (number_of n)) payload report refl h)

  pub apdu_alone : {p : Pdu} {m : Parts} {report' : List ℕ} → x ≡ Ok p → m ≡ parts_of p (oct a 0) → m.segment.seg ≡ false → SaidBehind w (λ v. message v m a) report' → Behind None report'
  apdu_alone {p} {m} q k s h payload _ _ =
      heard_as w payload report (apdu_good_lem w.edition v a x p e q k) (heard_whole w (message v m a) payload report (no_segment w v m a s) (h v))

  pub apdu_part : {p : Pdu} {m : Parts} {u : Route} → x ≡ Ok p → m ≡ parts_of p (oct a 0) → m.segment.seg ≡ true → u ≡ v → Behind (Some (record { at = at; route = u; parts = m })) report
  apdu_part {p} {m} {u} q k s z payload l d =
      record {
        whole = λ f. impossible (cc);
        part = λ o f.
            let t : ◌≡◌ {A = Told} (record { at = at; route = u; parts = m }) o = cc in
            rw (← t) (record {
              unwritten = refl;
              inside = l;
              content = rw d (apdu_good_lem w.edition v a x p e q k ∙ ap (λ (y : Route). message y m a) (sym z));
              segmented = rw d (record { seg = s; within = parts_within w.edition a x p e q k });
            });
      }

-- ---- a frame's data, x being the answer of its network header: refused, a network layer message, an APDU
module _ (w : Heard) (payload report : List ℕ) (x : Result Header Refusal) (e : reading_of x ≡ read_npdu payload) {report' : List ℕ} where
  pub npdu_turned : {n : Refusal} → x ≡ Err n → report' ≡ report_octets (refusal w.frame (number_of n))
      → HearsAs w (npdu_content w.edition payload (read_npdu payload)) payload report None report'
  npdu_turned {n} q h = heard_as w payload report (npdu_refused w.edition payload x e n q) (heard_whole w (refuses (number_of n)) payload report refl h)

  pub npdu_spoken : {h : Header} → x ≡ Ok h → h.npdu.message ≡ true → {s : Report} → s ≡ network_message w.frame (length payload - h.next) → report' ≡ report_octets s
      → HearsAs w (npdu_content w.edition payload (read_npdu payload)) payload report None report'
  npdu_spoken {h} q m k d =
      heard_as w payload report (npdu_network_lem w.edition payload x e h q m)
      (heard_whole w (network (route_of h.npdu) (length payload - h.next)) payload report refl (d ∙ ap report_octets k))

  -- the octets behind the header, as the code lends them
  pub npdu_on : {h : Header} {r : Option Told} → x ≡ Ok h → h.npdu.message ≡ false
      → (let a = take (length payload - h.next) (drop h.next payload) in HearsBehind w (apdu_content (route_of h.npdu) a (read_apdu w.edition a)) h.next a report r report')
      → HearsAs w (npdu_content w.edition payload (read_npdu payload)) payload report r report'
  npdu_on {h} {r} q m d =
      heard_as w payload report (npdu_apdu w.edition payload x e h q m)
      (rw (part_rest payload h.next) at (d payload (next_inside w.edition payload x e h q) (sym (part_rest payload h.next))))

-- ---- a good frame, by what the code asks: whether it carries a network header
module _ (w : Heard) (payload report : List ℕ) where
  content_carried : carrying w.frame.kind ≡ true → content_of w payload ≡ npdu_content w.edition payload (read_npdu payload)
  content_carried k =
      by_test (eqb w.frame.kind 5)
      (λ a. content_5 w payload (eqb-true w.frame.kind 5 a))
      (λ a. content_6 w payload (eqb-false w.frame.kind 5 a) (eqb-true w.frame.kind 6 (rw a at k)))

  pub frame_heard : {v : Heard} → v ≡ w → carrying w.frame.kind ≡ true → {r : Option Told} {report' : List ℕ} → HearsAs v (npdu_content v.edition payload (read_npdu payload)) payload report r report'
      → Hears w payload report r report'
  frame_heard q k h = heard_as w payload report (content_carried k) (rw q at h)

-- ---- a frame that was heard, x being what was told: reported, or its segment to be collected
module _ (w : Heard) (payload report : List ℕ) {x : Option Told} {report' : List ℕ} (h : Hears w payload report x report') where
  pub heard_alone : x ≡ None → (t : Slots) (area : List ℕ) → Acted (acting w (content_of w payload) (view t) area) t report' area
  heard_alone q = h.whole q

  module _ {r : Told} (q : x ≡ Some r) where
    heeds : Heeds (content_of w payload) payload report r report'
    heeds = h.part r q

    pub heard_line : length report ≡ report_size → length report' ≡ report_size
    heard_line l = ap length heeds.unwritten ∙ l

    pub heard_inside : r.at ≤ length payload
    heard_inside = heeds.inside

    -- its octets, as the code lends them
    pub heard_segment : Segmented r.parts (take (length payload - r.at) (drop r.at payload))
    heard_segment = rw (part_rest payload r.at) heeds.segmented

    pub heard_collected : (t : Slots) (area : List ℕ) {u : Slots} {report'' area' : List ℕ}
        → Acted (acting w (message r.route r.parts (take (length payload - r.at) (drop r.at payload))) (view t) area) u report'' area'
        → Acted (acting w (content_of w payload) (view t) area) u report'' area'
    heard_collected t area k = acted_as w (view t) area heeds.content (rw (part_rest payload r.at) at k)
