-- What a frame's data are, test by test.
use Prim.Native.Nat.{ℕ, ◌+◌, ◌-◌, ◌*◌, ◌≤◌, ◌<◌}
use Rattle.std.specs.Prelude.{Result, Ok, Err}
use mathlib.Core.Path.{◌≡◌, refl, sym, ap, ◌∙◌}
use mathlib.Core.Bool.{true, false}
use mathlib.Core.List.{List}
use native.Mathlib.Omega.{arith}
use lib.Dec.{lit≤}
use lib.ListN.{length, take, drop, length-drop}
use lib.Seq.{take-length}
use borrow.Author.Tests.{lt-ltb, eq-eqb, ne_eqb}
use Rattle.octets.specs.Choice.{given_true, given_false, given_cases}
use Rattle.octets.specs.Reading.{oct}
use Rattle.octets.specs.Refusal.{number_of, number_some, numbered, fault_of}
use Rattle.octets.specs.declared.refusal.Refusal.{Refusal}
use Rattle.npdu.specs.Reading.{read_npdu, reading_of, refused_by}
use Rattle.npdu.specs.declared.Header.{Header}
use Rattle.npdu.proofs.Outcome.{next_within}
use Rattle.apdu.specs.Reading.{read_apdu}
use Rattle.apdu.proofs.Exact.{params_within}
use Rattle.apdu.specs.Fields.{tail_end, params_at}
use Rattle.apdu.specs.declared.Edition.{Edition}
use Rattle.apdu.specs.declared.Pdu.{Pdu}
use Rattle.apdu.specs.declared.Pdu.TheVariants.{Request, Unconfirmed, SimpleAck, ComplexAck, SegmentAck, Error, Reject, Abort}
use Rattle.items.specs.Records.{Rec}
use Rattle.items.specs.Reading.{Out, items_of}
use Rattle.items.specs.Reading.Out.{good, bad}
use Rattle.items.specs.Listing.{refusal_in, Listed}
use Rattle.items.specs.Answers.{tally_of}
use Rattle.items.specs.declared.Unlisted.{Unlisted}
use Rattle.items.specs.declared.Unlisted.TheVariants.{Small, Refused}
use Rattle.items.proofs.Cases.{items_say, small_says, refused_says}
use Rattle.items.proofs.Refusals.{OutHas, items_have}
use Rattle.messages.specs.Slots.{part}
use Rattle.rebuild.specs.View as View
use Rattle.rebuild.specs.Calls.{said_by}
use Rattle.rebuild.specs.declared.Step.{Step}
use Rattle.rebuild.specs.declared.Step.TheVariants.{Held, Complete}
use Rattle.reports.specs.Layout.{report_octets}
use Rattle.reports.specs.Kinds.{unsegmented, segment_taken, complete, refusal}
use Rattle.reports.specs.declared.Report.{Report}
use Rattle.collector.specs.Heard.{Route, route_of, parts_of}
use Rattle.collector.specs.Frame.{key_of, segment_from, by_tags, plain_report, step_report, apdu_content, npdu_content, content_of}
use Rattle.collector.specs.Frame.Content.{other, refuses, network, refuses_behind, message}
use Rattle.collector.specs.Acting.{Named}
use Rattle.collector.specs.declared.heard.Heard.{Heard}
use Rattle.collector.specs.declared.heard.Parts.{Parts}

-- a frame of type 5, of type 6, of another type
module _ (w : Heard) (payload : List ℕ) where
  pub content_5 : w.frame.kind ≡ 5 → content_of w payload ≡ npdu_content w.edition payload (read_npdu payload)
  unfolding content_of
  content_5 e = rw (eq-eqb w.frame.kind 5 e)

  pub content_6 : (w.frame.kind ≡ 5 → ⊥) → w.frame.kind ≡ 6 → content_of w payload ≡ npdu_content w.edition payload (read_npdu payload)
  unfolding content_of
  content_6 ne e = rw (ne_eqb w.frame.kind 5 ne, eq-eqb w.frame.kind 6 e)

  pub content_other : (w.frame.kind ≡ 5 → ⊥) → (w.frame.kind ≡ 6 → ⊥) → content_of w payload ≡ other (length payload)
  unfolding content_of
  content_other n5 n6 = rw (ne_eqb w.frame.kind 5 n5, ne_eqb w.frame.kind 6 n6)

-- a network header that was read, x being the answer
module _ (edition : Edition) (payload : List ℕ) (x : Result Header Refusal) (e : reading_of x ≡ read_npdu payload) where
  pub npdu_refused : (n : Refusal) → x ≡ Err n → npdu_content edition payload (read_npdu payload) ≡ refuses (number_of n)
  unfolding npdu_content refused_by
  npdu_refused n q = rw (← e, q, lt-ltb 0 (number_of n) (number_some n))

  module _ (h : Header) (q : x ≡ Ok h) where
    pub npdu_network_lem : h.npdu.message ≡ true → npdu_content edition payload (read_npdu payload) ≡ network (route_of h.npdu) (length payload - h.next)
    unfolding npdu_content
    npdu_network_lem m = rw (← e, q, given_true h.npdu.message (network (route_of h.npdu) (length payload - h.next)) _ m)

    pub npdu_apdu : h.npdu.message ≡ false → npdu_content edition payload (read_npdu payload) ≡ apdu_content (route_of h.npdu) (drop h.next payload) (read_apdu edition (drop h.next payload))
    unfolding npdu_content
    npdu_apdu m = rw (← e, q, given_false h.npdu.message (network (route_of h.npdu) (length payload - h.next)) _ m)

    pub next_inside : h.next ≤ length payload
    next_inside = let i : (reading_of x).next ≤ length payload = rw e (next_within payload) in rw q at i

-- an APDU that was read, x being the answer
pub apdu_refused : (edition : Edition) (v : Route) (a : List ℕ) (x : Result Pdu Refusal) (n : Refusal) → numbered x ≡ read_apdu edition a → x ≡ Err n → apdu_content v a (read_apdu edition a) ≡ refuses_behind v (number_of n)
apdu_refused edition v a x n e q = rw (← e, q)

pub apdu_good_lem : (edition : Edition) (v : Route) (a : List ℕ) (x : Result Pdu Refusal) (p : Pdu) {m : Parts} → numbered x ≡ read_apdu edition a → x ≡ Ok p → m ≡ parts_of p (oct a 0) → apdu_content v a (read_apdu edition a) ≡ message v m a
apdu_good_lem edition v a x p e q k = rw (← e, q, k)

-- every header has two octets
pub params_some : (p : Pdu) → 2 ≤ params_at p
unfolding tail_end
params_some (Request p) = given_cases (λ n. 2 ≤ n) p.segment.seg _ _ (λ e. lit≤ tt) (λ e. lit≤ tt)
params_some (Unconfirmed p) = lit≤ tt
params_some (SimpleAck p) = lit≤ tt
params_some (ComplexAck p) = given_cases (λ n. 2 ≤ n) p.segment.seg _ _ (λ e. lit≤ tt) (λ e. lit≤ tt)
params_some (SegmentAck p) = lit≤ tt
params_some (Error p) = lit≤ tt
params_some (Reject p) = lit≤ tt
params_some (Abort p) = lit≤ tt

-- and lies within the octets that it was read from
pub some_octets_lem : (edition : Edition) (a : List ℕ) (x : Result Pdu Refusal) (p : Pdu) → numbered x ≡ read_apdu edition a → x ≡ Ok p → 0 < length a
some_octets_lem edition a x p e q = omega (arith, params_some p, params_within edition a p (sym e ∙ ap numbered q))

pub parts_within : (edition : Edition) (a : List ℕ) (x : Result Pdu Refusal) (p : Pdu) {m : Parts} → numbered x ≡ read_apdu edition a → x ≡ Ok p → m ≡ parts_of p (oct a 0) → m.params ≤ length a
unfolding parts_of
parts_within edition a x p e q k = rw k (params_within edition a p (sym e ∙ ap numbered q))

-- the report by the tags
pub tags_good : {x : Out} (fine : Report) {rs : List Rec} {end : ℕ} → x ≡ good rs end → by_tags x fine ≡ fine
tags_good fine e = rw e

pub tags_bad : {x : Out} (fine : Report) {y : ℕ} → x ≡ bad y → by_tags x fine ≡ refusal fine.frame y
tags_bad fine e = rw e

-- the tags' number by the answer y of listing them, whatever it was lent
module _ (s area later : List ℕ) (y : Result ℕ Unlisted) (w : Listed s area (tally_of y) later) where
  pub number_good : {n : ℕ} → y ≡ Ok n → 0 ≡ refusal_in (items_of s)
  number_good q = rw (items_say s area later (tally_of y) w (ap tally_of q)).0.2

  -- 61 taken as good
  pub number_small : {n : ℕ} → y ≡ Err (Small n) → 0 ≡ refusal_in (items_of s)
  number_small q = rw (small_says s area later (tally_of y) w (ap tally_of q)).0.2

  pub number_bad : {n : Refusal} → y ≡ Err (Refused n) → number_of n ≡ refusal_in (items_of s)
  number_bad q = rw (refused_says s area later (tally_of y) w (ap tally_of q))

-- and the report by that number x, which is 0 of good tags alone
by_number : (fine : Report) (o : Out) → OutHas (λ n. 30 ≤ n) o → (x : ℕ) → x ≡ refusal_in o → (x ≡ 0 → by_tags o fine ≡ fine) × ((x ≡ 0 → ⊥) → by_tags o fine ≡ refusal fine.frame x)
by_number fine (good rs end) h x e = (λ z. refl, λ z. absurd (z e))
by_number fine (bad y) h x e = (λ z. absurd (omega arith), λ z. ap (refusal fine.frame) (sym e))

module _ {A : Type 0} (s : List ℕ) (fine : Report) (y : Result A Refusal) (e : fault_of y ≡ refusal_in (items_of s)) where
  numbers : (fault_of y ≡ 0 → by_tags (items_of s) fine ≡ fine) × ((fault_of y ≡ 0 → ⊥) → by_tags (items_of s) fine ≡ refusal fine.frame (fault_of y))
  numbers = by_number fine (items_of s) (items_have (λ n. 30 ≤ n) (λ n low high. low) s) (fault_of y) e

  pub tags_put : {a : A} {report : List ℕ} → y ≡ Ok a → report ≡ report_octets fine → report ≡ report_octets (by_tags (items_of s) fine)
  tags_put q h = h ∙ ap report_octets (sym (numbers.0 (ap fault_of q)))

  pub tags_turn : {n : Refusal} {k : ℕ} {r : Report} {report : List ℕ} → y ≡ Err n → k ≡ number_of n → r ≡ refusal fine.frame k → report ≡ report_octets r → report ≡ report_octets (by_tags (items_of s) fine)
  tags_turn {n} q z k h =
      let i : fault_of y ≡ number_of n = ap fault_of q in
      h ∙ ap report_octets (k ∙ ap (refusal fine.frame) (z ∙ sym i) ∙ sym (numbers.1 (λ w. absurd (omega (arith, number_some n)))))

-- ---- parts of a slice, as the code lends them
pub part_rest : (s : List ℕ) (at : ℕ) → take (length s - at) (drop at s) ≡ drop at s
part_rest s at = ap (λ (n : ℕ). take n (drop at s)) (sym (length-drop at s)) ∙ take-length (drop at s)

pub part_from : (s : List ℕ) (from n : ℕ) → take (from + n - from) (drop from s) ≡ part from n s
part_from s from n = let e : from + n - from ≡ n = omega arith in rw e

-- ---- what is lent, in place of what the definitions name
module _ (w : Heard) (m : Parts) (a : List ℕ) where
  pub plain_put : (v : Route) {r : Report} {report : List ℕ} → r ≡ unsegmented w.frame m.apdu (length a)
      → report ≡ report_octets (by_tags (items_of (take (length a - m.params) (drop m.params a))) r)
      → report ≡ report_octets (plain_report w (message v m a))
  plain_put v e q = q ∙ rw (e, part_rest a m.params)

  pub segment_is : (v : Route)
      → View.segment_of (record { key = key_of w v m; number = m.segment.number; mor = m.segment.mor; choice = m.apdu.choice }) (take (length a - m.params) (drop m.params a)) ≡ segment_from w v m a
  segment_is v = rw (part_rest a m.params)

-- the report of a segment, by the answer of the call
module _ (w : Heard) (m : Parts) (area : List ℕ) (step : Result Step ℕ) {report : List ℕ} where
  pub answer_refused : {n : ℕ} → step ≡ Err n → report ≡ report_octets (refusal w.frame n) → report ≡ report_octets (step_report w m (said_by step) area)
  answer_refused e q = rw e q

  pub answer_taken : {i n : ℕ} {r : Report} → step ≡ Ok (Held i n) → r ≡ segment_taken w.frame m.apdu i n → report ≡ report_octets r → report ≡ report_octets (step_report w m (said_by step) area)
  answer_taken e d q = rw e (q ∙ ap report_octets d)

  -- the octets of the slot, as the code lends them
  pub answer_complete : {i n at : ℕ} {r : Report} → step ≡ Ok (Complete i n) → at ≡ i → r ≡ complete w.frame m.apdu i n
      → report ≡ report_octets (by_tags (items_of (take (16384 * at + n - 16384 * at) (drop (16384 * at) area))) r) → report ≡ report_octets (step_report w m (said_by step) area)
  answer_complete {i} {n} e k d q = rw e (q ∙ rw (k, d, part_from area (16384 * i) n))

pub answer_within : (area : List ℕ) (step : Result Step ℕ) {i n at : ℕ} → step ≡ Ok (Complete i n) → at ≡ i → Named (said_by step) area → 16384 * at + n ≤ length area
answer_within area step {n = n} e k h = rw k (rw e at h)
