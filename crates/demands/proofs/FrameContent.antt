-- What a good frame's data are, by what stands in them in the page's words.
use Prim.Native.Nat.{ℕ, ◌-◌, ◌<◌}
use native.Mathlib.Omega.{arith}
use mathlib.Core.Path.{◌≡◌, refl, sym, ap, ◌∙◌}
use mathlib.Core.Logic.{◌⊎◌, inl, inr, ⊎_elim}
use mathlib.Core.Bool.{Bool, true, false}
use mathlib.Core.List.{List}
use lib.Dec.{eqb}
use lib.ListN.{length, drop, length-drop}
use borrow.Author.Tests.{eqb-true, eqb-false, lt-ltb, le-ltb}
use Rattle.std.specs.Prelude.{Ok, Err}
use Rattle.octets.specs.Choice.{by_test, given_true, given_false}
use Rattle.octets.specs.Reading.{oct}
use Rattle.npdu.specs.Reading.{read_npdu}
use Rattle.apdu.specs.Reading.{read_apdu}
use Rattle.apdu.specs.Fields.{params_at}
use Rattle.apdu.specs.declared.Edition.{Edition}
use Rattle.apdu.specs.declared.Pdu.{Pdu}
use Rattle.apdu.specs.declared.Pdu.TheVariants.{Request, Unconfirmed, SimpleAck, ComplexAck, SegmentAck, Error, Reject, Abort}
use Rattle.trunk.specs.Reading.Out.{good}
use Rattle.reports.specs.Layout.{report_octets}
use Rattle.reports.specs.declared.Apdu.{Apdu as Told}
use Rattle.collector.specs.Heard.{Route, route_of, heard_of, parts_of}
use Rattle.collector.specs.Frame.{Content, content_of, npdu_content, apdu_content, segment_in, plain_report, segment_at, plain_at}
use Rattle.collector.specs.Frame.Content.{other, refuses, network, refuses_behind, message}
use Rattle.collector.proofs.Content.{content_5, content_6, content_other}
use Rattle.demands.specs.Reported.{FiveOrSix, Behind, Carries, invoke_in, choice_in, seg_in}

-- ---- a PDU taken apart, by the page's words
abbrev pub told : ℕ → Pdu → Told
told first p = record { first = first; invoke = invoke_in p; choice = choice_in p }

pub parts_told : (p : Pdu) (first : ℕ) → (parts_of p first).apdu ≡ told first p
unfolding parts_of
parts_told (Request p) first = refl
parts_told (Unconfirmed p) first = refl
parts_told (SimpleAck p) first = refl
parts_told (ComplexAck p) first = refl
parts_told (SegmentAck p) first = refl
parts_told (Error p) first = refl
parts_told (Reject p) first = refl
parts_told (Abort p) first = refl

pub parts_seg : (p : Pdu) (first : ℕ) → (parts_of p first).segment.seg ≡ seg_in p
unfolding parts_of
parts_seg (Request p) first = refl
parts_seg (Unconfirmed p) first = refl
parts_seg (SimpleAck p) first = refl
parts_seg (ComplexAck p) first = refl
parts_seg (SegmentAck p) first = refl
parts_seg (Error p) first = refl
parts_seg (Reject p) first = refl
parts_seg (Abort p) first = refl

pub parts_params : (p : Pdu) (first : ℕ) → (parts_of p first).params ≡ params_at p
unfolding parts_of
parts_params p first = refl

-- ---- what a good frame's data are, by what stands in them
-- ---- by the header that is read, and by the APDU
module _ (edition : Edition) (d : List ℕ) where
  npdu_refused : 0 < (read_npdu d).refused → npdu_content edition d (read_npdu d) ≡ refuses (read_npdu d).refused
  unfolding npdu_content
  npdu_refused h = rw (lt-ltb 0 (read_npdu d).refused h)

  module _ (z : (read_npdu d).refused ≡ 0) where
    npdu_network_lem : (read_npdu d).head.message ≡ true → npdu_content edition d (read_npdu d) ≡ network (route_of (read_npdu d).head) (length d - (read_npdu d).next)
    unfolding npdu_content
    npdu_network_lem m = rw (le-ltb 0 (read_npdu d).refused (omega (arith, z)), given_true (read_npdu d).head.message (network (route_of (read_npdu d).head) (length d - (read_npdu d).next)) _ m)

    npdu_apdu : (read_npdu d).head.message ≡ false
        → npdu_content edition d (read_npdu d) ≡ apdu_content (route_of (read_npdu d).head) (drop (read_npdu d).next d) (read_apdu edition (drop (read_npdu d).next d))
    unfolding npdu_content
    npdu_apdu m = rw (le-ltb 0 (read_npdu d).refused (omega (arith, z)), given_false (read_npdu d).head.message (network (route_of (read_npdu d).head) (length d - (read_npdu d).next)) _ m)

module _ (edition : Edition) (v : Route) (a : List ℕ) where
  apdu_refused : (n : ℕ) → read_apdu edition a ≡ Err n → apdu_content v a (read_apdu edition a) ≡ refuses_behind v n
  apdu_refused n e = rw e

  apdu_good_lem : (p : Pdu) → read_apdu edition a ≡ Ok p → apdu_content v a (read_apdu edition a) ≡ message v (parts_of p (oct a 0)) a
  apdu_good_lem p e = rw e

module _ (edition : Edition) (h d : List ℕ) where
  pub five_or_six : (FiveOrSix h) ⊎ (FiveOrSix h → ⊥)
  five_or_six =
      by_test (eqb (oct h 0) 5) (λ e. inl (inl (eqb-true (oct h 0) 5 e)))
      (λ n. by_test (eqb (oct h 0) 6) (λ e. inl (inr (eqb-true (oct h 0) 6 e)))
      (λ m. inr (λ t. ⊎_elim (eqb-false (oct h 0) 5 n) (eqb-false (oct h 0) 6 m) t)))

  pub is_other : (FiveOrSix h → ⊥) → content_of (heard_of edition h) d ≡ other (length d)
  is_other n = content_other (heard_of edition h) d (λ e. n (inl e)) (λ e. n (inr e))

  is_npdu : FiveOrSix h → content_of (heard_of edition h) d ≡ npdu_content edition d (read_npdu d)
  is_npdu t = ⊎_elim (content_5 (heard_of edition h) d) (λ e. content_6 (heard_of edition h) d (λ f. absurd (omega arith)) e) t

  pub is_refused : FiveOrSix h → ((read_npdu d).refused ≡ 0 → ⊥) → content_of (heard_of edition h) d ≡ refuses (read_npdu d).refused
  is_refused t n = is_npdu t ∙ npdu_refused edition d (omega arith)

  message_flag : {b : Bool} {o : List ℕ} → Behind h d b o → (read_npdu d).head.message ≡ b
  message_flag k = rw k.read.header k.layer

  pub is_network : {o : List ℕ} → Behind h d true o → content_of (heard_of edition h) d ≡ network (route_of (read_npdu d).head) (length o)
  is_network {o} k =
      let n : length o ≡ length d - (read_npdu d).next = ap length (sym k.read.left) ∙ length-drop (read_npdu d).next d in
      rw n (is_npdu k.type ∙ npdu_network_lem edition d k.read.accepted (message_flag k))

  is_apdu : {a : List ℕ} → Behind h d false a → content_of (heard_of edition h) d ≡ apdu_content (route_of (read_npdu d).head) a (read_apdu edition a)
  is_apdu {a} k =
      is_npdu k.type ∙ npdu_apdu edition d k.read.accepted (message_flag k)
      ∙ ap (λ (o : List ℕ). apdu_content (route_of (read_npdu d).head) o (read_apdu edition o)) k.read.left

  pub is_bad : {a : List ℕ} {n : ℕ} → Behind h d false a → read_apdu edition a ≡ Err n → content_of (heard_of edition h) d ≡ refuses_behind (route_of (read_npdu d).head) n
  is_bad {a} {n} k e = is_apdu k ∙ apdu_refused edition _ a n e

  pub is_message : {a t : List ℕ} {p : Pdu} → Carries edition h d a p t → content_of (heard_of edition h) d ≡ message (route_of (read_npdu d).head) (parts_of p (oct a 0)) a
  is_message {a} {t} {p} k = is_apdu k.behind ∙ apdu_good_lem edition _ a p k.read.0

  -- where a good network header was read
  pub behind : (b : Bool) → FiveOrSix h → (read_npdu d).refused ≡ 0 → (read_npdu d).head.message ≡ b → Behind h d b (drop (read_npdu d).next d)
  behind b t z m = record { type = t; head = (read_npdu d).head; read = record { accepted = z; header = refl; left = refl }; layer = m }

  -- by what the content is
  pub segment_by : {x : Content} → content_of (heard_of edition h) d ≡ x → segment_at edition (good h d) ≡ segment_in (heard_of edition h) x
  segment_by e = rw e

  pub plain_by : {x : Content} → content_of (heard_of edition h) d ≡ x → plain_at edition (good h d) ≡ report_octets (plain_report (heard_of edition h) x)
  plain_by e = rw e
