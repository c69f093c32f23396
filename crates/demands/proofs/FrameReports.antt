-- What is reported of a good frame that carries no segment.
use Prim.Native.Nat.{ℕ}
use mathlib.Core.Path.{◌≡◌, refl, sym, ap, ◌∙◌}
use mathlib.Core.Logic.{⊎_elim}
use mathlib.Core.Bool.{true, false}
use mathlib.Core.List.{List}
use mathlib.Core.Option.{none}
use lib.Dec.{eqb}
use lib.ListN.{length, drop}
use borrow.Author.Tests.{eqb-true, eqb-false}
use Rattle.std.specs.Prelude.{Ok, Err}
use Rattle.octets.specs.Choice.{by_test, impossible, given_true, given_false}
use Rattle.octets.specs.Reading.{oct}
use Rattle.octets.specs.Numbers.{digits_four}
use Rattle.npdu.specs.Reading.{read_npdu}
use Rattle.apdu.specs.Reading.{read_apdu}
use Rattle.apdu.specs.Fields.{params_at}
use Rattle.apdu.specs.declared.Edition.{Edition}
use Rattle.apdu.specs.Reading as Apdu
use Rattle.apdu.specs.declared.Pdu.{Pdu}
use Rattle.items.specs.Reading.{Out as ItemsRead, items_of}
use Rattle.items.specs.Listing.{ReadAs}
use Rattle.trunk.specs.Reading.Out.{good}
use Rattle.reports.specs.Layout.{report_octets}
use Rattle.reports.specs.Kinds.{other_frame, unsegmented, refusal, network_message}
use Rattle.reports.specs.declared.Report.{Report}
use Rattle.collector.specs.Heard.{heard_of, parts_of}
use Rattle.collector.specs.Frame.{by_tags, segment_at, plain_at}
use Rattle.collector.proofs.Content as Content
use Rattle.demands.specs.Reported.{ReportLaid, FiveOrSix, Behind, Carries, PlainReport, FrameReports, kind1, kind3, kind6, kind7, invoke_in, choice_in, seg_in}
use Rattle.demands.proofs.FrameContent.{told, parts_told, parts_seg, parts_params, five_or_six, is_other, is_refused, is_network, is_bad, is_message, behind, segment_by, plain_by}

pub report_laid : ReportLaid
unfolding report_octets
report_laid r = rw (digits_four r.length)

module _ (edition : Edition) (h d : List ℕ) where
  -- ---- the report of an APDU that is no segment, by its tags
  module _ (a t : List ℕ) (p : Pdu) (c : Carries edition h d a p t) where
    abbrev fine : Report
    fine = unsegmented (heard_of edition h).frame (told (oct a 0) p) (length a)

    said : plain_at edition (good h d) ≡ report_octets (by_tags (items_of t) fine)
    said = plain_by edition h d (is_message edition h d c) ∙ rw (parts_told p (oct a 0), parts_params p (oct a 0), c.read.1)

    pub unsegmented_none : seg_in p ≡ false → segment_at edition (good h d) ≡ none
    unsegmented_none e = segment_by edition h d (is_message edition h d c) ∙ given_false (parts_of p (oct a 0)).segment.seg _ _ (parts_seg p (oct a 0) ∙ e)

    tags_good : {n : ℕ} → ReadAs t n → plain_at edition (good h d) ≡ kind3 h (oct a 0) (invoke_in p) (choice_in p) (length a)
    tags_good w = said ∙ ap report_octets (Content.tags_good fine w.2) ∙ report_laid fine

    tags_bad : {n : ℕ} → items_of t ≡ ItemsRead.bad n → plain_at edition (good h d) ≡ kind6 h n
    tags_bad {n} e = said ∙ ap report_octets (Content.tags_bad fine e) ∙ report_laid (refusal (heard_of edition h).frame n)

    by_tags_lem : {o : List ℕ} (y : ItemsRead) → items_of t ≡ y → seg_in p ≡ false → plain_at edition (good h d) ≡ o → PlainReport edition h d o
    by_tags_lem (ItemsRead.good rs end) e s q = let w : ReadAs t (length rs) = (rs, end, e, refl) in PlainReport.apdu a p t (length rs) c s w (sym q ∙ tags_good w)
    by_tags_lem (ItemsRead.bad n) e s q = PlainReport.tags_refused a p t n c s e (sym q ∙ tags_bad e)

  -- ---- the report of any that carries no segment
  other_told : (FiveOrSix h → ⊥) → plain_at edition (good h d) ≡ kind1 h (length d)
  other_told n = plain_by edition h d (is_other edition h d n) ∙ report_laid (other_frame (heard_of edition h).frame (length d))

  refused_told : FiveOrSix h → ((read_npdu d).refused ≡ 0 → ⊥) → plain_at edition (good h d) ≡ kind6 h (read_npdu d).refused
  refused_told t n = plain_by edition h d (is_refused edition h d t n) ∙ report_laid (refusal (heard_of edition h).frame (read_npdu d).refused)

  network_told : {o : List ℕ} → Behind h d true o → plain_at edition (good h d) ≡ kind7 h (length o)
  network_told {o} k = plain_by edition h d (is_network edition h d k) ∙ report_laid (network_message (heard_of edition h).frame (length o))

  bad_told : {a : List ℕ} {n : ℕ} → Behind h d false a → read_apdu edition a ≡ Err n → plain_at edition (good h d) ≡ kind6 h n
  bad_told {a} {n} k e = plain_by edition h d (is_bad edition h d k e) ∙ report_laid (refusal (heard_of edition h).frame n)

  -- a PDU is a segment or not
  seg_is : {a t : List ℕ} {p : Pdu} → Carries edition h d a p t → seg_in p ≡ true → segment_at edition (good h d) ≡ none → ⊥
  seg_is {a} {t} {p} c e z =
      let k = sym (given_true (parts_of p (oct a 0)).segment.seg _ _ (parts_seg p (oct a 0) ∙ e)) ∙ sym (segment_by edition h d (is_message edition h d c)) ∙ z in impossible (cc)

  by_apdu : {a o : List ℕ} (y : Apdu.Answer) → read_apdu edition a ≡ y → Behind h d false a → segment_at edition (good h d) ≡ none → plain_at edition (good h d) ≡ o → PlainReport edition h d o
  by_apdu {a} (Err n) e k z q = PlainReport.apdu_refused a n k e (sym q ∙ bad_told k e)
  by_apdu {a} (Ok p) e k z q =
      let c : Carries edition h d a p (drop (params_at p) a) = record { behind = k; read = (e, refl) } in
      by_test (seg_in p) (λ s. absurd (seg_is c s z)) (λ s. by_tags_lem a (drop (params_at p) a) p c (items_of (drop (params_at p) a)) refl s q)

  by_npdu : {o : List ℕ} → FiveOrSix h → segment_at edition (good h d) ≡ none → plain_at edition (good h d) ≡ o → PlainReport edition h d o
  by_npdu t z q =
      by_test (eqb (read_npdu d).refused 0)
      (λ e. let r = eqb-true (read_npdu d).refused 0 e in
      by_test (read_npdu d).head.message
      (λ m. PlainReport.network (drop (read_npdu d).next d) (behind edition h d true t r m) (sym q ∙ network_told (behind edition h d true t r m)))
      (λ m. by_apdu (read_apdu edition (drop (read_npdu d).next d)) refl (behind edition h d false t r m) z q))
      (λ e. let n = eqb-false (read_npdu d).refused 0 e in PlainReport.npdu_refused (read_npdu d).refused t refl n (sym q ∙ refused_told t n))

  plain_reported : {o : List ℕ} → segment_at edition (good h d) ≡ none → plain_at edition (good h d) ≡ o → PlainReport edition h d o
  plain_reported z q = ⊎_elim (λ t. by_npdu t z q) (λ n. PlainReport.other n (sym q ∙ other_told n)) (five_or_six edition h d)

  plain_is : {o : List ℕ} → PlainReport edition h d o → (segment_at edition (good h d) ≡ none) × (plain_at edition (good h d) ≡ o)
  plain_is (PlainReport.other n q) = (segment_by edition h d (is_other edition h d n), other_told n ∙ sym q)
  plain_is (PlainReport.npdu_refused x t e n q) =
      let m : (read_npdu d).refused ≡ 0 → ⊥ = λ z. n (sym e ∙ z) in (segment_by edition h d (is_refused edition h d t m), refused_told t m ∙ ap (kind6 h) e ∙ sym q)
  plain_is (PlainReport.network rest k q) = (segment_by edition h d (is_network edition h d k), network_told k ∙ sym q)
  plain_is (PlainReport.apdu_refused a x k e q) = (segment_by edition h d (is_bad edition h d k e), bad_told k e ∙ sym q)
  plain_is (PlainReport.tags_refused a p t x c s e q) = (unsegmented_none a t p c s, tags_bad a t p c e ∙ sym q)
  plain_is (PlainReport.apdu a p t n c s e q) = (unsegmented_none a t p c s, tags_good a t p c e ∙ sym q)

pub frame_reports : FrameReports
frame_reports edition h d o = (λ k. plain_reported edition h d k.0 k.1, λ r. plain_is edition h d r)
