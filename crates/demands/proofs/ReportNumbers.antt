-- Octet 1 of every good frame's report: 0, or a number of what the frame carries.
use Prim.Native.Nat.{ℕ, ◌*◌}
use mathlib.Core.Path.{◌≡◌, refl, sym, ap, subst, ◌∙◌}
use mathlib.Core.Logic.{⊎_elim}
use mathlib.Core.List.{List}
use lib.ListN.{take, drop}
use Rattle.octets.specs.Reading.{oct}
use Rattle.apdu.specs.declared.Edition.{Edition}
use Rattle.messages.specs.Slots.{Segment, Slot, Box, boxed}
use Rattle.messages.specs.Rows.{Answer, rebuild}
use Rattle.messages.specs.Rows.Answer.{refused}
use Rattle.rebuild.specs.View.{keys}
use Rattle.rebuild.specs.declared.Key.{Key}
use Rattle.demands.specs.Words.{Between, SegmentChanges}
use Rattle.demands.specs.Reported.{PlainReport, SegmentReport, NumberOf, Reported, ReportNumbers, kind6}
use Rattle.demands.proofs.Numbers.{network_numbers, header_numbers, bad_row}
use Rattle.demands.proofs.Segments.{refusal_row, segment_does}
use Rattle.demands.proofs.Reported.{good_frame_reported}

module _ (h : List ℕ) {o : List ℕ} where
  none_said : (o' : List ℕ) → o ≡ o' → oct o' 1 ≡ 0 → NumberOf (oct o 1)
  none_said o' q z = NumberOf.not_refused (ap (λ (l : List ℕ). oct l 1) q ∙ z)

  said : {x : ℕ} → o ≡ kind6 h x → NumberOf x → NumberOf (oct o 1)
  said q n = rw q n

plain_numbers : {edition : Edition} {h d o : List ℕ} → PlainReport edition h d o → NumberOf (oct o 1)
plain_numbers {h = h} (PlainReport.other n q) = none_said h _ q refl
plain_numbers {h = h} {d = d} (PlainReport.npdu_refused x t e n q) = said h q (⊎_elim (λ z. absurd (n (sym e ∙ z))) (λ k. NumberOf.of_npdu (subst (Between 10 14) e k.0)) (network_numbers d))
plain_numbers {h = h} (PlainReport.network rest k q) = none_said h _ q refl
plain_numbers {edition = edition} {h = h} (PlainReport.apdu_refused a x k e q) = said h q (NumberOf.of_apdu (header_numbers edition a x e))
plain_numbers {h = h} (PlainReport.tags_refused a p t x c s e q) = said h q (NumberOf.of_tags (bad_row t x e))
plain_numbers {h = h} (PlainReport.apdu a p t n c s w q) = none_said h _ q refl

segment_numbers : {h a : List ℕ} {g : Segment Key} (b : Box Key) {w : Answer} (slots : List (Slot Key)) {area o : List ℕ} → SegmentChanges g b w slots area
    → SegmentReport h a g w area o → NumberOf (oct o 1)
segment_numbers {h = h} {g = g} b slots {area = area} k (SegmentReport.not_taken x e q) =
    let k : SegmentChanges g b (refused x) slots area = subst (λ (w : Answer). SegmentChanges g b w slots area) e k in said h q (NumberOf.of_segment (refusal_row k.1))
segment_numbers {h = h} b slots k (SegmentReport.held i n e q) = none_said h _ q refl
segment_numbers {h = h} b slots k (SegmentReport.complete i n x e y q) = none_said h _ q refl
segment_numbers {h = h} b slots {area = area} k (SegmentReport.bad_tags i n x e y q) = said h q (NumberOf.of_tags (bad_row (take n (drop (16384 * i) area)) x y))

reported_numbers : {edition : Edition} {h d : List ℕ} {s : List (Slot Key)} {area o : List ℕ} → Reported edition h d s area o → NumberOf (oct o 1)
reported_numbers (Reported.plain r) = plain_numbers r
reported_numbers {s = s} {area = area} (Reported.segment a g c r) =
    let x = rebuild keys g (boxed s area) in segment_numbers (boxed s area) x.box.slots (segment_does g (boxed s area)) r

pub report_numbers : ReportNumbers
report_numbers edition h d s area = reported_numbers ((good_frame_reported edition h d s area _).0 refl)
