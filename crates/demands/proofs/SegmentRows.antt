-- The numbers of segments.
use native.Mathlib.Omega.{arith}
use mathlib.Core.Path.{◌≡◌, refl, sym, ap, ◌∙◌}
use mathlib.Core.List.{List}
use lib.Dec.{ltb}
use borrow.Author.Tests.{ltb-true, ltb-false}
use Rattle.octets.specs.Choice.{by_test, given}
use Rattle.messages.specs.Slots.{Slot, boxed}
use Rattle.messages.specs.Rows.{starts_at, next_number, rebuild}
use Rattle.messages.specs.Sound.{Apart}
use Rattle.messages.proofs.Table.{by_the_table}
use Rattle.npdu.specs.Address.{same_address, same_fields, same_octets}
use Rattle.rebuild.specs.View.{keys, view, same_key, segment_of}
use Rattle.rebuild.specs.Calls as Rebuild
use Rattle.rebuild.specs.declared.Key.{Key}
use Rattle.rebuild.proofs.Page.{key_laws}
use Rattle.rebuild.proofs.Giving.{gives_by, taking_on, step_one}
use Rattle.demands.specs.SegmentRows.{OneSlotEach, SegmentRows, TakeRows, SegmentsWorked, SegmentsInOrder}

pub apart_of : (s : List (Slot Key)) → OneSlotEach s → Apart keys s
apart_of s ok i j li lj u v k =
    by_test (ltb i j) (λ t. absurd (ok i j (ltb-true i j t) lj u v k))
    (λ t. by_test (ltb j i) (λ d. absurd (ok j i (ltb-true j i d) li v u (sym k))) (λ d. omega (arith, ltb-false i j t, ltb-false j i d)))

pub one_each_of : (s : List (Slot Key)) → Apart keys s → OneSlotEach s
one_each_of s apart i j lt l u v k = let e : i ≡ j = apart i j (omega arith) l u v k in omega arith

pub segment_rows : SegmentRows
segment_rows g b ok = by_the_table keys key_laws g b (apart_of b.slots ok)

pub take_rows : TakeRows
take_rows t g o area r later h z ok w =
    let k = gives_by (sym (taking_on t g o area z)) h in
    let T = segment_rows (segment_of g o) (boxed (view t) area) ok w in
    (λ e. T.0 (step_one _ w (sym k.answer ∙ e)), λ a. k.answer ∙ ap Rebuild.step_of (T.1 a))

pub segments_worked : SegmentsWorked
unfolding rebuild starts_at next_number same_key same_address same_fields same_octets given
segments_worked area = refl

pub segments_in_order : SegmentsInOrder
unfolding rebuild starts_at next_number same_key same_address same_fields same_octets given
segments_in_order area = refl
