-- The frame writer's numbers, and both round trips of a frame.
use Prim.Native.Nat.{ℕ, ◌≤◌, ◌<◌}
use native.Mathlib.Omega.{arith}
use mathlib.Core.Path.{◌≡◌, refl, sym, ap, subst, ◌∙◌}
use mathlib.Core.Logic.{◌⊎◌, inl, inr}
use mathlib.Core.List.{List, [], ◌∷◌, ◌++◌, append_assoc}
use lib.Dec.{ltb}
use lib.ListN.{length, take, drop}
use lib.Seq.{take_at}
use borrow.Author.Tests.{ltb-true, ltb-false}
use Rattle.std.specs.Prelude.{Ok}
use Rattle.octets.specs.Choice.{impossible}
use Rattle.octets.specs.Reading.{oct}
use Rattle.octets.specs.Laid.{laid_wrote}
use Rattle.octets.specs.Laid.{Written}
use Rattle.runs.specs.Run.{Event}
use Rattle.frames.specs.Layout.{head_of, frame_octets}
use Rattle.frames.specs.Step.{most}
use Rattle.frame_writer.specs.Calls.{Writes}
use Rattle.frame_writer.specs.Fault.{fault_of}
use Rattle.frames.proofs.Parts.{data_length, frame_length_lem}
use Rattle.messages.specs.Table.{Table, First}
use Rattle.messages.specs.Table.Table.{end, row}
use Rattle.trunk.specs.Reading.{Out, held_of, came}
use Rattle.trunk.specs.Reading.Out.{good}
use Rattle.trunk.specs.Spans.{Whole}
use Rattle.trunk.specs.Spans.Whole.{frame, bad_header, too_long, bad_data, cut_header, cut_data}
use Rattle.trunk.proofs.Spans.{length_came}
use Rattle.trunk.proofs.Laws.{outcomes_from}
use Rattle.demands.specs.FrameWriting.{frame_size, HeadIs, FrameWriterNumbers, FramesReadBack, FramesWriteBack}
use Rattle.demands.proofs.Rowed.{Judged, Short, row_test, row_past, no_rows, at_most, answers_by, kept_by, past_by}

-- a frame's octets
pub size_is : (kind to from : ℕ) (d : List ℕ) → length (frame_octets kind to from d) ≡ frame_size d
size_is kind to from [] = frame_length_lem kind to from []
size_is kind to from (x ∷ d) = frame_length_lem kind to from (x ∷ d) ∙ rw (data_length (x ∷ d) (λ z. omega arith)) (omega arith)

-- ---- 64, then 61
abbrev frame_rows : List ℕ → Table
frame_rows d = row 64 (501 < length d) end

frame_judged : (d : List ℕ) → Judged (frame_rows d) (fault_of d)
unfolding fault_of
frame_judged d =
    row_test 64 (501 < length d) end (ltb 501 (length d)) (λ z. omega arith) (ltb-true 501 (length d))
    (λ t. row_past 64 (501 < length d) end (λ l. omega (arith, ltb-false 501 (length d) t)) no_rows)

pub frame_writer_numbers : FrameWriterNumbers
frame_writer_numbers kind to from d area r later l =
    let by = answers_by (frame_rows d) (fault_of d) (frame_octets kind to from d) area r (frame_judged d) l.answer in
    let size = size_is kind to from d in
    record {
      range = (λ e. long ((by 64).0.0 e), λ h. (by 64).0.1 (inl (inl (h, refl))));
      short = (λ e. within size ((by 61).0.0 e), λ h. (by 61).0.1 (inr ((λ g. omega (arith, g, h.0), tt), refl, rw size h.1)));
      fine = λ n. (
        λ e. (let f = (by n).1.0 e in (at_most 501 (length d) f.0.0, subst (λ (x : ℕ). x ≤ length area) size f.1, f.2 ∙ size)),
        λ h. (by n).1.1 ((λ g. omega (arith, g, h.0), tt), rw size h.1, h.2 ∙ sym size),
      );
      only = λ x e. either x ((by x).0.0 e);
      kept = kept_by (fault_of d) o area r later l;
      past = past_by (fault_of d) o area r later l;
    }
  where
    o : List ℕ
    o = frame_octets kind to from d

    either : (x : ℕ) → First (frame_rows d) x ⊎ Short (frame_rows d) o area x → (x ≡ 64) ⊎ (x ≡ 61)
    either x (inl (inl h)) = inl h.1
    either x (inl (inr h)) = absurd h.1
    either x (inr h) = inr h.1

    long : First (frame_rows d) 64 ⊎ Short (frame_rows d) o area 64 → 501 < length d
    long (inl (inl h)) = h.0
    long (inl (inr h)) = absurd h.1
    long (inr h) = absurd (omega (arith, h.1))

    within : length o ≡ frame_size d → First (frame_rows d) 61 ⊎ Short (frame_rows d) o area 61 → (length d ≤ 501) × (length area < frame_size d)
    within size (inl (inl h)) = absurd (omega (arith, h.1))
    within size (inl (inr h)) = absurd h.1
    within size (inr h) = (at_most 501 (length d) h.0.0, subst (λ (x : ℕ). length area < x) size h.2)

-- ---- what was written stands in front of the area
pub wrote_frame : (kind to from : ℕ) (d area : List ℕ) (n : ℕ) (later : List ℕ) → Writes kind to from d area (Ok n) later → (n ≡ length (frame_octets kind to from d)) × (take n later ≡ frame_octets kind to from d)
wrote_frame kind to from d area n later l =
    let w = laid_wrote (fault_of d) n (frame_octets kind to from d) area later l in
    (w.1, rw w.2 (take_at (frame_octets kind to from d) (drop (length (frame_octets kind to from d)) area) n (sym w.1)))

-- the layout's head, octet by octet
head_is : (kind to from : ℕ) (d : List ℕ) → HeadIs kind to from d (head_of kind to from (length d))
unfolding head_of
head_is kind to from d = record { five = refl; type = refl; destination = refl; source = refl; size = omega arith }

pub frames_read_back : FramesReadBack
frames_read_back kind to from d area n later l r so front rest free bs q e =
    let w = wrote_frame kind to from d area n later l in
    let es = front ++ (came (take n later) ++ rest) in
    let fits : length d ≤ most = (((frame_writer_numbers kind to from d area (Ok n) later l).fine n).0 refl).0 in
    let size : n ≡ length (frame_octets kind to from d) = w.0 in
    let span : length (came (frame_octets kind to from d)) ≡ length (frame_octets kind to from d) = length_came (frame_octets kind to from d) in (
      head_of kind to from (length d),
      head_is kind to from d,
      (outcomes_from r so es bs q (good (head_of kind to from (length d)) d)).1
          (record {
            front = came (held_of r) ++ front;
            span = came (frame_octets kind to from d);
            rest = rest;
            free = free;
            whole = frame kind to from d fits;
            stands = ap (λ (x : List ℕ). came (held_of r) ++ (front ++ (came x ++ rest))) w.1 ∙ sym (append_assoc (came (held_of r)) front (came (frame_octets kind to from d) ++ rest));
            ends = omega (arith, size, span, e);
          }),
    )

-- ---- a span that ends in a good frame is the layout of one
pub record Layout (xs : List Event) (h d : List ℕ) : Type 0 where
  pub kind : ℕ
  pub to : ℕ
  pub from : ℕ
  pub head : h ≡ head_of kind to from (length d)
  pub fits : length d ≤ most
  pub span : xs ≡ came (frame_octets kind to from d)

frame_laid : {xs : List Event} {o : Out} (h d : List ℕ) → Whole xs o → o ≡ good h d → Layout xs h d
frame_laid h d (frame kind to from d' fits) e =
    let same_head : head_of kind to from (length d') ≡ h = cc in
    let same : d' ≡ d = cc in
    record {
      kind = kind;
      to = to;
      from = from;
      head = sym same_head ∙ ap (λ (x : List ℕ). head_of kind to from (length x)) same;
      fits = subst (λ (x : List ℕ). length x ≤ most) same fits;
      span = ap (λ (x : List ℕ). came (frame_octets kind to from x)) same;
    }
frame_laid h d (bad_header h' c lh bad) e = impossible (cc)
frame_laid h d (too_long h' lh long) e = impossible (cc)
frame_laid h d (bad_data h' d' a b o ld bad) e = impossible (cc)
frame_laid h d (cut_header xs l) e = impossible (cc)
frame_laid h d (cut_data h' xs o l) e = impossible (cc)

pub frames_write_back : FramesWriteBack
unfolding head_of
frames_write_back r so es bs q h d e area a later room l =
    let there = (outcomes_from r so es bs q (good h d)).0 e in
    let y = frame_laid h d there.whole refl in
    let n = frame_size d in
    let wrote : a ≡ Ok n = ((frame_writer_numbers (oct h 0) (oct h 1) (oct h 2) d area a later l).fine n).1 (y.fits, room, refl) in
    let w = wrote_frame (oct h 0) (oct h 1) (oct h 2) d area n later (subst (λ (x : Written). Writes (oct h 0) (oct h 1) (oct h 2) d area x later) wrote l) in
    let same : frame_octets (oct h 0) (oct h 1) (oct h 2) d ≡ frame_octets y.kind y.to y.from d = ap (λ (x : List ℕ). frame_octets (oct x 0) (oct x 1) (oct x 2) d) y.head in
    let span : there.span ≡ came (take n later) = y.span ∙ ap came (sym (w.1 ∙ same)) in
    let size : length there.span ≡ n = ap length y.span ∙ length_came (frame_octets y.kind y.to y.from d) ∙ size_is y.kind y.to y.from d in (
      wrote,
      subst (λ (x : List ℕ). HeadIs (oct x 0) (oct x 1) (oct x 2) d x) (sym y.head) (head_is y.kind y.to y.from d),
      (there.front, there.rest, there.stands ∙ ap (λ (x : List Event). there.front ++ (x ++ there.rest)) span, rw (← size) there.ends),
    )
