-- hb_frame_write and hb_cut: each number exactly when, and what is done otherwise, by the calls below.
use Prim.Native.Nat.{ℕ, zero, suc, ◌*◌, ◌≤◌, ◌<◌}
use native.Mathlib.Omega.{arith}
use mathlib.Core.Path.{◌≡◌, refl, sym, ap, subst, ◌∙◌}
use mathlib.Core.Logic.{◌↔◌, ◌⊎◌, inl, inr, ⊎_elim}
use mathlib.Core.Bool.{true}
use mathlib.Core.List.{List, [], ◌∷◌}
use lib.Dec.{eqb}
use lib.ListN.{length}
use borrow.Author.Tests.{eqb-true, eqb-false, eq-eqb}
use Rattle.std.specs.Prelude.{Ok, Err}
use Rattle.octets.specs.Choice.{pick, by_test}
use Rattle.octets.specs.Reading.{oct}
use Rattle.octets.specs.Laid.{written_count, answer_of, laid_as}
use Rattle.octets.specs.Laid.{Written}
use Rattle.apdu.specs.Editions.{most}
use Rattle.apdu.specs.declared.Edition.{Edition}
use Rattle.frames.specs.Layout.{frame_octets}
use Rattle.frame_writer.specs.Fault as FrameFault
use Rattle.frame_writer.specs.Calls as FrameWriter
use Rattle.messages.specs.Table.{Table, First, NoRow}
use Rattle.messages.specs.Table.Table.{end, row}
use Rattle.cutter.specs.Layout.{segments_of, octets_of}
use Rattle.cutter.specs.Fault.{front_fault, fault_of}
use Rattle.cutter.specs.Calls as Cutter
use Rattle.cutter.specs.Calls.{count_in}
use Rattle.cutter.specs.declared.Message.{Message}
use Rattle.cutter.specs.declared.Way.{Way}
use Rattle.hitchbarley.specs.Answers.{written_number, Writes}
use Rattle.hitchbarley.specs.Writers as Exported
use Rattle.hitchbarley.specs.Writers.{message_at, segmented, cut_fault}
use Rattle.hitchbarley.proofs.Writers.{message_request, message_ack, kind_zero, kind_three, fault_same}
use Rattle.demands.specs.Cutting.{CodeOver, SizeOver, ResultHas}
use Rattle.demands.specs.ExportedWriting.{FrameWrite, ExportedFrameWrite, RecordIs, way_in, cut_call_rows, ExportedCut}
use Rattle.demands.specs.ExportedWriting.RecordIs.{request, complex_ack}
use Rattle.demands.specs.FrameWriting.{frame_size}
use Rattle.demands.proofs.Rowed.{Judged, Short, clear_judged, row_past, refused_same, refused_not, answers_by, kept_by}
use Rattle.demands.proofs.FrameWriting.{frame_writer_numbers}
use Rattle.demands.proofs.Rowed.Judged.{fine, faulty}
use Rattle.demands.proofs.CutRows.{header_judged, count_judged, front_judged, some_each, result_is, result_one}
use Rattle.demands.proofs.Exported.{differ, wrote_laid}

-- ---- the frame writer's answer as a number
module _ (kind to from : ℕ) (d area : List ℕ) (r wrote : ℕ) (later : List ℕ) where
  frame_written : (n : ℕ) → FrameWriter.Writes kind to from d area (Ok n) later → r ≡ 0 → wrote ≡ n → FrameWrite kind to from d area r wrote later
  frame_written n l z w =
      let by = frame_writer_numbers kind to from d area (Ok n) later l in
      let fit = (by.fine n).0 refl in
      record {
        range = (λ q. differ 0 64 refl z q, λ q. absurd (omega (arith, q, fit.0)));
        short = (λ q. differ 0 61 refl z q, λ q. absurd (omega (arith, q.1, fit.1)));
        fine = (λ _. (fit.0, fit.1), λ _. z);
        only = inl z;
        refused = λ q. absurd (q z);
        done = λ _. subst (λ (x : ℕ). FrameWriter.Writes kind to from d area (Ok x) later) (sym w) l;
      }

  frame_refused : (x : ℕ) → FrameWriter.Writes kind to from d area (Err x) later → r ≡ x → wrote ≡ 0 → FrameWrite kind to from d area r wrote later
  frame_refused x l z w =
      let by = frame_writer_numbers kind to from d area (Err x) later l in
      let not-zero : r ≡ 0 → ⊥ = λ q. ⊎_elim (λ y. differ 64 0 refl (z ∙ y) q) (λ y. differ 61 0 refl (z ∙ y) q) (by.only x refl) in
      record {
        range = (λ q. by.range.0 (ap Err (sym z ∙ q)), λ q. z ∙ refused_same x 64 (by.range.1 q));
        short = (λ q. by.short.0 (ap Err (sym z ∙ q)), λ q. z ∙ refused_same x 61 (by.short.1 q));
        fine = (λ q. absurd (not-zero q), λ q. refused_not x (frame_size d) ((by.fine (frame_size d)).1 (q.0, q.1, refl)));
        only = inr (⊎_elim (λ y. inl (z ∙ y)) (λ y. inr (z ∙ y)) (by.only x refl));
        refused = λ _. (w, by.kept x refl);
        done = λ q. absurd (not-zero q);
      }

pub exported_frame_write : ExportedFrameWrite
exported_frame_write kind to from d area r wrote later y = by (answer_of F o area) refl
  where
    F : ℕ
    F = FrameFault.fault_of d

    o : List ℕ
    o = frame_octets kind to from d

    by : (a : Written) → answer_of F o area ≡ a → FrameWrite kind to from d area r wrote later
    by (Ok n) q = frame_written kind to from d area r wrote later n (record { answer = sym q; after = y.after }) (y.number ∙ ap written_number q) (y.count ∙ ap written_count q)
    by (Err x) q = frame_refused kind to from d area r wrote later x (record { answer = sym q; after = y.after }) (y.number ∙ ap written_number q) (y.count ∙ ap written_count q)

-- ---- a record of 13 octets is its octets, one by one
abbrev octets_by : ℕ → (ℕ → ℕ) → List ℕ
octets_by zero f = []
octets_by (suc n) f = f 0 ∷ octets_by n (λ i. f (suc i))

by_places : (o : List ℕ) → o ≡ octets_by (length o) (oct o)
by_places [] = refl
by_places (x ∷ o) = ap (λ (s : List ℕ). x ∷ s) (by_places o)

module _ (o : List ℕ) where
  thirteen : length o ≡ 13 → (kind : ℕ) → oct o 0 ≡ kind → o ≡ kind ∷ octets_by 12 (λ i. oct o (suc i))
  thirteen k kind z = by_places o ∙ ap (λ (n : ℕ). octets_by n (oct o)) k ∙ ap (λ (x : ℕ). x ∷ octets_by 12 (λ i. oct o (suc i))) z

  record_request : length o ≡ 13 → oct o 0 ≡ 0 → RecordIs o (oct o 9) (message_at o)
  record_request k z =
      subst (λ (s : List ℕ). RecordIs s (oct o 9) (message_at o)) (sym (thirteen k 0 z))
      (subst (RecordIs (0 ∷ octets_by 12 (λ i. oct o (suc i))) (oct o 9)) (message_request o z)
      (request (oct o 1) (oct o 2) (oct o 3) (oct o 4) (oct o 5) (oct o 6) (oct o 7) (oct o 8) (oct o 9) (oct o 10) (oct o 11) (oct o 12)))

  record_ack : length o ≡ 13 → oct o 0 ≡ 3 → RecordIs o (oct o 9) (message_at o)
  record_ack k z =
      subst (λ (s : List ℕ). RecordIs s (oct o 9) (message_at o)) (sym (thirteen k 3 z))
      (subst (RecordIs (3 ∷ octets_by 12 (λ i. oct o (suc i))) (oct o 9)) (message_ack o (λ y. omega (arith, y, z)))
      (complex_ack (oct o 1) (oct o 2) (oct o 3) (oct o 4) (oct o 5) (oct o 6) (oct o 7) (oct o 8) (oct o 9) (oct o 10) (oct o 11) (oct o 12)))

-- no other message is
pub record_one : {o : List ℕ} {window : ℕ} {m : Message} → RecordIs o window m → m ≡ message_at o
unfolding message_at
record_one (request seg mor sa nak srv size invoke number window choice reason accepts) = refl
record_one (complex_ack seg mor sa nak srv size invoke number window choice reason accepts) = refl

-- ---- the words of rows may be put by their like
record Like (t u : Table) : Type 0 where
  pub firsts : (n : ℕ) → First t n → First u n
  pub nothing : NoRow t → NoRow u

like_itself : (t : Table) → Like t t
like_itself t = record { firsts = λ n f. f; nothing = λ r. r }

like_row : (n : ℕ) {P Q : Type 0} {t u : Table} → (P → Q) → (Q → P) → Like t u → Like (row n P t) (row n Q u)
like_row n {P} {Q} {t} {u} to from l = record { firsts = λ k f. over k f; nothing = λ r. (λ q. r.0 (from q), l.nothing r.1) }
  where
    over : (k : ℕ) → First (row n P t) k → First (row n Q u) k
    over k (inl f) = inl (to f.0, f.1)
    over k (inr f) = inr (λ q. f.0 (from q), l.firsts k f.1)

judged_like : {t u : Table} {f : ℕ} → Like t u → Judged t f → Judged u f
judged_like l (fine z r) = fine z (l.nothing r)
judged_like {f = f} l (faulty s r) = faulty s (l.firsts f r)

-- ---- hb_cut's number
module _ (e : Edition) (o : List ℕ) (w : Way) (n : ℕ) where
  -- the message's own rows, in its own words
  abbrev own_rows : Message → Table
  own_rows m = row 22 (CodeOver e m) (row 23 (SizeOver m) (row 63 (256 * w.each < n) end))

  own_judged : (m : Message) → front_fault w n ≡ 0 → 0 < w.each → 0 < w.window → w.window ≤ 127 → Judged (own_rows m) (fault_of e m w n)
  unfolding fault_of
  own_judged m front least low high = rw front (header_judged e w m low high _ _ (count_judged w n least))

  -- and in the record's
  abbrev octet_rows : Table
  octet_rows = row 22 ((oct o 0 ≡ 0) × (most e < oct o 12)) (row 23 ((oct o 0 ≡ 0) × (5 < oct o 6)) (row 63 (256 * w.each < n) end))

  like_request : oct o 0 ≡ 0 → Like (own_rows (message_at o)) octet_rows
  like_request z =
      rw (← message_request o z)
      (like_row 22 (λ h. (z, h)) (λ h. h.1) (like_row 23 (λ h. (z, h)) (λ h. h.1) (like_itself _)))

  like_ack : (oct o 0 ≡ 0 → ⊥) → Like (own_rows (message_at o)) octet_rows
  like_ack not =
      rw (← message_ack o not)
      (like_row 22 (λ h. absurd h) (λ h. not h.0) (like_row 23 (λ h. absurd h) (λ h. not h.0) (like_itself _)))

  -- the type, in front of them
  kind_judged : front_fault w n ≡ 0 → 0 < w.each → 0 < w.window → w.window ≤ 127
      → Judged (row 21 ((oct o 0 ≡ 0 → ⊥) × (oct o 0 ≡ 3 → ⊥)) octet_rows) (pick (segmented (oct o 0)) (fault_of e (message_at o) w n) 21)
  kind_judged front least low high =
      let own = own_judged (message_at o) front least low high in
      by_test (eqb (oct o 0) 0)
      (λ z.
      let is = eqb-true (oct o 0) 0 z in
      rw (← kind_zero (oct o 0) is) (row_past 21 _ _ (λ h. h.0 is) (judged_like (like_request is) own)))
      (λ z.
      let not = eqb-false (oct o 0) 0 z in
      by_test (eqb (oct o 0) 3)
      (λ t. rw (← kind_three (oct o 0) not, t) (row_past 21 _ _ (λ h. h.1 (eqb-true (oct o 0) 3 t)) (judged_like (like_ack not) own)))
      (λ t. rw (← kind_three (oct o 0) not, t) (faulty (λ y. omega arith) (inl ((not, eqb-false (oct o 0) 3 t), refl)))))

-- all of them
pub cut_call_judged : (e : Edition) (o : List ℕ) (reply priority each : ℕ) (params : List ℕ)
    → Judged (cut_call_rows e o priority each params) (cut_fault e o (way_in reply priority each (oct o 9)) (length params))
unfolding cut_fault
cut_call_judged e o reply priority each params =
    let w = way_in reply priority each (oct o 9) in
    by_test (eqb (length o) 13)
    (λ k. rw k (row_past 60 _ _ (λ h. h (eqb-true (length o) 13 k)) (front_judged w (length params) _ _ (kind_judged e o w (length params)))))
    (λ k. rw k (faulty (λ y. omega arith) (inl (eqb-false (length o) 13 k, refl))))

-- a number that is not 0 is a refusal's
number_refused : (a : Written) (n : ℕ) → (n ≡ 0 → ⊥) → written_number a ≡ n → a ≡ Err n
number_refused (Ok k) n some e = absurd (some (sym e))
number_refused (Err x) n some e = ap Err e

-- ---- where no row's words hold the record is a message's, and a segment has octets
module _ (e : Edition) (o : List ℕ) (priority each : ℕ) (params : List ℕ) (clear : NoRow (cut_call_rows e o priority each params)) where
  sized : length o ≡ 13
  sized = by_test (eqb (length o) 13) (λ z. eqb-true (length o) 13 z) (λ z. absurd (clear.0 (eqb-false (length o) 13 z)))

  by_kind : {P : Type 0} → (oct o 0 ≡ 0 → P) → (oct o 0 ≡ 3 → P) → P
  by_kind f g =
      by_test (eqb (oct o 0) 0) (λ z. f (eqb-true (oct o 0) 0 z))
      (λ z. by_test (eqb (oct o 0) 3) (λ t. g (eqb-true (oct o 0) 3 t)) (λ t. absurd (clear.1.1.1.1.0 (eqb-false (oct o 0) 0 z, eqb-false (oct o 0) 3 t))))

  is_message : RecordIs o (oct o 9) (message_at o)
  is_message = by_kind (record_request o sized) (record_ack o sized)

  is_segmented : true ≡ segmented (oct o 0)
  is_segmented = by_kind (kind_zero (oct o 0)) (λ t. sym (eq-eqb (oct o 0) 3 t) ∙ kind_three (oct o 0) (λ z. omega (arith, z, t)))

  some_octets_lem : 0 < each
  some_octets_lem = some_each each (oct o 9) clear.1.1.0

module _ (e : Edition) (o : List ℕ) (reply priority each : ℕ) (params area : List ℕ) (r wrote segments : ℕ) (later : List ℕ)
    (y : Exported.Cuts e o (way_in reply priority each (oct o 9)) params area r wrote segments later) where
  abbrev w : Way
  w = way_in reply priority each (oct o 9)

  abbrev F : ℕ
  F = cut_fault e o w (length params)

  abbrev O : List ℕ
  O = octets_of (message_at o) w params

  abbrev T : Table
  T = cut_call_rows e o priority each params

  judged : Judged T F
  judged = cut_call_judged e o reply priority each params

  counted : (a : Written) → answer_of F O area ≡ a → segments ≡ count_in a (segments_of each (length params))
  counted a q = y.count ∙ ap (λ (x : Written). count_in x (segments_of each (length params))) q

  -- a refusal
  answer_refused : (n : ℕ) → (n ≡ 0 → ⊥) → r ≡ n → answer_of F O area ≡ Err n
  answer_refused n some q = number_refused (answer_of F O area) n some (sym y.written.number ∙ q)

  leaves : (r ≡ 0 → ⊥) → (wrote ≡ 0) × (segments ≡ 0) × (later ≡ area)
  leaves some =
      let q = answer_refused r some refl in
      (y.written.count ∙ ap written_count q, counted (Err r) q, kept_by F O area (Err r) later (record { answer = sym q; after = y.written.after }) r refl)

  -- 61, by the size of the result
  abbrev Small : ℕ → Type 0
  Small n = NoRow T × (n ≡ 61) × ((m : Message) × (size : ℕ) × RecordIs o (oct o 9) m × ResultHas m w params size × (length area < size))

  small : (n : ℕ) → Short T O area n → Small n
  small n h =
      let least = some_octets_lem e o priority each params h.0 in
      (h.0, h.1, (message_at o, length O, is_message e o priority each params h.0, result_is (message_at o) w params least, h.2))

  size_same : (m : Message) (size : ℕ) → 0 < each → RecordIs o (oct o 9) m → ResultHas m w params size → size ≡ length O
  size_same m size least is has = result_one (message_at o) w params least size (subst (λ (x : Message). ResultHas x w params size) (record_one is) has)

  small_back : (n : ℕ) → Small n → Short T O area n
  small_back n (clear, last, (m, size, is, has, l)) = (clear, last, subst (λ (x : ℕ). length area < x) (size_same m size (some_octets_lem e o priority each params clear) is has) l)

  numbered : (n : ℕ) → (n ≡ 0 → ⊥) → (r ≡ n) ↔ (First T n ⊎ Small n)
  numbered n some = (λ q. there (by.0 (answer_refused n some q)), λ q. y.written.number ∙ ap written_number (by.1 (back q)))
    where
      by : (answer_of F O area ≡ Err n) ↔ (First T n ⊎ Short T O area n)
      by = (answers_by T F O area (answer_of F O area) judged refl n).0

      there : First T n ⊎ Short T O area n → First T n ⊎ Small n
      there (inl f) = inl f
      there (inr h) = inr (small n h)

      back : First T n ⊎ Small n → First T n ⊎ Short T O area n
      back (inl f) = inl f
      back (inr h) = inr (small_back n h)

  -- what was written is the call's below
  made : r ≡ 0 → (m : Message) × RecordIs o (oct o 9) m × Cutter.Cuts e m w params area (record { answer = Ok wrote; segments = segments }) later
  made z =
      let l = wrote_laid F O area wrote later (subst (λ (x : ℕ). Writes F O area x wrote later) z y.written) in
      let clear = clear_judged T F judged l.0 in
      let same = fault_same e o w (length params) (sized e o priority each params clear) (is_segmented e o priority each params clear) in
      (message_at o, is_message e o priority each params clear, record { laid = laid_as same refl l.1; segments = counted (Ok wrote) (sym l.1.answer) })

pub exported_cut : ExportedCut
exported_cut e o reply priority each params area r wrote segments later y =
    record {
      numbers = numbered e o reply priority each params area r wrote segments later y;
      refused = leaves e o reply priority each params area r wrote segments later y;
      done = made e o reply priority each params area r wrote segments later y;
    }
