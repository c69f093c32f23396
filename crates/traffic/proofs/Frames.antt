-- Frames end to end are read by a fresh receiver as these frames, each at its last octet.
use mathlib.Core.Path.{◌≡◌, refl, sym, ap, ap₂, ◌∙◌}
use mathlib.Core.List.{List, [], ◌∷◌, ◌++◌}
use Prim.Native.Nat.{ℕ, suc, ◌+◌, ◌-◌, ◌/◌, ◌%◌, ◌<◌, ◌≤◌}
use native.Mathlib.Nat.{le_refl}
use native.Mathlib.Omega.{arith}
use lib.ListN.{length}
use Rattle.octets.specs.Reading.{Octets}
use Rattle.octets.specs.Every.{octets_none, octets_more, octets_join}
use Rattle.sums.specs.Sums.{header_check, data_sent, data_check}
use Rattle.runs.specs.Run.{Event, Run, wire, octs, Trace, Rules, Ends, report, walk}
use Rattle.runs.specs.Run.Event.{octet}
use Rattle.runs.specs.Run.Trace.{told}
use Rattle.runs.proofs.Lifting.{octs_two, to_end_lem, not_yet}
use Rattle.frames.specs.Layout.{head_of, data_part, frame_octets}
use Rattle.frames.specs.Step.{most, fresh_of}
use Rattle.frames.specs.declared.Phase.TheVariants.{Hunting}
use Rattle.frames.specs.declared.Receiver.{Receiver}
use Rattle.trunk.specs.Reading.{Out, Kept, at, reading_of, kept_of, read_from, came}
use Rattle.trunk.specs.Reading.Out.{good}
use Rattle.trunk.specs.Demand.{reading}
use Rattle.trunk.specs.Spans.{Bytes}
use Rattle.trunk.specs.Spans.Whole.{frame}
use Rattle.trunk.proofs.Spans.{came_two, length_came}
use Rattle.trunk.proofs.Reading.{machine, steps, by_position}
use Rattle.trunk.proofs.Noise.{silent}
use Rattle.trunk.proofs.Stands.{Tells, tells}
use Rattle.trunk.proofs.Outcomes.{span_steps}
use Rattle.traffic.specs.Framed.{frames_octets, act_all}

-- frames that can be: a type that is an octet, at most 501 octets of data
abbrev pub Framable : List (ℕ × List ℕ) → Type 0
Framable [] = Unit {0}
Framable (f ∷ fs) = ((f.0 < 256) × (length f.1 ≤ most) × Octets f.1) × Framable fs

-- ---- octets
header_octet_lem : (h : List ℕ) → header_check h < 256
unfolding header_check
header_octet_lem h = omega arith

check_octets : (d : List ℕ) → Octets (data_check d)
unfolding data_check data_sent
check_octets d = octets_more (data_sent d % 256) (data_sent d / 256 ∷ []) (omega arith) (octets_more (data_sent d / 256) [] (omega arith) octets_none)

part_octets_lem : (d : List ℕ) → Octets d → Octets (data_part d)
part_octets_lem [] os = octets_none
part_octets_lem (x ∷ d) os = octets_join (x ∷ d) (data_check (x ∷ d)) os (check_octets (x ∷ d))

head_octets_lem : (kind to from n : ℕ) → kind < 256 → to < 256 → from < 256 → n ≤ most → Octets (head_of kind to from n)
unfolding head_of
head_octets_lem kind to from n k t f l =
    octets_more kind (to ∷ from ∷ n / 256 ∷ n % 256 ∷ []) k (octets_more to (from ∷ n / 256 ∷ n % 256 ∷ []) t (octets_more from (n / 256 ∷ n % 256 ∷ []) f
    (octets_more (n / 256) (n % 256 ∷ []) (omega arith) (octets_more (n % 256) [] (omega arith) octets_none))))

-- a frame's octets are octets
pub frame_octets_lem : (kind to from : ℕ) (d : List ℕ) → kind < 256 → to < 256 → from < 256 → length d ≤ most → Octets d → Octets (frame_octets kind to from d)
unfolding frame_octets
frame_octets_lem kind to from d k t f l os =
    let h = head_of kind to from (length d) in
    let xs = h ++ (header_check h ∷ data_part d) in
    octets_more 0x55 (0xFF ∷ xs) (omega arith) (octets_more 0xFF xs (omega arith)
    (octets_join h (header_check h ∷ data_part d) (head_octets_lem kind to from (length d) k t f l) (octets_more (header_check h) (data_part d) (header_octet_lem h) (part_octets_lem d os))))

-- a frame has octets
frame_some : (kind to from : ℕ) (d : List ℕ) → 0 < length (frame_octets kind to from d)
unfolding frame_octets
frame_some kind to from d = omega arith

-- the octets of a recording are octets
octets_bytes : (xs : List ℕ) → Octets xs → Bytes (came xs ++ [])
octets_bytes [] os = tt
octets_bytes (x ∷ xs) os = (os 0, octets_bytes xs (λ i. os (suc i)))

-- octets in a row, on the trunk
wire_octs : (xs : List ℕ) → wire (octs xs) ≡ came xs
wire_octs [] = refl
wire_octs (x ∷ xs) = ap (λ (es : List Event). octet x ∷ es) (wire_octs xs)

-- ---- frames
module _ {S A R : Type 0} (u : Rules Out S A R) where
  -- a walk by the step from a place on, hunting there
  abbrev stepped : ℕ → Kept → S → A → List ℕ → Ends Receiver S A R
  stepped p w s a xs = walk u (steps p (at Hunting w) (came xs)) p s a (octs xs)

  -- octets that tell one outcome, at their last: it acts and is reported there
  one_told : {w : Kept} {o : Out} (xs ys : List ℕ) → length w.head ≡ 5 → length w.store ≡ most → (t : Tells w (came xs) o) (p : ℕ) (s : S) (a : A) → 0 < length xs
      → stepped p w s a (xs ++ ys) ≡ report (p + length xs - 1) (u.act o s a).0 (stepped (p + length xs) t.left (u.act o s a).1 (u.act o s a).2 ys)
  one_told {w} {o} xs ys lw ls t p s a l =
      let z = p + length xs - 1 in
      let place : z + 1 ≡ p + length xs = omega arith in
      let later = steps (z + 1) (at Hunting t.left) (came ys) in
      let n : length (came xs) ≡ length xs = length_came xs in
      let split : steps p (at Hunting w) (came (xs ++ ys)) ≡ told z o later =
      ap (steps p (at Hunting w)) (came_two xs ys) ∙ span_steps lw ls t [] silent p z (came ys) (omega arith) in
      ap₂ (λ (t : Trace Out Receiver) (run : Run). walk u t p s a run) split (octs_two xs ys)
      ∙ to_end_lem u xs z o later (octs ys) p s a l (omega arith) (λ q m. not_yet machine (came ys) q (z + 1) (at Hunting t.left) m)
      ∙ ap (λ (i : ℕ). report z (u.act o s a).0 (stepped i t.left (u.act o s a).1 (u.act o s a).2 ys)) place

  module _ (to from : ℕ) (t : to < 256) (f : from < 256) where
    -- from any place on, hunting there with anything kept
    stepped_frames : (fs : List (ℕ × List ℕ)) → Framable fs → (w : Kept) → length w.head ≡ 5 → length w.store ≡ most → (p : ℕ) (s : S) (a : A)
        → (v : Kept) × (stepped p w s a (frames_octets to from fs) ≡ act_all u to from (at Hunting v) p s a fs)
    stepped_frames [] ok w lw ls p s a = (w, refl)
    stepped_frames ((kind, d) ∷ fs) ok w lw ls p s a =
        let xs = frame_octets kind to from d in
        let fits : length d ≤ most = ok.0.1 in
        let x = u.act (good (head_of kind to from (length d)) d) s a in
        let own = tells w lw ls [] (frame kind to from d fits) (octets_bytes xs (frame_octets_lem kind to from d ok.0.0 t f fits ok.0.2)) in
        let ih = stepped_frames fs ok.1 own.left own.head own.store (p + length xs) x.1 x.2 in
        (ih.0, one_told xs (frames_octets to from fs) lw ls own p s a (frame_some kind to from d) ∙ ap (report (p + length xs - 1) x.0) ih.1)

  -- a fresh receiver holds nothing: its reading is a walk by the step
  fresh_stepped : (xs : List ℕ) (s : S) (a : A) → reading u fresh_of s a (octs xs) ≡ stepped 0 (kept_of fresh_of) s a xs
  unfolding reading read_from reading_of
  fresh_stepped xs s a =
      let w = kept_of fresh_of in
      let es = came xs in
      rw (wire_octs xs) (ap (λ (t : Trace Out Receiver). walk u t 0 s a (octs xs)) (sym (by_position (length es) w.head w.first w.store 0 es refl refl (le_refl (length es)))))

-- Frames end to end, on a fresh receiver, are read as these frames, each at its last octet, and then the receiver hunts.
pub frames_read : {S A R : Type 0} (u : Rules Out S A R) (to from : ℕ) → to < 256 → from < 256 → (fs : List (ℕ × List ℕ)) → Framable fs → (s : S) (a : A)
    → (v : Kept) × (reading u fresh_of s a (octs (frames_octets to from fs)) ≡ act_all u to from (at Hunting v) 0 s a fs)
frames_read u to from t f fs ok s a =
    let r = stepped_frames u to from t f fs ok (kept_of fresh_of) refl refl 0 s a in
    (r.0, fresh_stepped u (frames_octets to from fs) s a ∙ r.1)
