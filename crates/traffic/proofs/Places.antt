-- The same by place: every frame but the last has the same size, so its last octet is found by its number; and the theorem of this crate.
use Prim.Native.Nat.{ℕ, zero, suc, ◌+◌, ◌-◌, ◌*◌, ◌≤◌, ◌<◌}
use native.Mathlib.Omega.{arith}
use native.Mathlib.Nat.{add-zero, zero-add, suc-mul, zero-mul}
use native.Mathlib.Numerals.{add-one}
use mathlib.Core.Path.{◌≡◌, refl, sym, ap, ap₂, ◌∙◌}
use mathlib.Core.Logic.{◌⊎◌}
use mathlib.Core.Bool.{false}
use mathlib.Core.List.{List, [], ◌∷◌, ◌++◌, append_assoc, append-nil}
use lib.ListN.{length, take, length-append}
use Rattle.octets.specs.Splice.{splice, splice_nil}
use Rattle.runs.specs.Run.{octs, ends}
use Rattle.npdu.specs.Fault as Network
use Rattle.apdu.specs.Fault as Header
use Rattle.apdu.specs.declared.Edition.{Edition}
use Rattle.frames.specs.Layout.{frame_octets}
use Rattle.frames.specs.Step.{fresh_of}
use Rattle.frames.specs.declared.Phase.TheVariants.{Hunting}
use Rattle.trunk.specs.Reading.{Kept, at}
use Rattle.trunk.specs.Demand.{reading}
use Rattle.rebuild.specs.View.{keys, view, fresh}
use Rattle.recordings.specs.Frames.{rules}
use Rattle.collector.specs.Frame.{bacnet}
use Rattle.cutter.specs.Layout.{network_head, pdu_of, npdu_at}
use Rattle.cutter.specs.declared.Message.{Message}
use Rattle.cutter.specs.declared.Way.{Way}
use Rattle.traffic.specs.Framed.{frames_octets, act_all, typed, npdus_from}
use Rattle.traffic.proofs.Frames.{Framable, frames_read}
use Rattle.traffic.proofs.Fed.{held_at, last_at, size_at, told_from, acts_from}

module _ (e : Edition) (m : Message) (w : Way) (params : List ℕ) (count : ℕ) (kind : ℕ → ℕ) (to from : ℕ) (area : List ℕ) (size : ℕ) where
  -- the reports of the first n frames, each with its place
  abbrev pub held_to : ℕ → List (ℕ × List ℕ)
  held_to zero = []
  held_to (suc i) = held_to i ++ (((i + 1) * size - 1, held_at e m w params count kind to from area i) ∷ [])

  abbrev octets_from : (k n : ℕ) → ℕ
  octets_from k n = length (frames_octets to from (typed kind k (npdus_from m w count params k n)))

  module _ (even : (k : ℕ) → k + 1 < count → size_at e m w params count kind to from area k ≡ size) where
    next_place : (k : ℕ) → k + 1 < count → k * size + size_at e m w params count kind to from area k ≡ (k + 1) * size
    next_place k l = rw (even k l, add-one) (sym (suc-mul k size))

    -- n + 1 frames from the k-th on, the last of them the message's last
    by_place : (n k : ℕ) → k + suc n ≡ count
        → held_to k ++ told_from e m w params count kind to from area n k (k * size)
        ≡ held_to (k + n) ++ ((k * size + octets_from k (suc n) - 1, last_at e m w params count kind to from area (k + n)) ∷ [])
    by_place zero k c = rw (add-zero, append-nil) refl
    by_place (suc n) k c =
        let l : k + 1 < count = omega arith in
        let s = next_place k l in
        let here = size_at e m w params count kind to from area k in
        let rest = told_from e m w params count kind to from area n (k + 1) ((k + 1) * size) in
        let on : k + 1 + n ≡ k + suc n = omega arith in
        let q : octets_from k (suc (suc n)) ≡ here + octets_from (k + 1) (suc n) =
        length-append (frame_octets (kind k) to from (npdu_at m w count params k)) (frames_octets to from (typed kind (k + 1) (npdus_from m w count params (k + 1) (suc n)))) in
        let all : k * size + octets_from k (suc (suc n)) ≡ (k + 1) * size + octets_from (k + 1) (suc n) = omega (arith, q, s) in
        ap (λ (x : ℕ). held_to k ++ ((x - 1, held_at e m w params count kind to from area k) ∷ told_from e m w params count kind to from area n (k + 1) x)) s
        ∙ sym (append_assoc (held_to k) (((k + 1) * size - 1, held_at e m w params count kind to from area k) ∷ []) rest)
        ∙ ap (λ (j : ℕ). held_to j ++ rest) (sym (add-one k))
        ∙ by_place n (k + 1) (omega arith)
        ∙ ap₂ (λ (j x : ℕ). held_to j ++ ((x - 1, last_at e m w params count kind to from area j) ∷ [])) on (sym all)

    -- What is cut into count NPDUs and framed: kind 4 at the last octet of each frame but the last, at the very last octet what completes the message; the slots are
    -- free, and the area has the parameters from its first octet on.
    pub fed : ((k : ℕ) → (kind k ≡ 5) ⊎ (kind k ≡ 6)) → to < 256 → from < 256 → Network.fault_of (network_head w) ≡ 0 → Header.fault_of e (pdu_of m w.window false 0) ≡ 0
        → length area ≡ 65536 → length params ≤ 16384 → 0 < count → count ≤ 256
        → ((k : ℕ) → k + 1 < count → (k + 1) * w.each ≤ length params)
        → ((k : ℕ) → k + 1 ≡ count → (k * w.each ≤ length params) × (length params ≤ (k + 1) * w.each))
        → (let fs = typed kind 0 (npdus_from m w count params 0 count) in
        let octets = frames_octets to from fs in
        Framable fs
        → (v : Kept)
        × (reading (rules keys (bacnet e)) fresh_of (view fresh) area (octs octets)
        ≡ ends (held_to (count - 1) ++ ((length octets - 1, last_at e m w params count kind to from area (count - 1)) ∷ [])) (at Hunting v) (view fresh) (splice area 0 params)))
    fed type lt lf ruled sound sized short some few within lastly fine =
        let fs = typed kind 0 (npdus_from m w count params 0 count) in
        let u = rules keys (bacnet e) in
        let last = last_at e m w params count kind to from area in
        let c : suc (count - 1) ≡ count = omega arith in
        let read = frames_read u to from lt lf fs fine (view fresh) area in
        let r = at Hunting read.0 in
        let start : splice area 0 (take (0 * w.each) params) ≡ area = rw zero-mul (splice_nil area 0) in
        let acts = acts_from e m w params count kind to from area type ruled sound sized short few within lastly r (count - 1) 0 0 (omega arith) in
        let places : told_from e m w params count kind to from area (count - 1) 0 0 ≡ held_to (count - 1) ++ ((length (frames_octets to from fs) - 1, last (count - 1)) ∷ []) =
        ap (told_from e m w params count kind to from area (count - 1) 0) (sym (zero-mul size))
        ∙ by_place (count - 1) 0 (omega arith)
        ∙ ap₂ (λ (j x : ℕ). held_to j ++ ((x - 1, last j) ∷ [])) (zero-add (count - 1)) (rw (zero-mul, zero-add) (ap (octets_from 0) c)) in (
          read.0,
          read.1
              ∙ ap₂ (λ (a : List ℕ) (n : ℕ). act_all u to from r 0 (view fresh) a (typed kind 0 (npdus_from m w count params 0 n))) (sym start) (sym c)
              ∙ acts
              ∙ ap (λ (rs : List (ℕ × List ℕ)). ends rs r (view fresh) (splice area 0 params)) places,
        )
