-- Frames one behind the other on a trunk, and what they do in that order; the NPDUs of a message that was cut.
use Rattle.std.specs.Prelude.{ℕ, zero, suc, ◌+◌, ◌-◌, List, [], ◌∷◌, ◌++◌, length}
use Rattle.runs.specs.Run.{Rules, Ends, ends, report}
use Rattle.frames.specs.Layout.{head_of, frame_octets}
use Rattle.frames.specs.declared.Receiver.{Receiver}
use Rattle.trunk.specs.Reading.{Out}
use Rattle.trunk.specs.Reading.Out.{good}
use Rattle.cutter.specs.Layout.{npdu_at}
use Rattle.cutter.specs.declared.Message.{Message}
use Rattle.cutter.specs.declared.Way.{Way}

-- frames with one destination and one source, each a type and its data, end to end
abbrev pub frames_octets : (to from : ℕ) → List (ℕ × List ℕ) → List ℕ
frames_octets to from [] = []
frames_octets to from (f ∷ fs) = frame_octets f.0 to from f.1 ++ frames_octets to from fs

-- what they do by rules u, from place p on: each acts, and is reported, at its last octet; r is the receiver behind the last
abbrev pub act_all : {S A R : Type 0} → Rules Out S A R → (to from : ℕ) → Receiver → ℕ → S → A → List (ℕ × List ℕ) → Ends Receiver S A R
act_all u to from r p s a [] = ends [] r s a
act_all u to from r p s a (f ∷ fs) =
    let x = u.act (good (head_of f.0 to from (length f.1)) f.1) s a in
    let n = length (frame_octets f.0 to from f.1) in
    report (p + n - 1) x.0 (act_all u to from r (p + n) x.1 x.2 fs)

-- data with the types that kind gives them, the first being the k-th
abbrev pub typed : (kind : ℕ → ℕ) → (k : ℕ) → List (List ℕ) → List (ℕ × List ℕ)
typed kind k [] = []
typed kind k (d ∷ ds) = (kind k, d) ∷ typed kind (k + 1) ds

-- n values of a function of numbers, from the k-th on
abbrev pub listed : {A : Type 0} → (ℕ → A) → (k n : ℕ) → List A
listed f k zero = []
listed f k (suc n) = f k ∷ listed f (k + 1) n

-- n NPDUs of a message that is cut into count of them, from the k-th on
abbrev pub npdus_from : Message → Way → (count : ℕ) → List ℕ → (k n : ℕ) → List (List ℕ)
npdus_from m w count params k n = listed (npdu_at m w count params) k n
