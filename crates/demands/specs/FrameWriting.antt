-- The frame writer. "Add a frame writer (any type, destination, source, 0 to 501 data octets)": its numbers, and both round trips of a frame. Each statement is
-- proved in proofs/FrameWriting, under its name in small letters.
use Rattle.std.specs.Prelude.{ℕ, ◌+◌, ◌*◌, ◌≤◌, ◌<◌, ◌≡◌, ◌↔◌, ◌⊎◌, List, [], ◌∷◌, ◌++◌, length, take, drop, Ok, Err}
use Rattle.std.proofs.Math.Option.{some}
use Rattle.octets.specs.Reading.{oct}
use Rattle.octets.specs.Laid.{Written}
use Rattle.runs.specs.Run.{Event, ended}
use Rattle.frames.specs.declared.Receiver.{Receiver}
use Rattle.frame_writer.specs.Calls.{Writes}
use Rattle.trunk.specs.Reading.{held_of, came, read_from}
use Rattle.trunk.specs.Reading.Out.{good}
use Rattle.trunk.specs.Spans.{Bytes, Free}
use Rattle.trunk.specs.Demand.{Sound}

-- the octets of a frame: "55 FF, type, destination, source, length (2 octets ..), header check, and, where length is not 0, the data and two check octets"
abbrev pub frame_size : List ℕ → ℕ
frame_size [] = 8
frame_size (x ∷ d) = 8 + length (x ∷ d) + 2

-- 64 exactly for more than 501 data octets, "61 stays last": exactly for an area shorter than the frame; else as many octets were written as the frame has (which: FramesReadBack).
-- A refusal leaves the area as it was, and "nothing past a result is written"
pub record FrameNumbered (d area : List ℕ) (r : Written) (later : List ℕ) : Type 0 where
  pub range : (r ≡ Err 64) ↔ (501 < length d)
  pub short : (r ≡ Err 61) ↔ ((length d ≤ 501) × (length area < frame_size d))
  pub fine : (n : ℕ) → (r ≡ Ok n) ↔ ((length d ≤ 501) × (frame_size d ≤ length area) × (n ≡ frame_size d))
  pub only : (x : ℕ) → r ≡ Err x → (x ≡ 64) ⊎ (x ≡ 61)
  pub kept : (x : ℕ) → r ≡ Err x → later ≡ area
  pub past : (n : ℕ) → r ≡ Ok n → (length later ≡ length area) × (drop n later ≡ drop n area)

abbrev pub FrameWriterNumbers : Type 0
FrameWriterNumbers = (kind to from : ℕ) (d area : List ℕ) (r : Written) (later : List ℕ) → Writes kind to from d area r later → FrameNumbered d area r later

-- the head of a frame, octet by octet: type, destination, source, and the length of its data, high octet first
pub record HeadIs (kind to from : ℕ) (d h : List ℕ) : Type 0 where
  pub five : length h ≡ 5
  pub type : oct h 0 ≡ kind
  pub destination : oct h 1 ≡ to
  pub source : oct h 2 ≡ from
  pub size : oct h 3 * 256 + oct h 4 ≡ length d

-- What was written, behind a trunk that leaves no frame open and in front of anything, is read as a good frame with that head and these data, which ends at its
-- last octet.
abbrev pub FramesReadBack : Type 0
FramesReadBack = (kind to from : ℕ) (d area : List ℕ) (n : ℕ) (later : List ℕ) → Writes kind to from d area (Ok n) later
    → (r : Receiver) → Sound r → (front rest : List Event)
    → (let es = front ++ (came (take n later) ++ rest) in
    let before = came (held_of r) ++ front in
    Free before → Bytes (came (held_of r) ++ es) → (q : ℕ) → length before + n ≡ q + 1
    → (h : List ℕ) × HeadIs kind to from d h × (ended q (read_from r es) ≡ some (good h d)))

-- Where a good frame was read, its octets stand on the trunk, up to that place, as the writer writes them for its head and data in an area that is long enough.
abbrev pub FramesWriteBack : Type 0
FramesWriteBack = (r : Receiver) → Sound r → (es : List Event) → Bytes (came (held_of r) ++ es) → (q : ℕ) (h d : List ℕ) → ended q (read_from r es) ≡ some (good h d)
    → (area : List ℕ) (a : Written) (later : List ℕ) → frame_size d ≤ length area → Writes (oct h 0) (oct h 1) (oct h 2) d area a later
    → (a ≡ Ok (frame_size d)) × HeadIs (oct h 0) (oct h 1) (oct h 2) d h
    × ((front rest : List Event) × (came (held_of r) ++ es ≡ front ++ (came (take (frame_size d) later) ++ rest)) × (length front + frame_size d ≡ q + 1))
