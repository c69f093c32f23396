-- The receiver that a state area's octets hold, and what eating a piece there promises, stage by stage: hunting and preamble, header, data.
use Rattle.std.specs.Prelude.{ℕ, ◌+◌, ◌≤◌, ◌<◌, ◌≡◌, true, List, length, drop}
use Rattle.octets.specs.Reading.{oct, be16}
use Rattle.frames.specs.declared.Outcome.{Outcome}
use Rattle.frames.specs.declared.Outcome.TheVariants.{Quiet}
use Rattle.frames.specs.declared.Receiver.{Receiver}
use Rattle.frames.specs.Answers.{Fed}
use Rattle.frames.specs.Step as Frames
use Rattle.frames.specs.Step.{step_of, reports_of, sound_of, fed_at, feed_from, feed_of}
use Rattle.feeding.specs.declared.Ate.{Ate}
use Rattle.state.specs.Link.{link_good, link_of}
use Rattle.state.specs.Layout.{edition_place, state_size, link_part, store_part}

-- the receiver that the octets hold
abbrev pub receiver_at : List ℕ → Receiver
receiver_at o = Frames.over (link_of (link_part o)) (store_part o)

-- the octets of a phase (0 hunting, 1 preamble, 2 header, 3 data), of its count, and of the length that the head gives
abbrev pub phase_octet : List ℕ → ℕ
phase_octet o = oct o 0

abbrev pub got_at : List ℕ → ℕ
got_at o = be16 o 1

abbrev pub length_at : List ℕ → ℕ
length_at o = be16 o 6

-- an area in which a piece can be eaten: of a state's size, its link a link that 59 passes
pub record Ready (o : List ℕ) : Type 0 where
  pub long : length o ≡ state_size
  pub good : link_good (link_part o) ≡ true
  pub sound : sound_of (receiver_at o) ≡ true

-- what a stage leaves: such an area again, and what stands behind the receiver as it was
pub record Leaves (o o' : List ℕ) : Type 0 where
  pub ready : Ready o'
  pub behind : drop edition_place o' ≡ drop edition_place o

-- what eating the piece from a place on comes to
abbrev pub rest : List ℕ → List ℕ → ℕ → Fed
rest piece o i = feed_from i (receiver_at o) (drop i piece)

-- the same where it has ended: the octets eaten, and what the last of them ended
abbrev pub ended : Ate → List ℕ → Fed
ended r o = fed_at r.eaten r.outcome (receiver_at o)

-- ---- a stage that ends nothing: the piece is eaten to a later place
pub record Onward (o piece : List ℕ) (from to : ℕ) (o' : List ℕ) : Type 0 where
  pub on : rest piece o' to ≡ rest piece o from
  pub within : to ≤ length piece
  pub leaves : Leaves o o'

-- one octet is the receiver's step
pub record Steps (o : List ℕ) (b : ℕ) (r : Outcome) (o' : List ℕ) : Type 0 where
  pub step : record { outcome = r; receiver = receiver_at o' } ≡ step_of (receiver_at o) b
  pub leaves : Leaves o o'

-- hunting and preamble: through the octet that leads to the header, else all of the piece
pub record Sought (o piece : List ℕ) (to : ℕ) (o' : List ℕ) : Type 0 where
  pub onward : Onward o piece 0 to o'
  pub early : phase_octet o' < 3
  pub all : (phase_octet o' ≡ 2 → ⊥) → to ≡ length piece

-- the header's five octets, as far as they are there
pub record HeadLaid (o piece : List ℕ) (from to : ℕ) (o' : List ℕ) : Type 0 where
  pub onward : Onward o piece from to o'
  pub phase : phase_octet o' ≡ 2
  pub whole : (to ≡ length piece → ⊥) → got_at o' ≡ 5

-- the header's check octet: data follow, or it is reported
pub record HeadEnds (o : List ℕ) (b : ℕ) (r : Outcome) (o' : List ℕ) : Type 0 where
  pub steps : Steps o b r o'
  pub on : phase_octet o' ≡ 3 → r ≡ Quiet
  pub ends : (phase_octet o' ≡ 3 → ⊥) → reports_of r ≡ true

-- what comes before the data: to where they begin, else to the piece's end or a report
pub record Fronts (o piece : List ℕ) (from : ℕ) (r : Ate) (o' : List ℕ) : Type 0 where
  pub on : phase_octet o' ≡ 3 → rest piece o' r.eaten ≡ rest piece o from
  pub ends : (phase_octet o' ≡ 3 → ⊥) → ended r o' ≡ rest piece o from
  pub within : r.eaten ≤ length piece
  pub leaves : Leaves o o'

-- the data octets that are there and wanted
pub record DataLaid (o piece : List ℕ) (from to : ℕ) (o' : List ℕ) : Type 0 where
  pub onward : Onward o piece from to o'
  pub phase : phase_octet o' ≡ 3
  pub whole : (to ≡ length piece → ⊥) → length_at o' ≤ got_at o'

-- the first check octet, if it is there
pub record FirstLaid (o piece : List ℕ) (from to : ℕ) (o' : List ℕ) : Type 0 where
  pub onward : Onward o piece from to o'
  pub phase : phase_octet o' ≡ 3
  pub whole : (to ≡ length piece → ⊥) → got_at o' ≡ length_at o' + 1

-- the second check octet is reported
pub record DataEnds (o : List ℕ) (b : ℕ) (r : Outcome) (o' : List ℕ) : Type 0 where
  pub steps : Steps o b r o'
  pub ends : reports_of r ≡ true

-- the data and their check octets: to the piece's end, or to the report
pub record Ends (o piece : List ℕ) (from : ℕ) (r : Ate) (o' : List ℕ) : Type 0 where
  pub ends : ended r o' ≡ rest piece o from
  pub leaves : Leaves o o'

-- ---- all of it: what the receiver's own call answers of the receiver that stands there
pub record EatsAt (o piece : List ℕ) (r : Ate) (o' : List ℕ) : Type 0 where
  pub fed : ended r o' ≡ feed_of (receiver_at o) piece
  pub leaves : Leaves o o'
