-- What feeding does behind its judgement, over the state area where it stands: what its functions are lent, and what a good frame leaves.
use Rattle.std.specs.Prelude.{ℕ, ◌≤◌, ◌≡◌, ◌⊎◌, List, length, take, drop}
use Rattle.frames.specs.Step.{length_of}
use Rattle.rebuild.specs.View.{view}
use Rattle.rebuild.specs.declared.Slots.{Slots}
use Rattle.reports.specs.Layout.{report_size}
use Rattle.collector.specs.Heard.{heard_of}
use Rattle.collector.specs.Frame.{content_of}
use Rattle.collector.specs.Frame.Content.{message}
use Rattle.collector.specs.Acting.{acting, Acted, Lent, Segmented}
use Rattle.collector.specs.declared.heard.Told.{Told}
use Rattle.state.specs.Link.{link_of}
use Rattle.state.specs.Edition.{edition_of}
use Rattle.state.specs.Layout.{state_size, link_part, store_part, edition_at}
use Rattle.state.specs.Calls.{state_at, judge_of, LaysSlots}

-- areas of their sizes, and a state that 59 passes
pub record Judged (state report area : List ℕ) : Type 0 where
  pub line : length report ≡ report_size
  pub sized : length area ≡ 65536
  pub fair : judge_of state ≡ 0

-- the head of the frame that stands in a state area
abbrev pub head_of : List ℕ → List ℕ
head_of o = (link_of (link_part o)).head

-- and its data
abbrev pub data_of : List ℕ → List ℕ
data_of o = take (length_of (head_of o)) (store_part o)

-- head and data of a frame fit there, beside slots that 59 passes
pub record Framed (o report area : List ℕ) : Type 0 where
  pub long : length o ≡ state_size
  pub fits : length_of (head_of o) ≤ 501
  pub lent : Lent report (state_at o).slots area

-- what it does: its report, the message area, and the slots that it leaves; they are laid over those that were there, or are those
pub record FrameActs (o area o' report' area' : List ℕ) : Type 0 where
  pub slots : Slots
  pub acted : (let w = heard_of (edition_of (edition_at o)) (head_of o) in
      Acted (acting w (content_of w (data_of o)) (view (state_at o).slots) area) slots report' area')
  pub after : ((slots ≡ (state_at o).slots) × (o' ≡ o)) ⊎ ((r : ℕ) × LaysSlots slots o r o')

-- ---- the segment that such a frame carries: t is what hearing it told, and its APDU is in the data that stand there
pub record Heeded (o report area : List ℕ) (t : Told) : Type 0 where
  pub framed : Framed o report area
  pub inside : t.at ≤ length_of (head_of o)
  pub segmented : Segmented t.parts (drop t.at (data_of o))

-- what it does: its report, the message area, and the slots that it leaves, laid over those that were there
pub record SegmentActs (o area : List ℕ) (t : Told) (o' report' area' : List ℕ) : Type 0 where
  pub slots : Slots
  pub acted : (let w = heard_of (edition_of (edition_at o)) (head_of o) in
      Acted (acting w (message t.route t.parts (drop t.at (data_of o))) (view (state_at o).slots) area) slots report' area')
  pub number : ℕ
  pub laid : LaysSlots slots o number o'
