use mathlib.Core.Path.{◌∙◌}
use Rattle.hitchbarley.proofs.Fed.{frame_alone, told_whole, told_part, told_acts}
use Rattle.hitchbarley.proofs.trunk_calls.good_frame.Goals as goal

pub segment-requires : goal.segment-requires
segment-requires c = told_part _ _ _ c.requires c.head_at-head.ensures (c.from-end.ensures ∙ c.length_of.ensures) c.edition_of-edition.ensures c.hear.ensures c.in-Some.is

pub returns-in-Some : goal.returns-in-Some
returns-in-Some c =
    told_acts _ _ _ c.requires c.head_at-head.ensures (c.from-end.ensures ∙ c.length_of.ensures) c.edition_of-edition.ensures c.hear.ensures c.in-Some.is c.segment.ensures

pub returns-in_default : goal.returns-in_default
returns-in_default c = told_whole _ _ _ c.requires c.head_at-head.ensures (c.from-end.ensures ∙ c.length_of.ensures) c.edition_of-edition.ensures c.hear.ensures c.in_default.is

pub returns-then-not-carries : goal.returns-then-not-carries
returns-then-not-carries c = frame_alone _ _ _ c.requires c.head_at-head.ensures (c.from-end.ensures ∙ c.length_of.ensures) c.put_other.ensures
